-- A stream of a dictionary section, a tree that is read to its end, and the fill is the stream of the document that its
-- events spell, where this document has that dictionary and depth.
use Rattle.std.proofs.Common.{◌≡◌, ℕ, ◌+◌, ◌<◌, ◌≤◌, Bool, true, ◌&&◌, nat_le, Some, List, [], ◌∷◌, ◌++◌, length, take, drop, refl, ap, sym, ◌∙◌, arith, All}
use Rattle.std.specs.Cmp.{first_so, second_so}
use Rattle.std.specs.List.{list_all}
use Rattle.std.proofs.Math.Seq.{take-add}
use Rattle.std.proofs.lemmas.Bool.Decides.{nat_tests}
use Rattle.std.proofs.lemmas.List.{length-take-le}
use Rattle.acl_model.specs.Document.{is_document, height}
use Rattle.acl_model.specs.Dictionary.{dictionary, dictionary_section, is_dictionary, are_distinct}
use Rattle.acl_model.specs.Names.{is_name}
use Rattle.acl_model.specs.Stream.{bytes_of_segments, tree_segments, tree_section, filled_fragments, depth}
use Rattle.acl_model.specs.declared.document.Doc.{Doc}
use Rattle.acl_walk.specs.Spelling.{Spells, a_document}
use Rattle.acl_walk.specs.declared.event.Event.{Event}
use Rattle.acl_walk.specs.declared.event.Event.TheVariants.{End}
use Rattle.merkle_chunks.specs.declared.header.Header.{Header}
use Rattle.skip_encode.specs.PlainStream.{tree_under}
use Rattle.skip_decode.specs.FileWalk.{numbers_in}
use Rattle.skip_decode.specs.StreamEvents.{IsReadToEnd}
use Rattle.skip_decode.specs.StreamOf.{IsStreamOf}
use Rattle.skip_decode.proofs.ReadPieces.{length-bytes_at}
use Rattle.skip_decode.proofs.ReadRoots.{tree_read}

-- What a dictionary's names are.
record Names (names : List (List ℕ)) : Type 0 where
  pub few : length names ≤ 256
  pub formed : list_all is_name names ≡ true
  pub new : are_distinct names ≡ true

names_of : (names : List (List ℕ)) → is_dictionary names ≡ true → Names names
names_of names is =
    let some : Bool = nat_le 1 (length names) in
    let within : Bool = nat_le (length names) 256 in
    let formed : Bool = list_all is_name names in
    let three = first_so (some && within && formed) (are_distinct names) is in
    let two = first_so (some && within) formed three in
    let test = second_so some within two in
    record {
      few = grind (arith, nat_tests, test);
      formed = second_so (some && within) formed three;
      new = second_so (some && within && formed) (are_distinct names) is;
    }

-- The tree section of a document has the bytes of its root under its dictionary.
tree_section-under : (d : Doc) → tree_section d ≡ bytes_of_segments (tree_under (dictionary d) d.root)
unfolding tree_segments tree_under
tree_section-under d = refl

module _ (header : Header) (names : List (List ℕ)) (stream : List ℕ)
    (section : take header.dictionary stream ≡ dictionary_section names)
    (whole : header.dictionary + header.tree ≤ length stream) (small : header.dictionary + header.tree ≤ 33554432)
    (filled : stream ≡ filled_fragments (take (header.dictionary + header.tree) stream))
    (few : length names ≤ 256) (named : length names ≡ header.tags) where
  -- The bytes and the header are those of a document with this dictionary, tree and depth.
  stream_made : (d : Doc) → bytes_of_segments (tree_under names d.root) ≡ take header.tree (drop header.dictionary stream)
      → is_document d ≡ true → dictionary d ≡ names → depth d ≡ header.depth → IsStreamOf d stream header
  stream_made d bytes good own tall =
      let tree : tree_section d ≡ take header.tree (drop header.dictionary stream) =
      tree_section-under d ∙ ap (λ l. bytes_of_segments (tree_under l d.root)) own ∙ bytes in
      let front : dictionary_section (dictionary d) ≡ take header.dictionary stream = ap dictionary_section own ∙ sym section in
      let tree_long : length (tree_section d) ≡ header.tree =
      ap (λ (l : List ℕ). length l) tree ∙ length-bytes_at stream header.dictionary header.tree whole in
      let front_long : length (dictionary_section (dictionary d)) ≡ header.dictionary =
      ap (λ (l : List ℕ). length l) front ∙ length-take-le header.dictionary stream (omega (arith, whole)) in
      let names_long : length (dictionary d) ≡ length names = ap (λ (l : List (List ℕ)). length l) own in
      let one : nat_le (length (dictionary d)) 256 ≡ true = grind (arith, nat_tests, names_long, few) in
      let two : nat_le (length (dictionary_section (dictionary d)) + length (tree_section d)) 33554432 ≡ true =
      grind (arith, nat_tests, front_long, tree_long, small) in
      record {
        document = good;
        within = rw (one, two) refl;
        bytes = filled ∙ ap filled_fragments (take-add header.dictionary header.tree stream
            ∙ ap (λ l. l ++ take header.tree (drop header.dictionary stream)) (sym front)
            ∙ ap (λ l. dictionary_section (dictionary d) ++ l) (sym tree));
        tree = sym tree_long;
        tags = sym named ∙ sym names_long;
        dictionary = sym front_long;
        depth = sym tall;
      }

-- The document that the events spell. It is no deeper than the header says. Where it is valid and has the dictionary
-- and the depth, its stream and header are these.
pub record OneSpelling (header : Header) (names : List (List ℕ)) (stream : List ℕ) (events : List Event) : Type 0 where
  pub document : Doc
  pub spells : Spells names (Some document) (events ++ (End ∷ []))
  pub low : height document.root ≤ header.depth
  pub made : is_document document ≡ true → dictionary document ≡ names → depth document ≡ header.depth
      → IsStreamOf document stream header

pub one_spelling : (header : Header) (names : List (List ℕ)) (stream : List ℕ) (events : List Event)
    → is_dictionary names ≡ true → length names ≡ header.tags → All (λ b. b < 256) stream
    → header.dictionary + header.tree ≤ length stream → header.dictionary + header.tree ≤ 33554432
    → take header.dictionary stream ≡ dictionary_section names
    → stream ≡ filled_fragments (take (header.dictionary + header.tree) stream)
    → IsReadToEnd (numbers_in header) stream events → OneSpelling header names stream events
one_spelling header names stream events is named fit whole small section filled ends =
    let good = names_of names is in
    let read = tree_read (numbers_in header) stream fit names good.few good.formed good.new named whole
    (omega (arith, small)) events ends in
    let d : Doc = record { root = read.root } in record {
      document = d;
      spells = a_document names d events read.spells;
      low = read.low;
      made = stream_made header names stream section whole small filled good.few named d read.bytes;
    }

-- the same, as the law says it
pub stream_read : (header : Header) (names : List (List ℕ)) (stream : List ℕ) (events : List Event)
    → is_dictionary names ≡ true → length names ≡ header.tags → All (λ b. b < 256) stream
    → header.dictionary + header.tree ≤ length stream → header.dictionary + header.tree ≤ 33554432
    → take header.dictionary stream ≡ dictionary_section names
    → stream ≡ filled_fragments (take (header.dictionary + header.tree) stream)
    → IsReadToEnd (numbers_in header) stream events
    → (d : Doc) × Spells names (Some d) (events ++ (End ∷ []))
    × (is_document d ≡ true → dictionary d ≡ names → depth d ≡ header.depth → IsStreamOf d stream header)
stream_read header names stream events is named fit whole small section filled ends =
    let one = one_spelling header names stream events is named fit whole small section filled ends in
    (one.document, one.spells, one.made)
