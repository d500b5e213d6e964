-- What is known of the bytes and the header of a document.
use Rattle.std.proofs.Common.{◌≡◌, ℕ, true, List, ◌+◌, ◌-◌, ◌%◌, ◌≤◌, ◌++◌, length, take, sym, ap, ◌∙◌, arith, append_assoc, length-append}
use Rattle.std.proofs.Math.Seq.{take-append_seam}
use Rattle.std.proofs.lemmas.List.{length-replicate}
use Rattle.acl_model.specs.Dictionary.{dictionary, dictionary_section, is_dictionary}
use Rattle.acl_model.specs.Document.{is_document}
use Rattle.acl_model.specs.Stream.{depth, has_stream, plain, tree_section}
use Rattle.acl_model.specs.declared.document.Doc.{Doc}
use Rattle.merkle_chunks.specs.declared.header.Header.{Header}
use Rattle.tag_dictionary.proofs.Readings.{one_dictionary}
use Rattle.skip_decode.specs.FileWalk.{numbers_in}
use Rattle.skip_decode.specs.Positions.{Numbers}
use Rattle.skip_decode.specs.StreamEvents.{numbers_of}
use Rattle.skip_decode.specs.StreamOf.{IsStreamOf}
use Rattle.skip_decode.specs.inside.Reading.{IsFormed}
use Rattle.skip_decode.proofs.Documents.{dictionary_formed, few_so, low_so, small_so, zeros}
use Rattle.skip_decode.proofs.Fills.{filled_is}

-- The dictionary section is at the start of the stream.
pub section_first : (d : Doc) → take (length (dictionary_section (dictionary d))) (plain d)
    ≡ dictionary_section (dictionary d)
section_first d =
    let section : List ℕ = dictionary_section (dictionary d) in
    ap (take (length section)) (append_assoc section (tree_section d) (zeros d))
    ∙ take-append_seam section (tree_section d ++ zeros d)

-- Names of a dictionary whose section is at the start of a document's stream are the document's.
pub names_same : (d : Doc) (names : List (List ℕ)) → is_document d ≡ true → has_stream d ≡ true
    → is_dictionary names ≡ true
    → dictionary_section names ≡ take (length (dictionary_section (dictionary d))) (plain d) → dictionary d ≡ names
names_same d names good within formed spelled =
    one_dictionary (dictionary d) names (dictionary_formed d good within) formed (sym (spelled ∙ section_first d))

module _ (d : Doc) (stream : List ℕ) (header : Header) (of : IsStreamOf d stream header) where
  section_is : take header.dictionary stream ≡ dictionary_section (dictionary d)
  section_is =
      ap (λ n. take n stream) of.dictionary ∙ ap (take (length (dictionary_section (dictionary d)))) of.bytes
      ∙ section_first d

  -- The bytes before the tree section are the section of a dictionary, the document's.
  pub section_there : (is_dictionary (dictionary d) ≡ true)
      × (dictionary_section (dictionary d) ≡ take header.dictionary stream)
  section_there = (dictionary_formed d of.document of.within, sym section_is)

  -- The numbers are those of the header.
  pub numbers_are : numbers_of d ≡ numbers_in header
  numbers_are =
      let parts : ℕ → ℕ → ℕ → ℕ → Numbers = λ section tree names depth.
      record { dictionary = section; tree = tree; names = names; depth = depth } in
      ap (λ n. parts n (length (tree_section d)) (length (dictionary d)) (depth d)) (sym of.dictionary)
      ∙ ap (λ n. parts header.dictionary n (length (dictionary d)) (depth d)) (sym of.tree)
      ∙ ap (λ n. parts header.dictionary header.tree n (depth d)) (sym of.tags)
      ∙ ap (λ n. parts header.dictionary header.tree header.tags n) (sym of.depth)

  -- Names that are read from the bytes before the tree section are the document's.
  pub names_there : (names : List (List ℕ)) → is_dictionary names ≡ true
      → dictionary_section names ≡ take header.dictionary stream → dictionary d ≡ names
  names_there names formed spelled =
      names_same d names of.document of.within formed (spelled ∙ section_is ∙ sym (section_first d))

  -- The bytes and the header have the form of those of a document.
  pub form_is : IsFormed stream header
  form_is =
      let section : List ℕ = dictionary_section (dictionary d) in
      let tree : List ℕ = tree_section d in
      let front = length-append section tree in
      let both : length (section ++ tree) ≡ header.dictionary + header.tree =
      let one = of.dictionary in
      let other = of.tree in omega (arith, front, one, other) in
      let small : length (section ++ tree) ≤ 33554432 =
      let least = small_so d of.within in omega (arith, front, least) in
      let long : length stream ≡ length (section ++ tree) + (256 - length (section ++ tree) % 256) % 256 =
      ap (λ (l : List ℕ). length l) of.bytes ∙ length-append (section ++ tree) (zeros d)
      ∙ ap (λ n. length (section ++ tree) + n) (length-replicate ((256 - length (section ++ tree) % 256) % 256) 0) in
      record {
        whole = omega (arith, long);
        few = omega (arith, long, small);
        names = let few = few_so d of.within in let is = of.tags in omega (arith, few, is);
        deep = let low = low_so d of.document in let is = of.depth in omega (arith, low, is);
        within = omega (arith, long, both);
        filled = filled_is (section ++ tree) stream (header.dictionary + header.tree) of.bytes (sym both);
      }
