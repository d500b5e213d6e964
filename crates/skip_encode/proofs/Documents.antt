-- A document's measures and stream follow from those of its names, dictionary section and tree.
use Rattle.std.proofs.Common.{◌≡◌, ℕ, ◌+◌, ◌-◌, ◌*◌, ◌/◌, ◌≤◌, nat_le, ◌&&◌, Bool, true, List, [], ◌∷◌, ◌++◌, length, length-append, append_assoc, take, replicate, map, refl, ap, sym, ◌∙◌, arith}
use Rattle.std.specs.List.{flat_map, range_with_len}
use Rattle.std.specs.Cmp.{first_so, second_so}
use Rattle.std.proofs.lemmas.List.{append-nil}
use Rattle.std.proofs.lemmas.Bool.Decides.{nat_tests}
use Rattle.acl_model.specs.Document.{height}
use Rattle.acl_model.specs.Width.{binary_length}
use Rattle.acl_model.specs.Dictionary.{dictionary, dictionary_section, item_start_names, with_names}
use Rattle.acl_model.specs.Stream.{size, bytes_of_segments, element_part, branch_of, part_segments, tree_segments, tree_section, filled_fragments, plain}
use Rattle.acl_model.specs.declared.document.Doc.{Doc}
use Rattle.acl_model.proofs.DictionaryLaws.{start_names_is, with_name-new, with_names-longer}
use Rattle.skip_encode.specs.declared.measured.Measured.{Measured}
use Rattle.skip_encode.specs.inside.Measured.{IsMeasured}
use Rattle.skip_encode.specs.inside.Measures.{part_measures, Fits}
use Rattle.skip_encode.specs.PlainStream.{sections_size, tree_under}
use Rattle.skip_encode.proofs.Trees.{root-fits, tree-bytes, length-bytes, filled}

-- The tree section of a document is the bytes of its tree under its dictionary.
pub tree-is : (d : Doc) → tree_section d ≡ bytes_of_segments (tree_under (dictionary d) d.root)
unfolding tree_segments tree_under
tree-is d = refl

-- A document has at least one name.
pub dictionary-some : (d : Doc) → 1 ≤ length (dictionary d)
dictionary-some d =
    let after = flat_map (λ starts. starts) (map item_start_names d.root.items) in
    let is : dictionary d ≡ with_names (d.root.name ∷ []) after =
    ap (with_names []) (start_names_is d.root) ∙ ap (λ ns. with_names ns after) (with_name-new [] d.root.name refl) in
    omega (arith, ap length is, with_names-longer (d.root.name ∷ []) after)

-- The lengths of the dictionary section and of the tree add up to `sections_size`.
pub sections-size : (d : Doc) (names : List (List ℕ)) (section : List ℕ) → names ≡ dictionary d → section ≡ dictionary_section names
    → length section + size (tree_under names d.root) ≡ sections_size d
sections-size d names section is spelled =
    ap (λ l. length l + size (tree_under names d.root)) spelled
    ∙ ap (λ ns. length (dictionary_section ns) + size (tree_under ns d.root)) is
    ∙ ap (λ n. length (dictionary_section (dictionary d)) + n) (sym (length-bytes (tree_under (dictionary d) d.root)) ∙ ap length (sym (tree-is d)))

-- Where the comparison of two numbers is true, the first is at most the second.
le_so : (a b : ℕ) → nat_le a b ≡ true → a ≤ b
le_so a b is = grind (arith, nat_tests)

-- Where two tests are true, so is their conjunction.
both-so : (a b : Bool) → a ≡ true → b ≡ true → (a && b) ≡ true
both-so a b p q = ap (λ x. x && b) p ∙ q

-- The tree under the document's own names is as long as its tree section.
under-own : (d : Doc) (names : List (List ℕ)) → names ≡ dictionary d → size (tree_under names d.root) ≡ length (tree_section d)
under-own d names is = ap (λ ns. size (tree_under ns d.root)) is ∙ sym (length-bytes (tree_under (dictionary d) d.root)) ∙ ap length (sym (tree-is d))

-- The result of the first pass measures the document, where each of its fields was computed as the first pass does.
pub measured-of : (d : Doc) (m : Measured) → m.names ≡ dictionary d → length m.names ≤ 256 → m.section ≡ dictionary_section m.names
    → m.tree ≡ size (tree_under m.names d.root) → length m.section + m.tree ≤ 33554432
    → m.dictionary ≡ length m.section → m.tags ≡ length m.names → m.depth ≡ height d.root
    → m.measures ≡ part_measures (element_part (branch_of m.names d.root)) ++ [] → IsMeasured d m
measured-of d m is few spelled tree small long tags deep measures =
    let section_is : m.section ≡ dictionary_section (dictionary d) = spelled ∙ ap dictionary_section is in
    let tree_is : m.tree ≡ length (tree_section d) = tree ∙ under-own d m.names is in
    let few_test : nat_le (length (dictionary d)) 256 ≡ true = (let count = ap length is in grind (arith, nat_tests)) in
    let small_test : nat_le (length (dictionary_section (dictionary d)) + length (tree_section d)) 33554432 ≡ true = (let long_is = ap length section_is in grind (arith, nat_tests)) in
    record {
      defined = both-so (nat_le (length (dictionary d)) 256) (nat_le (length (dictionary_section (dictionary d)) + length (tree_section d)) 33554432) few_test small_test;
      tree_length = tree_is;
      dictionary_length = long ∙ ap length section_is;
      count = tags ∙ ap length is;
      levels = deep;
      names = is;
      section = section_is;
      measures = measures ∙ append-nil (part_measures (element_part (branch_of m.names d.root))) ∙ ap (λ ns. part_measures (element_part (branch_of ns d.root))) is;
    }

-- The two sections of a measured document are within the limit.
pub sections-small : (d : Doc) (m : Measured) → IsMeasured d m → m.tree + m.dictionary ≤ 33554432
sections-small d m is =
    let within = second_so (nat_le (length (dictionary d)) 256) (nat_le (length (dictionary_section (dictionary d)) + length (tree_section d)) 33554432) is.defined in
    omega (arith, le_so (length (dictionary_section (dictionary d)) + length (tree_section d)) 33554432 within, is.tree_length, is.dictionary_length)

-- ---- the second pass

-- what writing the tree of a measured document requires
pub measured-few : (d : Doc) (m : Measured) → IsMeasured d m → length m.names ≤ 256
measured-few d m is =
    let within = first_so (nat_le (length (dictionary d)) 256) (nat_le (length (dictionary_section (dictionary d)) + length (tree_section d)) 33554432) is.defined in
    omega (arith, ap length is.names, le_so (length (dictionary d)) 256 within)

pub measured-tree : (d : Doc) (m : Measured) → IsMeasured d m → m.tree ≡ size (tree_under m.names d.root)
measured-tree d m is = is.tree_length ∙ sym (under-own d m.names is.names)

pub measured-members : (d : Doc) (m : Measured) (members : List ℕ) → IsMeasured d m → members ≡ range_with_len 0 m.tags
    → members ≡ range_with_len 0 (length m.names)
measured-members d m members is all = all ∙ ap (range_with_len 0) (is.count ∙ ap length (sym is.names))

-- Its root fits the virtual parent.
pub measured-fits : (d : Doc) (m : Measured) (members : List ℕ) (w : ℕ) → IsMeasured d m → members ≡ range_with_len 0 m.tags
    → w ≡ binary_length m.tree → Fits members w (branch_of m.names d.root)
measured-fits d m members w is all digits =
    root-fits m.names d.root members w (omega (arith, ap length is.names, dictionary-some d)) (measured-few d m is)
    (omega (arith, measured-tree d m is, sections-small d m is)) (measured-members d m members is all) (digits ∙ ap binary_length (measured-tree d m is))

-- The bytes written, which are its dictionary section, its tree and zeros, are its stream.
pub stream-written : (d : Doc) (m : Measured) (members : List ℕ) (w end : ℕ) (old begun written new : List ℕ) → IsMeasured d m
    → members ≡ range_with_len 0 m.tags → w ≡ binary_length m.tree → begun ≡ old ++ m.section
    → written ≡ begun ++ bytes_of_segments (part_segments members w (element_part (branch_of m.names d.root)))
    → end ≡ length old + 256 * ((m.tree + m.dictionary + 255) / 256)
    → new ≡ take end written ++ replicate (end - length written) 0 → new ≡ old ++ plain d
stream-written d m members w end old begun written new is all digits one two whole three =
    let small : size (tree_under m.names d.root) ≤ 33554432 = omega (arith, measured-tree d m is, sections-small d m is) in
    let tree : List ℕ = bytes_of_segments (tree_under m.names d.root) in
    let stream : List ℕ = m.section ++ tree in
    let tree_is : tree ≡ tree_section d = ap (λ ns. bytes_of_segments (tree_under ns d.root)) is.names ∙ sym (tree-is d) in
    let all_is : written ≡ old ++ stream =
    two
    ∙ ap (λ l. begun ++ l) (tree-bytes m.names d.root members w (measured-few d m is) small (measured-members d m members is all) (digits ∙ ap binary_length (measured-tree d m is)))
    ∙ ap (λ l. l ++ tree) one
    ∙ append_assoc old m.section tree in
    let long : length stream ≡ m.tree + m.dictionary =
    omega (arith, length-append m.section tree, length-bytes (tree_under m.names d.root), measured-tree d m is, ap length is.section, is.dictionary_length) in
    three
    ∙ ap (λ l. take end l ++ replicate (end - length l) 0) all_is
    ∙ filled old stream end (omega (arith, whole, long))
    ∙ ap (λ l. old ++ filled_fragments (l ++ tree)) is.section
    ∙ ap (λ l. old ++ filled_fragments (dictionary_section (dictionary d) ++ l)) tree_is
