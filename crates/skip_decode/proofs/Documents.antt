-- What is known of a document that has a stream, and of its tree section.
use Rattle.std.proofs.Common.{◌≡◌, ℕ, ◌+◌, ◌-◌, ◌%◌, ◌≤◌, true, nat_le, nat_lt, List, [], ◌++◌, length, replicate, map, refl, ap, sym, ◌∙◌, subst, arith}
use Rattle.std.specs.Cmp.{first_so, second_so}
use Rattle.std.specs.List.{list_all, flat_map}
use Rattle.std.proofs.lemmas.Bool.Decides.{nat_tests}
use Rattle.acl_bits.specs.Row.{row_of}
use Rattle.acl_model.specs.Width.{least_width}
use Rattle.acl_model.specs.Names.{is_name}
use Rattle.acl_model.specs.Document.{is_well_formed, height, is_document}
use Rattle.acl_model.specs.Dictionary.{has_name, with_names, start_names, item_start_names, is_dictionary, dictionary, dictionary_section}
use Rattle.acl_model.specs.Stream.{bytes_of_segments, size, Branch, element_part, part_segments, branch_of, tree_at, tree_segments, tree_section, has_stream}
use Rattle.acl_model.proofs.DictionaryLaws.{start_names_is}
use Rattle.acl_model.specs.declared.document.Doc.{Doc}
use Rattle.acl_model.specs.declared.document.Element.{Element}
use Rattle.skip_decode.proofs.Heads.{numbers_with-row}
use Rattle.skip_decode.proofs.Sizes.{part_bytes, part_grows}
use Rattle.skip_decode.proofs.Names.{with_names-has, is_dictionary-joined}
use Rattle.skip_decode.proofs.Starts.{start_names-formed, well_formed-by}

-- ---- what holds for a document that has a stream

well_formed_so : (d : Doc) → is_document d ≡ true → is_well_formed is_name d.root ≡ true
well_formed_so d good = first_so (is_well_formed is_name d.root) (nat_le (height d.root) 255) good

pub low_so : (d : Doc) → is_document d ≡ true → height d.root ≤ 255
low_so d good = let low : nat_le (height d.root) 255 ≡ true = second_so (is_well_formed is_name d.root) (nat_le (height d.root) 255) good in grind (arith, nat_tests)

pub few_so : (d : Doc) → has_stream d ≡ true → length (dictionary d) ≤ 256
few_so d within =
    let few : nat_le (length (dictionary d)) 256 ≡ true = first_so (nat_le (length (dictionary d)) 256) (nat_le (length (dictionary_section (dictionary d)) + length (tree_section d)) 33554432) within in
    grind (arith, nat_tests)

pub small_so : (d : Doc) → has_stream d ≡ true → length (dictionary_section (dictionary d)) + length (tree_section d) ≤ 33554432
small_so d within =
    let small : nat_le (length (dictionary_section (dictionary d)) + length (tree_section d)) 33554432 ≡ true = second_so (nat_le (length (dictionary d)) 256) (nat_le (length (dictionary_section (dictionary d)) + length (tree_section d)) 33554432) within in
    grind (arith, nat_tests)

-- The names of a document form a valid dictionary.
pub dictionary_formed : (d : Doc) → is_document d ≡ true → has_stream d ≡ true → is_dictionary (dictionary d) ≡ true
dictionary_formed d good within =
    let e : Element = d.root in
    let more : List (List ℕ) = flat_map (λ starts. starts) (map item_start_names e.items) in
    let formed = start_names-formed is_name e (well_formed_so d good) in
    ap (λ l. is_dictionary (with_names [] l)) (start_names_is e)
    ∙ is_dictionary-joined e.name more (ap (list_all is_name) (sym (start_names_is e)) ∙ formed)
    (subst (λ (l : List (List ℕ)). length (with_names [] l) ≤ 256) (start_names_is e) (few_so d within))

-- All names of elements in a document are in its dictionary.
pub among_so : (d : Doc) → is_document d ≡ true → is_well_formed (has_name (dictionary d)) d.root ≡ true
among_so d good = well_formed-by is_name (has_name (dictionary d)) d.root (well_formed_so d good) (with_names-has [] (start_names d.root))

-- ---- the tree section

-- the length of a root's tree, with this many names, for each width
abbrev pub lengths : ℕ → Branch → ℕ → ℕ
lengths names root w = size (tree_at names root w)

pub lengths_is : (names : ℕ) (root : Branch) (w : ℕ) → bytes_of_segments (tree_at names root w) ≡ part_bytes (row_of (λ k. nat_lt k names)) w (element_part root)
unfolding part_bytes
lengths_is names root w = ap (λ (m : List ℕ). bytes_of_segments (part_segments m w (element_part root))) (numbers_with-row (λ k. nat_lt k names))

pub lengths_grow : (names : ℕ) (root : Branch) (v w : ℕ) → v ≤ w → lengths names root v ≤ lengths names root w
unfolding size
lengths_grow names root v w more =
    let one = ap length (lengths_is names root v) in
    let other = ap length (lengths_is names root w) in
    let grows = part_grows (row_of (λ k. nat_lt k names)) (element_part root) v w more in
    omega (arith, one, other, grows)

pub tree_section_is : (d : Doc) → tree_section d ≡ bytes_of_segments (tree_at (length (dictionary d)) (branch_of (dictionary d) d.root) (least_width (lengths (length (dictionary d)) (branch_of (dictionary d) d.root))))
unfolding tree_segments
tree_section_is d = refl

-- ---- the stream

-- the zeros at the end of a document's stream
abbrev pub zeros : Doc → List ℕ
zeros d = replicate ((256 - length (dictionary_section (dictionary d) ++ tree_section d) % 256) % 256) 0
