-- The streams of three small documents, computed from their parts.
use Rattle.std.proofs.Common.{◌≡◌, ℕ, List, [], ◌∷◌, ◌++◌, length, refl, ap, ◌∙◌}
use Rattle.std.specs.Prelude.{codes}
use Rattle.acl_model.specs.StreamBits.{bits_of, bytes_of, first_bytes, number_after}
use Rattle.acl_model.specs.Width.{first_from, least_width}
use Rattle.acl_model.specs.Dictionary.{dictionary, dictionary_section, start_names, item_start_names, with_name, with_names}
use Rattle.acl_model.specs.Stream.{Part, Branch, text_part, element_part, size, numbers_with, numbers_in, head_bits, element_branch, branch_of, part_of, tree_at, tree_segments, tree_section, bytes_of_segments}
use Rattle.acl_model.specs.inside.StreamExamples.{plain_element, one_text, one_child, two_children}
use Rattle.acl_model.specs.declared.document.Doc.{Doc}
use Rattle.acl_model.specs.declared.document.Element.{Element}
use Rattle.acl_model.specs.declared.document.Item.TheVariants.{Text, Child}
use Rattle.acl_model.specs.declared.document.Item.TheOpen.{Element-F}
use Rattle.acl_model.proofs.StreamEquations.{branch_of_is, part_of-Text, part_of-Child}
use Rattle.acl_model.proofs.DictionaryLaws.{start_names_is, item_start_names-Text, item_start_names-Child}

-- the bytes of the tree with this root, for a dictionary of so many names
abbrev bytes_under : ℕ → Branch → List ℕ
bytes_under names root = bytes_of_segments (tree_at names root (least_width (λ w. size (tree_at names root w))))

-- an element without attributes, by its parts
abbrev parted : List ℕ → List Part → Element-F Part Branch
parted name parts = record { name = name; attributes = []; items = parts }

-- the tree of a document, where its dictionary is known
tree_section_is : (d : Doc) (names : List (List ℕ)) → dictionary d ≡ names → tree_section d ≡ bytes_under (length names) (branch_of names d.root)
unfolding tree_segments
tree_section_is d names known = ap (λ ns. bytes_under (length ns) (branch_of ns d.root)) known

-- an element without element children, with one text or with none
leaf_branch : (names : List (List ℕ)) (name bytes : List ℕ) → branch_of names (plain_element name (Text bytes ∷ [])) ≡ element_branch names (parted name (text_part bytes ∷ []))
leaf_branch names name bytes = branch_of_is names (plain_element name (Text bytes ∷ [])) ∙ ap (λ p. element_branch names (parted name (p ∷ []))) (part_of-Text names bytes)

empty_branch : (names : List (List ℕ)) (name : List ℕ) → branch_of names (plain_element name []) ≡ element_branch names (parted name [])
empty_branch names name = branch_of_is names (plain_element name [])

-- the names of such elements
leaf_names : (name bytes : List ℕ) → start_names (plain_element name (Text bytes ∷ [])) ≡ name ∷ []
leaf_names name bytes = start_names_is (plain_element name (Text bytes ∷ [])) ∙ ap (λ ns. name ∷ (ns ++ [])) (item_start_names-Text bytes)

empty_names : (name : List ℕ) → start_names (plain_element name []) ≡ name ∷ []
empty_names name = start_names_is (plain_element name [])

child_names : (name : List ℕ) → item_start_names (Child (plain_element name [])) ≡ name ∷ []
child_names name = item_start_names-Child (plain_element name []) ∙ empty_names name

-- ---- one text

one_text-names : dictionary one_text ≡ codes "a" ∷ []
unfolding with_name
one_text-names = ap (with_names []) (leaf_names (codes "a") (codes "hi"))

text_row : bytes_under 1 (element_branch (codes "a" ∷ []) (parted (codes "a") (text_part (codes "hi") ∷ [])))
    ≡ 0xA0 ∷ 0 ∷ 0 ∷ 0 ∷ 0 ∷ 0 ∷ 2 ∷ 0x68 ∷ 0x69 ∷ []
unfolding least_width first_from size head_bits numbers_in numbers_with bits_of bytes_of first_bytes number_after
text_row = refl

pub one_text-tree : tree_section one_text ≡ 0xA0 ∷ 0 ∷ 0 ∷ 0 ∷ 0 ∷ 0 ∷ 2 ∷ 0x68 ∷ 0x69 ∷ []
one_text-tree = tree_section_is one_text (codes "a" ∷ []) one_text-names ∙ ap (bytes_under 1) (leaf_branch (codes "a" ∷ []) (codes "a") (codes "hi")) ∙ text_row

pub one_text-section : dictionary_section (dictionary one_text) ≡ 0 ∷ 1 ∷ 1 ∷ 0x61 ∷ []
one_text-section = ap dictionary_section one_text-names

-- ---- one child

one_child-names : dictionary one_child ≡ codes "a" ∷ codes "b" ∷ []
unfolding with_name
one_child-names = ap (with_names []) (start_names_is one_child.root ∙ ap (λ ns. codes "a" ∷ (ns ++ [])) (child_names (codes "b")))

child_row : bytes_under 2 (element_branch (codes "a" ∷ codes "b" ∷ []) (parted (codes "a") (element_part (element_branch (codes "a" ∷ codes "b" ∷ []) (parted (codes "b") [])) ∷ [])))
    ≡ 0xAD ∷ 0 ∷ 0 ∷ 0x90 ∷ 0 ∷ 0 ∷ []
unfolding least_width first_from size head_bits numbers_in numbers_with bits_of bytes_of first_bytes number_after
child_row = refl

pub one_child-tree : tree_section one_child ≡ 0xAD ∷ 0 ∷ 0 ∷ 0x90 ∷ 0 ∷ 0 ∷ []
one_child-tree =
    let names : List (List ℕ) = codes "a" ∷ codes "b" ∷ [] in
    tree_section_is one_child names one_child-names
    ∙ ap (bytes_under 2) (branch_of_is names one_child.root
    ∙ ap (λ p. element_branch names (parted (codes "a") (p ∷ []))) (part_of-Child names (plain_element (codes "b") []) ∙ ap element_part (empty_branch names (codes "b"))))
    ∙ child_row

pub one_child-section : dictionary_section (dictionary one_child) ≡ 0 ∷ 2 ∷ 1 ∷ 0x61 ∷ 1 ∷ 0x62 ∷ []
one_child-section = ap dictionary_section one_child-names

-- ---- two children and an attribute

two_children-names : dictionary two_children ≡ codes "a" ∷ codes "b" ∷ codes "c" ∷ []
unfolding with_name
two_children-names = ap (with_names []) (start_names_is two_children.root
    ∙ ap (λ ns. codes "a" ∷ (ns ++ (item_start_names (Child (plain_element (codes "c") [])) ++ []))) (item_start_names-Child (plain_element (codes "b") (Text (codes "1") ∷ [])) ∙ leaf_names (codes "b") (codes "1"))
    ∙ ap (λ ns. codes "a" ∷ codes "b" ∷ (ns ++ [])) (child_names (codes "c")))

-- the root of the third document, by its parts
abbrev root_of_two : List (List ℕ) → Part → Part → Branch
root_of_two names p q = element_branch names (record { name = codes "a"; attributes = codes "Id CDATA x" ∷ []; items = p ∷ q ∷ [] })

children_row : bytes_under 3 (root_of_two (codes "a" ∷ codes "b" ∷ codes "c" ∷ [])
    (element_part (element_branch (codes "a" ∷ codes "b" ∷ codes "c" ∷ []) (parted (codes "b") (text_part (codes "1") ∷ []))))
    (element_part (element_branch (codes "a" ∷ codes "b" ∷ codes "c" ∷ []) (parted (codes "c") []))))
    ≡ 0x97 ∷ 0xB0 ∷ 0 ∷ 1 ∷ 0 ∷ 0 ∷ 0 ∷ 10 ∷ 0x49 ∷ 0x64 ∷ 0x20 ∷ 0x43 ∷ 0x44 ∷ 0x41 ∷ 0x54 ∷ 0x41 ∷ 0x20 ∷ 0x78
    ∷ 0x87 ∷ 0 ∷ 0 ∷ 0 ∷ 0 ∷ 0 ∷ 1 ∷ 0x31 ∷ 0xC2 ∷ 0 ∷ 0 ∷ []
unfolding least_width first_from size head_bits numbers_in numbers_with bits_of bytes_of first_bytes number_after
children_row = refl

pub two_children-tree : tree_section two_children
    ≡ 0x97 ∷ 0xB0 ∷ 0 ∷ 1 ∷ 0 ∷ 0 ∷ 0 ∷ 10 ∷ 0x49 ∷ 0x64 ∷ 0x20 ∷ 0x43 ∷ 0x44 ∷ 0x41 ∷ 0x54 ∷ 0x41 ∷ 0x20 ∷ 0x78
    ∷ 0x87 ∷ 0 ∷ 0 ∷ 0 ∷ 0 ∷ 0 ∷ 1 ∷ 0x31 ∷ 0xC2 ∷ 0 ∷ 0 ∷ []
two_children-tree =
    let names : List (List ℕ) = codes "a" ∷ codes "b" ∷ codes "c" ∷ [] in
    let b : Element = plain_element (codes "b") (Text (codes "1") ∷ []) in
    let c : Element = plain_element (codes "c") [] in
    tree_section_is two_children names two_children-names
    ∙ ap (bytes_under 3) (branch_of_is names two_children.root
    ∙ ap (λ p. root_of_two names p (part_of names (Child c))) (part_of-Child names b ∙ ap element_part (leaf_branch names (codes "b") (codes "1")))
    ∙ ap (root_of_two names (element_part (element_branch names (parted (codes "b") (text_part (codes "1") ∷ []))))) (part_of-Child names c ∙ ap element_part (empty_branch names (codes "c"))))
    ∙ children_row

pub two_children-section : dictionary_section (dictionary two_children) ≡ 0 ∷ 3 ∷ 1 ∷ 0x61 ∷ 1 ∷ 0x62 ∷ 1 ∷ 0x63 ∷ []
two_children-section = ap dictionary_section two_children-names
