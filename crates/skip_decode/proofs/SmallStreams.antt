-- The events of three small documents, computed from their streams.
use Rattle.std.proofs.Common.{◌≡◌, ℕ, ◌+◌, List, [], ◌∷◌, ◌++◌, length, max, refl, ap, ◌∙◌}
use Rattle.std.specs.Prelude.{codes}
use Rattle.acl_bits.specs.FilledBits.{bits_of_bytes, number_after, bits_of}
use Rattle.acl_bits.specs.Row.{row_of, is_member}
use Rattle.acl_model.specs.Dictionary.{dictionary, dictionary_section, start_names, item_start_names, with_name, with_names}
use Rattle.acl_model.specs.Document.{height, height_of_item}
use Rattle.acl_model.specs.Stream.{tree_section, filled_fragments}
use Rattle.acl_model.specs.Width.{least_width, first_from}
use Rattle.acl_model.specs.inside.StreamExamples.{plain_element, one_text, one_child, two_children}
use Rattle.acl_model.specs.declared.document.Doc.{Doc}
use Rattle.acl_model.specs.declared.document.Element.{Element}
use Rattle.acl_model.specs.declared.document.Item.TheVariants as item
use Rattle.acl_model.proofs.DictionaryLaws.{start_names_is, item_start_names-Text, item_start_names-Child}
use Rattle.acl_model.proofs.FormEquations.{height_is, height_of_item-Text, height_of_item-Child}
use Rattle.acl_model.proofs.StreamRows.{one_text-tree, one_text-section, one_child-tree, one_child-section, two_children-tree, two_children-section}
use Rattle.acl_walk.specs.declared.event.Event.{Event}
use Rattle.skip_decode.specs.Positions.{Numbers, first_position}
use Rattle.skip_decode.specs.StreamHeads.{take_within, inner_bit, inner_at, whole_head, head_at}
use Rattle.skip_decode.specs.StreamSteps.{length_at, text_step, text_begun, attribute_step, attributes_step, count_step, begun_with, element_begun, checked_finish, item_step, root_step, step_at}
use Rattle.skip_decode.specs.StreamEvents.{run, events_from, stream_events}
use Rattle.skip_decode.specs.inside.SmallStreams.{one_text_events, one_child_events, two_children_events}
use Rattle.skip_decode.specs.inside.HeadReading.{take_bits, with_number, take_members, not_empty, take_below, take_head_on}

-- the events of a stream with these sections, so many names and so many levels
abbrev read_as : List ℕ → List ℕ → ℕ → ℕ → List Event
read_as section tree names deep =
    let k : Numbers = record { dictionary = length section; tree = length tree; names = names; depth = deep } in
    events_from k (filled_fragments (section ++ tree)) (first_position k)

-- The events of a document, where its sections and its height are known.
by_sections : (d : Doc) (section tree : List ℕ) (names deep : ℕ) → dictionary_section (dictionary d) ≡ section → tree_section d ≡ tree → length (dictionary d) ≡ names → height d.root ≡ deep
    → stream_events d ≡ read_as section tree names deep
by_sections d section tree names deep one two three four =
    ap (λ l. read_as l (tree_section d) (length (dictionary d)) (height d.root)) one
    ∙ ap (λ l. read_as section l (length (dictionary d)) (height d.root)) two
    ∙ ap (λ n. read_as section tree n (height d.root)) three
    ∙ ap (λ n. read_as section tree names n) four

-- ---- names and heights

-- an element without attributes, with one text
abbrev leaf : List ℕ → List ℕ → Element
leaf name bytes = plain_element name (item.Text bytes ∷ [])

-- an element without attributes or items
abbrev empty : List ℕ → Element
empty name = plain_element name []

leaf_names : (name bytes : List ℕ) → start_names (leaf name bytes) ≡ name ∷ []
leaf_names name bytes = start_names_is (leaf name bytes) ∙ ap (λ ns. name ∷ (ns ++ [])) (item_start_names-Text bytes)

leaf_height : (name bytes : List ℕ) → height (leaf name bytes) ≡ 1
leaf_height name bytes = height_is (leaf name bytes) ∙ ap (λ n. max n 0 + 1) (height_of_item-Text bytes)

empty_names : (name : List ℕ) → item_start_names (item.Child (empty name)) ≡ name ∷ []
empty_names name = item_start_names-Child (empty name) ∙ start_names_is (empty name)

empty_height : (name : List ℕ) → height_of_item (item.Child (empty name)) ≡ 1
empty_height name = height_of_item-Child (empty name) ∙ height_is (empty name)

-- ---- one text

text_count : length (dictionary one_text) ≡ 1
unfolding with_name
text_count = ap (λ ns. length (with_names [] ns)) (leaf_names (codes "a") (codes "hi"))

text_row : read_as (0 ∷ 1 ∷ 1 ∷ 0x61 ∷ []) (0xA0 ∷ 0 ∷ 0 ∷ 0 ∷ 0 ∷ 0 ∷ 2 ∷ 0x68 ∷ 0x69 ∷ []) 1 1 ≡ one_text_events
unfolding bits_of_bytes number_after bits_of row_of is_member least_width first_from take_within inner_bit inner_at whole_head head_at length_at text_step text_begun attribute_step attributes_step count_step begun_with element_begun checked_finish item_step root_step step_at run take_bits with_number take_members not_empty take_below take_head_on
text_row = refl

pub one_text-events : stream_events one_text ≡ one_text_events
one_text-events = by_sections one_text _ _ 1 1 one_text-section one_text-tree text_count (leaf_height (codes "a") (codes "hi")) ∙ text_row

-- ---- one child

child_count : length (dictionary one_child) ≡ 2
unfolding with_name
child_count = ap (λ ns. length (with_names [] ns)) (start_names_is one_child.root ∙ ap (λ ns. codes "a" ∷ (ns ++ [])) (empty_names (codes "b")))

child_height : height one_child.root ≡ 2
child_height = height_is one_child.root ∙ ap (λ n. max n 0 + 1) (empty_height (codes "b"))

child_row : read_as (0 ∷ 2 ∷ 1 ∷ 0x61 ∷ 1 ∷ 0x62 ∷ []) (0xAD ∷ 0 ∷ 0 ∷ 0x90 ∷ 0 ∷ 0 ∷ []) 2 2 ≡ one_child_events
unfolding bits_of_bytes number_after bits_of row_of is_member least_width first_from take_within inner_bit inner_at whole_head head_at length_at text_step text_begun attribute_step attributes_step count_step begun_with element_begun checked_finish item_step root_step step_at run take_bits with_number take_members not_empty take_below take_head_on
child_row = refl

pub one_child-events : stream_events one_child ≡ one_child_events
one_child-events = by_sections one_child _ _ 2 2 one_child-section one_child-tree child_count child_height ∙ child_row

-- ---- two children and an attribute

children_count : length (dictionary two_children) ≡ 3
unfolding with_name
children_count =
    ap (λ ns. length (with_names [] ns)) (start_names_is two_children.root
    ∙ ap (λ ns. codes "a" ∷ (ns ++ (item_start_names (item.Child (empty (codes "c"))) ++ []))) (item_start_names-Child (leaf (codes "b") (codes "1")) ∙ leaf_names (codes "b") (codes "1"))
    ∙ ap (λ ns. codes "a" ∷ codes "b" ∷ (ns ++ [])) (empty_names (codes "c")))

children_height : height two_children.root ≡ 2
children_height =
    height_is two_children.root
    ∙ ap (λ n. max n (max (height_of_item (item.Child (empty (codes "c")))) 0) + 1) (height_of_item-Child (leaf (codes "b") (codes "1")) ∙ leaf_height (codes "b") (codes "1"))
    ∙ ap (λ n. max 1 (max n 0) + 1) (empty_height (codes "c"))

children_row : read_as (0 ∷ 3 ∷ 1 ∷ 0x61 ∷ 1 ∷ 0x62 ∷ 1 ∷ 0x63 ∷ [])
    (0x97 ∷ 0xB0 ∷ 0 ∷ 1 ∷ 0 ∷ 0 ∷ 0 ∷ 10 ∷ 0x49 ∷ 0x64 ∷ 0x20 ∷ 0x43 ∷ 0x44 ∷ 0x41 ∷ 0x54 ∷ 0x41 ∷ 0x20 ∷ 0x78
    ∷ 0x87 ∷ 0 ∷ 0 ∷ 0 ∷ 0 ∷ 0 ∷ 1 ∷ 0x31 ∷ 0xC2 ∷ 0 ∷ 0 ∷ []) 3 2 ≡ two_children_events
unfolding bits_of_bytes number_after bits_of row_of is_member least_width first_from take_within inner_bit inner_at whole_head head_at length_at text_step text_begun attribute_step attributes_step count_step begun_with element_begun checked_finish item_step root_step step_at run take_bits with_number take_members not_empty take_below take_head_on
children_row = refl

pub two_children-events : stream_events two_children ≡ two_children_events
two_children-events = by_sections two_children _ _ 3 2 two_children-section two_children-tree children_count children_height ∙ children_row
