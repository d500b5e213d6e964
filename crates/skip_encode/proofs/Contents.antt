-- An element's branch follows from its tally and its measures, and a part of a content is no larger than the content.
use Rattle.std.proofs.Common.{◌≡◌, ℕ, ◌+◌, ◌-◌, ◌<◌, ◌≤◌, nat_eq, ltb, cond, Bool, true, false, Some, None, List, [], ◌∷◌, ◌++◌, length, map, take, drop, get_or, append_assoc, append-nil, refl, ap, sym, ◌∙◌, arith}
use Rattle.std.proofs.lemmas.List.{take-append-drop, take-append-le, drop_all, drop-map, length-take, get_or-take}
use Rattle.std.proofs.lemmas.Bool.Decides.{nat_tests}
use Rattle.std.specs.Prelude.{unwrap_or}
use Rattle.std.specs.Cmp.Lexicographic.{pointwise}
use Rattle.acl_model.specs.Document.{height, height_of_item}
use Rattle.tag_dictionary.proofs.Forms.{drop-next, height_of_item-lower}
use Rattle.std.proofs.lemmas.Grind.{flat_map-append}
use Rattle.std.specs.List.{flat_map, position_or_len}
use Rattle.acl_model.specs.Width.{least_width}
use Rattle.acl_model.specs.Stream.{Segment, Part, text_part, element_part, attribute, head_end, finish, size, numbers_in, part_segments, content_at, content_width, tag_of, branch_of, part_of}
use Rattle.acl_model.specs.declared.document.Item.{Item}
use Rattle.acl_model.specs.declared.document.Item.TheVariants.{Text, Child}
use Rattle.acl_model.specs.declared.document.Element.{Element}
use Rattle.acl_model.proofs.StreamEquations.{branch_of_is, part_of-Text, part_of-Child}
use Rattle.skip_encode.specs.declared.measures.Measure.{Measure}
use Rattle.skip_encode.specs.declared.tally.Tally.{Tally}
use Rattle.skip_encode.specs.inside.Measures.{measure_of, head_measures, measures_in, part_measures}
use Rattle.skip_encode.specs.inside.Tallies.{tally_of, with_part, prefix_size, laid_size, laid_length}
use Rattle.skip_encode.proofs.Widths.{least_width-same}
use Rattle.skip_encode.proofs.Tallying.{content-size, tally_of-members, tally_of-prefix, tally_of-drop, laid_size-plain}

-- ---- measures

-- Attributes have no measures.
attributes-measures : (attributes : List (List ℕ)) (after : List Segment) → measures_in (map attribute attributes ++ after) ≡ measures_in after
attributes-measures [] after = refl
attributes-measures (raw ∷ attributes) after = attributes-measures attributes after

-- The segments of a part have the part's measures, whatever the parent is.
part_segments-measures : (members : List ℕ) (w : ℕ) (p : Part) → measures_in (part_segments members w p) ≡ part_measures p
part_segments-measures members w (text_part bytes) = refl
part_segments-measures members w (element_part b) =
    ap (λ l. measure_of b ∷ l) (flat_map-append head_measures b.content (finish b.tag ∷ []) ∙ append-nil (measures_in b.content))

-- The segments of parts have the measures of the parts, in order.
parts-measures : (members : List ℕ) (w : ℕ) (parts : List Part) → measures_in (flat_map (part_segments members w) parts) ≡ flat_map part_measures parts
parts-measures members w [] = refl
parts-measures members w (p ∷ parts) =
    flat_map-append head_measures (part_segments members w p) (flat_map (part_segments members w) parts)
    ∙ ap (λ l. l ++ measures_in (flat_map (part_segments members w) parts)) (part_segments-measures members w p)
    ∙ ap (λ l. part_measures p ++ l) (parts-measures members w parts)

-- A content has the measures of its parts.
content-measures : (tag : ℕ) (members : List ℕ) (attributes : List (List ℕ)) (parts : List Part) (w : ℕ) → measures_in (content_at tag members attributes parts w) ≡ flat_map part_measures parts
content-measures tag members attributes parts w = attributes-measures attributes (head_end tag ∷ flat_map (part_segments members w) parts) ∙ parts-measures members w parts

-- ---- an element

-- the parts of an element
abbrev pub parts_of : List (List ℕ) → Element → List Part
parts_of names e = map (part_of names) e.items

-- the tally of an element's parts
abbrev pub element_tally : List (List ℕ) → Element → Tally
element_tally names e = tally_of (prefix_size e.attributes) (parts_of names e)

-- the number of an element's name
pub branch_of-tag : (names : List (List ℕ)) (e : Element) → (branch_of names e).tag ≡ tag_of names e.name
branch_of-tag names e = ap (λ b. b.tag) (branch_of_is names e)

-- An element's tag set is the set of the numbers in its parts.
pub branch_of_below-numbers : (names : List (List ℕ)) (e : Element) → (branch_of names e).below ≡ numbers_in (parts_of names e)
branch_of_below-numbers names e = ap (λ b. b.below) (branch_of_is names e)

-- An element's tag set is the members of its tally.
pub branch_of-below : (names : List (List ℕ)) (e : Element) → (branch_of names e).below ≡ (element_tally names e).members
branch_of-below names e = branch_of_below-numbers names e ∙ sym (tally_of-members (prefix_size e.attributes) (parts_of names e))

-- an element's content, with the least width
pub branch_of-content : (names : List (List ℕ)) (e : Element)
    → (branch_of names e).content ≡ content_at (tag_of names e.name) (numbers_in (parts_of names e)) e.attributes (parts_of names e) (content_width (tag_of names e.name) (numbers_in (parts_of names e)) e.attributes (parts_of names e))
branch_of-content names e = ap (λ b. b.content) (branch_of_is names e)

-- The width of a content is the least width for its tally.
pub content_width-is : (tag : ℕ) (members : List ℕ) (attributes : List (List ℕ)) (parts : List Part)
    → content_width tag members attributes parts ≡ least_width (laid_size (length members) (tally_of (prefix_size attributes) parts))
content_width-is tag members attributes parts =
    least_width-same (λ w. size (content_at tag members attributes parts w)) (laid_size (length members) (tally_of (prefix_size attributes) parts)) (content-size tag members attributes parts)

-- The size of an element's content is the one that follows from its tally.
pub branch_of-size : (names : List (List ℕ)) (e : Element) → size (branch_of names e).content ≡ laid_length (length (element_tally names e).members) (element_tally names e)
branch_of-size names e =
    let tag = tag_of names e.name in
    let parts = parts_of names e in
    let members = numbers_in parts in
    let t = element_tally names e in
    ap size (branch_of-content names e)
    ∙ content-size tag members e.attributes parts (content_width tag members e.attributes parts)
    ∙ ap (λ w. laid_size (length members) t w) (content_width-is tag members e.attributes parts)
    ∙ ap (λ l. laid_length (length l) t) (sym (tally_of-members (prefix_size e.attributes) parts))

-- The measures in an element's content are those of its parts.
pub branch_of-measures : (names : List (List ℕ)) (e : Element) → measures_in (branch_of names e).content ≡ flat_map part_measures (parts_of names e)
branch_of-measures names e =
    let tag = tag_of names e.name in
    let parts = parts_of names e in
    ap measures_in (branch_of-content names e) ∙ content-measures tag (numbers_in parts) e.attributes parts (content_width tag (numbers_in parts) e.attributes parts)

-- The bytes without heads are at most the element's content.
pub branch_of-plain : (names : List (List ℕ)) (e : Element) → (element_tally names e).plain ≤ size (branch_of names e).content
branch_of-plain names e =
    let t = element_tally names e in
    let part = laid_size-plain (length t.members) t (least_width (laid_size (length t.members) t)) in
    omega (arith, part, branch_of-size names e)

-- The bytes before the items are at most the element's content.
pub branch_of-prefix : (names : List (List ℕ)) (e : Element) → prefix_size e.attributes ≤ size (branch_of names e).content
branch_of-prefix names e =
    let prefix = tally_of-prefix (prefix_size e.attributes) (parts_of names e) in
    omega (arith, prefix, branch_of-plain names e)

-- ---- items, from the last to the first

-- the items left without the last of them
abbrev pub before_last : {X : Type 0} → List X → List X
before_last items = take (length items - 1) items

pub length-before_last : {X : Type 0} (items : List X) → length (before_last items) ≡ length items - 1
length-before_last items = omega (arith, length-take (length items - 1) items)

-- They are a prefix of all items too.
pub before_last-prefix : {X : Type 0} (all items : List X) → items ≡ take (length items) all → before_last items ≡ take (length (before_last items)) all
before_last-prefix all items prefix =
    let k = length items - 1 in
    let long : length (take (length items) all) ≡ length items = ap length (sym prefix) in
    let within : k ≤ length (take (length items) all) = omega (arith, long) in
    ap (take k) prefix
    ∙ sym (take-append-le k (take (length items) all) (drop (length items) all) within)
    ∙ ap (take k) (take-append-drop (length items) all)
    ∙ ap (λ n. take n all) (sym (length-before_last items))

-- The last item left has the same index in the list of all items.
last-place : {X : Type 0} (all items : List X) (last : X) → items ≡ take (length items) all → 1 ≤ length items → last ≡ get_or items (length items - 1) last
    → last ≡ get_or all (length items - 1) last
last-place all items last prefix some is =
    let k = length items - 1 in
    is ∙ ap (λ l. get_or l k last) prefix ∙ get_or-take (length items) all k last (omega arith)

-- The items after that prefix are the last item left and those after it.
pub before_last-drop : {X : Type 0} (all items : List X) (last : X) → items ≡ take (length items) all → length items ≤ length all → 1 ≤ length items → last ≡ get_or items (length items - 1) last
    → drop (length (before_last items)) all ≡ last ∷ drop (length items) all
before_last-drop all items last prefix within some is =
    let k = length items - 1 in
    let next : k + 1 ≡ length items = omega arith in
    ap (λ n. drop n all) (length-before_last items)
    ∙ drop-next all k last (omega arith) (last-place all items last prefix some is)
    ∙ ap (λ n. last ∷ drop n all) next

-- The last item left is lower than the element.
pub last-lower : (e : Element) (items : List Item) (last : Item) → items ≡ take (length items) e.items → length items ≤ length e.items → 1 ≤ length items → last ≡ get_or items (length items - 1) last
    → height_of_item last < height e
last-lower e items last prefix within some is = height_of_item-lower e (length items - 1) last (omega arith) (last-place e.items items last prefix some is)

-- The measures of the items from the last one left on.
pub last-measures : (names : List (List ℕ)) (all items : List Item) (last : Item) (measures after old new : List Measure)
    → drop (length (before_last items)) all ≡ last ∷ drop (length items) all
    → old ≡ flat_map part_measures (map (part_of names) (drop (length items) all)) ++ after → new ≡ part_measures (part_of names last) ++ old
    → new ≡ flat_map part_measures (map (part_of names) (drop (length (before_last items)) all)) ++ after
last-measures names all items last measures after old new next before more =
    more ∙ ap (λ l. part_measures (part_of names last) ++ l) before
    ∙ sym (append_assoc (part_measures (part_of names last)) (flat_map part_measures (map (part_of names) (drop (length items) all))) after)
    ∙ ap (λ l. flat_map part_measures (map (part_of names) l) ++ after) (sym next)

-- The tally of the items from the last one left on.
pub last-tally : (names : List (List ℕ)) (plain : ℕ) (all items : List Item) (last : Item) (old new : Tally)
    → drop (length (before_last items)) all ≡ last ∷ drop (length items) all
    → old ≡ tally_of plain (map (part_of names) (drop (length items) all)) → new ≡ with_part (part_of names last) old
    → new ≡ tally_of plain (map (part_of names) (drop (length (before_last items)) all))
last-tally names plain all items last old new next before more =
    more ∙ ap (with_part (part_of names last)) before ∙ ap (λ l. tally_of plain (map (part_of names) l)) (sym next)

-- The tally of the items from the last one left on has at most the bytes of the element's content.
pub last-plain : (names : List (List ℕ)) (e : Element) (items : List Item) (last : Item) (old : Tally)
    → drop (length (before_last items)) e.items ≡ last ∷ drop (length items) e.items
    → old ≡ tally_of (prefix_size e.attributes) (map (part_of names) (drop (length items) e.items))
    → (with_part (part_of names last) old).plain ≤ size (branch_of names e).content
last-plain names e items last old next before =
    let k = length (before_last items) in
    let part : (tally_of (prefix_size e.attributes) (drop k (parts_of names e))).plain ≤ (element_tally names e).plain = tally_of-drop (prefix_size e.attributes) k (parts_of names e) in
    let same : with_part (part_of names last) old ≡ tally_of (prefix_size e.attributes) (drop k (parts_of names e)) =
    last-tally names (prefix_size e.attributes) e.items items last old (with_part (part_of names last) old) next before refl
    ∙ ap (tally_of (prefix_size e.attributes)) (sym (drop-map (part_of names) k e.items)) in
    omega (arith, ap (λ (t : Tally). t.plain) same, part, branch_of-plain names e)

-- ---- the start and the end of the loop

-- The number of a name is below the number of names.
pub tag_of-within : (names : List (List ℕ)) (name : List ℕ) → 1 ≤ length names → tag_of names name < length names
tag_of-within names name some = go (ltb (position_or_len (pointwise nat_eq name) names) (length names)) refl
  where
    go : (b : Bool) → ltb (position_or_len (pointwise nat_eq name) names) (length names) ≡ b → unwrap_or (cond b (Some (position_or_len (pointwise nat_eq name) names)) None) 0 < length names
    go true there = grind (arith, nat_tests)
    go false there = omega arith

-- The number of a name is below 256.
pub tag_of-small : (names : List (List ℕ)) (name : List ℕ) → length names ≤ 256 → tag_of names name < 256
tag_of-small names name few = go (ltb (position_or_len (pointwise nat_eq name) names) (length names)) refl
  where
    go : (b : Bool) → ltb (position_or_len (pointwise nat_eq name) names) (length names) ≡ b → unwrap_or (cond b (Some (position_or_len (pointwise nat_eq name) names)) None) 0 < 256
    go true there = grind (arith, nat_tests)
    go false there = omega arith

-- At the start, no items are measured.
pub none-left : {X : Type 0} (all items : List X) → items ≡ all → drop (length items) all ≡ []
none-left all items is = drop_all (length items) all (omega (arith, ap length is))

-- At the end, all items are counted.
pub all-tally : (names : List (List ℕ)) (e : Element) (items : List Item) (t : Tally) → length items < 1
    → t ≡ tally_of (prefix_size e.attributes) (map (part_of names) (drop (length items) e.items)) → t ≡ element_tally names e
all-tally names e items t none is =
    let zero_left : length items ≡ 0 = omega arith in
    is ∙ ap (λ n. tally_of (prefix_size e.attributes) (map (part_of names) (drop n e.items))) zero_left

-- At the end, all items are measured.
pub all-measures : (names : List (List ℕ)) (e : Element) (items : List Item) (after old : List Measure) → length items < 1
    → old ≡ flat_map part_measures (map (part_of names) (drop (length items) e.items)) ++ after → old ≡ measures_in (branch_of names e).content ++ after
all-measures names e items after old none is =
    let zero_left : length items ≡ 0 = omega arith in
    is ∙ ap (λ n. flat_map part_measures (map (part_of names) (drop n e.items)) ++ after) zero_left
    ∙ ap (λ l. l ++ after) (sym (branch_of-measures names e))

-- The measure of an element is determined by its fields.
pub measure-is : (names : List (List ℕ)) (e : Element) (tag long : ℕ) (below : List ℕ) (t : Tally) → t ≡ element_tally names e
    → tag ≡ tag_of names e.name → below ≡ t.members → long ≡ laid_length (length t.members) t
    → ◌≡◌ {A = Measure} (record { tag = tag; below = below; long = long }) (measure_of (branch_of names e))
measure-is names e tag long below t is tagged set size_is =
    ap (λ (n : ℕ). record { tag = n; below = below; long = long }) (tagged ∙ sym (branch_of-tag names e))
    ∙ ap (λ (l : List ℕ). record { tag = (branch_of names e).tag; below = l; long = long }) (set ∙ ap (λ (x : Tally). x.members) is ∙ sym (branch_of-below names e))
    ∙ ap (λ (n : ℕ). record { tag = (branch_of names e).tag; below = (branch_of names e).below; long = n })
    (size_is ∙ ap (λ (x : Tally). laid_length (length x.members) x) is ∙ sym (branch_of-size names e))

-- Equal lists have the same first measure.
pub same-first : (one other : Measure) (ones others all : List Measure) → all ≡ one ∷ ones → all ≡ other ∷ others → one ≡ other
same-first one other ones others all p q = cc

-- A child item's part is that of its element.
pub child-part : (names : List (List ℕ)) (item : Item) (e : Element) → item ≡ Child e → part_of names item ≡ element_part (branch_of names e)
child-part names item e is = ap (part_of names) is ∙ part_of-Child names e

-- A text item's part is that of its text.
pub text-part : (names : List (List ℕ)) (item : Item) (bytes : List ℕ) → item ≡ Text bytes → part_of names item ≡ text_part bytes
text-part names item bytes is = ap (part_of names) is ∙ part_of-Text names bytes
