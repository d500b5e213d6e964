-- The bytes of an element, in the order in which they are written, and the measures that are left.
use Rattle.std.proofs.Common.{◌≡◌, ℕ, ◌+◌, ◌<◌, ◌≤◌, nat_le, ◌&&◌, true, List, [], ◌∷◌, ◌++◌, length, map, drop, get_or, append_assoc, append-nil, refl, ap, sym, subst, ◌∙◌, arith}
use Rattle.std.specs.Int.{w16, to_be_bytes}
use Rattle.std.specs.List.{flat_map, concat, list_all}
use Rattle.std.specs.Cmp.{first_so, second_so}
use Rattle.std.proofs.Math.Seq.{drop-append_seam}
use Rattle.std.proofs.lemmas.List.{drop-map}
use Rattle.std.proofs.lemmas.Bool.Decides.{nat_tests}
use Rattle.acl_model.specs.Names.{is_name}
use Rattle.acl_model.specs.StreamBits.{bytes_of}
use Rattle.acl_model.specs.Width.{binary_length}
use Rattle.acl_model.specs.Document.{is_raw_attribute, is_well_formed, item_well_formed}
use Rattle.acl_model.specs.Stream.{Segment, Part, element_part, attribute, head_end, finish, size, measured_bytes, bytes_of_segments, head_bits, numbers_in, part_segments, content_at, tag_of, branch_of, part_of}
use Rattle.acl_model.specs.declared.document.Item.{Item}
use Rattle.acl_model.specs.declared.document.Element.{Element}
use Rattle.acl_model.proofs.FormEquations.{well_formed_is}
use Rattle.acl_model.proofs.SizeLaws.{bytes_of_segments-append}
use Rattle.tag_dictionary.proofs.Forms.{drop-next}
use Rattle.skip_encode.specs.declared.measures.Measure.{Measure}
use Rattle.skip_encode.specs.inside.Measures.{measure_of, part_measures, BeginsWith, PartFits}
use Rattle.skip_encode.proofs.Contents.{parts_of, branch_of-content, branch_of_below-numbers, branch_of-measures, same-first}
use Rattle.skip_encode.proofs.Whole.{content_width-digits, item-fits}

-- ---- bytes

-- The bytes of attributes, followed by those of the segments after them.
attributes-bytes : (attributes : List (List ℕ)) (after : List Segment) → bytes_of_segments (map attribute attributes ++ after) ≡ concat (map measured_bytes attributes) ++ bytes_of_segments after
attributes-bytes [] after = refl
attributes-bytes (raw ∷ attributes) after =
    ap (λ l. measured_bytes raw ++ l) (attributes-bytes attributes after)
    ∙ sym (append_assoc (measured_bytes raw) (concat (map measured_bytes attributes)) (bytes_of_segments after))

-- The bytes of a content are those of its attributes and then of its parts.
content-bytes : (tag : ℕ) (members : List ℕ) (attributes : List (List ℕ)) (parts : List Part) (w : ℕ)
    → bytes_of_segments (content_at tag members attributes parts w)
    ≡ (to_be_bytes w16 (length attributes) ++ concat (map measured_bytes attributes)) ++ bytes_of_segments (flat_map (part_segments members w) parts)
content-bytes tag members attributes parts w =
    ap (λ l. to_be_bytes w16 (length attributes) ++ l) (attributes-bytes attributes (head_end tag ∷ flat_map (part_segments members w) parts))
    ∙ sym (append_assoc (to_be_bytes w16 (length attributes)) (concat (map measured_bytes attributes)) (bytes_of_segments (flat_map (part_segments members w) parts)))

-- an element's content, with its own members and width
content-is : (names : List (List ℕ)) (e : Element) → size (branch_of names e).content ≤ 33554432
    → (branch_of names e).content ≡ content_at (tag_of names e.name) (branch_of names e).below e.attributes (parts_of names e) (binary_length (size (branch_of names e).content))
content-is names e small =
    let tag = tag_of names e.name in
    let parts = parts_of names e in
    branch_of-content names e
    ∙ ap (content_at tag (numbers_in parts) e.attributes parts) (content_width-digits names e small)
    ∙ ap (λ l. content_at tag l e.attributes parts (binary_length (size (branch_of names e).content))) (sym (branch_of_below-numbers names e))

-- After the head and the attributes are written, the bytes of the parts are left.
pub written-start : (names : List (List ℕ)) (e : Element) (members : List ℕ) (w : ℕ) (m : Measure) (old headed attributed : List ℕ) → size (branch_of names e).content ≤ 33554432
    → m ≡ measure_of (branch_of names e) → headed ≡ old ++ bytes_of (head_bits members w m.tag m.below m.long)
    → attributed ≡ headed ++ (to_be_bytes w16 (length e.attributes) ++ concat (map measured_bytes e.attributes))
    → attributed ++ bytes_of_segments (flat_map (part_segments (branch_of names e).below (binary_length (size (branch_of names e).content))) (parts_of names e))
    ≡ old ++ bytes_of_segments (part_segments members w (element_part (branch_of names e)))
written-start names e members w m old headed attributed small is head prefix =
    let b = branch_of names e in
    let bits = head_bits members w b.tag b.below (size b.content) in
    let attributes = to_be_bytes w16 (length e.attributes) ++ concat (map measured_bytes e.attributes) in
    let inside = bytes_of_segments (flat_map (part_segments b.below (binary_length (size b.content))) (parts_of names e)) in
    let content : bytes_of_segments b.content ≡ attributes ++ inside =
    ap bytes_of_segments (content-is names e small) ∙ content-bytes (tag_of names e.name) b.below e.attributes (parts_of names e) (binary_length (size b.content)) in
    let whole : bytes_of_segments (part_segments members w (element_part b)) ≡ bytes_of bits ++ (attributes ++ inside) =
    ap (λ l. bytes_of bits ++ l) (bytes_of_segments-append b.content (finish b.tag ∷ []) ∙ append-nil (bytes_of_segments b.content) ∙ content) in
    let begun : headed ≡ old ++ bytes_of bits = head ∙ ap (λ (x : Measure). old ++ bytes_of (head_bits members w x.tag x.below x.long)) is in
    ap (λ l. l ++ inside) (prefix ∙ ap (λ l. l ++ attributes) begun)
    ∙ ap (λ l. l ++ inside) (append_assoc old (bytes_of bits) attributes)
    ∙ append_assoc old (bytes_of bits ++ attributes) inside
    ∙ ap (λ l. old ++ l) (append_assoc (bytes_of bits) attributes inside)
    ∙ ap (λ l. old ++ l) (sym whole)

-- ---- measures

same-rest : (one other : Measure) (ones others all : List Measure) → all ≡ one ∷ ones → all ≡ other ∷ others → ones ≡ others
same-rest one other ones others all p q = cc

-- The first measure is the element's.
pub own-measure : (names : List (List ℕ)) (e : Element) (old new : List Measure) (m : Measure) → BeginsWith old (part_measures (element_part (branch_of names e))) → old ≡ m ∷ new
    → m ≡ measure_of (branch_of names e)
own-measure names e old new m begins popped = same-first m (measure_of (branch_of names e)) new _ old popped begins

-- The measures of its parts are left.
pub left-start : (names : List (List ℕ)) (e : Element) (old new : List Measure) (m : Measure) → BeginsWith old (part_measures (element_part (branch_of names e))) → old ≡ m ∷ new
    → new ≡ flat_map part_measures (parts_of names e) ++ drop (length (part_measures (element_part (branch_of names e)))) old
left-start names e old new m begins popped =
    same-rest m (measure_of (branch_of names e)) new _ old popped begins
    ∙ ap (λ l. l ++ drop (length (part_measures (element_part (branch_of names e)))) old) (branch_of-measures names e)

-- A list that is a prefix and a rest begins with that prefix.
begins-prefix : (list prefix rest : List Measure) → list ≡ prefix ++ rest → BeginsWith list prefix
begins-prefix list prefix rest is = is ∙ ap (λ l. prefix ++ l) (sym (drop-append_seam prefix rest) ∙ ap (drop (length prefix)) (sym is))

-- ---- the next item

-- The measures left begin with those of the next item.
pub next-begins : (names : List (List ℕ)) (items : List Item) (i : ℕ) (item : Item) (left after : List Measure) → i < length items → item ≡ get_or items i item
    → left ≡ flat_map part_measures (map (part_of names) (drop i items)) ++ after → BeginsWith left (part_measures (part_of names item))
next-begins names items i item left after within is before =
    let more = flat_map part_measures (map (part_of names) (drop (i + 1) items)) in
    begins-prefix left (part_measures (part_of names item)) (more ++ after)
    (before ∙ ap (λ l. flat_map part_measures (map (part_of names) l) ++ after) (drop-next items i item within is) ∙ append_assoc (part_measures (part_of names item)) more after)

-- The next item fits its element.
pub next-fits : (names : List (List ℕ)) (e : Element) (i : ℕ) (item : Item) (members : List ℕ) (w : ℕ) → length names ≤ 256 → size (branch_of names e).content ≤ 33554432
    → i < length e.items → item ≡ get_or e.items i item → members ≡ (branch_of names e).below → w ≡ binary_length (size (branch_of names e).content)
    → PartFits members w (part_of names item)
next-fits names e i item members w few small within is own_members own_width =
    let fits = item-fits names e i (map (part_of names) (drop (i + 1) e.items)) item few small (drop-map (part_of names) i e.items ∙ ap (map (part_of names)) (drop-next e.items i item within is)) in
    subst (λ l. PartFits l w (part_of names item)) (sym own_members)
    (subst (λ n. PartFits (branch_of names e).below n (part_of names item)) (sym own_width) fits)

-- ---- well-formed elements

-- A well-formed element has at most 65,535 attributes.
pub few-attributes : (e : Element) → is_well_formed is_name e ≡ true → length e.attributes ≤ 65535
few-attributes e good =
    let own = is_name e.name in
    let few = nat_le (length e.attributes) 65535 in
    let raw = list_all is_raw_attribute e.attributes in
    let items = list_all (λ b. b) (map (item_well_formed is_name) e.items) in
    let so : few ≡ true = second_so own few (first_so (own && few) raw (first_so (own && few && raw) items (sym (well_formed_is is_name e) ∙ good))) in
    grind (arith, nat_tests)
