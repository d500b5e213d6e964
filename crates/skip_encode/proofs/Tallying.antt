-- The length of a content follows from the tally of its parts, and a tally doesn't fall when parts are added.
use Rattle.std.proofs.Common.{◌≡◌, ℕ, zero, suc, ◌+◌, ◌-◌, ◌*◌, ◌/◌, ◌^◌, ◌<◌, ◌≤◌, ◌==◌, nat_eq, ◌||◌, List, [], ◌∷◌, ◌++◌, length, drop, map, ap, sym, ◌∙◌, refl, add-one, arith}
use Rattle.std.proofs.Math.Nat.{suc-mul, mul-le-mul_left}
use Rattle.std.specs.List.{flat_map}
use Rattle.std.specs.Prelude.{sum_by}
use Rattle.std.proofs.lemmas.List.Sums.{sum_by-cons}
use Rattle.acl_model.specs.StreamBits.{bytes_of}
use Rattle.acl_model.specs.Width.{least_width, binary_length}
use Rattle.acl_model.specs.Stream.{Part, Branch, Segment, text_part, element_part, head, count, attribute, head_end, words, finish, segment_bytes, size, head_bits, part_segments, content_at, has_member, holds_number, numbers_with, numbers_in}
use Rattle.acl_model.proofs.SizeLaws.{length-bytes_of, length-head_bits, length-set_bits, size-append, size-cons, size-nil}
use Rattle.std.specs.List.{list_any}
use Rattle.acl_bits.specs.Row.{row_of, is_member}
use Rattle.acl_bits.specs.inside.RowLaws.{is_member-row_of}
use Rattle.skip_encode.specs.declared.measures.Measure.{Measure}
use Rattle.skip_encode.specs.declared.tally.Tally.{Tally}
use Rattle.skip_encode.specs.inside.Tallies.{leaf_count, inner_count, with_element, with_part, tally_of, prefix_size, leaf_head, inner_head, laid_size, laid_length, IsSmall}
use Rattle.skip_encode.proofs.Widths.{binary_length-few, least_width-most}
use Rattle.skip_encode.proofs.Members.{length-numbers_with, numbers_with-row_of, numbers_with-same, has_member-is_member, members-element}

-- ---- heads

-- the size of the head of an element without element children
leaf_head-bytes : (members : List ℕ) (w tag long : ℕ) → length (bytes_of (head_bits members w tag [] long)) ≡ leaf_head (length members) w
leaf_head-bytes members w tag long =
    length-bytes_of (head_bits members w tag [] long) ∙ ap (λ n. (n + 7) / 8) (length-head_bits members w tag [] long)

-- the size of the head of an element with element children
inner_head-bytes : (members : List ℕ) (w tag n : ℕ) (below : List ℕ) (long : ℕ) → length (bytes_of (head_bits members w tag (n ∷ below) long)) ≡ inner_head (length members) w
inner_head-bytes members w tag n below long =
    length-bytes_of (head_bits members w tag (n ∷ below) long)
    ∙ ap (λ k. (k + 7) / 8) (length-head_bits members w tag (n ∷ below) long ∙ ap (λ k. 1 + (binary_length (length members - 1) + (k + w))) (length-set_bits members n below))

-- The size of an element is that of its head and its content. Its end has no bytes.
pub element-size : (members : List ℕ) (w : ℕ) (b : Branch)
    → size (part_segments members w (element_part b)) ≡ length (bytes_of (head_bits members w b.tag b.below (size b.content))) + size b.content
element-size members w b =
    let bits = head_bits members w b.tag b.below (size b.content) in
    let prefix : size (part_segments members w (element_part b)) ≡ length (bytes_of bits) + size (b.content ++ (finish b.tag ∷ [])) = size-cons (head b.tag b.below (size b.content) bits) (b.content ++ (finish b.tag ∷ [])) in
    let back : size (b.content ++ (finish b.tag ∷ [])) ≡ size b.content + size (finish b.tag ∷ []) = size-append b.content (finish b.tag ∷ []) in
    let end : size (finish b.tag ∷ []) ≡ 0 + size [] = size-cons (finish b.tag) [] in
    let none : size [] ≡ 0 = size-nil in
    omega arith

-- ---- the length that follows from a tally

sums : (plain long more a b c own : ℕ) → more ≡ a + b → own ≡ b → plain + long + (more + (c + 0)) ≡ plain + (a + c) + (own + long)
sums plain long more a b c own grown is = omega arith

sums_after : (plain long more a b c own : ℕ) → more ≡ a + b → own ≡ b → plain + long + (c + more) ≡ plain + (c + a) + (own + long)
sums_after plain long more a b c own grown is = omega arith

one_more : (n k : ℕ) → (n + 1) * k ≡ n * k + k
one_more n k = rw add-one (suc-mul n k)

none_more : (n k : ℕ) → (n + 0) * k ≡ n * k
none_more n k = ap (λ x. x * k) (omega arith)

-- Adding an element adds the sizes of its content and its head.
with_element-size : (members : List ℕ) (w tag long : ℕ) (below : List ℕ) (t : Tally)
    → laid_size (length members) (with_element (record { tag = tag; below = below; long = long }) t) w ≡ laid_size (length members) t w + (length (bytes_of (head_bits members w tag below long)) + long)
unfolding laid_size
with_element-size members w tag long [] t =
    let m = length members in
    let own : length (bytes_of (head_bits members w tag [] long)) ≡ leaf_head m w = leaf_head-bytes members w tag long in
    let grown : (t.leaves + 1) * leaf_head m w ≡ t.leaves * leaf_head m w + leaf_head m w = one_more t.leaves (leaf_head m w) in
    let same : (t.inners + 0) * inner_head m w ≡ t.inners * inner_head m w = none_more t.inners (inner_head m w) in
    omega (arith, own, grown, same)
with_element-size members w tag long (n ∷ below) t =
    let m = length members in
    let own : length (bytes_of (head_bits members w tag (n ∷ below) long)) ≡ inner_head m w = inner_head-bytes members w tag n below long in
    let grown : (t.inners + 1) * inner_head m w ≡ t.inners * inner_head m w + inner_head m w = one_more t.inners (inner_head m w) in
    let same : (t.leaves + 0) * leaf_head m w ≡ t.leaves * leaf_head m w = none_more t.leaves (leaf_head m w) in
    omega (arith, own, grown, same)

-- Adding a part adds the size of its segments.
pub with_part-size : (members : List ℕ) (w : ℕ) (p : Part) (t : Tally) → laid_size (length members) (with_part p t) w ≡ laid_size (length members) t w + size (part_segments members w p)
unfolding laid_size
with_part-size members w (text_part bytes) t =
    let own : size (words bytes ∷ []) ≡ length (segment_bytes (words bytes)) + size [] = size-cons (words bytes) [] in
    let none : size [] ≡ 0 = size-nil in
    let long : length (segment_bytes (words bytes)) ≡ 4 + length bytes = omega arith in
    grind (arith, own, none, long)
with_part-size members w (element_part b) t =
    with_element-size members w b.tag (size b.content) b.below t
    ∙ ap (λ n. laid_size (length members) t w + n) (sym (element-size members w b))

-- No parts add no bytes.
pub no_parts-size : (members w plain : ℕ) → laid_size members (tally_of plain []) w ≡ plain + size []
unfolding laid_size
no_parts-size members w plain = let none : size [] ≡ 0 = size-nil in omega (arith, none)

-- The length is `plain` and the sizes of all parts.
pub tally_of-size : (members : List ℕ) (w plain : ℕ) (parts : List Part)
    → laid_size (length members) (tally_of plain parts) w ≡ plain + size (flat_map (part_segments members w) parts)
tally_of-size members w plain [] = no_parts-size (length members) w plain
tally_of-size members w plain (p ∷ parts) =
    let rest = tally_of-size members w plain parts in
    let own = with_part-size members w p (tally_of plain parts) in
    let both : size (part_segments members w p ++ flat_map (part_segments members w) parts) ≡ size (part_segments members w p) + size (flat_map (part_segments members w) parts) =
    size-append (part_segments members w p) (flat_map (part_segments members w) parts) in
    omega arith

-- ---- the length of a content

one_attribute : (own long more after rest : ℕ) → own ≡ 4 + long → rest ≡ more + after → own + rest ≡ 4 + long + more + after
one_attribute own long more after rest is others = omega arith

-- The size of attributes, followed by other segments.
attributes-size : (attributes : List (List ℕ)) (after : List Segment) → size (map attribute attributes ++ after) ≡ sum_by (λ raw. 4 + length raw) attributes + size after
attributes-size [] after = omega arith
attributes-size (raw ∷ attributes) after =
    size-cons (attribute raw) (map attribute attributes ++ after)
    ∙ one_attribute (length (segment_bytes (attribute raw))) (length raw) (sum_by (λ raw. 4 + length raw) attributes) (size after) (size (map attribute attributes ++ after)) (omega arith) (attributes-size attributes after)
    ∙ ap (λ n. n + size after) (sym (sum_by-cons (λ raw. 4 + length raw) raw attributes))

-- The length of a content is the one that follows from its tally.
pub content-size : (tag : ℕ) (members : List ℕ) (attributes : List (List ℕ)) (parts : List Part) (w : ℕ)
    → size (content_at tag members attributes parts w) ≡ laid_size (length members) (tally_of (prefix_size attributes) parts) w
content-size tag members attributes parts w =
    let inside = flat_map (part_segments members w) parts in
    let first : size (count (length attributes) ∷ (map attribute attributes ++ (head_end tag ∷ inside))) ≡ 2 + size (map attribute attributes ++ (head_end tag ∷ inside)) = size-cons (count (length attributes)) (map attribute attributes ++ (head_end tag ∷ inside)) in
    let prefix = attributes-size attributes (head_end tag ∷ inside) in
    let end : size (head_end tag ∷ inside) ≡ 0 + size inside = size-cons (head_end tag) inside in
    let parts_size = tally_of-size members w (prefix_size attributes) parts in
    omega arith

-- ---- members

-- A number is in the set of parts exactly where one of the parts contains it.
pub has_member-numbers_in : (parts : List Part) (k : ℕ) → k < 256 → has_member (numbers_in parts) k ≡ list_any (holds_number k) parts
unfolding numbers_in
has_member-numbers_in parts k small =
    ap (λ l. has_member l k) (numbers_with-row_of (λ n. list_any (holds_number n) parts))
    ∙ has_member-is_member (row_of (λ n. list_any (holds_number n) parts)) k ∙ is_member-row_of (λ n. list_any (holds_number n) parts) k small

-- The set of the numbers in parts has at most 256 numbers.
pub length-numbers_in : (parts : List Part) → length (numbers_in parts) ≤ 256
unfolding numbers_in
length-numbers_in parts = length-numbers_with (λ n. list_any (holds_number n) parts)

-- The members of a tally are the numbers in its parts.
pub tally_of-members : (plain : ℕ) (parts : List Part) → (tally_of plain parts).members ≡ numbers_in parts
unfolding numbers_in numbers_with
tally_of-members plain [] = refl
tally_of-members plain (text_part bytes ∷ parts) = tally_of-members plain parts
tally_of-members plain (element_part b ∷ parts) =
    ap (λ l. numbers_with (λ n. (nat_eq b.tag n || has_member b.below n) || has_member l n)) (tally_of-members plain parts)
    ∙ numbers_with-same (λ n. (nat_eq b.tag n || has_member b.below n) || has_member (numbers_in parts) n) (λ n. (nat_eq b.tag n || has_member b.below n) || list_any (holds_number n) parts)
    (λ k small. ap (λ x. (nat_eq b.tag k || has_member b.below k) || x) (has_member-numbers_in parts k small))

-- ---- how a tally grows

-- Adding a part doesn't lower the number of bytes without heads.
with_part-plain : (p : Part) (t : Tally) → t.plain ≤ (with_part p t).plain
with_part-plain (text_part bytes) t = omega arith
with_part-plain (element_part b) t = omega arith

-- A tally of the last parts has at most as many bytes without heads as that of all parts.
pub tally_of-drop : (plain k : ℕ) (parts : List Part) → (tally_of plain (drop k parts)).plain ≤ (tally_of plain parts).plain
tally_of-drop plain zero parts = omega arith
tally_of-drop plain (suc k) [] = omega arith
tally_of-drop plain (suc k) (p ∷ parts) =
    let rest = tally_of-drop plain k parts in
    let more = with_part-plain p (tally_of plain parts) in
    omega arith

-- A tally has at least the bytes that come before the parts.
pub tally_of-prefix : (plain : ℕ) (parts : List Part) → plain ≤ (tally_of plain parts).plain
tally_of-prefix plain [] = omega arith
tally_of-prefix plain (p ∷ parts) =
    let rest = tally_of-prefix plain parts in
    let more = with_part-plain p (tally_of plain parts) in
    omega arith

-- The length is at least the number of bytes without heads.
pub laid_size-plain : (members : ℕ) (t : Tally) (w : ℕ) → t.plain ≤ laid_size members t w
unfolding laid_size
laid_size-plain members t w = omega arith

-- The length that follows from a small tally is below 2^31.
pub laid_size-small : (members : ℕ) (t : Tally) (w : ℕ) → IsSmall t → members ≤ 256 → w ≤ 32 → laid_size members t w < 2 ^ 31
unfolding laid_size
laid_size-small members t w small few within =
    let digits : binary_length (members - 1) ≤ 8 = binary_length-few (members - 1) 8 (omega arith) (omega arith) in
    let leaf : leaf_head members w ≤ 38 = omega arith in
    let inner : inner_head members w ≤ 38 = omega arith in
    let leaves : t.leaves * leaf_head members w ≤ t.leaves * 38 = mul-le-mul_left t.leaves leaf in
    let inners : t.inners * inner_head members w ≤ t.inners * 38 = mul-le-mul_left t.inners inner in
    let bytes = small.within in
    let counted = small.counted in
    omega (arith, leaves, inners, bytes, counted)

-- The length doesn't fall as the width grows.
pub laid_size-grows : (members : ℕ) (t : Tally) (v w : ℕ) → v ≤ w → laid_size members t v ≤ laid_size members t w
unfolding laid_size
laid_size-grows members t v w wider =
    let leaf : leaf_head members v ≤ leaf_head members w = omega arith in
    let inner : inner_head members v ≤ inner_head members w = omega arith in
    let leaves : t.leaves * leaf_head members v ≤ t.leaves * leaf_head members w = mul-le-mul_left t.leaves leaf in
    let inners : t.inners * inner_head members v ≤ t.inners * inner_head members w = mul-le-mul_left t.inners inner in
    omega (arith, leaves, inners)

-- ---- how the code counts an element

-- An element with the empty set is a leaf.
leaf_count-none : (below : List ℕ) → length below ≡ 0 → leaf_count below ≡ 1
leaf_count-none [] none = refl
leaf_count-none (n ∷ below) none = absurd (omega arith)

inner_count-none : (below : List ℕ) → length below ≡ 0 → inner_count below ≡ 0
inner_count-none [] none = refl
inner_count-none (n ∷ below) none = absurd (omega arith)

-- An element with any other set is not a leaf.
leaf_count-some : (below : List ℕ) → 1 ≤ length below → leaf_count below ≡ 0
leaf_count-some [] some = absurd (omega arith)
leaf_count-some (n ∷ below) some = refl

inner_count-some : (below : List ℕ) → 1 ≤ length below → inner_count below ≡ 1
inner_count-some [] some = absurd (omega arith)
inner_count-some (n ∷ below) some = refl

-- A tally is determined by its fields.
tally-same : (plain leaves inners : ℕ) (members : List ℕ) (e : Measure) (t : Tally) → plain ≡ t.plain + e.long → leaves ≡ t.leaves + leaf_count e.below → inners ≡ t.inners + inner_count e.below
    → members ≡ numbers_with (λ n. (nat_eq e.tag n || has_member e.below n) || has_member t.members n)
    → ◌≡◌ {A = Tally} (record { plain = plain; leaves = leaves; inners = inners; members = members }) (with_element e t)
tally-same plain leaves inners members e t same_plain same_leaves same_inners same_members =
    ap (λ (n : ℕ). record { plain = n; leaves = leaves; inners = inners; members = members }) same_plain
    ∙ ap (λ (n : ℕ). record { plain = t.plain + e.long; leaves = n; inners = inners; members = members }) same_leaves
    ∙ ap (λ (n : ℕ). record { plain = t.plain + e.long; leaves = t.leaves + leaf_count e.below; inners = n; members = members }) same_inners
    ∙ ap (λ (l : List ℕ). record { plain = t.plain + e.long; leaves = t.leaves + leaf_count e.below; inners = t.inners + inner_count e.below; members = l }) same_members

-- the members after an element's tag and tag set are added
joined-members : (e : Measure) (old put join : List ℕ) → put ≡ row_of (λ m. m == e.tag || is_member old m) → join ≡ row_of (λ m. is_member put m || is_member e.below m)
    → join ≡ numbers_with (λ n. (nat_eq e.tag n || has_member e.below n) || has_member old n)
joined-members e old put join puts joins = joins ∙ ap (λ l. row_of (λ m. is_member l m || is_member e.below m)) puts ∙ members-element e.tag e.below old

-- An element with the empty set adds a leaf.
pub with_element-leaf : (e : Measure) (t self : Tally) (plain : ℕ) (put join : List ℕ) → length e.below ≡ 0 → plain ≡ t.plain + e.long
    → self ≡ record { plain = plain; leaves = t.leaves + 1; inners = t.inners; members = t.members }
    → put ≡ row_of (λ m. m == e.tag || is_member self.members m) → join ≡ row_of (λ m. is_member put m || is_member e.below m)
    → ◌≡◌ {A = Tally} (record { plain = self.plain; leaves = self.leaves; inners = self.inners; members = join }) (with_element e t)
with_element-leaf e t self plain put join none sum is puts joins =
    let leaves = leaf_count-none e.below none in
    let inners = inner_count-none e.below none in
    let own : self.members ≡ t.members = ap (λ (s : Tally). s.members) is in
    let own_plain : self.plain ≡ plain = ap (λ (s : Tally). s.plain) is in
    let own_leaves : self.leaves ≡ t.leaves + 1 = ap (λ (s : Tally). s.leaves) is in
    let own_inners : self.inners ≡ t.inners = ap (λ (s : Tally). s.inners) is in
    tally-same self.plain self.leaves self.inners join e t (own_plain ∙ sum) (omega arith) (omega arith)
    (joined-members e t.members put join (puts ∙ ap (λ l. row_of (λ m. m == e.tag || is_member l m)) own) joins)

-- An element with any other set adds an inner element.
pub with_element-inner : (e : Measure) (t self : Tally) (plain : ℕ) (put join : List ℕ) → 1 ≤ length e.below → plain ≡ t.plain + e.long
    → self ≡ record { plain = plain; leaves = t.leaves; inners = t.inners + 1; members = t.members }
    → put ≡ row_of (λ m. m == e.tag || is_member self.members m) → join ≡ row_of (λ m. is_member put m || is_member e.below m)
    → ◌≡◌ {A = Tally} (record { plain = self.plain; leaves = self.leaves; inners = self.inners; members = join }) (with_element e t)
with_element-inner e t self plain put join some sum is puts joins =
    let leaves = leaf_count-some e.below some in
    let inners = inner_count-some e.below some in
    let own : self.members ≡ t.members = ap (λ (s : Tally). s.members) is in
    let own_plain : self.plain ≡ plain = ap (λ (s : Tally). s.plain) is in
    let own_leaves : self.leaves ≡ t.leaves = ap (λ (s : Tally). s.leaves) is in
    let own_inners : self.inners ≡ t.inners + 1 = ap (λ (s : Tally). s.inners) is in
    tally-same self.plain self.leaves self.inners join e t (own_plain ∙ sum) (omega arith) (omega arith)
    (joined-members e t.members put join (puts ∙ ap (λ l. row_of (λ m. m == e.tag || is_member l m)) own) joins)

-- A tally without parts is small where its bytes are within the limit.
pub new-small : (t : Tally) (plain : ℕ) → t ≡ tally_of plain [] → plain ≤ 33554432 → IsSmall t
new-small t plain is within =
    let own : t.plain ≡ plain = ap (λ (x : Tally). x.plain) is in
    let leaves : t.leaves ≡ 0 = ap (λ (x : Tally). x.leaves) is in
    let inners : t.inners ≡ 0 = ap (λ (x : Tally). x.inners) is in
    record { within = omega arith; counted = omega arith }

-- The length that follows from a small tally, with the least width, is below 2^31.
pub laid_length-small : (members : ℕ) (t : Tally) → IsSmall t → members ≤ 256 → laid_length members t < 2 ^ 31
laid_length-small members t small few = laid_size-small members t (least_width (laid_size members t)) small few (least_width-most (laid_size members t))
