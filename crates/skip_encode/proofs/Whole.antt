-- A part of a content is no larger than the content, and fits the bits that its parent has for it.
use Rattle.std.proofs.Common.{◌≡◌, ℕ, zero, suc, ◌+◌, ◌-◌, ◌^◌, ◌<◌, ◌≤◌, nat_eq, nat_lt, cond, ◌||◌, Bool, true, false, List, [], ◌∷◌, length, drop, refl, ap, sym, subst, ◌∙◌, ⊎_elim, arith}
use Rattle.std.specs.List.{flat_map, list_any}
use Rattle.std.proofs.lemmas.Bool.{cases_Bool, true≢false}
use Rattle.std.proofs.lemmas.Bool.Decides.{nat_tests}
use Rattle.std.proofs.lemmas.List.Sums.{sum_by-cons, count_by-le-length}
use Rattle.acl_model.specs.Width.{least_width, binary_length, IsLeastWidth}
use Rattle.acl_model.specs.Stream.{Part, Branch, text_part, element_part, words, size, rank, segment_bytes, has_member, holds_number, numbers_in, part_segments, content_at, content_width, tag_of, branch_of, part_of}
use Rattle.acl_model.specs.declared.document.Item.{Item}
use Rattle.acl_model.specs.declared.document.Element.{Element}
use Rattle.acl_model.proofs.SizeLaws.{size-append, size-cons}
use Rattle.acl_model.proofs.WidthLaws.{least_width-least, binary_length-least}
use Rattle.acl_model.proofs.StreamEquations.{part_of-Text, part_of-Child}
use Rattle.acl_model.proofs.ViewEquations.{item_cases}
use Rattle.skip_encode.specs.inside.Measures.{Fits, PartFits}
use Rattle.skip_encode.specs.inside.Tallies.{prefix_size, tally_of}
use Rattle.skip_encode.proofs.Widths.{binary_length-fits, first_from-early, first_from-most, least_width-most}
use Rattle.skip_encode.proofs.Tallying.{content-size, tally_of-size, element-size, has_member-numbers_in, length-numbers_in, laid_size-grows}
use Rattle.skip_encode.proofs.Contents.{parts_of, branch_of-tag, branch_of-content, branch_of_below-numbers, tag_of-small}

-- ---- sizes

-- The last parts are no larger than all parts.
parts-drop : (members : List ℕ) (w k : ℕ) (parts : List Part) → size (flat_map (part_segments members w) (drop k parts)) ≤ size (flat_map (part_segments members w) parts)
parts-drop members w zero parts = omega arith
parts-drop members w (suc k) [] = omega arith
parts-drop members w (suc k) (p ∷ parts) =
    let rest = parts-drop members w k parts in
    let both = size-append (part_segments members w p) (flat_map (part_segments members w) parts) in
    omega arith

-- The parts are no larger than the content.
content-parts : (tag : ℕ) (members : List ℕ) (attributes : List (List ℕ)) (parts : List Part) (w : ℕ)
    → size (flat_map (part_segments members w) parts) ≤ size (content_at tag members attributes parts w)
content-parts tag members attributes parts w = omega (arith, content-size tag members attributes parts w, tally_of-size members w (prefix_size attributes) parts)

-- A part of an element is no larger than the element's content.
part-size : (names : List (List ℕ)) (e : Element) (k : ℕ) (p : Part) (rest : List Part) → drop k (parts_of names e) ≡ p ∷ rest
    → (w : ℕ) → (branch_of names e).content ≡ content_at (tag_of names e.name) (numbers_in (parts_of names e)) e.attributes (parts_of names e) w
    → size (part_segments (numbers_in (parts_of names e)) w p) ≤ size (branch_of names e).content
part-size names e k p rest is w content =
    let members = numbers_in (parts_of names e) in
    let some = parts-drop members w k (parts_of names e) in
    let first = size-append (part_segments members w p) (flat_map (part_segments members w) rest) in
    let all = content-parts (tag_of names e.name) members e.attributes (parts_of names e) w in
    omega (arith, ap (λ l. size (flat_map (part_segments members w) l)) is, some, first, all, ap size content)

-- ---- widths

-- A least width whose size is below 2^32 fits, and no smaller one does.
pub least_width-low : (size : ℕ → ℕ) → size (least_width size) < 2 ^ 32 → IsLeastWidth size (least_width size)
unfolding least_width
least_width-low size small = ⊎_elim
    (λ early.
    let most = first_from-most (λ w. nat_lt (size w) (2 ^ w)) 32 0 in
    let passes : nat_lt (size (least_width size)) (2 ^ least_width size) ≡ true = first_from-early (λ w. nat_lt (size w) (2 ^ w)) 32 0 (grind (arith, nat_tests)) in
    least_width-least size (least_width size) (omega (arith, most)) (grind (arith, nat_tests)))
    (λ late.
    let most = first_from-most (λ w. nat_lt (size w) (2 ^ w)) 32 0 in
    let above : 32 ≤ least_width size = grind (arith, nat_tests) in
    let end : least_width size ≡ 32 = omega (arith, most, above) in
    least_width-least size (least_width size) (omega (arith, end)) (subst (λ w. size (least_width size) < 2 ^ w) (sym end) small))
    (cases_Bool (nat_lt (least_width size) 32))

-- The width of an element's content is the number of binary digits of its length.
pub content_width-digits : (names : List (List ℕ)) (e : Element) → size (branch_of names e).content ≤ 33554432
    → content_width (tag_of names e.name) (numbers_in (parts_of names e)) e.attributes (parts_of names e) ≡ binary_length (size (branch_of names e).content)
content_width-digits names e small =
    let tag = tag_of names e.name in
    let parts = parts_of names e in
    let members = numbers_in parts in
    let at : ℕ → ℕ = λ w. size (content_at tag members e.attributes parts w) in
    let t = tally_of (prefix_size e.attributes) parts in
    let w = content_width tag members e.attributes parts in
    let own : size (branch_of names e).content ≡ at w = ap size (branch_of-content names e) in
    let low = least_width-low at (omega (arith, own, small)) in
    let most = least_width-most at in
    sym (ap binary_length own
    ∙ binary_length-least at w
    (λ v below. omega (arith, content-size tag members e.attributes parts v, content-size tag members e.attributes parts w, laid_size-grows (length members) t v w below))
    most low)

-- The length is less than two to the power of this number.
pub content-fits : (names : List (List ℕ)) (e : Element) → size (branch_of names e).content ≤ 33554432
    → size (branch_of names e).content < 2 ^ binary_length (size (branch_of names e).content)
content-fits names e small = binary_length-fits (size (branch_of names e).content) (omega arith)

-- ---- indexes of members

-- Where a number is in a list, fewer numbers in the list are below it than the list is long.
rank-member : (members : List ℕ) (n : ℕ) → has_member members n ≡ true → rank members n < length members
rank-member [] n there = absurd (true≢false (sym there))
rank-member (m ∷ members) n there =
    let more = sum_by-cons (λ (x : ℕ). cond (nat_lt x n) 1 0) m members in
    let few = count_by-le-length (λ (x : ℕ). nat_lt x n) members in
    ⊎_elim
    (λ same. let equal : m ≡ n = grind (arith, nat_tests) in let none : ◌≡◌ {A = ℕ} (cond (nat_lt m n) 1 0) 0 = grind (arith, nat_tests) in omega (arith, more, few, none))
    (λ other. let rest = rank-member members n (grind (arith, nat_tests)) in let one : cond (nat_lt m n) 1 0 ≤ 1 = grind (arith, nat_tests) in omega (arith, more, rest, one))
    (cases_Bool (nat_eq m n))

-- So the rank of a member fits the bits for an index.
pub rank-fits : (members : List ℕ) (n : ℕ) → length members ≤ 256 → has_member members n ≡ true → rank members n < 2 ^ binary_length (length members - 1)
rank-fits members n few there =
    let below = rank-member members n there in
    let fits = binary_length-fits (length members - 1) (omega arith) in
    omega (arith, below, fits)

-- ---- a part fits

-- A number in the last parts is in one of all parts.
held-drop : (n k : ℕ) (parts : List Part) → list_any (holds_number n) (drop k parts) ≡ true → list_any (holds_number n) parts ≡ true
held-drop n zero parts held = held
held-drop n (suc k) [] held = held
held-drop n (suc k) (p ∷ parts) held =
    ap (λ b. holds_number n p || b) (held-drop n k parts held) ∙ or-true (holds_number n p)
  where
    or-true : (b : Bool) → (b || true) ≡ true
    or-true true = refl
    or-true false = refl

-- An element contains the number of its own name.
holds-own : (b : Branch) (rest : List Part) → list_any (holds_number b.tag) (element_part b ∷ rest) ≡ true
holds-own b rest = grind (arith, nat_tests)

-- A text's length fits four bytes.
text-fits : (names : List (List ℕ)) (e : Element) (k : ℕ) (bytes : List ℕ) (rest : List Part) → size (branch_of names e).content ≤ 33554432
    → drop k (parts_of names e) ≡ text_part bytes ∷ rest → length bytes < 2 ^ 32
text-fits names e k bytes rest small is =
    let w = content_width (tag_of names e.name) (numbers_in (parts_of names e)) e.attributes (parts_of names e) in
    let part = part-size names e k (text_part bytes) rest is w (branch_of-content names e) in
    let own : size (words bytes ∷ []) ≡ length (segment_bytes (words bytes)) + size [] = size-cons (words bytes) [] in
    let long : length (segment_bytes (words bytes)) ≡ 4 + length bytes = omega arith in
    omega (arith, part, own, long, small)

-- A child element fits its parent.
child-fits : (names : List (List ℕ)) (e child : Element) (k : ℕ) (rest : List Part) → length names ≤ 256 → size (branch_of names e).content ≤ 33554432
    → drop k (parts_of names e) ≡ element_part (branch_of names child) ∷ rest
    → Fits (branch_of names e).below (binary_length (size (branch_of names e).content)) (branch_of names child)
child-fits names e child k rest few small is =
    let parts = parts_of names e in
    let b = branch_of names child in
    let w = content_width (tag_of names e.name) (numbers_in parts) e.attributes parts in
    let part = part-size names e k (element_part b) rest is w (branch_of-content names e) in
    let own = element-size (numbers_in parts) w b in
    let fits = content-fits names e small in
    let tag : b.tag < 256 = omega (arith, branch_of-tag names child, tag_of-small names child.name few) in
    let held : list_any (holds_number b.tag) parts ≡ true = held-drop b.tag k parts (ap (list_any (holds_number b.tag)) is ∙ holds-own b rest) in
    let there : has_member (branch_of names e).below b.tag ≡ true = ap (λ l. has_member l b.tag) (branch_of_below-numbers names e) ∙ has_member-numbers_in parts b.tag tag ∙ held in
    let most : length (branch_of names e).below ≤ 256 = omega (arith, ap length (branch_of_below-numbers names e), length-numbers_in parts) in
    record {
      number = rank-fits (branch_of names e).below b.tag most there;
      long = omega (arith, part, own, fits);
      small = omega (arith, part, own, small);
    }

-- An item fits the element that contains it.
pub item-fits : (names : List (List ℕ)) (e : Element) (k : ℕ) (rest : List Part) (item : Item) → length names ≤ 256 → size (branch_of names e).content ≤ 33554432
    → drop k (parts_of names e) ≡ part_of names item ∷ rest
    → PartFits (branch_of names e).below (binary_length (size (branch_of names e).content)) (part_of names item)
item-fits names e k rest item few small is =
    item_cases (λ i. drop k (parts_of names e) ≡ part_of names i ∷ rest → PartFits (branch_of names e).below (binary_length (size (branch_of names e).content)) (part_of names i))
    (λ bytes here. subst (PartFits (branch_of names e).below (binary_length (size (branch_of names e).content))) (sym (part_of-Text names bytes))
    (text-fits names e k bytes rest small (here ∙ ap (λ p. p ∷ rest) (part_of-Text names bytes))))
    (λ child here. subst (PartFits (branch_of names e).below (binary_length (size (branch_of names e).content))) (sym (part_of-Child names child))
    (child-fits names e child k rest few small (here ∙ ap (λ p. p ∷ rest) (part_of-Child names child))))
    item is
