-- The tree of a document under its dictionary: its length follows from a tally, and its root fits its width.
use Rattle.std.proofs.Common.{◌≡◌, ℕ, zero, suc, ◌+◌, ◌-◌, ◌*◌, ◌/◌, ◌%◌, ◌^◌, ◌<◌, ◌≤◌, nat_lt, take, replicate, take_all, cond, true, false, List, [], ◌∷◌, ◌++◌, length, refl, ap, sym, subst, ◌∙◌, inl, inr, append-nil, append_assoc, length-append, arith}
use Rattle.std.specs.List.{range_with_len}
use Rattle.std.proofs.lemmas.Bool.{cases_lt}
use Rattle.std.proofs.lemmas.Bool.Decides.{nat_tests}
use Rattle.std.proofs.lemmas.List.FromFn.{length-range_with_len}
use Rattle.acl_bits.specs.Row.{row_of}
use Rattle.acl_bits.specs.inside.RowLaws.{numbers_below, range_with_len-more, row_of-numbers_below, is_member-row_of}
use Rattle.acl_model.specs.Width.{least_width, binary_length}
use Rattle.acl_model.specs.Stream.{Segment, element_part, size, bytes_of_segments, rank, has_member, numbers_with, part_segments, tree_at, filled_fragments, branch_of}
use Rattle.acl_model.specs.declared.document.Element.{Element}
use Rattle.acl_model.proofs.SizeLaws.{size-nil}
use Rattle.acl_model.proofs.WidthLaws.{binary_length-least}
use Rattle.skip_encode.specs.declared.measures.Measure.{Measure}
use Rattle.skip_encode.specs.declared.tally.Tally.{Tally}
use Rattle.skip_encode.specs.inside.Measures.{measure_of, Fits}
use Rattle.skip_encode.specs.PlainStream.{tree_under}
use Rattle.skip_encode.specs.inside.Tallies.{tally_of, with_element, laid_size, laid_length}
use Rattle.skip_encode.proofs.Widths.{least_width-same, least_width-most, binary_length-fits}
use Rattle.skip_encode.proofs.Members.{numbers_with-row_of, has_member-is_member}
use Rattle.skip_encode.proofs.Tallying.{with_part-size, no_parts-size, element-size, laid_size-grows}
use Rattle.skip_encode.proofs.Contents.{branch_of-tag, tag_of-within}
use Rattle.skip_encode.proofs.Whole.{least_width-low, rank-fits}

-- ---- the members of the virtual parent

-- All numbers below n are below c.
below_whole : (c n : ℕ) → n ≤ c → numbers_below (λ m. nat_lt m c) n ≡ range_with_len 0 n
unfolding numbers_below
below_whole c zero within = refl
below_whole c (suc n) within =
    let last : 0 + n ≡ n = omega arith in
    let passes : nat_lt n c ≡ true = grind (arith, nat_tests) in
    ap (λ b. numbers_below (λ m. nat_lt m c) n ++ cond b (n ∷ []) []) passes
    ∙ ap (λ xs. xs ++ (n ∷ [])) (below_whole c n (omega arith))
    ∙ sym (range_with_len-more 0 n ∙ ap (λ x. range_with_len 0 n ++ (x ∷ [])) last)

-- No number from c on is below c.
below_rest : (c n : ℕ) → c ≤ n → numbers_below (λ m. nat_lt m c) n ≡ range_with_len 0 c
unfolding numbers_below
below_rest c zero within =
    let same : zero ≡ c = omega arith in
    ap (range_with_len 0) same
below_rest c (suc n) within = elim (cases_lt n c) [
  | inl past ↦
      let same : suc n ≡ c = omega arith in
      below_whole c (suc n) (omega arith) ∙ ap (range_with_len 0) same
  | inr after ↦
      let fails : nat_lt n c ≡ false = grind (arith, nat_tests) in
      ap (λ b. numbers_below (λ m. nat_lt m c) n ++ cond b (n ∷ []) []) fails
      ∙ append-nil (numbers_below (λ m. nat_lt m c) n) ∙ below_rest c n after
]

-- the set of the numbers of a dictionary's names
pub all-members : (n : ℕ) → n ≤ 256 → numbers_with (λ k. nat_lt k n) ≡ range_with_len 0 n
all-members n few = numbers_with-row_of (λ k. nat_lt k n) ∙ row_of-numbers_below (λ k. nat_lt k n) ∙ below_rest n 256 few

length-all : (n : ℕ) → n ≤ 256 → length (numbers_with (λ k. nat_lt k n)) ≡ n
length-all n few = ap length (all-members n few) ∙ length-range_with_len 0 n

-- Each of these numbers is a member.
all-has : (n k : ℕ) → n ≤ 256 → k < n → has_member (numbers_with (λ m. nat_lt m n)) k ≡ true
all-has n k few below =
    let passes : nat_lt k n ≡ true = grind (arith, nat_tests) in
    ap (λ l. has_member l k) (numbers_with-row_of (λ m. nat_lt m n))
    ∙ has_member-is_member (row_of (λ m. nat_lt m n)) k ∙ is_member-row_of (λ m. nat_lt m n) k (omega arith) ∙ passes

-- ---- the length of the tree

-- the tally of the root alone
abbrev pub root_tally : List (List ℕ) → Element → Tally
root_tally names root = tally_of 0 (element_part (branch_of names root) ∷ [])

-- For each width, the length of the tree is the one that follows from the root's tally.
pub tree-laid : (names : List (List ℕ)) (root : Element) → length names ≤ 256 → (w : ℕ)
    → size (tree_at (length names) (branch_of names root) w) ≡ laid_size (length names) (root_tally names root) w
tree-laid names root few w =
    let members = numbers_with (λ k. nat_lt k (length names)) in
    let all = with_part-size members w (element_part (branch_of names root)) (tally_of 0 []) in
    let none = no_parts-size (length members) w 0 in
    let long = length-all (length names) few in
    let same : laid_size (length members) (root_tally names root) w ≡ laid_size (length names) (root_tally names root) w = ap (λ m. laid_size m (root_tally names root) w) long in
    omega (arith, all, none, size-nil, same)

-- The same is true for the least width.
pub tree-size : (names : List (List ℕ)) (root : Element) → length names ≤ 256 → size (tree_under names root) ≡ laid_length (length names) (root_tally names root)
unfolding tree_under
tree-size names root few =
    let at : ℕ → ℕ = λ w. size (tree_at (length names) (branch_of names root) w) in
    let width : least_width at ≡ least_width (laid_size (length names) (root_tally names root)) = least_width-same at (laid_size (length names) (root_tally names root)) (tree-laid names root few) in
    tree-laid names root few (least_width at) ∙ ap (laid_size (length names) (root_tally names root)) width

-- The root's content is no larger than the tree.
pub tree-part : (names : List (List ℕ)) (root : Element) → size (branch_of names root).content ≤ size (tree_under names root)
unfolding tree_under
tree-part names root =
    let w = least_width (λ v. size (tree_at (length names) (branch_of names root) v)) in
    omega (arith, element-size (numbers_with (λ k. nat_lt k (length names))) w (branch_of names root))

-- ---- the width of the tree

-- The width is the number of binary digits of the tree's length.
pub tree-digits : (names : List (List ℕ)) (root : Element) → length names ≤ 256 → size (tree_under names root) ≤ 33554432
    → least_width (λ w. size (tree_at (length names) (branch_of names root) w)) ≡ binary_length (size (tree_under names root))
unfolding tree_under
tree-digits names root few small =
    let at : ℕ → ℕ = λ w. size (tree_at (length names) (branch_of names root) w) in
    let w = least_width at in
    let low = least_width-low at (omega (arith, small)) in
    sym (binary_length-least at w
    (λ v below. omega (arith, tree-laid names root few v, tree-laid names root few w, laid_size-grows (length names) (root_tally names root) v w below))
    (least_width-most at) low)

-- The root fits the virtual parent with this width.
pub root-fits : (names : List (List ℕ)) (root : Element) (members : List ℕ) (w : ℕ) → 1 ≤ length names → length names ≤ 256 → size (tree_under names root) ≤ 33554432
    → members ≡ range_with_len 0 (length names) → w ≡ binary_length (size (tree_under names root)) → Fits members w (branch_of names root)
root-fits names root members w some few small own_members own_width =
    let b = branch_of names root in
    let all = numbers_with (λ k. nat_lt k (length names)) in
    let is : members ≡ all = own_members ∙ sym (all-members (length names) few) in
    let tag : b.tag < length names = omega (arith, branch_of-tag names root, tag_of-within names root.name some) in
    let number : rank all b.tag < 2 ^ binary_length (length all - 1) = rank-fits all b.tag (omega (arith, length-all (length names) few)) (all-has (length names) b.tag few tag) in
    let digits = binary_length-fits (size (tree_under names root)) (omega arith) in
    record {
      number = subst (λ l. rank l b.tag < 2 ^ binary_length (length l - 1)) (sym is) number;
      long = subst (λ n. size b.content < 2 ^ n) (sym own_width) (omega (arith, tree-part names root, digits));
      small = omega (arith, tree-part names root, small);
    }

-- ---- the code's numbers for the tree

-- The root's measure, added to an empty tally, gives the root's tally.
pub root-tally : (names : List (List ℕ)) (root : Element) (m : Measure) (old new : Tally) → m ≡ measure_of (branch_of names root) → old ≡ tally_of 0 [] → new ≡ with_element m old
    → new ≡ root_tally names root
root-tally names root m old new is empty added = added ∙ ap (λ x. with_element x old) is ∙ ap (with_element (measure_of (branch_of names root))) empty

-- The length that the code computes is that of the tree.
pub tree-found : (names : List (List ℕ)) (root : Element) (t : Tally) (members tree : ℕ) → length names ≤ 256 → t ≡ root_tally names root → members ≡ length names → tree ≡ laid_length members t
    → tree ≡ size (tree_under names root)
tree-found names root t members tree few is count found =
    found ∙ ap (laid_length members) is ∙ ap (λ m. laid_length m (root_tally names root)) count ∙ sym (tree-size names root few)

-- The root written in the virtual parent is the tree.
pub tree-bytes : (names : List (List ℕ)) (root : Element) (members : List ℕ) (w : ℕ) → length names ≤ 256 → size (tree_under names root) ≤ 33554432
    → members ≡ range_with_len 0 (length names) → w ≡ binary_length (size (tree_under names root))
    → bytes_of_segments (part_segments members w (element_part (branch_of names root))) ≡ bytes_of_segments (tree_under names root)
unfolding tree_under
tree-bytes names root members w few small own_members own_width =
    ap (λ l. bytes_of_segments (part_segments l w (element_part (branch_of names root)))) (own_members ∙ sym (all-members (length names) few))
    ∙ ap (λ n. bytes_of_segments (tree_at (length names) (branch_of names root) n)) (own_width ∙ sym (tree-digits names root few small))

-- Filling with zeros to a whole number of fragments, after bytes that were there before.
pub filled : (old bytes : List ℕ) (end : ℕ) → end ≡ length old + 256 * ((length bytes + 255) / 256)
    → take end (old ++ bytes) ++ replicate (end - length (old ++ bytes)) 0 ≡ old ++ filled_fragments bytes
filled old bytes end is =
    let long : length (old ++ bytes) ≡ length old + length bytes = length-append old bytes in
    let zeros : end - length (old ++ bytes) ≡ (256 - length bytes % 256) % 256 = omega arith in
    ap (λ l. l ++ replicate (end - length (old ++ bytes)) 0) (take_all end (old ++ bytes) (omega arith))
    ∙ ap (λ n. (old ++ bytes) ++ replicate n 0) zeros
    ∙ append_assoc old bytes (replicate ((256 - length bytes % 256) % 256) 0)

-- The size of segments is the number of their bytes.
pub length-bytes : (segments : List Segment) → length (bytes_of_segments segments) ≡ size segments
unfolding size
length-bytes segments = refl
