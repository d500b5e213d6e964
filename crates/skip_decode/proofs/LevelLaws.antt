-- The open elements as they are stored in memory.
use Rattle.std.proofs.Common.{◌≡◌, ℕ, suc, ◌-◌, ◌<◌, ◌≤◌, Some, List, [], ◌∷◌, ◌++◌, length, take, drop, get_or, ap, sym, ◌∙◌, refl, subst, arith}
use Rattle.std.proofs.lemmas.List.{reverse-append, length-reverse, take_all, nil_from_length}
use Rattle.std.proofs.lemmas.Option.{none-some, same_Some, slice_get-get_or}
use Rattle.std.specs.List.{slice_get}
use Rattle.std.proofs.Math.ListN.{set, length-set}
use Rattle.std.proofs.Math.Seq.{take-suc, take-suc-set}
use Rattle.skip_decode.specs.declared.position.Level.{Level}
use Rattle.skip_decode.specs.Positions.{Numbers, tree_end}
use Rattle.skip_decode.specs.Spots.{AreNested, content_end}
use Rattle.skip_decode.specs.StreamSteps.{with_innermost, next_in}
use Rattle.skip_decode.specs.declared.position.Next.{Next}
use Rattle.skip_decode.specs.declared.position.Next.TheVariants.{End}
use Rattle.skip_decode.specs.inside.LevelsInMemory.{innermost_first, innermost}

-- the model of no elements
pub innermost_first-nil : innermost_first [] ≡ []
unfolding innermost_first
innermost_first-nil = refl

-- the last one in memory is the innermost
pub innermost_first-append : (levels : List Level) (level : Level) → innermost_first (levels ++ (level ∷ [])) ≡ level ∷ innermost_first levels
unfolding innermost_first
innermost_first-append levels level = reverse-append levels (level ∷ [])

-- the number of elements is the same
pub length-innermost_first : (levels : List Level) → length (innermost_first levels) ≡ length levels
unfolding innermost_first
length-innermost_first levels = length-reverse levels

-- no elements in memory are no elements
pub innermost_first-none : (levels : List Level) → length levels ≡ 0 → innermost_first levels ≡ []
innermost_first-none levels none = ap innermost_first (nil_from_length levels none) ∙ innermost_first-nil

-- the innermost element and those around it
pub innermost_first-last : (levels : List Level) (n : ℕ) (d : Level) → length levels ≡ suc n
    → innermost_first levels ≡ get_or levels n d ∷ innermost_first (take n levels)
innermost_first-last levels n d long =
    let whole : take (suc n) levels ≡ levels = take_all (suc n) levels (omega arith) in
    ap innermost_first (sym whole ∙ take-suc levels n d (omega arith)) ∙ innermost_first-append (take n levels) (get_or levels n d)

-- the same after the innermost one is written over
pub innermost_first-set_last : (levels : List Level) (n : ℕ) (level : Level) → length levels ≡ suc n
    → innermost_first (set levels n level) ≡ level ∷ innermost_first (take n levels)
innermost_first-set_last levels n level long =
    let same : length (set levels n level) ≡ suc n = length-set levels n level ∙ long in
    let whole : take (suc n) (set levels n level) ≡ set levels n level = take_all (suc n) (set levels n level) (omega arith) in
    ap innermost_first (sym whole ∙ take-suc-set levels n level (omega arith)) ∙ innermost_first-append (take n levels) level

-- the innermost one, where there is one
pub innermost-last : (levels : List Level) (n : ℕ) (d : Level) → length levels ≡ suc n → innermost (innermost_first levels) ≡ Some (get_or levels n d)
innermost-last levels n d long = ap innermost (innermost_first-last levels n d long)

-- the innermost one is replaced
pub replaced-last : (levels : List Level) (n : ℕ) (level : Level) → length levels ≡ suc n
    → innermost_first (set levels n level) ≡ with_innermost level (innermost_first levels)
replaced-last levels n level long =
    innermost_first-set_last levels n level long ∙ sym (ap (with_innermost level) (innermost_first-last levels n level long))

-- without the last one in memory the innermost one is closed
pub closed-last : (before after : List Level) → after ≡ take (length before - 1) before → innermost_first after ≡ drop 1 (innermost_first before)
closed-last [] after is = ap innermost_first is ∙ innermost_first-nil ∙ sym (ap (drop 1) innermost_first-nil)
closed-last (x ∷ xs) after is =
    let less : length (x ∷ xs) - 1 ≡ length xs = omega arith in
    ap innermost_first (is ∙ ap (λ n. take n (x ∷ xs)) less) ∙ sym (ap (drop 1) (innermost_first-last (x ∷ xs) (length xs) x refl))

-- what comes next where no element is open
pub next-none : (levels : List Level) (next : Next) → length levels ≡ 0 → next_in levels next ≡ End
next-none [] next none = refl
next-none (level ∷ up) next none = absurd (omega (arith, none))

-- what comes next where some element is open
pub next-some : (levels : List Level) (next : Next) → 0 < length levels → next_in levels next ≡ next
next-some [] next some = absurd (omega (arith, some))
next-some (level ∷ up) next some = refl

-- the last one in memory is the innermost one, if there is one
pub innermost-got : (levels : List Level) → slice_get levels (length levels - 1) ≡ innermost (innermost_first levels)
innermost-got [] = sym (ap innermost innermost_first-nil)
innermost-got (x ∷ xs) =
    let less : length (x ∷ xs) - 1 ≡ length xs = omega arith in
    ap (slice_get (x ∷ xs)) less ∙ slice_get-get_or (x ∷ xs) (length xs) x (omega arith) ∙ sym (innermost-last (x ∷ xs) (length xs) x refl)

-- where no element is open, none is replaced
pub replaced-none : (levels : List Level) (level : Level) → length levels ≡ 0 → innermost_first levels ≡ with_innermost level (innermost_first levels)
replaced-none levels level none =
    let empty : innermost_first levels ≡ [] = innermost_first-none levels none in
    empty ∙ sym (ap (with_innermost level) empty)

-- as many elements are open after one is replaced
pub length-with_innermost : (level : Level) (levels : List Level) → length (with_innermost level levels) ≡ length levels
length-with_innermost level [] = refl
length-with_innermost level (old ∷ up) = refl

-- ---- nested elements

-- each is within the tree section
pub end-in_tree : (k : Numbers) (levels : List Level) → AreNested k levels → content_end k levels ≤ tree_end k
end-in_tree k [] nested = omega arith
end-in_tree k (level ∷ up) nested = omega (arith, nested.0.within, end-in_tree k up nested.1)

-- so is the innermost one
pub innermost-in_tree : (k : Numbers) (levels : List Level) (level : Level) → AreNested k levels → innermost levels ≡ Some level → level.end ≤ tree_end k
innermost-in_tree k [] level nested is = absurd (none-some level is)
innermost-in_tree k (first ∷ up) level nested is = subst (λ (l : Level). l.end ≤ tree_end k) (same_Some first level is) (end-in_tree k (first ∷ up) nested)
