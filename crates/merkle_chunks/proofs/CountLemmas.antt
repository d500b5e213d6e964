-- How many digests each level of a table has, and which level is its top.
use Rattle.std.proofs.Common.{◌≡◌, ℕ, zero, suc, ◌+◌, ◌-◌, ◌*◌, ◌/◌, ◌^◌, ◌<◌, ◌≤◌, Bool, inl, inr, refl, sym, ap, ◌∙◌, subst, arith, add-one}
use Rattle.std.specs.Prelude.{if◌then◌else◌}
use Rattle.std.specs.Int.{div_ceil}
use Rattle.std.proofs.Math.Nat.{add-div_right, div-div-eq-div-mul, pow-suc}
use Rattle.std.proofs.lemmas.Nat.{pow_pos}
use Rattle.std.proofs.lemmas.Bool.Decides.{leb_tells, nat_tests}
use Rattle.merkle_chunks.specs.Table.{level_count, count_below, halvings, top_level, digest_count, IsTopLevel}

-- half of a number, rounded up
pub half_up : (c : ℕ) → div_ceil c 2 ≡ (c + 1) / 2
half_up c = grind (arith, nat_tests)

-- ---- one level more, on top or at the bottom

pub level_count-more : (n l : ℕ) → level_count n (l + 1) ≡ (level_count n l + 1) / 2
level_count-more n l = ap (level_count n) (add-one l)

pub count_below-more : (n l : ℕ) → count_below n (l + 1) ≡ count_below n l + level_count n l
count_below-more n l = ap (count_below n) (add-one l)

-- the level above the lowest is the lowest of the rest
pub level_count-rest : (n l : ℕ) → level_count n (suc l) ≡ level_count ((n + 1) / 2) l
level_count-rest n zero = refl
level_count-rest n (suc l) = ap (λ (c : ℕ). (c + 1) / 2) (level_count-rest n l)

pub count_below-rest : (n l : ℕ) → count_below n (suc l) ≡ n + count_below ((n + 1) / 2) l
count_below-rest n zero = omega arith
count_below-rest n (suc l) = omega (arith, count_below-rest n l, level_count-rest n l)

-- twice a level and the levels below it are at most twice the fragments and the number of the level
pub counts-le : (n l : ℕ) → count_below n l + 2 * level_count n l ≤ 2 * n + l
counts-le n zero = omega arith
counts-le n (suc l) = omega (arith, counts-le n l)

-- ---- halvings

pub halvings-few : (most c : ℕ) → c ≤ 1 → halvings most c ≡ 0
halvings-few zero c few = refl
halvings-few (suc most) c few =
    elim (leb_tells c 1) [
      | inl p ↦ ap (λ (b : Bool). if b then 0 else suc (halvings most ((c + 1) / 2))) p.0
      | inr p ↦ absurd (omega (arith, p.1))
    ]

pub halvings-many : (most c : ℕ) → 1 < c → halvings (suc most) c ≡ suc (halvings most ((c + 1) / 2))
halvings-many most c many =
    elim (leb_tells c 1) [
      | inl p ↦ absurd (omega (arith, p.1))
      | inr p ↦ ap (λ (b : Bool). if b then 0 else suc (halvings most ((c + 1) / 2))) p.0
    ]

-- a greater bound on the number of halvings changes nothing
pub halvings-enough : (most more c : ℕ) → c ≤ most + 1 → c ≤ more + 1 → halvings most c ≡ halvings more c
halvings-enough zero more c fits also = sym (halvings-few more c (omega arith))
halvings-enough (suc most) zero c fits also = halvings-few (suc most) c (omega arith)
halvings-enough (suc most) (suc more) c fits also =
    elim (leb_tells c 1) [
      | inl p ↦ halvings-few (suc most) c p.1 ∙ sym (halvings-few (suc more) c p.1)
      | inr p ↦ halvings-many most c p.1
          ∙ ap (λ (k : ℕ). suc k) (halvings-enough most more ((c + 1) / 2) (omega arith) (omega arith))
          ∙ sym (halvings-many more c p.1)
    ]

halvings-le : (most c : ℕ) → halvings most c ≤ most
halvings-le zero c = omega arith
halvings-le (suc most) c =
    elim (leb_tells c 1) [
      | inl p ↦ omega (arith, halvings-few (suc most) c p.1)
      | inr p ↦ omega (arith, halvings-many most c p.1, halvings-le most ((c + 1) / 2))
    ]

-- ---- the top level

pub top_level-few : (n : ℕ) → n ≤ 1 → top_level n ≡ 0
unfolding top_level
top_level-few n few = halvings-few n n few

pub top_level-many : (n : ℕ) → 1 < n → top_level n ≡ suc (top_level ((n + 1) / 2))
unfolding top_level
top_level-many zero many = absurd (omega arith)
top_level-many (suc m) many =
    halvings-many m (suc m) many
    ∙ ap (λ (k : ℕ). suc k) (halvings-enough m ((suc m + 1) / 2) ((suc m + 1) / 2) (omega arith) (omega arith))

pub top_level-le : (n : ℕ) → top_level n ≤ n
unfolding top_level
top_level-le n = halvings-le n n

-- so one more level has a number that fits where the number of fragments does
pub top_level-half : (n : ℕ) → top_level n ≤ 1 + (n + 1) / 2
top_level-half n =
    elim (leb_tells n 1) [
      | inl p ↦ omega (arith, top_level-few n p.1)
      | inr p ↦ omega (arith, top_level-many n p.1, top_level-le ((n + 1) / 2))
    ]

single_on_top : (most n : ℕ) → 1 ≤ n → n ≤ most + 1 → level_count n (halvings most n) ≡ 1
single_on_top zero n some fits = omega arith
single_on_top (suc most) n some fits =
    elim (leb_tells n 1) [
      | inl p ↦ ap (level_count n) (halvings-few (suc most) n p.1) ∙ omega (arith, p.1)
      | inr p ↦ ap (level_count n) (halvings-many most n p.1)
          ∙ level_count-rest n (halvings most ((n + 1) / 2))
          ∙ single_on_top most ((n + 1) / 2) (omega arith) (omega arith)
    ]

many_below_top : (most n l : ℕ) → l < halvings most n → 1 < level_count n l
many_below_top zero n l below = absurd (omega arith)
many_below_top (suc most) n zero below =
    elim (leb_tells n 1) [
      | inl p ↦ absurd (omega (arith, halvings-few (suc most) n p.1))
      | inr p ↦ p.1
    ]
many_below_top (suc most) n (suc l) below =
    elim (leb_tells n 1) [
      | inl p ↦ absurd (omega (arith, halvings-few (suc most) n p.1))
      | inr p ↦ subst (λ (c : ℕ). 1 < c) (sym (level_count-rest n l))
          (many_below_top most ((n + 1) / 2) l (omega (arith, halvings-many most n p.1)))
    ]

-- the top level is the first one with a single digest
pub top_level-is : (n : ℕ) → 1 ≤ n → IsTopLevel n (top_level n)
unfolding top_level
top_level-is n some = record {
  single = single_on_top n n some (omega arith);
  first = λ lower below. many_below_top n n lower below;
}

-- there is only one such level
pub one_top_level : (n k l : ℕ) → IsTopLevel n k → IsTopLevel n l → k ≡ l
one_top_level n k l here there =
    elim (leb_tells k l) [
      | inl p ↦ elim (leb_tells l k) [
        | inl q ↦ omega (arith, p.1, q.1)
        | inr q ↦ absurd (omega (arith, there.first k q.1, here.single))
      ]
      | inr p ↦ absurd (omega (arith, here.first l p.1, there.single))
    ]

-- the digests of a table are the fragments' and those above them
pub digest_count-many : (n : ℕ) → 1 < n → digest_count n ≡ n + digest_count ((n + 1) / 2)
digest_count-many n many =
    ap (λ (l : ℕ). count_below n (suc l)) (top_level-many n many) ∙ count_below-rest n (suc (top_level ((n + 1) / 2)))

pub digest_count-one : digest_count 1 ≡ 1
digest_count-one = ap (λ (l : ℕ). count_below 1 (suc l)) (top_level-few 1 (omega arith))

-- and no fewer than the fragments
pub digest_count-least : (n : ℕ) → n ≤ digest_count n
digest_count-least n = omega (arith, count_below-rest n (top_level n))

-- ---- in powers of two

halved : (n p : ℕ) → 1 ≤ p → ((n + p - 1) / p + 1) / 2 ≡ (n + p * 2 - 1) / (p * 2)
halved n p some =
    let split : n + p * 2 - 1 ≡ n + p - 1 + p = omega arith in
    let more : (n + p * 2 - 1) / p ≡ (n + p - 1) / p + 1 = ap (λ (m : ℕ). m / p) split ∙ add-div_right (n + p - 1) some in
    ap (λ (c : ℕ). c / 2) (sym more) ∙ div-div-eq-div-mul (n + p * 2 - 1) p 2

-- a level has its fragments divided by a power of two, rounded up
pub level_count-powers : (n l : ℕ) → level_count n l ≡ (n + 2 ^ l - 1) / 2 ^ l
level_count-powers n zero = omega arith
level_count-powers n (suc l) =
    ap (λ (c : ℕ). (c + 1) / 2) (level_count-powers n l)
    ∙ halved n (2 ^ l) (pow_pos l)
    ∙ ap (λ (p : ℕ). (n + p - 1) / p) (sym (pow-suc 2 l))

-- the most fragments of a file have seventeen levels above them
pub top_level-low : (n : ℕ) → n ≤ 131072 → top_level n ≤ 17
top_level-low n few =
    elim (leb_tells (top_level n) 17) [
      | inl p ↦ p.1
      | inr p ↦ absurd (omega (arith, level_count-powers n 17, (top_level-is n (omega (arith, p.1, top_level-le n))).first 17 p.1))
    ]
