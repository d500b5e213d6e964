-- How the bytes that several calls take of a source add up, where each takes at most so many.
use Rattle.std.proofs.Common.{◌≡◌, ℕ, ◌+◌, ◌-◌, ◌≤◌, List, length, drop, Option, Some, None, sym, ap, ◌∙◌, arith, length-append}
use Rattle.std.proofs.Math.Seq.{drop-append_seam}
use Rattle.std.proofs.lemmas.List.{drop-drop, length-drop}
use Rattle.std.specs.Io.KnownBytes.{Consumes, Keeps}
use Rattle.acl_outside.specs.Outside.{TakesAtMost}

-- bytes that were consumed were taken
pub TakesAtMost-consumed : (most : ℕ) (a b : Option (List ℕ)) (xs : List ℕ)
    → Consumes a b xs → length xs ≤ most → TakesAtMost most a b
TakesAtMost-consumed most None b xs took within = tt
TakesAtMost-consumed most (Some al) None xs took within = absurd took
TakesAtMost-consumed most (Some al) (Some bl) xs took within =
    let sum : length al ≡ length xs + length bl = ap length took ∙ length-append xs bl in
    let count : length al - length bl ≡ length xs = omega arith in
    (omega arith, sym (rw (count, took) (drop-append_seam xs bl)))

-- nothing was taken
pub TakesAtMost-same : (most : ℕ) (a : Option (List ℕ)) → TakesAtMost most a a
TakesAtMost-same most None = tt
TakesAtMost-same most (Some al) =
    let none : length al - length al ≡ 0 = omega arith in
    (omega arith, rw none)

-- bytes that stayed as they were
pub TakesAtMost-kept : (most : ℕ) (a b : Option (List ℕ)) → Keeps a b → TakesAtMost most a b
TakesAtMost-kept most None b kept = tt
TakesAtMost-kept most (Some al) None kept = absurd kept
TakesAtMost-kept most (Some al) (Some bl) kept = rw kept (TakesAtMost-same most (Some al))

-- more is allowed where less was
pub TakesAtMost-more : (less most : ℕ) (a b : Option (List ℕ))
    → less ≤ most → TakesAtMost less a b → TakesAtMost most a b
TakesAtMost-more less most None b within took = tt
TakesAtMost-more less most (Some al) None within took = took
TakesAtMost-more less most (Some al) (Some bl) within took = (omega (arith, took.0), took.1)

-- one after another
pub TakesAtMost-then : (first next most : ℕ) (a b c : Option (List ℕ)) → first + next ≤ most
    → TakesAtMost first a b → TakesAtMost next b c → TakesAtMost most a c
TakesAtMost-then first next most None b c within took more = tt
TakesAtMost-then first next most (Some al) None c within took more = absurd took
TakesAtMost-then first next most (Some al) (Some bl) None within took more = absurd more
TakesAtMost-then first next most (Some al) (Some bl) (Some cl) within took more =
    let m : ℕ = length al - length bl in
    let n : ℕ = length bl - length cl in
    let shorter : length bl ≤ length al = omega (arith, ap length took.1, length-drop m al) in
    let shortest : length cl ≤ length bl = omega (arith, ap length more.1, length-drop n bl) in
    let count : m + n ≡ length al - length cl = omega arith in (
      omega (arith, took.0, more.0),
      more.1 ∙ ap (drop n) took.1 ∙ drop-drop n m al ∙ ap (λ k. drop k al) count,
    )

-- bytes that were consumed, and then others taken
pub TakesAtMost-after : (next most : ℕ) (a b c : Option (List ℕ)) (xs : List ℕ)
    → length xs + next ≤ most → Consumes a b xs → TakesAtMost next b c → TakesAtMost most a c
TakesAtMost-after next most a b c xs within took more =
    TakesAtMost-then (length xs) next most a b c within
    (TakesAtMost-consumed (length xs) a b xs took (omega arith)) more

-- bytes that were consumed, and then none
pub TakesAtMost-before_kept : (most : ℕ) (a b c : Option (List ℕ)) (xs : List ℕ)
    → length xs ≤ most → Consumes a b xs → Keeps b c → TakesAtMost most a c
TakesAtMost-before_kept most a b c xs within took kept =
    TakesAtMost-after 0 most a b c xs (omega arith) took (TakesAtMost-kept 0 b c kept)

pub ruleset taking = (
  TakesAtMost-consumed,
  TakesAtMost-same,
  TakesAtMost-kept,
  TakesAtMost-more,
  TakesAtMost-then,
  TakesAtMost-after,
  TakesAtMost-before_kept,
)
