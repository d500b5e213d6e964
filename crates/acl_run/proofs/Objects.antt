-- What becomes of objects that are unchanged, or that are not at fault.
use Rattle.std.proofs.Common.{◌≡◌, ℕ, ◌+◌, Bool, false, Option, List, refl, sym, subst, arith}
use Rattle.acl_outside.specs.Outside.{StoreRead}
use Rattle.acl_outside.proofs.Taking.{TakesAtMost-same}
use Rattle.acl_run.specs.Objects.{LeavesSource, LeavesSink, LeavesStore}

module _ {S : Type 0} (left : S → Option (List ℕ)) (faults : S → ℕ) where
  -- a source that is unchanged
  pub source-same : (limit : ℕ) (s : S) → LeavesSource left faults false limit s s
  source-same limit s = record { count = refl; never_falls = omega arith; telling = refl; taken = TakesAtMost-same (limit + 1) (left s) }

  -- a source that is not at fault
  pub source-no_fault : (limit : ℕ) (b : Bool) (old new : S) → b ≡ false → LeavesSource left faults false limit old new → LeavesSource left faults b limit old new
  source-no_fault limit b old new h kept = subst (λ b. LeavesSource left faults b limit old new) (sym h) kept

  -- a source that is unchanged, for any end that is not its fault
  pub source-unused : (limit : ℕ) (b : Bool) (s : S) → b ≡ false → LeavesSource left faults b limit s s
  source-unused limit b s h = source-no_fault limit b s s h (source-same limit s)

module _ {S : Type 0} (written : S → Option (List ℕ)) (missed : S → Option ℕ) (settled : S → Option (List ℕ)) (faults : S → ℕ) where
  -- a sink that is unchanged
  pub sink-same : (s : S) → LeavesSink written missed settled faults false s s
  sink-same s = record { count = refl; never_falls = omega arith; telling = refl; tells_missed = refl; tells_settled = refl }

  -- a sink that is unchanged, for any end that is not its fault
  pub sink-no_fault : (b : Bool) (s : S) → b ≡ false → LeavesSink written missed settled faults b s s
  sink-no_fault b s h = subst (λ b. LeavesSink written missed settled faults b s s) (sym h) (sink-same s)

module _ {S : Type 0} (holds : S → Option (List ℕ)) (served : S → Option (List StoreRead)) (faults : S → ℕ) where
  -- a store that is unchanged
  pub store-same : (s : S) → LeavesStore holds served faults false s s
  store-same s = record { count = refl; never_falls = omega arith; constant = refl; telling = refl }

  -- a store that is unchanged, for any end that is not its fault
  pub store-no_fault : (b : Bool) (s : S) → b ≡ false → LeavesStore holds served faults b s s
  store-no_fault b s h = subst (λ b. LeavesStore holds served faults b s s) (sym h) (store-same s)

-- for a command
pub ruleset objects = (source-same, source-no_fault, sink-same, sink-no_fault)
