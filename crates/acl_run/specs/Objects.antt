-- What a run does to the objects that it is given. Defined by this project. An object is at fault where the run ended
-- by a fault of it. Its count of faults then rose, or is the last value of u64.
use Rattle.std.specs.Prelude.{◌≡◌, ℕ, ◌+◌, Bool, Option, List, is_some}
use Rattle.acl_outside.specs.Outside.{CountsWhere, NotFallen, TakesAtMost, StoreRead}

-- What a run does to a source. Its count of faults rose where it is at fault, and else is as it was. It tells its
-- bytes if and only if it did before. At most one byte more than its limit was taken.
pub record LeavesSource {S : Type 0} (left : S → Option (List ℕ)) (faults : S → ℕ) (at_fault : Bool)
    (limit : ℕ) (old new : S) : Type 0 where
  pub count : CountsWhere at_fault (faults old) (faults new)
  pub never_falls : NotFallen (faults old) (faults new)
  pub telling : is_some (left new) ≡ is_some (left old)
  pub taken : TakesAtMost (limit + 1) (left old) (left new)

-- What a run does to a sink. Its count of faults rose where it is at fault, and else is as it was. It tells the bytes
-- written, the bytes missed and the bytes settled if and only if it did before.
pub record LeavesSink {S : Type 0} (written : S → Option (List ℕ)) (missed : S → Option ℕ)
    (settled : S → Option (List ℕ)) (faults : S → ℕ) (at_fault : Bool) (old new : S) : Type 0 where
  pub count : CountsWhere at_fault (faults old) (faults new)
  pub never_falls : NotFallen (faults old) (faults new)
  pub telling : is_some (written new) ≡ is_some (written old)
  pub tells_missed : is_some (missed new) ≡ is_some (missed old)
  pub tells_settled : is_some (settled new) ≡ is_some (settled old)

-- What a run does to a store. Its count of faults rose where it is at fault, and else is as it was. It contains the
-- same bytes. It tells what it served if and only if it did before.
pub record LeavesStore {S : Type 0} (holds : S → Option (List ℕ)) (served : S → Option (List StoreRead))
    (faults : S → ℕ) (at_fault : Bool) (old new : S) : Type 0 where
  pub count : CountsWhere at_fault (faults old) (faults new)
  pub never_falls : NotFallen (faults old) (faults new)
  pub constant : holds new ≡ holds old
  pub telling : is_some (served new) ≡ is_some (served old)
