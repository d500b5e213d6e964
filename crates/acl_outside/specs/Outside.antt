-- Definitions that the contracts of sources, sinks and stores share. What an object tells (what contracts can see of
-- it) is an `Option`. None claims nothing; where it was Some before a call, it is Some after it. Defined by this
-- project.
use Rattle.std.specs.Prelude.{◌≡◌, ℕ, ◌+◌, ◌-◌, ◌^◌, ◌<◌, ◌≤◌, ◌⊎◌, ◌++◌, Bool, true, false, List, [], ◌∷◌, Option, Some, None, length, take, drop}

-- the count is greater than at the start of the call, or is the last value of u64
abbrev pub Rose : ℕ → ℕ → Type 0
Rose old new = (old < new) ⊎ (new ≡ 2 ^ 64 - 1)

-- the count is not less than at the start of the call
abbrev pub NotFallen : ℕ → ℕ → Type 0
NotFallen old new = old ≤ new

-- the count is as it was at the start of the call
abbrev pub SameCount : ℕ → ℕ → Type 0
SameCount old new = new ≡ old

-- where the answer is a fault of the object (`true`) its count rose, and elsewhere it is as it was
abbrev pub CountsWhere : Bool → ℕ → ℕ → Type 0
CountsWhere true old new = Rose old new
CountsWhere false old new = new ≡ old

-- where the bytes to come are told: at most `most` of them were taken, from their start
abbrev pub TakesAtMost : ℕ → Option (List ℕ) → Option (List ℕ) → Type 0
TakesAtMost most None new = Unit {0}
TakesAtMost most (Some before) None = ⊥
TakesAtMost most (Some before) (Some after) =
    (length before ≤ length after + most) × (after ≡ drop (length before - length after) before)

-- the bytes grew by a prefix of the piece
abbrev pub AppendsPart : Option (List ℕ) → Option (List ℕ) → List ℕ → Type 0
AppendsPart None new piece = Unit {0}
AppendsPart (Some before) None piece = ⊥
AppendsPart (Some before) (Some after) piece =
    (length before ≤ length after) × (take (length after) (before ++ piece) ≡ after)

-- where both are told: all bytes taken are settled, and none is held back
abbrev pub AreAllSettled : Option (List ℕ) → Option (List ℕ) → Type 0
AreAllSettled None taken = Unit {0}
AreAllSettled (Some settled) None = Unit {0}
AreAllSettled (Some settled) (Some taken) = settled ≡ taken

-- where all are told: the appended bytes and the missing ones are together as many as the piece has
abbrev pub Misses : Option (List ℕ) → Option (List ℕ) → Option ℕ → List ℕ → Type 0
Misses None new missing piece = Unit {0}
Misses (Some before) None missing piece = Unit {0}
Misses (Some before) (Some after) None piece = Unit {0}
Misses (Some before) (Some after) (Some missing) piece =
    length after + missing ≡ length before + length piece

-- where all are told: `all` is longer than what was appended by at least `missing` bytes
abbrev pub MissesAtLeast : Option (List ℕ) → Option (List ℕ) → Option ℕ → List ℕ → Type 0
MissesAtLeast None new missing all = Unit {0}
MissesAtLeast (Some before) None missing all = Unit {0}
MissesAtLeast (Some before) (Some after) None all = Unit {0}
MissesAtLeast (Some before) (Some after) (Some missing) all =
    length after + missing ≤ length before + length all

-- a good read of a store (one that succeeded): its byte offset, how many bytes were asked for, and the bytes that came
pub record StoreRead : Type 0 where
  pub at : ℕ
  pub asked : ℕ
  pub bytes : List ℕ

-- the good reads grew by this one
abbrev pub Serves : Option (List StoreRead) → Option (List StoreRead) → StoreRead → Type 0
Serves None new read = Unit {0}
Serves (Some before) None read = ⊥
Serves (Some before) (Some after) read = after ≡ before ++ (read ∷ [])

-- the good reads are those before the call
abbrev pub KeepsServed : Option (List StoreRead) → Option (List StoreRead) → Type 0
KeepsServed None new = Unit {0}
KeepsServed (Some before) None = ⊥
KeepsServed (Some before) (Some after) = after ≡ before
