-- A stream that is read by its fragments of 256 bytes. What was read so far narrows which stream it
-- may be. Defined by this project.
use Rattle.std.specs.Prelude.{◌≡◌, ℕ, ◌*◌, ◌⊎◌, Option, None, Some, Result, Ok, Err, MatchResult, List, ◌∷◌, take, drop}
use Rattle.acl_outside.specs.declared.read_fault.ReadFault.{ReadFault}
use Rattle.acl_outside.specs.declared.read_fault.ReadFault.TheVariants.{BadIndex}

-- the fragment of a stream at an index, counted from 0
abbrev pub fragment_of : List ℕ → ℕ → List ℕ
fragment_of stream index = take 256 (drop (256 * index) stream)

-- The fact holds of each stream that may be the one that is read.
abbrev pub ForEach : (List ℕ → Type 0) → (List ℕ → Type 0) → Type 0
ForEach may_be holds = (stream : List ℕ) → may_be stream → holds stream

-- Each stream that may be the one that is read after a call, by the second fact, could be it
-- before, by the first.
abbrev pub Narrows : (List ℕ → Type 0) → (List ℕ → Type 0) → Type 0
Narrows before after = ForEach after before

-- No stream may be the one that is read.
abbrev pub FitsNone : (List ℕ → Type 0) → Type 0
FitsNone may_be = ForEach may_be (λ stream. ⊥)

-- What led to the state before a call leads to the state after it.
abbrev pub Leads : {F : Type 0} → (F → F → Type 0) → F → F → Type 0
Leads {F} went before after = (past : F) → went past before → went past after

-- After Ok the refusal that is repeated, if there is one, is as it was. After a refusal it is this one.
abbrev pub Refuses : {T : Type 0} → Result T ReadFault → Option ReadFault → Option ReadFault → Type 0
Refuses result before after =
    MatchResult result (λ done. after ≡ before) (λ fault. after ≡ Some fault)

-- The same, but a refusal may also be `BadIndex` where nothing is repeated that wasn't before.
abbrev pub RefusesOrBad : {T : Type 0} → Result T ReadFault → Option ReadFault → Option ReadFault → Type 0
RefusesOrBad result before after =
    MatchResult result (λ done. after ≡ before)
    (λ fault. (after ≡ Some fault) ⊎ ((fault ≡ BadIndex) × (after ≡ before)))

-- The fragment at the index was opened, or none was.
abbrev pub OpensOrNone : ℕ → List ℕ → List ℕ → Type 0
OpensOrNone index before after = (after ≡ index ∷ before) ⊎ (after ≡ before)

-- The indexes of the fragments opened, the newest first, after the fragment at an index was
-- fetched. A fetch that is refused may have opened it. They are told after exactly where they were
-- told before.
abbrev pub OpensFragment : Result (Unit {0}) ReadFault → ℕ → Option (List ℕ) → Option (List ℕ)
    → Type 0
OpensFragment result index None None = Unit {0}
OpensFragment result index None (Some after) = ⊥
OpensFragment result index (Some before) None = ⊥
OpensFragment (Ok done) index (Some before) (Some after) = after ≡ index ∷ before
OpensFragment (Err fault) index (Some before) (Some after) = OpensOrNone index before after
