-- The writes of a loop join to one write, where each part is written by what the parts before it left.
use Rattle.std.proofs.Common.{◌≡◌, ℕ, List, [], ◌++◌, Option, Result, Ok, Err, Continue, Break, IsErr, OnOk, subst}
use Rattle.std.specs.Result.{result_from_control_flow}
use Rattle.acl_outside.specs.WrittenText.{Writes}
use Rattle.acl_outside.proofs.Remaining.{Remains, Remains-all, Remains-next, Writes-failed, Writes-all}

module _ {S T E : Type 0} {written : S → Option (List ℕ)} {missed : S → Option ℕ} {settled : S → Option (List ℕ)} {faults : S → ℕ} {old mid new : S}
    {q : Result T E} {piece rest all : List ℕ} (more : List ℕ) where
  -- a part is written, and others follow
  pub Remains-turn : {b : _} {t : T} → rest ≡ piece ++ more → Remains written missed settled faults old mid rest all
      → Writes written missed settled faults q mid new piece → q ≡ result_from_control_flow b → b ≡ Continue t
      → Remains written missed settled faults old new more all
  Remains-turn {t = t} cut before put answer flow = Remains-next {E = E} {t = t} more cut before (rw (answer, flow) at put)

  -- a part fails, and nothing is written after it
  pub Writes-turn_failed : {r : Result T E} {b : _} {x : _} → IsErr r → rest ≡ piece ++ more → Remains written missed settled faults old mid rest all
      → Writes written missed settled faults q mid new piece → q ≡ result_from_control_flow b → b ≡ Break x
      → Writes written missed settled faults r old new all
  Writes-turn_failed err cut before put answer flow = Writes-failed more err cut before (rw (answer, flow) at put)

module _ {S T E : Type 0} {written : S → Option (List ℕ)} {missed : S → Option ℕ} {settled : S → Option (List ℕ)} {faults : S → ℕ} {old : S} {t : T} where
  -- nothing is to be written
  pub Writes-nothing : (text : List ℕ) → [] ≡ text → Writes {E = E} written missed settled faults (Ok t) old old text
  Writes-nothing text none = subst (Writes {E = E} written missed settled faults (Ok t) old old) none (Writes-all Remains-all)

  -- nothing is left
  pub Writes-left : {new : S} {all rest : List ℕ} → rest ≡ [] → Remains written missed settled faults old new rest all → Writes {E = E} written missed settled faults (Ok t) old new all
  Writes-left {new = new} {all = all} none before = Writes-all (subst (λ r. Remains written missed settled faults old new r all) none before)

-- what is always true is true after Ok
pub OnOk-always : {T E P : Type 0} (r : Result T E) → P → OnOk r P
OnOk-always (Ok t) holds = holds
OnOk-always (Err e) holds = tt

-- ---- with another type of errors

module _ {S T E F : Type 0} {written : S → Option (List ℕ)} {missed : S → Option ℕ} {settled : S → Option (List ℕ)} {faults : S → ℕ} {old new : S} {text : List ℕ} {r : Result T E} where
  pub Writes-good : {t : T} → r ≡ Ok t → Writes written missed settled faults r old new text → Writes {E = F} written missed settled faults (Ok t) old new text
  Writes-good {t = t} is put =
      let good : Writes {E = E} written missed settled faults (Ok t) old new text = rw is at put in
      record {
        whole = good.whole;
        part = tt;
        missing = tt;
        cause = tt;
        never_falls = good.never_falls;
        quiet = good.quiet;
        telling = good.telling;
        tells_missed = good.tells_missed;
        tells_settled = good.tells_settled;
      }

  pub Writes-bad : {e : E} {f : F} → r ≡ Err e → Writes written missed settled faults r old new text → Writes {T = T} written missed settled faults (Err f) old new text
  Writes-bad {e = e} is put =
      let bad : Writes {T = T} written missed settled faults (Err e) old new text = rw is at put in
      record {
        whole = tt;
        part = bad.part;
        missing = bad.missing;
        cause = bad.cause;
        never_falls = bad.never_falls;
        quiet = tt;
        telling = bad.telling;
        tells_missed = bad.tells_missed;
        tells_settled = bad.tells_settled;
      }
