-- The outcome of writing a text to a sink. Defined by this project.
use Rattle.std.specs.Prelude.{◌≡◌, ℕ, List, Option, Result, is_some, map, OnOk, OnErr}
use Rattle.std.specs.Borrow.{Bor}
use Rattle.std.specs.Io.KnownBytes.{Appends}
use Rattle.std.specs.List.{concat}
use Rattle.acl_outside.specs.Outside.{Rose, NotFallen, AppendsPart, MissesAtLeast}

-- A text was written to a sink: the sink took all of it, or a prefix of it where it failed. The sink counted a fault
-- only where it failed, and tells the same things as before.
pub record Writes {S T E : Type 0}
    (written : S → Option (List ℕ)) (missed : S → Option ℕ) (settled : S → Option (List ℕ)) (faults : S → ℕ)
    (result : Result T E) (old new : S) (text : List ℕ) : Type 0 where
  pub whole : OnOk result (Appends (written old) (written new) text)
  pub part : OnErr result (AppendsPart (written old) (written new) text)
  pub missing : OnErr result (MissesAtLeast (written old) (written new) (missed new) text)
  pub cause : OnErr result (Rose (faults old) (faults new))
  pub never_falls : NotFallen (faults old) (faults new)
  pub quiet : OnOk result (faults new ≡ faults old)
  pub telling : is_some (written new) ≡ is_some (written old)
  pub tells_missed : is_some (missed new) ≡ is_some (missed old)
  pub tells_settled : is_some (settled new) ≡ is_some (settled old)

-- the text of pieces: their bytes, one piece after another
abbrev pub all_of : List (Bor (List ℕ)) → List ℕ
all_of pieces = concat (map (λ piece. piece.now) pieces)
