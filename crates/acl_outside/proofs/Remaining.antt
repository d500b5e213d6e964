-- How the writes of the parts of a text are one write of the text, whole or cut off where a part fails.
--
-- A function that writes a text by several calls closes by `search chain` at each failed `?` after the first and at its
-- end. Its text has to be the calls' texts joined by `++`, grouped to the right. A loop over the parts of a list has
-- `Remains` as its invariant, and closes by `search loop` at its failed `?`.
use Rattle.std.proofs.Common.{◌≡◌, ℕ, ◌+◌, ◌<◌, List, [], ◌∷◌, ◌++◌, length, drop, map, get_or, Option, Result, Ok, Err, Continue, Break, IsErr, is_some, refl, sym, append-nil, add-one, ◌∙◌, arith, true≢false}
use Rattle.std.proofs.Math.Seq.{drop-cons}
use Rattle.std.specs.List.{concat}
use Rattle.std.specs.Result.{result_from_control_flow}
use Rattle.acl_outside.specs.WrittenText.{Writes}
use Rattle.acl_outside.proofs.Leaving.{Leaves, Leaves-all, Leaves-piece, Leaves-nothing, Leaves-part, Leaves-missing}

-- of all that was to be written since `old`, the rest is still to come; no fault was counted
pub record Remains {S : Type 0} (written : S → Option (List ℕ)) (missed : S → Option ℕ)
    (settled : S → Option (List ℕ)) (faults : S → ℕ) (old now : S) (rest all : List ℕ) : Type 0 where
  pub way : Leaves (written old) (written now) rest all
  pub quiet : faults now ≡ faults old
  pub telling : is_some (written now) ≡ is_some (written old)
  pub tells_missed : is_some (missed now) ≡ is_some (missed old)
  pub tells_settled : is_some (settled now) ≡ is_some (settled old)

module _ {S : Type 0} {written : S → Option (List ℕ)} {missed : S → Option ℕ} {settled : S → Option (List ℕ)}
    {faults : S → ℕ} {old : S} {all : List ℕ} where
  -- at the start all is still to come
  pub Remains-all : Remains written missed settled faults old old all all
  Remains-all = record {
    way = Leaves-all (written old) all;
    quiet = refl;
    telling = refl;
    tells_missed = refl;
    tells_settled = refl;
  }

  module _ {T E : Type 0} {new : S} where
    -- where nothing is left, all is written
    pub Writes-all : {t : T} → Remains written missed settled faults old new [] all → Writes {E = E} written missed settled faults (Ok t) old new all
    Writes-all before = record {
      whole = Leaves-nothing (written old) (written new) all before.way;
      part = tt;
      missing = tt;
      cause = tt;
      never_falls = omega (arith, before.quiet);
      quiet = before.quiet;
      telling = before.telling;
      tells_missed = before.tells_missed;
      tells_settled = before.tells_settled;
    }

    module _ {mid : S} {piece rest : List ℕ} where
      -- a good write of a piece leaves what follows it
      pub Remains-next : {t : T} (more : List ℕ) → rest ≡ piece ++ more → Remains written missed settled faults old mid rest all
          → Writes {E = E} written missed settled faults (Ok t) mid new piece → Remains written missed settled faults old new more all
      Remains-next more cut before put = record {
        way = Leaves-piece (written old) (written mid) (written new) piece rest more all cut before.way put.whole;
        quiet = put.quiet ∙ before.quiet;
        telling = put.telling ∙ before.telling;
        tells_missed = put.tells_missed ∙ before.tells_missed;
        tells_settled = put.tells_settled ∙ before.tells_settled;
      }

      -- a failed write of a piece is a failed write of all
      pub Writes-failed : {r : Result T E} {e : E} (more : List ℕ) → IsErr r → rest ≡ piece ++ more → Remains written missed settled faults old mid rest all
          → Writes {T = T} written missed settled faults (Err e) mid new piece → Writes written missed settled faults r old new all
      Writes-failed {r = Ok t} more err cut before put = absurd (true≢false (sym err))
      Writes-failed {r = Err f} more err cut before put = record {
        whole = tt;
        part = Leaves-part (written old) (written mid) (written new) piece rest more all cut before.way put.part;
        missing = Leaves-missing (written old) (written mid) (written new) (missed new) piece rest more all cut before.way put.missing;
        cause = rw before.quiet at put.cause;
        never_falls = rw before.quiet at put.never_falls;
        quiet = tt;
        telling = put.telling ∙ before.telling;
        tells_missed = put.tells_missed ∙ before.tells_missed;
        tells_settled = put.tells_settled ∙ before.tells_settled;
      }

-- the outcome of the rest is the outcome of all
pub Writes-rest : {S T E : Type 0} {written : S → Option (List ℕ)} {missed : S → Option ℕ} {settled : S → Option (List ℕ)} {faults : S → ℕ}
    {old mid new : S} {r : Result T E} {rest all : List ℕ} → Remains written missed settled faults old mid rest all
    → Writes written missed settled faults r mid new rest → Writes written missed settled faults r old new all
Writes-rest {r = Ok t} {rest = rest} before put = Writes-all (Remains-next [] (sym (append-nil rest)) before put)
Writes-rest {r = Err e} {rest = rest} before put = Writes-failed [] refl (sym (append-nil rest)) before put

-- ---- A call with a `?` after it: it answered `q`, and `b` says how the `?` goes on. It wrote `p`, which is equal to
-- the piece.

module _ {S T E : Type 0} {written : S → Option (List ℕ)} {missed : S → Option ℕ} {settled : S → Option (List ℕ)} {faults : S → ℕ} {old new : S}
    {q : Result T E} {p piece : List ℕ} where
  good : {b : _} {t : T} → Writes written missed settled faults q old new p → q ≡ result_from_control_flow b → b ≡ Continue t
      → p ≡ piece → Writes {E = E} written missed settled faults (Ok t) old new piece
  good put answer flow same = rw (answer, flow, same) at put

  failed : {b : _} {x : _} → Writes written missed settled faults q old new p → q ≡ result_from_control_flow b → b ≡ Break x
      → p ≡ piece → Writes {T = T} written missed settled faults (Err x.0) old new piece
  failed put answer flow same = rw (answer, flow, same) at put

  -- the last piece, whose answer is returned
  pub Writes-last : Writes written missed settled faults q old new p → p ≡ piece → Writes written missed settled faults q old new piece
  Writes-last put same = rw same at put

  module _ {r : Result T E} where
    -- a good piece, and then the outcome of the others
    pub Writes-then : {last : S} {more : List ℕ} {b : _} {t : T} → Writes written missed settled faults q old new p
        → q ≡ result_from_control_flow b → b ≡ Continue t → p ≡ piece
        → Writes written missed settled faults r new last more → Writes written missed settled faults r old last (piece ++ more)
    Writes-then {more = more} put answer flow same others =
        Writes-rest (Remains-next more refl Remains-all (good put answer flow same)) others

    -- a piece fails, and nothing is written after it
    pub Writes-cut : {b : _} {x : _} (more : List ℕ) → IsErr r → Writes written missed settled faults q old new p
        → q ≡ result_from_control_flow b → b ≡ Break x → p ≡ piece
        → Writes written missed settled faults r old new (piece ++ more)
    Writes-cut more err put answer flow same = Writes-failed more err refl Remains-all (failed put answer flow same)

    -- the last piece fails
    pub Writes-cut_last : {b : _} {x : _} → IsErr r → Writes written missed settled faults q old new p
        → q ≡ result_from_control_flow b → b ≡ Break x → p ≡ piece
        → Writes written missed settled faults r old new piece
    Writes-cut_last err put answer flow same =
        Writes-failed [] err (sym (append-nil piece)) Remains-all (failed put answer flow same)

-- a piece of one byte
module _ {S T E : Type 0} {written : S → Option (List ℕ)} {missed : S → Option ℕ} {settled : S → Option (List ℕ)} {faults : S → ℕ} {old new : S}
    {q r : Result T E} {p : List ℕ} (byte : ℕ) (more : List ℕ) where
  pub Writes-byte_then : {last : S} {b : _} {t : T} → Writes written missed settled faults q old new p
      → q ≡ result_from_control_flow b → b ≡ Continue t → p ≡ byte ∷ []
      → Writes written missed settled faults r new last more → Writes written missed settled faults r old last (byte ∷ more)
  Writes-byte_then put answer flow same others = Writes-then put answer flow same others

  pub Writes-cut_byte : {b : _} {x : _} → IsErr r → Writes written missed settled faults q old new p
      → q ≡ result_from_control_flow b → b ≡ Break x → p ≡ byte ∷ []
      → Writes written missed settled faults r old new (byte ∷ more)
  Writes-cut_byte err put answer flow same = Writes-cut more err put answer flow same

-- ---- A loop that writes part after part of a list.

-- the text of what is left begins with the text of the next part
pub concat-next : {X : Type 0} (text : X → List ℕ) (parts : List X) (i : ℕ) (other : X) → i < length parts
    → concat (map text (drop i parts)) ≡ text (get_or parts i other) ++ concat (map text (drop (i + 1) parts))
concat-next text parts i other within = rw (add-one, drop-cons parts i other within) refl

module _ {S T E X : Type 0} {written : S → Option (List ℕ)} {missed : S → Option ℕ} {settled : S → Option (List ℕ)} {faults : S → ℕ} {old mid new : S}
    {q : Result T E} {all : List ℕ} (text : X → List ℕ) (parts : List X) (i : ℕ) (other : X) where
  -- a part is written: the rest is what follows it
  pub Remains-part : {b : _} {t : T} {p : List ℕ} {part : X} → Remains written missed settled faults old mid (concat (map text (drop i parts))) all
      → Writes written missed settled faults q mid new p → q ≡ result_from_control_flow b → b ≡ Continue t
      → i < length parts → part ≡ get_or parts i other → p ≡ text part
      → Remains written missed settled faults old new (concat (map text (drop (i + 1) parts))) all
  Remains-part before put answer flow within next same =
      Remains-next _ (concat-next text parts i other within) before (rw next at (good put answer flow same))

  -- a part fails, and nothing is written after it
  pub Writes-cut_part : {r : Result T E} {b : _} {x : _} {p : List ℕ} {part : X} → IsErr r → Remains written missed settled faults old mid (concat (map text (drop i parts))) all
      → Writes written missed settled faults q mid new p → q ≡ result_from_control_flow b → b ≡ Break x
      → i < length parts → part ≡ get_or parts i other → p ≡ text part
      → Writes written missed settled faults r old new all
  Writes-cut_part err before put answer flow within next same =
      Writes-failed _ err (concat-next text parts i other within) before (rw next at (failed put answer flow same))

  -- the same where the loop names no part
  pub Writes-cut_at : {r : Result T E} {b : _} {x : _} → IsErr r → Remains written missed settled faults old mid (concat (map text (drop i parts))) all
      → Writes written missed settled faults q mid new (text (get_or parts i other)) → q ≡ result_from_control_flow b → b ≡ Break x
      → i < length parts
      → Writes written missed settled faults r old new all
  Writes-cut_at err before put answer flow within = Writes-failed _ err (concat-next text parts i other within) before (failed put answer flow refl)

-- for `search`, at a failed `?` and at the end: of a chain of calls, of one that begins with a byte, of a loop
pub ruleset chain = (Writes-then, Writes-cut, Writes-last)

pub ruleset byte_chain = (Writes-byte_then, Writes-cut_byte, chain)

pub ruleset loop = (Writes-cut_part, Writes-cut_at)
