-- A text that stands at a byte offset is read as pieces that join to it.
use Rattle.std.proofs.Common.{◌≡◌, ℕ, ◌+◌, ◌-◌, ◌/◌, ◌%◌, ◌^◌, ◌<◌, ◌≤◌, true, cond, nat_le, Option, Some, None, List, ◌∷◌, ◌++◌, length, drop, map, refl, ap, ◌∙◌, subst, arith, append_assoc, w32}
use Rattle.std.specs.Int.{to_be_bytes, from_be_bytes}
use Rattle.std.specs.Option.{option_and_then}
use Rattle.std.proofs.lemmas.Bool.Decides.{nat_tests}
use Rattle.std.proofs.lemmas.Nat.{from_be_bytes-to_be_bytes_4}
use Rattle.acl_bits.specs.declared.piece.Piece.{Piece}
use Rattle.acl_model.specs.Lines.{is_within_line}
use Rattle.acl_model.specs.Stream.{measured_bytes}
use Rattle.acl_walk.specs.Pieces.{Joins}
use Rattle.acl_walk.specs.declared.event.Event.{Event}
use Rattle.acl_walk.specs.declared.event.Event.TheVariants as event
use Rattle.skip_decode.specs.declared.position.Level.{Level}
use Rattle.skip_decode.specs.declared.position.Next.TheVariants.{Item, Text}
use Rattle.skip_decode.specs.Positions.{Numbers}
use Rattle.skip_decode.specs.StreamHeads.{take_within}
use Rattle.skip_decode.specs.StreamSteps.{length_at, text_step, text_begun, step_at}
use Rattle.skip_decode.specs.StreamEvents.{and_then}
use Rattle.skip_decode.proofs.Runs.{Runs}
use Rattle.skip_decode.proofs.PieceRuns.{at, drop-on, piece_step, pieces_run}
use Rattle.skip_decode.proofs.HeadSteps.{take_within-all, item_step-text}

-- A length is read, where the content has so many bytes after it.
pub length_at-read : (stream : List ℕ) (place end n : ℕ) (back : List ℕ) → drop place stream ≡ to_be_bytes w32 n ++ back → n < 2 ^ 32 → place + (4 + n) ≤ end → length_at stream place end ≡ Some n
unfolding length_at
length_at-read stream place end n back there small within =
    let fits : nat_le n (end - place - 4) ≡ true = grind (arith, nat_tests) in
    let read : List ℕ → Option ℕ = λ four. cond (nat_le (from_be_bytes w32 four) (end - place - 4)) (Some (from_be_bytes w32 four)) None in
    ap (λ l. option_and_then read (take_within (end - place) 4 l)) there
    ∙ ap (option_and_then read) (take_within-all (end - place) 4 (to_be_bytes w32 n ++ back) (omega arith))
    ∙ ap (λ m. cond (nat_le m (end - place - 4)) (Some m) None) (from_be_bytes-to_be_bytes_4 n small)
    ∙ ap (λ b. cond b (Some n) None) fits

-- The bytes after a length.
pub drop-length : (stream : List ℕ) (place : ℕ) (bytes rest : List ℕ) → drop place stream ≡ measured_bytes bytes ++ rest → drop (place + 4) stream ≡ bytes ++ rest
drop-length stream place bytes rest there =
    drop-on stream place (to_be_bytes w32 (length bytes)) (bytes ++ rest) 4 (there ∙ append_assoc (to_be_bytes w32 (length bytes)) bytes rest) refl

module _ (k : Numbers) (stream : List ℕ) (level : Level) (up : List Level) where
  text_steps : (place left : ℕ) → step_at k stream (at (level ∷ up) (Text left) place) ≡ piece_step event.Text Item Text stream place left
  unfolding step_at text_step
  text_steps place left = refl

  text_goes : (piece : Piece) (rest : List Event) → and_then (event.Text piece) rest ≡ event.Text piece ∷ rest
  text_goes piece rest = refl

  -- The step at the first byte of a text has its first piece.
  text_begins : (place : ℕ) (bytes rest : List ℕ) → drop place stream ≡ measured_bytes bytes ++ rest → length bytes < 2 ^ 31 → place + (4 + length bytes) ≤ level.end
      → step_at k stream (at (level ∷ up) Item place) ≡ piece_step event.Text Item Text stream (place + 4) (length bytes)
  unfolding step_at text_step text_begun
  text_begins place bytes rest there small within =
      item_step-text k.depth stream (length up + 1) level place (length bytes / 16777216 % 256) _ there (omega arith) (omega arith)
      ∙ ap (option_and_then (text_step stream (place + 4))) (length_at-read stream place level.end (length bytes) (bytes ++ rest) (there ∙ append_assoc (to_be_bytes w32 (length bytes)) bytes rest) (omega arith) within)

  -- A text is read up to its end.
  pub text_run : (place : ℕ) (bytes rest : List ℕ) → drop place stream ≡ measured_bytes bytes ++ rest → is_within_line bytes ≡ true → length bytes < 2 ^ 31 → place + (4 + length bytes) ≤ level.end
      → (pieces : List Piece) × Joins bytes pieces × Runs k stream (at (level ∷ up) Item place) (map event.Text pieces) (at (level ∷ up) Item (place + (4 + length bytes)))
  text_run place bytes rest there fits small within =
      let run = pieces_run k stream level up event.Text Item Text 0 text_steps text_goes (omega arith) refl (λ left. refl)
      (length bytes) Item place (place + 4) bytes rest (omega arith) (text_begins place bytes rest there small within) (drop-length stream place bytes rest there) fits (omega arith) (omega arith) in
      let end : (place + 4) + length bytes ≡ place + (4 + length bytes) = omega arith in
      (run.0, run.1, subst (λ n. Runs k stream (at (level ∷ up) Item place) (map event.Text run.0) (at (level ∷ up) Item n)) end run.2)
