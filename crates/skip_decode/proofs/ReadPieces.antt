-- The pieces that are read of a text or of an attribute join to its bytes.
use Rattle.std.proofs.Common.{◌≡◌, ℕ, zero, suc, ◌+◌, ◌-◌, ◌<◌, ◌≤◌, Bool, true, false, not, nat_eq, nat_le, Some, List, [], ◌∷◌, ◌++◌, length, take, drop, map, min, ap, sym, ◌∙◌, subst, arith, length-drop, ⊎_elim}
use Rattle.std.specs.Cmp.{first_so, second_so}
use Rattle.std.specs.List.{list_all}
use Rattle.std.proofs.lemmas.Bool.{cases_Bool}
use Rattle.std.proofs.lemmas.Bool.Decides.{nat_tests}
use Rattle.std.proofs.lemmas.List.{length-take-le, drop-drop}
use Rattle.std.proofs.lemmas.List.Folds.{list_all-append}
use Rattle.std.proofs.Math.Seq.{take-add}
use Rattle.acl_bits.specs.declared.piece.Piece.{Piece}
use Rattle.acl_model.specs.Ascii.{is_byte, line_feed}
use Rattle.acl_model.specs.Lines.{is_within_line, lacks}
use Rattle.acl_walk.specs.Pieces.{piece_of, Joins, alone, onward}
use Rattle.acl_walk.specs.declared.event.Event.{Event}
use Rattle.skip_decode.specs.declared.position.Level.{Level}
use Rattle.skip_decode.specs.declared.position.Next.{Next}
use Rattle.skip_decode.specs.Positions.{Numbers}
use Rattle.skip_decode.specs.StreamSteps.{Step, fragment_left, step_at}
use Rattle.skip_decode.proofs.PieceRuns.{both_so, at, stepped, piece_step}
use Rattle.skip_decode.proofs.ReadSteps.{Ends, IsOn, no_run, some_step, known_step}
use Rattle.skip_decode.proofs.StepKinds.{cond_some}

-- Two parts that fit a line fit a line together.
fits_both : (prefix back : List ℕ) → is_within_line prefix ≡ true → is_within_line back ≡ true
    → is_within_line (prefix ++ back) ≡ true
fits_both prefix back one other =
    both_so (list_all is_byte (prefix ++ back)) (lacks line_feed (prefix ++ back))
    (list_all-append is_byte prefix back
    ∙ both_so (list_all is_byte prefix) (list_all is_byte back)
    (first_so (list_all is_byte prefix) (lacks line_feed prefix) one)
    (first_so (list_all is_byte back) (lacks line_feed back) other))
    (list_all-append (λ b. not (nat_eq b line_feed)) prefix back
    ∙ both_so (lacks line_feed prefix) (lacks line_feed back)
    (second_so (list_all is_byte prefix) (lacks line_feed prefix) one)
    (second_so (list_all is_byte back) (lacks line_feed back) other))

-- the bytes at a byte offset, so many
abbrev pub bytes_at : List ℕ → ℕ → ℕ → List ℕ
bytes_at stream place n = take n (drop place stream)

-- They are as many, where the stream has them.
pub length-bytes_at : (stream : List ℕ) (place n : ℕ) → place + n ≤ length stream
    → length (bytes_at stream place n) ≡ n
length-bytes_at stream place n within =
    let long = length-drop place stream in length-take-le n (drop place stream) (omega (arith, long, within))

-- They are the first of them, and then those after these.
pub bytes_at-parts : (stream : List ℕ) (place n m : ℕ)
    → bytes_at stream place n ++ bytes_at stream (place + n) m ≡ bytes_at stream place (n + m)
bytes_at-parts stream place n m =
    ap (λ l. bytes_at stream place n ++ take m l) (sym (drop-drop n place stream))
    ∙ sym (take-add n m (drop place stream))

module _ (k : Numbers) (stream : List ℕ) (level : Level) (up : List Level) (made : Piece → Event) (done : Next)
    (on : ℕ → Next)
    (steps : (place left : ℕ) → step_at k stream (at (level ∷ up) (on left) place)
    ≡ piece_step made done on stream place left)
    (goes : (piece : Piece) → IsOn (made piece)) where
  -- The pieces of so many bytes at a byte offset, and the events after them.
  pub record PiecesRead (n : ℕ) (events : List Event) (place left : ℕ) : Type 0 where
    pub pieces : List Piece
    pub rest : List Event
    pub fuel : ℕ
    pub fewer : fuel < n
    pub joins : Joins (bytes_at stream place left) pieces
    pub line : is_within_line (bytes_at stream place left) ≡ true
    pub own : events ≡ map made pieces ++ rest
    pub ends : Ends k stream fuel (at (level ∷ up) done (place + left)) rest

  -- A step with a piece has so many bytes of it, which fit a line.
  piece_known : (place left n : ℕ) (last : Bool) (step : Step) → min left (fragment_left place) ≡ n
      → nat_le left (fragment_left place) ≡ last → piece_step made done on stream place left ≡ Some step
      → (is_within_line (bytes_at stream place n) ≡ true)
      × (piece_step made done on stream place left
      ≡ Some (stepped made done on place left (bytes_at stream place n) last n))
  piece_known place left n last step least marked is =
      let few : ℕ = min left (fragment_left place) in
      let parts = cond_some (is_within_line (bytes_at stream place few))
      (stepped made done on place left (bytes_at stream place few)
      (nat_le left (fragment_left place)) few) step is in (
        ap (λ m. is_within_line (bytes_at stream place m)) (sym least) ∙ parts.0,
        is ∙ ap Some (sym parts.1)
            ∙ ap (λ m. Some (stepped made done on place left (bytes_at stream place m)
            (nat_le left (fragment_left place)) m)) least
            ∙ ap (λ b. Some (stepped made done on place left (bytes_at stream place n) b n)) marked,
      )

  -- The bytes end in the fragment.
  last_read : (n : ℕ) (next : Next) (from place left : ℕ) (events : List Event)
      → step_at k stream (at (level ∷ up) next from) ≡ piece_step made done on stream place left
      → place + left ≤ length stream
      → left ≤ fragment_left place → Ends k stream (suc n) (at (level ∷ up) next from) events
      → PiecesRead (suc n) events place left
  last_read n next from place left events is within few ends =
      let some = some_step k stream n (at (level ∷ up) next from) events ends in
      let marked : nat_le left (fragment_left place) ≡ true = grind (arith, nat_tests, few) in
      let known = piece_known place left left true some.0 (omega (arith, few)) marked (sym is ∙ some.1) in
      let bytes : List ℕ = bytes_at stream place left in
      let long = length-bytes_at stream place left within in
      let after = known_step k stream n (at (level ∷ up) next from) events
      (stepped made done on place left bytes true left)
      (is ∙ known.1) (goes (piece_of bytes true)) ends in
      record {
        pieces = piece_of bytes true ∷ [];
        rest = after.rest;
        fuel = n;
        fewer = omega arith;
        joins = alone bytes (omega (arith, long, few));
        line = known.0;
        own = after.first;
        ends = after.ends;
      }

  -- So many bytes are read as pieces, from a position whose step has the first of them.
  pub pieces_read : (n : ℕ) (next : Next) (from place left : ℕ) (events : List Event)
      → step_at k stream (at (level ∷ up) next from) ≡ piece_step made done on stream place left
      → place + left ≤ length stream
      → Ends k stream n (at (level ∷ up) next from) events → PiecesRead n events place left
  pieces_read zero next from place left events is within ends =
      absurd (no_run k stream (at (level ∷ up) next from) events ends)
  pieces_read (suc n) next from place left events is within ends = ⊎_elim
      (λ short. last_read n next from place left events is within (grind (arith, nat_tests, short)) ends)
      (λ long.
      let more : fragment_left place < left = grind (arith, nat_tests, long) in
      let part : ℕ = fragment_left place in
      let some = some_step k stream n (at (level ∷ up) next from) events ends in
      let known = piece_known place left part false some.0 (omega (arith, more)) long (sym is ∙ some.1) in
      let bytes : List ℕ = bytes_at stream place part in
      let after = known_step k stream n (at (level ∷ up) next from) events
      (stepped made done on place left bytes false part)
      (is ∙ known.1) (goes (piece_of bytes false)) ends in
      let later = pieces_read n (on (left - part)) (place + part) (place + part) (left - part) after.rest
      (steps (place + part) (left - part)) (omega (arith, within, more)) after.ends in
      let back : List ℕ = bytes_at stream (place + part) (left - part) in
      let all : bytes ++ back ≡ bytes_at stream place left =
      bytes_at-parts stream place part (left - part) ∙ ap (bytes_at stream place) (omega (arith, more)) in
      let bytes_long = length-bytes_at stream place part (omega (arith, within, more)) in
      let back_long = length-bytes_at stream (place + part) (left - part) (omega (arith, within, more)) in
      let end : (place + part) + (left - part) ≡ place + left = omega (arith, more) in
      let fewer = later.fewer in
      record {
        pieces = piece_of bytes false ∷ later.pieces;
        rest = later.rest;
        fuel = later.fuel;
        fewer = omega (arith, fewer);
        joins = subst (λ l. Joins l (piece_of bytes false ∷ later.pieces)) all
            (onward bytes back later.pieces (omega (arith, bytes_long)) (omega (arith, bytes_long))
            (omega (arith, back_long, more)) later.joins);
        line = ap is_within_line (sym all) ∙ fits_both bytes back known.0 later.line;
        own = after.first ∙ ap (λ l. made (piece_of bytes false) ∷ l) later.own;
        ends = subst (λ p. Ends k stream later.fuel (at (level ∷ up) done p) later.rest) end later.ends;
      })
      (cases_Bool (nat_le left (fragment_left place)))
