-- The bytes of a text or of an attribute are read as pieces that join to them.
use Rattle.std.proofs.Common.{◌≡◌, ℕ, zero, suc, ◌+◌, ◌-◌, ◌*◌, ◌<◌, ◌≤◌, Bool, true, false, cond, ◌&&◌, not, nat_eq, nat_le, Option, Some, None, List, [], ◌∷◌, ◌++◌, length, take, drop, map, min, refl, ap, sym, ◌∙◌, subst, arith, append_assoc, length-take-le, length-drop, drop_at, take-append-drop, ⊎_elim}
use Rattle.std.specs.Cmp.{first_so, second_so}
use Rattle.std.specs.List.{list_all}
use Rattle.std.proofs.lemmas.Bool.{cases_Bool}
use Rattle.std.proofs.lemmas.Bool.Decides.{nat_tests}
use Rattle.std.proofs.lemmas.List.{take-append-le, drop-drop}
use Rattle.std.proofs.lemmas.List.Folds.{list_all-append}
use Rattle.acl_bits.specs.declared.piece.Piece.{Piece}
use Rattle.acl_model.specs.Ascii.{is_byte, line_feed}
use Rattle.acl_model.specs.Lines.{is_within_line, lacks}
use Rattle.acl_walk.specs.Pieces.{piece_of, Joins, alone, onward}
use Rattle.acl_walk.specs.declared.event.Event.{Event}
use Rattle.skip_decode.specs.declared.position.Level.{Level}
use Rattle.skip_decode.specs.declared.position.Next.{Next}
use Rattle.skip_decode.specs.Positions.{Numbers, Position}
use Rattle.skip_decode.specs.StreamSteps.{Step, Stay, fragment_left, step_at}
use Rattle.skip_decode.specs.StreamEvents.{and_then, weight}
use Rattle.skip_decode.proofs.Runs.{Runs, one_step, runs-append}

-- ---- bytes at a byte offset

-- the position with these open elements
abbrev pub at : List Level → Next → ℕ → Position
at levels next place = record { levels = levels; next = next; place = place }

-- What comes after the first bytes at a byte offset is at the offset after them.
pub drop-on : (stream : List ℕ) (place : ℕ) (prefix back : List ℕ) (n : ℕ) → drop place stream ≡ prefix ++ back → length prefix ≡ n → drop (place + n) stream ≡ back
drop-on stream place prefix back n there long = sym (drop-drop n place stream) ∙ ap (drop n) there ∙ drop_at prefix back n long

pub both_so : (s t : Bool) → s ≡ true → t ≡ true → (s && t) ≡ true
both_so s t p q = ap (λ b. b && t) p ∙ q

-- The two parts of bytes that fit a line fit a line.
fits_parts : (prefix back : List ℕ) → is_within_line (prefix ++ back) ≡ true → (is_within_line prefix ≡ true) × (is_within_line back ≡ true)
fits_parts prefix back fits =
    let bytes : (list_all is_byte prefix && list_all is_byte back) ≡ true = sym (list_all-append is_byte prefix back) ∙ first_so _ (lacks line_feed (prefix ++ back)) fits in
    let clean : (lacks line_feed prefix && lacks line_feed back) ≡ true = sym (list_all-append (λ b. not (nat_eq b line_feed)) prefix back) ∙ second_so (list_all is_byte (prefix ++ back)) (lacks line_feed (prefix ++ back)) fits in (
      both_so (list_all is_byte prefix) (lacks line_feed prefix) (first_so (list_all is_byte prefix) (list_all is_byte back) bytes) (first_so (lacks line_feed prefix) (lacks line_feed back) clean),
      both_so (list_all is_byte back) (lacks line_feed back) (second_so (list_all is_byte prefix) (list_all is_byte back) bytes) (second_so (lacks line_feed prefix) (lacks line_feed back) clean),
    )

-- ---- pieces

-- the step with a piece of n bytes, in the event `made`: `done` comes next after the last piece, else `on`
abbrev pub stepped : (Piece → Event) → Next → (ℕ → Next) → ℕ → ℕ → List ℕ → Bool → ℕ → Step
stepped made done on place left bytes last n = record {
  event = made (piece_of bytes last);
  next = cond last done (on (left - fragment_left place));
  place = place + n;
  change = Stay;
}

-- the step with the piece at a byte offset, of a text or an attribute with so many bytes left
abbrev pub piece_step : (Piece → Event) → Next → (ℕ → Next) → List ℕ → ℕ → ℕ → Option Step
piece_step made done on stream place left =
    cond (is_within_line (take (min left (fragment_left place)) (drop place stream)))
    (Some (stepped made done on place left (take (min left (fragment_left place)) (drop place stream)) (nat_le left (fragment_left place)) (min left (fragment_left place)))) None

-- The step is this one, where its bytes fit a line.
piece_step-is : (made : Piece → Event) (done : Next) (on : ℕ → Next) (stream : List ℕ) (place left : ℕ) (bytes : List ℕ) (last : Bool) (n : ℕ)
    → take (min left (fragment_left place)) (drop place stream) ≡ bytes → is_within_line bytes ≡ true → nat_le left (fragment_left place) ≡ last → min left (fragment_left place) ≡ n
    → piece_step made done on stream place left ≡ Some (stepped made done on place left bytes last n)
piece_step-is made done on stream place left bytes last n cut fits marked long =
    ap (λ (l : List ℕ). cond (is_within_line l) (Some (stepped made done on place left l (nat_le left (fragment_left place)) (min left (fragment_left place)))) None) cut
    ∙ ap (λ b. cond b (Some (stepped made done on place left bytes (nat_le left (fragment_left place)) (min left (fragment_left place)))) None) fits
    ∙ ap (λ b. Some (stepped made done on place left bytes b (min left (fragment_left place)))) marked
    ∙ ap (λ m. Some (stepped made done on place left bytes last m)) long

-- The first bytes of a list at a byte offset.
front_at : (stream : List ℕ) (place n : ℕ) (bytes rest : List ℕ) → drop place stream ≡ bytes ++ rest → n ≤ length bytes → take n (drop place stream) ≡ take n bytes
front_at stream place n bytes rest there few = ap (take n) there ∙ take-append-le n bytes rest few

whole_front : (n : ℕ) (bytes : List ℕ) → n ≡ length bytes → take n bytes ≡ bytes
whole_front n bytes all = let e = take-append-drop n bytes in ap (λ m. take m bytes) all ∙ take_whole bytes
  where
    take_whole : (l : List ℕ) → take (length l) l ≡ l
    take_whole [] = refl
    take_whole (x ∷ l) = ap (λ m. x ∷ m) (take_whole l)

module _ (k : Numbers) (stream : List ℕ) (level : Level) (up : List Level) (made : Piece → Event) (done : Next) (on : ℕ → Next) (w : ℕ)
    (steps : (place left : ℕ) → step_at k stream (at (level ∷ up) (on left) place) ≡ piece_step made done on stream place left)
    (goes_on : (piece : Piece) (rest : List Event) → and_then (made piece) rest ≡ made piece ∷ rest)
    (light : w ≤ 1) (done_weight : weight done ≡ w) (on_weight : (left : ℕ) → weight (on left) ≡ w) where
  -- The last piece.
  last_piece : (next : Next) (from place : ℕ) (bytes rest : List ℕ) → step_at k stream (at (level ∷ up) next from) ≡ piece_step made done on stream place (length bytes)
      → drop place stream ≡ bytes ++ rest → length bytes ≤ fragment_left place → is_within_line bytes ≡ true → 4 * from + 1 + w ≤ 4 * (place + length bytes) + weight next
      → Runs k stream (at (level ∷ up) next from) (made (piece_of bytes true) ∷ []) (at (level ∷ up) done (place + length bytes))
  last_piece next from place bytes rest is there few fits fewer =
      let all : min (length bytes) (fragment_left place) ≡ length bytes = omega arith in
      let marked : nat_le (length bytes) (fragment_left place) ≡ true = grind (arith, nat_tests) in
      one_step k stream (at (level ∷ up) next from) (stepped made done on place (length bytes) bytes true (length bytes))
      (record {
        there = is ∙ piece_step-is made done on stream place (length bytes) bytes true (length bytes)
            (front_at stream place (min (length bytes) (fragment_left place)) bytes rest there (omega arith) ∙ whole_front (min (length bytes) (fragment_left place)) bytes all) fits marked all;
        on = goes_on (piece_of bytes true);
        fewer = omega (arith, fewer, done_weight);
      })

  -- A piece before others.
  first_piece : (next : Next) (from place : ℕ) (bytes rest : List ℕ) → step_at k stream (at (level ∷ up) next from) ≡ piece_step made done on stream place (length bytes)
      → drop place stream ≡ bytes ++ rest → fragment_left place < length bytes → is_within_line (take (fragment_left place) bytes) ≡ true → from ≤ place
      → Runs k stream (at (level ∷ up) next from) (made (piece_of (take (fragment_left place) bytes) false) ∷ [])
      (at (level ∷ up) (on (length bytes - fragment_left place)) (place + fragment_left place))
  first_piece next from place bytes rest is there more fits before =
      let least : min (length bytes) (fragment_left place) ≡ fragment_left place = omega arith in
      let marked : nat_le (length bytes) (fragment_left place) ≡ false = grind (arith, nat_tests) in
      let heavy = on_weight (length bytes - fragment_left place) in
      one_step k stream (at (level ∷ up) next from) (stepped made done on place (length bytes) (take (fragment_left place) bytes) false (fragment_left place))
      (record {
        there = is ∙ piece_step-is made done on stream place (length bytes) (take (fragment_left place) bytes) false (fragment_left place)
            (front_at stream place (min (length bytes) (fragment_left place)) bytes rest there (omega arith) ∙ ap (λ n. take n bytes) least) fits marked least;
        on = goes_on (piece_of (take (fragment_left place) bytes) false);
        fewer = omega (arith, heavy, light, before);
      })

  -- All pieces, from the position whose step has the first one.
  abbrev PiecesRun : Next → ℕ → ℕ → List ℕ → Type 0
  PiecesRun next from place bytes =
      (pieces : List Piece) × Joins bytes pieces × Runs k stream (at (level ∷ up) next from) (map made pieces) (at (level ∷ up) done (place + length bytes))

  -- The pieces of bytes that don't end in the fragment: the first one, and those after it.
  several : (next : Next) (from place : ℕ) (bytes rest : List ℕ) → step_at k stream (at (level ∷ up) next from) ≡ piece_step made done on stream place (length bytes)
      → drop place stream ≡ bytes ++ rest → is_within_line bytes ≡ true → from ≤ place → fragment_left place < length bytes
      → ((back : List ℕ) → length back + fragment_left place ≡ length bytes → drop (place + fragment_left place) stream ≡ back ++ rest → is_within_line back ≡ true
      → PiecesRun (on (length back)) (place + fragment_left place) (place + fragment_left place) back)
      → PiecesRun next from place bytes
  several next from place bytes rest is there fits before more later =
      let left : ℕ = fragment_left place in
      let front : List ℕ = take left bytes in
      let back : List ℕ = drop left bytes in
      let whole : front ++ back ≡ bytes = take-append-drop left bytes in
      let parts = fits_parts front back (ap is_within_line whole ∙ fits) in
      let cut : length front ≡ left = length-take-le left bytes (omega arith) in
      let behind : length back ≡ length bytes - left = length-drop left bytes in
      let after = later back (omega arith) (drop-on stream place front (back ++ rest) left (there ∙ ap (λ l. l ++ rest) (sym whole) ∙ append_assoc front back rest) cut) parts.1 in
      let first : Runs k stream (at (level ∷ up) next from) (made (piece_of front false) ∷ []) (at (level ∷ up) (on (length back)) (place + left)) =
      subst (λ n. Runs k stream (at (level ∷ up) next from) (made (piece_of front false) ∷ []) (at (level ∷ up) (on n) (place + left))) (sym behind)
      (first_piece next from place bytes rest is there more parts.0 before) in
      let end : (place + left) + length back ≡ place + length bytes = omega arith in (
        piece_of front false ∷ after.0,
        subst (λ l. Joins l (piece_of front false ∷ after.0)) whole (onward front back after.0 (omega arith) (omega arith) (omega arith) after.1),
        subst (λ n. Runs k stream (at (level ∷ up) next from) (made (piece_of front false) ∷ map made after.0) (at (level ∷ up) done n)) end
            (runs-append k stream (at (level ∷ up) next from) (at (level ∷ up) (on (length back)) (place + left)) (at (level ∷ up) done ((place + left) + length back))
            (made (piece_of front false) ∷ []) (map made after.0) first after.2),
      )

  -- The bytes are read as pieces that join to them.
  pub pieces_run : (fuel : ℕ) (next : Next) (from place : ℕ) (bytes rest : List ℕ) → length bytes ≤ fuel
      → step_at k stream (at (level ∷ up) next from) ≡ piece_step made done on stream place (length bytes)
      → drop place stream ≡ bytes ++ rest → is_within_line bytes ≡ true → from ≤ place → 4 * from + 1 + w ≤ 4 * (place + length bytes) + weight next
      → PiecesRun next from place bytes
  pieces_run zero next from place bytes rest enough is there fits before fewer =
      (piece_of bytes true ∷ [], alone bytes (omega arith), last_piece next from place bytes rest is there (omega arith) fits fewer)
  pieces_run (suc fuel) next from place bytes rest enough is there fits before fewer = ⊎_elim
      (λ short.
      let few : length bytes ≤ fragment_left place = grind (arith, nat_tests) in
      (piece_of bytes true ∷ [], alone bytes (omega arith), last_piece next from place bytes rest is there few fits fewer))
      (λ long.
      let more : fragment_left place < length bytes = grind (arith, nat_tests) in
      several next from place bytes rest is there fits before more (λ back size later good.
      let heavy = on_weight (length back) in
      pieces_run fuel (on (length back)) (place + fragment_left place) (place + fragment_left place) back rest (omega arith) (steps (place + fragment_left place) (length back)) later good (omega arith) (omega (arith, heavy, size, more))))
      (cases_Bool (nat_le (length bytes) (fragment_left place)))
