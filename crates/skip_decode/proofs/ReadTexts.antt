-- A text that was read has the encoder's bytes: its length in four bytes, and then its own bytes.
use Rattle.std.proofs.Common.{◌≡◌, ℕ, zero, suc, ◌+◌, ◌-◌, ◌<◌, ◌≤◌, Bool, true, false, cond, nat_eq, nat_le, get_or, Some, None, List, [], ◌∷◌, ◌++◌, length, drop, map, refl, ap, sym, ◌∙◌, subst, arith, append_assoc, inl, inr, ◌⊎◌, All, take-append-drop, w32}
use Rattle.std.specs.Int.{to_be_bytes, from_be_bytes}
use Rattle.std.specs.Option.{option_and_then}
use Rattle.std.proofs.lemmas.Bool.Decides.{nat_tests}
use Rattle.std.proofs.lemmas.List.{drop-drop}
use Rattle.std.proofs.lemmas.List.Elements.{All-head, All-tail, All-take, All-drop}
use Rattle.std.proofs.lemmas.Nat.{be_bytes_4}
use Rattle.std.proofs.lemmas.Option.{none-some}
use Rattle.acl_bits.specs.declared.piece.Piece.{Piece}
use Rattle.acl_model.specs.Lines.{is_within_line}
use Rattle.acl_model.specs.Stream.{measured_bytes}
use Rattle.acl_walk.specs.Pieces.{Joins}
use Rattle.acl_walk.specs.declared.event.Event.{Event}
use Rattle.acl_walk.specs.declared.event.Event.TheVariants as event
use Rattle.skip_decode.specs.declared.position.Level.{Level}
use Rattle.skip_decode.specs.declared.position.Next.TheVariants.{Item, Text}
use Rattle.skip_decode.specs.Positions.{Numbers}
use Rattle.skip_decode.specs.StreamHeads.{take_within}
use Rattle.skip_decode.specs.StreamSteps.{Step, length_at, text_step, text_begun, element_begun, checked_finish, item_by, item_step, step_at}
use Rattle.skip_decode.proofs.HeadExact.{taken_within}
use Rattle.skip_decode.proofs.PieceRuns.{at, piece_step}
use Rattle.skip_decode.proofs.ReadPieces.{bytes_at, length-bytes_at, pieces_read}
use Rattle.skip_decode.proofs.ReadSteps.{Ends, no_run, some_step}
use Rattle.skip_decode.proofs.StepKinds.{and_then_some, cond_some}

-- ---- bytes at a byte offset

-- Each byte of a list is below 256, whatever stands for what is past its end.
each_small : (bytes : List ℕ) → All (λ b. b < 256) bytes → (i : ℕ) → get_or bytes i 0 < 256
each_small [] fit i = past i
  where
    past : (j : ℕ) → get_or [] j 0 < 256
    past zero = omega arith
    past (suc j) = omega arith
each_small (b ∷ bytes) fit zero = All-head (λ n. n < 256) b bytes fit
each_small (b ∷ bytes) fit (suc i) = each_small bytes (All-tail (λ n. n < 256) b bytes fit) i

pub small_at : (stream : List ℕ) → All (λ b. b < 256) stream → (place n i : ℕ)
    → get_or (bytes_at stream place n) i 0 < 256
small_at stream fit place n i =
    each_small (bytes_at stream place n)
    (All-take (λ b. b < 256) n (drop place stream) (All-drop (λ b. b < 256) place stream fit)) i

-- What is at a byte offset is so many bytes, and what is at the offset after them.
pub bytes_at-rest : (stream : List ℕ) (place n : ℕ)
    → drop place stream ≡ bytes_at stream place n ++ drop (place + n) stream
bytes_at-rest stream place n =
    sym (take-append-drop n (drop place stream)) ∙ ap (λ l. bytes_at stream place n ++ l) (drop-drop n place stream)

-- A length that was read stands there in four bytes, and the content has so many bytes after it.
pub length_read : (stream : List ℕ) (place end n : ℕ) → All (λ b. b < 256) stream → end ≤ length stream
    → length_at stream place end ≡ Some n → (place + (4 + n) ≤ end) × (bytes_at stream place 4 ≡ to_be_bytes w32 n)
unfolding length_at
length_read stream place end n fit whole is =
    let parts = and_then_some (λ (four : List ℕ). cond (nat_le (from_be_bytes w32 four) (end - place - 4))
    (Some (from_be_bytes w32 four)) None)
    (take_within (end - place) 4 (drop place stream)) n is in
    let four = taken_within (end - place) 4 (drop place stream) parts.0 parts.1 in
    let read = cond_some (nat_le (from_be_bytes w32 parts.0) (end - place - 4))
    (from_be_bytes w32 parts.0) n parts.2 in
    let test = read.0 in
    let few = four.0 in
    let within : from_be_bytes w32 parts.0 ≤ end - place - 4 = grind (arith, nat_tests, test) in
    let same = read.1 in
    let number : n ≡ from_be_bytes w32 (bytes_at stream place 4) = sym (ap (from_be_bytes w32) four.1 ∙ read.1) in (
      omega (arith, within, same, few),
      sym (be_bytes_4 (bytes_at stream place 4) n (length-bytes_at stream place 4 (omega (arith, few, whole)))
          (small_at stream fit place 4) number),
    )

-- The length, the bytes, and what is after them.
pub measured_at : (stream : List ℕ) (place n : ℕ) → place + (4 + n) ≤ length stream
    → bytes_at stream place 4 ≡ to_be_bytes w32 n
    → drop place stream ≡ measured_bytes (bytes_at stream (place + 4) n) ++ drop (place + (4 + n)) stream
measured_at stream place n within is =
    let text : List ℕ = bytes_at stream (place + 4) n in
    let long = length-bytes_at stream (place + 4) n (omega (arith, within)) in
    bytes_at-rest stream place 4
    ∙ ap (λ l. bytes_at stream place 4 ++ l) (bytes_at-rest stream (place + 4) n)
    ∙ ap (λ l. l ++ (text ++ drop (place + 4 + n) stream)) (is ∙ ap (to_be_bytes w32) (sym long))
    ∙ sym (append_assoc (to_be_bytes w32 (length text)) text (drop (place + 4 + n) stream))
    ∙ ap (λ m. measured_bytes text ++ drop m stream) (omega arith)

-- ---- what an item's step is

-- The step is at the end of the element, or before it, and then of an element or of a text.
pub item_cases : (depth : ℕ) (stream : List ℕ) (around : ℕ) (level : Level) (place : ℕ) (step : Step)
    → item_step depth stream around level place ≡ Some step
    → ((place ≡ level.end) × (item_step depth stream around level place ≡ checked_finish level place))
    ⊎ ((item_step depth stream around level place ≡ element_begun depth stream around level place)
    ⊎ (item_step depth stream around level place ≡ text_begun stream place level.end))
unfolding item_step
item_cases depth stream around level place step is = by_test (nat_eq place level.end) refl is
  where
    by_byte : (bytes : List ℕ) (s : Step) → item_by depth stream around level place bytes ≡ Some s
        → (item_by depth stream around level place bytes ≡ element_begun depth stream around level place)
        ⊎ (item_by depth stream around level place bytes ≡ text_begun stream place level.end)
    by_byte [] s found = absurd (none-some s found)
    by_byte (byte ∷ bytes) s found = by_bit (nat_le 128 byte)
      where
        by_bit : (b : Bool) → (cond b (element_begun depth stream around level place)
            (text_begun stream place level.end) ≡ element_begun depth stream around level place)
            ⊎ (cond b (element_begun depth stream around level place) (text_begun stream place level.end)
            ≡ text_begun stream place level.end)
        by_bit true = inl refl
        by_bit false = inr refl

    by_test : (b : Bool) → nat_eq place level.end ≡ b
        → cond b (checked_finish level place)
        (option_and_then (item_by depth stream around level place)
        (take_within (level.end - place) 1 (drop place stream))) ≡ Some step
        → ((place ≡ level.end) × (cond b (checked_finish level place)
        (option_and_then (item_by depth stream around level place)
        (take_within (level.end - place) 1 (drop place stream))) ≡ checked_finish level place))
        ⊎ ((cond b (checked_finish level place)
        (option_and_then (item_by depth stream around level place)
        (take_within (level.end - place) 1 (drop place stream))) ≡ element_begun depth stream around level place)
        ⊎ (cond b (checked_finish level place)
        (option_and_then (item_by depth stream around level place)
        (take_within (level.end - place) 1 (drop place stream))) ≡ text_begun stream place level.end))
    by_test true equal found = inl (grind (arith, nat_tests, equal), refl)
    by_test false apart found =
        let parts = and_then_some (item_by depth stream around level place)
        (take_within (level.end - place) 1 (drop place stream)) step found in
        let front = ap (option_and_then (item_by depth stream around level place)) parts.1 in
        elim (by_byte parts.0 step parts.2) [
          | inl one ↦ inr (inl (front ∙ one))
          | inr other ↦ inr (inr (front ∙ other))
        ]

-- ---- a text

module _ (k : Numbers) (stream : List ℕ) (fit : All (λ b. b < 256) stream) (level : Level) (up : List Level)
    (whole : level.end ≤ length stream) where
  -- A text, and the events after it.
  pub record TextRead (n : ℕ) (events : List Event) (place : ℕ) : Type 0 where
    pub text : List ℕ
    pub pieces : List Piece
    pub rest : List Event
    pub fuel : ℕ
    pub fewer : fuel < n
    pub there : drop place stream ≡ measured_bytes text ++ drop (place + (4 + length text)) stream
    pub within : place + (4 + length text) ≤ level.end
    pub joins : Joins text pieces
    pub line : is_within_line text ≡ true
    pub own : events ≡ map event.Text pieces ++ rest
    pub ends : Ends k stream fuel (at (level ∷ up) Item (place + (4 + length text))) rest

  text_steps : (place left : ℕ) → step_at k stream (at (level ∷ up) (Text left) place)
      ≡ piece_step event.Text Item Text stream place left
  unfolding step_at text_step
  text_steps place left = refl

  same_step : (place left : ℕ) → text_step stream place left ≡ piece_step event.Text Item Text stream place left
  unfolding text_step
  same_step place left = refl

  -- Where the step at an item is that of a text, the text is read up to the next item.
  pub text_read : (n place : ℕ) (events : List Event)
      → step_at k stream (at (level ∷ up) Item place) ≡ text_begun stream place level.end
      → Ends k stream n (at (level ∷ up) Item place) events → TextRead n events place
  unfolding text_begun
  text_read zero place events is ends = absurd (no_run k stream (at (level ∷ up) Item place) events ends)
  text_read (suc n) place events is ends =
      let some = some_step k stream n (at (level ∷ up) Item place) events ends in
      let parts = and_then_some (text_step stream (place + 4)) (length_at stream place level.end) some.0
      (sym is ∙ some.1) in
      let left : ℕ = parts.0 in
      let read = length_read stream place level.end left fit whole parts.1 in
      let within = read.0 in
      let begun : step_at k stream (at (level ∷ up) Item place)
      ≡ piece_step event.Text Item Text stream (place + 4) left =
      is ∙ ap (option_and_then (text_step stream (place + 4))) parts.1 ∙ same_step (place + 4) left in
      let pieces = pieces_read k stream level up event.Text Item Text text_steps (λ piece. tt) (suc n) Item place
      (place + 4) left events begun (omega (arith, within, whole)) ends in
      let text : List ℕ = bytes_at stream (place + 4) left in
      let long : length text ≡ left = length-bytes_at stream (place + 4) left (omega (arith, within, whole)) in
      record {
        text = text;
        pieces = pieces.pieces;
        rest = pieces.rest;
        fuel = pieces.fuel;
        fewer = pieces.fewer;
        there = measured_at stream place left (omega (arith, within, whole)) read.1
            ∙ ap (λ m. measured_bytes text ++ drop (place + (4 + m)) stream) (sym long);
        within = omega (arith, within, long);
        joins = pieces.joins;
        line = pieces.line;
        own = pieces.own;
        ends = subst (λ p. Ends k stream pieces.fuel (at (level ∷ up) Item p) pieces.rest)
            (omega (arith, long)) pieces.ends;
      }
