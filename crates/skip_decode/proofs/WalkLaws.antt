-- How positions move in the stream of a document, as a walk over it needs it: beside the laws of Moves, at which index
-- a position stands, and which elements are open there.
use Rattle.std.proofs.Common.{◌≡◌, ℕ, zero, suc, ◌+◌, ◌-◌, ◌<◌, Bool, true, false, Option, Some, None, is_some, List, [], ◌∷◌, length, take, drop, refl, ap, sym, ◌∙◌, arith, length-drop}
use Rattle.std.proofs.lemmas.Bool.{true≢false}
use Rattle.acl_model.specs.Document.{is_document}
use Rattle.acl_model.specs.Stream.{plain, has_stream}
use Rattle.acl_model.specs.declared.document.Doc.{Doc}
use Rattle.acl_walk.specs.Nesting.{Stage, at_start, tags_after, content_phase, phase_after_attr, phase_after_text, phase_after, first_stage, stage_after}
use Rattle.acl_walk.specs.Open.{open_after_events, open_at, tags_of, tags_at}
use Rattle.acl_walk.specs.SpotMoves.{place_after, StandsAt, PassesTo}
use Rattle.acl_walk.specs.inside.OpenLaws.{tags_of-open_after, open_after_events-onward}
use Rattle.acl_walk.specs.declared.event.Event.{Event}
use Rattle.acl_walk.specs.declared.event.Event.TheVariants as event
use Rattle.skip_decode.specs.declared.position.Next.TheVariants as next
use Rattle.skip_decode.specs.Positions.{Numbers, Position, first_position, passed}
use Rattle.skip_decode.specs.Spots.{IsSpot, phase_of, level_tags, stage_of}
use Rattle.skip_decode.specs.StreamSteps.{Step, step_at, position_after}
use Rattle.skip_decode.specs.StreamEvents.{events_from, numbers_of, stream_events, after_step, position_at, IsAt, same, by_pass, StandsAtEvent}
use Rattle.skip_decode.proofs.Moves.{stands-first, stands-rest, stands-step, stands-moves, stands-pass}
use Rattle.skip_decode.proofs.SpotLaws.{spot-after, spot-stage, first-spot}
use Rattle.skip_decode.proofs.StreamMoves.{step-moves}

-- ---- stages

-- The tags after an event of a list are those after the events up to it.
tags_at-more : (list : List Event) (i : ℕ) (e : Event) → drop i list ≡ e ∷ drop (i + 1) list
    → tags_at list (i + 1) ≡ tags_after (tags_at list i) e
tags_at-more list i e there =
    ap tags_of
    (open_after_events-onward [] list i 1 (i + 1) refl
    ∙ ap (λ events. open_after_events (open_at list i) (take 1 events)) there)
    ∙ tags_of-open_after (open_at list i) e

content-not_start : (tags : List ℕ) → content_phase tags ≡ at_start → ⊥
content-not_start [] start = cc
content-not_start (tag ∷ tags) start = cc

attr-not_start : (last : Bool) → phase_after_attr last ≡ at_start → ⊥
attr-not_start true start = cc
attr-not_start false start = cc

text-not_start : (last : Bool) → phase_after_text last ≡ at_start → ⊥
text-not_start true start = cc
text-not_start false start = cc

-- After an event no position is before the first one.
after-not_start : (tags : List ℕ) (e : Event) → phase_after tags e ≡ at_start → ⊥
after-not_start tags (event.Begin tag below) start = cc
after-not_start tags (event.Attr piece) start = attr-not_start piece.last start
after-not_start tags event.HeadEnd start = cc
after-not_start tags (event.Text piece) start = text-not_start piece.last start
after-not_start tags (event.Finish tag) start = content-not_start (drop 1 tags) start
after-not_start tags event.End start = cc

-- ---- the positions of any stream

-- Each position of a stream is a spot.
spot_by : (k : Numbers) (stream : List ℕ) (position : Position) (o : Option Step) → IsSpot k position
    → step_at k stream position ≡ o → IsSpot k (after_step position o)
spot_by k stream position None spot is = spot
spot_by k stream position (Some step) spot is =
    spot-after k position step spot (step-moves k stream position step spot is)

pub position-spot : (k : Numbers) (stream : List ℕ) (i : ℕ) → IsSpot k (position_at k stream i)
unfolding position_at
position-spot k stream zero = first-spot k
position-spot k stream (suc i) = spot_by k stream (position_at k stream i) (step_at k stream (position_at k stream i))
    (position-spot k stream i) refl

-- Where the position has a step, the stage at the next one is the stage after its event.
position-stage : (k : Numbers) (stream : List ℕ) (i : ℕ) (step : Step)
    → step_at k stream (position_at k stream i) ≡ Some step
    → stage_of (position_at k stream (suc i)) ≡ stage_after (stage_of (position_at k stream i)) step.event
unfolding position_at
position-stage k stream i step is =
    let spot = position-spot k stream i in
    ap (λ o. stage_of (after_step (position_at k stream i) o)) is
    ∙ spot-stage k (position_at k stream i) step spot (step-moves k stream (position_at k stream i) step spot is)

-- A position after a pass has the tags of the one that was read.
tags_same : (position read : Position) → IsAt position read → level_tags position.levels ≡ level_tags read.levels
tags_same position read (same p) = refl
tags_same position read (by_pass p q up ends tags) = ap (λ t. t ∷ level_tags up) tags

-- Only the one that was read may be before the first event.
start_same : (position read : Position) → IsAt position read → phase_of position.next ≡ at_start
    → phase_of read.next ≡ at_start
start_same position read (same p) start = start
start_same position read (by_pass p q up ends tags) start = absurd (no_finish start)
  where
    no_finish : phase_of next.Finish ≡ at_start → ⊥
    no_finish h = cc

some_of : {A : Type 0} (o : Option A) → is_some o ≡ true → (x : A) × (o ≡ Some x)
some_of None some = absurd (true≢false (sym some))
some_of (Some x) some = (x, refl)

-- ---- the positions of a document's stream

module _ (d : Doc) (good : is_document d ≡ true) (within : has_stream d ≡ true) where
  abbrev k : Numbers
  k = numbers_of d

  abbrev stream : List ℕ
  stream = plain d

  -- The position before the first event stands at index 0.
  pub first-stands : StandsAtEvent d (first_position k) 0
  first-stands = stands-first d good within

  -- A position that stands at an event has a step.
  pub some-step : (position : Position) (i : ℕ) → StandsAtEvent d position i
      → (step : Step) × (step_at k stream position ≡ Some step)
  some-step position i stands = some_of (step_at k stream position) (stands-step d good within position i stands)

  -- The step has this event, and leads to the next one.
  pub step-stands : (position : Position) (i : ℕ) (step : Step) → StandsAtEvent d position i
      → step_at k stream position ≡ Some step
      → StandsAt (stream_events d) i step.event (place_after step.event i) × StandsAtEvent d
      (position_after position step) (place_after step.event i)
  step-stands = stands-moves d good within

  -- The index at which a position stands follows from the number of events from it on.
  pub place-is : (position : Position) (i : ℕ) → StandsAtEvent d position i
      → length (stream_events d) - length (events_from k stream position) ≡ i
  place-is position i stands =
      let rest = ap length (stands-rest d good within position i stands) in
      let left = length-drop i (stream_events d) in
      let less = stands.within in
      omega (arith, rest, left, less)

  -- A pass leads to the Finish of the innermost open element.
  pub pass-stands : (position : Position) (i : ℕ) → StandsAtEvent d position i
      → (j : ℕ) × StandsAtEvent d (passed position) j × PassesTo (stage_of position).tags (stream_events d) i j
  pass-stands = stands-pass d good within

  -- The same elements are open at the position before an event and in the list.
  read_tags : (i : ℕ) → i < length (stream_events d)
      → level_tags (position_at k stream i).levels ≡ tags_at (stream_events d) i
  unfolding position_at
  read_tags zero less = refl
  read_tags (suc i) less =
      let position : Position = position_at k stream i in
      let stands : StandsAtEvent d position i = record { within = omega (arith, less); there = same position } in
      let step = some-step position i stands in
      let moved = step-stands position i step.0 stands step.1 in
      let next_index : i + 1 ≡ suc i = omega arith in
      ap (λ (s : Stage). s.tags) (position-stage k stream i step.0 step.1)
      ∙ ap (λ ts. tags_after ts step.0.event) (read_tags i (omega (arith, less)))
      ∙ sym (tags_at-more (stream_events d) i step.0.event moved.0.there)
      ∙ ap (tags_at (stream_events d)) next_index

  -- The same elements are open at a position and at its index of the list.
  pub open-tags : (position : Position) (i : ℕ) → StandsAtEvent d position i
      → (stage_of position).tags ≡ tags_at (stream_events d) i
  open-tags position i stands = tags_same position (position_at k stream i) stands.there ∙ read_tags i stands.within

  not_first : (i : ℕ) → i < length (stream_events d) → phase_of (position_at k stream i).next ≡ at_start → i ≡ 0
  not_first zero less start = refl
  not_first (suc i) less start =
      let position : Position = position_at k stream i in
      let stands : StandsAtEvent d position i = record { within = omega (arith, less); there = same position } in
      let step = some-step position i stands in
      absurd (after-not_start (stage_of position).tags step.0.event
      (sym (ap (λ (s : Stage). s.phase) (position-stage k stream i step.0 step.1)) ∙ start))

  -- Before the first event a position stands at index 0.
  pub fresh-stands : (position : Position) (i : ℕ) → StandsAtEvent d position i → stage_of position ≡ first_stage
      → i ≡ 0
  fresh-stands position i stands first =
      not_first i stands.within
      (start_same position (position_at k stream i) stands.there (ap (λ (s : Stage). s.phase) first))
