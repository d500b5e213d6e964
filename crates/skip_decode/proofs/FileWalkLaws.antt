-- The laws of a walk over a file in a store: what the trait `Walk` says of its spots, its calls, and its moments.
use Rattle.std.proofs.Common.{◌≡◌, ℕ, true, Some, None, length, ap, sym, ◌∙◌, subst}
use Rattle.std.proofs.lemmas.Option.{none-some}
use Rattle.acl_model.specs.Document.{is_document}
use Rattle.acl_model.specs.Stream.{plain, has_stream}
use Rattle.acl_model.specs.declared.document.Doc.{Doc}
use Rattle.acl_walk.specs.Listed.{AreNames, IsListOf}
use Rattle.acl_walk.specs.Nesting.{first_stage}
use Rattle.acl_walk.specs.Open.{tags_at}
use Rattle.acl_walk.specs.SpotMoves.{StandsAt, PassesTo}
use Rattle.acl_walk.specs.Spelling.{Spells}
use Rattle.acl_walk.proofs.KnownLaws.{document_in_view}
use Rattle.merkle_chunks.specs.HeaderBytes.{IsInRange}
use Rattle.skip_decode.specs.FileWalk.{FileFixed, numbers_in, IsFileOrigin, IsFileSpot, place_of, IsFilePlace, AreListsKnown}
use Rattle.skip_decode.specs.Positions.{Numbers, Position, first_position, passed}
use Rattle.skip_decode.specs.Spots.{stage_of}
use Rattle.skip_decode.specs.StreamEvents.{numbers_of, stream_events, StandsAtEvent}
use Rattle.skip_decode.specs.StreamSteps.{Step, step_at, position_after}
use Rattle.skip_decode.specs.inside.Moves.{IsMove}
use Rattle.skip_decode.proofs.RootRuns.{stream_events-spell}
use Rattle.skip_decode.proofs.SpotLaws.{first-spot, spot-after, passed-spot}
use Rattle.skip_decode.proofs.WalkLaws.{first-stands, some-step, step-stands, place-is, pass-stands, open-tags, fresh-stands}

-- ---- indexes of an origin's list

module _ (k : FileFixed) (d : Doc) (origin : IsFileOrigin k d) where
  good : is_document d ≡ true
  good = origin.0.document

  within : has_stream d ≡ true
  within = origin.0.has_root.defined

  numbers : numbers_of d ≡ numbers_in k.header
  numbers = ap numbers_in origin.0.header_is

  -- A position that stands at an event has its index.
  placed : (position : Position) (i : ℕ) → StandsAtEvent d position i
      → IsFilePlace d position × (place_of d position ≡ i)
  placed position i stands =
      let is = place-is d good within position i stands in
      (subst (StandsAtEvent d position) (sym is) stands, is)

  -- The list spells the document.
  pub file-listed : IsListOf k.names (Some d) (stream_events d)
  file-listed = record {
    spelled = subst (λ names. Spells names (Some d) (stream_events d)) origin.1 (stream_events-spell d good within);
    formed = document_in_view d good;
  }

  -- A spot before the first event is at index 0.
  pub file-fresh : (position : Position) → stage_of position ≡ first_stage → IsFilePlace d position
      → place_of d position ≡ 0
  file-fresh position first place = fresh-stands d good within position (place_of d position) place first

  -- The elements that are open at a spot are those that are open at its index.
  pub file-open_tags : (position : Position) → IsFilePlace d position
      → (stage_of position).tags ≡ tags_at (stream_events d) (place_of d position)
  file-open_tags position place = open-tags d good within position (place_of d position) place

  -- The first position is an index, and it is 0.
  pub file-first : IsFilePlace d (first_position (numbers_in k.header)) ×
      (place_of d (first_position (numbers_in k.header)) ≡ 0)
  file-first = placed (first_position (numbers_in k.header)) 0
      (subst (λ (n : Numbers). StandsAtEvent d (first_position n) 0) numbers (first-stands d good within))

  -- The event of a step is the one at the spot's index, and the step leads to the next index.
  pub file-event : (position : Position) (step : Step) → IsFilePlace d position
      → step_at (numbers_in k.header) (plain d) position ≡ Some step
      → StandsAt (stream_events d) (place_of d position) step.event
      (place_of d (position_after position step)) × IsFilePlace d (position_after position step)
  file-event position step place is =
      let moved = step-stands d good within position (place_of d position) step place
      (ap (λ n. step_at n (plain d) position) numbers ∙ is) in
      let new = placed (position_after position step) _ moved.1 in
      (subst (StandsAt (stream_events d) (place_of d position) step.event) (sym new.1) moved.0, new.0)

  -- At an index there is a step.
  pub file-some_step : (position : Position) → IsFilePlace d position
      → step_at (numbers_in k.header) (plain d) position ≡ None → ⊥
  file-some_step position place none =
      let step = some-step d good within position (place_of d position) place in
      none-some step.0 (sym none ∙ sym (ap (λ n. step_at n (plain d) position) numbers) ∙ step.1)

  -- A pass leads to the index of the Finish.
  pub file-pass : (position : Position) → IsFilePlace d position
      → IsFilePlace d (passed position) × PassesTo (stage_of position).tags (stream_events d) (place_of d position)
      (place_of d (passed position))
  file-pass position place =
      let pass = pass-stands d good within position (place_of d position) place in
      let new = placed (passed position) pass.0 pass.1 in
      (new.0, subst (PassesTo (stage_of position).tags (stream_events d) (place_of d position)) (sym new.1) pass.2)

-- ---- spots

-- What is known of the lists at a position.
pub file-lists : (k : FileFixed) (position : Position) → AreListsKnown k position
file-lists k position = record {
  spelled = λ d origin. file-listed k d origin;
  fresh = λ d origin first place. file-fresh k d origin position first place;
  open_tags = λ d origin place. file-open_tags k d origin position place;
}

-- A step leads from a spot to a spot.
pub file-after : (k : FileFixed) (position : Position) (step : Step) → IsFileSpot k position
    → IsMove (numbers_in k.header) position step → IsFileSpot k (position_after position step)
file-after k position step made move = record {
  range = made.range;
  names = made.names;
  count = made.count;
  spot = spot-after (numbers_in k.header) position step made.spot move;
  lists = file-lists k (position_after position step);
}

-- A pass leads from a spot to a spot.
pub file-passed : (k : FileFixed) (position : Position) → IsFileSpot k position → IsFileSpot k (passed position)
file-passed k position made = record {
  range = made.range;
  names = made.names;
  count = made.count;
  spot = passed-spot (numbers_in k.header) position made.spot;
  lists = file-lists k (passed position);
}

-- The position before the first event is a spot.
pub file-new : (k : FileFixed) → IsInRange k.header → AreNames k.names → length k.names ≡ k.header.tags
    → IsFileSpot k (first_position (numbers_in k.header))
file-new k range names count = record {
  range = range;
  names = names;
  count = count;
  spot = first-spot (numbers_in k.header);
  lists = file-lists k (first_position (numbers_in k.header));
}
