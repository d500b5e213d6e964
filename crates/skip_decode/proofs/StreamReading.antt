-- The steps of a reader along a stream in memory, and what its events build.
use Rattle.std.proofs.Common.{◌≡◌, ℕ, zero, suc, ◌+◌, ◌<◌, ◌≤◌, true, false, cond, Option, Some, None, List, [], ◌∷◌, length, refl, sym, ap, subst, ◌∙◌, arith}
use Rattle.std.specs.Option.{option_and_then, option_map}
use Rattle.std.proofs.lemmas.Option.{none-some, same_Some}
use Rattle.acl_model.specs.declared.document.Doc.{Doc}
use Rattle.acl_walk.specs.SpotMoves.{Falls}
use Rattle.acl_walk.specs.declared.event.Event.{Event}
use Rattle.acl_walk.specs.declared.event.Event.TheVariants.{Begin, Attr, HeadEnd, Text, Finish, End}
use Rattle.skip_decode.specs.Building.{Builder, built_on, document_of, fed, is_end, no_event}
use Rattle.skip_decode.specs.Positions.{Numbers, Position, first_position}
use Rattle.skip_decode.specs.StreamEvents.{after_step, and_then, events_by, events_left, run}
use Rattle.skip_decode.specs.StreamSteps.{Change, Stay, Open, Close, Step, levels_after, position_after, step_at}
use Rattle.skip_decode.specs.Spots.{IsSpot}
use Rattle.skip_decode.specs.declared.position.Level.{Level}
use Rattle.skip_decode.specs.inside.LevelsInMemory.{HasRoom}
use Rattle.skip_decode.specs.inside.Moves.{IsMove}
use Rattle.skip_decode.specs.inside.Reading.{document_read}
use Rattle.skip_decode.proofs.LevelLaws.{length-with_innermost}
use Rattle.skip_decode.proofs.SpotLaws.{spot-after, spot-falls}

-- ---- a step

room-by : (change : Change) (levels : List Level) → length (levels_after change levels) < 256 → HasRoom change levels
room-by Stay levels few = tt
room-by (Open parent child) levels few = omega (arith, few, length-with_innermost parent levels)
room-by Close levels few = tt

-- there is room for the element that a step opens
pub step-room : (k : Numbers) (s : Position) (step : Step) → k.depth ≤ 255 → IsSpot k s → IsMove k s step
    → HasRoom step.change s.levels
step-room k s step deep spot move =
    let few = (spot-after k s step spot move).few_open in
    room-by step.change s.levels (omega (arith, deep, few))

module _ (k : Numbers) (s new : Position) (step : Step) (event : Event) (spot : IsSpot k s) (move : IsMove k s step)
    (moved : new ≡ position_after s step) (told : event ≡ step.event) where
  -- it leads to a spot
  pub step-spot : IsSpot k new
  step-spot = subst (λ (p : Position). IsSpot k p) (sym moved) (spot-after k s step spot move)

  -- and lowers the bound on the events to come, but for End
  pub step-falls : Falls event (events_left k s) (events_left k new)
  step-falls =
      subst (λ (x : Event). Falls x (events_left k s) (events_left k new)) (sym told)
      (subst (λ (p : Position). Falls step.event (events_left k s) (events_left k p)) (sym moved)
      (spot-falls k s step spot move))

-- ---- events

-- an event other than End lowers the bound on the events to come
pub falls-on : (event : Event) (old new : ℕ) → is_end event ≡ false → Falls event old new → new < old
falls-on (Begin tag below) old new other falls = falls
falls-on (Attr piece) old new other falls = falls
falls-on HeadEnd old new other falls = falls
falls-on (Text piece) old new other falls = falls
falls-on (Finish tag) old new other falls = falls
falls-on End old new other falls = cc

-- after an event other than End the others follow
pub goes-on : (event : Event) (rest : List Event) → is_end event ≡ false → and_then event rest ≡ event ∷ rest
goes-on (Begin tag below) rest other = refl
goes-on (Attr piece) rest other = refl
goes-on HeadEnd rest other = refl
goes-on (Text piece) rest other = refl
goes-on (Finish tag) rest other = refl
goes-on End rest other = cc

-- after End none follow
pub ends-there : (event : Event) (rest : List Event) → is_end event ≡ true → and_then event rest ≡ End ∷ []
ends-there (Begin tag below) rest end = cc
ends-there (Attr piece) rest end = cc
ends-there HeadEnd rest end = cc
ends-there (Text piece) rest end = cc
ends-there (Finish tag) rest end = cc
ends-there End rest end = refl

-- ---- what the events build

-- The builder has taken the events before the position: the whole stream builds what those from the position on build
-- with it. There is fuel for all of these.
pub record IsOnWay (names : List (List ℕ)) (k : Numbers) (stream : List ℕ) (position : Position)
    (builder : Builder) : Type 0 where
  pub fuel : ℕ
  pub enough : events_left k position < fuel
  pub builds : document_read names k stream ≡ built_on names (run k stream fuel position) builder

-- before the first event
pub way-first : (names : List (List ℕ)) (k : Numbers) (stream : List ℕ) (position : Position) (builder : Builder)
    → position ≡ first_position k → builder ≡ no_event → IsOnWay names k stream position builder
way-first names k stream position builder at new = record {
  fuel = events_left k position + 1;
  enough = omega arith;
  builds =
      ap (λ p. built_on names (run k stream (events_left k p + 1) p) no_event) (sym at)
      ∙ ap (λ b. built_on names (run k stream (events_left k position + 1) position) b) (sym new);
}

module _ (names : List (List ℕ)) (k : Numbers) (stream : List ℕ) (old new : Position) (builder : Builder) where
  -- the position has no step
  abbrev stuck : Option Step → Type 0
  stuck o = option_map (λ (step : Step). step.event) o ≡ None

  run-stuck : (n : ℕ) (o : Option Step) → step_at k stream old ≡ o → stuck o → run k stream n old ≡ []
  unfolding run
  run-stuck zero o is none = refl
  run-stuck (suc n) None is none = ap (events_by (run k stream n) old) is
  run-stuck (suc n) (Some step) is none = absurd (none-some step.event (sym none))

  -- where there is no step, the stream builds no document
  pub way-stuck : IsOnWay names k stream old builder → stuck (step_at k stream old)
      → document_read names k stream ≡ None
  way-stuck way none =
      way.builds ∙ ap (λ l. built_on names l builder) (run-stuck way.fuel (step_at k stream old) refl none)

  module _ (event : Event) (told : Some event ≡ option_map (λ (step : Step). step.event) (step_at k stream old))
      (moved : new ≡ after_step old (step_at k stream old)) where
    -- The events from the position on are this one and those after it.
    run-on : (n : ℕ) (o : Option Step) → step_at k stream old ≡ o
        → Some event ≡ option_map (λ (step : Step). step.event) o → new ≡ after_step old o
        → run k stream (suc n) old ≡ and_then event (run k stream n new)
    unfolding run
    run-on n None is some there = absurd (none-some event (sym some))
    run-on n (Some step) is some there =
        ap (events_by (run k stream n) old) is
        ∙ ap (λ e. and_then e (run k stream n (position_after old step))) (sym (same_Some event step.event some))
        ∙ ap (λ p. and_then event (run k stream n p)) (sym there)

    -- what the events from the position on build
    abbrev here : ℕ → Option Doc
    here n = built_on names (and_then event (run k stream n new)) builder

    -- The whole stream builds this, with less fuel.
    record Onward : Type 0 where
      fuel : ℕ
      enough : events_left k old ≤ fuel
      builds : document_read names k stream ≡ here fuel

    onward : (fuel : ℕ) → events_left k old < fuel
        → document_read names k stream ≡ built_on names (run k stream fuel old) builder → Onward
    onward zero enough builds = absurd (omega (arith, enough))
    onward (suc n) enough builds = record {
      fuel = n;
      enough = omega (arith, enough);
      builds = builds ∙ ap (λ l. built_on names l builder) (run-on n (step_at k stream old) refl told moved);
    }

    -- at End the document is whole
    pub way-end : IsOnWay names k stream old builder → is_end event ≡ true
        → document_read names k stream ≡ document_of builder
    way-end way end =
        let on = onward way.fuel way.enough way.builds in
        on.builds ∙ ap (λ l. built_on names l builder) (ends-there event (run k stream on.fuel new) end)

    -- after an event other than End
    feeds : (n : ℕ) → is_end event ≡ false
        → here n ≡ option_and_then (built_on names (run k stream n new)) (fed names event builder)
    feeds n other =
        ap (λ l. built_on names l builder) (goes-on event (run k stream n new) other)
        ∙ ap (λ b. cond b (document_of builder) (option_and_then (built_on names (run k stream n new))
        (fed names event builder))) other

    -- an event that doesn't fit builds no document
    pub way-unfit : IsOnWay names k stream old builder → is_end event ≡ false → fed names event builder ≡ None
        → document_read names k stream ≡ None
    way-unfit way other none =
        let on = onward way.fuel way.enough way.builds in
        on.builds ∙ feeds on.fuel other ∙ ap (option_and_then (built_on names (run k stream on.fuel new))) none

    -- the builder takes the event
    pub way-on : (after : Builder) → IsOnWay names k stream old builder → is_end event ≡ false
        → Falls event (events_left k old) (events_left k new) → fed names event builder ≡ Some after
        → IsOnWay names k stream new after
    way-on after way other falls some =
        let on = onward way.fuel way.enough way.builds in
        let less = falls-on event (events_left k old) (events_left k new) other falls in
        let least = on.enough in
        record {
          fuel = on.fuel;
          enough = omega (arith, less, least);
          builds = on.builds ∙ feeds on.fuel other
              ∙ ap (option_and_then (built_on names (run k stream on.fuel new))) some;
        }
