-- Runs: the events at successive positions of a stream. From a run the events from its first position on follow.
use Rattle.std.proofs.Common.{◌≡◌, ℕ, suc, ◌+◌, ◌*◌, ◌≤◌, Some, List, [], ◌∷◌, ◌++◌, length, ap, ◌∙◌, arith}
use Rattle.acl_walk.specs.declared.event.Event.{Event}
use Rattle.skip_decode.specs.Positions.{Numbers, Position}
use Rattle.skip_decode.specs.StreamSteps.{Step, step_at, position_after}
use Rattle.skip_decode.specs.StreamEvents.{and_then, events_by, run, weight}

-- The step at a position is this one, its event isn't End, and after it fewer events are to come.
pub record Goes (k : Numbers) (stream : List ℕ) (position : Position) (step : Step) : Type 0 where
  pub there : step_at k stream position ≡ Some step
  pub on : (rest : List Event) → and_then step.event rest ≡ step.event ∷ rest
  pub fewer : 4 * position.place + 1 + 2 * length (position_after position step).levels + weight (position_after position step).next
      ≤ 4 * step.place + 2 * length position.levels + weight position.next

-- The events from a position up to another one.
pub data Runs : Numbers → List ℕ → Position → List Event → Position → Type 0 where
  stay : (k : Numbers) (stream : List ℕ) (position : Position) → Runs k stream position [] position
  onward : (k : Numbers) (stream : List ℕ) (position : Position) (step : Step) (events : List Event) (last : Position)
      → Goes k stream position step → Runs k stream (position_after position step) events last
      → Runs k stream position (step.event ∷ events) last

-- One run after another is a run.
pub runs-append : (k : Numbers) (stream : List ℕ) (first middle last : Position) (events more : List Event)
    → Runs k stream first events middle → Runs k stream middle more last → Runs k stream first (events ++ more) last
runs-append k stream first middle last events more (stay k2 stream2 position) after = after
runs-append k stream first middle last events more (onward k2 stream2 position step rest last2 goes before) after =
    onward k stream first step (rest ++ more) last goes (runs-append k stream (position_after first step) middle last rest more before after)

-- The run of one step.
pub one_step : (k : Numbers) (stream : List ℕ) (position : Position) (step : Step) → Goes k stream position step → Runs k stream position (step.event ∷ []) (position_after position step)
one_step k stream position step goes = onward k stream position step [] (position_after position step) goes (stay k stream (position_after position step))

-- Each event of a run brings its end nearer.
pub runs-few : (k : Numbers) (stream : List ℕ) (first last : Position) (events : List Event) → Runs k stream first events last
    → length events + 4 * first.place + 2 * length last.levels + weight last.next ≤ 4 * last.place + 2 * length first.levels + weight first.next
runs-few k stream first last events (stay k2 stream2 position) = omega arith
runs-few k stream first last events (onward k2 stream2 position step rest last2 goes after) =
    let later = runs-few k stream (position_after first step) last rest after in
    let one = goes.fewer in
    omega (arith, later, one)

-- At a position with a step the run goes on after it.
run-more : (k : Numbers) (stream : List ℕ) (n : ℕ) (position : Position) (step : Step) → Goes k stream position step
    → run k stream (suc n) position ≡ step.event ∷ run k stream n (position_after position step)
unfolding run
run-more k stream n position step goes = ap (events_by (run k stream n) position) goes.there ∙ goes.on (run k stream n (position_after position step))

-- With enough steps, the events are those of the run, and then those from its end on.
pub run-append : (k : Numbers) (stream : List ℕ) (n : ℕ) (first last : Position) (events : List Event) → Runs k stream first events last
    → run k stream (length events + n) first ≡ events ++ run k stream n last
run-append k stream n first last events (stay k2 stream2 position) = ap (λ m. run k stream m first) (omega arith)
run-append k stream n first last events (onward k2 stream2 position step rest last2 goes after) =
    let same : length (step.event ∷ rest) + n ≡ suc (length rest + n) = omega arith in
    ap (λ m. run k stream m first) same
    ∙ run-more k stream (length rest + n) first step goes
    ∙ ap (λ l. step.event ∷ l) (run-append k stream n (position_after first step) last rest after)
