use Rattle.std.proofs.Common.{◌≡◌, List, ℕ}
use Rattle.skip_decode.specs.Spots.{IsSpot}
use Rattle.skip_decode.specs.StreamEvents.{events_left}
use Rattle.skip_decode.specs.inside.Windows.{IsHeld}
use Rattle.skip_decode.proofs.StreamReading.{IsOnWay}
use Rattle.skip_decode.proofs.reading.read_events.Given as goal

-- The events from the spot on build with the builder what the whole stream builds.
abbrev pub invariant-loop-event : goal.invariant-loop-event
invariant-loop-event l = record {
  bytes : l.window.source.bytes.now ≡ l.stream;
  held : IsHeld (λ (stream : List ℕ). stream ≡ l.window.source.bytes.now) l.window.held l.window.at;
  spot : IsSpot l.numbers l.spot;
  way : IsOnWay l.names l.numbers l.stream l.spot l.builder;
}

abbrev pub decreases-loop-event : goal.decreases-loop-event
decreases-loop-event l = events_left l.numbers l.spot
