use Rattle.skip_decode.proofs.Moves.{stands-first, stands-rest, stands-step, stands-moves, stands-pass}
use Rattle.skip_decode.proofs.stream_laws.positions_move_along_the_events.Goals as goal

pub returns : goal.returns
returns c = record {
  first = stands-first;
  rest = λ d position i good within stands. stands-rest d good within position i stands;
  some_step = λ d position i good within stands. stands-step d good within position i stands;
  step = λ d position i step good within stands there. stands-moves d good within position i step stands there;
  pass = λ d position i good within stands. stands-pass d good within position i stands;
}
