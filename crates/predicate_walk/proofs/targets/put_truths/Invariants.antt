use Rattle.std.proofs.Common.{◌≡◌, ◌+◌, ◌≤◌, false, length, take, drop, replicate}
use Rattle.predicate_walk.specs.inside.States.{number_of_states, last_states, patched}
use Rattle.predicate_walk.specs.Truths.{preds_in}
use Rattle.predicate_walk.proofs.targets.put_truths.Given as goal

abbrev pub invariant-loop-r : goal.invariant-loop-r
invariant-loop-r l = record {
  long : l.start + number_of_states (preds_in (drop l.r-index l.preds)) ≡ length l.row;
  room : l.place + length (drop l.r-index l.preds) ≤ length l.flags;
  same : length l.flags ≡ length l.initial.flags;
  clear : take (length (drop l.r-index l.preds)) (drop l.place l.flags)
      ≡ replicate (length (drop l.r-index l.preds)) false;
  told : patched l.place (last_states (preds_in (drop l.r-index l.preds)) (drop l.start l.row)) l.flags
      ≡ patched l.at (last_states (preds_in l.preds) l.row) l.initial.flags;
}
