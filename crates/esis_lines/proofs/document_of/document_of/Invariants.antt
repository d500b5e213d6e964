use Rattle.std.proofs.Common.{◌≡◌, ◌+◌, ◌≤◌, false, [], length}
use Rattle.acl_model.specs.Lines.{lines}
use Rattle.esis_lines.specs.LineMachine.{State, run}
use Rattle.esis_lines.proofs.document_of.document_of.Given as goal

-- What the lines that are left lead to is what all lines mean. So many were taken that their number is not past that
-- of the bytes.
abbrev pub invariant-lines : goal.invariant-lines
invariant-lines l = record {
  means : run l.number l.closed (lines l.rest) l.reader ≡ run 1 false (lines l.bytes) (State.Inside [] []);
  in_range : l.number + length l.rest ≤ length l.bytes + 1;
}

abbrev pub decreases-lines : goal.decreases-lines
decreases-lines l = length l.rest
