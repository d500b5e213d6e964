use Rattle.std.proofs.Common.{◌≡◌, ◌-◌, ◌≤◌, is_some, vec_len}
use Rattle.std.specs.Io.KnownBytes.{Consumes}
use Rattle.esis_lines.proofs.input.read_all.Given as goal

-- The bytes taken so far are the first of those that were to come, and no more than are asked for. No fault was
-- counted.
abbrev pub invariant-reads : goal.invariant-reads
invariant-reads g l = record {
  taken : Consumes (g.Q.Source.left l.initial.source) (g.Q.Source.left l.source) l.bytes.items;
  in_range : vec_len l.bytes ≤ l.most;
  quiet : g.Q.Source.faults l.source ≡ g.Q.Source.faults l.initial.source;
  telling : is_some (g.Q.Source.left l.source) ≡ is_some (g.Q.Source.left l.initial.source);
}

abbrev pub decreases-reads : goal.decreases-reads
decreases-reads g l = l.most - vec_len l.bytes
