use Rattle.std.proofs.Common.{◌≤◌, length, take}
use Rattle.std.specs.Io.KnownBytes.{Consumes}
use Rattle.acl_outside.proofs.Trying.{Passed}
use Rattle.acl_outside.proofs.reader_source.read_full.Given as goal

-- the bytes filled so far were consumed
abbrev pub invariant-loop-turn : goal.invariant-loop-turn
invariant-loop-turn g l = record {
  in_range : l.filled ≤ length l.into;
  consumed : Consumes (g.R.SomeRead.to_come l.initial.reader) (g.R.SomeRead.to_come l.reader) (take l.filled l.into);
  passed : Passed (g.R.SomeRead.tries l.initial.reader) (g.R.SomeRead.tries l.reader) l._turn;
}
