use Rattle.std.proofs.Common.{◌≡◌, ◌-◌, ◌≤◌, length, take, drop, IfSome}
use Rattle.acl_outside.proofs.Trying.{Passed}
use Rattle.acl_outside.proofs.positioned_read.read_full_at.Given as goal

-- the bytes before the next offset are those of the file at the asked offset
abbrev pub invariant-loop-turn : goal.invariant-loop-turn
invariant-loop-turn g l = record {
  in_range : l.filled ≤ length l.into;
  constant : g.F.PositionedRead.told l.file ≡ g.F.PositionedRead.told l.initial.file;
  cut : IfSome (g.F.PositionedRead.told l.initial.file) (λ all. l.filled ≤ length all - l.at);
  part : IfSome (g.F.PositionedRead.told l.initial.file) (λ all. take l.filled l.into ≡ take l.filled (drop l.at all));
  passed : Passed (g.F.PositionedRead.tries l.initial.file) (g.F.PositionedRead.tries l.file) l._turn;
}
