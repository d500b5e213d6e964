use Rattle.std.proofs.Common.{◌≡◌, ◌+◌, ◌≤◌, drop}
use Rattle.xpath_rules.specs.declared.state.State.{State}
use Rattle.xpath_rules.specs.PathMachine.{run, live}
use Rattle.xpath_rules.proofs.reading.path_of.Given as goal

-- The rest of the bytes runs on from here as all of them run from the start.
abbrev pub invariant-loop-byte : goal.invariant-loop-byte
invariant-loop-byte l = record {
  ran : run l.user (drop l.byte-index l.bytes) l.state ≡ run l.user l.bytes State.Start;
  lives : l.at + live l.user (drop l.byte-index l.bytes) l.state ≡ live l.user l.bytes State.Start;
  counted : l.at ≡ l.byte-index;
  few : l.at ≤ 1024;
}
