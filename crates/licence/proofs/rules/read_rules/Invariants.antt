use Rattle.std.proofs.Common.{◌≡◌, ◌≤◌, ◌+◌, [], length}
use Rattle.acl_model.specs.Lines.{lines}
use Rattle.licence.specs.Body.{rules_from}
use Rattle.licence.proofs.rules.read_rules.Given as goal

-- The rules so far, with the lines that are left, give what all lines give.
abbrev pub invariant-loop-text : goal.invariant-loop-text
invariant-loop-text l = record {
  goes_on : rules_from l.fn.user l.fn.first [] (lines l.fn.bytes) ≡ rules_from l.fn.user l.line l.rules.items (lines l.rest);
  number : l.line ≡ l.fn.first + length l.rules.items;
  few : length l.rules.items ≤ 64;
}

abbrev pub decreases-loop-text : goal.decreases-loop-text
decreases-loop-text l = length l.rest
