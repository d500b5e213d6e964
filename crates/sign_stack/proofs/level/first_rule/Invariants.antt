-- No rule so far is one of `rules`.
use Rattle.std.proofs.Common.{◌≡◌, drop}
use Rattle.sign_stack.specs.SignLevels.{first_rule_of}
use Rattle.sign_stack.proofs.level.first_rule.Given as goal

abbrev pub invariant-loop-k : goal.invariant-loop-k
invariant-loop-k l = first_rule_of l.rules (drop l.k l.row) ≡ first_rule_of l.rules l.row
