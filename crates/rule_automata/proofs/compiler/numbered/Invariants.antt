-- The set has the rules of the sign so far.
use Rattle.std.proofs.Common.{◌≡◌}
use Rattle.rule_automata.proofs.StateLists.{numbers_before}
use Rattle.rule_automata.proofs.compiler.numbered.Given as goal

abbrev pub invariant-loop-number : goal.invariant-loop-number
invariant-loop-number l = l.row ≡ numbers_before l.sign l.rules l.number
