-- The rules of the entries so far.
use Rattle.std.proofs.Common.{◌≡◌, take}
use Rattle.token_stack.specs.Entries.{rules_of}
use Rattle.token_stack.proofs.rows.rules_in.Given as goal

abbrev pub invariant-loop-entry : goal.invariant-loop-entry
invariant-loop-entry l = l.row ≡ rules_of (take l.entry-index l.entries)
