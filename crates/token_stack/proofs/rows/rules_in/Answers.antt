-- One entry more.
use Rattle.std.proofs.Common.{ℕ, List, ap, eqb, ◌||◌, ◌∙◌}
use Rattle.acl_bits.specs.Row.{row_of, is_member}
use Rattle.token_stack.proofs.RowLaws.{rules-put, rules-pass}
use Rattle.token_stack.proofs.rows.rules_in.Goals as goal
use Rattle.token_stack.proofs.rows.rules_in.Goals.{in-Some, in-None}

pub loop-entry-preserved : goal.loop-entry-preserved
loop-entry-preserved c = elim c.match-entry.branch [
  | in-Some w ↦
      w.row-is ∙ w.put.ensures ∙ ap (λ r. row_of (λ m. eqb m r || is_member c.loop-entry.row m)) w.from.ensures
      ∙ ap (λ (xs : List ℕ). row_of (λ m. eqb m w.in-Some.rule || is_member xs m)) c.loop-entry.invariant
      ∙ rules-put c.args.entries.now c.loop-entry.entry-index _ w.in-Some.rule c.loop-entry-test.true w.in-Some.is
  | in-None w ↦ w.row-is ∙ c.loop-entry.invariant ∙ rules-pass c.args.entries.now c.loop-entry.entry-index _ c.loop-entry-test.true w.in-None.is
]
