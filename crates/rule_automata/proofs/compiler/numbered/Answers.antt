-- A rule is added to the set, or left out.
use Rattle.std.proofs.Common.{ℕ, List, ap, sym, eqb, ◌||◌, ◌∙◌}
use Rattle.acl_bits.specs.Row.{row_of, is_member}
use Rattle.rule_automata.proofs.StateLists.{numbers-put, numbers-pass}
use Rattle.rule_automata.proofs.compiler.numbered.Goals as goal
use Rattle.rule_automata.proofs.compiler.numbered.Goals.{then-is_of_sign, else-is_of_sign}

pub loop-number-preserved : goal.loop-number-preserved
loop-number-preserved c =
    let n : ℕ = c.loop-number.number in
    elim c.if-is_of_sign.branch [
      | then-is_of_sign w ↦
          w.row-is ∙ w.put.ensures ∙ ap (λ (xs : List ℕ). row_of (λ m. eqb m n || is_member xs m)) c.loop-number.invariant
          ∙ numbers-put c.args.sign c.args.rules.now n c.index-rules-number.result c.loop-number-test.true c.index-rules-number.is (sym c.is_of_sign.ensures ∙ w.if-is_of_sign.true)
      | else-is_of_sign w ↦
          w.row-is ∙ c.loop-number.invariant
          ∙ numbers-pass c.args.sign c.args.rules.now n c.index-rules-number.result c.loop-number-test.true c.index-rules-number.is (sym c.is_of_sign.ensures ∙ w.if-is_of_sign.false)
    ]
