use Rattle.std.proofs.Common.{◌+◌, sym, ap, ◌∙◌, List, length, arith, length-append}
use Rattle.std.proofs.lemmas.Result.{err_from_is_err_and}
use Rattle.acl_model.specs.declared.rule.Rule.{Rule}
use Rattle.acl_model.specs.Lines.{lines}
use Rattle.licence.specs.Body.{next_rule, rules_at_end, rules_from}
use Rattle.licence.proofs.Steps.{Reads-along, Reads-refused, rules_from-none, rules_from-end, rules_from-refused, rules_from-next}
use Rattle.licence.proofs.RuleLaws.{next_rule-ok}
use Rattle.licence.proofs.rules.read_rules.Goals as goal

pub returns-then-is_end : goal.returns-then-is_end
returns-then-is_end c =
    Reads-along _ _ _
    (c.loop-text.invariant.goes_on ∙ rules_from-end _ _ _ _ _ _ c.in-Some.ensures.lines (sym c.is_end.ensures ∙ c.if-is_end.true)
    ∙ ap (λ (rs : List Rule). rules_at_end c.loop-text.line rs (lines c.in-Some.after.now)) (sym c.from_vec.ensures)) c.rules_at_end.ensures

pub returns-in_err-rule : goal.returns-in_err-rule
returns-in_err-rule c =
    let p = err_from_is_err_and c.from_residual.result c.from_residual.ensures.1 in
    rw (p.1, p.2)
    (Reads-refused (next_rule c.args.user.now c.loop-text.line c.as_slice.result.now c.in-Some.text.now) _ _
    (λ fault refused. c.loop-text.invariant.goes_on
    ∙ rules_from-refused _ _ _ _ _ _ c.in-Some.ensures.lines (sym c.is_end.ensures ∙ c.if-is_end.false) fault
    (ap (λ (rs : List Rule). next_rule c.args.user.now c.loop-text.line rs c.in-Some.text.now) (sym c.as_slice.ensures.value) ∙ refused))
    c.in_err-rule.ensures)

pub loop-text-preserved : goal.loop-text-preserved
loop-text-preserved c =
    let next = rw c.as_slice.ensures.value at c.in_ok-rule.ensures in
    let more = c.in_ok-push.ensures.items in
    let room = (next_rule-ok c.args.user.now c.loop-text.line c.loop-text.rules.items c.in-Some.text.now c.in_ok-rule.rule next).room in
    let count = ap (length {A = Rule}) more in
    let number = c.loop-text.invariant.number in record {
      goes_on = c.loop-text.invariant.goes_on
          ∙ rules_from-next _ _ _ c.in_ok-rule.rule _ _ _ c.in-Some.ensures.lines (sym c.is_end.ensures ∙ c.if-is_end.false) next
          ∙ ap (λ (rs : List Rule). rules_from c.args.user.now (c.loop-text.line + 1) rs (lines c.in-Some.after.now)) (sym more);
      number = omega (arith, number, count, length-append {A = Rule});
      few = omega (arith, room, count, length-append {A = Rule});
    }

pub returns : goal.returns
returns c = c.loop-text.invariant.goes_on ∙ rules_from-none _ _ _ _ c.in_default.ensures.lines
