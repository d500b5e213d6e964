use Rattle.std.proofs.Common.{◌∙◌, ◌≡◌, ◌++◌, ap, sym, subst, arith}
use Rattle.acl_model.specs.Document.{height, height_of_item}
use Rattle.acl_model.proofs.FormEquations.{height_of_item-Child}
use Rattle.tree_meaning.specs.inside.Known.{StartsWith, preds_of, flags_within, flags_of_item}
use Rattle.tree_meaning.specs.inside.StepMarks.{marked_steps}
use Rattle.tree_meaning.specs.inside.ExplainWalk.{explanations_in, told_if_selected}
use Rattle.tree_meaning.proofs.ToldLaws.{told_at_end, same_rules}
use Rattle.tree_meaning.proofs.KnownLaws.{item_first, items_end, flags_of_item-Child}
use Rattle.tree_meaning.proofs.Heights.{height_of_item-lower}
use Rattle.tree_meaning.proofs.explain.+walk.Goals as goal

pub explain_element-explain_item-requires : goal.explain_element-explain_item-requires
explain_element-explain_item-requires t c =
    let lower = height_of_item-lower c.args.element.now c.loop-item.item-index c.item-item.result c.as_slice-item-items.result.now c.as_slice-item-items.ensures c.loop-item-test.true c.item-item.is in (
      omega (arith, lower),
      (
        same_rules c.args.element.now (marked_steps c.args.row.now) (marked_steps c.as_slice-in-loop-item.result.now) (ap marked_steps c.as_slice-in-loop-item.ensures.value ∙ c.in_ok-row.ensures.row) c.requires.few,
        subst (λ row. StartsWith (flags_of_item (preds_of (marked_steps row)) c.item-item.result) c.loop-item.known) (sym c.as_slice-in-loop-item.ensures.value) (item_first (preds_of (marked_steps c.in_ok-row.row.items)) c.as_slice-item-items.result.now c.loop-item.item-index c.item-item.result c.loop-item.known _ c.loop-item-test.true c.item-item.is c.loop-item.invariant.3),
      ),
    )

pub explain_element-returns-clause-told : goal.explain_element-returns-clause-told
explain_element-returns-clause-told t c =
    told_at_end (marked_steps c.args.row.now) (marked_steps c.in_ok-row.row.items) c.args.place.now.items c.args.element.now c.as_slice-item-items.result.now c.loop-item.item-index c.loop-item.number
    (explanations_in c.args.told.now.items) (explanations_in c.tell_if_selected.new.told.items) (explanations_in c.loop-item.told.items)
    c.in_ok-row.ensures.row c.as_slice-item-items.ensures c.loop-item-test.false
    (c.in_ok-tell_if_selected.ensures
    ∙ ap (λ row. explanations_in c.args.told.now.items ++ told_if_selected (marked_steps row) c.as_slice-2.result.now) c.as_slice.ensures.value
    ∙ ap (λ place. explanations_in c.args.told.now.items ++ told_if_selected (marked_steps c.in_ok-row.row.items) place) c.as_slice-2.ensures.value)
    c.loop-item.invariant.2

pub explain_element-returns-clause-known : goal.explain_element-returns-clause-known
explain_element-returns-clause-known t c =
    items_end (preds_of (marked_steps c.in_ok-row.row.items)) c.as_slice-item-items.result.now c.loop-item.item-index c.loop-item.known _ c.loop-item-test.false c.loop-item.invariant.3

pub explain_item-explain_element-requires : goal.explain_item-explain_element-requires
explain_item-explain_element-requires t c =
    let same : height_of_item c.args.item.now ≡ height c.get.result.now = ap height_of_item c.in-Child.is ∙ height_of_item-Child c.in-Child.child ∙ ap height (sym c.get.ensures) in
    let preds = preds_of (marked_steps c.args.row.now) in (
      omega (arith, same),
      (
        c.requires.few,
        subst (λ flags. StartsWith flags c.args.known.now)
            (ap (flags_of_item preds) c.in-Child.is ∙ flags_of_item-Child preds c.in-Child.child ∙ ap (flags_within preds) (sym c.get.ensures)) c.requires.known,
      ),
    )
