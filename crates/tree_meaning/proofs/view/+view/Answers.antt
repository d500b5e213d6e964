-- At the end of the loop the items are those of the view.
use Rattle.std.proofs.Common.{◌≡◌, IfOk, ap, sym, ◌∙◌, subst, arith}
use Rattle.acl_model.specs.Document.{height, height_of_item}
use Rattle.acl_model.proofs.FormEquations.{height_of_item-Child}
use Rattle.tree_meaning.specs.inside.Known.{StartsWith, preds_of, flags_within, flags_of_item}
use Rattle.tree_meaning.specs.inside.StepMarks.{marked_steps, sign_here, items_view, item_view}
use Rattle.tree_meaning.proofs.Heights.{height_of_item-lower}
use Rattle.tree_meaning.proofs.KnownLaws.{item_first, items_end, flags_of_item-Child}
use Rattle.tree_meaning.proofs.Lists.{flat_map-end}
use Rattle.tree_meaning.proofs.TurnLaws.{OnOk-always}
use Rattle.tree_meaning.proofs.ViewLaws.{view_at_end}
use Rattle.tree_meaning.proofs.view.+view.Goals as goal

pub element_in_view-item_in_view-requires : goal.element_in_view-item_in_view-requires
element_in_view-item_in_view-requires t c =
    let lower = height_of_item-lower c.args.element.now c.loop-item.item-index c.item-item.result c.as_slice-item-items.result.now c.as_slice-item-items.ensures c.loop-item-test.true c.item-item.is in (
      omega (arith, lower),
      subst (λ row. StartsWith (flags_of_item (preds_of (marked_steps row)) c.item-item.result) c.loop-item.known) (sym c.as_slice-in-loop-item.ensures.value)
          (item_first (preds_of (marked_steps c.in_ok-row.row.items)) c.as_slice-item-items.result.now c.loop-item.item-index c.item-item.result c.loop-item.known _ c.loop-item-test.true c.item-item.is c.loop-item.invariant.1),
    )

pub element_in_view-returns-clause-view : goal.element_in_view-returns-clause-view
element_in_view-returns-clause-view t c =
    subst (λ x. IfOk c.element_with.result (λ v. v ≡ x))
    (view_at_end (marked_steps c.args.row.now) (marked_steps c.in_ok-row.row.items) c.args.above c.sign_of-own.result c.args.element.now c.from_vec.result
    c.in_ok-row.ensures.row
    (c.sign_of-own.ensures ∙ ap (λ row. sign_here (marked_steps row) c.args.above) c.as_slice.ensures.value)
    (c.from_vec.ensures
    ∙ flat_map-end (item_view (marked_steps c.in_ok-row.row.items) c.sign_of-own.result) c.loop-item.items.items c.loop-item.item-index c.as_slice-item-items.result.now c.loop-item.invariant.0 c.loop-item-test.false
    ∙ ap (items_view (marked_steps c.in_ok-row.row.items) c.sign_of-own.result) c.as_slice-item-items.ensures))
    c.element_with.ensures

pub element_in_view-returns-clause-known : goal.element_in_view-returns-clause-known
element_in_view-returns-clause-known t c =
    OnOk-always c.element_with.result
    (items_end (preds_of (marked_steps c.in_ok-row.row.items)) c.as_slice-item-items.result.now c.loop-item.item-index c.loop-item.known _ c.loop-item-test.false c.loop-item.invariant.1)

pub item_in_view-element_in_view-requires : goal.item_in_view-element_in_view-requires
item_in_view-element_in_view-requires t c =
    let preds = preds_of (marked_steps c.args.row.now) in
    let same : height_of_item c.args.item.now ≡ height c.get.result.now = ap height_of_item c.in-Child.is ∙ height_of_item-Child c.in-Child.element ∙ ap height (sym c.get.ensures) in (
      omega (arith, same),
      subst (λ flags. StartsWith flags c.args.known.now)
          (ap (flags_of_item preds) c.in-Child.is ∙ flags_of_item-Child preds c.in-Child.element ∙ ap (flags_within preds) (sym c.get.ensures)) c.requires,
    )
