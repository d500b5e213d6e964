use Rattle.std.proofs.Common.{◌∙◌, ◌≡◌, ap, sym, refl, subst, arith}
use Rattle.acl_model.specs.Document.{height, height_of_item}
use Rattle.acl_model.proofs.FormEquations.{height_of_item-Child}
use Rattle.tree_meaning.proofs.Heights.{height_of_item-lower}
use Rattle.tree_meaning.specs.inside.Known.{StartsWith, preds_of, flags_within, flags_of_item, flags_of_items}
use Rattle.tree_meaning.specs.inside.StepMarks.{marked_steps}
use Rattle.tree_meaning.proofs.DecidedLaws.{found_in_element}
use Rattle.tree_meaning.proofs.KnownLaws.{preds_below, children_start, item_first, items_passed, flags_of_item-Child}
use Rattle.tree_meaning.proofs.ToldLaws.{same_rules}
use Rattle.tree_meaning.proofs.decided.+decided.Goals as goal

pub find_in_element-find_in_items-requires : goal.find_in_element-find_in_items-requires
find_in_element-find_in_items-requires t c =
    let row = marked_steps c.args.row.now in (
      omega arith,
      (
        same_rules c.args.element.now row (marked_steps c.as_slice-2.result.now) (ap marked_steps c.as_slice-2.ensures.value ∙ c.in_ok-row.ensures.row) c.requires.few,
        subst (λ ps. StartsWith (flags_of_items ps c.args.element.now.items) c.all_below.new.known)
            (sym (ap (λ r. preds_of (marked_steps r)) c.as_slice-2.ensures.value ∙ ap preds_of c.in_ok-row.ensures.row ∙ preds_below c.args.element.now row))
            (children_start row (preds_of row) c.args.element.now c.args.element.now.items c.args.known.now c.all_below.new.known refl refl c.requires.known c.in_ok-row.ensures.known),
      ),
    )

pub find_in_items-find_in_item-requires : goal.find_in_items-find_in_item-requires
find_in_items-find_in_item-requires t c =
    let lower = height_of_item-lower c.args.element.now c.loop-item.item-index c.item-item.result c.as_slice-item-items.result.now c.as_slice-item-items.ensures c.loop-item-test.true c.item-item.is in (
      omega (arith, lower),
      (
        c.requires.few,
        item_first (preds_of (marked_steps c.args.row.now)) c.as_slice-item-items.result.now c.loop-item.item-index c.item-item.result c.loop-item.known _ c.loop-item-test.true c.item-item.is c.loop-item.invariant.1,
      ),
    )

pub find_in_element-returns-clause-entries : goal.find_in_element-returns-clause-entries
find_in_element-returns-clause-entries t c =
    found_in_element (marked_steps c.args.row.now) (marked_steps c.as_slice.result.now) (marked_steps c.as_slice-2.result.now) c.args.element.now c.decided_if_selected.result
    c.args.entries.now.items c.push.new.self.items c.find_in_items.new.entries.items
    (ap marked_steps c.as_slice.ensures.value ∙ c.in_ok-row.ensures.row) (ap marked_steps c.as_slice-2.ensures.value ∙ c.in_ok-row.ensures.row)
    c.decided_if_selected.ensures c.in_ok-push.ensures.items c.in_ok-find_in_items.ensures.entries

pub find_in_element-returns-clause-known : goal.find_in_element-returns-clause-known
find_in_element-returns-clause-known t c =
    items_passed (marked_steps c.args.row.now) (marked_steps c.as_slice-2.result.now) c.args.element.now c.args.known.now c.all_below.new.known c.find_in_items.new.known
    (ap marked_steps c.as_slice-2.ensures.value ∙ c.in_ok-row.ensures.row) c.requires.known c.in_ok-row.ensures.known c.in_ok-find_in_items.ensures.known

pub find_in_item-find_in_element-requires : goal.find_in_item-find_in_element-requires
find_in_item-find_in_element-requires t c =
    let same : height_of_item c.args.item.now ≡ height c.get.result.now = ap height_of_item c.in-Child.is ∙ height_of_item-Child c.in-Child.child ∙ ap height (sym c.get.ensures) in
    let preds = preds_of (marked_steps c.args.row.now) in (
      omega (arith, same),
      (
        c.requires.few,
        subst (λ flags. StartsWith flags c.args.known.now)
            (ap (flags_of_item preds) c.in-Child.is ∙ flags_of_item-Child preds c.in-Child.child ∙ ap (flags_within preds) (sym c.get.ensures)) c.requires.known,
      ),
    )
