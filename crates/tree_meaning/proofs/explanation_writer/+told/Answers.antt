use Rattle.std.proofs.Common.{◌≡◌, ◌∙◌, ◌+◌, ◌++◌, drop, ap, sym, subst, OnOk}
use Rattle.acl_model.specs.Explain.{explanation_lines}
use Rattle.acl_model.specs.Places.{element_of}
use Rattle.acl_outside.specs.WrittenText.{Writes}
use Rattle.acl_outside.proofs.Remaining.{Writes-then, Writes-cut, Writes-last}
use Rattle.tree_meaning.specs.inside.ExplainWalk.{number_after}
use Rattle.tree_meaning.specs.inside.Decided.{place_of, told_by_entry, told_below_child, told_below_items, entries_after_items}
use Rattle.tree_meaning.proofs.DecidedLaws.{lines_below_is, entries_after_is, lines_of_next, after_next, number_within}
use Rattle.tree_meaning.proofs.TurnLaws.{Remains-turn, Writes-turn_failed}
use Rattle.tree_meaning.proofs.explanation_writer.+told.Goals as goal

-- ---- an element

pub write_element-returns-in_err-write_entry-clause-written : goal.write_element-returns-in_err-write_entry-clause-written
write_element-returns-in_err-write_entry-clause-written g t c =
    subst (Writes _ _ _ _ _ _ _) (sym (lines_below_is c.args.rules.now c.args.entries.now.left.now (place_of c.args.position.now) c.args.element.now))
    (Writes-cut _ c.from_residual.ensures.0 c.write_entry.ensures c.branch-write_entry.ensures c.in_err-write_entry.is
    (ap (λ entry. explanation_lines c.args.rules.now (told_by_entry entry (place_of c.args.position.now))) c.next_entry-entry.ensures.entry))

pub write_element-returns-clause-written : goal.write_element-returns-clause-written
write_element-returns-clause-written g t c =
    subst (Writes _ _ _ _ _ _ _) (sym (lines_below_is c.args.rules.now c.args.entries.now.left.now (place_of c.args.position.now) c.args.element.now))
    (Writes-then c.write_entry.ensures c.branch-write_entry.ensures c.in_ok-write_entry.is
    (ap (λ entry. explanation_lines c.args.rules.now (told_by_entry entry (place_of c.args.position.now))) c.next_entry-entry.ensures.entry)
    (Writes-last c.write_items.ensures.written
    (ap (λ entries. explanation_lines c.args.rules.now (told_below_items entries (place_of c.args.position.now) c.args.element.now.items 1)) c.next_entry-entry.ensures.left)))

pub write_element-returns-clause-left : goal.write_element-returns-clause-left
write_element-returns-clause-left g t c =
    subst (λ rest. OnOk c.write_items.result (c.write_items.new.entries.left.now ≡ rest))
    (ap (λ entries. entries_after_items entries c.args.element.now.items) c.next_entry-entry.ensures.left ∙ sym (entries_after_is c.args.entries.now.left.now c.args.element.now))
    c.write_items.ensures.left

-- ---- items

pub write_items-returns-in_err-write_item-clause-written : goal.write_items-returns-in_err-write_item-clause-written
write_items-returns-in_err-write_item-clause-written g t c =
    Writes-last
    (Writes-turn_failed _ c.from_residual.ensures.0
    (lines_of_next c.args.rules.now c.loop-item.entries.left.now (place_of c.args.position.now) c.as_slice-item-items.result.now c.loop-item.item-index c.loop-item.number c.item-item.result c.loop-item-test.true c.item-item.is)
    c.loop-item.invariant.1 c.write_item.ensures.written c.branch-write_item.ensures c.in_err-write_item.is)
    (ap (λ items. explanation_lines c.args.rules.now (told_below_items c.args.entries.now.left.now (place_of c.args.position.now) items 1)) c.as_slice-item-items.ensures)

pub write_items-loop-item-preserved : goal.write_items-loop-item-preserved
write_items-loop-item-preserved g t c =
    let others = drop (c.loop-item.item-index + 1) c.as_slice-item-items.result.now in (
      number_within (element_of c.item-item.result) c.loop-item.number c.number_after-number.result c.loop-item.item-index c.number_after-number.ensures c.loop-item.invariant.0,
      Remains-turn _
          (lines_of_next c.args.rules.now c.loop-item.entries.left.now (place_of c.args.position.now) c.as_slice-item-items.result.now c.loop-item.item-index c.loop-item.number c.item-item.result c.loop-item-test.true c.item-item.is
          ∙ ap (λ entries. explanation_lines c.args.rules.now (told_below_child c.loop-item.entries.left.now (place_of c.args.position.now) c.loop-item.number (element_of c.item-item.result))
          ++ explanation_lines c.args.rules.now (told_below_items entries (place_of c.args.position.now) others (number_after (element_of c.item-item.result) c.loop-item.number))) (sym c.in_ok-write_item.ensures.left)
          ∙ ap (λ k. explanation_lines c.args.rules.now (told_below_child c.loop-item.entries.left.now (place_of c.args.position.now) c.loop-item.number (element_of c.item-item.result))
          ++ explanation_lines c.args.rules.now (told_below_items c.write_item.new.entries.left.now (place_of c.args.position.now) others k)) (sym c.number_after-number.ensures))
          c.loop-item.invariant.1 c.write_item.ensures.written c.branch-write_item.ensures c.in_ok-write_item.is,
      ap (λ entries. entries_after_items entries others) c.in_ok-write_item.ensures.left
          ∙ sym (after_next c.loop-item.entries.left.now c.as_slice-item-items.result.now c.loop-item.item-index c.item-item.result c.loop-item-test.true c.item-item.is)
          ∙ c.loop-item.invariant.2,
    )
