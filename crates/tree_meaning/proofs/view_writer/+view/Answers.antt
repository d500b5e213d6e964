use Rattle.std.proofs.Common.{◌≡◌, ◌∙◌, ◌+◌, ◌++◌, Some, true, false, drop, map, ap, sym, subst, OnOk, if◌then◌else◌, []}
use Rattle.acl_model.specs.Ascii.{hyphen}
use Rattle.acl_model.specs.Text.{line}
use Rattle.acl_outside.proofs.Remaining.{chain, Writes-last}
use Rattle.tree_meaning.specs.inside.Shows.{Written, in_turn, around, written_of, written_of_item}
use Rattle.tree_meaning.proofs.ShowLaws.{whole_next, dummy_next, absent_next, none_next, turn_next, written_of_item-Text, written_of_item-Child}
use Rattle.tree_meaning.proofs.TurnLaws.{OnOk-always, Remains-turn, Writes-turn_failed, Writes-nothing}
use Rattle.tree_meaning.proofs.view_writer.+view.Goals as goal

-- ---- by the first entry of the list

pub write_element-returns-in-Some-Whole-clause-written : goal.write_element-returns-in-Some-Whole-clause-written
write_element-returns-in-Some-Whole-clause-written g t c =
    let found = sym c.next_show.ensures.show ∙ c.in-Some-Whole.is ∙ ap Some c.in-Some-Whole.field-0-is in
    Writes-last c.write_around.ensures.written
    (ap (λ s. (around true c.args.element.now.attributes c.args.element.now.name (in_turn (map written_of_item c.args.element.now.items) true s)).text) c.next_show.ensures.left
    ∙ ap {A = Written} (λ w. w.text) (sym (whole_next c.args.element.now c.args.shows.now.left.now found)))

pub write_element-returns-in-Some-Whole-clause-left : goal.write_element-returns-in-Some-Whole-clause-left
write_element-returns-in-Some-Whole-clause-left g t c =
    let found = sym c.next_show.ensures.show ∙ c.in-Some-Whole.is ∙ ap Some c.in-Some-Whole.field-0-is in
    subst (λ rest. OnOk c.write_around.result (c.write_around.new.shows.left.now ≡ rest))
    (ap (λ s. (in_turn (map written_of_item c.args.element.now.items) true s).rest) c.next_show.ensures.left
    ∙ ap {A = Written} (λ w. w.rest) (sym (whole_next c.args.element.now c.args.shows.now.left.now found)))
    c.write_around.ensures.left

pub write_element-returns-in-Some-Dummy-clause-written : goal.write_element-returns-in-Some-Dummy-clause-written
write_element-returns-in-Some-Dummy-clause-written g t c =
    let found = sym c.next_show.ensures.show ∙ c.in-Some-Dummy.is ∙ ap Some c.in-Some-Dummy.field-0-is in
    Writes-last c.write_around-in-Some-Dummy.ensures.written
    (ap (λ s. (around false c.args.element.now.attributes c.args.element.now.name (in_turn (map written_of_item c.args.element.now.items) false s)).text) c.next_show.ensures.left
    ∙ ap {A = Written} (λ w. w.text) (sym (dummy_next c.args.element.now c.args.shows.now.left.now found)))

pub write_element-returns-in-Some-Dummy-clause-left : goal.write_element-returns-in-Some-Dummy-clause-left
write_element-returns-in-Some-Dummy-clause-left g t c =
    let found = sym c.next_show.ensures.show ∙ c.in-Some-Dummy.is ∙ ap Some c.in-Some-Dummy.field-0-is in
    subst (λ rest. OnOk c.write_around-in-Some-Dummy.result (c.write_around-in-Some-Dummy.new.shows.left.now ≡ rest))
    (ap (λ s. (in_turn (map written_of_item c.args.element.now.items) false s).rest) c.next_show.ensures.left
    ∙ ap {A = Written} (λ w. w.rest) (sym (dummy_next c.args.element.now c.args.shows.now.left.now found)))
    c.write_around-in-Some-Dummy.ensures.left

pub write_element-returns-in-Some-Absent-clause-written : goal.write_element-returns-in-Some-Absent-clause-written
write_element-returns-in-Some-Absent-clause-written g t c =
    let found = sym c.next_show.ensures.show ∙ c.in-Some-Absent.is ∙ ap Some c.in-Some-Absent.field-0-is in
    Writes-nothing _ (ap {A = Written} (λ w. w.text) (sym (absent_next c.args.element.now c.args.shows.now.left.now found)))

pub write_element-returns-in-Some-Absent-clause-left : goal.write_element-returns-in-Some-Absent-clause-left
write_element-returns-in-Some-Absent-clause-left g t c =
    let found = sym c.next_show.ensures.show ∙ c.in-Some-Absent.is ∙ ap Some c.in-Some-Absent.field-0-is in
    c.next_show.ensures.left ∙ ap {A = Written} (λ w. w.rest) (sym (absent_next c.args.element.now c.args.shows.now.left.now found))

pub write_element-returns-in-None-clause-written : goal.write_element-returns-in-None-clause-written
write_element-returns-in-None-clause-written g t c =
    Writes-nothing _ (ap {A = Written} (λ w. w.text) (sym (none_next c.args.element.now c.args.shows.now.left.now (sym c.next_show.ensures.show ∙ c.in-None.is))))

pub write_element-returns-in-None-clause-left : goal.write_element-returns-in-None-clause-left
write_element-returns-in-None-clause-left g t c =
    c.next_show.ensures.left ∙ ap {A = Written} (λ w. w.rest) (sym (none_next c.args.element.now c.args.shows.now.left.now (sym c.next_show.ensures.show ∙ c.in-None.is)))

-- ---- an item

pub write_item-returns-in-Text-clause-written : goal.write_item-returns-in-Text-clause-written
write_item-returns-in-Text-clause-written g t c =
    Writes-last c.write_shown_text.ensures
    (ap (λ bytes. if c.args.whole then line hyphen bytes else []) c.as_slice.ensures
    ∙ ap {A = Written} (λ w. w.text) (sym (ap (λ item. written_of_item item c.args.whole c.args.shows.now.left.now) c.in-Text.is ∙ written_of_item-Text c.in-Text.bytes c.args.whole c.args.shows.now.left.now)))

pub write_item-returns-in-Text-clause-left : goal.write_item-returns-in-Text-clause-left
write_item-returns-in-Text-clause-left g t c =
    OnOk-always c.write_shown_text.result
    (ap {A = Written} (λ w. w.rest) (sym (ap (λ item. written_of_item item c.args.whole c.args.shows.now.left.now) c.in-Text.is ∙ written_of_item-Text c.in-Text.bytes c.args.whole c.args.shows.now.left.now)))

pub write_item-returns-in-Child-clause-written : goal.write_item-returns-in-Child-clause-written
write_item-returns-in-Child-clause-written g t c =
    Writes-last c.write_element.ensures.written
    (ap (λ e. (written_of e c.args.shows.now.left.now).text) c.get.ensures
    ∙ ap {A = Written} (λ w. w.text) (sym (ap (λ item. written_of_item item c.args.whole c.args.shows.now.left.now) c.in-Child.is ∙ written_of_item-Child c.in-Child.element c.args.whole c.args.shows.now.left.now)))

pub write_item-returns-in-Child-clause-left : goal.write_item-returns-in-Child-clause-left
write_item-returns-in-Child-clause-left g t c =
    subst (λ rest. OnOk c.write_element.result (c.write_element.new.shows.left.now ≡ rest))
    (ap (λ e. (written_of e c.args.shows.now.left.now).rest) c.get.ensures
    ∙ ap {A = Written} (λ w. w.rest) (sym (ap (λ item. written_of_item item c.args.whole c.args.shows.now.left.now) c.in-Child.is ∙ written_of_item-Child c.in-Child.element c.args.whole c.args.shows.now.left.now)))
    c.write_element.ensures.left

-- ---- items

pub write_items-returns-in_err-write_item-clause-written : goal.write_items-returns-in_err-write_item-clause-written
write_items-returns-in_err-write_item-clause-written g t c =
    let items = c.as_slice-item-items.result.now in
    let turn = turn_next c.as_slice-item-items.result.now c.loop-item.item-index c.item-item.result c.args.whole c.loop-item.shows.left.now c.loop-item-test.true c.item-item.is in
    Writes-last
    (Writes-turn_failed _ c.from_residual.ensures.0 (ap {A = Written} (λ w. w.text) turn) c.loop-item.invariant.0 c.write_item.ensures.written c.branch-write_item.ensures c.in_err-write_item.is)
    (ap (λ xs. (in_turn (map written_of_item xs) c.args.whole c.args.shows.now.left.now).text) c.as_slice-item-items.ensures)

pub write_items-loop-item-preserved : goal.write_items-loop-item-preserved
write_items-loop-item-preserved g t c =
    let turn = turn_next c.as_slice-item-items.result.now c.loop-item.item-index c.item-item.result c.args.whole c.loop-item.shows.left.now c.loop-item-test.true c.item-item.is in
    let others = drop (c.loop-item.item-index + 1) c.as_slice-item-items.result.now in (
      Remains-turn _
          (ap {A = Written} (λ w. w.text) turn ∙ ap (λ s. (written_of_item c.item-item.result c.args.whole c.loop-item.shows.left.now).text ++ (in_turn (map written_of_item others) c.args.whole s).text) (sym c.in_ok-write_item.ensures.left))
          c.loop-item.invariant.0 c.write_item.ensures.written c.branch-write_item.ensures c.in_ok-write_item.is,
      ap (λ s. (in_turn (map written_of_item others) c.args.whole s).rest) c.in_ok-write_item.ensures.left ∙ sym (ap {A = Written} (λ w. w.rest) turn) ∙ c.loop-item.invariant.1,
    )

-- ---- an element

pub write_around-returns-in_err-write_items-clause-written : goal.write_around-returns-in_err-write_items-clause-written
write_around-returns-in_err-write_items-clause-written g t c = search chain
