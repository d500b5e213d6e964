use Rattle.std.proofs.Common.{◌≡◌, ◌+◌, ◌≤◌, ◌∙◌, ◌++◌, ap, sym, false, length, take, drop, replicate, refl, arith}
use Rattle.acl_model.specs.Predicates.{descendants, below_item}
use Rattle.acl_model.specs.Values.{string_value, value_of_item}
use Rattle.predicate_walk.specs.inside.States.{row_at, inner_row_at, last_states, patched, number_of_states}
use Rattle.predicate_walk.specs.inside.KeptTexts.{needs_texts, kept}
use Rattle.predicate_walk.specs.Truths.{truths_at, truths, preds_in}
use Rattle.predicate_walk.proofs.RowLaws.{length-answers, length-row_at, last_states-held, truths_put, truths_room, truths_clear, length-truths}
use Rattle.predicate_walk.proofs.WalkLaws.{length-with_item, row_step, item_step, row_end, texts_end, value_is, flags_end, count_is}
use Rattle.predicate_walk.proofs.walk.+walk.Goals as goal

pub walk_element-loop-item-init : goal.walk_element-loop-item-init
walk_element-loop-item-init t c = record { long = ap length c.in_ok-row.ensures ∙ length-answers _ c.args.machine.now; row = refl; texts = refl; flags = refl }

pub walk_element-loop-item-preserved : goal.walk_element-loop-item-preserved
walk_element-loop-item-preserved t c = record {
  long = length-with_item c.args.machine.now c.loop-item.row c.walk_item.new.row c.item-item.result
      c.loop-item.invariant.long c.in_ok-walk_item.ensures.row;
  row =
      row_step c.args.machine.now c.as_slice-item-items.result.now c.loop-item.item-index c.item-item.result
      c.loop-item.row c.walk_item.new.row _ c.loop-item-test.true c.item-item.is
      c.in_ok-walk_item.ensures.row c.loop-item.invariant.row;
  texts =
      item_step (λ item. kept (needs_texts c.args.machine.now) (value_of_item item)) c.as_slice-item-items.result.now
      c.loop-item.item-index c.item-item.result c.loop-item.texts.items c.walk_item.new.texts.items _
      c.loop-item-test.true c.item-item.is c.in_ok-walk_item.ensures.texts c.loop-item.invariant.texts;
  flags =
      item_step (λ item. truths c.args.machine.now (below_item item)) c.as_slice-item-items.result.now
      c.loop-item.item-index c.item-item.result c.loop-item.flags c.walk_item.new.flags _
      c.loop-item-test.true c.item-item.is c.in_ok-walk_item.ensures.flags c.loop-item.invariant.flags;
}

pub walk_element-put_targets-requires-clause-value : goal.walk_element-put_targets-requires-clause-value
walk_element-put_targets-requires-clause-value t c =
    let place : c.len-start.result ≡ length c.args.texts.now.items = grind arith in
    let texts = texts_end c.args.machine.now c.args.element.now c.as_slice-item-items.result.now c.loop-item.item-index c.loop-item.texts.items c.args.texts.now.items
    c.loop-item-test.false c.as_slice-item-items.ensures c.loop-item.invariant.texts in
    value_is c.args.texts.now.items (kept (needs_texts c.args.machine.now) (string_value c.args.element.now))
    c.deref.result.now c.len-start.result place (c.deref.ensures.value ∙ texts)
    ∙ ap (λ ps. kept (needs_texts ps) (string_value c.args.element.now)) (sym c.preds-2.ensures)

pub walk_element-put_targets-requires-clause-inside : goal.walk_element-put_targets-requires-clause-inside
walk_element-put_targets-requires-clause-inside t c =
    row_end c.args.machine.now c.args.element.now c.as_slice-item-items.result.now c.loop-item.item-index
    c.loop-item.row c.in_ok-row.row
    c.loop-item-test.false c.as_slice-item-items.ensures c.in_ok-row.ensures c.loop-item.invariant.row
    ∙ ap (λ ps. inner_row_at ps c.args.element.now) (sym c.preds-2.ensures)

pub walk_element-put_truths-requires-clause-row : goal.walk_element-put_truths-requires-clause-row
walk_element-put_truths-requires-clause-row t c =
    ap length c.put_targets.ensures ∙ length-row_at _ c.args.element.now
    ∙ ap number_of_states (c.preds-2.ensures ∙ sym c.preds-3.ensures)

pub walk_element-put_truths-requires-clause-room : goal.walk_element-put_truths-requires-clause-room
walk_element-put_truths-requires-clause-room t c =
    let many : length c.preds-3.result.now ≡ length c.args.machine.now = count_is c.preds-3.result.now c.args.machine.now c.preds-3.ensures in
    let grown : c.grow.new.self ≡ c.args.flags.now ++ replicate (length c.args.machine.now) false =
    c.in_ok-grow.ensures ∙ ap (λ n. c.args.flags.now ++ replicate n false)
    (count_is c.preds.result.now c.args.machine.now c.preds.ensures) in
    let all = flags_end c.args.machine.now c.args.element.now c.as_slice-item-items.result.now c.loop-item.item-index c.loop-item.flags c.grow.new.self
    c.loop-item-test.false c.as_slice-item-items.ensures c.loop-item.invariant.flags in
    let room : c.len-at.result + length c.args.machine.now ≤ length c.loop-item.flags =
    truths_room c.args.flags.now (truths c.args.machine.now (descendants c.args.element.now)) c.loop-item.flags
    c.len-at.result (length c.args.machine.now) c.len-at.ensures
    (all ∙ ap (λ s. s ++ truths c.args.machine.now (descendants c.args.element.now)) grown) in
    omega (arith, many, room)

pub walk_element-put_truths-requires-clause-clear : goal.walk_element-put_truths-requires-clause-clear
walk_element-put_truths-requires-clause-clear t c =
    let many : length c.preds-3.result.now ≡ length c.args.machine.now = count_is c.preds-3.result.now c.args.machine.now c.preds-3.ensures in
    let grown : c.grow.new.self ≡ c.args.flags.now ++ replicate (length c.args.machine.now) false =
    c.in_ok-grow.ensures ∙ ap (λ n. c.args.flags.now ++ replicate n false)
    (count_is c.preds.result.now c.args.machine.now c.preds.ensures) in
    let all = flags_end c.args.machine.now c.args.element.now c.as_slice-item-items.result.now c.loop-item.item-index c.loop-item.flags c.grow.new.self
    c.loop-item-test.false c.as_slice-item-items.ensures c.loop-item.invariant.flags in
    ap (λ n. take n (drop c.len-at.result c.loop-item.flags)) many
    ∙ truths_clear c.args.flags.now (truths c.args.machine.now (descendants c.args.element.now)) c.loop-item.flags
    c.len-at.result (length c.args.machine.now) c.len-at.ensures
    (all ∙ ap (λ s. s ++ truths c.args.machine.now (descendants c.args.element.now)) grown)
    ∙ ap (λ n. replicate n false) (sym many)

pub walk_element-returns-clause-texts : goal.walk_element-returns-clause-texts
walk_element-returns-clause-texts t c =
    texts_end c.args.machine.now c.args.element.now c.as_slice-item-items.result.now c.loop-item.item-index
    c.loop-item.texts.items c.args.texts.now.items
    c.loop-item-test.false c.as_slice-item-items.ensures c.loop-item.invariant.texts

pub walk_element-returns-clause-flags : goal.walk_element-returns-clause-flags
walk_element-returns-clause-flags t c =
    let grown : c.grow.new.self ≡ c.args.flags.now ++ replicate (length c.args.machine.now) false =
    c.in_ok-grow.ensures ∙ ap (λ n. c.args.flags.now ++ replicate n false)
    (count_is c.preds.result.now c.args.machine.now c.preds.ensures) in
    let all = flags_end c.args.machine.now c.args.element.now c.as_slice-item-items.result.now c.loop-item.item-index c.loop-item.flags c.grow.new.self
    c.loop-item-test.false c.as_slice-item-items.ensures c.loop-item.invariant.flags in
    let told : last_states (preds_in c.preds-3.result.now) c.put_targets.new.row ≡ truths_at c.args.machine.now c.args.element.now =
    ap (λ ps. last_states ps c.put_targets.new.row) c.preds-3.ensures
    ∙ ap (last_states c.args.machine.now)
    (c.put_targets.ensures ∙ ap (λ ps. row_at ps c.args.element.now) c.preds-2.ensures)
    ∙ last_states-held c.args.machine.now c.args.element.now in
    truths_put c.args.flags.now (truths c.args.machine.now (descendants c.args.element.now))
    (truths_at c.args.machine.now c.args.element.now) c.loop-item.flags c.put_truths.new.flags
    c.len-at.result (length c.args.machine.now) c.len-at.ensures (length-truths c.args.machine.now c.args.element.now)
    (all ∙ ap (λ s. s ++ truths c.args.machine.now (descendants c.args.element.now)) grown)
    (c.put_truths.ensures ∙ ap (λ vs. patched c.len-at.result vs c.loop-item.flags) told)
