use Rattle.std.proofs.Common.{◌≡◌, ◌++◌, Err, [], ◌∷◌, length, map, take_all, ap, sym, ◌∙◌, refl, rules, arith}
use Rattle.std.proofs.lemmas.Result.{on_ok_weaker}
use Rattle.std.specs.List.{flat_map}
use Rattle.std.specs.Prelude.{unwrap_or}
use Rattle.acl_model.specs.Dictionary.{name_number}
use Rattle.acl_model.specs.Document.{height, height_of_item}
use Rattle.acl_model.specs.Stream.{branch_of, part_of}
use Rattle.acl_model.specs.declared.document.Item.TheVariants.{Child}
use Rattle.acl_model.proofs.FormEquations.{height_of_item-Child}
use Rattle.skip_encode.specs.declared.measure_fault.MeasureFault.TheVariants as fault
use Rattle.skip_encode.specs.inside.Measures.{part_measures, measure_of}
use Rattle.skip_encode.specs.declared.measures.Measure.{Measure}
use Rattle.skip_encode.specs.declared.tally.Tally.{Tally}
use Rattle.skip_encode.proofs.Tallying.{new-small}
use Rattle.skip_encode.specs.inside.Tallies.{laid_length, prefix_size, tally_of, with_part, with_text, with_element}
use Rattle.skip_encode.proofs.Contents.{none-left, all-tally, all-measures, measure-is, same-first, child-part, text-part, branch_of-tag, branch_of-size, before_last-prefix, before_last-drop, length-before_last, last-lower, last-measures, last-tally, last-plain, branch_of-prefix, tag_of-small}
use Rattle.skip_encode.proofs.measuring.+tree.Goals as goal

-- The bytes before the items alone are too large.
pub measure_element-returns-in_err-prefix_size-clause-large : goal.measure_element-returns-in_err-prefix_size-clause-large
measure_element-returns-in_err-prefix_size-clause-large t c = λ e.
    let same : c.prefix_size.result ≡ Err fault.TooLarge = search rules in
    let part = branch_of-prefix c.args.names.now c.args.element.now in
    omega (arith, c.prefix_size.ensures.large same, ap prefix_size c.as_slice.ensures, part)

-- At the start all items are left.
pub measure_element-loop-items-init : goal.measure_element-loop-items-init
measure_element-loop-items-init t c =
    let all = c.args.element.now.items in
    let items = c.as_slice-items.result.now in
    let none = none-left all items c.as_slice-items.ensures in
    let plain : c.in_ok-prefix_size.field-0 ≡ prefix_size c.args.element.now.attributes = c.in_ok-prefix_size.ensures.size ∙ ap prefix_size c.as_slice.ensures in
    record {
      prefix = c.as_slice-items.ensures ∙ sym (take_all (length items) all (omega (arith, ap length c.as_slice-items.ensures)));
      within = omega (arith, ap length c.as_slice-items.ensures);
      measured = ap (λ l. flat_map part_measures (map (part_of c.args.names.now) l) ++ c.args.measures.now) (sym none);
      counted = c.new-tally.ensures ∙ ap (λ n. tally_of n []) plain ∙ ap (λ l. tally_of (prefix_size c.args.element.now.attributes) (map (part_of c.args.names.now) l)) (sym none);
      small = new-small c.new-tally.result c.in_ok-prefix_size.field-0 c.new-tally.ensures c.in_ok-prefix_size.ensures.small;
    }

-- The item's index is within the slice.
pub measure_element-offset_bounds-items-items : goal.measure_element-offset_bounds-items-items
measure_element-offset_bounds-items-items t c =
    let within = c.loop-items.invariant.within in
    let all = ap length c.as_slice-items.ensures in
    let bytes = c.as_slice-items.type_inv.1 in
    omega (arith, within, all, bytes)

-- The last item left is lower than the element.
pub measure_element-measure_item-requires : goal.measure_element-measure_item-requires
measure_element-measure_item-requires t c =
    let lower = last-lower c.args.element.now c.loop-items.items.now c.last-item.result c.loop-items.invariant.prefix c.loop-items.invariant.within c.in-len1-up.len_at_least c.last-item.is in
    (omega (arith, lower), (c.requires, c.loop-items.invariant.small))

-- The items from this one on are too large.
pub measure_element-returns-in_err-measure_item-clause-large : goal.measure_element-returns-in_err-measure_item-clause-large
measure_element-returns-in_err-measure_item-clause-large t c = λ e.
    let same : c.measure_item.result ≡ Err fault.TooLarge = search rules in
    let next = before_last-drop c.args.element.now.items c.loop-items.items.now c.last-item.result c.loop-items.invariant.prefix c.loop-items.invariant.within c.in-len1-up.len_at_least c.last-item.is in
    let part = last-plain c.args.names.now c.args.element.now c.loop-items.items.now c.last-item.result c.loop-items.tally next c.loop-items.invariant.counted in
    omega (arith, c.measure_item.ensures.large same, part)

pub measure_element-loop-items-smaller : goal.measure_element-loop-items-smaller
measure_element-loop-items-smaller t c = omega (arith, length-before_last c.loop-items.items.now, c.in-len1-up.len_at_least)

-- After a step, one item fewer is left.
pub measure_element-loop-items-preserved : goal.measure_element-loop-items-preserved
measure_element-loop-items-preserved t c =
    let all = c.args.element.now.items in
    let items = c.loop-items.items.now in
    let next = before_last-drop all items c.last-item.result c.loop-items.invariant.prefix c.loop-items.invariant.within c.in-len1-up.len_at_least c.last-item.is in
    record {
      prefix = before_last-prefix all items c.loop-items.invariant.prefix;
      within = omega (arith, length-before_last items, c.loop-items.invariant.within);
      measured = last-measures c.args.names.now all items c.last-item.result [] c.args.measures.now c.loop-items.measures c.measure_item.new.measures next c.loop-items.invariant.measured c.in_ok-measure_item.ensures.measured;
      counted = last-tally c.args.names.now (prefix_size c.args.element.now.attributes) all items c.last-item.result c.loop-items.tally c.measure_item.new.tally next c.loop-items.invariant.counted c.in_ok-measure_item.ensures.counted;
      small = c.in_ok-measure_item.ensures.small;
    }

pub measure_element-length-requires : goal.measure_element-length-requires
measure_element-length-requires t c = c.loop-items.invariant.small

pub measure_element-returns-in_err-long-clause-large : goal.measure_element-returns-in_err-long-clause-large
measure_element-returns-in_err-long-clause-large t c = λ e.
    let same : c.length.result ≡ Err fault.TooLarge = search rules in
    let names = c.args.names.now in
    let element = c.args.element.now in
    let all = all-tally names element c.loop-items.items.now c.loop-items.tally c.in_default.len_below c.loop-items.invariant.counted in
    omega (arith, c.length.ensures.large same, ap (λ (x : Tally). laid_length (length x.members) x) all, branch_of-size names element)

pub measure_element-returns-clause-measured : goal.measure_element-returns-clause-measured
measure_element-returns-clause-measured t c =
    let names = c.args.names.now in
    let element = c.args.element.now in
    let items = c.loop-items.items.now in
    let all = all-tally names element items c.loop-items.tally c.in_default.len_below c.loop-items.invariant.counted in
    c.in_ok-push.ensures
    ∙ ap (λ m. m ∷ c.loop-items.measures) (measure-is names element c.unwrap_or.result c.in_ok-long.long c.loop-items.tally.members c.loop-items.tally all (c.unwrap_or.ensures ∙ ap (λ n. unwrap_or n 0) (c.number.ensures.number ∙ ap (name_number names) c.as_slice-2.ensures)) refl c.in_ok-long.ensures.length)
    ∙ ap (λ l. measure_of (branch_of names element) ∷ l) (all-measures names element items c.args.measures.now c.loop-items.measures c.in_default.len_below c.loop-items.invariant.measured)

pub measure_element-returns-clause-small : goal.measure_element-returns-clause-small
measure_element-returns-clause-small t c =
    let names = c.args.names.now in
    let element = c.args.element.now in
    let all = all-tally names element c.loop-items.items.now c.loop-items.tally c.in_default.len_below c.loop-items.invariant.counted in
    omega (arith, c.in_ok-long.ensures.length, c.in_ok-long.ensures.small, ap (λ (x : Tally). laid_length (length x.members) x) all, branch_of-size names element)

-- A child element is no higher than its item.
pub measure_item-measure_element-requires : goal.measure_item-measure_element-requires
measure_item-measure_element-requires t c =
    let is : c.args.item.now ≡ Child c.get.result.now = c.in-Child.is ∙ ap Child (sym c.get.ensures) in
    let same : height_of_item c.args.item.now ≡ height c.get.result.now = ap height_of_item is ∙ height_of_item-Child c.get.result.now in
    (omega (arith, same), c.requires.few)

-- A child that is too large makes its parent too large.
pub measure_item-returns-in_err-measure_element-in-Child-clause-large : goal.measure_item-returns-in_err-measure_element-in-Child-clause-large
measure_item-returns-in_err-measure_element-in-Child-clause-large t c = λ e.
    let same : c.measure_element.result ≡ Err fault.TooLarge = search rules in
    let part = child-part c.args.names.now c.args.item.now c.get.result.now (c.in-Child.is ∙ ap Child (sym c.get.ensures)) in
    omega (arith, c.measure_element.ensures.large same, ap (λ p. (with_part p c.args.tally.now).plain) part)

-- A content has at least two bytes.
pub measure_item-add_element-requires-clause-counted : goal.measure_item-add_element-requires-clause-counted
measure_item-add_element-requires-clause-counted t c =
    let own = same-first c.last.result.now (measure_of (branch_of c.args.names.now c.get.result.now)) _ _ c.measure_element.new.measures c.last.ensures c.in_ok-measure_element-in-Child.ensures.measured in
    omega (arith, ap (λ (m : Measure). m.long) own, branch_of-prefix c.args.names.now c.get.result.now)

-- The number of a name is below 256.
pub measure_item-add_element-requires-clause-tag : goal.measure_item-add_element-requires-clause-tag
measure_item-add_element-requires-clause-tag t c =
    let own = same-first c.last.result.now (measure_of (branch_of c.args.names.now c.get.result.now)) _ _ c.measure_element.new.measures c.last.ensures c.in_ok-measure_element-in-Child.ensures.measured in
    omega (arith, ap (λ (m : Measure). m.tag) own, branch_of-tag c.args.names.now c.get.result.now, tag_of-small c.args.names.now c.get.result.now.name c.requires.few)

-- A text has no measures.
pub measure_item-returns-in-Text-clause-measured : goal.measure_item-returns-in-Text-clause-measured
measure_item-returns-in-Text-clause-measured t c =
    let part = text-part c.args.names.now c.args.item.now c.in-Text.bytes c.in-Text.is in
    on_ok_weaker c.add_text.result (λ _. ap (λ p. part_measures p ++ c.args.measures.now) (sym part)) c.add_text.ensures.added

-- A text is counted by its length.
pub measure_item-returns-in-Text-clause-counted : goal.measure_item-returns-in-Text-clause-counted
measure_item-returns-in-Text-clause-counted t c =
    let part = text-part c.args.names.now c.args.item.now c.in-Text.bytes c.in-Text.is in
    on_ok_weaker c.add_text.result
    (λ added. added ∙ ap (λ n. with_text n c.args.tally.now) (ap length c.as_slice.ensures) ∙ ap (λ p. with_part p c.args.tally.now) (sym part)) c.add_text.ensures.added

pub measure_item-returns-in-Text-clause-large : goal.measure_item-returns-in-Text-clause-large
measure_item-returns-in-Text-clause-large t c = λ e.
    let part = text-part c.args.names.now c.args.item.now c.in-Text.bytes c.in-Text.is in
    omega (arith, c.add_text.ensures.large e, ap length c.as_slice.ensures, ap (λ p. (with_part p c.args.tally.now).plain) part)

-- An element's measures are its own and those inside it.
pub measure_item-returns-in_ok-measure_element-in-Child-clause-measured : goal.measure_item-returns-in_ok-measure_element-in-Child-clause-measured
measure_item-returns-in_ok-measure_element-in-Child-clause-measured t c =
    let part = child-part c.args.names.now c.args.item.now c.get.result.now (c.in-Child.is ∙ ap Child (sym c.get.ensures)) in
    on_ok_weaker c.add_element.result (λ _. c.in_ok-measure_element-in-Child.ensures.measured ∙ ap (λ p. part_measures p ++ c.args.measures.now) (sym part)) c.add_element.ensures.added

-- An element is counted by its measure.
pub measure_item-returns-in_ok-measure_element-in-Child-clause-counted : goal.measure_item-returns-in_ok-measure_element-in-Child-clause-counted
measure_item-returns-in_ok-measure_element-in-Child-clause-counted t c =
    let part = child-part c.args.names.now c.args.item.now c.get.result.now (c.in-Child.is ∙ ap Child (sym c.get.ensures)) in
    let own = same-first c.last.result.now (measure_of (branch_of c.args.names.now c.get.result.now)) _ _ c.measure_element.new.measures c.last.ensures c.in_ok-measure_element-in-Child.ensures.measured in
    on_ok_weaker c.add_element.result
    (λ added. added ∙ ap (λ m. with_element m c.args.tally.now) own ∙ ap (λ p. with_part p c.args.tally.now) (sym part)) c.add_element.ensures.added

pub measure_item-returns-in_ok-measure_element-in-Child-clause-large : goal.measure_item-returns-in_ok-measure_element-in-Child-clause-large
measure_item-returns-in_ok-measure_element-in-Child-clause-large t c = λ e.
    let part = child-part c.args.names.now c.args.item.now c.get.result.now (c.in-Child.is ∙ ap Child (sym c.get.ensures)) in
    let own = same-first c.last.result.now (measure_of (branch_of c.args.names.now c.get.result.now)) _ _ c.measure_element.new.measures c.last.ensures c.in_ok-measure_element-in-Child.ensures.measured in
    omega (arith, c.add_element.ensures.large e, ap (λ (m : Measure). m.long) own, ap (λ p. (with_part p c.args.tally.now).plain) part)
