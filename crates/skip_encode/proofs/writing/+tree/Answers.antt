use Rattle.std.proofs.Common.{◌≡◌, ◌^◌, ◌<◌, ◌++◌, length, map, drop, append-nil, ap, sym, ◌∙◌, subst, arith}
use Rattle.std.specs.Int.{w16, to_be_bytes}
use Rattle.std.specs.List.{concat}
use Rattle.std.proofs.lemmas.Result.{on_ok_weaker}
use Rattle.acl_model.specs.Names.{is_name}
use Rattle.acl_model.specs.Width.{binary_length}
use Rattle.acl_model.specs.Document.{item_well_formed, height, height_of_item}
use Rattle.acl_model.specs.Stream.{measured_bytes, bytes_of_segments, part_segments}
use Rattle.acl_model.specs.declared.document.Item.TheVariants.{Child}
use Rattle.acl_model.proofs.FormEquations.{item_well_formed-Child, height_of_item-Child}
use Rattle.tag_dictionary.proofs.Forms.{well_formed-items, well_formed-next, height_of_item-lower}
use Rattle.skip_encode.specs.declared.measures.Measure.{Measure}
use Rattle.skip_encode.specs.inside.Measures.{part_measures, BeginsWith, PartFits}
use Rattle.skip_encode.specs.inside.Tallies.{prefix_size}
use Rattle.skip_encode.proofs.Contents.{branch_of-prefix, child-part, text-part}
use Rattle.skip_encode.proofs.Written.{written-start, own-measure, left-start, next-begins, next-fits, few-attributes}
use Rattle.skip_encode.proofs.writing.+tree.Goals as goal

-- A well-formed element has at most 65,535 attributes.
pub write_element-write_attributes-requires-clause-few : goal.write_element-write_attributes-requires-clause-few
write_element-write_attributes-requires-clause-few t c = omega (arith, ap length c.as_slice.ensures, few-attributes c.args.element.now c.requires.formed)

-- The attributes are no larger than the element's content.
pub write_element-write_attributes-requires-clause-small : goal.write_element-write_attributes-requires-clause-small
write_element-write_attributes-requires-clause-small t c =
    omega (arith, ap prefix_size c.as_slice.ensures, branch_of-prefix c.args.names.now c.args.element.now, c.requires.fits.small)

-- After the attributes, the items are left.
pub write_element-loop-item-init : goal.write_element-loop-item-init
write_element-loop-item-init t c =
    let names = c.args.names.now in
    let element = c.args.element.now in
    let own = own-measure names element c.args.measures.now c.pop-measure.new.self c.pop-measure.result c.requires.measured c.pop-measure.ensures in
    record {
      written = written-start names element c.args.parent.now.members c.args.parent.now.width c.pop-measure.result c.args.bytes.now.items c.write_head.new.bytes.items c.write_attributes.new.bytes.items
          c.requires.fits.small own c.in_ok-write_head.ensures
          (c.in_ok-write_attributes.ensures ∙ ap (λ l. c.write_head.new.bytes.items ++ (to_be_bytes w16 (length l) ++ concat (map measured_bytes l))) c.as_slice.ensures);
      left = left-start names element c.args.measures.now c.pop-measure.new.self c.pop-measure.result c.requires.measured c.pop-measure.ensures;
      formed = well_formed-items element c.requires.formed;
    }

-- The next item fits, and its measures come next.
pub write_element-write_item-requires : goal.write_element-write_item-requires
write_element-write_item-requires t c =
    let names = c.args.names.now in
    let element = c.args.element.now in
    let within = rw c.as_slice-item-items.ensures at c.loop-item-test.true in
    let is = rw c.as_slice-item-items.ensures at c.item-item.is in
    let lower : height_of_item c.item-item.result < height element = height_of_item-lower element c.loop-item.item-index c.item-item.result within is in
    let own = own-measure names element c.args.measures.now c.pop-measure.new.self c.pop-measure.result c.requires.measured c.pop-measure.ensures in (
      omega (arith, lower),
      (
        c.requires.few,
        (
          well_formed-next element.items c.loop-item.item-index c.item-item.result within is c.loop-item.invariant.formed,
          (
            next-begins names element.items c.loop-item.item-index c.item-item.result c.loop-item.measures _ within is c.loop-item.invariant.left,
            (
              next-fits names element c.loop-item.item-index c.item-item.result c.pop-measure.result.below c.binary_length.result c.requires.few c.requires.fits.small within is
                  (ap (λ (m : Measure). m.below) own) (c.binary_length.ensures.digits ∙ ap (λ (m : Measure). binary_length m.long) own),
              c.binary_length.ensures.few,
            ),
          ),
        ),
      ),
    )

-- A text's length fits four bytes.
pub write_item-write_measured-requires : goal.write_item-write_measured-requires
write_item-write_measured-requires t c =
    let part = text-part c.args.names.now c.args.item.now c.in-Text.text c.in-Text.is in
    let fits : length c.in-Text.text < 2 ^ 32 = subst (PartFits c.args.parent.now.members c.args.parent.now.width) part c.requires.fits in
    omega (arith, ap length c.as_slice.ensures, fits)

-- A child element can be written where its item can.
pub write_item-write_element-requires : goal.write_item-write_element-requires
write_item-write_element-requires t c =
    let is : c.args.item.now ≡ Child c.get.result.now = c.in-Child.is ∙ ap Child (sym c.get.ensures) in
    let same : height_of_item c.args.item.now ≡ height c.get.result.now = ap height_of_item is ∙ height_of_item-Child c.get.result.now in
    let part = child-part c.args.names.now c.args.item.now c.get.result.now is in (
      omega (arith, same),
      (
        c.requires.few,
        (
          sym (item_well_formed-Child is_name c.get.result.now) ∙ (ap (item_well_formed is_name) (sym is) ∙ c.requires.formed),
          (
            subst (λ p. BeginsWith c.args.measures.now (part_measures p)) part c.requires.measured,
            (
              subst (PartFits c.args.parent.now.members c.args.parent.now.width) part c.requires.fits,
              c.requires.width,
            ),
          ),
        ),
      ),
    )

-- A text is written as its length and its bytes.
pub write_item-returns-in-Text-clause-written : goal.write_item-returns-in-Text-clause-written
write_item-returns-in-Text-clause-written t c =
    let part = text-part c.args.names.now c.args.item.now c.in-Text.text c.in-Text.is in
    on_ok_weaker c.write_measured.result
    (λ written. written ∙ ap (λ l. c.args.bytes.now.items ++ measured_bytes l) c.as_slice.ensures
    ∙ ap (λ l. c.args.bytes.now.items ++ l) (sym (append-nil (measured_bytes c.in-Text.text)))
    ∙ ap (λ p. c.args.bytes.now.items ++ bytes_of_segments (part_segments c.args.parent.now.members c.args.parent.now.width p)) (sym part))
    c.write_measured.ensures

-- A text has no measures.
pub write_item-returns-in-Text-clause-left : goal.write_item-returns-in-Text-clause-left
write_item-returns-in-Text-clause-left t c =
    let part = text-part c.args.names.now c.args.item.now c.in-Text.text c.in-Text.is in
    on_ok_weaker c.write_measured.result (λ _. ap (λ p. drop (length (part_measures p)) c.args.measures.now) (sym part)) c.write_measured.ensures

-- A child item is written as its element.
pub write_item-returns-in-Child-clause-written : goal.write_item-returns-in-Child-clause-written
write_item-returns-in-Child-clause-written t c =
    let part = child-part c.args.names.now c.args.item.now c.get.result.now (c.in-Child.is ∙ ap Child (sym c.get.ensures)) in
    on_ok_weaker c.write_element.result
    (λ written. written ∙ ap (λ p. c.args.bytes.now.items ++ bytes_of_segments (part_segments c.args.parent.now.members c.args.parent.now.width p)) (sym part))
    c.write_element.ensures.written

pub write_item-returns-in-Child-clause-left : goal.write_item-returns-in-Child-clause-left
write_item-returns-in-Child-clause-left t c =
    let part = child-part c.args.names.now c.args.item.now c.get.result.now (c.in-Child.is ∙ ap Child (sym c.get.ensures)) in
    on_ok_weaker c.write_element.result (λ left. left ∙ ap (λ p. drop (length (part_measures p)) c.args.measures.now) (sym part)) c.write_element.ensures.left
