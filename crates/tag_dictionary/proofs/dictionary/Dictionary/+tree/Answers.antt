use Rattle.std.proofs.Common.{◌≡◌, ◌+◌, ◌<◌, Err, true, length, map, drop, ap, sym, ◌∙◌, subst, rules, arith}
use Rattle.std.specs.List.{flat_map}
use Rattle.acl_model.specs.Names.{is_name}
use Rattle.acl_model.specs.Document.{is_well_formed, item_well_formed, height, height_of_item}
use Rattle.acl_model.specs.Dictionary.{with_name, with_names, item_start_names}
use Rattle.acl_model.specs.declared.document.Item.TheVariants.{Child}
use Rattle.acl_model.proofs.FormEquations.{item_well_formed-Child, height_of_item-Child}
use Rattle.tag_dictionary.specs.declared.fault.TagFault.TheVariants.{TooManyTags}
use Rattle.tag_dictionary.proofs.Forms.{is_name-element, well_formed-items, with_names-element, many-more, height_of_item-lower, with_names-next, well_formed-next, well_formed-after}
use Rattle.tag_dictionary.proofs.dictionary.Dictionary.+tree.Goals as goal

-- the element's name has the form of a name
pub add_element-add-requires : goal.add_element-add-requires
add_element-add-requires t c = rw c.as_slice.ensures (is_name-element c.args.element.now c.requires.formed)

-- too many names with the element's own
pub add_element-returns-in_err-add-clause-many : goal.add_element-returns-in_err-add-clause-many
add_element-returns-in_err-add-clause-many t c = λ e.
    let same : c.add.result ≡ Err TooManyTags = search rules in
    let many : 256 < length (with_name c.args.self.now c.as_slice.result.now) = c.add.ensures.many same in
    subst (λ ns. 256 < length ns) (sym (with_names-element c.args.self.now c.args.element.now))
    (many-more (with_name c.args.self.now c.args.element.now.name) (flat_map (λ starts. starts) (map item_start_names c.args.element.now.items)) (rw c.as_slice.ensures at many))

-- the element's own name was added
pub add_element-loop-item-init : goal.add_element-loop-item-init
add_element-loop-item-init t c = record {
  joins =
      ap (λ ns. with_names ns (flat_map (λ starts. starts) (map item_start_names c.args.element.now.items))) (c.in_ok-add.ensures.joined ∙ ap (with_name c.args.self.now) c.as_slice.ensures)
      ∙ sym (with_names-element c.args.self.now c.args.element.now);
  formed = well_formed-items c.args.element.now c.requires.formed;
}

-- too many names with those of an item
pub add_element-returns-in_err-add_item-clause-many : goal.add_element-returns-in_err-add_item-clause-many
add_element-returns-in_err-add_item-clause-many t c = λ e.
    let same : c.add_item.result ≡ Err TooManyTags = search rules in
    subst (λ ns. 256 < length ns)
    (sym (with_names-next c.loop-item.self c.args.element.now.items c.loop-item.item-index c.item-item.result (rw c.as_slice-item-items.ensures at c.loop-item-test.true) (rw c.as_slice-item-items.ensures at c.item-item.is)) ∙ c.loop-item.invariant.joins)
    (many-more (with_names c.loop-item.self (item_start_names c.item-item.result))
    (flat_map (λ starts. starts) (map item_start_names (drop (c.loop-item.item-index + 1) c.args.element.now.items))) (c.add_item.ensures.many same))

-- the names of an item were added
pub add_element-loop-item-preserved : goal.add_element-loop-item-preserved
add_element-loop-item-preserved t c = record {
  joins =
      ap (λ ns. with_names ns (flat_map (λ starts. starts) (map item_start_names (drop (c.loop-item.item-index + 1) c.args.element.now.items)))) c.in_ok-add_item.ensures.joined
      ∙ sym (with_names-next c.loop-item.self c.args.element.now.items c.loop-item.item-index c.item-item.result (rw c.as_slice-item-items.ensures at c.loop-item-test.true) (rw c.as_slice-item-items.ensures at c.item-item.is)) ∙ c.loop-item.invariant.joins;
  formed = well_formed-after c.args.element.now.items c.loop-item.item-index c.item-item.result (rw c.as_slice-item-items.ensures at c.loop-item-test.true) (rw c.as_slice-item-items.ensures at c.item-item.is) c.loop-item.invariant.formed;
}

-- an item is lower than its element, and is well-formed
pub add_element-add_item-requires : goal.add_element-add_item-requires
add_element-add_item-requires t c =
    let within = rw c.as_slice-item-items.ensures at c.loop-item-test.true in
    let is = rw c.as_slice-item-items.ensures at c.item-item.is in
    let lower : height_of_item c.item-item.result < height c.args.element.now = height_of_item-lower c.args.element.now c.loop-item.item-index c.item-item.result within is in
    (omega (arith, lower), well_formed-next c.args.element.now.items c.loop-item.item-index c.item-item.result within is c.loop-item.invariant.formed)

-- a child element is no higher than its item, and is well-formed
pub add_item-add_element-requires : goal.add_item-add_element-requires
add_item-add_element-requires t c =
    let is : c.args.item.now ≡ Child c.get.result.now = c.in-Child.is ∙ ap Child (sym c.get.ensures) in
    let same : height_of_item c.args.item.now ≡ height c.get.result.now = ap height_of_item is ∙ height_of_item-Child c.get.result.now in
    let formed : is_well_formed is_name c.get.result.now ≡ true = sym (item_well_formed-Child is_name c.get.result.now) ∙ (ap (item_well_formed is_name) (sym is) ∙ c.requires.formed) in
    (omega (arith, same), formed)
