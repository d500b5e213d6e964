-- An element has the right form if its name and attributes have it, and its items.
use Rattle.std.proofs.Common.{◌-◌, ◌&&◌, nat_le, map, sym, ap, ◌∙◌, arith}
use Rattle.std.specs.List.{list_all}
use Rattle.acl_model.specs.inside.Form.{allows}
use Rattle.acl_model.specs.Document.{item_well_formed, greatest, height_of_item}
use Rattle.acl_model.proofs.FormLaws.{element-no_levels, element-levels, and_no, and_true}
use Rattle.acl_model.proofs.form.+form.Goals as goal
use Rattle.acl_model.proofs.form.+form.Goals.{element_is_formed-then-levels-eq0-via-then-levels-eq0, element_is_formed-then-levels-eq0-via-else-levels-eq0+then-not-has_own_form}

pub element_is_formed-returns-then-levels-eq0 : goal.element_is_formed-returns-then-levels-eq0
element_is_formed-returns-then-levels-eq0 t c = elim c.then-levels-eq0.branch [
  | element_is_formed-then-levels-eq0-via-then-levels-eq0 w ↦ sym (element-no_levels (allows c.args.names) c.args.element.now c.args.levels w.if-levels-eq0.true)
  | element_is_formed-then-levels-eq0-via-else-levels-eq0+then-not-has_own_form w ↦
      sym (element-levels (allows c.args.names) c.args.element.now c.args.levels (omega arith)
      ∙ and_no _ _ (sym w.has_own_form.ensures ∙ w.if-not-has_own_form.true))
]

pub element_is_formed-returns : goal.element_is_formed-returns
element_is_formed-returns t c =
    c.items_are_formed.ensures
    ∙ ap (λ items. list_all (λ b. b) (map (item_well_formed (allows c.args.names)) items) && nat_le (greatest (map height_of_item items)) (c.args.levels - 1)) c.as_slice.ensures
    ∙ and_true _ _ (sym c.if-not-has_own_form.ensures)
    ∙ sym (element-levels (allows c.args.names) c.args.element.now c.args.levels (omega arith))
