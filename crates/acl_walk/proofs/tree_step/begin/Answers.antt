use Rattle.std.proofs.Common.{◌∷◌, List, length, ap, ◌∙◌}
use Rattle.acl_walk.specs.inside.OpenElements.{OpenElement}
use Rattle.acl_walk.specs.TreeEvents.{told_below, tag_number}
use Rattle.acl_walk.proofs.StepLaws.{begin-steps}
use Rattle.acl_walk.proofs.tree_step.begin.Goals as goal

pub returns : goal.returns
returns c =
    let names = c.args.names.now in
    let levels : List OpenElement = c.args.levels.now in
    begin-steps names c.args.element.now levels _ _ _ _ (c.tag_of-tag.ensures ∙ ap (tag_number names) c.as_slice.ensures)
    (c.below_of-below.ensures ∙ ap (told_below (length names)) c.as_slice-items.ensures) c.as_slice-2.ensures
    (c.open.ensures ∙ ap (λ items. record { tag = c.tag_of-tag.result; items = items } ∷ levels) c.as_slice-items.ensures)
