use Rattle.std.proofs.Common.{◌||◌, is_some, ap, ◌∙◌}
use Rattle.acl_model.specs.Dictionary.{has_name}
use Rattle.acl_walk.specs.inside.TagLaws.{is_some-name_number}
use Rattle.acl_walk.proofs.walkable.is_known.Goals as goal

pub returns-else-is_dummy : goal.returns-else-is_dummy
returns-else-is_dummy c =
    let names = c.args.names.now in
    let name = c.args.name.now in
    c.is_some.ensures ∙ ap is_some c.number_of.ensures ∙ is_some-name_number names name ∙ ap (λ b. b || has_name names name) c.if-is_dummy.ensures
