use Rattle.std.proofs.Common.{ap, sym, ◌∙◌}
use Rattle.std.specs.Option.{unwrap_or}
use Rattle.acl_walk.specs.inside.TagLaws.{tag_number-dummy, tag_number-name}
use Rattle.acl_walk.proofs.tags.tag_of.Goals as goal

pub returns-then-is_dummy : goal.returns-then-is_dummy
returns-then-is_dummy c = sym (tag_number-dummy c.args.names.now c.args.name.now (sym c.if-is_dummy.ensures))

pub returns-in-Some : goal.returns-in-Some
returns-in-Some c =
    ap (λ o. unwrap_or o 256) c.in-Some.ensures ∙ sym (tag_number-name c.args.names.now c.args.name.now (sym c.if-is_dummy.ensures))

pub returns-in-None : goal.returns-in-None
returns-in-None c =
    ap (λ o. unwrap_or o 256) c.in-None.ensures ∙ sym (tag_number-name c.args.names.now c.args.name.now (sym c.if-is_dummy.ensures))
