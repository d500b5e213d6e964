use Rattle.std.proofs.Common.{ap, sym, ◌∙◌}
use Rattle.std.specs.List.{range_with_len}
use Rattle.acl_walk.specs.inside.TagLaws.{told_below-all, told_below-none}
use Rattle.acl_walk.proofs.tags.below_of.Goals as goal

pub returns-then-may_hold_element : goal.returns-then-may_hold_element
returns-then-may_hold_element c =
    c.full.ensures ∙ ap (range_with_len 0) c.max.ensures ∙ sym (told_below-all c.args.names c.args.items.now (sym c.if-may_hold_element.ensures))

pub returns-else-may_hold_element : goal.returns-else-may_hold_element
returns-else-may_hold_element c = c.none.ensures ∙ sym (told_below-none c.args.names c.args.items.now (sym c.if-may_hold_element.ensures))
