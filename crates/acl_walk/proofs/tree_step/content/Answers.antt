use Rattle.std.proofs.Common.{ap, sym, ◌∙◌}
use Rattle.acl_model.specs.declared.document.Item.TheVariants.{Text, Child}
use Rattle.acl_walk.proofs.StepLaws.{text-steps, child-steps, finish-steps}
use Rattle.acl_walk.proofs.tree_step.content.Goals as goal

pub returns-in-Some-Text : goal.returns-in-Some-Text
returns-in-Some-Text c =
    let taken = c.take_item.new.self in
    let took = c.in-Some-Text.ensures in
    text-steps _ _ _ taken _ c.as_slice.result.now _ took.0 took.1
    (c.in-Some-Text.field-0-is ∙ ap Text (sym (c.as_slice.ensures ∙ c.in-Some-Text.bytes-is))) (c.text.ensures c.args.names.now taken took.1)

pub returns-in-Some-Child : goal.returns-in-Some-Child
returns-in-Some-Child c =
    let took = c.in-Some-Child.ensures in
    child-steps _ _ _ c.take_item.new.self _ _ c.get.result.now _ took.0 took.1
    (c.in-Some-Child.field-0-is ∙ ap Child (sym (c.get.ensures ∙ c.in-Some-Child.element-is))) c.begin.ensures

pub returns-in-None : goal.returns-in-None
returns-in-None c =
    finish-steps _ _ _ c.take_item.new.self _ _ c.in-None.ensures.0 c.in-None.ensures.1 (c.finish.ensures c.args.names.now)
