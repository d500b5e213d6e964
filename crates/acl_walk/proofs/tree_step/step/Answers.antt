use Rattle.acl_walk.proofs.tree_step.step.Goals as goal

pub returns-in-Head : goal.returns-in-Head
returns-in-Head c = rw c.in-Head.is (c.head.ensures c.args.names.now)

pub returns-in-Attribute : goal.returns-in-Attribute
returns-in-Attribute c =
    let inside = rw c.in-Attribute.is at c.requires.inside in
    rw c.in-Attribute.is (c.attribute.ensures c.args.names.now c.args.levels.now inside)

pub returns-in-Text : goal.returns-in-Text
returns-in-Text c =
    let inside = rw c.in-Text.is at c.requires.inside in
    rw c.in-Text.is (c.text.ensures c.args.names.now c.args.levels.now inside)

pub returns-in-Finish : goal.returns-in-Finish
returns-in-Finish c = rw c.in-Finish.is (c.finish.ensures c.args.names.now)
