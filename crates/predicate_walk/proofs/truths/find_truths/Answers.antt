use Rattle.std.proofs.Common.{◌≡◌, ◌∙◌, ◌∷◌, ◌++◌, ap, length, arith}
use Rattle.std.proofs.lemmas.Bool.Decides.{nat_tests}
use Rattle.acl_model.specs.Predicates.{descendants}
use Rattle.predicate_walk.specs.Truths.{truths}
use Rattle.predicate_walk.proofs.WalkLaws.{none_asked}
use Rattle.predicate_walk.proofs.truths.find_truths.Goals as goal

pub returns-then-is_empty : goal.returns-then-is_empty
returns-then-is_empty c =
    let none : length c.args.preds.now ≡ 0 = grind (arith, nat_tests, c.if-is_empty.ensures) in
    c.new-flags.ensures ∙ none_asked c.args.preds.now (c.args.root.now ∷ descendants c.args.root.now) none

pub returns : goal.returns
returns c =
    c.in_ok-walk_element.ensures.flags
    ∙ ap (λ s. s ++ truths c.in_ok-machine.machine (c.args.root.now ∷ descendants c.args.root.now)) c.new-flags.ensures
    ∙ ap (λ ps. truths ps (c.args.root.now ∷ descendants c.args.root.now)) c.in_ok-machine.ensures
