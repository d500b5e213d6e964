use Rattle.std.proofs.Common.{◌∙◌, ◌∷◌, [], ◌++◌, ap, sym, append-nil, if◌then◌else◌}
use Rattle.std.proofs.lemmas.List.{map-append}
use Rattle.tree_meaning.specs.inside.StepMarks.{marked_steps}
use Rattle.tree_meaning.specs.inside.ExplainWalk.{explanation_in, explanations_in, told_here}
use Rattle.tree_meaning.proofs.explain.tell_if_selected.Goals as goal

pub returns-in_ok-push : goal.returns-in_ok-push
returns-in_ok-push c =
    ap explanations_in c.in_ok-push.ensures.items
    ∙ map-append explanation_in c.args.told.now.items (c.in_ok-told_at.field-0 ∷ [])
    ∙ ap (λ one. explanations_in c.args.told.now.items ++ one ∷ []) c.in_ok-told_at.ensures
    ∙ ap (λ b. explanations_in c.args.told.now.items ++ (if b then told_here (marked_steps c.args.row.now) c.args.place.now ∷ [] else [])) (sym (sym c.is_selected.ensures ∙ c.if-is_selected.true))

pub returns-else-is_selected : goal.returns-else-is_selected
returns-else-is_selected c =
    sym (append-nil (explanations_in c.args.told.now.items))
    ∙ ap (λ b. explanations_in c.args.told.now.items ++ (if b then told_here (marked_steps c.args.row.now) c.args.place.now ∷ [] else [])) (sym (sym c.is_selected.ensures ∙ c.if-is_selected.false))
