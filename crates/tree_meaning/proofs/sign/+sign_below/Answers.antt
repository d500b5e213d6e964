use Rattle.std.proofs.Common.{◌∙◌, ap, sym, subst, arith}
use Rattle.std.proofs.lemmas.List.{length-drop}
use Rattle.predicate_walk.specs.Truths.{preds_in}
use Rattle.tree_meaning.specs.inside.Known.{StartsWith, preds_of, flags_within}
use Rattle.tree_meaning.specs.inside.StepMarks.{marked_steps}
use Rattle.tree_meaning.proofs.KnownLaws.{element_first, children_start, preds_below}
use Rattle.tree_meaning.proofs.sign.+sign_below.Goals as goal

pub all_below-requires : goal.all_below-requires
all_below-requires t c =
    element_first (preds_of (marked_steps c.args.row.now)) c.args.element.now c.args.known.now
    (subst (λ preds. StartsWith (flags_within preds c.args.element.now) c.args.known.now) c.requires.preds c.requires.known)

pub child_at-requires : goal.child_at-requires
child_at-requires t c =
    children_start (marked_steps c.args.row.now) (preds_in c.args.preds.now) c.args.element.now c.as_slice-in-len1-up.result.now c.args.known.now c.all_below.new.known
    c.requires.preds c.as_slice-in-len1-up.ensures c.requires.known c.in_ok-row.ensures.known

pub sign_below-requires : goal.sign_below-requires
sign_below-requires t c = (
  omega (arith, length-drop 1 c.args.place.now, c.in-len1-up.len_at_least),
  (
    c.requires.preds ∙ sym (preds_below c.args.element.now (marked_steps c.args.row.now)) ∙ ap preds_of (sym (ap marked_steps c.as_slice-in-Some.ensures.value ∙ c.in_ok-row.ensures.row)),
    c.in-Some.ensures.known,
  ),
)
