use Rattle.std.proofs.Common.{◌∙◌, ap}
use Rattle.tree_meaning.specs.inside.StepMarks.{marked_steps}
use Rattle.tree_meaning.specs.inside.Known.{preds_of, flags_within}
use Rattle.tree_meaning.proofs.KnownLaws.{element_first, whole_starts}
use Rattle.tree_meaning.proofs.ToldLaws.{same_rules}
use Rattle.tree_meaning.proofs.explain.tell_if_unselected.Goals as goal

pub told_at-requires : goal.told_at-requires
told_at-requires c =
    same_rules c.args.root.now (marked_steps c.args.row.now) (marked_steps c.as_slice-then-not-is_selected.result.now) (ap marked_steps c.as_slice-then-not-is_selected.ensures.value ∙ c.in_ok-row.ensures.row) c.requires.few

pub all_below-requires : goal.all_below-requires
all_below-requires c =
    element_first (preds_of (marked_steps c.args.row.now)) c.args.root.now c.all-known.result
    (whole_starts (flags_within (preds_of (marked_steps c.args.row.now)) c.args.root.now) c.all-known.result (c.all-known.ensures ∙ c.requires.known))
