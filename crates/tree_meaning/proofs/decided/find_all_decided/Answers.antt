use Rattle.std.proofs.Common.{◌∙◌, ap, sym, refl, subst}
use Rattle.tree_meaning.specs.inside.Known.{StartsWith, preds_of, flags_within, flags_of_items}
use Rattle.tree_meaning.specs.inside.StepMarks.{marked_steps}
use Rattle.tree_meaning.proofs.KnownLaws.{preds_below, children_start, element_first, whole_starts}
use Rattle.tree_meaning.proofs.ToldLaws.{few_rules, same_rules}
use Rattle.tree_meaning.proofs.decided.find_all_decided.Goals as goal

pub all_below-requires : goal.all_below-requires
all_below-requires c =
    let preds = preds_of (marked_steps c.as_slice-2.result.now) in
    element_first preds c.args.doc.now.root c.all-known.result
    (whole_starts (flags_within preds c.args.doc.now.root) c.all-known.result
    (c.all-known.ensures ∙ c.in_ok-flags.ensures
    ∙ ap (λ r. flags_within (preds_of (marked_steps r)) c.args.doc.now.root) (c.as_slice.ensures.value ∙ sym c.as_slice-2.ensures.value)))

pub decided_by-root-requires : goal.decided_by-root-requires
decided_by-root-requires c =
    same_rules c.args.doc.now.root (marked_steps c.as_slice-2.result.now) (marked_steps c.as_slice-3.result.now) (ap marked_steps c.as_slice-3.ensures.value ∙ c.in_ok-row-2.ensures.row)
    (few_rules c.args.rules.now _ (ap marked_steps c.as_slice-2.ensures.value ∙ c.in_ok-row.ensures) c.requires)

pub find_in_items-requires-clause-few : goal.find_in_items-requires-clause-few
find_in_items-requires-clause-few c =
    same_rules c.args.doc.now.root (marked_steps c.as_slice-2.result.now) (marked_steps c.as_slice-4.result.now) (ap marked_steps c.as_slice-4.ensures.value ∙ c.in_ok-row-2.ensures.row)
    (few_rules c.args.rules.now _ (ap marked_steps c.as_slice-2.ensures.value ∙ c.in_ok-row.ensures) c.requires)

pub find_in_items-requires-clause-known : goal.find_in_items-requires-clause-known
find_in_items-requires-clause-known c =
    let root = c.args.doc.now.root in
    let row = marked_steps c.as_slice-2.result.now in
    subst (λ ps. StartsWith (flags_of_items ps root.items) c.all_below.new.known)
    (sym (ap (λ r. preds_of (marked_steps r)) c.as_slice-4.ensures.value ∙ ap preds_of c.in_ok-row-2.ensures.row ∙ preds_below root row))
    (children_start row (preds_of row) root root.items c.all-known.result c.all_below.new.known refl refl
    (whole_starts (flags_within (preds_of row) root) c.all-known.result
    (c.all-known.ensures ∙ c.in_ok-flags.ensures
    ∙ ap (λ r. flags_within (preds_of (marked_steps r)) root) (c.as_slice.ensures.value ∙ sym c.as_slice-2.ensures.value)))
    c.in_ok-row-2.ensures.known)
