-- One more step, with its predicates.
use Rattle.std.proofs.Common.{◌≡◌, ℕ, ◌+◌, List, ◌++◌, length, drop, ap, ◌∙◌}
use Rattle.acl_model.specs.declared.path.Step.{Step}
use Rattle.rule_automata.specs.declared.suffix.Suffix.{Suffix}
use Rattle.rule_automata.specs.Compile.{suffixes_of, bearings_from, preds_at, preds_of_steps}
use Rattle.rule_automata.proofs.PredLists.{room_of_step, suffixes_of_steps-next, bearings_of_steps-next}
use Rattle.rule_automata.proofs.preds.add_steps.Goals as goal

pub add_preds-requires-clause-suffixes : goal.add_preds-requires-clause-suffixes
add_preds-requires-clause-suffixes c =
    rw c.as_slice.ensures (room_of_step c.args.names.now c.loop-place.found.suffixes.items
    c.args.found.now.suffixes.items c.args.first c.args.steps.now c.loop-place.place c.index-steps-place.result
    c.loop-place-test.true c.index-steps-place.is c.loop-place.invariant.suffixes c.requires.suffixes)

pub loop-place-preserved : goal.loop-place-preserved
loop-place-preserved c =
    let k : ℕ = c.loop-place.place in
    let first : ℕ = c.args.first in
    let steps : List Step = c.args.steps.now in
    let step : Step = c.index-steps-place.result in
    let names : List (List ℕ) = c.args.names.now in
    let now : List Suffix = c.loop-place.found.suffixes.items in
    let grown : c.add_preds.new.found.suffixes.items ≡ now ++ suffixes_of names (preds_at (first + k) step.preds) =
    c.in_ok-add_preds.ensures.suffixes
    ∙ ap (λ t. now ++ suffixes_of names (preds_at (first + k) t)) c.as_slice.ensures in
    let borne : c.add_preds.new.found.bearings.items
    ≡ c.loop-place.found.bearings.items ++ bearings_from (length now) (preds_at (first + k) step.preds) =
    c.in_ok-add_preds.ensures.bearings
    ∙ ap (λ t. c.loop-place.found.bearings.items
    ++ bearings_from (length now) (preds_at (first + k) t)) c.as_slice.ensures in
    record {
      suffixes =
          ap (λ t. t ++ suffixes_of names (preds_of_steps (first + (k + 1)) (drop (k + 1) steps))) grown
          ∙ suffixes_of_steps-next names now _ first steps k step
          c.loop-place-test.true c.index-steps-place.is c.loop-place.invariant.suffixes;
      bearings =
          ap (λ t. t ++ bearings_from (length c.add_preds.new.found.suffixes.items)
          (preds_of_steps (first + (k + 1)) (drop (k + 1) steps))) borne
          ∙ ap (λ (t : List Suffix). (c.loop-place.found.bearings.items ++ bearings_from (length now)
          (preds_at (first + k) step.preds))
          ++ bearings_from (length t) (preds_of_steps (first + (k + 1)) (drop (k + 1) steps))) grown
          ∙ bearings_of_steps-next names now c.loop-place.found.bearings.items _ first steps k step
          c.loop-place-test.true c.index-steps-place.is c.loop-place.invariant.bearings;
    }
