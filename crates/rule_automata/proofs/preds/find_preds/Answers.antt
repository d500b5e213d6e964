-- One more rule, with the predicates of its steps.
use Rattle.std.proofs.Common.{◌≡◌, ℕ, ◌+◌, ◌≤◌, List, ◌++◌, length, drop, ap, ◌∙◌, arith}
use Rattle.acl_model.specs.declared.rule.Rule.{Rule}
use Rattle.acl_model.specs.declared.path.Step.{Step}
use Rattle.rule_automata.specs.declared.bearing.Bearing.{Bearing}
use Rattle.rule_automata.specs.declared.suffix.Suffix.{Suffix}
use Rattle.rule_automata.specs.Compile.{suffixes_of, bearings_from, preds_of_steps, preds_from}
use Rattle.rule_automata.proofs.PredLists.{room_of_rule, suffixes_of_rules-next, bearings_of_rules-next, length-suffixes_of}
use Rattle.rule_automata.proofs.StateLists.{steps_in-drop}
use Rattle.rule_automata.proofs.preds.find_preds.Goals as goal

pub add_steps-requires-clause-suffixes : goal.add_steps-requires-clause-suffixes
add_steps-requires-clause-suffixes c =
    let all : List Suffix = suffixes_of c.args.names.now (preds_from 0 c.args.rules.now) in
    let counted = length-suffixes_of c.args.names.now 0 c.args.rules.now in
    let few : length all ≤ 320 = omega (arith, counted, c.requires.few_pred_steps, c.requires.few_preds) in
    rw c.as_slice-steps.ensures (room_of_rule c.args.names.now c.loop-rule.found.suffixes.items all c.loop-rule.first
    c.args.rules.now c.loop-rule.rule-index c.rule-item.result
    c.loop-rule-test.true c.rule-item.is c.loop-rule.invariant.suffixes few)

pub loop-rule-preserved : goal.loop-rule-preserved
loop-rule-preserved c =
    let k : ℕ = c.loop-rule.rule-index in
    let first : ℕ = c.loop-rule.first in
    let all : List Rule = c.args.rules.now in
    let rule : Rule = c.rule-item.result in
    let steps : List Step = c.as_slice-steps.result.now in
    let names : List (List ℕ) = c.args.names.now in
    let now : List Suffix = c.loop-rule.found.suffixes.items in
    let borne : List Bearing = c.loop-rule.found.bearings.items in
    let later : List Rule = drop (k + 1) all in
    let is : steps ≡ rule.path.steps = c.as_slice-steps.ensures in
    let fewer = steps_in-drop all k rule c.loop-rule-test.true c.rule-item.is in
    let many = ap length is in
    let grown : c.add_steps.new.found.suffixes.items
    ≡ now ++ suffixes_of names (preds_of_steps first steps) = c.in_ok-add_steps.ensures.suffixes in
    record {
      first = omega (arith, fewer, many, c.loop-rule.invariant.first);
      suffixes =
          ap (λ t. t ++ suffixes_of names (preds_from (first + length steps) later)) grown
          ∙ ap (λ t. (now ++ suffixes_of names (preds_of_steps first t))
          ++ suffixes_of names (preds_from (first + length t) later)) is
          ∙ suffixes_of_rules-next names now _ first all k rule c.loop-rule-test.true c.rule-item.is
          c.loop-rule.invariant.suffixes;
      bearings =
          ap (λ t. t ++ bearings_from (length c.add_steps.new.found.suffixes.items)
          (preds_from (first + length steps) later)) c.in_ok-add_steps.ensures.bearings
          ∙ ap (λ (t : List Suffix). (borne ++ bearings_from (length now) (preds_of_steps first steps))
          ++ bearings_from (length t) (preds_from (first + length steps) later)) grown
          ∙ ap (λ t. (borne ++ bearings_from (length now) (preds_of_steps first t))
          ++ bearings_from (length (now ++ suffixes_of names (preds_of_steps first t)))
          (preds_from (first + length t) later)) is
          ∙ bearings_of_rules-next names now borne _ first all k rule c.loop-rule-test.true c.rule-item.is
          c.loop-rule.invariant.bearings;
    }
