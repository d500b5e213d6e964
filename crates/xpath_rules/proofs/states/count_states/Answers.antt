use Rattle.std.proofs.Common.{◌≡◌, ◌≤◌, ◌∙◌, rules, arith}
use Rattle.xpath_rules.specs.Counting.{step_count, pred_count, pred_step_count, in_32_bits}
use Rattle.xpath_rules.proofs.Counts.{read_few, small}
use Rattle.xpath_rules.proofs.states.count_states.Goals as goal

pub returns-clause-exact_steps : goal.returns-clause-exact_steps
returns-clause-exact_steps c =
    let is : c.in_32_bits.result ≡ in_32_bits (step_count c.args.path.now) = search rules in
    λ user can. is ∙ small (step_count c.args.path.now) (read_few user c.args.path.now can).0

pub returns-clause-exact_preds : goal.returns-clause-exact_preds
returns-clause-exact_preds c =
    let is : c.count_preds.result ≡ in_32_bits (pred_count c.args.path.now) = search rules in
    λ user can. is ∙ small (pred_count c.args.path.now) (read_few user c.args.path.now can).1

pub returns-clause-exact_pred_steps : goal.returns-clause-exact_pred_steps
returns-clause-exact_pred_steps c =
    let is : c.count_pred_steps.result ≡ in_32_bits (pred_step_count c.args.path.now) = search rules in
    λ user can. is ∙ small (pred_step_count c.args.path.now) (read_few user c.args.path.now can).2

pub returns-clause-few_steps : goal.returns-clause-few_steps
returns-clause-few_steps c =
    let is : c.in_32_bits.result ≡ in_32_bits (step_count c.args.path.now) = search rules in
    λ user can. let few = (read_few user c.args.path.now can).0 in omega (arith, is, few)

pub returns-clause-few_preds : goal.returns-clause-few_preds
returns-clause-few_preds c =
    let is : c.count_preds.result ≡ in_32_bits (pred_count c.args.path.now) = search rules in
    λ user can. let few = (read_few user c.args.path.now can).1 in omega (arith, is, few)

pub returns-clause-few_pred_steps : goal.returns-clause-few_pred_steps
returns-clause-few_pred_steps c =
    let is : c.count_pred_steps.result ≡ in_32_bits (pred_step_count c.args.path.now) = search rules in
    λ user can. let few = (read_few user c.args.path.now can).2 in omega (arith, is, few)
