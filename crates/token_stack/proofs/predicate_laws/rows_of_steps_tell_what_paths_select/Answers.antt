-- The laws of StateRowLaws.
use Rattle.std.proofs.Common.{refl}
use Rattle.token_stack.proofs.StateRowLaws.{taken_path, taken_rules, taken_grows}
use Rattle.token_stack.proofs.predicate_laws.rows_of_steps_tell_what_paths_select.Goals as goal

pub returns : goal.returns
returns c = record {
  selects = λ d truth states n path place rows are kept. taken_path d truth states n path path.steps place rows refl are kept;
  rules = taken_rules;
  grows = taken_grows;
}
