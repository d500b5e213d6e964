-- The bounds of BoundExamples.
use Rattle.token_stack.proofs.BoundExamples.{open_sure, open_may, met_sure, unmet_sure, unmet_may, failed_may}
use Rattle.token_stack.proofs.bound_laws.bounds_of_a_small_document.Goals as goal

pub returns : goal.returns
returns c = record {
  open_sure = open_sure;
  open_may = open_may;
  met_sure = met_sure;
  unmet_sure = unmet_sure;
  unmet_may = unmet_may;
  failed_may = failed_may;
}
