-- The law of OpenLaws.
use Rattle.token_stack.proofs.OpenLaws.{stands_at_place}
use Rattle.token_stack.proofs.laws.open_elements_stand_in_the_document.Goals as goal

pub returns : goal.returns
returns c = stands_at_place
