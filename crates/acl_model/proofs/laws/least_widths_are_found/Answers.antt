use Rattle.acl_model.proofs.WidthLaws.{least_width-least, least_width-one, binary_length-least}
use Rattle.acl_model.proofs.laws.least_widths_are_found.Goals as goal

pub returns : goal.returns
returns c = record { found = least_width-least; one = least_width-one; digits = binary_length-least }
