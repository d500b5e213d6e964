-- The laws of PredicateLevelLaws.
use Rattle.token_stack.proofs.PredicateLevelLaws.{risen_now, rising_now, risen_innermost, risen_outward}
use Rattle.token_stack.proofs.predicate_laws.rows_rise_from_the_innermost_element.Goals as goal

pub returns : goal.returns
returns c = record { now = risen_now; all = rising_now; innermost = risen_innermost; outward = risen_outward }
