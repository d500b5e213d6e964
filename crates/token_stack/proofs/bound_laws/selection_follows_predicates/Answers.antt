-- The laws of BoundLaws.
use Rattle.token_stack.proofs.BoundLaws.{selects_grow, negation_swaps, selects_by-model, plain_selects}
use Rattle.token_stack.proofs.bound_laws.selection_follows_predicates.Goals as goal

pub returns : goal.returns
returns c = record { grows = selects_grow; negation = negation_swaps; model = selects_by-model; plain = plain_selects }
