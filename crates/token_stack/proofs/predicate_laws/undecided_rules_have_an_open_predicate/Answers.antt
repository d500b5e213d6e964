-- The law of OpenPredicateLaws.
use Rattle.token_stack.proofs.OpenPredicateLaws.{undecided_open}
use Rattle.token_stack.proofs.predicate_laws.undecided_rules_have_an_open_predicate.Goals as goal

pub returns : goal.returns
returns c =
    λ names rules d list i preds known tests begins surely possibly levels k place n rule few spells.
    undecided_open names d list few spells preds known tests rules i begins surely possibly levels k place n rule
