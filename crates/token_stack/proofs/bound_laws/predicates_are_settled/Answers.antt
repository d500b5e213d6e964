-- The laws of BoundLaws.
use Rattle.token_stack.proofs.BoundLaws.{sure_is, may_is, settled_after, settled_all}
use Rattle.token_stack.proofs.bound_laws.predicates_are_settled.Goals as goal

pub returns : goal.returns
returns c = record {
  sure = λ names d list known bearer e pred few spells. sure_is names d list spells bearer e pred known;
  may = λ names d list known bearer e pred few spells. may_is names d list spells bearer e pred known;
  after_finish = λ names d list finish i bearer e pred few spells. settled_after names d list spells bearer e pred finish i;
  at_end = λ names d list bearer e pred few spells. settled_all names d list spells bearer e pred;
}
