-- The laws of BoundLaws.
use Rattle.token_stack.proofs.BoundLaws.{sure_at_most, may_at_least, sure_grows, may_shrinks}
use Rattle.token_stack.proofs.bound_laws.predicates_lie_between_bounds.Goals as goal

pub returns : goal.returns
returns c = record {
  sure = λ names d list known few spells. sure_at_most names d list spells known;
  may = λ names d list known few spells. may_at_least names d list spells known;
  sure_grows = λ names d list known more few spells later. sure_grows names d list spells known more later;
  may_shrinks = λ names d list known more few spells later. may_shrinks names d list spells known more later;
}
