-- The laws of BoundLaws.
use Rattle.token_stack.proofs.BoundLaws.{sure_selected, selected_may, sure_selects_more, may_selects_less, settled_sure, settled_may}
use Rattle.token_stack.proofs.bound_laws.selection_lies_between_bounds.Goals as goal

pub returns : goal.returns
returns c = record {
  sure = λ names d list known path place few spells. sure_selected names d list spells known path place;
  may = λ names d list known path place few spells. selected_may names d list spells known path place;
  sure_grows = λ names d list known more path place few spells. sure_selects_more names d list spells known more path place;
  may_shrinks = λ names d list known more path place few spells. may_selects_less names d list spells known more path place;
  settled_sure = λ names d list known path place few spells. settled_sure names d list spells known path place;
  settled_may = λ names d list known path place few spells. settled_may names d list spells known path place;
}
