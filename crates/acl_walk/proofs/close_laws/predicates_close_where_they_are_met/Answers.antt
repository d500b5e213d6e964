use Rattle.acl_walk.proofs.CloseLaws.{close-some, close-within, close-inside}
use Rattle.acl_walk.proofs.MeetLaws.{met-is}
use Rattle.acl_walk.proofs.close_laws.predicates_close_where_they_are_met.Goals as goal

pub returns : goal.returns
returns c = record {
  met = λ names d list bearer e pred few spells there. met-is names d list bearer e pred spells there;
  closes = λ names d list bearer e pred few spells there. close-some names d list bearer e pred spells there;
  within = close-within;
  inside = λ names d list bearer pred begin i finish few spells closes begins finishes. close-inside names d list spells bearer pred begin i finish closes begins finishes;
}
