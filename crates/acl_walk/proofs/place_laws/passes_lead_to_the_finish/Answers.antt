use Rattle.acl_walk.specs.inside.PassLaws.{pass_where_open, pass_where_none}
use Rattle.acl_walk.proofs.place_laws.passes_lead_to_the_finish.Goals as goal

pub returns : goal.returns
returns c = record { finish = pass_where_open; stays = pass_where_none }
