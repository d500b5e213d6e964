-- The laws of FeedLaws.
use Rattle.std.proofs.Common.{refl}
use Rattle.acl_walk.specs.inside.OpenLaws.{tags_at-step}
use Rattle.token_stack.proofs.FeedLaws.{fed_stand}
use Rattle.token_stack.proofs.PassLaws.{pass_stand}
use Rattle.token_stack.proofs.laws.tokens_follow_events.Goals as goal

pub returns : goal.returns
returns c = record {
  new = λ states list depth. record { size = refl; after = refl };
  event = fed_stand;
  pass = pass_stand;
  tags = tags_at-step;
}
