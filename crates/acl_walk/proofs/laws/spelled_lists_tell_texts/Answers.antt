use Rattle.acl_walk.proofs.TextLaws.{text_of_events-text}
use Rattle.acl_walk.proofs.laws.spelled_lists_tell_texts.Goals as goal

pub returns : goal.returns
returns c = text_of_events-text
