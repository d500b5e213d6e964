use Rattle.acl_walk.specs.inside.PieceLaws.{pieces-join}
use Rattle.acl_walk.specs.inside.SpellLaws.{document_events-spell}
use Rattle.acl_walk.proofs.laws.trees_spell_documents.Goals as goal

pub returns : goal.returns
returns c = record { pieces = pieces-join; document = document_events-spell }
