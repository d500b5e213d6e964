use Rattle.skip_decode.proofs.RootRuns.{stream_events-spell, stream_events-exact}
use Rattle.skip_decode.proofs.stream_laws.streams_spell_documents.Goals as goal

pub returns : goal.returns
returns c = record { spelled = stream_events-spell; exact = stream_events-exact }
