use Rattle.skip_decode.proofs.ReadStreams.{stream_read}
use Rattle.skip_decode.proofs.stream_laws.streams_have_one_spelling.Goals as goal

pub returns : goal.returns
returns c = record { spelled = stream_read }
