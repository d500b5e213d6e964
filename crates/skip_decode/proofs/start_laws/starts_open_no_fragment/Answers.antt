use Rattle.skip_decode.proofs.OpenedNone.{settled-none, started-none}
use Rattle.skip_decode.proofs.start_laws.starts_open_no_fragment.Goals as goal

pub returns : goal.returns
returns c = record {
  started = started-none;
  settled = settled-none;
}
