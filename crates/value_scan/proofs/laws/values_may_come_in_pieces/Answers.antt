use Rattle.value_scan.proofs.ProgressLaws.{fed-append, satisfied_is, fed-settled}
use Rattle.value_scan.proofs.laws.values_may_come_in_pieces.Goals as goal

pub returns : goal.returns
returns c = record { pieces = fed-append; whole = satisfied_is; settled = fed-settled }
