use Rattle.fragment_open.proofs.SinceLemmas.{since-append, since-start}
use Rattle.fragment_open.proofs.laws.reads_of_an_opener_begin_with_its_start.Goals as goal

pub returns : goal.returns
returns c = record { start = λ before first more start none. since-start before first more start none; more = λ before more none. since-append before more none }
