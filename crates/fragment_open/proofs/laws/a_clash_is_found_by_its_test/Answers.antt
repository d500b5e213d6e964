use Rattle.fragment_open.proofs.ClashLemmas.{clash_found, found_clash}
use Rattle.fragment_open.proofs.laws.a_clash_is_found_by_its_test.Goals as goal

pub returns : goal.returns
returns c = λ hash ours theirs. (λ found. found_clash hash ours theirs found, λ is. clash_found hash ours theirs is)
