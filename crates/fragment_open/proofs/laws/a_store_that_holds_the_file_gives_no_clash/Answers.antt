use Rattle.fragment_open.proofs.HonestLemmas.{honest-no_clash}
use Rattle.fragment_open.proofs.laws.a_store_that_holds_the_file_gives_no_clash.Goals as goal

pub returns : goal.returns
returns c = λ d key reads document stream key_bytes regular of. honest-no_clash d key document stream key_bytes reads regular of
