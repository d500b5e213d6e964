use Rattle.merkle_chunks.proofs.TableLemmas.{string_of_node}
use Rattle.merkle_chunks.proofs.laws.nodes_have_two_digests.Goals as goal

pub returns : goal.returns
returns c = string_of_node
