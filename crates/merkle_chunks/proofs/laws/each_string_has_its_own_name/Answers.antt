use Rattle.merkle_chunks.proofs.FileLemmas.{one_name, string_of_root, string_of_leaf, string_of_name}
use Rattle.merkle_chunks.proofs.laws.each_string_has_its_own_name.Goals as goal

pub returns : goal.returns
returns c = record { one = one_name; root = string_of_root; leaf = string_of_leaf; node = string_of_name }
