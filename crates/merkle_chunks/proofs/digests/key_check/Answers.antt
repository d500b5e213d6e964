use Rattle.std.proofs.Common.{rules}
use Rattle.merkle_chunks.specs.File.{key_check}
use Rattle.merkle_chunks.proofs.digests.key_check.Goals as goal

pub returns : goal.returns
unfolding key_check
returns c = search rules
