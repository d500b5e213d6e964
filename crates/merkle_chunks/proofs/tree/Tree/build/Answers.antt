use Rattle.std.proofs.Common.{◌∙◌, arith}
use Rattle.std.proofs.lemmas.List.{with_items_is}
use Rattle.merkle_chunks.proofs.WriteLemmas.{built}
use Rattle.merkle_chunks.proofs.tree.Tree.build.Goals as goal

pub returns : goal.returns
returns c =
    built c.args.cipher.now _ (with_items_is c.in_ok-table.table c.write_table.new.table (omega arith) ∙ c.write_table.ensures.table)
