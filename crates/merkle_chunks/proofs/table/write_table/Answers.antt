use Rattle.std.proofs.Common.{◌/◌, length, arith}
use Rattle.merkle_chunks.proofs.CountLemmas.{digest_count-least}
use Rattle.merkle_chunks.proofs.WriteLemmas.{whole_table, table_top}
use Rattle.merkle_chunks.proofs.table.write_table.Goals as goal

pub split_at_mut-leaves-requires : goal.split_at_mut-leaves-requires
split_at_mut-leaves-requires c = omega (arith, digest_count-least (length c.args.cipher.now / 256))

pub returns-clause-table : goal.returns-clause-table
returns-clause-table c =
    whole_table c.args.cipher.now c.write_leaves.new.level c.write_leaves.ensures c.write_levels.new.above c.write_levels.ensures.above

pub returns-clause-top : goal.returns-clause-top
returns-clause-top c =
    table_top c.args.cipher.now c.write_leaves.new.level c.write_leaves.ensures c.write_levels.result c.write_levels.ensures.top
