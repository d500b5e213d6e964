use Rattle.merkle_chunks.proofs.TableLemmas.{table_levels-is}
use Rattle.merkle_chunks.proofs.WriteLemmas.{table_cut}
use Rattle.merkle_chunks.proofs.laws.tables_are_cut_into_their_levels.Goals as goal

pub returns : goal.returns
returns c = record { cut = table_cut; above = table_levels-is }
