use Rattle.std.proofs.Common.{◌∙◌, sym, ap}
use Rattle.merkle_chunks.specs.Table.{table_bytes}
use Rattle.merkle_chunks.proofs.LevelLemmas.{table_bytes-levels_in}
use Rattle.merkle_chunks.proofs.tree.Tree.table_bytes.Goals as goal

pub returns : goal.returns
returns c =
    c.as_slice.ensures.value
    ∙ sym (table_bytes-levels_in c.self.inside.fragments c.self.inside.table.items c.self.inside.whole)
    ∙ ap table_bytes c.self.view_is
