use Rattle.std.proofs.Common.{◌∙◌, ◌+◌, length, sym, ap}
use Rattle.merkle_chunks.proofs.LevelLemmas.{length-levels_in}
use Rattle.merkle_chunks.proofs.tree.Tree.top_level.Goals as goal

pub returns : goal.returns
returns c =
    ap length (sym c.self.view_is)
    ∙ length-levels_in c.self.inside.fragments c.self.inside.table.items c.self.inside.whole
    ∙ ap (λ n. n + 1) (sym c.top_level.ensures)
