use Rattle.std.proofs.Common.{◌≤◌, ◌∙◌, ◌+◌, ◌*◌, List, ℕ, length, sym, ap, arith}
use Rattle.std.specs.Prelude.{Some}
use Rattle.merkle_chunks.specs.Table.{node_of, top_level, count_below}
use Rattle.merkle_chunks.proofs.LevelLemmas.{length-levels_in, node_within, node_at, no_node_past_level}
use Rattle.merkle_chunks.proofs.WriteLemmas.{part_is}
use Rattle.merkle_chunks.proofs.tree.Tree.node.Goals as goal

pub returns-then-from-counts : goal.returns-then-from-counts
returns-then-from-counts c =
    let low : c.args.level ≤ top_level c.self.inside.fragments = omega (arith, ap length c.self.view_is, length-levels_in c.self.inside.fragments c.self.inside.table.items c.self.inside.whole) in
    sym (ap (λ t. node_of t c.args.level c.args.index) (sym c.self.view_is)
    ∙ no_node_past_level c.self.inside.fragments c.self.inside.table.items c.self.inside.whole c.args.level c.args.index low (omega arith))

pub slice_bounds-copy_from_slice-end-2 : goal.slice_bounds-copy_from_slice-end-2
slice_bounds-copy_from_slice-end-2 c =
    let low : c.args.level ≤ top_level c.self.inside.fragments = omega (arith, ap length c.self.view_is, length-levels_in c.self.inside.fragments c.self.inside.table.items c.self.inside.whole) in
    omega (arith, node_within c.self.inside.fragments c.self.inside.table.items c.self.inside.whole c.args.level c.args.index low (omega arith))

pub returns : goal.returns
returns c =
    let low : c.args.level ≤ top_level c.self.inside.fragments = omega (arith, ap length c.self.view_is, length-levels_in c.self.inside.fragments c.self.inside.table.items c.self.inside.whole) in
    ap (λ (digest : List ℕ). Some digest) (c.copy_from_slice.ensures.after
    ∙ part_is _ (32 * (count_below c.self.inside.fragments c.args.level + c.args.index)) _ c.self.inside.table.items _ (omega arith) (omega arith) c.deref.ensures.value)
    ∙ sym (node_at c.self.inside.fragments c.self.inside.table.items c.self.inside.whole c.args.level c.args.index low (omega arith))
    ∙ ap (λ t. node_of t c.args.level c.args.index) c.self.view_is
