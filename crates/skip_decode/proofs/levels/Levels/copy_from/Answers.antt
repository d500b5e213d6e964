use Rattle.std.proofs.Common.{◌≡◌, length, ap, sym, ◌∙◌, arith}
use Rattle.skip_decode.proofs.LevelLaws.{length-innermost_first}
use Rattle.skip_decode.proofs.levels.Levels.copy_from.Goals as goal

pub unwrap-requires : goal.unwrap-requires
unwrap-requires c =
    let long : length c.args.other.now ≡ length c.other.inside.stack.items = ap length (sym c.other.view_is) ∙ length-innermost_first c.other.inside.stack.items in
    let room = c.self.invariant in
    let few = c.requires in
    c.extend_from_slice.ensures.succeeds (omega (arith, room, c.clear.ensures.len, c.clear.ensures.capacity, ap length c.deref.ensures.value, long, few))
