use Rattle.std.proofs.Common.{◌≡◌, ◌∙◌, ◌+◌, ◌*◌, ◌/◌, ap, length, arith}
use Rattle.merkle_chunks.specs.Table.{digest_count}
use Rattle.merkle_chunks.specs.inside.LevelBytes.{width}
use Rattle.merkle_chunks.proofs.CountLemmas.{half_up, digest_count-least}
use Rattle.merkle_chunks.proofs.WriteLemmas.{none_above, single_is_top, room_above, more_above, same_top}
use Rattle.merkle_chunks.proofs.table.+write_levels.Goals as goal

pub returns-then-level-eq-DIGEST_LEN-clause-above : goal.returns-then-level-eq-DIGEST_LEN-clause-above
returns-then-level-eq-DIGEST_LEN-clause-above t c =
    none_above c.args.level.now c.requires.whole c.if-level-eq-DIGEST_LEN.true c.args.above.now c.requires.room

pub returns-then-level-eq-DIGEST_LEN-clause-top : goal.returns-then-level-eq-DIGEST_LEN-clause-top
returns-then-level-eq-DIGEST_LEN-clause-top t c =
    c.copy_from_slice.ensures.after ∙ single_is_top c.args.level.now c.requires.whole c.if-level-eq-DIGEST_LEN.true

pub split_at_mut-next-requires : goal.split_at_mut-next-requires
split_at_mut-next-requires t c =
    omega (
      arith,
      c.div_ceil.ensures,
      half_up (width c.args.level.now),
      digest_count-least ((width c.args.level.now + 1) / 2),
      room_above c.args.level.now c.requires.whole c.requires.some c.if-level-eq-DIGEST_LEN.false c.args.above.now c.requires.room,
    )

pub write_levels-requires : goal.write_levels-requires
write_levels-requires t c =
    let long : length c.write_nodes.new.level ≡ 32 * ((width c.args.level.now + 1) / 2) = omega (arith, c.div_ceil.ensures, half_up (width c.args.level.now)) in
    let wide : width c.write_nodes.new.level ≡ (width c.args.level.now + 1) / 2 = omega (arith, long) in (
      omega arith,
      (
        omega arith,
        (
          omega arith,
          omega (arith, ap digest_count wide, room_above c.args.level.now c.requires.whole c.requires.some c.if-level-eq-DIGEST_LEN.false c.args.above.now c.requires.room),
        ),
      ),
    )

pub returns-clause-above : goal.returns-clause-above
returns-clause-above t c =
    more_above c.args.level.now c.requires.whole c.requires.some c.if-level-eq-DIGEST_LEN.false c.write_nodes.new.level c.write_nodes.ensures
    c.write_levels.new.above c.write_levels.ensures.above

pub returns-clause-top : goal.returns-clause-top
returns-clause-top t c =
    same_top c.args.level.now c.requires.whole c.requires.some c.if-level-eq-DIGEST_LEN.false c.write_nodes.new.level c.write_nodes.ensures
    c.write_levels.result c.write_levels.ensures.top
