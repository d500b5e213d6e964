use Rattle.std.proofs.Common.{◌≡◌, ◌*◌, ◌/◌, ◌∙◌, ℕ, length, take, drop, refl, sym, ap, arith}
use Rattle.std.proofs.lemmas.List.{length-take-le, length-drop}
use Rattle.merkle_chunks.specs.Table.{digest_count, top_level}
use Rattle.fragment_open.proofs.tests.worked_file.Goals as goal

-- the table over 41 fragments
digests_41 : 32 * digest_count (10496 / 256) ≡ 2720
unfolding top_level
digests_41 = refl

pub write_table-requires-clause-room : goal.write_table-requires-clause-room
write_table-requires-clause-room c =
    let size : length (take 10496 (drop 64 c.deref.result.now)) ≡ 10496 = length-take-le 10496 (drop 64 c.deref.result.now)
    (omega (arith, length-drop 64 c.deref.result.now, ap length c.deref.ensures.value, c.loop-i.invariant, c.loop-i-test.false, c.loop-i.auto.i-end)) in
    sym (ap (λ (n : ℕ). 32 * digest_count (n / 256)) size ∙ digests_41)
