use Rattle.std.proofs.Common.{◌≡◌, ◌*◌, ◌/◌, ◌∙◌, ℕ, refl, sym, ap}
use Rattle.merkle_chunks.specs.Table.{digest_count, top_level}
use Rattle.skip_decode.proofs.walk_tests.file_of.Goals as goal

-- the table over one fragment
digests_1 : 32 * digest_count (256 / 256) ≡ 32
unfolding top_level
digests_1 = refl

pub write_table-top-requires-clause-room : goal.write_table-top-requires-clause-room
write_table-top-requires-clause-room g c =
    sym (ap (λ (n : ℕ). 32 * digest_count (n / 256)) c.lock_fragment.array_long ∙ digests_1)
