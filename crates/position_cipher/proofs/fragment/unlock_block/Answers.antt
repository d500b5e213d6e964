use Rattle.std.proofs.Common.{◌≡◌, List, ℕ, length, ap, ◌∙◌}
use Rattle.aes_block.specs.Aes.{cipher, inverse_cipher, xor_bytes}
use Rattle.aes_block.proofs.States.{xor_bytes-xor_bytes}
use Rattle.position_cipher.specs.Fragments.{block_mask, locked_block, unlocked_block}
use Rattle.position_cipher.proofs.fragment.unlock_block.Goals as goal

pub returns-clause-unlocked : goal.returns-clause-unlocked
unfolding unlocked_block
returns-clause-unlocked c =
    let mask = block_mask c.args.number in
    c.copy_from_slice-3.ensures.after ∙ c.masked.ensures
    ∙ ap (λ (b : List ℕ). xor_bytes b mask) (c.copy_from_slice-2.ensures.after ∙ c.decrypt.ensures.inverse
    ∙ ap (inverse_cipher c.args.key.now) c.copy_from_slice.ensures.after)

pub returns-clause-undone : goal.returns-clause-undone
unfolding locked_block
returns-clause-undone c =
    let mask = block_mask c.args.number in
    let plain = c.copy_from_slice-2.new.self in
    let size : length plain ≡ 16 = c.copy_from_slice-2.ensures.len ∙ c.requires in
    ap (λ (b : List ℕ). cipher c.args.key.now (xor_bytes b mask)) (c.copy_from_slice-3.ensures.after ∙ c.masked.ensures)
    ∙ ap (cipher c.args.key.now) (xor_bytes-xor_bytes plain mask size ∙ c.copy_from_slice-2.ensures.after)
    ∙ c.decrypt.ensures.undone ∙ c.copy_from_slice.ensures.after
