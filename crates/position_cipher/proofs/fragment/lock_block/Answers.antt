use Rattle.std.proofs.Common.{List, ℕ, ap, ◌∙◌}
use Rattle.aes_block.specs.Aes.{cipher, inverse_cipher, xor_bytes}
use Rattle.aes_block.proofs.States.{xor_bytes-xor_bytes}
use Rattle.position_cipher.specs.Fragments.{block_mask, locked_block, unlocked_block}
use Rattle.position_cipher.proofs.fragment.lock_block.Goals as goal

pub returns-clause-locked : goal.returns-clause-locked
unfolding locked_block
returns-clause-locked c =
    c.copy_from_slice.ensures.after ∙ c.encrypt.ensures.cipher ∙ ap (cipher c.args.key.now) c.masked.ensures

pub returns-clause-undone : goal.returns-clause-undone
unfolding unlocked_block
returns-clause-undone c =
    let mask = block_mask c.args.number in
    ap (λ (b : List ℕ). xor_bytes (inverse_cipher c.args.key.now b) mask) c.copy_from_slice.ensures.after
    ∙ ap (λ (b : List ℕ). xor_bytes b mask) (c.encrypt.ensures.undone ∙ c.masked.ensures)
    ∙ xor_bytes-xor_bytes c.args.block.now mask c.requires
