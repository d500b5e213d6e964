use Rattle.std.proofs.Common.{◌≡◌, ℕ, List, sym, ap, ◌∙◌, arith}
use Rattle.aes_block.specs.Aes.{add_round_key, cipher, inverse_cipher, inverse_rounds, inverse_shift_rows, inverse_sub_bytes, key_expansion, round_key}
use Rattle.aes_block.specs.inside.ColumnWords.{block_of_round, block_of_words}
use Rattle.aes_block.proofs.KeyLemmas.{IsState-block, block_of_round-words, decrypted, decryption_undone, words_of}
use Rattle.aes_block.proofs.key128.Key128.decrypt.Goals as goal

pub returns : goal.returns
unfolding inverse_rounds
returns c =
    let ws = c.self.inside.words in
    let mixed = c.self.inside.mixed in
    let schedules = c.self.invariant in
    let block = c.args.block in
    let key_at = block_of_round-words ws mixed schedules in
    let first : block_of_words c.add_key-start.result ≡ add_round_key block (round_key (words_of ws) 10) =
    c.add_key-start.ensures ∙ (λ i. add_round_key (c.load.ensures i) (key_at 10 (omega arith) i)) in
    let last : block_of_words c.three_inverse_rounds-ninth.result ≡ inverse_rounds (key_expansion c.args.self.now) (block_of_words c.add_key-start.result) 9 =
    c.three_inverse_rounds-ninth.ensures ∙ c.three_inverse_rounds-sixth.ensures ∙ c.three_inverse_rounds-third.ensures in
    let made : c.store.result ≡ inverse_cipher (block_of_round ws 0) block =
    c.store.ensures ∙ c.add_key.ensures
    ∙ (λ i. add_round_key (c.inverse_last_round.ensures i) (key_at 0 (omega arith) i))
    ∙ ap (λ (s : List ℕ). add_round_key (inverse_sub_bytes (inverse_shift_rows s)) (round_key (words_of ws) 0))
    (last ∙ (λ i. inverse_rounds (key_expansion (sym c.self.view_is i)) (first i) 9))
    ∙ decrypted ws mixed schedules block in
    record {
      inverse = made ∙ ap (λ (key : List ℕ). inverse_cipher key block) c.self.view_is;
      undone = (λ i. cipher (sym c.self.view_is i) (made i))
          ∙ decryption_undone ws mixed schedules block (IsState-block c.load.result block c.load.ensures);
    }
