use Rattle.std.proofs.Common.{◌≡◌, ℕ, List, sym, ap, ◌∙◌, arith}
use Rattle.aes_block.specs.Aes.{add_round_key, cipher, full_rounds, inverse_cipher, key_expansion, round_key, shift_rows, sub_bytes}
use Rattle.aes_block.specs.inside.ColumnWords.{block_of_round, block_of_words}
use Rattle.aes_block.proofs.KeyLemmas.{IsState-block, block_of_round-words, encrypted, encryption_undone, words_of}
use Rattle.aes_block.proofs.key128.Key128.encrypt.Goals as goal

pub returns : goal.returns
unfolding full_rounds
returns c =
    let ws = c.self.inside.words in
    let mixed = c.self.inside.mixed in
    let schedules = c.self.invariant in
    let block = c.args.block in
    let start : block_of_words c.add_key-start.result ≡ full_rounds (key_expansion c.args.self.now) block 0 =
    c.add_key-start.ensures ∙ (λ i. add_round_key (c.load.ensures i) (block_of_round-words ws mixed schedules 0 (omega arith) i))
    ∙ ap (λ (key : List ℕ). add_round_key block (round_key (key_expansion key) 0)) c.self.view_is in
    let nine = c.three_rounds-ninth.ensures block (c.three_rounds-sixth.ensures block (c.three_rounds-third.ensures block start)) in
    let made : c.store.result ≡ cipher (block_of_round ws 0) block =
    c.store.ensures ∙ c.add_key.ensures
    ∙ (λ i. add_round_key (c.last_round.ensures i) (block_of_round-words ws mixed schedules 10 (omega arith) i))
    ∙ ap (λ (s : List ℕ). add_round_key (shift_rows (sub_bytes s)) (round_key (words_of ws) 10))
    (nine ∙ ap (λ (key : List ℕ). full_rounds (key_expansion key) block 9) (sym c.self.view_is))
    ∙ encrypted ws mixed schedules block in
    record {
      cipher = made ∙ ap (λ (key : List ℕ). cipher key block) c.self.view_is;
      undone = (λ i. inverse_cipher (sym c.self.view_is i) (made i))
          ∙ encryption_undone ws mixed schedules block (IsState-block c.load.result block c.load.ensures);
    }
