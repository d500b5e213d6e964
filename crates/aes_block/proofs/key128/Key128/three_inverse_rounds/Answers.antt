use Rattle.std.proofs.Common.{ℕ, ◌-◌, List, sym, ap, ◌∙◌, arith}
use Rattle.aes_block.specs.Aes.{add_round_key, inverse_rounds, key_expansion}
use Rattle.aes_block.specs.inside.ColumnWords.{block_of_round, block_of_words}
use Rattle.aes_block.proofs.KeyLemmas.{inverse_round_at}
use Rattle.aes_block.proofs.key128.Key128.three_inverse_rounds.Goals as goal

pub returns : goal.returns
returns c =
    let mixed = c.self.inside.mixed in
    let at = inverse_round_at c.self.inside.words mixed c.self.invariant in
    let r : ℕ = c.args.round in
    let one = at (block_of_words c.args.state) (block_of_words c.add_key-first.result) (r - 1) r (omega arith) (omega arith)
    (c.add_key-first.ensures ∙ ap (λ (s : List ℕ). add_round_key s (block_of_round mixed r)) c.inverse_full_round.ensures) in
    let two = at (block_of_words c.add_key-first.result) (block_of_words c.add_key-second.result) (r - 2) (r - 1) (omega arith) (omega arith)
    (c.add_key-second.ensures ∙ ap (λ (s : List ℕ). add_round_key s (block_of_round mixed (r - 1))) c.inverse_full_round-2.ensures) in
    let three = at (block_of_words c.add_key-second.result) (block_of_words c.add_key.result) (r - 3) (r - 2) (omega arith) (omega arith)
    (c.add_key.ensures ∙ ap (λ (s : List ℕ). add_round_key s (block_of_round mixed (r - 2))) c.inverse_full_round-3.ensures) in
    ap (λ (key : List ℕ). inverse_rounds (key_expansion key) (block_of_words c.add_key.result) (r - 3)) (sym c.self.view_is)
    ∙ three ∙ two ∙ one
    ∙ ap (λ (key : List ℕ). inverse_rounds (key_expansion key) (block_of_words c.args.state) r) c.self.view_is
