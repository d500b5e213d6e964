use Rattle.std.proofs.Common.{ℕ, ◌+◌, ◌-◌, List, sym, ap, ◌∙◌, arith}
use Rattle.aes_block.specs.Aes.{add_round_key, full_rounds, key_expansion}
use Rattle.aes_block.specs.inside.ColumnWords.{block_of_round, block_of_words}
use Rattle.aes_block.proofs.KeyLemmas.{full_round_at}
use Rattle.aes_block.proofs.key128.Key128.three_rounds.Goals as goal

pub returns : goal.returns
returns c = λ block held.
    let ws = c.self.inside.words in
    let at = full_round_at ws c.self.inside.mixed c.self.invariant block in
    let r : ℕ = c.args.round in
    let start = held ∙ ap (λ (key : List ℕ). full_rounds (key_expansion key) block (r - 1)) (sym c.self.view_is) in
    let one = at (block_of_words c.args.state) (block_of_words c.add_key-first.result) (r - 1) r (omega arith) (omega arith) start
    (c.add_key-first.ensures ∙ ap (λ (s : List ℕ). add_round_key s (block_of_round ws r)) c.full_round.ensures) in
    let two = at (block_of_words c.add_key-first.result) (block_of_words c.add_key-second.result) r (r + 1) (omega arith) (omega arith) one
    (c.add_key-second.ensures ∙ ap (λ (s : List ℕ). add_round_key s (block_of_round ws (r + 1))) c.full_round-2.ensures) in
    let three = at (block_of_words c.add_key-second.result) (block_of_words c.add_key.result) (r + 1) (r + 2) (omega arith) (omega arith) two
    (c.add_key.ensures ∙ ap (λ (s : List ℕ). add_round_key s (block_of_round ws (r + 2))) c.full_round-3.ensures) in
    three ∙ ap (λ (key : List ℕ). full_rounds (key_expansion key) block (r + 2)) c.self.view_is
