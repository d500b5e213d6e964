use Rattle.std.proofs.Common.{◌≡◌, ℕ, ◌-◌, ◌≢◌, ◌++◌, List, length, get_or, set, refl, ap, ◌∙◌, sym, arith, bit_xor}
use Rattle.std.proofs.lemmas.List.{get_or-set_other, length-set}
use Rattle.aes_block.specs.Aes.{expanded_words, words_of_bytes, xor_bytes}
use Rattle.aes_block.specs.inside.ColumnWords.{word_bytes}
use Rattle.aes_block.proofs.ScheduleLemmas.{expansion_all, expansion_more}
use Rattle.aes_block.proofs.WordLemmas.{word_bytes-xor}
use Rattle.aes_block.proofs.schedule.expand.Goals as goal

pub further-init : goal.further-init
unfolding expanded_words words_of_bytes
further-init c = record {
  count = refl;
  given = c.load.ensures;
  expanded = ap (λ (key : List ℕ). expanded_words key 0) c.load.ensures;
}

pub further-preserved : goal.further-preserved
further-preserved c =
    let ws = c.further.words in
    let i = c.further.i in
    let v : ℕ = bit_xor (get_or ws (i - 4) 0) c.step.result in
    let kept : (k : ℕ) → k ≢ i → word_bytes (get_or (set ws i v) k 0) ≡ word_bytes (get_or ws k 0) = λ k ne. ap word_bytes (get_or-set_other ws i k v 0 ne) in
    record {
      count = length-set ws i v ∙ c.further.invariant.count;
      given = (λ j. kept 0 (omega arith) j ++ (kept 1 (omega arith) j ++ (kept 2 (omega arith) j ++ kept 3 (omega arith) j))) ∙ c.further.invariant.given;
      expanded = expansion_more c.args.key ws i v (ap length (sym c.load.ensures)) (omega arith) (omega arith)
          c.further.invariant.expanded
          (word_bytes-xor (get_or ws (i - 4) 0) c.step.result ∙ ap (xor_bytes (word_bytes (get_or ws (i - 4) 0))) c.step.ensures);
    }

pub returns : goal.returns
returns c =
    let done : c.further.i ≡ 44 = omega (arith, c.further.auto.i-end (omega arith)) in
    record {
      given = c.further.invariant.given;
      words = expansion_all c.args.key c.further.words (ap length (sym c.load.ensures)) c.further.invariant.count (rw done at c.further.invariant.expanded);
    }
