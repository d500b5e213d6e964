use Rattle.std.proofs.Common.{ℕ, ◌<◌, ◌++◌, ◌∙◌, sym, get_or, arith}
use Rattle.aes_block.proofs.States.{cells}
use Rattle.aes_block.proofs.WordLemmas.{word_bytes_of}
use Rattle.aes_block.proofs.rounds.load.Goals as goal

pub returns : goal.returns
returns c =
    let byte : (k : ℕ) → get_or c.args.block.now k 0 < 256 = λ k. omega (arith, c.type_inv.block k) in
    (λ i. word_bytes_of c.from_be_bytes.result (get_or c.args.block.now 0 0) (get_or c.args.block.now 1 0) (get_or c.args.block.now 2 0) (get_or c.args.block.now 3 0) (byte 0) (byte 1) (byte 2) (byte 3) c.from_be_bytes.ensures i ++ (word_bytes_of c.from_be_bytes-2.result (get_or c.args.block.now 4 0) (get_or c.args.block.now 5 0) (get_or c.args.block.now 6 0) (get_or c.args.block.now 7 0) (byte 4) (byte 5) (byte 6) (byte 7) c.from_be_bytes-2.ensures i ++ (word_bytes_of c.from_be_bytes-3.result (get_or c.args.block.now 8 0) (get_or c.args.block.now 9 0) (get_or c.args.block.now 10 0) (get_or c.args.block.now 11 0) (byte 8) (byte 9) (byte 10) (byte 11) c.from_be_bytes-3.ensures i ++ word_bytes_of c.from_be_bytes-4.result (get_or c.args.block.now 12 0) (get_or c.args.block.now 13 0) (get_or c.args.block.now 14 0) (get_or c.args.block.now 15 0) (byte 12) (byte 13) (byte 14) (byte 15) c.from_be_bytes-4.ensures i)))
    ∙ sym (cells c.args.block.now c.requires)
