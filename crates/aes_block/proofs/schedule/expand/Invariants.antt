use Rattle.std.proofs.Common.{◌≡◌, ◌-◌, length, map, take}
use Rattle.aes_block.specs.Aes.{expanded_words}
use Rattle.aes_block.specs.inside.ColumnWords.{block_of_round, word_bytes}
use Rattle.aes_block.proofs.schedule.expand.Given as goal

abbrev pub invariant-further : goal.invariant-further
invariant-further l = record {
  count : length l.words ≡ 44;
  given : block_of_round l.words 0 ≡ l.fn.key;
  expanded : map word_bytes (take l.i l.words) ≡ expanded_words l.fn.key (l.i - 4);
}
