use Rattle.std.proofs.Common.{ℕ, ◌-◌, ◌/◌, [], ◌∷◌, ap, ◌∙◌, arith}
use Rattle.aes_block.specs.Aes.{rot_word, sub_word, xor_bytes}
use Rattle.aes_block.specs.inside.ColumnWords.{word_bytes}
use Rattle.aes_block.proofs.TableEntries.{round_constant_at}
use Rattle.aes_block.proofs.schedule.step.Goals as goal

pub returns-then-i-eq0 : goal.returns-then-i-eq0
returns-then-i-eq0 c =
    rw c.if-i-eq0.true
    (c.turned.ensures
    ∙ ap (λ (x : ℕ). xor_bytes (sub_word (rot_word (word_bytes c.args.before))) (x ∷ 0 ∷ 0 ∷ 0 ∷ []))
    (round_constant_at (c.args.i / 4 - 1) (omega arith)))
