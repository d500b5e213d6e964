use Rattle.std.proofs.Common.{◌≡◌, ℕ, ◌+◌, ◌-◌, ◌*◌, List, length, take, drop, ap, sym, ◌∙◌, arith}
use Rattle.std.proofs.lemmas.List.{length-drop, length-take-le}
use Rattle.position_cipher.specs.Fragments.{locked_block, unlocked_block}
use Rattle.position_cipher.proofs.BlockLemmas.{AreDone-all, AreDone-more, AreDone-none}
use Rattle.position_cipher.proofs.fragment.unlock_fragment.Goals as goal

pub each-init : goal.each-init
each-init c =
    AreDone-none (unlocked_block c.args.key.now) (locked_block c.args.key.now) (16 * c.args.index) c.args.bytes.now c.told-bytes

pub each-preserved : goal.each-preserved
each-preserved c =
    let key = c.args.key.now in
    let k = c.each.k in
    let w : ℕ = 16 * (k + 1) - 16 * k in
    let piece : List ℕ = take w (drop (16 * k) c.each.bytes) in
    let fits : length piece ≡ w = length-take-le w (drop (16 * k) c.each.bytes) (omega (arith, length-drop (16 * k) c.each.bytes, c.each.invariant.count)) in
    let size : length c.unlock_block.new.block ≡ 16 = omega (arith, c.unlock_block.auto.block, fits) in
    let number : c.number_of.result ≡ 16 * c.args.index + k = c.number_of.ensures in
    AreDone-more (unlocked_block key) (locked_block key) (16 * c.args.index) k w
    c.args.bytes.now c.each.bytes c.unlock_block.new.block (omega arith) (omega arith) c.told-bytes size c.each.invariant
    (c.unlock_block.ensures.unlocked ∙ ap (λ (n : ℕ). unlocked_block key n piece) number)
    (sym (ap (λ (n : ℕ). locked_block key n c.unlock_block.new.block) number) ∙ c.unlock_block.ensures.undone)

pub returns : goal.returns
returns c =
    let done : c.each.k ≡ 16 = omega (arith, c.each.auto.k-end) in
    let both = AreDone-all (unlocked_block c.args.key.now) (locked_block c.args.key.now) (16 * c.args.index) c.each.k c.args.bytes.now c.each.bytes done c.told-bytes c.each.invariant in
    record { unlocked = both.0; undone = both.1 }
