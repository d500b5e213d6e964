use Rattle.std.proofs.Common.{◌≡◌, ℕ, ◌≤◌, ◌*◌, ◌%◌, ◌^◌, ◌<◌, below_more, inl, inr, ap, arith}
use Rattle.std.proofs.lemmas.Bool.{cases_lt}
use Rattle.std.proofs.lemmas.Nat.{one_shl}
use Rattle.skip_encode.specs.declared.tally.Tally.{Tally}
use Rattle.skip_encode.specs.inside.Tallies.{IsSmall, laid_size}
use Rattle.skip_encode.proofs.Widths.{least_width-is, binary_length-above}
use Rattle.skip_encode.proofs.Tallying.{laid_size-plain, laid_size-small}
use Rattle.skip_encode.proofs.tally.Tally.width.Goals as goal

-- 32 bits are always enough.
width_below : (members : ℕ) (t : Tally) (w : ℕ) → IsSmall t → members ≤ 256 → w ≤ 32 → 2 ^ w ≤ laid_size members t w → w < 32
width_below members t w small few within large = elim (cases_lt w 32) [
  | inl below ↦ below
  | inr past ↦
      let is : w ≡ 32 = omega (arith, within) in
      absurd (omega (arith, laid_size-small members t w small few within, ap (λ k. 2 ^ k) is, large))
]

-- No width fits that is too small for the bytes without heads.
pub loop-w-init : goal.loop-w-init
loop-w-init c = record {
  few = c.binary_length-w.ensures.few;
  least = λ v below.
      let plain = laid_size-plain c.args.members c.args.self.now v in
      let low = binary_length-above c.args.self.now.plain v (omega arith) (omega (arith, c.binary_length-w.ensures.digits)) in
      omega (arith, plain, low);
}

-- A width that doesn't fit is passed.
pub loop-w-preserved : goal.loop-w-preserved
loop-w-preserved c =
    let shift : (1 * 2 ^ c.loop-w.w) % 2 ^ 64 ≡ 2 ^ c.loop-w.w = one_shl c.loop-w.w 64 (omega (arith, c.loop-w.invariant.few)) in
    let large : 2 ^ c.loop-w.w ≤ laid_size c.args.members c.args.self.now c.loop-w.w = omega (arith, shift, c.bytes.ensures, c.loop-w-test.true) in record {
      few = omega (arith, width_below c.args.members c.args.self.now c.loop-w.w c.requires.small c.requires.members c.loop-w.invariant.few large);
      least = below_more _ _ c.loop-w.invariant.least large;
    }

pub loop-w-smaller : goal.loop-w-smaller
loop-w-smaller c =
    let shift : (1 * 2 ^ c.loop-w.w) % 2 ^ 64 ≡ 2 ^ c.loop-w.w = one_shl c.loop-w.w 64 (omega (arith, c.loop-w.invariant.few)) in
    let large : 2 ^ c.loop-w.w ≤ laid_size c.args.members c.args.self.now c.loop-w.w = omega (arith, shift, c.bytes.ensures, c.loop-w-test.true) in
    omega (arith, width_below c.args.members c.args.self.now c.loop-w.w c.requires.small c.requires.members c.loop-w.invariant.few large)

-- The first width that fits is the least.
pub returns-clause-width : goal.returns-clause-width
returns-clause-width c =
    let shift : (1 * 2 ^ c.loop-w.w) % 2 ^ 64 ≡ 2 ^ c.loop-w.w = one_shl c.loop-w.w 64 (omega (arith, c.loop-w.invariant.few)) in
    least_width-is (laid_size c.args.members c.args.self.now) c.loop-w.w c.loop-w.invariant.few
    (omega (arith, shift, c.bytes.ensures, c.loop-w-test.false)) c.loop-w.invariant.least
