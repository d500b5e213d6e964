use Rattle.std.proofs.Common.{◌≡◌, ◌+◌, Err, length, get_or, ap, ◌∙◌, refl, rules, arith}
use Rattle.std.specs.Prelude.{sum_by}
use Rattle.std.proofs.lemmas.List.Sums.{sum_by_more, sum_by-take-le}
use Rattle.std.proofs.lemmas.List.{take_all}
use Rattle.skip_encode.specs.declared.measure_fault.MeasureFault.TheVariants as fault
use Rattle.skip_encode.proofs.measuring.prefix_size.Goals as goal

pub loop-raw-init : goal.loop-raw-init
loop-raw-init c = record { counted = refl; small = omega arith }

pub within_limit-requires : goal.within_limit-requires
within_limit-requires c = c.loop-raw.invariant.small

-- The attributes up to this one alone are too large.
pub returns-in_err-bytes-clause-large : goal.returns-in_err-bytes-clause-large
returns-in_err-bytes-clause-large c = λ e.
    let attributes = c.args.attributes.now in
    let same : c.within_limit.result ≡ Err fault.TooLarge = search rules in
    let more = sum_by_more (λ raw. 4 + length raw) attributes c.loop-raw.raw-index c.raw-item.result c.loop-raw-test.true in
    let part = sum_by-take-le (λ raw. 4 + length raw) attributes (c.loop-raw.raw-index + 1) in
    let own : length c.as_slice.result.now ≡ length (get_or attributes c.loop-raw.raw-index c.raw-item.result) = ap length (c.as_slice.ensures ∙ c.raw-item.is) in
    omega (arith, c.within_limit.ensures.large same, c.loop-raw.invariant.counted, more, part, own)

-- One more attribute is counted.
pub loop-raw-preserved : goal.loop-raw-preserved
loop-raw-preserved c =
    let attributes = c.args.attributes.now in
    let more = sum_by_more (λ raw. 4 + length raw) attributes c.loop-raw.raw-index c.raw-item.result c.loop-raw-test.true in
    let own : length c.as_slice.result.now ≡ length (get_or attributes c.loop-raw.raw-index c.raw-item.result) = ap length (c.as_slice.ensures ∙ c.raw-item.is) in
    record {
      counted = omega (arith, c.in_ok-bytes.ensures.sum, c.loop-raw.invariant.counted, more, own);
      small = c.in_ok-bytes.ensures.small;
    }

-- All attributes are counted.
pub returns-clause-size : goal.returns-clause-size
returns-clause-size c =
    let attributes = c.args.attributes.now in
    c.loop-raw.invariant.counted ∙ ap (λ l. 2 + sum_by (λ raw. 4 + length raw) l) (take_all c.loop-raw.raw-index attributes (omega arith))

pub returns-clause-small : goal.returns-clause-small
returns-clause-small c = c.loop-raw.invariant.small
