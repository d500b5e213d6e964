use Rattle.std.proofs.Common.{◌≡◌, ◌≤◌, ◌+◌, ℕ, length, arith, drop, get_or, suc, ◌∷◌, refl, sym, ap, ◌∙◌, add-one}
use Rattle.std.proofs.Math.Seq.{drop-cons}
use Rattle.xpath_rules.specs.PathMachine.{path_or_place}
use Rattle.xpath_rules.proofs.Places.{too_many, refused_byte, taken_run, taken_lives, at_end}
use Rattle.xpath_rules.proofs.reading.path_of.Goals as goal

pub returns-then-at-ge-MOST_PATH_BYTES : goal.returns-then-at-ge-MOST_PATH_BYTES
returns-then-at-ge-MOST_PATH_BYTES c =
    too_many c.args.bytes.now c.args.user.now (drop c.loop-byte.byte-index c.args.bytes.now) c.loop-byte.at c.loop-byte.state
    (omega arith) (omega arith) c.loop-byte.invariant.few c.loop-byte.invariant.lives

pub returns-in_default : goal.returns-in_default
returns-in_default c =
    let cut = drop-cons c.args.bytes.now c.loop-byte.byte-index 0 (omega arith) in
    refused_byte c.args.bytes.now c.args.user.now (drop (suc c.loop-byte.byte-index) c.args.bytes.now) c.loop-byte.at c.loop-byte.state (get_or c.args.bytes.now c.loop-byte.byte-index 0)
    (sym c.in_ok-next.ensures ∙ c.in_default.is) c.loop-byte.invariant.few (rw cut at c.loop-byte.invariant.ran) (rw cut at c.loop-byte.invariant.lives)

pub loop-byte-preserved : goal.loop-byte-preserved
loop-byte-preserved c =
    let cut : drop c.loop-byte.byte-index c.args.bytes.now ≡ get_or c.args.bytes.now c.loop-byte.byte-index 0 ∷ drop (c.loop-byte.byte-index + 1) c.args.bytes.now = rw add-one (drop-cons c.args.bytes.now c.loop-byte.byte-index 0 (omega arith)) in
    let took = sym c.in_ok-next.ensures ∙ c.in-Some.is in
    record {
      ran = taken_run c.args.user.now (drop (c.loop-byte.byte-index + 1) c.args.bytes.now) c.loop-byte.state c.in-Some.next (get_or c.args.bytes.now c.loop-byte.byte-index 0) _ took (rw cut at c.loop-byte.invariant.ran);
      lives = taken_lives c.args.user.now (drop (c.loop-byte.byte-index + 1) c.args.bytes.now) c.loop-byte.state c.in-Some.next (get_or c.args.bytes.now c.loop-byte.byte-index 0) c.loop-byte.at _ took (rw cut at c.loop-byte.invariant.lives);
      counted = omega arith;
      few = omega arith;
    }

pub returns-in_default-2 : goal.returns-in_default-2
returns-in_default-2 c =
    let past : length c.args.bytes.now ≤ c.loop-byte.byte-index = omega arith in
    ap (λ o. path_or_place o c.loop-byte.at) (sym c.in_default-2.is ∙ c.in_ok-path.ensures)
    ∙ at_end c.args.bytes.now c.args.user.now c.loop-byte.at c.loop-byte.byte-index c.loop-byte.state past c.loop-byte.invariant.counted c.loop-byte.invariant.few (omega arith) c.loop-byte.invariant.ran c.loop-byte.invariant.lives

pub returns : goal.returns
returns c =
    let past : length c.args.bytes.now ≤ c.loop-byte.byte-index = omega arith in
    ap (λ o. path_or_place o c.loop-byte.at) (sym c.in-Some-2.is ∙ c.in_ok-path.ensures)
    ∙ at_end c.args.bytes.now c.args.user.now c.loop-byte.at c.loop-byte.byte-index c.loop-byte.state past c.loop-byte.invariant.counted c.loop-byte.invariant.few (omega arith) c.loop-byte.invariant.ran c.loop-byte.invariant.lives
