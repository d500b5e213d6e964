use Rattle.std.proofs.Common.{[], sym, ◌∙◌, arith}
use Rattle.std.specs.Cmp.Lexicographic.{same_text}
use Rattle.std.proofs.lemmas.Bool.{not-false}
use Rattle.std.proofs.lemmas.List.{get_or_default, take_more_same}
use Rattle.skip_decode.proofs.decode.are_same.Goals as goal

pub loop-index-preserved : goal.loop-index-preserved
loop-index-preserved c =
    let i = c.loop-index.index in
    let one = c.index-some-index.result in
    let other = c.index-others-index.result in
    let within = c.loop-index-test.true in
    let both = c.if-some-others.false in
    let same = same_text c.as_slice.result.now c.as_slice-in-loop-index.result.now
    (sym (not-false _ (sym c.ne.ensures ∙ c.if-ne.false))) in
    take_more_same c.args.some.now c.args.others.now i [] (omega (arith, within)) (omega (arith, within, both))
    c.loop-index.invariant
    (get_or_default c.args.some.now i [] one (omega (arith, within)) ∙ sym c.index-some-index.is
    ∙ sym c.as_slice.ensures ∙ same ∙ c.as_slice-in-loop-index.ensures ∙ c.index-others-index.is
    ∙ get_or_default c.args.others.now i other [] (omega (arith, within, both)))
