use Rattle.std.proofs.Common.{◌≤◌, sym, ◌∙◌, arith}
use Rattle.skip_decode.specs.Positions.{tree_end}
use Rattle.skip_decode.proofs.LevelLaws.{innermost-in_tree}
use Rattle.skip_decode.proofs.stepping.next_step.Goals as goal

pub step_inside-requires-clause-within : goal.step_inside-requires-clause-within
step_inside-requires-clause-within g c =
    let inside : c.in-Some.level.end ≤ tree_end c.args.numbers.now =
    innermost-in_tree c.args.numbers.now c.args.spot.now.levels c.in-Some.level c.requires.spot.nested (sym c.innermost.ensures ∙ c.in-Some.is) in
    omega (arith, inside, c.requires.within)
