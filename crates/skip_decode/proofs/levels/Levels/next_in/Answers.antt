use Rattle.std.proofs.Common.{◌≡◌, ◌<◌, length, ap, sym, ◌∙◌, arith}
use Rattle.std.proofs.lemmas.Bool.Decides.{nat_tests}
use Rattle.skip_decode.proofs.LevelLaws.{length-innermost_first, next-none, next-some}
use Rattle.skip_decode.proofs.levels.Levels.next_in.Goals as goal

pub returns-then-is_empty : goal.returns-then-is_empty
returns-then-is_empty c =
    let long : length c.args.self.now ≡ length c.self.inside.stack.items = ap length (sym c.self.view_is) ∙ length-innermost_first c.self.inside.stack.items in
    let kept = c.self.inside.stack.ok.0 in
    let none : length c.args.self.now ≡ 0 = grind (arith, nat_tests, c.if-is_empty.ensures, long, kept) in
    sym (next-none c.args.self.now c.args.next none)

pub returns-else-is_empty : goal.returns-else-is_empty
returns-else-is_empty c =
    let long : length c.args.self.now ≡ length c.self.inside.stack.items = ap length (sym c.self.view_is) ∙ length-innermost_first c.self.inside.stack.items in
    let kept = c.self.inside.stack.ok.0 in
    let some : 0 < length c.args.self.now = grind (arith, nat_tests, c.if-is_empty.ensures, long, kept) in
    sym (next-some c.args.self.now c.args.next some)
