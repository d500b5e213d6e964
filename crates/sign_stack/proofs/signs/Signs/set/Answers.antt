-- Writing over a level gives with_level.
use Rattle.std.proofs.Common.{ap, ◌∙◌, arith}
use Rattle.sign_stack.specs.SignLevels.{SignStack, with_level}
use Rattle.sign_stack.proofs.LevelSteps.{with_level-set}
use Rattle.sign_stack.proofs.signs.Signs.set.Goals as goal

pub returns-then-place-len : goal.returns-then-place-len
returns-then-place-len c =
    let own = c.self.inside in
    ap (λ levels. record { grants = own.grants; denies = own.denies; depth = own.depth; levels = levels })
    (with_level-set own.levels.items c.args.level (record { sure = c.args.sure; may = c.args.may }) c.requires.from_one (omega (arith, c.len.ensures)))
    ∙ ap (λ (s : SignStack). record s { levels = with_level s.levels c.args.level (record { sure = c.args.sure; may = c.args.may }) }) c.self.view_is
