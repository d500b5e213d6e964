use Rattle.std.proofs.Common.{◌≡◌, ap, sym, ◌∙◌, subst}
use Rattle.skip_decode.specs.FileWalk.{FileFixed, IsFilePlace, IsFileSpot, moment_of, numbers_in}
use Rattle.skip_decode.specs.Positions.{first_position}
use Rattle.skip_decode.proofs.FileWalkLaws.{file-first, file-new}
use Rattle.skip_decode.proofs.walk.SkipWalkWalk.new_spot.Goals as goal

pub returns-clause-made : goal.returns-clause-made
returns-clause-made g c =
    let fixed : FileFixed = (moment_of c.args.self.now.window.source.opener.head c.args.self.now.names (g.S.Store.served c.args.self.now.window.source.opener.store.now) (g.S.Store.holds c.args.self.now.window.source.opener.store.now) (g.S.Store.faults c.args.self.now.window.source.opener.store.now) c.args.self.now.fault).fixed in
    let is : c.in_ok-spot.spot ≡ first_position (numbers_in fixed.header) = c.in_ok-spot.ensures ∙ ap first_position c.args.self.now.read_by in
    subst (IsFileSpot fixed) (sym is) (file-new fixed c.args.self.now.window.source.opener.head.range c.args.self.now.named c.args.self.now.counted)

pub returns-clause-placed : goal.returns-clause-placed
returns-clause-placed g c = λ d origin sound.
    let fixed : FileFixed = (moment_of c.args.self.now.window.source.opener.head c.args.self.now.names (g.S.Store.served c.args.self.now.window.source.opener.store.now) (g.S.Store.holds c.args.self.now.window.source.opener.store.now) (g.S.Store.faults c.args.self.now.window.source.opener.store.now) c.args.self.now.fault).fixed in
    let is : c.in_ok-spot.spot ≡ first_position (numbers_in fixed.header) = c.in_ok-spot.ensures ∙ ap first_position c.args.self.now.read_by in
    subst (IsFilePlace d) (sym is) (file-first fixed d origin).0
