use Rattle.std.proofs.Common.{refl, ◌≤◌, sym, subst}
use Rattle.acl_walk.specs.SpotMoves.{PassesTo}
use Rattle.skip_decode.specs.FileWalk.{FileFixed, IsFilePlace, IsFileSpot, moment_of, place_of}
use Rattle.skip_decode.specs.Positions.{Position}
use Rattle.skip_decode.specs.Spots.{stage_of}
use Rattle.skip_decode.specs.StreamEvents.{stream_events}
use Rattle.skip_decode.proofs.FileWalkLaws.{file-pass, file-passed}
use Rattle.skip_decode.specs.inside.StraightLaws.{straight-still}
use Rattle.skip_decode.proofs.StraightSteps.{pass-rises}
use Rattle.skip_decode.proofs.walk.SkipWalkWalk.pass.Goals as goal

pub returns-clause-made : goal.returns-clause-made
returns-clause-made g c =
    let fixed : FileFixed = (moment_of c.args.self.now.window.source.opener.head c.args.self.now.names (g.S.Store.served c.args.self.now.window.source.opener.store.now) (g.S.Store.holds c.args.self.now.window.source.opener.store.now) (g.S.Store.faults c.args.self.now.window.source.opener.store.now) c.args.self.now.fault).fixed in
    subst (IsFileSpot fixed) (sym c.pass.ensures) (file-passed fixed c.args.spot.now c.requires.made)

pub returns-clause-placed : goal.returns-clause-placed
returns-clause-placed g c = λ quiet d origin sound.
    let fixed : FileFixed = (moment_of c.args.self.now.window.source.opener.head c.args.self.now.names (g.S.Store.served c.args.self.now.window.source.opener.store.now) (g.S.Store.holds c.args.self.now.window.source.opener.store.now) (g.S.Store.faults c.args.self.now.window.source.opener.store.now) c.args.self.now.fault).fixed in
    subst (IsFilePlace d) (sym c.pass.ensures) (file-pass fixed d origin c.args.spot.now (c.requires.placed quiet d origin sound)).0

pub returns-clause-finish : goal.returns-clause-finish
returns-clause-finish g c = λ quiet d origin sound.
    let fixed : FileFixed = (moment_of c.args.self.now.window.source.opener.head c.args.self.now.names (g.S.Store.served c.args.self.now.window.source.opener.store.now) (g.S.Store.holds c.args.self.now.window.source.opener.store.now) (g.S.Store.faults c.args.self.now.window.source.opener.store.now) c.args.self.now.fault).fixed in
    subst (λ (p : Position). PassesTo (stage_of c.args.spot.now).tags (stream_events d) (place_of d c.args.spot.now) (place_of d p)) (sym c.pass.ensures)
    (file-pass fixed d origin c.args.spot.now (c.requires.placed quiet d origin sound)).1

pub returns-clause-ahead : goal.returns-clause-ahead
returns-clause-ahead g c = straight-still _ _ refl refl (λ quiet.
    let rises = pass-rises _ c.args.spot.now c.requires.made.spot in
    subst (λ (p : Position). c.args.spot.now.place ≤ p.place) (sym c.pass.ensures) rises)
