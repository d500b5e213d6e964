use Rattle.std.proofs.Common.{◌≡◌, Some, ap, refl, sym, ◌∙◌, subst}
use Rattle.std.proofs.lemmas.Option.{none-some}
use Rattle.acl_model.specs.Stream.{plain}
use Rattle.fragment_open.specs.declared.head.Head.{Head}
use Rattle.skip_decode.specs.CheckedStream.{store_moment}
use Rattle.skip_decode.specs.FileWalk.{FileFixed, moment_of, numbers_in, place_of}
use Rattle.skip_decode.specs.Positions.{Numbers, Position}
use Rattle.skip_decode.specs.StreamSteps.{step_at}
use Rattle.skip_decode.specs.inside.StoreLaws.{fetched-nowhere}
use Rattle.skip_decode.specs.inside.Moves.{IsMove}
use Rattle.skip_decode.proofs.FileSteps.{bad-index, kept-fault, none-so, plain-may_be, step-event, step-falls, step-follows, step-made, step-placed, step-room, step-stage, went-err, went-ok}
use Rattle.skip_decode.proofs.Touches.{read-nothing}
use Rattle.skip_decode.proofs.OpensSteps.{only-itself, opens-any, opens-err, opens-step}
use Rattle.skip_decode.proofs.StraightSteps.{straight-refused, straight-step}
use Rattle.skip_decode.proofs.walk.SkipWalkWalk.next.Goals as goal

pub invariant_of-self-in-Ok-1 : goal.invariant_of-self-in-Ok-1
invariant_of-self-in-Ok-1 g c =
    let old = c.args.self.now.window.source.opener in
    let new = c.checked_step.new.window.source.opener in
    let led = c.checked_step.ensures.went c.args.self.now.window.source (refl, fetched-nowhere old.head (store_moment (g.S.Store.served old.store.now) (g.S.Store.holds old.store.now) (g.S.Store.faults old.store.now) old.fault)) in
    record {
      held = c.checked_step.ensures.held;
      newest = λ quiet. (c.in-Ok.ensures.opens _ c.args.spot.now.place (read-nothing c.args.spot.now.place _ _ (c.args.self.now.newest quiet))).newest;
      counted = c.args.self.now.counted ∙ ap (λ (h : Head). h.header.tags) (sym led.1.head);
      named = c.args.self.now.named;
      quiet = λ none. c.in-Ok.ensures.refuses ∙ c.args.self.now.quiet none;
      read_by = c.args.self.now.read_by ∙ ap (λ (h : Head). numbers_in h.header) (sym led.1.head);
    }

pub returns-in-Ok-clause-same : goal.returns-in-Ok-clause-same
returns-in-Ok-clause-same g c =
    let old = c.args.self.now.window.source.opener in
    let new = c.checked_step.new.window.source.opener in
    let led = c.checked_step.ensures.went c.args.self.now.window.source (refl, fetched-nowhere old.head (store_moment (g.S.Store.served old.store.now) (g.S.Store.holds old.store.now) (g.S.Store.faults old.store.now) old.fault)) in
    ap (λ (h : Head). (moment_of h c.args.self.now.names (g.S.Store.served new.store.now) (g.S.Store.holds new.store.now) (g.S.Store.faults new.store.now) new.fault).fixed) led.1.head

pub apply-requires : goal.apply-requires
apply-requires g c =
    let fixed : FileFixed = (moment_of c.args.self.now.window.source.opener.head c.args.self.now.names (g.S.Store.served c.args.self.now.window.source.opener.store.now) (g.S.Store.holds c.args.self.now.window.source.opener.store.now) (g.S.Store.faults c.args.self.now.window.source.opener.store.now) c.args.self.now.fault).fixed in
    let move : IsMove (numbers_in fixed.header) c.args.spot.now c.in-Ok.step = subst (λ (n : Numbers). IsMove n c.args.spot.now c.in-Ok.step) c.args.self.now.read_by c.in-Ok.ensures.moves in
    step-room fixed c.args.spot.now c.requires.made c.in-Ok.step move

pub returns-in-Ok-clause-made : goal.returns-in-Ok-clause-made
returns-in-Ok-clause-made g c =
    let fixed : FileFixed = (moment_of c.args.self.now.window.source.opener.head c.args.self.now.names (g.S.Store.served c.args.self.now.window.source.opener.store.now) (g.S.Store.holds c.args.self.now.window.source.opener.store.now) (g.S.Store.faults c.args.self.now.window.source.opener.store.now) c.args.self.now.fault).fixed in
    let move : IsMove (numbers_in fixed.header) c.args.spot.now c.in-Ok.step = subst (λ (n : Numbers). IsMove n c.args.spot.now c.in-Ok.step) c.args.self.now.read_by c.in-Ok.ensures.moves in
    step-made fixed c.args.spot.now c.requires.made c.in-Ok.step move c.apply.new.self c.apply.ensures.position c.apply.result c.apply.ensures.event

pub returns-in-Ok-clause-placed : goal.returns-in-Ok-clause-placed
returns-in-Ok-clause-placed g c = λ d origin sound.
    let fixed : FileFixed = (moment_of c.args.self.now.window.source.opener.head c.args.self.now.names (g.S.Store.served c.args.self.now.window.source.opener.store.now) (g.S.Store.holds c.args.self.now.window.source.opener.store.now) (g.S.Store.faults c.args.self.now.window.source.opener.store.now) c.args.self.now.fault).fixed in
    let old = c.args.self.now.window.source.opener in
    let new = c.checked_step.new.window.source.opener in
    let led = c.checked_step.ensures.went c.args.self.now.window.source (refl, fetched-nowhere old.head (store_moment (g.S.Store.served old.store.now) (g.S.Store.holds old.store.now) (g.S.Store.faults old.store.now) old.fault)) in
    let quiet = none-so c.args.self.now.fault c.in_default.not-Some in
    let place = c.requires.placed quiet d origin (led.1.was_sound d sound) in
    let may_be = plain-may_be old.head new.head c.args.self.now.names (store_moment (g.S.Store.served old.store.now) (g.S.Store.holds old.store.now) (g.S.Store.faults old.store.now) old.fault) (store_moment (g.S.Store.served new.store.now) (g.S.Store.holds new.store.now) (g.S.Store.faults new.store.now) new.fault) led.1 d c.args.self.now.fault origin sound in
    let found : step_at (numbers_in fixed.header) (plain d) c.args.spot.now ≡ Some c.in-Ok.step =
    subst (λ (n : Numbers). step_at n (plain d) c.args.spot.now ≡ Some c.in-Ok.step) c.args.self.now.read_by (c.in-Ok.ensures.step (plain d) may_be) in
    step-placed fixed c.args.spot.now c.in-Ok.step c.apply.new.self c.apply.ensures.position c.apply.result c.apply.ensures.event d origin place found

pub returns-in-Ok-clause-event : goal.returns-in-Ok-clause-event
returns-in-Ok-clause-event g c = λ d origin sound.
    let fixed : FileFixed = (moment_of c.args.self.now.window.source.opener.head c.args.self.now.names (g.S.Store.served c.args.self.now.window.source.opener.store.now) (g.S.Store.holds c.args.self.now.window.source.opener.store.now) (g.S.Store.faults c.args.self.now.window.source.opener.store.now) c.args.self.now.fault).fixed in
    let old = c.args.self.now.window.source.opener in
    let new = c.checked_step.new.window.source.opener in
    let led = c.checked_step.ensures.went c.args.self.now.window.source (refl, fetched-nowhere old.head (store_moment (g.S.Store.served old.store.now) (g.S.Store.holds old.store.now) (g.S.Store.faults old.store.now) old.fault)) in
    let quiet = none-so c.args.self.now.fault c.in_default.not-Some in
    let place = c.requires.placed quiet d origin (led.1.was_sound d sound) in
    let may_be = plain-may_be old.head new.head c.args.self.now.names (store_moment (g.S.Store.served old.store.now) (g.S.Store.holds old.store.now) (g.S.Store.faults old.store.now) old.fault) (store_moment (g.S.Store.served new.store.now) (g.S.Store.holds new.store.now) (g.S.Store.faults new.store.now) new.fault) led.1 d c.args.self.now.fault origin sound in
    let found : step_at (numbers_in fixed.header) (plain d) c.args.spot.now ≡ Some c.in-Ok.step =
    subst (λ (n : Numbers). step_at n (plain d) c.args.spot.now ≡ Some c.in-Ok.step) c.args.self.now.read_by (c.in-Ok.ensures.step (plain d) may_be) in
    step-event fixed c.args.spot.now c.in-Ok.step c.apply.new.self c.apply.ensures.position c.apply.result c.apply.ensures.event d origin place found

pub returns-in-Ok-clause-nests : goal.returns-in-Ok-clause-nests
returns-in-Ok-clause-nests g c =
    let fixed : FileFixed = (moment_of c.args.self.now.window.source.opener.head c.args.self.now.names (g.S.Store.served c.args.self.now.window.source.opener.store.now) (g.S.Store.holds c.args.self.now.window.source.opener.store.now) (g.S.Store.faults c.args.self.now.window.source.opener.store.now) c.args.self.now.fault).fixed in
    let move : IsMove (numbers_in fixed.header) c.args.spot.now c.in-Ok.step = subst (λ (n : Numbers). IsMove n c.args.spot.now c.in-Ok.step) c.args.self.now.read_by c.in-Ok.ensures.moves in
    step-follows fixed c.args.spot.now c.requires.made c.in-Ok.step move c.apply.new.self c.apply.ensures.position c.apply.result c.apply.ensures.event

pub returns-in-Ok-clause-stage : goal.returns-in-Ok-clause-stage
returns-in-Ok-clause-stage g c =
    let fixed : FileFixed = (moment_of c.args.self.now.window.source.opener.head c.args.self.now.names (g.S.Store.served c.args.self.now.window.source.opener.store.now) (g.S.Store.holds c.args.self.now.window.source.opener.store.now) (g.S.Store.faults c.args.self.now.window.source.opener.store.now) c.args.self.now.fault).fixed in
    let move : IsMove (numbers_in fixed.header) c.args.spot.now c.in-Ok.step = subst (λ (n : Numbers). IsMove n c.args.spot.now c.in-Ok.step) c.args.self.now.read_by c.in-Ok.ensures.moves in
    step-stage fixed c.args.spot.now c.requires.made c.in-Ok.step move c.apply.new.self c.apply.ensures.position c.apply.result c.apply.ensures.event

pub returns-in-Ok-clause-falls : goal.returns-in-Ok-clause-falls
returns-in-Ok-clause-falls g c =
    let fixed : FileFixed = (moment_of c.args.self.now.window.source.opener.head c.args.self.now.names (g.S.Store.served c.args.self.now.window.source.opener.store.now) (g.S.Store.holds c.args.self.now.window.source.opener.store.now) (g.S.Store.faults c.args.self.now.window.source.opener.store.now) c.args.self.now.fault).fixed in
    let move : IsMove (numbers_in fixed.header) c.args.spot.now c.in-Ok.step = subst (λ (n : Numbers). IsMove n c.args.spot.now c.in-Ok.step) c.args.self.now.read_by c.in-Ok.ensures.moves in
    step-falls fixed c.args.spot.now c.requires.made c.in-Ok.step move c.apply.new.self c.apply.ensures.position c.apply.result c.apply.ensures.event

pub returns-in-Ok-clause-went_all : goal.returns-in-Ok-clause-went_all
returns-in-Ok-clause-went_all g c = λ o.
    let old = c.args.self.now.window.source.opener in
    let new = c.checked_step.new.window.source.opener in
    let led = c.checked_step.ensures.went c.args.self.now.window.source (refl, fetched-nowhere old.head (store_moment (g.S.Store.served old.store.now) (g.S.Store.holds old.store.now) (g.S.Store.faults old.store.now) old.fault)) in
    let quiet = none-so c.args.self.now.fault c.in_default.not-Some in (
      led.0,
      went-ok old.head new.head c.args.self.now.names (store_moment (g.S.Store.served old.store.now) (g.S.Store.holds old.store.now) (g.S.Store.faults old.store.now) old.fault) (store_moment (g.S.Store.served new.store.now) (g.S.Store.holds new.store.now) (g.S.Store.faults new.store.now) new.fault) led.1 c.args.self.now.fault quiet (c.args.self.now.quiet quiet) c.in-Ok.ensures.refuses,
      opens-any (moment_of old.head c.args.self.now.names (g.S.Store.served old.store.now) (g.S.Store.holds old.store.now) (g.S.Store.faults old.store.now) c.args.self.now.fault) (moment_of new.head c.args.self.now.names (g.S.Store.served new.store.now) (g.S.Store.holds new.store.now) (g.S.Store.faults new.store.now) c.args.self.now.fault) o _ (λ d.
          opens-step (moment_of old.head c.args.self.now.names (g.S.Store.served old.store.now) (g.S.Store.holds old.store.now) (g.S.Store.faults old.store.now) c.args.self.now.fault) (moment_of new.head c.args.self.now.names (g.S.Store.served new.store.now) (g.S.Store.holds new.store.now) (g.S.Store.faults new.store.now) c.args.self.now.fault) c.args.spot.now c.in-Ok.step _ d _ (ap (λ (h : Head). (moment_of h c.args.self.now.names (g.S.Store.served new.store.now) (g.S.Store.holds new.store.now) (g.S.Store.faults new.store.now) c.args.self.now.fault).fixed) led.1.head)
          (λ origin sound. (
            c.requires.placed quiet d origin (led.1.was_sound d sound),
            subst (λ (n : Numbers). step_at n (plain d) c.args.spot.now ≡ Some c.in-Ok.step) c.args.self.now.read_by
                (c.in-Ok.ensures.step (plain d) (plain-may_be old.head new.head c.args.self.now.names (store_moment (g.S.Store.served old.store.now) (g.S.Store.holds old.store.now) (g.S.Store.faults old.store.now) old.fault) (store_moment (g.S.Store.served new.store.now) (g.S.Store.holds new.store.now) (g.S.Store.faults new.store.now) new.fault) led.1 d c.args.self.now.fault origin sound)),
          ))
          (λ origin. refl)
          (c.in-Ok.ensures.opens _ c.args.spot.now.place (read-nothing c.args.spot.now.place _ _ (c.args.self.now.newest quiet)))),
    )

pub returns-in-Ok-clause-went_here : goal.returns-in-Ok-clause-went_here
returns-in-Ok-clause-went_here g c = λ e from.
    let old = c.args.self.now.window.source.opener in
    let new = c.checked_step.new.window.source.opener in
    let led = c.checked_step.ensures.went c.args.self.now.window.source (refl, fetched-nowhere old.head (store_moment (g.S.Store.served old.store.now) (g.S.Store.holds old.store.now) (g.S.Store.faults old.store.now) old.fault)) in
    let quiet = none-so c.args.self.now.fault c.in_default.not-Some in (
      led.0,
      went-ok old.head new.head c.args.self.now.names (store_moment (g.S.Store.served old.store.now) (g.S.Store.holds old.store.now) (g.S.Store.faults old.store.now) old.fault) (store_moment (g.S.Store.served new.store.now) (g.S.Store.holds new.store.now) (g.S.Store.faults new.store.now) new.fault) led.1 c.args.self.now.fault quiet (c.args.self.now.quiet quiet) c.in-Ok.ensures.refuses,
      opens-step (moment_of old.head c.args.self.now.names (g.S.Store.served old.store.now) (g.S.Store.holds old.store.now) (g.S.Store.faults old.store.now) c.args.self.now.fault) (moment_of new.head c.args.self.now.names (g.S.Store.served new.store.now) (g.S.Store.holds new.store.now) (g.S.Store.faults new.store.now) c.args.self.now.fault) c.args.spot.now c.in-Ok.step _ e _ (ap (λ (h : Head). (moment_of h c.args.self.now.names (g.S.Store.served new.store.now) (g.S.Store.holds new.store.now) (g.S.Store.faults new.store.now) c.args.self.now.fault).fixed) led.1.head)
          (λ origin sound. (
            c.requires.placed quiet e origin (led.1.was_sound e sound),
            subst (λ (n : Numbers). step_at n (plain e) c.args.spot.now ≡ Some c.in-Ok.step) c.args.self.now.read_by
                (c.in-Ok.ensures.step (plain e) (plain-may_be old.head new.head c.args.self.now.names (store_moment (g.S.Store.served old.store.now) (g.S.Store.holds old.store.now) (g.S.Store.faults old.store.now) old.fault) (store_moment (g.S.Store.served new.store.now) (g.S.Store.holds new.store.now) (g.S.Store.faults new.store.now) new.fault) led.1 e c.args.self.now.fault origin sound)),
          ))
          (λ origin. only-itself (place_of e c.args.spot.now))
          (c.in-Ok.ensures.opens _ c.args.spot.now.place (read-nothing c.args.spot.now.place _ _ (c.args.self.now.newest quiet))),
    )

pub returns-in-Err-clause-went_all : goal.returns-in-Err-clause-went_all
returns-in-Err-clause-went_all g c = λ o.
    let old = c.args.self.now.window.source.opener in
    let new = c.checked_step.new.window.source.opener in
    let led = c.checked_step.ensures.went c.args.self.now.window.source (refl, fetched-nowhere old.head (store_moment (g.S.Store.served old.store.now) (g.S.Store.holds old.store.now) (g.S.Store.faults old.store.now) old.fault)) in
    let quiet = none-so c.args.self.now.fault c.in_default.not-Some in (
      led.0,
      went-err old.head new.head c.args.self.now.names (store_moment (g.S.Store.served old.store.now) (g.S.Store.holds old.store.now) (g.S.Store.faults old.store.now) old.fault) (store_moment (g.S.Store.served new.store.now) (g.S.Store.holds new.store.now) (g.S.Store.faults new.store.now) new.fault) led.1 c.args.self.now.fault c.in-Err.fault quiet (c.args.self.now.quiet quiet) c.in-Err.ensures.refuses
          (λ bad. bad-index old.head new.head c.args.self.now.names (store_moment (g.S.Store.served old.store.now) (g.S.Store.holds old.store.now) (g.S.Store.faults old.store.now) old.fault) (store_moment (g.S.Store.served new.store.now) (g.S.Store.holds new.store.now) (g.S.Store.faults new.store.now) new.fault) led.1 c.args.self.now.numbers c.args.spot.now c.args.self.now.fault
          c.args.self.now.read_by (c.requires.placed quiet) (c.checked_step.ensures.index (kept-fault c.checked_step.result c.in-Err.fault c.in-Err.is bad))),
      let names = c.args.self.now.names in
          let before =
          store_moment (g.S.Store.served old.store.now) (g.S.Store.holds old.store.now)
          (g.S.Store.faults old.store.now) old.fault in
          let after =
          store_moment (g.S.Store.served new.store.now) (g.S.Store.holds new.store.now)
          (g.S.Store.faults new.store.now) new.fault in
          let here = read-nothing c.args.spot.now.place _ _ (c.args.self.now.newest quiet) in
          let bound = c.in-Err.ensures.bound _ c.args.spot.now.place here in
          opens-any (moment_of old.head names before.served before.held before.faults c.args.self.now.fault)
          (moment_of new.head names after.served after.held after.faults (Some c.in-Err.fault)) o _ (λ d.
          opens-err old.head new.head names before after led.1 c.args.self.now.fault (Some c.in-Err.fault)
          c.args.self.now.numbers c.args.spot.now c.args.self.now.read_by (c.requires.placed quiet) bound d _
          (λ origin. refl)),
    )

pub returns-in-Err-clause-went_here : goal.returns-in-Err-clause-went_here
returns-in-Err-clause-went_here g c = λ e from.
    let old = c.args.self.now.window.source.opener in
    let new = c.checked_step.new.window.source.opener in
    let led = c.checked_step.ensures.went c.args.self.now.window.source (refl, fetched-nowhere old.head (store_moment (g.S.Store.served old.store.now) (g.S.Store.holds old.store.now) (g.S.Store.faults old.store.now) old.fault)) in
    let quiet = none-so c.args.self.now.fault c.in_default.not-Some in (
      led.0,
      went-err old.head new.head c.args.self.now.names (store_moment (g.S.Store.served old.store.now) (g.S.Store.holds old.store.now) (g.S.Store.faults old.store.now) old.fault) (store_moment (g.S.Store.served new.store.now) (g.S.Store.holds new.store.now) (g.S.Store.faults new.store.now) new.fault) led.1 c.args.self.now.fault c.in-Err.fault quiet (c.args.self.now.quiet quiet) c.in-Err.ensures.refuses
          (λ bad. bad-index old.head new.head c.args.self.now.names (store_moment (g.S.Store.served old.store.now) (g.S.Store.holds old.store.now) (g.S.Store.faults old.store.now) old.fault) (store_moment (g.S.Store.served new.store.now) (g.S.Store.holds new.store.now) (g.S.Store.faults new.store.now) new.fault) led.1 c.args.self.now.numbers c.args.spot.now c.args.self.now.fault
          c.args.self.now.read_by (c.requires.placed quiet) (c.checked_step.ensures.index (kept-fault c.checked_step.result c.in-Err.fault c.in-Err.is bad))),
      let names = c.args.self.now.names in
          let before =
          store_moment (g.S.Store.served old.store.now) (g.S.Store.holds old.store.now)
          (g.S.Store.faults old.store.now) old.fault in
          let after =
          store_moment (g.S.Store.served new.store.now) (g.S.Store.holds new.store.now)
          (g.S.Store.faults new.store.now) new.fault in
          let here = read-nothing c.args.spot.now.place _ _ (c.args.self.now.newest quiet) in
          let bound = c.in-Err.ensures.bound _ c.args.spot.now.place here in
          opens-err old.head new.head names before after led.1 c.args.self.now.fault (Some c.in-Err.fault)
          c.args.self.now.numbers c.args.spot.now c.args.self.now.read_by (c.requires.placed quiet) bound e _
          (λ origin. only-itself (place_of e c.args.spot.now)),
    )

pub returns-in-Ok-clause-ahead : goal.returns-in-Ok-clause-ahead
returns-in-Ok-clause-ahead g c =
    let quiet = none-so c.args.self.now.fault c.in_default.not-Some in
    let read = c.in-Ok.ensures.opens _ c.args.spot.now.place (read-nothing c.args.spot.now.place _ _ (c.args.self.now.newest quiet)) in
    straight-step _ _ _ c.in-Ok.step.place (ap (λ (p : Position). p.place) c.apply.ensures.position) quiet read

pub returns-in-Err-clause-ahead : goal.returns-in-Err-clause-ahead
returns-in-Err-clause-ahead g c =
    let quiet = none-so c.args.self.now.fault c.in_default.not-Some in
    let read = c.in-Err.ensures.some _ c.args.spot.now.place (read-nothing c.args.spot.now.place _ _ (c.args.self.now.newest quiet)) in
    straight-refused _ _ quiet (λ none. none-some _ (sym none)) read
