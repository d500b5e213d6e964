use Rattle.std.proofs.Common.{ap, refl, sym, ◌∙◌}
use Rattle.skip_decode.specs.StreamEvents.{after_step}
use Rattle.skip_decode.specs.declared.memory.Memory.{Memory}
use Rattle.skip_decode.proofs.StreamReading.{step-falls, step-room, step-spot}
use Rattle.skip_decode.proofs.reading.next_event.Goals as goal

pub apply-requires : goal.apply-requires
apply-requires c =
    step-room c.args.numbers.now c.args.spot.now c.in-Ok.step c.requires.deep c.requires.spot c.in-Ok.ensures.moves

pub returns-in-Ok-clause-moved : goal.returns-in-Ok-clause-moved
returns-in-Ok-clause-moved c =
    let same = c.checked_step.ensures.went c.args.window.now.source refl in
    c.apply.ensures.position
    ∙ sym (ap (after_step c.args.spot.now)
    (c.in-Ok.ensures.step c.args.window.now.source.bytes.now (ap (λ (w : Memory). w.bytes.now) (sym same))))

pub returns-in-Ok-clause-spot : goal.returns-in-Ok-clause-spot
returns-in-Ok-clause-spot c =
    step-spot c.args.numbers.now c.args.spot.now c.apply.new.self c.in-Ok.step c.apply.result c.requires.spot
    c.in-Ok.ensures.moves c.apply.ensures.position c.apply.ensures.event

pub returns-in-Ok-clause-falls : goal.returns-in-Ok-clause-falls
returns-in-Ok-clause-falls c =
    step-falls c.args.numbers.now c.args.spot.now c.apply.new.self c.in-Ok.step c.apply.result c.requires.spot
    c.in-Ok.ensures.moves c.apply.ensures.position c.apply.ensures.event
