use Rattle.std.proofs.Common.{◌≡◌, Err, ap, sym, ◌∙◌, rules}
use Rattle.std.specs.Option.{option_map}
use Rattle.std.proofs.lemmas.Result.{IfOk-weaker}
use Rattle.skip_decode.specs.StreamEvents.{after_step}
use Rattle.skip_decode.specs.StreamSteps.{Step, step_at}
use Rattle.skip_decode.specs.declared.memory.Memory.{Memory}
use Rattle.tag_dictionary.specs.declared.fault.DictFault.TheVariants.{BadIndex}
use Rattle.skip_decode.proofs.StreamReading.{way-end, way-on, way-stuck, way-unfit}
use Rattle.skip_decode.proofs.reading.read_events.Goals as goal

pub returns-then-is_end-clause-document : goal.returns-then-is_end-clause-document
returns-then-is_end-clause-document c =
    let k = c.args.numbers.now in
    let old = c.loop-event.spot in
    let bytes = c.loop-event.invariant.bytes in
    let end = way-end c.args.names.now k c.args.stream.now old c.next_event.new.spot c.loop-event.builder
    c.in-Some.event
    (c.in-Some.ensures.event ∙ ap (λ s. option_map (λ (step : Step). step.event) (step_at k s old)) bytes)
    (c.in-Some.ensures.moved ∙ ap (λ s. after_step old (step_at k s old)) bytes)
    c.loop-event.invariant.way (sym c.is_end.ensures ∙ c.if-is_end.true) in
    IfOk-weaker c.finish.result _ _ (λ r is. end ∙ is) c.finish.ensures.document

pub returns-then-is_end-clause-bad : goal.returns-then-is_end-clause-bad
returns-then-is_end-clause-bad c = λ bad.
    let k = c.args.numbers.now in
    let old = c.loop-event.spot in
    let bytes = c.loop-event.invariant.bytes in
    way-end c.args.names.now k c.args.stream.now old c.next_event.new.spot c.loop-event.builder
    c.in-Some.event
    (c.in-Some.ensures.event ∙ ap (λ s. option_map (λ (step : Step). step.event) (step_at k s old)) bytes)
    (c.in-Some.ensures.moved ∙ ap (λ s. after_step old (step_at k s old)) bytes)
    c.loop-event.invariant.way (sym c.is_end.ensures ∙ c.if-is_end.true)
    ∙ c.finish.ensures.bad bad

pub loop-event-preserved : goal.loop-event-preserved
loop-event-preserved c =
    let k = c.args.numbers.now in
    let old = c.loop-event.spot in
    let bytes = c.loop-event.invariant.bytes in
    record {
      bytes = ap (λ (w : Memory). w.bytes.now) c.in-Some.ensures.source ∙ bytes;
      held = c.in-Some.ensures.held;
      spot = c.in-Some.ensures.spot;
      way = way-on c.args.names.now k c.args.stream.now old c.next_event.new.spot c.loop-event.builder
          c.in-Some.event
          (c.in-Some.ensures.event ∙ ap (λ s. option_map (λ (step : Step). step.event) (step_at k s old)) bytes)
          (c.in-Some.ensures.moved ∙ ap (λ s. after_step old (step_at k s old)) bytes)
          c.feed.new.self c.loop-event.invariant.way (sym c.is_end.ensures ∙ c.if-is_end.false)
          c.in-Some.ensures.falls c.in_ok-feed.ensures.fed;
    }

pub returns-in_err-feed-clause-bad : goal.returns-in_err-feed-clause-bad
returns-in_err-feed-clause-bad c = λ bad.
    let same : c.feed.result ≡ Err BadIndex = search rules in
    let k = c.args.numbers.now in
    let old = c.loop-event.spot in
    let bytes = c.loop-event.invariant.bytes in
    way-unfit c.args.names.now k c.args.stream.now old c.next_event.new.spot c.loop-event.builder
    c.in-Some.event
    (c.in-Some.ensures.event ∙ ap (λ s. option_map (λ (step : Step). step.event) (step_at k s old)) bytes)
    (c.in-Some.ensures.moved ∙ ap (λ s. after_step old (step_at k s old)) bytes)
    c.loop-event.invariant.way (sym c.is_end.ensures ∙ c.if-is_end.false) (c.feed.ensures.bad same)

pub returns-clause-bad : goal.returns-clause-bad
returns-clause-bad c = λ bad.
    let k = c.args.numbers.now in
    let old = c.loop-event.spot in
    way-stuck c.args.names.now k c.args.stream.now old c.next_event.new.spot c.loop-event.builder
    c.loop-event.invariant.way
    (sym (sym c.in_default.is ∙ c.next_event.ensures.event
    ∙ ap (λ s. option_map (λ (step : Step). step.event) (step_at k s old)) c.loop-event.invariant.bytes))
