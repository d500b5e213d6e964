-- The document that the events of a stream build, and when the stream is that document's.
use Rattle.std.proofs.Common.{◌≡◌, ℕ, zero, suc, ◌+◌, ◌<◌, Bool, true, false, cond, Option, Some, None, List, [], ◌∷◌, ◌++◌, length, take, refl, ap, sym, subst, ◌∙◌, arith, All}
use Rattle.std.specs.Option.{option_and_then}
use Rattle.std.proofs.lemmas.Option.{none-some, same_Some}
use Rattle.acl_model.specs.Dictionary.{dictionary, dictionary_section, is_dictionary}
use Rattle.acl_model.specs.Document.{is_document, height}
use Rattle.acl_model.specs.declared.document.Doc.{Doc}
use Rattle.acl_walk.specs.declared.event.Event.{Event}
use Rattle.acl_walk.specs.declared.event.Event.TheVariants.{End}
use Rattle.merkle_chunks.specs.declared.header.Header.{Header}
use Rattle.skip_decode.specs.Building.{Builder, built, built_on, document_of, fed, is_end, no_event}
use Rattle.skip_decode.specs.FileWalk.{numbers_in}
use Rattle.skip_decode.specs.Positions.{Numbers, Position, first_position}
use Rattle.skip_decode.specs.StreamEvents.{IsReadToEnd, and_then, events_by, events_left, run, numbers_of, stream_events}
use Rattle.skip_decode.specs.StreamOf.{IsStreamOf}
use Rattle.skip_decode.specs.StreamSteps.{Step, step_at, position_after}
use Rattle.skip_decode.specs.inside.Reading.{IsFormed, IsOfDictionary, document_read}
use Rattle.skip_decode.proofs.Built.{built-spelled}
use Rattle.skip_decode.proofs.Documents.{few_so}
use Rattle.skip_decode.proofs.ReadStreams.{one_spelling}
use Rattle.skip_decode.proofs.RootRuns.{stream_events-spell}
use Rattle.skip_decode.proofs.StreamForms.{names_there, numbers_are}
use Rattle.skip_decode.proofs.StreamReading.{ends-there, goes-on}

-- ---- events that build a document end with End

-- the events are these and then End
abbrev EndsWith : List Event → Type 0
EndsWith all = (events : List Event) × (all ≡ events ++ (End ∷ []))

-- the builder after an event that fits
fitting : (names : List (List ℕ)) (rest : List Event) (o : Option Builder) (d : Doc)
    → option_and_then (built_on names rest) o ≡ Some d → (b : Builder) × (built_on names rest b ≡ Some d)
fitting names rest None d is = absurd (none-some d is)
fitting names rest (Some b) d is = (b, is)

module _ (names : List (List ℕ)) (k : Numbers) (stream : List ℕ) (d : Doc) where
  -- the same of what builds a document with some builder
  abbrev EndsWhereBuilt : List Event → Type 0
  EndsWhereBuilt all = (builder : Builder) → built_on names all builder ≡ Some d → EndsWith all

  event-ends : (rest : List Event) → EndsWhereBuilt rest → (event : Event) (last : Bool) → is_end event ≡ last
      → EndsWhereBuilt (and_then event rest)
  event-ends rest on event true end builder is = ([], ends-there event rest end)
  event-ends rest on event false other builder is =
      let next : option_and_then (built_on names rest) (fed names event builder) ≡ Some d =
      sym (ap (λ l. built_on names l builder) (goes-on event rest other)
      ∙ ap (λ b. cond b (document_of builder) (option_and_then (built_on names rest) (fed names event builder))) other)
      ∙ is in
      let after = fitting names rest (fed names event builder) d next in
      let later = on after.0 after.1 in
      (event ∷ later.0, goes-on event rest other ∙ ap (λ l. event ∷ l) later.1)

  step-ends : (n : ℕ) → ((position : Position) → EndsWhereBuilt (run k stream n position)) → (position : Position)
      (o : Option Step) → EndsWhereBuilt (events_by (run k stream n) position o)
  step-ends n on position None builder is = absurd (none-some d is)
  step-ends n on position (Some step) builder is =
      event-ends (run k stream n (position_after position step)) (on (position_after position step)) step.event
      (is_end step.event) refl builder is

  run-ends : (n : ℕ) (position : Position) → EndsWhereBuilt (run k stream n position)
  unfolding run
  run-ends zero position builder is = absurd (none-some d is)
  run-ends (suc n) position builder is = step-ends n (run-ends n) position (step_at k stream position) builder is

  -- A stream whose events build a document is read to its end.
  pub read-ends : document_read names k stream ≡ Some d → (events : List Event) × IsReadToEnd k stream events
  read-ends is = run-ends (events_left k (first_position k) + 1) (first_position k) no_event is

-- ---- the document

-- The document that is read has the bytes and the header, if they and it pass the tests.
pub document-made : (stream : List ℕ) (header : Header) (names : List (List ℕ)) (d : Doc)
    → All (λ b. b < 256) stream → IsFormed stream header → is_dictionary names ≡ true → length names ≡ header.tags
    → dictionary_section names ≡ take header.dictionary stream
    → document_read names (numbers_in header) stream ≡ Some d → IsOfDictionary d names header.depth
    → IsStreamOf d stream header
document-made stream header names d fit formed good counted section read of =
    let few = formed.few in
    let within = formed.within in
    let named = formed.names in
    let ends = read-ends names (numbers_in header) stream d read in
    let one = one_spelling header names stream ends.0 good counted fit within (omega (arith, few, within)) (sym section)
    formed.filled ends.1 in
    let same : one.document ≡ d =
    same_Some one.document d
    (sym (built-spelled names (Some one.document) (ends.0 ++ (End ∷ [])) (omega (arith, counted, named)) one.spells)
    ∙ sym (ap (built names) ends.1) ∙ read) in
    let low = one.low in
    let high = of.deep in
    let tall = ap (λ (e : Doc). height e.root) same in
    subst (λ (e : Doc). IsStreamOf e stream header) same
    (one.made (ap is_document same ∙ of.document) (ap dictionary same ∙ of.names) (omega (arith, low, high, tall)))

-- A document that has the bytes and the header is the one that is read, and passes the tests.
module _ (d : Doc) (stream : List ℕ) (header : Header) (is : IsStreamOf d stream header) (names : List (List ℕ))
    (good : is_dictionary names ≡ true) (section : dictionary_section names ≡ take header.dictionary stream) where
  named : dictionary d ≡ names
  named = names_there d stream header is names good section

  pub document-there : document_read names (numbers_in header) stream ≡ Some d
  document-there =
      ap (λ ns. document_read ns (numbers_in header) stream) (sym named)
      ∙ ap (λ k. document_read (dictionary d) k stream) (sym (numbers_are d stream header is))
      ∙ ap (document_read (dictionary d) (numbers_of d)) is.bytes
      ∙ built-spelled (dictionary d) (Some d) (stream_events d) (few_so d is.within)
      (stream_events-spell d is.document is.within)

  pub document-of : IsOfDictionary d names header.depth
  document-of =
      let deep = is.depth in
      record { document = is.document; names = named; deep = omega (arith, deep) }

  pub names-counted : length names ≡ header.tags
  names-counted = sym (is.tags ∙ ap (λ (l : List (List ℕ)). length l) named)
