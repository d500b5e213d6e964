-- How a walk over a file goes on by a step, and between two moments.
use Rattle.std.proofs.Common.{◌≡◌, ℕ, ◌<◌, Bool, true, false, Option, Some, None, List, length, refl, ap, sym, ◌∙◌, subst, arith, ◌||◌, ◌⊎◌, inl, inr}
use Rattle.std.specs.Prelude.{Result, Err}
use Rattle.std.proofs.lemmas.Option.{none-some, same_Some}
use Rattle.acl_model.specs.Stream.{plain}
use Rattle.acl_model.specs.declared.document.Doc.{Doc}
use Rattle.acl_outside.specs.Outside.{StoreRead}
use Rattle.acl_outside.specs.declared.read_fault.ReadFault.{ReadFault}
use Rattle.acl_outside.specs.declared.read_fault.ReadFault.TheVariants.{BadIndex}
use Rattle.acl_walk.specs.Nesting.{MayFollow, stage_after}
use Rattle.acl_walk.specs.SpotMoves.{Falls, StandsAt}
use Rattle.acl_walk.specs.declared.event.Event.{Event}
use Rattle.fragment_open.specs.Settled.{IsQuiet}
use Rattle.fragment_open.specs.Sound.{agrees_with, sound_for, tells_file}
use Rattle.fragment_open.specs.declared.head.Head.{Head}
use Rattle.skip_decode.specs.CheckedStream.{Fetched, IsSoundStream, store_moment}
use Rattle.skip_decode.specs.FileWalk.{FileFixed, FileWent, IsFileOrigin, IsFilePlace, IsFileSpot, moment_of, numbers_in, place_of}
use Rattle.skip_decode.specs.Fragments.{ForEach}
use Rattle.skip_decode.specs.Positions.{Numbers, Position}
use Rattle.skip_decode.specs.Spots.{stage_of}
use Rattle.skip_decode.specs.StoreWent.{StoreMoment, StoreWent}
use Rattle.skip_decode.specs.StreamEvents.{events_left, stream_events}
use Rattle.skip_decode.specs.StreamSteps.{Change, Stay, Open, Close, Step, levels_after, position_after, step_at}
use Rattle.skip_decode.specs.declared.position.Level.{Level}
use Rattle.skip_decode.specs.inside.LevelsInMemory.{HasRoom}
use Rattle.skip_decode.specs.inside.Moves.{IsMove}
use Rattle.skip_decode.proofs.FileWalkLaws.{file-after, file-event, file-some_step}
use Rattle.skip_decode.proofs.LevelLaws.{length-with_innermost}
use Rattle.skip_decode.proofs.SpotLaws.{spot-falls, spot-follows, spot-stage}

-- ---- a step, whatever the bytes are

-- there is room for the element that a step opens
room-by : (change : Change) (levels : List Level) → length (levels_after change levels) < 256 → HasRoom change levels
room-by Stay levels few = tt
room-by (Open parent child) levels few = omega (arith, few, length-with_innermost parent levels)
room-by Close levels few = tt

module _ (k : FileFixed) (s : Position) (made : IsFileSpot k s) (step : Step) (move : IsMove (numbers_in k.header) s step) where
  pub step-room : HasRoom step.change s.levels
  step-room =
      let few = (file-after k s step made move).spot.few_open in
      let low = made.range.low_depth in
      room-by step.change s.levels (omega (arith, low, few))

  module _ (new : Position) (moved : new ≡ position_after s step) (e : Event) (told : e ≡ step.event) where
    -- the spot after it
    pub step-made : IsFileSpot k new
    step-made = subst (IsFileSpot k) (sym moved) (file-after k s step made move)

    -- its event
    pub step-follows : MayFollow (length k.names) k.header.depth (stage_of s) e
    step-follows =
        subst (λ (x : Event). MayFollow (length k.names) k.header.depth (stage_of s) x) (sym told)
        (subst (λ (n : ℕ). MayFollow n k.header.depth (stage_of s) step.event) (sym made.count)
        (spot-follows (numbers_in k.header) s step made.spot move))

    -- the stage after it
    pub step-stage : stage_of new ≡ stage_after (stage_of s) e
    step-stage =
        ap stage_of moved ∙ spot-stage (numbers_in k.header) s step made.spot move ∙ ap (stage_after (stage_of s)) (sym told)

    -- the bound on the events to come
    pub step-falls : Falls e (events_left (numbers_in k.header) s) (events_left (numbers_in k.header) new)
    step-falls =
        subst (λ (x : Event). Falls x (events_left (numbers_in k.header) s) (events_left (numbers_in k.header) new)) (sym told)
        (subst (λ (p : Position). Falls step.event (events_left (numbers_in k.header) s) (events_left (numbers_in k.header) p)) (sym moved)
        (spot-falls (numbers_in k.header) s step made.spot move))

-- a step of an origin's stream
module _ (k : FileFixed) (s : Position) (step : Step) (new : Position) (moved : new ≡ position_after s step) (e : Event) (told : e ≡ step.event)
    (d : Doc) (origin : IsFileOrigin k d) (place : IsFilePlace d s) (found : step_at (numbers_in k.header) (plain d) s ≡ Some step) where
  pub step-placed : IsFilePlace d new
  step-placed = subst (IsFilePlace d) (sym moved) (file-event k d origin s step place found).1

  pub step-event : StandsAt (stream_events d) (place_of d s) e (place_of d new)
  step-event =
      subst (λ (x : Event). StandsAt (stream_events d) (place_of d s) x (place_of d new)) (sym told)
      (subst (λ (p : Position). StandsAt (stream_events d) (place_of d s) step.event (place_of d p)) (sym moved) (file-event k d origin s step place found).0)

-- ---- between two moments

pub is_false : (b : Bool) → (b ≡ true → ⊥) → b ≡ false
is_false true never = absurd (never refl)
is_false false never = refl

-- what a store shows where its reader answers BadIndex without a refusal of the opener
bad-reads : (w v : StoreMoment) → StoreWent (store_moment w.served w.held w.faults None) (store_moment v.served v.held v.faults None)
    → StoreWent (store_moment w.served w.held w.faults None) (store_moment v.served v.held v.faults (Some BadIndex))
bad-reads w v reads = record {
  held_is = reads.held_is;
  grows = reads.grows;
  stays = λ fault is. absurd (none-some fault is);
  silent = λ fault is. absurd (none-some fault is);
  silent_faults = λ fault is. absurd (none-some fault is);
  never_falls = reads.never_falls;
  quiet = reads.quiet;
  regular = reads.regular;
  whole = λ are. λ long. reads.whole are refl;
  folds = reads.folds;
  cause = λ none. tt;
}

-- where the file is held that a document has, a walk is sound for it
pub held-sound : (served : Option (List StoreRead)) (held : Option (List ℕ)) (d : Doc) (key : List ℕ) → tells_file held d key ≡ true → sound_for served held d key ≡ true
held-sound served held d key told = ap (λ b. agrees_with served d key || b) told ∙ or-true (agrees_with served d key)
  where
    or-true : (b : Bool) → (b || true) ≡ true
    or-true true = refl
    or-true false = refl

module _ (old new : Head) (names : List (List ℕ)) (w v : StoreMoment) (fetched : Fetched old new w v) where
  -- a document for which it is sound was an origin, if it is one
  pub was-origin : (d : Doc) (f g : Option ReadFault) → IsFileOrigin (moment_of new names v.served v.held v.faults g).fixed d → IsFileOrigin (moment_of old names w.served w.held w.faults f).fixed d
  was-origin d f g origin = subst (λ (h : Head). IsFileOrigin (moment_of h names w.served w.held w.faults f).fixed d) fetched.head origin

  -- a stream that it may be reading
  pub plain-may_be : (d : Doc) (f : Option ReadFault) → IsFileOrigin (moment_of old names w.served w.held w.faults f).fixed d → sound_for v.served v.held d new.key ≡ true
      → IsSoundStream v.served v.held new.header new.top new.key (plain d)
  plain-may_be d f origin sound =
      let now : IsFileOrigin (moment_of new names v.served v.held v.faults f).fixed d = subst (λ (h : Head). IsFileOrigin (moment_of h names v.served v.held v.faults f).fixed d) (sym fetched.head) origin in
      record { document = d; origin = now.0; sound = sound; stream_is = refl }

  -- only fetches, and a refusal that came
  went-on : (f g : Option ReadFault) → StoreWent (store_moment w.served w.held w.faults f) (store_moment v.served v.held v.faults g)
      → (f ≡ None → g ≡ Some BadIndex → (d : Doc) → IsFileOrigin (moment_of old names w.served w.held w.faults f).fixed d → sound_for v.served v.held d new.key ≡ true → ⊥)
      → ((d : Doc) → IsFileOrigin (moment_of new names v.served v.held v.faults g).fixed d → tells_file v.held d new.key ≡ true → f ≡ None → IsQuiet g)
      → FileWent (moment_of old names w.served w.held w.faults f) (moment_of new names v.served v.held v.faults g)
  went-on f g reads bad held = record {
    same = ap (λ (h : Head). (moment_of h names v.served v.held v.faults g).fixed) fetched.head;
    was_sound = fetched.was_sound;
    bad_index = λ quiet is d origin. is_false (sound_for v.served v.held d new.key) (bad quiet is d (was-origin d f g origin));
    reads = reads;
    held = held;
  }

  -- with these refusals
  reads-with : (f g : Option ReadFault) → w.fault ≡ f → v.fault ≡ g → StoreWent (store_moment w.served w.held w.faults f) (store_moment v.served v.held v.faults g)
  reads-with f g before after =
      subst (λ (o : Option ReadFault). StoreWent (store_moment w.served w.held w.faults o) (store_moment v.served v.held v.faults g)) before
      (subst (λ (o : Option ReadFault). StoreWent w (store_moment v.served v.held v.faults o)) after fetched.reads)

  -- nothing was refused
  pub went-ok : (f : Option ReadFault) → f ≡ None → w.fault ≡ None → v.fault ≡ w.fault → FileWent (moment_of old names w.served w.held w.faults f) (moment_of new names v.served v.held v.faults f)
  went-ok f none quiet still =
      went-on f f (reads-with f f (quiet ∙ sym none) (still ∙ (quiet ∙ sym none)))
      (λ is bad d origin sound. none-some BadIndex (sym is ∙ bad)) (λ d origin told is. subst IsQuiet (sym is) tt)

  -- a step was refused: by the opener, or as of no document's stream
  pub went-err : (f : Option ReadFault) (fault : ReadFault) → f ≡ None → w.fault ≡ None → (v.fault ≡ Some fault) ⊎ ((fault ≡ BadIndex) × (v.fault ≡ w.fault))
      → (Some fault ≡ Some BadIndex → (d : Doc) → IsFileOrigin (moment_of old names w.served w.held w.faults f).fixed d → sound_for v.served v.held d new.key ≡ true → ⊥)
      → FileWent (moment_of old names w.served w.held w.faults f) (moment_of new names v.served v.held v.faults (Some fault))
  went-err f fault none quiet (inl refused) bad =
      went-on f (Some fault) (reads-with f (Some fault) (quiet ∙ sym none) refused) (λ is. bad)
      (λ d origin told is. subst IsQuiet refused (fetched.held d origin.0 told quiet))
  went-err f fault none quiet (inr missed) bad =
      went-on f (Some fault)
      (subst (λ (o : Option ReadFault). StoreWent (store_moment w.served w.held w.faults o) (store_moment v.served v.held v.faults (Some fault))) (sym none)
      (subst (λ (x : ReadFault). StoreWent (store_moment w.served w.held w.faults None) (store_moment v.served v.held v.faults (Some x))) (sym missed.0)
      (bad-reads w v (reads-with None None quiet (missed.1 ∙ quiet))))) (λ is. bad)
      (λ d origin told is. absurd (bad (ap (λ (x : ReadFault). Some x) missed.0) d (was-origin d f (Some fault) origin) (held-sound v.served v.held d new.key told)))

  -- where no stream that it may be reading has a step, the walk is sound for no origin
  pub bad-index : (numbers : Numbers) (s : Position) (f : Option ReadFault) → numbers ≡ numbers_in old.header
      → ((d : Doc) → IsFileOrigin (moment_of old names w.served w.held w.faults f).fixed d → sound_for w.served w.held d old.key ≡ true → IsFilePlace d s)
      → ForEach (IsSoundStream v.served v.held new.header new.top new.key) (λ stream. step_at numbers stream s ≡ None)
      → (d : Doc) → IsFileOrigin (moment_of old names w.served w.held w.faults f).fixed d → sound_for v.served v.held d new.key ≡ true → ⊥
  bad-index numbers s f are placed none d origin sound =
      let place : IsFilePlace d s = placed d origin (fetched.was_sound d sound) in
      file-some_step (moment_of old names w.served w.held w.faults f).fixed d origin s place
      (subst (λ (n : Numbers). step_at n (plain d) s ≡ None) are (none (plain d) (plain-may_be d f origin sound)))

-- what is no value is none
pub none-so : {A : Type 0} (o : Option A) → ((x : A) → o ≡ Some x → ⊥) → o ≡ None
none-so None never = refl
none-so (Some x) never = absurd (never x refl)

-- a refusal that is kept is the result
pub kept-fault : {T : Type 0} (result : Result T ReadFault) (fault : ReadFault) → result ≡ Err fault → Some fault ≡ Some BadIndex → result ≡ Err BadIndex
kept-fault result fault is bad = is ∙ ap Err (same_Some fault BadIndex bad)
