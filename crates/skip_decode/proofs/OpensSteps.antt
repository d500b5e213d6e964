-- A step opens only fragments that have a byte of its event.
use Rattle.std.proofs.Common.{◌≡◌, ℕ, zero, suc, ◌+◌, ◌-◌, ◌/◌, ◌<◌, ◌≤◌, true, false, cond, ◌||◌, nat_eq, Option, None, Some, List, [], ◌∷◌, length, drop, refl, ap, sym, ◌∙◌, subst, arith}
use Rattle.std.specs.Prelude.{IfSome}
use Rattle.std.specs.Option.{option_and_then, option_map}
use Rattle.std.specs.Cmp.Lexicographic.{pointwise}
use Rattle.std.proofs.lemmas.Bool.Decides.{nat_tests}
use Rattle.std.proofs.lemmas.Option.{same_Some}
use Rattle.acl_model.specs.Stream.{plain}
use Rattle.acl_model.specs.declared.document.Doc.{Doc}
use Rattle.acl_outside.specs.declared.read_fault.ReadFault.{ReadFault}
use Rattle.acl_walk.specs.Following.{Places, Only}
use Rattle.fragment_open.specs.Sound.{sound_for}
use Rattle.fragment_open.specs.declared.head.Head.{Head}
use Rattle.skip_decode.specs.FileWalk.{FileMoment, IsFileOrigin, IsFilePlace, is_sound_at}
use Rattle.skip_decode.specs.FileWalk.{moment_of, numbers_in, place_of}
use Rattle.skip_decode.specs.CheckedStream.{Fetched, IsSoundStream, opened_since}
use Rattle.skip_decode.specs.Fragments.{ForEach}
use Rattle.skip_decode.specs.OpensOf.{HasByteWithin, OpensFor, OpensOnlyTold, offset_of}
use Rattle.skip_decode.specs.Positions.{Numbers, Position}
use Rattle.skip_decode.specs.StoreWent.{StoreMoment}
use Rattle.skip_decode.specs.StreamEvents.{IsAt, StandsAtEvent, after_step, numbers_of, position_at}
use Rattle.skip_decode.specs.StreamSteps.{Step, checked_finish, finish_step, step_at, item_by, item_step}
use Rattle.skip_decode.specs.StreamHeads.{take_within}
use Rattle.skip_decode.specs.declared.position.Level.{Level}
use Rattle.skip_decode.specs.declared.position.Next.TheVariants.{Item, Finish}
use Rattle.skip_decode.specs.inside.Windows.{HasRead, HasReadWithin, fragments_over, touched}
use Rattle.skip_decode.proofs.FileSteps.{plain-may_be, was-origin}
use Rattle.skip_decode.proofs.FileWalkLaws.{file-some_step}
use Rattle.skip_decode.proofs.StepKinds.{cond_some}
use Rattle.skip_decode.proofs.StraightSteps.{behind-so, touched-so}

-- ---- byte offsets

-- positions of one event are at one byte offset
same-offset : (position read : Position) → IsAt position read → position.place ≡ read.place
same-offset position read (IsAt.same p) = refl
same-offset position read (IsAt.by_pass passed r up ends tags) = refl

-- at the end of an element a step leaves the byte offset
finish-offset : (level : Level) (place : ℕ) (o : Option Step) → o ≡ checked_finish level place → (position : Position) → position.place ≡ place
    → (after_step position o).place ≡ place
unfolding checked_finish
finish-offset level place None is position at = at
finish-offset level place (Some step) is position at =
    let found = cond_some (pointwise nat_eq level.met level.below) (finish_step level place) step (sym is) in
    sym (ap (λ (s : Step). s.place) found.1)

item-offset : (k : Numbers) (stream : List ℕ) (read : Level) (up : List Level)
    → step_at k stream (record { levels = read ∷ up; next = Item; place = read.end }) ≡ checked_finish read read.end
unfolding step_at item_step
item-offset k stream read up =
    let test : nat_eq read.end read.end ≡ true = grind (arith, nat_tests) in
    ap (λ b. cond b (checked_finish read read.end) (option_and_then (item_by k.depth stream (length up + 1) read read.end) (take_within (read.end - read.end) 1 (drop read.end stream)))) test

finished : (k : Numbers) (stream : List ℕ) (level : Level) (up : List Level) (place : ℕ) (step : Step)
    → step_at k stream (record { levels = level ∷ up; next = Finish; place = place }) ≡ Some step → place ≡ step.place
unfolding step_at
finished k stream level up place step is = ap (λ (s : Step). s.place) (same_Some (finish_step level place) step is)

-- the step at a position of an event leads to the byte offset of the next event
next-offset : (k : Numbers) (stream : List ℕ) (position read : Position) (step : Step) → IsAt position read → step_at k stream position ≡ Some step
    → (after_step read (step_at k stream read)).place ≡ step.place
next-offset k stream position read step (IsAt.same p) is = ap (λ o. (after_step p o).place) is
next-offset k stream position read step (IsAt.by_pass passed r up ends tags) is =
    finish-offset r r.end _ (item-offset k stream r up) (record { levels = r ∷ up; next = Item; place = r.end }) refl
    ∙ finished k stream passed up r.end step is

position-next : (k : Numbers) (stream : List ℕ) (i : ℕ) → position_at k stream (suc i) ≡ after_step (position_at k stream i) (step_at k stream (position_at k stream i))
unfolding position_at
position-next k stream i = refl

module _ (d : Doc) (position : Position) (i : ℕ) (stands : StandsAtEvent d position i) where
  this-offset : offset_of d i ≡ position.place
  this-offset = sym (same-offset position (position_at (numbers_of d) (plain d) i) stands.there)

  after-offset : (step : Step) → step_at (numbers_of d) (plain d) position ≡ Some step → offset_of d (suc i) ≡ step.place
  after-offset step is =
      ap (λ (p : Position). p.place) (position-next (numbers_of d) (plain d) i)
      ∙ next-offset (numbers_of d) (plain d) position (position_at (numbers_of d) (plain d) i) step stands.there is

  -- ---- fragments

  module _ (step : Step) (is : step_at (numbers_of d) (plain d) position ≡ Some step) (ps : Places) (passes : ps i ≡ true)
      (count : ℕ) (ends : position.place + count ≤ step.place) where
    has-byte : (fragment : ℕ) → position.place / 256 ≤ fragment → fragment < position.place / 256 + fragments_over position.place count
        → HasByteWithin d ps fragment
    has-byte fragment low high = by count refl high
      where
        by : (n : ℕ) → count ≡ n → fragment < position.place / 256 + fragments_over position.place n → HasByteWithin d ps fragment
        by zero none high =
            let over : fragments_over position.place 0 ≡ 0 = refl in
            absurd (omega (arith, low, high, over))
        by (suc n) some high =
            let last = behind-so position.place (suc n) fragment high in
            let this = this-offset in
            let after = after-offset step is in
            record {
              index = i;
              passes = passes;
              byte = record {
                ends = omega (arith, low, this);
                begins = omega (arith, last, after, ends, some);
                some = omega (arith, this, after, ends, some);
              };
            }

    opened-of : (o : Option (List ℕ)) → OpensOnlyTold (HasByteWithin d ps) o (option_map (touched position.place count) o)
    opened-of None = tt
    opened-of (Some before) =
        let t = touched-so (fragments_over position.place count) (position.place / 256) before in
        record { more = t.more; are = t.are; each = λ j default less. has-byte _ (t.above j default less) (t.below j default less) }

-- A call that made a step.
pub opens-step : (w v : FileMoment) (position : Position) (step : Step) (at : Option ℕ) (d : Doc) (ps : Places) → v.fixed ≡ w.fixed
    → (IsFileOrigin w.fixed d → is_sound_at v d ≡ true → IsFilePlace d position × (step_at (numbers_in w.fixed.header) (plain d) position ≡ Some step))
    → (IsFileOrigin w.fixed d → ps (place_of d position) ≡ true)
    → HasRead (opened_since w.served) position.place step.place at (opened_since v.served)
    → OpensFor w (Some d) ps v
opens-step w v position step at d ps same found passes has = λ origin sound.
    let was : IsFileOrigin w.fixed d = subst (λ k. IsFileOrigin k d) same origin in
    let here = found was sound in
    let numbers : numbers_of d ≡ numbers_in w.fixed.header = ap numbers_in was.0.header_is in
    let rises = has.rises in
    let ends : position.place + (step.place - position.place) ≤ step.place = omega (arith, rises) in
    subst (λ (o : Option (List ℕ)). OpensOnlyTold (HasByteWithin d ps) (opened_since w.served) o) (sym has.opens)
    (opened-of d position (place_of d position) here.0 step (ap (λ n. step_at n (plain d) position) numbers ∙ here.1) ps (passes was)
    (step.place - position.place) ends (opened_since w.served))

-- A call that was refused.
module _ (old new : Head) (names : List (List ℕ)) (w v : StoreMoment) (fetched : Fetched old new w v)
    (f g : Option ReadFault) (numbers : Numbers) (position : Position) (read_by : numbers ≡ numbers_in old.header)
    (placed : (d : Doc) → IsFileOrigin (moment_of old names w.served w.held w.faults f).fixed d
    → sound_for w.served w.held d old.key ≡ true → IsFilePlace d position)
    (bound : ForEach (IsSoundStream v.served v.held new.header new.top new.key) (λ stream.
    IfSome (step_at numbers stream position) (λ step.
    HasReadWithin (opened_since w.served) position.place step.place (opened_since v.served)))) where
  pub opens-err : (d : Doc) (ps : Places)
      → (IsFileOrigin (moment_of old names w.served w.held w.faults f).fixed d → ps (place_of d position) ≡ true)
      → OpensFor (moment_of old names w.served w.held w.faults f) (Some d) ps
      (moment_of new names v.served v.held v.faults g)
  opens-err d ps passes = λ origin sound.
      let was = was-origin old new names w v fetched d f g origin in
      by was (placed d was (fetched.was_sound d sound)) (step_at numbers (plain d) position) refl
      (bound (plain d) (plain-may_be old new names w v fetched d f was sound))
    where
      by : IsFileOrigin (moment_of old names w.served w.held w.faults f).fixed d → IsFilePlace d position
          → (o : Option Step) → step_at numbers (plain d) position ≡ o
          → IfSome o (λ step. HasReadWithin (opened_since w.served) position.place step.place (opened_since v.served))
          → OpensOnlyTold (HasByteWithin d ps) (opened_since w.served) (opened_since v.served)
      by was place None is has =
          absurd (file-some_step (moment_of old names w.served w.held w.faults f).fixed d was position place
          (ap (λ n. step_at n (plain d) position) (sym read_by) ∙ is))
      by was place (Some step) is has =
          let same : numbers_of d ≡ numbers = ap numbers_in was.0.header_is ∙ sym read_by in
          subst (λ (o : Option (List ℕ)). OpensOnlyTold (HasByteWithin d ps) (opened_since w.served) o) (sym has.opens)
          (opened-of d position (place_of d position) place step
          (ap (λ n. step_at n (plain d) position) same ∙ is) ps (passes was)
          has.count has.within (opened_since w.served))

-- the same, for an origin or none
pub opens-any : (w v : FileMoment) (o : Option Doc) (ps : Places) → ((d : Doc) → OpensFor w (Some d) ps v) → OpensFor w o ps v
opens-any w v None ps each = tt
opens-any w v (Some d) ps each = each d

-- the only index of a list passes
pub only-itself : (i : ℕ) → Only (i ∷ []) i ≡ true
only-itself i =
    let same : nat_eq i i ≡ true = grind (arith, nat_tests) in
    ap (λ b. b || false) same
