-- How a step and a pass move a position in a tree along the tree's list.
use Rattle.std.proofs.Common.{◌≡◌, ℕ, zero, suc, ◌+◌, ◌-◌, ◌<◌, ◌≤◌, List, [], ◌∷◌, length, drop, ap, sym, subst, ◌∙◌, arith, length-drop}
use Rattle.std.proofs.lemmas.List.{drop_all}
use Rattle.acl_walk.specs.Nesting.{Phase, at_start, in_head, in_attribute, in_content, in_text, at_finish, at_end, MayCome, tags_after, phase_after, Nest}
use Rattle.acl_walk.specs.SpotMoves.{StandsAt, from_finish, Falls}
use Rattle.acl_walk.specs.inside.TreeSteps.{Comes}
use Rattle.acl_walk.specs.inside.TreeSpots.{EndsWith}
use Rattle.acl_walk.specs.declared.event.Event.{Event}
use Rattle.acl_walk.specs.declared.event.Event.TheVariants.{Begin, Attr, HeadEnd, Text, Finish, End}

-- ---- the end of a list

-- a list is a suffix of itself
pub ends-whole : (whole : List Event) → EndsWith whole whole
ends-whole whole =
    let none : length whole - length whole ≡ 0 = omega arith in
    record { shorter = omega arith; same = ap (λ k. drop k whole) none }

-- the empty list is a suffix
ends-nil : (whole : List Event) → EndsWith whole []
ends-nil whole = record { shorter = omega arith; same = drop_all (length whole - 0) whole (omega arith) }

-- without the first event of a suffix
drop_next : (n : ℕ) (whole : List Event) (event : Event) (rest : List Event) → drop n whole ≡ event ∷ rest → drop (n + 1) whole ≡ rest
drop_next zero [] event rest begins = cc
drop_next (suc n) [] event rest begins = cc
drop_next zero (e ∷ whole) event rest begins = ap (drop 1) begins
drop_next (suc n) (e ∷ whole) event rest begins =
    let next : suc n + 1 ≡ suc (n + 1) = omega arith in
    ap (λ k. drop k (e ∷ whole)) next ∙ drop_next n whole event rest begins

ends-tail : (whole : List Event) (event : Event) (rest : List Event) → EndsWith whole (event ∷ rest) → EndsWith whole rest
ends-tail whole event rest ends =
    let place : length whole - length rest ≡ length whole - length (event ∷ rest) + 1 = omega (arith, ends.shorter) in
    record {
      shorter = omega (arith, ends.shorter);
      same = ap (λ k. drop k whole) place ∙ drop_next (length whole - length (event ∷ rest)) whole event rest ends.same;
    }

-- the event at the position
stands-tail : (whole : List Event) (event : Event) (rest : List Event) → EndsWith whole (event ∷ rest)
    → drop (length whole - length (event ∷ rest)) whole ≡ event ∷ drop (length whole - length (event ∷ rest) + 1) whole
stands-tail whole event rest ends = ends.same ∙ ap (λ events. event ∷ events) (sym (drop_next (length whole - length (event ∷ rest)) whole event rest ends.same))

next_place : (whole : List Event) (event : Event) (rest : List Event) → EndsWith whole (event ∷ rest)
    → length whole - length rest ≡ length whole - length (event ∷ rest) + 1
next_place whole event rest ends = omega (arith, ends.shorter)

-- ---- a step

-- the events to come after a step are a suffix of the list, too
pub ends-step : (whole : List Event) (event : Event) (old new : List Event) → Comes event old new → EndsWith whole old → EndsWith whole new
ends-step whole (Begin tag below) old new comes ends = ends-tail whole (Begin tag below) new (subst (EndsWith whole) comes ends)
ends-step whole (Attr piece) old new comes ends = ends-tail whole (Attr piece) new (subst (EndsWith whole) comes ends)
ends-step whole HeadEnd old new comes ends = ends-tail whole HeadEnd new (subst (EndsWith whole) comes ends)
ends-step whole (Text piece) old new comes ends = ends-tail whole (Text piece) new (subst (EndsWith whole) comes ends)
ends-step whole (Finish tag) old new comes ends = ends-tail whole (Finish tag) new (subst (EndsWith whole) comes ends)
ends-step whole End old new comes ends = subst (EndsWith whole) (comes.0 ∙ sym comes.1) ends

stands-next : (whole : List Event) (event : Event) (old new : List Event) → old ≡ event ∷ new → EndsWith whole old
    → (drop (length whole - length old) whole ≡ event ∷ drop (length whole - length old + 1) whole) × (length whole - length new ≡ length whole - length old + 1)
stands-next whole event old new begins ends =
    let at : EndsWith whole (event ∷ new) = subst (EndsWith whole) begins ends in
    let same : length (event ∷ new) ≡ length old = ap length (sym begins) in (
      subst (λ k. drop (length whole - k) whole ≡ event ∷ drop (length whole - k + 1) whole) same (stands-tail whole event new at),
      subst (λ k. length whole - length new ≡ length whole - k + 1) same (next_place whole event new at),
    )

-- a step gives the event at the index, and leads to the next index
pub stands-step : (whole : List Event) (event : Event) (old new : List Event) → Comes event old new → EndsWith whole old
    → StandsAt whole (length whole - length old) event (length whole - length new)
stands-step whole (Begin tag below) old new comes ends = let s = stands-next whole (Begin tag below) old new comes ends in record { there = s.0; moved = s.1 }
stands-step whole (Attr piece) old new comes ends = let s = stands-next whole (Attr piece) old new comes ends in record { there = s.0; moved = s.1 }
stands-step whole HeadEnd old new comes ends = let s = stands-next whole HeadEnd old new comes ends in record { there = s.0; moved = s.1 }
stands-step whole (Text piece) old new comes ends = let s = stands-next whole (Text piece) old new comes ends in record { there = s.0; moved = s.1 }
stands-step whole (Finish tag) old new comes ends = let s = stands-next whole (Finish tag) old new comes ends in record { there = s.0; moved = s.1 }
stands-step whole End old new comes ends =
    let s = stands-next whole End old [] comes.0 ends in
    record { there = s.0; moved = ap (λ events. length whole - length events) (comes.1 ∙ sym comes.0) }

-- a step lowers the number of events to come
pub falls-step : (event : Event) (old new : List Event) → Comes event old new → Falls event (length old) (length new)
falls-step (Begin tag below) old new comes = omega (arith, ap length comes)
falls-step (Attr piece) old new comes = omega (arith, ap length comes)
falls-step HeadEnd old new comes = omega (arith, ap length comes)
falls-step (Text piece) old new comes = omega (arith, ap length comes)
falls-step (Finish tag) old new comes = omega (arith, ap length comes)
falls-step End old new comes = omega (arith, ap length comes.0, ap length comes.1)

nest_head : (names deep : ℕ) (tags : List ℕ) (phase : Phase) (event : Event) (old new : List Event) → old ≡ event ∷ new → Nest names deep tags phase old
    → MayCome names deep tags phase event × Nest names deep (tags_after tags event) (phase_after tags event) new
nest_head names deep tags phase event old new begins nest = subst (Nest names deep tags phase) begins nest

-- the event of a step may come, and the events to come after it nest
pub nest-step : (names deep : ℕ) (tags : List ℕ) (phase : Phase) (event : Event) (old new : List Event) → Comes event old new → Nest names deep tags phase old
    → MayCome names deep tags phase event × Nest names deep (tags_after tags event) (phase_after tags event) new
nest-step names deep tags phase (Begin tag below) old new comes nest = nest_head names deep tags phase (Begin tag below) old new comes nest
nest-step names deep tags phase (Attr piece) old new comes nest = nest_head names deep tags phase (Attr piece) old new comes nest
nest-step names deep tags phase HeadEnd old new comes nest = nest_head names deep tags phase HeadEnd old new comes nest
nest-step names deep tags phase (Text piece) old new comes nest = nest_head names deep tags phase (Text piece) old new comes nest
nest-step names deep tags phase (Finish tag) old new comes nest = nest_head names deep tags phase (Finish tag) old new comes nest
nest-step names deep tags phase End old new comes nest =
    let first = nest_head names deep tags phase End old [] comes.0 nest in
    (first.0, subst (Nest names deep tags at_end) (sym comes.1) (tt, tt))

begin_few : (names deep : ℕ) (tags : List ℕ) (phase : Phase) (tag : ℕ) (below : List ℕ) → MayCome names deep tags phase (Begin tag below) → length tags < deep
begin_few names deep tags at_start tag below may = may.1
begin_few names deep tags in_head tag below may = absurd may
begin_few names deep tags in_attribute tag below may = absurd may
begin_few names deep tags in_content tag below may = may.1
begin_few names deep tags in_text tag below may = absurd may
begin_few names deep tags at_finish tag below may = absurd may
begin_few names deep tags at_end tag below may = absurd may

-- after a step at most `deep` elements are open
pub few-step : (names deep : ℕ) (tags : List ℕ) (phase : Phase) (event : Event) → MayCome names deep tags phase event → length tags ≤ deep
    → length (tags_after tags event) ≤ deep
few-step names deep tags phase (Begin tag below) may few = let fewer = begin_few names deep tags phase tag below may in omega (arith, fewer)
few-step names deep tags phase (Attr piece) may few = few
few-step names deep tags phase HeadEnd may few = few
few-step names deep tags phase (Text piece) may few = few
few-step names deep tags phase (Finish tag) may few = omega (arith, length-drop 1 tags)
few-step names deep tags phase End may few = few

-- ---- a pass

-- the events from the innermost element's Finish on are a suffix of the list
pub ends-from_finish : (whole : List Event) (n : ℕ) (events : List Event) → EndsWith whole events → EndsWith whole (from_finish n events)
ends-from_finish whole n [] ends = ends
ends-from_finish whole n (Begin tag below ∷ events) ends = ends-from_finish whole (suc n) events (ends-tail whole (Begin tag below) events ends)
ends-from_finish whole n (Attr piece ∷ events) ends = ends-from_finish whole n events (ends-tail whole (Attr piece) events ends)
ends-from_finish whole n (HeadEnd ∷ events) ends = ends-from_finish whole n events (ends-tail whole HeadEnd events ends)
ends-from_finish whole n (Text piece ∷ events) ends = ends-from_finish whole n events (ends-tail whole (Text piece) events ends)
ends-from_finish whole zero (Finish tag ∷ events) ends = ends
ends-from_finish whole (suc n) (Finish tag ∷ events) ends = ends-from_finish whole n events (ends-tail whole (Finish tag) events ends)
ends-from_finish whole n (End ∷ events) ends = ends-nil whole

-- they are at most as many as the events to come were
pub shorter-from_finish : (n : ℕ) (events : List Event) → length (from_finish n events) ≤ length events
shorter-from_finish n [] = omega arith
shorter-from_finish n (Begin tag below ∷ events) = omega (arith, shorter-from_finish (suc n) events)
shorter-from_finish n (Attr piece ∷ events) = omega (arith, shorter-from_finish n events)
shorter-from_finish n (HeadEnd ∷ events) = omega (arith, shorter-from_finish n events)
shorter-from_finish n (Text piece ∷ events) = omega (arith, shorter-from_finish n events)
shorter-from_finish zero (Finish tag ∷ events) = omega arith
shorter-from_finish (suc n) (Finish tag ∷ events) = omega (arith, shorter-from_finish n events)
shorter-from_finish n (End ∷ events) = omega arith
