-- How the positions in a document's stream move along its events.
use Rattle.std.proofs.Common.{◌≡◌, ℕ, zero, suc, ◌+◌, ◌-◌, ◌<◌, ◌≤◌, true, cond, Option, Some, None, is_some, List, [], ◌∷◌, ◌++◌, length, drop, get_or, nat_lt, refl, ap, sym, ◌∙◌, subst, arith, ⊎_elim, length-append, length-drop, drop_at, append_assoc}
use Rattle.std.proofs.lemmas.Bool.{cases_Bool}
use Rattle.std.proofs.lemmas.Bool.Decides.{nat_tests}
use Rattle.std.proofs.lemmas.List.{drop_more, drop_all, drop-append-le, drop-drop}
use Rattle.std.proofs.lemmas.Option.{same_Some, none-some}
use Rattle.acl_model.specs.Document.{is_document}
use Rattle.acl_model.specs.Stream.{plain, has_stream}
use Rattle.acl_model.specs.declared.document.Doc.{Doc}
use Rattle.acl_walk.specs.SpotMoves.{place_after, StandsAt, from_finish, PassesTo}
use Rattle.acl_walk.specs.declared.event.Event.{Event}
use Rattle.acl_walk.specs.declared.event.Event.TheVariants as event
use Rattle.skip_decode.specs.declared.position.Level.{Level}
use Rattle.skip_decode.specs.declared.position.Next.{Next}
use Rattle.skip_decode.specs.declared.position.Next.TheVariants as next
use Rattle.skip_decode.specs.Positions.{Numbers, Position, above_root, first_position, tree_end, tags_of, passed}
use Rattle.skip_decode.specs.StreamSteps.{Step, is_only, element_begun, root_step, end_step, finish_step, next_in, step_at, position_after}
use Rattle.skip_decode.specs.StreamEvents.{and_then, events_by, run, events_left, events_from, numbers_of, stream_events, after_step, position_at, IsAt, same, by_pass, StandsAtEvent}
use Rattle.skip_decode.proofs.Runs.{Goes, Runs, stay, onward, runs-few, run-append}
use Rattle.skip_decode.proofs.PieceRuns.{at}
use Rattle.skip_decode.proofs.StepKinds.{and_then_some, cond_some, IsRead, Kind, keeps, opens, closes, element_kind, step_kind, end_kind}
use Rattle.skip_decode.proofs.PassRuns.{closing}
use Rattle.skip_decode.proofs.RootRuns.{run-end, DocumentRun, whole_run}

-- ---- runs, step by step

no_cons : {A : Type 0} (x : A) (xs : List A) → x ∷ xs ≡ [] → ⊥
no_cons x xs h = cc

-- The first step of a run with events.
pub record FirstStep (k : Numbers) (stream : List ℕ) (first : Position) (e : Event) (rest : List Event) (last : Position) : Type 0 where
  pub step : Step
  pub goes : Goes k stream first step
  pub event_is : step.event ≡ e
  pub after : Runs k stream (position_after first step) rest last

first_step : (k : Numbers) (stream : List ℕ) (first last : Position) (events : List Event) (e : Event) (rest : List Event) → Runs k stream first events last → events ≡ e ∷ rest
    → FirstStep k stream first e rest last
first_step k stream first last events e rest (stay k2 stream2 position) is = absurd (no_cons e rest (sym is))
first_step k stream first last events e rest (onward k2 stream2 position step more last2 goes after) is = record {
  step = step;
  goes = goes;
  event_is = ap (λ (l : List Event). get_or l 0 e) is;
  after = subst (λ l. Runs k stream (position_after first step) l last) (ap (drop 1) is) after;
}

-- A run without events stays.
no_step : (k : Numbers) (stream : List ℕ) (first last : Position) (events : List Event) → Runs k stream first events last → events ≡ [] → first ≡ last
no_step k stream first last events (stay k2 stream2 position) is = refl
no_step k stream first last events (onward k2 stream2 position step more last2 goes after) is = absurd (no_cons step.event more is)

-- ---- the positions of a stream

position-after : (k : Numbers) (stream : List ℕ) (i : ℕ) (position : Position) (step : Step) → position_at k stream i ≡ position → step_at k stream position ≡ Some step
    → position_at k stream (suc i) ≡ position_after position step
unfolding position_at
position-after k stream i position step is there = ap (λ p. after_step p (step_at k stream p)) is ∙ ap (after_step position) there

-- After the events of a run, the position is its last one.
position-on : (k : Numbers) (stream : List ℕ) (i : ℕ) (first last : Position) (events : List Event) → Runs k stream first events last → position_at k stream i ≡ first
    → position_at k stream (i + length events) ≡ last
position-on k stream i first last events (stay k2 stream2 position) is = ap (position_at k stream) (omega arith) ∙ is
position-on k stream i first last events (onward k2 stream2 position step more last2 goes after) is =
    let same_index : i + length (step.event ∷ more) ≡ suc i + length more = omega arith in
    ap (position_at k stream) same_index
    ∙ position-on k stream (suc i) (position_after first step) last more after (position-after k stream i first step is goes.there)

-- From each position on a run goes on with the other events.
run-from : (k : Numbers) (stream : List ℕ) (last : Position) (events : List Event) → Runs k stream (first_position k) events last → (i : ℕ) → i ≤ length events
    → Runs k stream (position_at k stream i) (drop i events) last
unfolding position_at
run-from k stream last events whole zero few = whole
run-from k stream last events whole (suc i) few =
    let before = run-from k stream last events whole i (omega (arith, few)) in
    let one : i + 1 ≡ suc i = omega arith in
    let first = first_step k stream (position_at k stream i) last (drop i events) (get_or events i event.End) (drop (i + 1) events) before (drop_more events i event.End (omega (arith, few))) in
    subst (λ p. Runs k stream p (drop (suc i) events) last) (sym (position-after k stream i (position_at k stream i) first.step refl first.goes.there))
    (subst (λ n. Runs k stream (position_after (position_at k stream i) first.step) (drop n events) last) one first.after)

-- ---- no step leads to a passed end

in_read : (up : List Level) → IsRead (next_in up next.Item)
in_read [] = tt
in_read (level ∷ up) = tt

kind_read : (level : Level) (up : List Level) (n : Next) (place : ℕ) (step : Step) → Kind level n place step → IsRead (position_after (at (level ∷ up) n place) step).next
kind_read level up n place step (keeps level2 n2 place2 e later after inner read) = read
kind_read level up n place step (opens level2 n2 place2 tag below after parent child same_end same_tag) = tt
kind_read level up n place step (closes level2 place2 here) = in_read up

outer_read : (level : Level) (n m : Next) (place from : ℕ) (step : Step) → Kind level n place step → IsRead (position_after (at [] m from) step).next
outer_read level n m place from step (keeps level2 n2 place2 e later after inner read) = tt
outer_read level n m place from step (opens level2 n2 place2 tag below after parent child same_end same_tag) = tt
outer_read level n m place from step (closes level2 place2 here) = tt

read_after : (k : Numbers) (stream : List ℕ) (levels : List Level) (n : Next) (place : ℕ) (step : Step) → IsRead n → step_at k stream (at levels n place) ≡ Some step
    → IsRead (position_after (at levels n place) step).next
unfolding step_at root_step
read_after k stream [] next.Root place step read is =
    let parts = and_then_some (λ (s : Step). cond (is_only s.change) (Some s) None) (element_begun k.depth stream 0 (above_root k) place) step is in
    let made = cond_some (is_only parts.0.change) parts.0 step parts.2 in
    outer_read (above_root k) next.Root next.Root place place step (element_kind (above_root k) next.Root place k.depth stream 0 place step (parts.1 ∙ ap Some made.1))
read_after k stream [] next.Count place step read is = absurd (none-some step is)
read_after k stream [] (next.Attributes count) place step read is = absurd (none-some step is)
read_after k stream [] (next.Attribute left more) place step read is = absurd (none-some step is)
read_after k stream [] next.Item place step read is = absurd (none-some step is)
read_after k stream [] (next.Text left) place step read is = absurd (none-some step is)
read_after k stream [] next.Finish place step read is = absurd (none-some step is)
read_after k stream [] next.End place step read is = subst (λ s. IsRead (position_after (at [] next.End place) s).next) (same_Some (end_step place) step is) tt
read_after k stream (level ∷ up) n place step read is = kind_read level up n place step (step_kind k stream level up n place step read is)

stepped_read : (k : Numbers) (stream : List ℕ) (position : Position) (o : Option Step) → IsRead position.next → step_at k stream position ≡ o → IsRead (after_step position o).next
stepped_read k stream position None read is = read
stepped_read k stream position (Some step) read is = read_after k stream position.levels position.next position.place step read is

position-read : (k : Numbers) (stream : List ℕ) (i : ℕ) → IsRead (position_at k stream i).next
unfolding position_at
position-read k stream zero = tt
position-read k stream (suc i) = stepped_read k stream (position_at k stream i) (step_at k stream (position_at k stream i)) (position-read k stream i) refl

-- ---- the events from a position on

-- A run up to the end of the tree gives the events from its first position on.
events_from-run : (k : Numbers) (stream : List ℕ) (first : Position) (events : List Event) → Runs k stream first events (at [] next.End (tree_end k)) → events_from k stream first ≡ events ++ (event.End ∷ [])
events_from-run k stream first events whole =
    let bound = runs-few k stream first (at [] next.End (tree_end k)) events whole in
    let left : ℕ = events_left k first - length events in
    let fuel : events_left k first + 1 ≡ length events + suc left = omega (arith, bound) in
    ap (λ n. run k stream n first) fuel
    ∙ run-append k stream (suc left) first (at [] next.End (tree_end k)) events whole
    ∙ ap (λ l. events ++ l) (run-end k stream left (tree_end k))

-- An event with others after it isn't End.
moves_on : (e : Event) → ((rest : List Event) → and_then e rest ≡ e ∷ rest) → (i : ℕ) → place_after e i ≡ i + 1
moves_on (event.Begin tag below) on i = refl
moves_on (event.Attr piece) on i = refl
moves_on event.HeadEnd on i = refl
moves_on (event.Text piece) on i = refl
moves_on (event.Finish tag) on i = refl
moves_on event.End on i = absurd (no_cons event.End [] (sym (ap (drop 1) (on (event.End ∷ [])))))

-- A run from inside an element has a step.
inner_step : (k : Numbers) (stream : List ℕ) (level : Level) (up : List Level) (n : Next) (place : ℕ) (last : Position) (events : List Event)
    → Runs k stream (at (level ∷ up) n place) events last → last.levels ≡ [] → 0 < length events
inner_step k stream level up n place last [] whole outside =
    absurd (no_cons level up (ap (λ (p : Position). p.levels) (no_step k stream (at (level ∷ up) n place) last [] whole refl) ∙ outside))
inner_step k stream level up n place last (e ∷ events) whole outside = omega arith

-- ---- the positions of a document's stream

module _ (d : Doc) (good : is_document d ≡ true) (within : has_stream d ≡ true) where
  abbrev k : Numbers
  k = numbers_of d

  abbrev stream : List ℕ
  stream = plain d

  abbrev end_position : Position
  end_position = at [] next.End (tree_end k)

  document : DocumentRun d
  document = whole_run d good within

  -- the events without End
  abbrev events : List Event
  events = document.events

  list_long : length (stream_events d) ≡ length events + 1
  list_long = ap length document.list ∙ length-append events (event.End ∷ [])

  from_index : (i : ℕ) → i ≤ length events → Runs k stream (position_at k stream i) (drop i events) end_position
  from_index i few = run-from k stream end_position events document.run i few

  list_from : (i : ℕ) → i ≤ length events → drop i (stream_events d) ≡ drop i events ++ (event.End ∷ [])
  list_from i few = ap (drop i) document.list ∙ drop-append-le i events (event.End ∷ []) few

  list_at : (i : ℕ) → i < length events → drop i (stream_events d) ≡ get_or events i event.End ∷ drop (i + 1) (stream_events d)
  list_at i few =
      list_from i (omega (arith, few)) ∙ ap (λ l. l ++ (event.End ∷ [])) (drop_more events i event.End few)
      ∙ ap (λ l. get_or events i event.End ∷ l) (sym (list_from (i + 1) (omega (arith, few))))

  -- ---- the start

  pub stands-first : StandsAtEvent d (first_position k) 0
  unfolding position_at
  stands-first = let long = list_long in record { within = omega (arith, long); there = same (first_position k) }

  -- ---- a position after a pass, and the one that was read

  -- The step of a position at a passed end, and that of the one that was read: both close the element.
  record Passing (passed_level read : Level) (up : List Level) (i : ℕ) : Type 0 where
    few : i < length events
    first : FirstStep k stream (at (read ∷ up) next.Item read.end) (get_or events i event.End) (drop (i + 1) events) end_position
    closed : first.step ≡ finish_step read read.end

  passing : (passed_level read : Level) (up : List Level) (i : ℕ) → i ≤ length events → position_at k stream i ≡ at (read ∷ up) next.Item read.end → Passing passed_level read up i
  passing passed_level read up i most is =
      let here : Runs k stream (at (read ∷ up) next.Item read.end) (drop i events) end_position = subst (λ p. Runs k stream p (drop i events) end_position) is (from_index i most) in
      let some = inner_step k stream read up next.Item read.end end_position (drop i events) here refl in
      let left = length-drop i events in
      let few : i < length events = omega (arith, some, left, most) in
      let first = first_step k stream (at (read ∷ up) next.Item read.end) end_position (drop i events) (get_or events i event.End) (drop (i + 1) events) here (drop_more events i event.End few) in
      record { few = few; first = first; closed = end_kind k stream read up first.step first.goes.there }

  -- ---- the events from a position on

  events_same : (n : ℕ) (p q : Level) (up : List Level) (step : Step) → p.tag ≡ q.tag → step_at k stream (at (q ∷ up) next.Item q.end) ≡ Some step → step ≡ finish_step q q.end
      → run k stream (suc n) (at (p ∷ up) next.Finish q.end) ≡ run k stream (suc n) (at (q ∷ up) next.Item q.end)
  unfolding run step_at
  events_same n p q up step tags there is =
      ap (λ t. event.Finish t ∷ run k stream n (at up (next_in up next.Item) q.end)) tags
      ∙ sym (ap (events_by (run k stream n) (at (q ∷ up) next.Item q.end)) (there ∙ ap Some is))

  from_honest : (honest : Position) (i : ℕ) → i ≤ length events → position_at k stream i ≡ honest → events_from k stream honest ≡ drop i (stream_events d)
  from_honest honest i most is =
      ap (events_from k stream) (sym is) ∙ events_from-run k stream (position_at k stream i) (drop i events) (from_index i most) ∙ sym (list_from i most)

  from_position : (position honest : Position) (i : ℕ) → i ≤ length events → IsAt position honest → position_at k stream i ≡ honest → events_from k stream position ≡ drop i (stream_events d)
  from_position position honest i most (same p) is = from_honest honest i most is
  from_position position honest i most (by_pass p q up ends tags) is =
      let passes = passing p q up i most is in
      let one : events_left k (at (p ∷ up) next.Finish q.end) + 1 ≡ suc (events_left k (at (p ∷ up) next.Finish q.end)) = omega arith in
      ap (λ n. run k stream n (at (p ∷ up) next.Finish q.end)) one
      ∙ events_same (events_left k (at (p ∷ up) next.Finish q.end)) p q up passes.first.step tags passes.first.goes.there passes.closed
      ∙ ap (λ n. run k stream n (at (q ∷ up) next.Item q.end)) (sym one)
      ∙ from_honest (at (q ∷ up) next.Item q.end) i most is

  -- From a position that stands at event i, the events are those from index i on.
  pub stands-rest : (position : Position) (i : ℕ) → StandsAtEvent d position i → events_from k stream position ≡ drop i (stream_events d)
  stands-rest position i stands =
      let long = list_long in
      let less = stands.within in
      from_position position (position_at k stream i) i (omega (arith, long, less)) stands.there refl

  -- ---- a step

  -- The step of a position that stands at event i: its event is this one, and after it the position stands at the next.
  record Stepping (position : Position) (i : ℕ) : Type 0 where
    step : Step
    there : step_at k stream position ≡ Some step
    at_event : drop i (stream_events d) ≡ step.event ∷ drop (i + 1) (stream_events d)
    stands : StandsAtEvent d (position_after position step) (place_after step.event i)

  next_stands : (position : Position) (i : ℕ) → i < length events → position_at k stream (suc i) ≡ position → StandsAtEvent d position (i + 1)
  next_stands position i few is =
      let long = list_long in
      let one : suc i ≡ i + 1 = omega arith in
      record { within = omega (arith, long, few); there = subst (IsAt position) (sym is ∙ ap (position_at k stream) one) (same position) }

  inside_stepping : (honest : Position) (i : ℕ) → i < length events → position_at k stream i ≡ honest → Stepping honest i
  inside_stepping honest i few is =
      let first = first_step k stream honest end_position (drop i events) (get_or events i event.End) (drop (i + 1) events)
      (subst (λ p. Runs k stream p (drop i events) end_position) is (from_index i (omega (arith, few)))) (drop_more events i event.End few) in
      record {
        step = first.step;
        there = first.goes.there;
        at_event = list_at i few ∙ ap (λ e. e ∷ drop (i + 1) (stream_events d)) (sym first.event_is);
        stands = subst (StandsAtEvent d (position_after honest first.step)) (sym (moves_on first.step.event first.goes.on i))
            (next_stands (position_after honest first.step) i few (position-after k stream i honest first.step is first.goes.there));
      }

  end_there : step_at k stream end_position ≡ Some (end_step (tree_end k))
  unfolding step_at
  end_there = refl

  last_stepping : (i : ℕ) → i ≡ length events → position_at k stream i ≡ end_position → Stepping end_position i
  last_stepping i last is =
      let long = list_long in
      let few : i ≤ length events = omega (arith, last) in
      record {
        step = end_step (tree_end k);
        there = end_there;
        at_event = list_from i few ∙ ap (λ l. l ++ (event.End ∷ [])) (drop_all i events (omega (arith, last))) ∙ ap (λ l. event.End ∷ l) (sym (drop_all (i + 1) (stream_events d) (omega (arith, long, last))));
        stands = record { within = omega (arith, long, last); there = subst (IsAt end_position) (sym is) (same end_position) };
      }

  honest_stepping : (honest : Position) (i : ℕ) → i ≤ length events → position_at k stream i ≡ honest → Stepping honest i
  honest_stepping honest i most is = ⊎_elim
      (λ less. inside_stepping honest i (grind (arith, nat_tests)) is)
      (λ more.
      let last : i ≡ length events = grind (arith, nat_tests) in
      let end : honest ≡ end_position = no_step k stream honest end_position (drop i events) (subst (λ p. Runs k stream p (drop i events) end_position) is (from_index i most)) (drop_all i events (omega (arith, last))) in
      subst (λ p. Stepping p i) (sym end) (last_stepping i last (is ∙ end)))
      (cases_Bool (nat_lt i (length events)))

  passed_there : (p : Level) (up : List Level) (place : ℕ) → step_at k stream (at (p ∷ up) next.Finish place) ≡ Some (finish_step p place)
  unfolding step_at
  passed_there p up place = refl

  stepping : (position honest : Position) (i : ℕ) → i ≤ length events → IsAt position honest → position_at k stream i ≡ honest → Stepping position i
  stepping position honest i most (same p) is = honest_stepping honest i most is
  stepping position honest i most (by_pass p q up ends tags) is =
      let passes = passing p q up i most is in
      let first = passes.first in
      record {
        step = finish_step p q.end;
        there = passed_there p up q.end;
        at_event = list_at i passes.few
            ∙ ap (λ e. e ∷ drop (i + 1) (stream_events d)) (sym first.event_is ∙ ap (λ (s : Step). s.event) passes.closed ∙ ap event.Finish (sym tags));
        stands = next_stands (at up (next_in up next.Item) q.end) i passes.few
            (position-after k stream i (at (q ∷ up) next.Item q.end) first.step is first.goes.there ∙ ap (position_after (at (q ∷ up) next.Item q.end)) passes.closed);
      }

  stands_stepping : (position : Position) (i : ℕ) → StandsAtEvent d position i → Stepping position i
  stands_stepping position i stands =
      let long = list_long in
      let less = stands.within in
      stepping position (position_at k stream i) i (omega (arith, long, less)) stands.there refl

  -- A position that stands at an event has a step.
  pub stands-step : (position : Position) (i : ℕ) → StandsAtEvent d position i → is_some (step_at k stream position) ≡ true
  stands-step position i stands = ap is_some (stands_stepping position i stands).there

  -- The step has this event, and leads to the next one.
  pub stands-moves : (position : Position) (i : ℕ) (step : Step) → StandsAtEvent d position i → step_at k stream position ≡ Some step
      → StandsAt (stream_events d) i step.event (place_after step.event i) × StandsAtEvent d (position_after position step) (place_after step.event i)
  stands-moves position i step stands there =
      let known = stands_stepping position i stands in
      subst (λ (s : Step). StandsAt (stream_events d) i s.event (place_after s.event i) × StandsAtEvent d (position_after position s) (place_after s.event i))
      (same_Some known.step step (sym known.there ∙ there))
      (record { there = known.at_event; moved = refl }, known.stands)

  -- ---- a pass

  -- the index of the Finish of the innermost open element, and the position there
  record Finishing (level : Level) (up : List Level) (i : ℕ) : Type 0 where
    index : ℕ
    less : index < length (stream_events d)
    read : Level
    same_end : read.end ≡ level.end
    same_tag : read.tag ≡ level.tag
    is : position_at k stream index ≡ at (read ∷ up) next.Item read.end
    found : drop index (stream_events d) ≡ from_finish 0 (drop i (stream_events d))

  finishing : (level : Level) (up : List Level) (n : Next) (place i : ℕ) → i ≤ length events → position_at k stream i ≡ at (level ∷ up) n place → Finishing level up i
  finishing level up n place i most is =
      let here : Runs k stream (at (level ∷ up) n place) (drop i events) end_position = subst (λ p. Runs k stream p (drop i events) end_position) is (from_index i most) in
      let read : IsRead n = subst (λ (p : Position). IsRead p.next) is (position-read k stream i) in
      let c = closing k stream level up n place end_position (drop i events) here refl read in
      let long = list_long in
      let left = length-drop i events in
      let parts : length (drop i events) ≡ length c.before + suc (length c.after) = ap length c.split ∙ length-append c.before (event.Finish level.tag ∷ c.after) in
      record {
        index = i + length c.before;
        less = omega (arith, long, left, parts, most);
        read = c.read;
        same_end = c.same_end;
        same_tag = c.same_tag;
        is = position-on k stream i (at (level ∷ up) n place) (at (c.read ∷ up) next.Item c.read.end) c.before c.run is;
        found = sym (drop-drop (length c.before) i (stream_events d))
            ∙ ap (drop (length c.before)) (list_from i most ∙ ap (λ l. l ++ (event.End ∷ [])) c.split ∙ append_assoc c.before (event.Finish level.tag ∷ c.after) (event.End ∷ []))
            ∙ drop_at c.before (event.Finish level.tag ∷ (c.after ++ (event.End ∷ []))) (length c.before) refl
            ∙ sym (ap (from_finish 0) (list_from i most) ∙ c.found (event.End ∷ []));
      }

  -- What holds after a pass.
  abbrev pub Passed : Position → ℕ → Type 0
  Passed position i = (j : ℕ) × StandsAtEvent d (passed position) j × PassesTo (tags_of position) (stream_events d) i j

  pass_finished : (p level : Level) (up : List Level) (n : Next) (place i : ℕ) → p.end ≡ level.end → p.tag ≡ level.tag → Finishing level up i → Passed (at (p ∷ up) n place) i
  pass_finished p level up n place i ends tags f = (
    f.index,
    record {
      within = f.less;
      there = subst (λ e. IsAt (at (p ∷ up) next.Finish e) (position_at k stream f.index)) (f.same_end ∙ sym ends)
          (subst (IsAt (at (p ∷ up) next.Finish f.read.end)) (sym f.is) (by_pass p f.read up (ends ∙ sym f.same_end) (tags ∙ sym f.same_tag)));
    },
    f.found,
  )

  pass_honest : (levels : List Level) (n : Next) (place i : ℕ) → i ≤ length events → position_at k stream i ≡ at levels n place → Passed (at levels n place) i
  pass_honest [] n place i most is =
      let long = list_long in
      (i, record { within = omega (arith, long, most); there = subst (IsAt (at [] n place)) (sym is) (same (at [] n place)) }, refl)
  pass_honest (level ∷ up) n place i most is = pass_finished level level up n place i refl refl (finishing level up n place i most is)

  pass_from : (position honest : Position) (i : ℕ) → i ≤ length events → IsAt position honest → position_at k stream i ≡ honest → Passed position i
  pass_from position honest i most (same p) is = pass_honest honest.levels honest.next honest.place i most is
  pass_from position honest i most (by_pass p q up ends tags) is = pass_finished p q up next.Finish q.end i ends tags (finishing q up next.Item q.end i most is)

  -- A pass leads to the Finish of the innermost open element.
  pub stands-pass : (position : Position) (i : ℕ) → StandsAtEvent d position i → Passed position i
  stands-pass position i stands =
      let long = list_long in
      let less = stands.within in
      pass_from position (position_at k stream i) i (omega (arith, long, less)) stands.there refl
