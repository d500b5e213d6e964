-- The levels of the open elements follow from event to event, and give the bounds.
use Rattle.std.proofs.Common.{◌≡◌, ◌≤◌, ◌<◌, ◌+◌, ℕ, suc, Bool, true, false, nat_lt, not, ◌&&◌, ◌||◌, Option, Some, None, List, [], ◌∷◌, ◌++◌, length, map, drop, find, refl, ap, sym, subst, ◌∙◌, inl, inr, ◌⊎◌, add-one, arith, cond, append_assoc, append-nil}
use Rattle.std.proofs.lemmas.Bool.{true≢false, cases_lt, lt-ltb, ltb-true}
use Rattle.std.proofs.lemmas.Bool.Decides.{nat_tests}
use Rattle.std.proofs.lemmas.Option.{option_and_then_some, same_Some}
use Rattle.std.specs.Cmp.{first_so, second_so}
use Rattle.std.specs.Cmp.Lexicographic.{same_text}
use Rattle.std.specs.List.{list_any, list_all, slice_get}
use Rattle.std.specs.Option.{option_and_then, option_map_or, option_or}
use Rattle.acl_model.specs.Chain.{Chain, chain_at}
use Rattle.acl_model.specs.NameTests.{passes}
use Rattle.acl_model.specs.Places.{at, below, child, prefixes}
use Rattle.acl_model.specs.Predicates.{holds}
use Rattle.acl_model.specs.declared.document.Doc.{Doc}
use Rattle.acl_model.specs.declared.document.Element.{Element}
use Rattle.acl_model.specs.declared.path.Pred.{Pred}
use Rattle.acl_model.specs.declared.path.Step.{Step}
use Rattle.acl_model.specs.declared.rule.Rule.{Rule}
use Rattle.acl_bits.specs.Row.{row_of}
use Rattle.acl_model.proofs.ChainLaws.{proper}
use Rattle.acl_model.proofs.Members.{Has, has_none, has_later, has_cases, has_append_cases}
use Rattle.acl_walk.specs.Begun.{is_begin, is_finish, innermost_is_at, begins_at, finishes_at}
use Rattle.acl_walk.specs.Closes.{attributes_at, close, counted, is_met_at}
use Rattle.acl_walk.specs.Open.{OpenPlace, next_place, with_child, open_after, open_at, places_of}
use Rattle.acl_walk.specs.inside.OpenLaws.{places_of-with_child, places_of-prefixes}
use Rattle.acl_walk.specs.Spelling.{Spells}
use Rattle.acl_walk.specs.declared.event.Event.{Event}
use Rattle.acl_walk.specs.declared.event.Event.TheVariants.{Begin, Attr, HeadEnd, Text, Finish, End}
use Rattle.acl_walk.proofs.BegunLaws.{stands_in_list}
use Rattle.acl_walk.proofs.CloseLaws.{close-inside}
use Rattle.acl_walk.proofs.MeetLaws.{both_so, same_place, some_found, any_found, any_so, find_has, has_counted, counted_within, has_map_cases}
use Rattle.token_stack.specs.Bounds.{AreStillOpen, KnowsNoLessUpTo}
use Rattle.token_stack.specs.Bounds.{PredicateTruth, Knowledge, first_events, is_met, is_settled, sure_truth}
use Rattle.token_stack.specs.Bounds.{may_truth, is_kept_by, rules_by, sure_rules, may_rules, learned, knows_next}
use Rattle.token_stack.specs.Bounds.{place_of_level, KnowsNoLessAt}
use Rattle.token_stack.specs.Hits.{open_with, hits}
use Rattle.token_stack.specs.PredicateLevels.{IsRowOf, PredicateLevel, is_finished, TellsLevel, new_level, with_met, settled_level, joined_level, TellLevels, TellNow, all_met, begun_levels, settled_levels, levels_after_event, AreSuffixes, names_at, IsHitRow, AreNumbersOf, are_all_met, may_all_be, StepTests, AreTestsOf, kept_rows}
use Rattle.token_stack.specs.StateRows.{StateRow, SuffixStates, moved_row, risen, rising_rows, StepStates, ArePath, last_of_path, IsKeptRow, AreKeptRows, taken_row}
use Rattle.token_stack.specs.TokensStand.{StandInDocument}
use Rattle.token_stack.specs.WayNames.{led, names_along, names_from}
use Rattle.token_stack.proofs.BoundLaws.{same_by, sure_is, settled_after}
use Rattle.token_stack.proofs.BoundRows.{at_each, at_all, open_has, learned-near}
use Rattle.token_stack.proofs.HitLaws.{open-next, met_at-is, met_at-inside}
use Rattle.token_stack.proofs.OpenLaws.{stand_at}
use Rattle.token_stack.proofs.StateRowLaws.{InLine, prefixes-in_line, left_so, right_so, or_cases, risen_led, taken_rules}
use Rattle.token_stack.proofs.WayLaws.{or_false, below-cut}

-- ---- one more number

any_next : (p : ℕ → Bool) (i : ℕ) → list_any p (counted (suc i)) ≡ (list_any p (counted i) || p i)
any_next p i = same_by (list_any p (counted (suc i))) (list_any p (counted i) || p i)
    (λ so.
    let found = any_found p (counted (suc i)) so in
    let within : found.0 < suc i = counted_within (suc i) found.0 found.1 in
    elim (cases_lt found.0 i) [
      | inl less ↦ left_so (list_any p (counted i)) (p i) (any_so p (counted i) found.0 (has_counted i found.0 less) found.2)
      | inr more ↦ let same : found.0 ≡ i = omega (arith, within, more) in right_so (list_any p (counted i)) (p i) (ap p (sym same) ∙ found.2)
    ])
    (λ so. elim (or_cases (list_any p (counted i)) (p i) so) [
      | inl before ↦
          let found = any_found p (counted i) before in
          let less : found.0 < i = counted_within i found.0 found.1 in
          any_so p (counted (suc i)) found.0 (has_counted (suc i) found.0 (omega (arith, less))) found.2
      | inr last ↦ any_so p (counted (suc i)) i (has_counted (suc i) i (omega arith)) last
    ])

any_grows : (p : ℕ → Bool) (i j : ℕ) → i ≤ j → list_any p (counted i) ≡ true → list_any p (counted j) ≡ true
any_grows p i j later so =
    let found = any_found p (counted i) so in
    let less : found.0 < i = counted_within i found.0 found.1 in
    any_so p (counted j) found.0 (has_counted j found.0 (omega (arith, less, later))) found.2

any_joined : (p : ℕ → Bool) (i j : ℕ) → i ≤ j → (list_any p (counted i) || list_any p (counted j)) ≡ list_any p (counted j)
any_joined p i j later = same_by (list_any p (counted i) || list_any p (counted j)) (list_any p (counted j))
    (λ so. elim (or_cases (list_any p (counted i)) (list_any p (counted j)) so) [ inl first ↦ any_grows p i j later first | inr more ↦ more ])
    (λ so. right_so (list_any p (counted i)) (list_any p (counted j)) so)

-- of k, and i + 1, the greater one
abbrev onward : ℕ → ℕ → ℕ
onward i k = cond (nat_lt i k) k (suc i)

-- One more number, where no fewer than i were looked at, changes nothing if it was among them.
any_onward : (p : ℕ → Bool) (i k : ℕ) → i ≤ k → (list_any p (counted k) || p i) ≡ list_any p (counted (onward i k))
any_onward p i k later = by (nat_lt i k) refl
  where
    by : (b : Bool) → nat_lt i k ≡ b → (list_any p (counted k) || p i) ≡ list_any p (counted (cond b k (suc i)))
    by true is =
        let less : i < k = ltb-true i k is in
        same_by (list_any p (counted k) || p i) (list_any p (counted k))
        (λ so. elim (or_cases (list_any p (counted k)) (p i) so) [
          | inl before ↦ before
          | inr now ↦
              any_so p (counted k) i (has_counted k i less) now
        ])
        (λ so. left_so (list_any p (counted k)) (p i) so)
    by false is =
        let same : k ≡ i = grind (arith, nat_tests, is, later) in
        ap (λ m. list_any p (counted m) || p i) same ∙ sym (any_next p i)

pub is_false : (b : Bool) → (b ≡ true → ⊥) → b ≡ false
is_false true never = absurd (never refl)
is_false false never = refl

-- ---- the place of an open element

abbrev first_element : Option Chain → Option Element
first_element None = None
first_element (Some []) = None
first_element (Some (y ∷ ys)) = Some y

pub chain_at-below : (e : Element) (up : Chain) (place : List ℕ) (x : Element) (above : Chain)
    → chain_at e up place ≡ Some (x ∷ above) → below e place ≡ Some x
chain_at-below e up [] x above found = ap first_element found
chain_at-below e up (k ∷ place) x above found = option_and_then_some (λ c. chain_at c (e ∷ up) place) (child e.items k) (x ∷ above) found (λ c is there.
    ap (option_and_then (λ y. below y place)) is ∙ chain_at-below c (e ∷ up) place x above there)

pub prefixes_are : (place : List ℕ) → prefixes place ≡ place ∷ proper place
prefixes_are [] = refl
prefixes_are (k ∷ place) = ap (λ ps. map (λ prefix. k ∷ prefix) ps ++ ([] ∷ [])) (prefixes_are place)

proper_shorter : (place p : List ℕ) → Has (proper place) p → length p < length place
proper_shorter [] p h = absurd (has_none p h)
proper_shorter (k ∷ place) p h = elim (has_append_cases (map (λ prefix. k ∷ prefix) (proper place)) ([] ∷ []) p h) [
  | inl longer ↦
      let found = has_map_cases (λ prefix. k ∷ prefix) (proper place) p longer in
      let less = proper_shorter place found.0 found.1 in
      let long : length (k ∷ found.0) ≡ length p = ap length found.2 in
      omega (arith, less, long)
  | inr last ↦ elim (has_cases [] p [] last) [ inl same ↦ let none : length {A = ℕ} [] ≡ length p = ap length same in omega (arith, none) | inr later ↦ absurd (has_none p later) ]
]

-- An element around the innermost one is at another place.
other_place : (list : List Event) (i : ℕ) (element : OpenPlace) (up : List OpenPlace) (p : List ℕ) → open_at list i ≡ element ∷ up → Has (places_of up) p → element.place ≡ p → ⊥
other_place list i element up p is h same =
    let chain : element.place ∷ places_of up ≡ element.place ∷ proper element.place = places_of-prefixes list i element up is ∙ prefixes_are element.place in
    let others : places_of up ≡ proper element.place = ap (drop 1) chain in
    let less : length p < length element.place = proper_shorter element.place p (subst (λ ps. Has ps p) others h) in
    let long : length element.place ≡ length p = ap length same in
    omega (arith, less, long)

-- ---- open elements

begin_of : (o : Option Event) → option_map_or is_begin o false ≡ true
    → (tag : ℕ) × (row : List ℕ) × (o ≡ Some (Begin tag row))
begin_of None so = absurd (true≢false (sym so))
begin_of (Some (Begin tag row)) so = (tag, row, refl)
begin_of (Some (Attr piece)) so = absurd (true≢false (sym so))
begin_of (Some HeadEnd) so = absurd (true≢false (sym so))
begin_of (Some (Text piece)) so = absurd (true≢false (sym so))
begin_of (Some (Finish tag)) so = absurd (true≢false (sym so))
begin_of (Some End) so = absurd (true≢false (sym so))

-- An element that is open doesn't begin once more.
begun_before : (list : List Event) (i : ℕ) (p : List ℕ) → Has (places_of (open_at list i)) p
    → begins_at list p i ≡ false
begun_before list i p h = is_false (begins_at list p i) (λ so.
    let begin = begin_of (slice_get list i)
    (first_so (option_map_or is_begin (slice_get list i) false) (innermost_is_at p (open_at list (i + 1))) so) in
    let next : open_at list (suc i) ≡ open_after (open_at list i) (Begin begin.0 begin.1) =
    open-next [] list i (Begin begin.0 begin.1) begin.2 in
    let place : List ℕ = next_place (open_at list i) in
    let same : place ≡ p = same_text place p
    (sym (sym (ap (λ k. innermost_is_at p (open_at list k)) (add-one i) ∙ ap (innermost_is_at p) next)
    ∙ second_so (option_map_or is_begin (slice_get list i) false) (innermost_is_at p (open_at list (i + 1))) so)) in
    other_place list (suc i) (record { tag = begin.0; place = place; children = 0 })
    (with_child (open_at list i)) p next
    (subst (λ ps. Has ps p) (sym (places_of-with_child (open_at list i))) h) same)

-- After an event it is known, too.
next_least : (list : List Event) (i : ℕ) (known : Knowledge) (bearer : List ℕ)
    → i + 1 ≤ knows_next list i known bearer
next_least list i known bearer = by (not (begins_at list bearer i)) (nat_lt i (known bearer)) refl
  where
    by : (b c : Bool) → nat_lt i (known bearer) ≡ c → i + 1 ≤ cond (b && c) (known bearer) (suc i)
    by true true is = let less : i < known bearer = ltb-true i (known bearer) is in omega (arith, less)
    by true false is = omega arith
    by false c is = omega arith

pub next_known : (list : List Event) (i : ℕ) (known : Knowledge) (places : List (List ℕ))
    → KnowsNoLessAt places (first_events (i + 1)) (knows_next list i known)
next_known list i known places =
    at_all places (first_events (i + 1)) (knows_next list i known) (next_least list i known)

onward_more : (i k : ℕ) → k ≤ onward i k
onward_more i k = by (nat_lt i k) refl
  where
    by : (b : Bool) → nat_lt i k ≡ b → k ≤ cond b k (suc i)
    by true is = omega arith
    by false is = grind (arith, nat_tests, is)

-- At an open element no less is known than before.
pub next_more : (list : List Event) (i : ℕ) (known : Knowledge) (level : ℕ) (place : List ℕ)
    → place_of_level (open_at list i) level ≡ Some place → known place ≤ knows_next list i known place
next_more list i known level place is =
    let old = begun_before list i place (open_has (open_at list i) level place is) in
    subst (λ k. known place ≤ k) (sym (ap (λ b. cond (not b && nat_lt i (known place)) (known place) (suc i)) old))
    (onward_more i (known place))

-- A look-ahead that takes one more event knows no less at the elements that stay open.
pub next_onward : (list : List Event) (i j level : ℕ) (own ahead : Knowledge) → AreStillOpen list i j level
    → KnowsNoLessUpTo list i level own ahead → KnowsNoLessUpTo list i level own (knows_next list j ahead)
next_onward list i j level own ahead still more k place near is =
    let least : own place ≤ ahead place = more k place near is in
    let grows : ahead place ≤ knows_next list j ahead place =
    next_more list j ahead k place (sym (still k near) ∙ is) in
    omega (arith, least, grows)

-- Where exactly the first i events are known, the first i + 1 are known after the event.
pub next_first : (list : List Event) (i : ℕ) (bearer : List ℕ)
    → knows_next list i (first_events i) bearer ≡ first_events (i + 1) bearer
next_first list i bearer =
    ap (λ b. cond (not (begins_at list bearer i) && b) i (suc i))
    (is_false (nat_lt i i) (λ so. let less : i < i = ltb-true i i so in omega (arith, less)))
    ∙ by (not (begins_at list bearer i)) ∙ sym (add-one i)
  where
    by : (b : Bool) → cond (b && false) i (suc i) ≡ suc i
    by true = refl
    by false = refl

-- Levels tell what is known at the places, whatever is known elsewhere.
pub levels_same : (preds : List Pred) (d : Doc) (list : List Event) (known more : Knowledge) (places : List (List ℕ))
    (levels : List PredicateLevel)
    → KnowsNoLessAt places known more → KnowsNoLessAt places more known → TellLevels preds d list known places levels
    → TellLevels preds d list more places levels
levels_same preds d list known more [] [] to from tell = tt
levels_same preds d list known more [] (level ∷ levels) to from tell = absurd tell
levels_same preds d list known more (place ∷ places) [] to from tell = absurd tell
levels_same preds d list known more (place ∷ places) (level ∷ levels) to from tell =
    let least : known place ≤ more place = to.0 in
    let most : more place ≤ known place = from.0 in
    let same : known place ≡ more place = omega (arith, least, most) in (
      subst (λ k. TellsLevel preds d list k place level) same tell.0,
      levels_same preds d list known more places levels to.1 from.1 tell.1,
    )

module _ (preds : List Pred) (d : Doc) (list : List Event) (i : ℕ) where
  -- ---- one level

  met_next : (place : List ℕ) (k : ℕ) (met now : StateRow) → i ≤ k → IsRowOf preds met (is_met d list k place)
      → IsRowOf preds now (λ pred. is_met_at d list place pred i)
      → IsRowOf preds (λ n. met n || now n) (is_met d list (onward i k) place)
  met_next place k met now later before tells n pred is =
      ap (λ b. b || now n) (before n pred is) ∙ ap (λ b. is_met d list k place pred || b) (tells n pred is)
      ∙ any_onward (is_met_at d list place pred) i k later

  done_next : (place : List ℕ) (k : ℕ) (done : Bool) → i ≤ k → done ≡ is_finished list k place
      → finishes_at list place i ≡ false → done ≡ is_finished list (onward i k) place
  done_next place k done later before stays =
      before ∙ sym (ap (λ b. is_finished list k place || b) stays ∙ or_false (is_finished list k place))
      ∙ any_onward (finishes_at list place) i k later

  level_next : (place : List ℕ) (k : ℕ) (level : PredicateLevel) (now : StateRow) → i ≤ k
      → TellsLevel preds d list k place level → IsRowOf preds now (λ pred. is_met_at d list place pred i)
      → finishes_at list place i ≡ false → TellsLevel preds d list (onward i k) place (with_met level now)
  level_next place k level now later before tells stays = record {
    met = met_next place k level.met now later before.met tells;
    done = done_next place k level.done later before.done stays;
  }

  level_settled : (place : List ℕ) (k : ℕ) (level : PredicateLevel) (now : StateRow) → i ≤ k
      → TellsLevel preds d list k place level → IsRowOf preds now (λ pred. is_met_at d list place pred i)
      → finishes_at list place i ≡ true
      → TellsLevel preds d list (onward i k) place (settled_level (with_met level now))
  level_settled place k level now later before tells finishes = record {
    met = met_next place k level.met now later before.met tells;
    done = sym (sym (any_onward (finishes_at list place) i k later)
        ∙ right_so (is_finished list k place) (finishes_at list place i) finishes);
  }

  level_same : (place : List ℕ) (k : ℕ) (level : PredicateLevel) → i ≤ k → TellsLevel preds d list k place level
      → ((pred : Pred) → is_met_at d list place pred i ≡ false)
      → finishes_at list place i ≡ false → TellsLevel preds d list (onward i k) place level
  level_same place k level later before none stays = record {
    met = λ n pred is.
        before.met n pred is ∙ sym
        (ap (λ b. is_met d list k place pred || b) (none pred) ∙ or_false (is_met d list k place pred))
        ∙ any_onward (is_met_at d list place pred) i k later;
    done = done_next place k level.done later before.done stays;
  }

  -- ---- all levels

  module _ (known : Knowledge) where
    -- at an element that doesn't begin with the event
    known_next : (p : List ℕ) → begins_at list p i ≡ false → onward i (known p) ≡ knows_next list i known p
    known_next p old = sym (ap (λ b. cond (not b && nat_lt i (known p)) (known p) (suc i)) old)

    all_next : (places : List (List ℕ)) (rows : List StateRow) (levels : List PredicateLevel)
        → TellLevels preds d list known places levels → TellNow preds d list i places rows
        → ((p : List ℕ) → Has places p → i ≤ known p) → ((p : List ℕ) → Has places p → begins_at list p i ≡ false)
        → ((p : List ℕ) → Has places p → finishes_at list p i ≡ false)
        → TellLevels preds d list (knows_next list i known) places (all_met rows levels)
    all_next [] rows [] before tells read old stays = tt
    all_next [] rows (level ∷ levels) before tells read old stays = absurd before
    all_next (place ∷ places) rows [] before tells read old stays = absurd before
    all_next (place ∷ places) [] (level ∷ levels) before tells read old stays = absurd tells
    all_next (place ∷ places) (now ∷ rows) (level ∷ levels) before tells read old stays = (
      subst (λ k. TellsLevel preds d list k place (with_met level now)) (known_next place (old place (0, refl)))
          (level_next place (known place) level now (read place (0, refl)) before.0 tells.0 (stays place (0, refl))),
      all_next places rows levels before.1 tells.1 (λ p h. read p (has_later place p places h))
          (λ p h. old p (has_later place p places h)) (λ p h. stays p (has_later place p places h)),
    )

    -- an event that meets nothing and finishes nothing
    all_same : (places : List (List ℕ)) (levels : List PredicateLevel) → TellLevels preds d list known places levels
        → ((p : List ℕ) → Has places p → i ≤ known p) → ((p : List ℕ) → Has places p → begins_at list p i ≡ false)
        → ((p : List ℕ) (pred : Pred) → is_met_at d list p pred i ≡ false)
        → ((p : List ℕ) → finishes_at list p i ≡ false)
        → TellLevels preds d list (knows_next list i known) places levels
    all_same [] [] before read old none stays = tt
    all_same [] (level ∷ levels) before read old none stays = absurd before
    all_same (place ∷ places) [] before read old none stays = absurd before
    all_same (place ∷ places) (level ∷ levels) before read old none stays = (
      subst (λ k. TellsLevel preds d list k place level) (known_next place (old place (0, refl)))
          (level_same place (known place) level (read place (0, refl)) before.0 (none place) (stays place)),
      all_same places levels before.1 (λ p h. read p (has_later place p places h))
          (λ p h. old p (has_later place p places h)) none stays,
    )

  never_finishes : (event : Event) (p : List ℕ) → slice_get list i ≡ Some event → is_finish event ≡ false → finishes_at list p i ≡ false
  never_finishes event p is other = ap (λ o. option_map_or is_finish o false && innermost_is_at p (open_at list i)) is ∙ ap (λ b. b && innermost_is_at p (open_at list i)) other

  never_meets : (event : Event) → slice_get list i ≡ Some event → ((n : ℕ) (x : Element) (pred : Pred) → hits event n x pred.attribute pred.cmp ≡ false)
      → (p : List ℕ) (pred : Pred) → is_met_at d list p pred i ≡ false
  never_meets event is none p pred = is_false (is_met_at d list p pred i) (λ met.
      let m = met_at-inside d list p pred i met in
      let same : m.event ≡ event = same_Some m.event event (sym m.comes ∙ is) in
      true≢false (sym m.hit ∙ ap (λ e. hits e (attributes_at list i) m.x pred.attribute pred.cmp) same ∙ none (attributes_at list i) m.x pred))

-- An element around the innermost one doesn't finish.
around_stays : (list : List Event) (i : ℕ) (element : OpenPlace) (up : List OpenPlace) (p : List ℕ)
    → open_at list i ≡ element ∷ up → Has (places_of up) p → finishes_at list p i ≡ false
around_stays list i element up p opened h = is_false (finishes_at list p i) (λ so.
    other_place list i element up p opened h
    (same_text element.place p
    (sym (ap (innermost_is_at p) (sym opened)
    ∙ second_so (option_map_or is_finish (slice_get list i) false) (innermost_is_at p (open_at list i)) so))))

module _ (names : List (List ℕ)) (d : Doc) (list : List Event) (few : length names ≤ 256) (spells : Spells names (Some d) list) where
  -- ---- before its Begin

  -- Where an element begins with an event, none of the events before closes a predicate there.
  not_closed : (place : List ℕ) (e : Element) (pred : Pred) (i : ℕ) → at d place ≡ Some e → begins_at list place i ≡ true → is_settled d list i place pred ≡ true → ⊥
  not_closed place e pred i there begins settled =
      let c = some_found (λ index. nat_lt index i) (close d list place pred) settled in
      let s = stands_in_list names d list place e spells there in
      let late : i ≤ c.0 = (close-inside names d list spells place pred i c.0 _ c.1 begins s.finishes).0 in
      let before : c.0 < i = ltb-true c.0 i c.2 in
      omega (arith, late, before)

  not_met_before : (place : List ℕ) (e : Element) (pred : Pred) (i : ℕ) → at d place ≡ Some e → begins_at list place i ≡ true → is_met d list i place pred ≡ false
  not_met_before place e pred i there begins = is_false (is_met d list i place pred) (λ met.
      not_closed place e pred i there begins
      (first_so (is_settled d list i place pred) (holds pred e) (sym (sure_is names d list spells place e pred (first_events i) there) ∙ met)))

  not_finished_before : (place : List ℕ) (e : Element) (i : ℕ) → at d place ≡ Some e → begins_at list place i ≡ true → is_finished list i place ≡ false
  not_finished_before place e i there begins = is_false (is_finished list i place) (λ so.
      let found = any_found (finishes_at list place) (counted i) so in
      let any : Pred = record { way = []; attribute = None; cmp = None } in
      not_closed place e any i there begins (settled_after names d list spells place e any found.0 i there found.2 (counted_within i found.0 found.1)))

  -- ---- an event

  module _ (preds : List Pred) (i : ℕ) where
    begun_level : (place : List ℕ) (e : Element) (now : StateRow) → at d place ≡ Some e → begins_at list place i ≡ true → finishes_at list place i ≡ false
        → IsRowOf preds now (λ pred. is_met_at d list place pred i) → TellsLevel preds d list (suc i) place (new_level now)
    begun_level place e now there begins stays tells = record {
      met = λ n pred is.
          tells n pred is
          ∙ sym (any_next (is_met_at d list place pred) i ∙ ap (λ b. b || is_met_at d list place pred i) (not_met_before place e pred i there begins));
      done = sym (any_next (finishes_at list place) i
          ∙ ap (λ b. b || finishes_at list place i) (not_finished_before place e i there begins) ∙ stays);
    }

    module _ (known : Knowledge) where
      begin_next : (elements : List OpenPlace) (tag : ℕ) (row : List ℕ) (rows : List StateRow)
          (levels : List PredicateLevel)
          → slice_get list i ≡ Some (Begin tag row) → open_at list i ≡ elements
          → TellNow preds d list i (places_of (open_with elements (Begin tag row))) rows
          → TellLevels preds d list known (places_of elements) levels
          → ((p : List ℕ) → Has (places_of elements) p → i ≤ known p)
          → ((p : List ℕ) → Has (places_of elements) p → begins_at list p i ≡ false)
          → TellLevels preds d list (knows_next list i known) (places_of (open_after elements (Begin tag row)))
          (begun_levels rows levels)
      begin_next elements tag row [] levels is opened tells before read old = absurd tells
      begin_next elements tag row (now ∷ rows) levels is opened tells before read old =
          let place : List ℕ = next_place elements in
          let next : open_at list (suc i) ≡ open_after elements (Begin tag row) =
          open-next [] list i (Begin tag row) is ∙ ap (λ es. open_after es (Begin tag row)) opened in
          let stand : StandInDocument names d (open_after elements (Begin tag row)) =
          subst (StandInDocument names d) next (stand_at names d list (suc i) few spells) in
          let there : at d place ≡ Some stand.0.e =
          chain_at-below d.root [] place stand.0.e stand.0.above stand.0.there in
          let begins : begins_at list place i ≡ true =
          both_so (option_map_or is_begin (slice_get list i) false) (innermost_is_at place (open_at list (i + 1)))
          (ap (λ o. option_map_or is_begin o false) is)
          (ap (λ k. innermost_is_at place (open_at list k)) (add-one i) ∙ ap (innermost_is_at place) next
          ∙ same_place place) in
          let stays : (p : List ℕ)
          → finishes_at list p i ≡ false = λ p. never_finishes preds d list i (Begin tag row) p is refl in (
            subst (λ k. TellsLevel preds d list k place (new_level now))
                (sym (ap (λ b. cond (not b && nat_lt i (known place)) (known place) (suc i)) begins))
                (begun_level place stand.0.e now there begins (stays place) tells.0),
            subst (λ ps. TellLevels preds d list (knows_next list i known) ps (all_met rows levels))
                (sym (places_of-with_child elements))
                (all_next preds d list i known (places_of elements) rows levels before
                (subst (λ ps. TellNow preds d list i ps rows) (places_of-with_child elements) tells.1)
                read old (λ p h. stays p)),
          )

      finish_next : (elements : List OpenPlace) (tag : ℕ) (rows : List StateRow) (levels : List PredicateLevel)
          → slice_get list i ≡ Some (Finish tag) → open_at list i ≡ elements
          → TellNow preds d list i (places_of elements) rows
          → TellLevels preds d list known (places_of elements) levels
          → ((p : List ℕ) → Has (places_of elements) p → i ≤ known p)
          → ((p : List ℕ) → Has (places_of elements) p → begins_at list p i ≡ false)
          → TellLevels preds d list (knows_next list i known) (places_of (drop 1 elements))
          (drop 1 (all_met rows levels))
      finish_next [] tag rows [] is opened tells before read old = tt
      finish_next [] tag rows (level ∷ levels) is opened tells before read old = absurd before
      finish_next (element ∷ up) tag rows [] is opened tells before read old = absurd before
      finish_next (element ∷ up) tag [] (level ∷ levels) is opened tells before read old = absurd tells
      finish_next (element ∷ up) tag (now ∷ rows) (level ∷ levels) is opened tells before read old =
          all_next preds d list i known (places_of up) rows levels before.1 tells.1
          (λ p h. read p (has_later element.place p (places_of up) h))
          (λ p h. old p (has_later element.place p (places_of up) h))
          (λ p h. around_stays list i element up p opened h)

      event_by : (event : Event) (rows : List StateRow) (levels : List PredicateLevel) → slice_get list i ≡ Some event
          → TellNow preds d list i (places_of (open_with (open_at list i) event)) rows
          → TellLevels preds d list known (places_of (open_at list i)) levels
          → ((p : List ℕ) → Has (places_of (open_at list i)) p → i ≤ known p)
          → ((p : List ℕ) → Has (places_of (open_at list i)) p → begins_at list p i ≡ false)
          → TellLevels preds d list (knows_next list i known) (places_of (open_after (open_at list i) event))
          (levels_after_event event rows levels)
      event_by (Begin tag row) rows levels is tells before read old =
          begin_next (open_at list i) tag row rows levels is refl tells before read old
      event_by (Attr piece) rows levels is tells before read old =
          all_next preds d list i known (places_of (open_at list i)) rows levels before tells read old
          (λ p h. never_finishes preds d list i (Attr piece) p is refl)
      event_by HeadEnd rows levels is tells before read old =
          all_same preds d list i known (places_of (open_at list i)) levels before read old
          (never_meets preds d list i HeadEnd is (λ n x pred. refl))
          (λ p. never_finishes preds d list i HeadEnd p is refl)
      event_by (Text piece) rows levels is tells before read old =
          all_same preds d list i known (places_of (open_at list i)) levels before read old
          (never_meets preds d list i (Text piece) is (λ n x pred. refl))
          (λ p. never_finishes preds d list i (Text piece) p is refl)
      event_by (Finish tag) rows levels is tells before read old =
          finish_next (open_at list i) tag rows levels is refl tells before read old
      event_by End rows levels is tells before read old =
          all_same preds d list i known (places_of (open_at list i)) levels before read old
          (never_meets preds d list i End is (λ n x pred. refl)) (λ p. never_finishes preds d list i End p is refl)

      -- After an event the levels tell what is known after it.
      pub levels_next : (event : Event) (rows : List StateRow) (levels : List PredicateLevel)
          → slice_get list i ≡ Some event
          → TellNow preds d list i (places_of (open_with (open_at list i) event)) rows
          → KnowsNoLessAt (places_of (open_at list i)) (first_events i) known
          → TellLevels preds d list known (places_of (open_at list i)) levels
          → TellLevels preds d list (knows_next list i known) (places_of (open_at list (i + 1)))
          (levels_after_event event rows levels)
      levels_next event rows levels is tells read before =
          subst (λ k. TellLevels preds d list (knows_next list i known) (places_of (open_at list k))
          (levels_after_event event rows levels)) (sym (add-one i))
          (subst (λ es. TellLevels preds d list (knows_next list i known) (places_of es)
          (levels_after_event event rows levels)) (sym (open-next [] list i event is))
          (event_by event rows levels is tells before
          (at_each (places_of (open_at list i)) (first_events i) known read) (begun_before list i)))

  -- ---- the bounds

  find_cases : (o p : Option ℕ) (c : ℕ) → option_or o p ≡ Some c → (o ≡ Some c) ⊎ (p ≡ Some c)
  find_cases None p c so = inr so
  find_cases (Some x) p c so = inl so

  -- Where none of the events meets a predicate, it is settled exactly where its bearer has finished.
  unmet_settled : (place : List ℕ) (e : Element) (pred : Pred) (k : ℕ) → at d place ≡ Some e → is_met d list k place pred ≡ false → is_settled d list k place pred ≡ is_finished list k place
  unmet_settled place e pred k there unmet = same_by (is_settled d list k place pred) (is_finished list k place)
      (λ settled.
      let c = some_found (λ index. nat_lt index k) (close d list place pred) settled in
      let has : Has (counted k) c.0 = has_counted k c.0 (ltb-true c.0 k c.2) in
      elim (find_cases (find (is_met_at d list place pred) (counted (length list))) (find (finishes_at list place) (counted (length list))) c.0 c.1) [
        | inl met ↦
            let found = find_has (is_met_at d list place pred) (counted (length list)) c.0 met in
            absurd (true≢false (sym (any_so (is_met_at d list place pred) (counted k) c.0 has found.1) ∙ unmet))
        | inr finished ↦
            let found = find_has (finishes_at list place) (counted (length list)) c.0 finished in
            any_so (finishes_at list place) (counted k) c.0 has found.1
      ])
      (λ so.
      let found = any_found (finishes_at list place) (counted k) so in
      settled_after names d list spells place e pred found.0 k there found.2 (counted_within k found.0 found.1))

  may_by : (place : List ℕ) (e : Element) (pred : Pred) (k : ℕ) (met : Bool) → at d place ≡ Some e → is_met d list k place pred ≡ met
      → (met || not (is_finished list k place)) ≡ (met || not (is_settled d list k place pred))
  may_by place e pred k true there is = refl
  may_by place e pred k false there is = ap not (sym (unmet_settled place e pred k there is))

  -- A level gives the two bounds of each predicate.
  pub level_may : (preds : List Pred) (known : Knowledge) (place : List ℕ) (e : Element) (level : PredicateLevel) (n : ℕ) (pred : Pred) → at d place ≡ Some e
      → TellsLevel preds d list (known place) place level → slice_get preds n ≡ Some pred → (level.met n || not level.done) ≡ may_truth d list known place pred
  level_may preds known place e level n pred there tells is =
      ap (λ b. b || not level.done) (tells.met n pred is)
      ∙ ap (λ b. is_met d list (known place) place pred || not b) tells.done
      ∙ may_by place e pred (known place) (is_met d list (known place) place pred) there refl

  settled_by : (place : List ℕ) (e : Element) (pred : Pred) (k : ℕ) (met : Bool) → at d place ≡ Some e → is_met d list k place pred ≡ met
      → (met || is_finished list k place) ≡ is_settled d list k place pred
  settled_by place e pred k true there is =
      sym (first_so (is_settled d list k place pred) (holds pred e) (sym (sure_is names d list spells place e pred (first_events k) there) ∙ is))
  settled_by place e pred k false there is = sym (unmet_settled place e pred k there is)

  -- It tells which predicates are settled.
  pub level_settles : (preds : List Pred) (known : Knowledge) (place : List ℕ) (e : Element) (level : PredicateLevel) (n : ℕ) (pred : Pred) → at d place ≡ Some e
      → TellsLevel preds d list (known place) place level → slice_get preds n ≡ Some pred → (level.met n || level.done) ≡ is_settled d list (known place) place pred
  level_settles preds known place e level n pred there tells is =
      ap (λ b. b || level.done) (tells.met n pred is)
      ∙ ap (λ b. is_met d list (known place) place pred || b) tells.done
      ∙ settled_by place e pred (known place) (is_met d list (known place) place pred) there refl

pub level_sure : (d : Doc) (list : List Event) (preds : List Pred) (known : Knowledge) (place : List ℕ) (level : PredicateLevel) (n : ℕ) (pred : Pred)
    → TellsLevel preds d list (known place) place level → slice_get preds n ≡ Some pred → level.met n ≡ sure_truth d list known place pred
level_sure d list preds known place level n pred tells is = tells.met n pred is

-- ---- two levels together

or_comm : (a b : Bool) → (a || b) ≡ (b || a)
or_comm true true = refl
or_comm true false = refl
or_comm false true = refl
or_comm false false = refl

module _ (preds : List Pred) (d : Doc) (list : List Event) (place : List ℕ) where
  -- Together two levels tell what the one tells that knows more.
  pub joined_onward : (i j : ℕ) (one other : PredicateLevel) → i ≤ j → TellsLevel preds d list i place one → TellsLevel preds d list j place other
      → TellsLevel preds d list j place (joined_level one other)
  joined_onward i j one other later first second = record {
    met = λ n pred is.
        ap (λ b. b || other.met n) (first.met n pred is) ∙ ap (λ b. is_met d list i place pred || b) (second.met n pred is)
        ∙ any_joined (is_met_at d list place pred) i j later;
    done =
        ap (λ b. b || other.done) first.done ∙ ap (λ b. is_finished list i place || b) second.done
        ∙ any_joined (finishes_at list place) i j later;
  }

  pub joined_back : (i j : ℕ) (one other : PredicateLevel) → i ≤ j → TellsLevel preds d list j place one → TellsLevel preds d list i place other
      → TellsLevel preds d list j place (joined_level one other)
  joined_back i j one other later first second =
      let back = joined_onward i j other one later second first in
      record { met = λ n pred is. or_comm (one.met n) (other.met n) ∙ back.met n pred is; done = or_comm one.done other.done ∙ back.done }

-- After a look-ahead the two levels together tell what is then known.
pub joined_learned : (preds : List Pred) (d : Doc) (list : List Event) (level : ℕ) (own ahead : Knowledge) (place : List ℕ) (one other : PredicateLevel)
    → length place < level → own place ≤ ahead place → TellsLevel preds d list (own place) place one → TellsLevel preds d list (ahead place) place other
    → TellsLevel preds d list (learned level own ahead place) place (joined_level one other)
joined_learned preds d list level own ahead place one other near later first second =
    subst (λ k. TellsLevel preds d list k place (joined_level one other)) (sym (learned-near level own ahead place near later))
    (joined_onward preds d list place (own place) (ahead place) one other later first second)

-- ---- rows that rise

module _ (preds : List Pred) (states : SuffixStates) (d : Doc) (list : List Event) (i : ℕ) (event : Event) (x : Element) (hit : StateRow) where
  -- The row of an element has what the event meets there.
  pub risen_now : (bearer more : List ℕ) → slice_get list i ≡ Some event → innermost_is_at (bearer ++ more) (open_with (open_at list i) event) ≡ true
      → at d (bearer ++ more) ≡ Some x → AreSuffixes states preds → IsHitRow preds hit event (attributes_at list i) x
      → IsRowOf preds (risen states hit (names_from d bearer more)) (λ pred. is_met_at d list bearer pred i)
  risen_now bearer more comes innermost there suffixes row n pred is =
      risen_led states hit (names_from d bearer more) pred.way n (suffixes n pred is) (row n pred is).0
      ∙ ap (λ b. led pred.way (names_from d bearer more) && b) (row n pred is).1
      ∙ sym (met_at-is d list bearer pred i event more x comes innermost there)

names-none : (o : Option Element) → option_map_or (λ e. names_along e []) o [] ≡ []
names-none None = refl
names-none (Some e) = refl

pub risen_innermost : (states : SuffixStates) (hit : StateRow) (d : Doc) (place : List ℕ) → risen states hit (names_from d place []) ≡ hit
risen_innermost states hit d place = ap (risen states hit) (names-none (at d place))

names-outward : (d : Doc) (place more : List ℕ) (k : ℕ) (c : Element) → at d (place ++ (k ∷ [])) ≡ Some c → names_from d place (k ∷ more) ≡ c.name ∷ names_from d (place ++ (k ∷ [])) more
names-outward d place more k c found =
    let cut = below-cut place (k ∷ []) d.root c found in
    let is : child cut.0.items k ≡ Some c = option_and_then_some (λ y. below y []) (child cut.0.items k) c cut.2 (λ y there own. there ∙ own) in
    ap (λ o. option_map_or (λ e. names_along e (k ∷ more)) o []) cut.1
    ∙ ap (λ o. option_map_or (λ z. z.name ∷ names_along z more) o []) is
    ∙ ap (λ o. c.name ∷ option_map_or (λ e. names_along e more) o []) (sym found)

pub risen_outward : (states : SuffixStates) (hit : StateRow) (d : Doc) (place more : List ℕ) (k : ℕ) (c : Element) → at d (place ++ (k ∷ [])) ≡ Some c
    → risen states hit (names_from d place (k ∷ more)) ≡ moved_row states.goes states.deep (risen states hit (names_from d (place ++ (k ∷ [])) more)) (λ n. states.lets n c.name)
risen_outward states hit d place more k c found = ap (risen states hit) (names-outward d place more k c found)

-- ---- the rows of all open elements

prefixes-child : (place : List ℕ) (k : ℕ) → prefixes (place ++ (k ∷ [])) ≡ (place ++ (k ∷ [])) ∷ prefixes place
prefixes-child [] k = refl
prefixes-child (n ∷ place) k = ap (λ ps. map (λ prefix. n ∷ prefix) ps ++ ([] ∷ [])) (prefixes-child place k)

last_number : (j : ℕ) (p : List ℕ) → (start : List ℕ) × (k : ℕ) × (j ∷ p ≡ start ++ (k ∷ []))
last_number j [] = ([], j, refl)
last_number j (m ∷ p) = let rest = last_number m p in (j ∷ rest.0, rest.1, ap (λ q. j ∷ q) rest.2)

abbrev second_of : List (List ℕ) → List ℕ
second_of [] = []
second_of (p ∷ []) = []
second_of (p ∷ q ∷ up) = q

abbrev first_place : List (List ℕ) → List ℕ
first_place [] = []
first_place (q ∷ qs) = q

-- The place after a place among its prefixes is the parent's.
parent_of : (p q : List ℕ) (up : List (List ℕ)) → prefixes p ≡ p ∷ q ∷ up → (k : ℕ) × (p ≡ q ++ (k ∷ []))
parent_of [] q up is = let long : length {A = List ℕ} ([] ∷ []) ≡ length {A = List ℕ} ([] ∷ q ∷ up) = ap length is in absurd (omega (arith, long))
parent_of (j ∷ p) q up is =
    let last = last_number j p in
    let parent : last.0 ≡ q =
    ap (λ ps. second_of ((last.0 ++ (last.1 ∷ [])) ∷ ps)) (sym (prefixes_are last.0)) ∙ ap second_of (sym (prefixes-child last.0 last.1))
    ∙ ap (λ r. second_of (prefixes r)) (sym last.2) ∙ ap second_of is in
    (last.1, last.2 ∙ ap (λ r. r ++ (last.1 ∷ [])) parent)

-- The places of the elements that are open at an event are the prefixes of the innermost one's.
open_with-prefixes : (list : List Event) (i : ℕ) (event : Event) (element : OpenPlace) (up : List OpenPlace) → slice_get list i ≡ Some event
    → open_with (open_at list i) event ≡ element ∷ up → places_of (element ∷ up) ≡ prefixes element.place
open_with-prefixes list i (Begin tag row) element up comes is = places_of-prefixes list (suc i) element up (open-next [] list i (Begin tag row) comes ∙ is)
open_with-prefixes list i (Attr piece) element up comes is = places_of-prefixes list i element up is
open_with-prefixes list i HeadEnd element up comes is = places_of-prefixes list i element up is
open_with-prefixes list i (Text piece) element up comes is = places_of-prefixes list i element up is
open_with-prefixes list i (Finish tag) element up comes is = places_of-prefixes list i element up is
open_with-prefixes list i End element up comes is = places_of-prefixes list i element up is

module _ (preds : List Pred) (states : SuffixStates) (d : Doc) (list : List Event) (i : ℕ) (event : Event) (x : Element) (hit : StateRow) (place : List ℕ)
    (comes : slice_get list i ≡ Some event) (innermost : innermost_is_at place (open_with (open_at list i) event) ≡ true) (there : at d place ≡ Some x)
    (suffixes : AreSuffixes states preds) (hits_row : IsHitRow preds hit event (attributes_at list i) x) where
  row_now : (p more : List ℕ) (row : StateRow) → p ++ more ≡ place → row ≡ risen states hit (names_from d p more) → IsRowOf preds row (λ pred. is_met_at d list p pred i)
  row_now p more row whole same =
      subst (λ r. IsRowOf preds r (λ pred. is_met_at d list p pred i)) (sym same)
      (risen_now preds states d list i event x hit p more comes
      (ap (λ q. innermost_is_at q (open_with (open_at list i) event)) whole ∙ innermost)
      (ap (at d) whole ∙ there) suffixes hits_row)

  rows_now : (up : List (List ℕ)) (p more : List ℕ) (row : StateRow) → InLine (p ∷ up) → p ++ more ≡ place → row ≡ risen states hit (names_from d p more)
      → TellNow preds d list i (p ∷ up) (rising_rows states row (names_at d (p ∷ up)))
  rows_now [] p more row line whole same = (row_now p more row whole same, tt)
  rows_now (q ∷ up) p more row line whole same =
      let parent = parent_of p q up line.0 in
      let cut = below-cut p more d.root x (ap (at d) whole ∙ there) in
      let own : at d (q ++ (parent.0 ∷ [])) ≡ Some cut.0 = ap (at d) (sym parent.1) ∙ cut.1 in
      let name : List ℕ = option_map_or (λ (e : Element). e.name) (at d p) [] in
      let named : name ≡ cut.0.name = ap (λ o. option_map_or (λ (e : Element). e.name) o []) cut.1 in (
        row_now p more row whole same,
        rows_now up q (parent.0 ∷ more) (moved_row states.goes states.deep row (λ n. states.lets n name)) line.1
            (sym (append_assoc q (parent.0 ∷ []) more) ∙ ap (λ r. r ++ more) (sym parent.1) ∙ whole)
            (ap (λ r. moved_row states.goes states.deep r (λ n. states.lets n name)) (same ∙ ap (λ r. risen states hit (names_from d r more)) parent.1)
            ∙ ap (λ m. moved_row states.goes states.deep (risen states hit (names_from d (q ++ (parent.0 ∷ [])) more)) (λ n. states.lets n m)) named
            ∙ sym (risen_outward states hit d q more parent.0 cut.0 own)),
      )

  rows_along : (ps : List (List ℕ)) → InLine ps → ps ≡ place ∷ proper place → TellNow preds d list i ps (rising_rows states hit (names_at d ps))
  rows_along [] line is = tt
  rows_along (p ∷ up) line is =
      let same : p ≡ place = ap first_place is in
      rows_now up p [] hit line (append-nil p ∙ same) (sym (risen_innermost states hit d p))

  rows_of_open : (elements : List OpenPlace) → open_with (open_at list i) event ≡ elements → TellNow preds d list i (places_of elements) (rising_rows states hit (names_at d (places_of elements)))
  rows_of_open [] is = tt
  rows_of_open (element ∷ up) is =
      let here : element.place ≡ place = same_text element.place place (sym (ap (innermost_is_at place) (sym is) ∙ innermost)) in
      let all : places_of (element ∷ up) ≡ prefixes place = open_with-prefixes list i event element up comes is ∙ ap prefixes here in
      subst (λ ps. TellNow preds d list i ps (rising_rows states hit (names_at d ps))) (sym all) (rows_along (prefixes place) (prefixes-in_line place) (prefixes_are place))

  -- The rows that rise from the innermost element have what the event meets at each open element.
  pub rising_now : TellNow preds d list i (places_of (open_with (open_at list i) event)) (rising_rows states hit (names_at d (places_of (open_with (open_at list i) event))))
  rising_now = rows_of_open (open_with (open_at list i) event) refl

-- ---- the steps that keep an element

all_numbered : (preds : List Pred) (test : ℕ → Bool) (truth : Pred → Bool) (numbers : List ℕ) (these : List Pred) → ((n : ℕ) (pred : Pred) → slice_get preds n ≡ Some pred → test n ≡ truth pred)
    → AreNumbersOf preds numbers these → list_all test numbers ≡ list_all truth these
all_numbered preds test truth [] [] same are = refl
all_numbered preds test truth [] (pred ∷ more) same are = absurd are
all_numbered preds test truth (n ∷ numbers) [] same are = absurd are
all_numbered preds test truth (n ∷ numbers) (pred ∷ more) same are =
    ap (λ b. b && list_all test numbers) (same n pred are.0) ∙ ap (λ b. truth pred && b) (all_numbered preds test truth numbers more same are.1)

-- A level tells whether a step surely keeps the element, and whether it may.
pub keeps_surely : (d : Doc) (list : List Event) (preds : List Pred) (known : Knowledge) (place : List ℕ) (e : Element) (level : PredicateLevel) (s : Step) (numbers : List ℕ)
    → at d place ≡ Some e → TellsLevel preds d list (known place) place level → AreNumbersOf preds numbers s.preds
    → (passes s.test e.name && are_all_met level numbers) ≡ is_kept_by (sure_truth d list known) s place (at d place)
keeps_surely d list preds known place e level s numbers there tells are =
    ap (λ b. passes s.test e.name && b)
    (all_numbered preds level.met (sure_truth d list known place) numbers s.preds (λ n pred is. level_sure d list preds known place level n pred tells is) are)
    ∙ ap (is_kept_by (sure_truth d list known) s place) (sym there)

pub keeps_possibly : (names : List (List ℕ)) (d : Doc) (list : List Event) (preds : List Pred) (known : Knowledge) (place : List ℕ) (e : Element) (level : PredicateLevel) (s : Step) (numbers : List ℕ)
    → length names ≤ 256 → Spells names (Some d) list → at d place ≡ Some e → TellsLevel preds d list (known place) place level → AreNumbersOf preds numbers s.preds
    → (passes s.test e.name && may_all_be level numbers) ≡ is_kept_by (may_truth d list known) s place (at d place)
keeps_possibly names d list preds known place e level s numbers few spells there tells are =
    ap (λ b. passes s.test e.name && b)
    (all_numbered preds (λ n. level.met n || not level.done) (may_truth d list known place) numbers s.preds
    (λ n pred is. level_may names d list few spells preds known place e level n pred there tells is) are)
    ∙ ap (is_kept_by (may_truth d list known) s place) (sym there)

-- ---- a Finish that is known before its element is closed

finishes_here : (list : List Event) (i tag : ℕ) (element : OpenPlace) (up : List OpenPlace) → slice_get list i ≡ Some (Finish tag) → open_at list i ≡ element ∷ up
    → finishes_at list element.place i ≡ true
finishes_here list i tag element up is opened =
    both_so (option_map_or is_finish (slice_get list i) false) (innermost_is_at element.place (open_at list i)) (ap (λ o. option_map_or is_finish o false) is)
    (ap (innermost_is_at element.place) opened ∙ same_place element.place)

finish_known : (preds : List Pred) (d : Doc) (list : List Event) (i tag : ℕ) (known : Knowledge)
    (elements : List OpenPlace) (rows : List StateRow) (levels : List PredicateLevel)
    → slice_get list i ≡ Some (Finish tag) → open_at list i ≡ elements
    → TellNow preds d list i (places_of elements) rows → TellLevels preds d list known (places_of elements) levels
    → ((p : List ℕ) → Has (places_of elements) p → i ≤ known p)
    → ((p : List ℕ) → Has (places_of elements) p → begins_at list p i ≡ false)
    → TellLevels preds d list (knows_next list i known) (places_of elements) (settled_levels (all_met rows levels))
finish_known preds d list i tag known [] rows [] is opened tells before read old = tt
finish_known preds d list i tag known [] rows (level ∷ levels) is opened tells before read old = absurd before
finish_known preds d list i tag known (element ∷ up) rows [] is opened tells before read old = absurd before
finish_known preds d list i tag known (element ∷ up) [] (level ∷ levels) is opened tells before read old =
    absurd tells
finish_known preds d list i tag known (element ∷ up) (now ∷ rows) (level ∷ levels) is opened tells before read old = (
  subst (λ k. TellsLevel preds d list k element.place (settled_level (with_met level now)))
      (known_next preds d list i known element.place (old element.place (0, refl)))
      (level_settled preds d list i element.place (known element.place) level now
      (read element.place (0, refl)) before.0 tells.0 (finishes_here list i tag element up is opened)),
  all_next preds d list i known (places_of up) rows levels before.1 tells.1
      (λ p h. read p (has_later element.place p (places_of up) h))
      (λ p h. old p (has_later element.place p (places_of up) h))
      (λ p h. around_stays list i element up p opened h),
)

-- Before the innermost element is closed, the levels can tell what its Finish tells, too.
pub levels_settle : (preds : List Pred) (d : Doc) (list : List Event) (i tag : ℕ) (known : Knowledge)
    (rows : List StateRow) (levels : List PredicateLevel)
    → slice_get list i ≡ Some (Finish tag) → TellNow preds d list i (places_of (open_at list i)) rows
    → KnowsNoLessAt (places_of (open_at list i)) (first_events i) known
    → TellLevels preds d list known (places_of (open_at list i)) levels
    → TellLevels preds d list (knows_next list i known) (places_of (open_at list i))
    (settled_levels (all_met rows levels))
levels_settle preds d list i tag known rows levels is tells read before =
    finish_known preds d list i tag known (open_at list i) rows levels is refl tells before
    (at_each (places_of (open_at list i)) (first_events i) known read) (begun_before list i)

-- An event that is known already meets nothing new.
met_again : (p : ℕ → Bool) (i k : ℕ) → i < k → (list_any p (counted k) || p i) ≡ list_any p (counted k)
met_again p i k less = any_onward p i k (omega (arith, less))
    ∙ ap (λ b. list_any p (counted (cond b k (suc i)))) (lt-ltb i k less)

all_again : (preds : List Pred) (d : Doc) (list : List Event) (i : ℕ) (known : Knowledge) (places : List (List ℕ))
    (rows : List StateRow) (levels : List PredicateLevel)
    → TellNow preds d list i places rows → TellLevels preds d list known places levels
    → ((p : List ℕ) → Has places p → suc i ≤ known p) → TellLevels preds d list known places (all_met rows levels)
all_again preds d list i known [] rows [] tells tell read = tt
all_again preds d list i known [] rows (level ∷ levels) tells tell read = absurd tell
all_again preds d list i known (place ∷ places) rows [] tells tell read = absurd tell
all_again preds d list i known (place ∷ places) [] (level ∷ levels) tells tell read = absurd tells
all_again preds d list i known (place ∷ places) (now ∷ rows) (level ∷ levels) tells tell read = (
  record {
    met = λ n pred is.
        let within : suc i ≤ known place = read place (0, refl) in
        ap (λ b. b || now n) (tell.0.met n pred is)
        ∙ ap (λ b. is_met d list (known place) place pred || b) (tells.0 n pred is)
        ∙ met_again (is_met_at d list place pred) i (known place) (omega (arith, within));
    done = tell.0.done;
  },
  all_again preds d list i known places rows levels tells.1 tell.1 (λ p h. read p (has_later place p places h)),
)

-- What an event meets changes nothing where the event is known.
pub levels_again : (preds : List Pred) (d : Doc) (list : List Event) (i : ℕ) (known : Knowledge)
    (places : List (List ℕ)) (rows : List StateRow) (levels : List PredicateLevel)
    → TellNow preds d list i places rows
    → KnowsNoLessAt places (first_events (i + 1)) known → TellLevels preds d list known places levels
    → TellLevels preds d list known places (all_met rows levels)
levels_again preds d list i known places rows levels tells read tell =
    all_again preds d list i known places rows levels tells tell
    (λ p h. let least : i + 1 ≤ known p =
    at_each places (first_events (i + 1)) known read p h in omega (arith, least))

-- Of an element beyond the levels of a look-ahead no more is known.
pub learned_beyond : (preds : List Pred) (d : Doc) (list : List Event) (level : ℕ) (own ahead : Knowledge) (place : List ℕ) (one : PredicateLevel)
    → level ≤ length place → TellsLevel preds d list (own place) place one → TellsLevel preds d list (learned level own ahead place) place one
learned_beyond preds d list level own ahead place one beyond tells =
    let deeper : nat_lt (length place) level ≡ false = grind (arith, nat_tests, beyond) in
    let same : learned level own ahead place ≡ own place = ap (λ b. cond (b && nat_lt (own place) (ahead place)) (ahead place) (own place)) deeper in
    subst (λ k. TellsLevel preds d list k place one) (sym same) tells

-- ---- the rules of an element

module _ (preds : List Pred) (d : Doc) (list : List Event) (known : Knowledge) (truth : PredicateTruth) (tests : StepTests) (are_true : PredicateLevel → List ℕ → Bool)
    (keeps : (place : List ℕ) (e : Element) (level : PredicateLevel) (s : Step) (numbers : List ℕ) → at d place ≡ Some e → TellsLevel preds d list (known place) place level
    → AreNumbersOf preds numbers s.preds → (passes s.test e.name && are_true level numbers) ≡ is_kept_by truth s place (at d place)) where
  kept_row : (place : List ℕ) (e : Element) (level : PredicateLevel) (n : ℕ) (steps : List Step) → at d place ≡ Some e → TellsLevel preds d list (known place) place level
      → AreTestsOf preds tests n steps
      → IsKeptRow d truth n steps place (λ m. tests.lets m (option_map_or (λ (x : Element). x.name) (at d place) []) && are_true level (tests.numbers m))
  kept_row place e level n [] there tells are = tt
  kept_row place e level n (s ∷ more) there tells are = (
    ap (λ o. tests.lets n (option_map_or (λ (x : Element). x.name) o []) && are_true level (tests.numbers n)) there
        ∙ ap (λ b. b && are_true level (tests.numbers n)) (are.0 e.name)
        ∙ keeps place e level s (tests.numbers n) there tells are.1,
    kept_row place e level (suc n) more there tells are.2,
  )

  kept_along : (up : List (List ℕ)) (p : List ℕ) (e : Element) (levels : List PredicateLevel) (n : ℕ) (steps : List Step) → InLine (p ∷ up) → at d p ≡ Some e
      → TellLevels preds d list known (p ∷ up) levels → AreTestsOf preds tests n steps
      → AreKeptRows d truth n steps (p ∷ up) (kept_rows tests are_true (names_at d (p ∷ up)) levels)
  kept_along up p e [] n steps line there tells are = absurd tells
  kept_along [] p e (level ∷ []) n steps line there tells are = (kept_row p e level n steps there tells.0 are, tt)
  kept_along [] p e (level ∷ more ∷ levels) n steps line there tells are = absurd tells.1
  kept_along (q ∷ up) p e (level ∷ levels) n steps line there tells are =
      let parent = parent_of p q up line.0 in
      let cut = below-cut q (parent.0 ∷ []) d.root e (ap (at d) (sym parent.1) ∙ there) in
      (kept_row p e level n steps there tells.0 are, kept_along up q cut.0 levels n steps line.1 cut.1 tells.1 are)

  kept_by_places : (ps : List (List ℕ)) (place : List ℕ) (e : Element) (levels : List PredicateLevel) (n : ℕ) (steps : List Step) → InLine ps → ps ≡ place ∷ proper place → at d place ≡ Some e
      → TellLevels preds d list known ps levels → AreTestsOf preds tests n steps → AreKeptRows d truth n steps ps (kept_rows tests are_true (names_at d ps) levels)
  kept_by_places [] place e levels n steps line is there tells are = cc
  kept_by_places (p ∷ up) place e levels n steps line is there tells are = kept_along up p e levels n steps line (ap (at d) (ap first_place is) ∙ there) tells are

  -- The rules that select an element by a truth are those whose last steps are taken by the kept rows of its levels.
  rules_by_levels : (rules : List Rule) (states : StepStates) (begins : ℕ → ℕ) (place : List ℕ) (e : Element) (levels : List PredicateLevel)
      → ((n : ℕ) (rule : Rule) → slice_get rules n ≡ Some rule → ArePath states (begins n) rule.path.steps × AreTestsOf preds tests (begins n) rule.path.steps)
      → at d place ≡ Some e → TellLevels preds d list known (prefixes place) levels
      → rules_by rules d truth place
      ≡ row_of (λ n. option_map_or (λ rule. taken_row states (kept_rows tests are_true (names_at d (prefixes place)) levels) (last_of_path (begins n) rule.path.steps)) (slice_get rules n) false)
  rules_by_levels rules states begins place e levels are there tells =
      taken_rules rules d truth states begins place (kept_rows tests are_true (names_at d (prefixes place)) levels) (λ n rule is. (are n rule is).0)
      (λ n rule is. kept_by_places (prefixes place) place e levels (begins n) rule.path.steps (prefixes-in_line place) (prefixes_are place) there tells (are n rule is).1)

pub levels_sure_rules : (rules : List Rule) (d : Doc) (list : List Event) (preds : List Pred) (known : Knowledge) (states : StepStates) (tests : StepTests) (begins : ℕ → ℕ) (place : List ℕ) (e : Element)
    → (levels : List PredicateLevel)
    → ((n : ℕ) (rule : Rule) → slice_get rules n ≡ Some rule → ArePath states (begins n) rule.path.steps × AreTestsOf preds tests (begins n) rule.path.steps)
    → at d place ≡ Some e → TellLevels preds d list known (prefixes place) levels
    → sure_rules rules d list known place
    ≡ row_of (λ n. option_map_or (λ rule. taken_row states (kept_rows tests are_all_met (names_at d (prefixes place)) levels) (last_of_path (begins n) rule.path.steps)) (slice_get rules n) false)
levels_sure_rules rules d list preds known states tests begins place e levels are there tells =
    rules_by_levels preds d list known (sure_truth d list known) tests are_all_met (keeps_surely d list preds known) rules states begins place e levels are there tells

pub levels_may_rules : (names : List (List ℕ)) (rules : List Rule) (d : Doc) (list : List Event) (preds : List Pred) (known : Knowledge) (states : StepStates) (tests : StepTests) (begins : ℕ → ℕ)
    → (place : List ℕ) (e : Element) (levels : List PredicateLevel) → length names ≤ 256 → Spells names (Some d) list
    → ((n : ℕ) (rule : Rule) → slice_get rules n ≡ Some rule → ArePath states (begins n) rule.path.steps × AreTestsOf preds tests (begins n) rule.path.steps)
    → at d place ≡ Some e → TellLevels preds d list known (prefixes place) levels
    → may_rules rules d list known place
    ≡ row_of (λ n. option_map_or (λ rule. taken_row states (kept_rows tests may_all_be (names_at d (prefixes place)) levels) (last_of_path (begins n) rule.path.steps)) (slice_get rules n) false)
levels_may_rules names rules d list preds known states tests begins place e levels few spells are there tells =
    rules_by_levels preds d list known (may_truth d list known) tests may_all_be (λ p x level s numbers at_p. keeps_possibly names d list preds known p x level s numbers few spells at_p)
    rules states begins place e levels are there tells
