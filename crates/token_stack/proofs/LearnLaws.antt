-- Sets of rules and levels of predicates after a look-ahead, and the sets that the levels of the open elements give.
use Rattle.std.proofs.Common.{◌≡◌, ◌≤◌, ◌<◌, ◌-◌, ℕ, zero, suc, Bool, true, false, nat_eq, nat_le, nat_lt, ◌&&◌, Some}
use Rattle.std.proofs.Common.{List, [], ◌∷◌, ◌++◌, length, map, drop}
use Rattle.std.proofs.Common.{refl, ap, sym, subst, ◌∙◌, inl, inr, arith, cond, append_assoc}
use Rattle.std.proofs.lemmas.Bool.{lt-ltb, ltb-true}
use Rattle.std.proofs.lemmas.Bool.Decides.{nat_tests}
use Rattle.std.proofs.lemmas.List.{length-append, length-map, drop-map}
use Rattle.std.proofs.lemmas.Option.{same_Some, none-some}
use Rattle.std.specs.List.{slice_get}
use Rattle.std.specs.Option.{option_map_or}
use Rattle.acl_bits.specs.Row.{row_of}
use Rattle.acl_model.specs.Places.{at, prefixes}
use Rattle.acl_model.specs.declared.document.Doc.{Doc}
use Rattle.acl_model.specs.declared.document.Element.{Element}
use Rattle.acl_model.specs.declared.path.Pred.{Pred}
use Rattle.acl_model.specs.declared.rule.Rule.{Rule}
use Rattle.acl_model.proofs.Members.{Has, has_none, has_cases}
use Rattle.acl_model.proofs.PlaceLaws.{same_number}
use Rattle.acl_walk.specs.Open.{OpenPlace, open_at, places_of}
use Rattle.acl_walk.specs.inside.OpenLaws.{places_of-append, places_of-prefixes}
use Rattle.acl_walk.specs.Spelling.{Spells}
use Rattle.acl_walk.specs.declared.event.Event.{Event}
use Rattle.token_stack.specs.Bounds.{Knowledge, first_events, KnowsNoLessAt, sure_rules, may_rules, learned}
use Rattle.token_stack.specs.Bounds.{place_of_level, AreStillOpen, KnowsNoLessUpTo, rows_up_to, AreRulesBeyond}
use Rattle.token_stack.specs.Bounds.{StandsBy}
use Rattle.token_stack.specs.PredicateLevels.{PredicateLevel, TellsLevel, TellLevels, joined_level, joined_with}
use Rattle.token_stack.specs.PredicateLevels.{level_of_number, learned_levels, names_at, are_all_met, may_all_be}
use Rattle.token_stack.specs.PredicateLevels.{StepTests, AreTestsOf, kept_rows, outermost, rules_of_level}
use Rattle.token_stack.specs.StateRows.{StepStates, ArePath, last_of_path, taken_row}
use Rattle.token_stack.specs.TokensStand.{StandInDocument}
use Rattle.token_stack.proofs.BoundRows.{other_number, AtLevel, level_found, level_at, at_each, open_has}
use Rattle.token_stack.proofs.BoundRows.{learned-more, learned_sure, learned_may}
use Rattle.token_stack.proofs.BoundRows.{learned-read}
use Rattle.token_stack.proofs.OpenLaws.{stand_at}
use Rattle.token_stack.proofs.PredicateLevelLaws.{chain_at-below, joined_back, joined_learned, learned_beyond}
use Rattle.token_stack.proofs.PredicateLevelLaws.{levels_sure_rules, levels_may_rules}
use Rattle.token_stack.proofs.StateRowLaws.{InLine, prefixes-in_line}

-- ---- the element of a level

drop_past : {X : Type 0} (inner ys : List X) → drop (length inner) (inner ++ ys) ≡ ys
drop_past [] ys = refl
drop_past (x ∷ inner) ys = drop_past inner ys

open_in_line : (list : List Event) (i : ℕ) → InLine (places_of (open_at list i))
open_in_line list i = by (open_at list i) refl
  where
    by : (elements : List OpenPlace) → open_at list i ≡ elements → InLine (places_of elements)
    by [] is = tt
    by (element ∷ up) is =
        subst InLine (sym (places_of-prefixes list i element up is)) (prefixes-in_line element.place)

in_line-inner : (inner ps : List (List ℕ)) → InLine (inner ++ ps) → InLine ps
in_line-inner [] ps line = line
in_line-inner (p ∷ inner) ps line = in_line-inner inner ps line.1

length-prefixes : (place : List ℕ) → length (prefixes place) ≡ suc (length place)
length-prefixes [] = refl
length-prefixes (k ∷ place) =
    let both = length-append (map (λ p. k ∷ p) (prefixes place)) ([] ∷ []) in
    let long = length-map (prefixes place) (λ p. k ∷ p) in
    let rest = length-prefixes place in
    omega (arith, both, long, rest)

module _ (list : List Event) (i level : ℕ) (place : List ℕ) (found : AtLevel (open_at list i) level place) where
  -- The places of an open element and of those around it are the prefixes of its place.
  places_at : prefixes place ≡ places_of (found.element ∷ found.up)
  places_at =
      let line : InLine (places_of (found.element ∷ found.up)) =
      in_line-inner (places_of found.inner) (places_of (found.element ∷ found.up))
      (subst InLine (ap places_of found.cut ∙ places_of-append found.inner (found.element ∷ found.up))
      (open_in_line list i)) in
      ap prefixes (sym found.here) ∙ line.0

  -- The level of an element is one more than the length of its place.
  level_is : level ≡ suc (length place)
  level_is =
      let long = length-map (found.element ∷ found.up) (λ (element : OpenPlace). element.place) in
      let same : length (prefixes place) ≡ length (places_of (found.element ∷ found.up)) = ap length places_at in
      let all = length-prefixes place in
      let size = found.size in
      omega (arith, long, same, all, size)

-- Each open element has a level.
level_of_open : (elements : List OpenPlace) (p : List ℕ) → Has (places_of elements) p
    → (k : ℕ) × (k ≤ length elements) × (place_of_level elements k ≡ Some p)
level_of_open [] p h = absurd (has_none p h)
level_of_open (element ∷ up) p h = elim (has_cases element.place p (places_of up) h) [
  | inl same ↦ (
    length (element ∷ up),
    omega arith,
    ap (λ b. cond b (Some element.place) (place_of_level up (length (element ∷ up))))
        (same_number (length (element ∷ up))) ∙ ap Some same,
  )
  | inr later ↦
      let rest = level_of_open up p later in
      let short : rest.0 ≤ length up = rest.1 in (
        rest.0,
        omega (arith, short),
        ap (λ b. cond b (Some element.place) (place_of_level up rest.0))
            (other_number rest.0 (length (element ∷ up)) (omega (arith, short))) ∙ rest.2,
      )
]

level-inner : (inner elements : List OpenPlace) (k : ℕ) → k ≤ length elements
    → place_of_level (inner ++ elements) k ≡ place_of_level elements k
level-inner [] elements k short = refl
level-inner (x ∷ inner) elements k short =
    let long = length-append inner elements in
    ap (λ b. cond b (Some x.place) (place_of_level (inner ++ elements) k))
    (other_number k (suc (length (inner ++ elements))) (omega (arith, long, short)))
    ∙ level-inner inner elements k short

-- An element around an open one is open, and its level is no greater.
prefix_open : (list : List Event) (i level : ℕ) (place q : List ℕ) → AtLevel (open_at list i) level place
    → Has (prefixes place) q
    → (k : ℕ) × (k ≤ level) × (place_of_level (open_at list i) k ≡ Some q)
prefix_open list i level place q found h =
    let inside = level_of_open (found.element ∷ found.up) q
    (subst (λ ps. Has ps q) (places_at list i level place found) h) in
    let short : inside.0 ≤ length (found.element ∷ found.up) = inside.1 in
    let size = found.size in (
      inside.0,
      omega (arith, short, size),
      ap (λ es. place_of_level es inside.0) found.cut
          ∙ level-inner found.inner (found.element ∷ found.up) inside.0 short ∙ inside.2,
    )

at_prefixes : (places : List (List ℕ)) (known more : Knowledge) → ((q : List ℕ) → Has places q → known q ≤ more q)
    → KnowsNoLessAt places known more
at_prefixes [] known more least = tt
at_prefixes (place ∷ places) known more least =
    (least place (0, refl), at_prefixes places known more (λ q h. least q (suc h.0, h.1)))

-- ---- the sets of rules after a look-ahead

module _ (rules : List Rule) (d : Doc) (list : List Event) (i j level : ℕ) (own ahead : Knowledge)
    (still : AreStillOpen list i j level) (more : KnowsNoLessUpTo list i level own ahead) where
  near_level : (k : ℕ) (place : List ℕ) → k ≤ level → place_of_level (open_at list i) k ≡ Some place
      → (length place < level) × KnowsNoLessAt (prefixes place) own ahead
  near_level k place near is =
      let found = level_found (open_at list i) k place is in
      let number : k ≡ suc (length place) = level_is list i k place found in (
        omega (arith, number, near),
        at_prefixes (prefixes place) own ahead (λ q h.
            let above = prefix_open list i k place q found h in
            let short : above.0 ≤ k = above.1 in
            more above.0 q (omega (arith, short, near)) above.2),
      )

  row_by : (near far : ℕ → List ℕ) (row : List ℕ) (k : ℕ) → (k ≤ level → near k ≡ row) → (level < k → far k ≡ row)
      → rows_up_to level near far k ≡ row
  row_by near far row k to_near to_far = by (nat_le k level) refl
    where
      by : (b : Bool) → nat_le k level ≡ b → cond b (near k) (far k) ≡ row
      by true is = to_near (grind (arith, nat_tests, is))
      by false is = to_far (grind (arith, nat_tests, is))

  -- Up to the level of a look-ahead the sets that stand ahead stand after it.
  pub learned_stands : (surely possibly ahead_surely ahead_possibly deeper_surely deeper_possibly : ℕ → List ℕ)
      → StandsBy rules d list i own surely possibly → StandsBy rules d list j ahead ahead_surely ahead_possibly
      → AreRulesBeyond rules d list i (learned level own ahead) level deeper_surely deeper_possibly
      → StandsBy rules d list i (learned level own ahead) (rows_up_to level ahead_surely deeper_surely)
      (rows_up_to level ahead_possibly deeper_possibly)
  learned_stands surely possibly ahead_surely ahead_possibly deeper_surely deeper_possibly stand onward beyond =
      record {
        read = λ k place is.
            let least : i ≤ own place = stand.read k place is in
            let grows : own place ≤ learned level own ahead place = learned-more level own ahead place in
            omega (arith, least, grows);
        sure = λ k place is. row_by ahead_surely deeper_surely
            (sure_rules rules d list (learned level own ahead) place) k
            (λ near.
            let here = near_level k place near is in
            onward.sure k place (sym (still k near) ∙ is)
            ∙ sym (learned_sure rules d list level own ahead place here.0 here.1))
            (λ far. (beyond k place far is).0);
        may = λ k place is. row_by ahead_possibly deeper_possibly
            (may_rules rules d list (learned level own ahead) place) k
            (λ near.
            let here = near_level k place near is in
            onward.may k place (sym (still k near) ∙ is)
            ∙ sym (learned_may rules d list level own ahead place here.0 here.1))
            (λ far. (beyond k place far is).1);
      }

-- ---- the levels after a look-ahead

module _ (preds : List Pred) (d : Doc) (list : List Event) where
  levels_length : (known : Knowledge) (places : List (List ℕ)) (levels : List PredicateLevel)
      → TellLevels preds d list known places levels → length levels ≡ length places
  levels_length known [] [] tell = refl
  levels_length known [] (level ∷ levels) tell = absurd tell
  levels_length known (place ∷ places) [] tell = absurd tell
  levels_length known (place ∷ places) (level ∷ levels) tell = ap suc (levels_length known places levels tell.1)

  -- the level with the number of an open element
  level_told : (known : Knowledge) (elements : List OpenPlace) (levels : List PredicateLevel) (k : ℕ) (p : List ℕ)
      → TellLevels preds d list known (places_of elements) levels
      → place_of_level elements k ≡ Some p
      → (level : PredicateLevel) × (level_of_number levels k ≡ Some level) × TellsLevel preds d list (known p) p level
  level_told known [] levels k p tell is = absurd (none-some p is)
  level_told known (element ∷ up) [] k p tell is = absurd tell
  level_told known (element ∷ up) (level ∷ levels) k p tell is =
      let long = levels_length known (places_of up) levels tell.1 in
      let places = length-map up (λ (x : OpenPlace). x.place) in
      let same : length (level ∷ levels) ≡ length (element ∷ up) = omega (arith, long, places) in
      by (nat_eq k (length (element ∷ up))) (ap (nat_eq k) same) is (level_told known up levels k p tell.1)
    where
      by : (b : Bool) → nat_eq k (length (level ∷ levels)) ≡ b
          → cond b (Some element.place) (place_of_level up k) ≡ Some p
          → (place_of_level up k ≡ Some p
          → (l : PredicateLevel) × (level_of_number levels k ≡ Some l) × TellsLevel preds d list (known p) p l)
          → (l : PredicateLevel) × (level_of_number (level ∷ levels) k ≡ Some l) × TellsLevel preds d list
          (known p) p l
      by true number there rest = (
        level,
        ap (λ b. cond b (Some level) (level_of_number levels k)) number,
        subst (λ q. TellsLevel preds d list (known q) q level) (same_Some element.place p there) tell.0,
      )
      by false number there rest =
          let found = rest there in
          (found.0, ap (λ b. cond b (Some level) (level_of_number levels k)) number ∙ found.1, found.2)

  -- Whichever knows more, two levels together tell what is known after a look-ahead.
  joined_most : (level : ℕ) (own ahead : Knowledge) (place : List ℕ) (one other : PredicateLevel)
      → length place < level
      → TellsLevel preds d list (own place) place one → TellsLevel preds d list (ahead place) place other
      → TellsLevel preds d list (learned level own ahead place) place (joined_level one other)
  joined_most level own ahead place one other near first second = by (nat_lt (own place) (ahead place)) refl
    where
      by : (b : Bool) → nat_lt (own place) (ahead place) ≡ b
          → TellsLevel preds d list (learned level own ahead place) place (joined_level one other)
      by true is =
          let less : own place < ahead place = ltb-true (own place) (ahead place) is in
          joined_learned preds d list level own ahead place one other near (omega (arith, less)) first second
      by false is =
          let most : ahead place ≤ own place = grind (arith, nat_tests, is) in
          let same : learned level own ahead place ≡ own place =
          ap (λ b. cond (b && nat_lt (own place) (ahead place)) (ahead place) (own place))
          (lt-ltb (length place) level near)
          ∙ ap (λ b. cond b (ahead place) (own place)) is in
          subst (λ k. TellsLevel preds d list k place (joined_level one other)) (sym same)
          (joined_back preds d list place (ahead place) (own place) one other most first second)

  module _ (i j level : ℕ) (own ahead : Knowledge) (other : List PredicateLevel) (still : AreStillOpen list i j level)
      (onward : TellLevels preds d list ahead (places_of (open_at list j)) other) where
    learned_level : (inner : List OpenPlace) (element : OpenPlace) (up : List OpenPlace) (one : PredicateLevel)
        (levels : List PredicateLevel)
        → open_at list i ≡ inner ++ (element ∷ up) → length (one ∷ levels) ≡ length (element ∷ up)
        → TellsLevel preds d list (own element.place) element.place one
        → TellsLevel preds d list (learned level own ahead element.place) element.place
        (cond (nat_le (length (one ∷ levels)) level)
        (joined_with one (level_of_number other (length (one ∷ levels)))) one)
    learned_level inner element up one levels cut same tells = by (nat_le (length (one ∷ levels)) level) refl
      where
        found : AtLevel (open_at list i) (length (one ∷ levels)) element.place
        found = record { inner = inner; element = element; up = up; cut = cut; size = same; here = refl }

        number : length (one ∷ levels) ≡ suc (length element.place)
        number = level_is list i (length (one ∷ levels)) element.place found

        opened : place_of_level (open_at list i) (length (one ∷ levels)) ≡ Some element.place
        opened = ap (place_of_level (open_at list i)) same ∙ level_at (open_at list i) inner element up cut

        by : (b : Bool) → nat_le (length (one ∷ levels)) level ≡ b
            → TellsLevel preds d list (learned level own ahead element.place) element.place
            (cond b (joined_with one (level_of_number other (length (one ∷ levels)))) one)
        by true is =
            let near : length (one ∷ levels) ≤ level = grind (arith, nat_tests, is) in
            let told = level_told ahead (open_at list j) other (length (one ∷ levels)) element.place onward
            (sym (still (length (one ∷ levels)) near) ∙ opened) in
            subst (λ o. TellsLevel preds d list (learned level own ahead element.place) element.place
            (joined_with one o)) (sym told.1)
            (joined_most level own ahead element.place one told.0 (omega (arith, near, number)) tells told.2)
        by false is =
            let past : level < length (one ∷ levels) = grind (arith, nat_tests, is) in
            learned_beyond preds d list level own ahead element.place one (omega (arith, past, number)) tells

    learned_along : (inner elements : List OpenPlace) (levels : List PredicateLevel)
        → open_at list i ≡ inner ++ elements → TellLevels preds d list own (places_of elements) levels
        → TellLevels preds d list (learned level own ahead) (places_of elements) (learned_levels level levels other)
    learned_along inner [] [] cut tell = tt
    learned_along inner [] (one ∷ levels) cut tell = absurd tell
    learned_along inner (element ∷ up) [] cut tell = absurd tell
    learned_along inner (element ∷ up) (one ∷ levels) cut tell =
        let long = levels_length own (places_of up) levels tell.1 in
        let places = length-map up (λ (x : OpenPlace). x.place) in (
          learned_level inner element up one levels cut (omega (arith, long, places)) tell.0,
          learned_along (inner ++ (element ∷ [])) up levels (cut ∙ sym (append_assoc inner (element ∷ []) up)) tell.1,
        )

    -- After a look-ahead the learned levels tell what is known then.
    pub levels_learn : (levels : List PredicateLevel)
        → TellLevels preds d list own (places_of (open_at list i)) levels
        → TellLevels preds d list (learned level own ahead) (places_of (open_at list i))
        (learned_levels level levels other)
    levels_learn levels tell = learned_along [] (open_at list i) levels refl tell

  -- ---- the levels from an element outward

  tell_drop : (known : Knowledge) (n : ℕ) (places : List (List ℕ)) (levels : List PredicateLevel)
      → TellLevels preds d list known places levels → TellLevels preds d list known (drop n places) (drop n levels)
  tell_drop known zero places levels tell = tell
  tell_drop known (suc n) [] [] tell = tt
  tell_drop known (suc n) [] (level ∷ levels) tell = absurd tell
  tell_drop known (suc n) (place ∷ places) [] tell = absurd tell
  tell_drop known (suc n) (place ∷ places) (level ∷ levels) tell = tell_drop known n places levels tell.1

-- The places of an element and of those around it are the outermost ones.
outermost_places : (list : List Event) (i level : ℕ) (place : List ℕ)
    → place_of_level (open_at list i) level ≡ Some place
    → outermost level (places_of (open_at list i)) ≡ prefixes place
outermost_places list i level place is =
    let found = level_found (open_at list i) level place is in
    let inner : List (List ℕ) = places_of found.inner in
    let rest : List (List ℕ) = places_of (found.element ∷ found.up) in
    let parts : places_of (open_at list i) ≡ inner ++ rest = ap places_of found.cut
    ∙ places_of-append found.inner (found.element ∷ found.up) in
    let size = found.size in
    let long = length-append inner rest in
    let own = length-map (found.element ∷ found.up) (λ (x : OpenPlace). x.place) in
    let number : length (inner ++ rest) - level ≡ length inner = omega (arith, size, long, own) in
    ap (λ ps. drop (length ps - level) ps) parts ∙ ap (λ n. drop n (inner ++ rest)) number ∙ drop_past inner rest
    ∙ sym (places_at list i level place found)

-- The levels of the open elements from one outward are those of its place and its prefixes.
pub outermost_levels : (preds : List Pred) (d : Doc) (list : List Event) (i : ℕ) (known : Knowledge)
    (levels : List PredicateLevel) (k : ℕ) (place : List ℕ)
    → TellLevels preds d list known (places_of (open_at list i)) levels
    → place_of_level (open_at list i) k ≡ Some place
    → TellLevels preds d list known (prefixes place) (outermost k levels)
outermost_levels preds d list i known levels k place tell is =
    let long = levels_length preds d list known (places_of (open_at list i)) levels tell in
    subst (λ ps. TellLevels preds d list known ps (outermost k levels)) (outermost_places list i k place is)
    (subst (λ n. TellLevels preds d list known (outermost k (places_of (open_at list i))) (drop (n - k) levels))
    (sym long)
    (tell_drop preds d list known (length (places_of (open_at list i)) - k) (places_of (open_at list i)) levels tell))

-- So are the names.
pub outermost_names : (d : Doc) (list : List Event) (i k : ℕ) (place : List ℕ)
    → place_of_level (open_at list i) k ≡ Some place
    → outermost k (names_at d (places_of (open_at list i))) ≡ names_at d (prefixes place)
outermost_names d list i k place is =
    let name : List ℕ → List ℕ = λ p. option_map_or (λ (e : Element). e.name) (at d p) [] in
    ap (λ n. drop (n - k) (map name (places_of (open_at list i)))) (length-map (places_of (open_at list i)) name)
    ∙ drop-map name (length (places_of (open_at list i)) - k) (places_of (open_at list i))
    ∙ ap (map name) (outermost_places list i k place is)

in_document-inner : (names : List (List ℕ)) (d : Doc) (inner elements : List OpenPlace)
    → StandInDocument names d (inner ++ elements) → StandInDocument names d elements
in_document-inner names d [] elements stand = stand
in_document-inner names d (x ∷ inner) elements stand = in_document-inner names d inner elements stand.1

-- There is an element at the place of each open one.
pub element_at : (names : List (List ℕ)) (d : Doc) (list : List Event) (i k : ℕ) (place : List ℕ) → length names ≤ 256
    → Spells names (Some d) list
    → place_of_level (open_at list i) k ≡ Some place → (e : Element) × (at d place ≡ Some e)
element_at names d list i k place few spells is =
    let found = level_found (open_at list i) k place is in
    let all : StandInDocument names d (found.element ∷ found.up) =
    in_document-inner names d found.inner (found.element ∷ found.up)
    (subst (StandInDocument names d) found.cut (stand_at names d list i few spells)) in (
      all.0.e,
      ap (at d) (sym found.here)
          ∙ chain_at-below d.root [] found.element.place all.0.e all.0.above all.0.there,
    )

-- The levels of the open elements give sets of rules that stand.
pub levels_stand : (names : List (List ℕ)) (rules : List Rule) (d : Doc) (list : List Event) (i : ℕ)
    (preds : List Pred) (known : Knowledge) (states : StepStates) (tests : StepTests) (begins : ℕ → ℕ)
    → (levels : List PredicateLevel) → length names ≤ 256 → Spells names (Some d) list
    → ((n : ℕ) (rule : Rule) → slice_get rules n ≡ Some rule
    → ArePath states (begins n) rule.path.steps × AreTestsOf preds tests (begins n) rule.path.steps)
    → KnowsNoLessAt (places_of (open_at list i)) (first_events i) known
    → TellLevels preds d list known (places_of (open_at list i)) levels
    → StandsBy rules d list i known
    (rules_of_level rules states tests begins are_all_met (names_at d (places_of (open_at list i))) levels)
    (rules_of_level rules states tests begins may_all_be (names_at d (places_of (open_at list i))) levels)
levels_stand names rules d list i preds known states tests begins levels few spells are read tell = record {
  read = λ k place is. at_each (places_of (open_at list i)) (first_events i) known read place
      (open_has (open_at list i) k place is);
  sure = λ k place is.
      let e = element_at names d list i k place few spells is in
      ap (λ ns. row_of (λ n. option_map_or
      (λ (rule : Rule). taken_row states (kept_rows tests are_all_met ns (outermost k levels))
      (last_of_path (begins n) rule.path.steps)) (slice_get rules n) false))
      (outermost_names d list i k place is)
      ∙ sym (levels_sure_rules rules d list preds known states tests begins place e.0 (outermost k levels) are e.1
      (outermost_levels preds d list i known levels k place tell is));
  may = λ k place is.
      let e = element_at names d list i k place few spells is in
      ap (λ ns. row_of (λ n. option_map_or
      (λ (rule : Rule). taken_row states (kept_rows tests may_all_be ns (outermost k levels))
      (last_of_path (begins n) rule.path.steps)) (slice_get rules n) false))
      (outermost_names d list i k place is)
      ∙ sym (levels_may_rules names rules d list preds known states tests begins place e.0
      (outermost k levels) few spells are e.1 (outermost_levels preds d list i known levels k place tell is));
}

-- After a look-ahead the sets that stand ahead and those of the learned levels stand.
pub learned_levels_stand : (names : List (List ℕ)) (rules : List Rule) (d : Doc) (list : List Event) (i j level : ℕ)
    → (preds : List Pred) (own ahead : Knowledge) (states : StepStates) (tests : StepTests) (begins : ℕ → ℕ)
    → (levels other : List PredicateLevel) (ahead_surely ahead_possibly : ℕ → List ℕ) → length names ≤ 256
    → Spells names (Some d) list
    → ((n : ℕ) (rule : Rule) → slice_get rules n ≡ Some rule
    → ArePath states (begins n) rule.path.steps × AreTestsOf preds tests (begins n) rule.path.steps)
    → AreStillOpen list i j level → KnowsNoLessUpTo list i level own ahead
    → KnowsNoLessAt (places_of (open_at list i)) (first_events i) own
    → TellLevels preds d list own (places_of (open_at list i)) levels
    → TellLevels preds d list ahead (places_of (open_at list j)) other
    → StandsBy rules d list j ahead ahead_surely ahead_possibly
    → StandsBy rules d list i (learned level own ahead)
    (rows_up_to level ahead_surely (rules_of_level rules states tests begins are_all_met
    (names_at d (places_of (open_at list i))) (learned_levels level levels other)))
    (rows_up_to level ahead_possibly (rules_of_level rules states tests begins may_all_be
    (names_at d (places_of (open_at list i))) (learned_levels level levels other)))
learned_levels_stand names rules d list i j level preds own ahead states tests begins levels other surely possibly few
    spells are still more read tell onward stand =
    let before = levels_stand names rules d list i preds own states tests begins levels few spells are read tell in
    let after = levels_stand names rules d list i preds (learned level own ahead) states tests begins
    (learned_levels level levels other) few spells are
    (learned-read level i own ahead (places_of (open_at list i)) read)
    (levels_learn preds d list i j level own ahead other still onward levels tell) in
    learned_stands rules d list i j level own ahead still more _ _ surely possibly _ _ before stand
    (λ k place far is. (after.sure k place is, after.may k place is))
