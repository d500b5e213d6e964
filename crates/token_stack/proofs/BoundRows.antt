-- The rules of each level lie between the bounds, and a look-ahead gives more of what is known.
use Rattle.std.proofs.Common.{◌≡◌, ◌≤◌, ◌<◌, ◌+◌, ◌-◌, ℕ, zero, suc, Bool, true, false, nat_eq, nat_lt, not, ◌&&◌}
use Rattle.std.proofs.Common.{◌||◌, Option, Some, None, List, [], ◌∷◌, ◌++◌, length, take, refl, ap, sym, subst, ◌∙◌}
use Rattle.std.proofs.Common.{inl, inr, arith, cond}
use Rattle.std.proofs.lemmas.Bool.{true≢false, cases_lt, eqb-true, ne_eqb, lt-ltb, ltb-true}
use Rattle.std.proofs.lemmas.Bool.Decides.{nat_tests}
use Rattle.std.specs.Cmp.{second_so}
use Rattle.std.proofs.lemmas.List.{length-append}
use Rattle.std.proofs.lemmas.Option.{same_Some, none-some}
use Rattle.std.specs.List.{list_all, slice_get}
use Rattle.std.specs.Option.{option_map_or}
use Rattle.acl_bits.specs.Row.{row_of, is_member}
use Rattle.acl_bits.specs.inside.RowLaws.{is_member-row_of_past, row_of-same, row_of-is_member}
use Rattle.acl_model.specs.RuleNumbers.{numbers_of}
use Rattle.acl_model.specs.Dictionary.{are_distinct}
use Rattle.acl_model.specs.Places.{prefixes}
use Rattle.acl_model.specs.Select.{select}
use Rattle.acl_model.specs.declared.document.Doc.{Doc}
use Rattle.acl_model.specs.declared.path.Pred.{Pred}
use Rattle.acl_model.specs.declared.rule.Rule.{Rule}
use Rattle.acl_model.proofs.Members.{Has, has_none, has_later, has_cases}
use Rattle.acl_model.proofs.PlaceLaws.{same_number}
use Rattle.acl_walk.specs.Open.{OpenPlace, next_place, with_child, open_after, open_after_events, open_at, places_of}
use Rattle.acl_walk.specs.Spelling.{Spells}
use Rattle.acl_walk.specs.declared.event.Event.{Event}
use Rattle.acl_walk.specs.declared.event.Event.TheVariants.{Begin, Attr, HeadEnd, Text, Finish, End}
use Rattle.rule_automata.specs.Compile.{automata_of, have_no_predicates, is_empty_of}
use Rattle.token_stack.specs.Bounds.{KnowsNoLessUpTo, first_events}
use Rattle.token_stack.specs.Bounds.{PredicateTruth, Knowledge, is_met, is_settled, KnowsNoLess, KnowsNoLessAt}
use Rattle.token_stack.specs.Bounds.{sure_truth, may_truth, selects_by, rules_by, sure_rules, may_rules, are_settled}
use Rattle.token_stack.specs.Bounds.{learned, place_of_level, AreStillOpen, StandsBy}
use Rattle.token_stack.specs.Invariant.{does_rule_select, Stands, row_at}
use Rattle.token_stack.specs.SignRows.{IsInOrder}
use Rattle.token_stack.specs.Stack.{TokenStack}
use Rattle.token_stack.specs.TokensStand.{TokensStandAt}
use Rattle.token_stack.proofs.BoundLaws.{all_has, same_by, selects_grow_above, prefix_short, sure_selected, selected_may, sure_selects_more, may_selects_less, may_sure, plain_selects}
use Rattle.token_stack.proofs.FeedLaws.{standing_rows}
use Rattle.token_stack.proofs.InvariantLaws.{member_passes, passes_member, selects_within}

-- ---- rules by a truth of predicates

-- The rule of this number is one of the rules, and its path selects the place by the truth.
abbrev selected_by : List Rule → Doc → PredicateTruth → List ℕ → ℕ → Bool
selected_by rules d truth place n = option_map_or (λ r. selects_by d truth r.path place) (slice_get rules n) false

rules_by-row : (rules : List Rule) (d : Doc) (truth : PredicateTruth) (place : List ℕ) → rules_by rules d truth place ≡ row_of (selected_by rules d truth place)
unfolding row_of numbers_of
rules_by-row rules d truth place = refl

member_small : (p : ℕ → Bool) (row : List ℕ) (n : ℕ) → row ≡ row_of p → is_member row n ≡ true → n < 256
member_small p row n is member = elim (cases_lt n 256) [
  | inl small ↦ small
  | inr past ↦ absurd (true≢false (sym member ∙ ap (λ xs. is_member xs n) is ∙ is_member-row_of_past p n past))
]

some_grows : (f g : Rule → Bool) (o : Option Rule) → ((r : Rule) → o ≡ Some r → f r ≡ true → g r ≡ true) → option_map_or f o false ≡ true → option_map_or g o false ≡ true
some_grows f g None to so = so
some_grows f g (Some r) to so = to r refl so

-- Where each rule selects no less by the second truth, its set is no smaller.
rules_grow : (rules : List Rule) (d : Doc) (low high : PredicateTruth) (place : List ℕ) (n : ℕ)
    → ((r : Rule) → slice_get rules n ≡ Some r → selects_by d low r.path place ≡ true → selects_by d high r.path place ≡ true)
    → is_member (rules_by rules d low place) n ≡ true → is_member (rules_by rules d high place) n ≡ true
rules_grow rules d low high place n to member =
    passes_member (selected_by rules d high place) (rules_by rules d high place) n (rules_by-row rules d high place)
    (member_small (selected_by rules d low place) (rules_by rules d low place) n (rules_by-row rules d low place) member)
    (some_grows (λ r. selects_by d low r.path place) (λ r. selects_by d high r.path place) (slice_get rules n) to
    (member_passes (selected_by rules d low place) (rules_by rules d low place) n (rules_by-row rules d low place) member))

numbers_same : (f g : Rule → Bool) (rules : List Rule) → ((n : ℕ) → option_map_or f (slice_get rules n) false ≡ option_map_or g (slice_get rules n) false) → numbers_of f rules ≡ numbers_of g rules
unfolding numbers_of row_of
numbers_same f g rules same = row_of-same (λ n. option_map_or f (slice_get rules n) false) (λ n. option_map_or g (slice_get rules n) false) (λ n small. same n)

some_same : (f g : Rule → Bool) (o : Option Rule) → ((r : Rule) → o ≡ Some r → f r ≡ g r) → option_map_or f o false ≡ option_map_or g o false
some_same f g None same = refl
some_same f g (Some r) same = same r refl

-- Where no rule has a predicate, each truth gives the rules that select.
pub plain_rules : (rules : List Rule) (d : Doc) (truth : PredicateTruth) (place : List ℕ) → have_no_predicates rules ≡ true
    → rules_by rules d truth place ≡ numbers_of (λ r. select d r.path place) rules
plain_rules rules d truth place plain =
    numbers_same (λ r. selects_by d truth r.path place) (λ r. select d r.path place) rules
    (λ n. some_same (λ r. selects_by d truth r.path place) (λ r. select d r.path place) (slice_get rules n)
    (λ r is. plain_selects d truth r.path place (all_has (λ q. list_all (λ s. is_empty_of s.preds) q.path.steps) rules r plain (n, is))))

numbers-row : (rules : List Rule) (d : Doc) (place : List ℕ) → numbers_of (λ r. select d r.path place) rules ≡ row_of (λ n. option_map_or (λ r. select d r.path place) (slice_get rules n) false)
unfolding numbers_of row_of
numbers-row rules d place = refl

-- The rows of standing tokens, whose rules have no predicates, are those of each truth.
pub plain_row : (names : List (List ℕ)) (rules : List Rule) (d : Doc) (list : List Event) (i : ℕ) (tokens : TokenStack) (truth : PredicateTruth)
    → (inner : List OpenPlace) (element : OpenPlace) (up : List OpenPlace)
    → are_distinct names ≡ true → length names ≤ 256 → have_no_predicates rules ≡ true → Spells names (Some d) list
    → TokensStandAt (automata_of names rules).states list i tokens → open_at list i ≡ inner ++ (element ∷ up)
    → row_at tokens (length (element ∷ up)) ≡ rules_by rules d truth element.place
plain_row names rules d list i tokens truth inner element up distinct few plain spells stand is =
    standing_rows names rules d list i tokens inner element up distinct few plain spells stand is
    ∙ sym (plain_rules rules d truth element.place plain ∙ numbers-row rules d element.place)

-- ---- levels

pub other_number : (a b : ℕ) → a < b → nat_eq a b ≡ false
other_number a b less = ne_eqb a b (λ same. let is : a ≡ b = same in omega (arith, is, less))

-- the place of the level of an open element
pub level_split : (inner : List OpenPlace) (element : OpenPlace) (up : List OpenPlace)
    → place_of_level (inner ++ (element ∷ up)) (length (element ∷ up)) ≡ Some element.place
level_split [] element up = ap (λ b. cond b (Some element.place) (place_of_level up (length (element ∷ up)))) (same_number (length (element ∷ up)))
level_split (x ∷ inner) element up =
    let long : length (inner ++ (element ∷ up)) ≡ length inner + length (element ∷ up) = length-append inner (element ∷ up) in
    ap (λ b. cond b (Some x.place) (place_of_level (inner ++ (element ∷ up)) (length (element ∷ up))))
    (other_number (length (element ∷ up)) (suc (length (inner ++ (element ∷ up)))) (omega (arith, long)))
    ∙ level_split inner element up

-- the open element of a level that has a place
pub record AtLevel (elements : List OpenPlace) (level : ℕ) (place : List ℕ) : Type 0 where
  pub inner : List OpenPlace
  pub element : OpenPlace
  pub up : List OpenPlace
  pub cut : elements ≡ inner ++ (element ∷ up)
  pub size : level ≡ length (element ∷ up)
  pub here : element.place ≡ place

level_by : (element : OpenPlace) (up : List OpenPlace) (level : ℕ) (place : List ℕ) (b : Bool) → nat_eq level (length (element ∷ up)) ≡ b
    → cond b (Some element.place) (place_of_level up level) ≡ Some place → (place_of_level up level ≡ Some place → AtLevel up level place) → AtLevel (element ∷ up) level place
level_by element up level place true same is rest =
    record { inner = []; element = element; up = up; cut = refl; size = eqb-true level (length (element ∷ up)) same; here = same_Some element.place place is }
level_by element up level place false same is rest =
    let found = rest is in
    record { inner = element ∷ found.inner; element = found.element; up = found.up; cut = ap (λ es. element ∷ es) found.cut; size = found.size; here = found.here }

pub level_found : (elements : List OpenPlace) (level : ℕ) (place : List ℕ)
    → place_of_level elements level ≡ Some place → AtLevel elements level place
level_found [] level place is = absurd (none-some place is)
level_found (element ∷ up) level place is = level_by element up level place (nat_eq level (length (element ∷ up))) refl is (level_found up level place)

pub level_at : (elements inner : List OpenPlace) (element : OpenPlace) (up : List OpenPlace)
    → elements ≡ inner ++ (element ∷ up) → place_of_level elements (length (element ∷ up)) ≡ Some element.place
level_at elements inner element up is = ap (λ es. place_of_level es (length (element ∷ up))) is ∙ level_split inner element up

module _ (names : List (List ℕ)) (rules : List Rule) (d : Doc) (list : List Event) (spells : Spells names (Some d) list) where
  -- ---- the rules of a place

  pub sure_select : (known : Knowledge) (place : List ℕ) (n : ℕ) → is_member (sure_rules rules d list known place) n ≡ true → does_rule_select rules d n place ≡ true
  sure_select known place n member =
      some_grows (λ r. selects_by d (sure_truth d list known) r.path place) (λ r. select d r.path place) (slice_get rules n)
      (λ r is so. sure_selected names d list spells known r.path place so)
      (member_passes (selected_by rules d (sure_truth d list known) place) (sure_rules rules d list known place) n
      (rules_by-row rules d (sure_truth d list known) place) member)

  pub select_may : (known : Knowledge) (place : List ℕ) (n : ℕ) → length rules ≤ 256 → does_rule_select rules d n place ≡ true → is_member (may_rules rules d list known place) n ≡ true
  select_may known place n few so =
      passes_member (selected_by rules d (may_truth d list known) place) (may_rules rules d list known place) n
      (rules_by-row rules d (may_truth d list known) place)
      (let within : n < length rules = selects_within rules d n place so in omega (arith, within, few))
      (some_grows (λ r. select d r.path place) (λ r. selects_by d (may_truth d list known) r.path place) (slice_get rules n)
      (λ r is selects. selected_may names d list spells known r.path place selects) so)

  pub sure_rules_grow : (known more : Knowledge) (place : List ℕ) (n : ℕ) → KnowsNoLess known more
      → is_member (sure_rules rules d list known place) n ≡ true → is_member (sure_rules rules d list more place) n ≡ true
  sure_rules_grow known more place n later = rules_grow rules d (sure_truth d list known) (sure_truth d list more) place n
      (λ r is so. sure_selects_more names d list spells known more r.path place later so)

  pub may_rules_shrink : (known more : Knowledge) (place : List ℕ) (n : ℕ) → KnowsNoLess known more
      → is_member (may_rules rules d list more place) n ≡ true → is_member (may_rules rules d list known place) n ≡ true
  may_rules_shrink known more place n later = rules_grow rules d (may_truth d list more) (may_truth d list known) place n
      (λ r is so. may_selects_less names d list spells known more r.path place later so)

  -- A rule whose predicates are settled surely selects what it may select.
  pub settled_rule : (known : Knowledge) (place : List ℕ) (n : ℕ) (rule : Rule) → slice_get rules n ≡ Some rule → are_settled d list known rule.path place ≡ true
      → is_member (may_rules rules d list known place) n ≡ true → is_member (sure_rules rules d list known place) n ≡ true
  settled_rule known place n rule there settled = rules_grow rules d (may_truth d list known) (sure_truth d list known) place n
      (λ r is so. may_sure names d list spells known r.path place
      (ap (λ q. are_settled d list known q.path place) (same_Some r rule (sym is ∙ there)) ∙ settled) so)

  -- ---- levels

  -- Sets that stand by what is known are right for the open elements.
  pub stands_right : (i : ℕ) (known : Knowledge) (surely possibly : ℕ → List ℕ) → length rules ≤ 256
      → StandsBy rules d list i known surely possibly → Stands rules d (open_at list i) surely possibly
  stands_right i known surely possibly few stand = record {
    sure = λ inner element up n is member.
        sure_select known element.place n
        (sym (ap (λ row. is_member row n) (stand.sure (length (element ∷ up)) element.place (level_at (open_at list i) inner element up is))) ∙ member);
    may = λ inner element up n is so.
        ap (λ row. is_member row n) (stand.may (length (element ∷ up)) element.place (level_at (open_at list i) inner element up is))
        ∙ select_may known element.place n few so;
  }

  -- In sets that stand, a rule whose predicates are settled is sure where it is possible.
  pub settled_row : (i : ℕ) (known : Knowledge) (surely possibly : ℕ → List ℕ) (level : ℕ) (place : List ℕ) (n : ℕ) (rule : Rule)
      → StandsBy rules d list i known surely possibly
      → place_of_level (open_at list i) level ≡ Some place → slice_get rules n ≡ Some rule → are_settled d list known rule.path place ≡ true
      → is_member (possibly level) n ≡ true → is_member (surely level) n ≡ true
  settled_row i known surely possibly level place n rule stand is there settled member =
      ap (λ row. is_member row n) (stand.sure level place is)
      ∙ settled_rule known place n rule there settled (sym (ap (λ row. is_member row n) (stand.may level place is)) ∙ member)

  -- Standing tokens, whose rules have no predicates, stand by whatever is known.
  pub tokens_stand_by : (i : ℕ) (tokens : TokenStack) (known : Knowledge) → are_distinct names ≡ true → length names ≤ 256 → have_no_predicates rules ≡ true
      → TokensStandAt (automata_of names rules).states list i tokens → ((place : List ℕ) → i ≤ known place)
      → StandsBy rules d list i known (row_at tokens) (row_at tokens)
  tokens_stand_by i tokens known distinct few plain stand read = record {
    read = λ level place is. read place;
    sure = λ level place is. level_row (sure_truth d list known) level place is;
    may = λ level place is. level_row (may_truth d list known) level place is;
  }
    where
      level_row : (truth : PredicateTruth) (level : ℕ) (place : List ℕ) → place_of_level (open_at list i) level ≡ Some place
          → row_at tokens level ≡ rules_by rules d truth place
      level_row truth level place is =
          let f = level_found (open_at list i) level place is in
          ap (λ k. row_at tokens k) f.size
          ∙ plain_row names rules d list i tokens truth f.inner f.element f.up distinct few plain spells stand f.cut
          ∙ ap (λ p. rules_by rules d truth p) f.here

-- ---- what is known at some places

pub at_each : (places : List (List ℕ)) (known more : Knowledge) → KnowsNoLessAt places known more → (p : List ℕ)
    → Has places p → known p ≤ more p
at_each [] known more least p h = absurd (has_none p h)
at_each (place ∷ places) known more least p h = elim (has_cases place p places h) [
  | inl same ↦ subst (λ q. known q ≤ more q) same least.0
  | inr later ↦ at_each places known more least.1 p later
]

pub at_all : (places : List (List ℕ)) (known more : Knowledge) → ((p : List ℕ) → known p ≤ more p)
    → KnowsNoLessAt places known more
at_all [] known more least = tt
at_all (place ∷ places) known more least = (least place, at_all places known more least)

-- An open element's place is among the places of the open elements.
pub open_has : (elements : List OpenPlace) (k : ℕ) (p : List ℕ) → place_of_level elements k ≡ Some p
    → Has (places_of elements) p
open_has [] k p is = absurd (none-some p is)
open_has (element ∷ up) k p is = by (nat_eq k (length (element ∷ up))) (open_has up k p) is
  where
    by : (b : Bool) → (place_of_level up k ≡ Some p → Has (places_of up) p)
        → cond b (Some element.place) (place_of_level up k) ≡ Some p → Has (places_of (element ∷ up)) p
    by true rest there = (0, there)
    by false rest there = has_later element.place p (places_of up) (rest there)

-- ---- what a look-ahead tells

-- After a look-ahead no less is known.
pub learned-more : (level : ℕ) (own ahead : Knowledge) → KnowsNoLess own (learned level own ahead)
learned-more level own ahead bearer = by (nat_lt (length bearer) level && nat_lt (own bearer) (ahead bearer)) refl
  where
    by : (b : Bool) → (nat_lt (length bearer) level && nat_lt (own bearer) (ahead bearer)) ≡ b → own bearer ≤ cond b (ahead bearer) (own bearer)
    by true is =
        let less : own bearer < ahead bearer = ltb-true (own bearer) (ahead bearer) (second_so (nat_lt (length bearer) level) (nat_lt (own bearer) (ahead bearer)) is) in
        omega (arith, less)
    by false is = omega arith

-- So the events that were known are known still.
pub learned-read : (level i : ℕ) (own ahead : Knowledge) (places : List (List ℕ))
    → KnowsNoLessAt places (first_events i) own → KnowsNoLessAt places (first_events i) (learned level own ahead)
learned-read level i own ahead [] read = tt
learned-read level i own ahead (place ∷ places) read =
    let least : i ≤ own place = read.0 in
    let grows : own place ≤ learned level own ahead place = learned-more level own ahead place in
    (omega (arith, least, grows), learned-read level i own ahead places read.1)

-- Where ahead no less was known, no more is known after the look-ahead than ahead.
pub learned-no_more : (list : List Event) (i level : ℕ) (own ahead : Knowledge)
    → KnowsNoLessUpTo list i level own ahead → KnowsNoLessUpTo list i level (learned level own ahead) ahead
learned-no_more list i level own ahead more k place near is =
    by (nat_lt (length place) level && nat_lt (own place) (ahead place)) (more k place near is)
  where
    by : (b : Bool) → own place ≤ ahead place → cond b (ahead place) (own place) ≤ ahead place
    by true least = omega arith
    by false least = least

-- At an element of these levels what is known is what is known ahead, where that is no less.
pub learned-near : (level : ℕ) (own ahead : Knowledge) (bearer : List ℕ) → length bearer < level
    → own bearer ≤ ahead bearer → learned level own ahead bearer ≡ ahead bearer
learned-near level own ahead bearer near least =
    ap (λ b. cond (b && nat_lt (own bearer) (ahead bearer)) (ahead bearer) (own bearer)) (lt-ltb (length bearer) level near)
    ∙ by (nat_lt (own bearer) (ahead bearer)) refl
  where
    by : (b : Bool) → nat_lt (own bearer) (ahead bearer) ≡ b → cond b (ahead bearer) (own bearer) ≡ ahead bearer
    by true is = refl
    by false is = grind (arith, nat_tests, is, least)

-- Where two truths agree at an element and its ancestors, the same rules select it by both.
rules_same : (rules : List Rule) (d : Doc) (f g : PredicateTruth) (place : List ℕ) → ((p : List ℕ) (pred : Pred) → Has (prefixes place) p → f p pred ≡ g p pred)
    → rules_by rules d f place ≡ rules_by rules d g place
rules_same rules d f g place same =
    numbers_same (λ r. selects_by d f r.path place) (λ r. selects_by d g r.path place) rules
    (λ n. some_same (λ r. selects_by d f r.path place) (λ r. selects_by d g r.path place) (slice_get rules n)
    (λ r is. same_by (selects_by d f r.path place) (selects_by d g r.path place)
    (selects_grow_above d f g r.path place (λ p pred above so. sym (same p pred above) ∙ so))
    (selects_grow_above d g f r.path place (λ p pred above so. same p pred above ∙ so))))

-- For an element of these levels, a look-ahead gives the bounds that are known ahead.
module _ (rules : List Rule) (d : Doc) (list : List Event) (level : ℕ) (own ahead : Knowledge) (place : List ℕ)
    (near : length place < level) (more : KnowsNoLessAt (prefixes place) own ahead) where
  known_same : (p : List ℕ) → Has (prefixes place) p → learned level own ahead p ≡ ahead p
  known_same p above =
      let short : length p ≤ length place = prefix_short place p above in
      learned-near level own ahead p (omega (arith, short, near)) (at_each (prefixes place) own ahead more p above)

  pub learned_sure : sure_rules rules d list (learned level own ahead) place ≡ sure_rules rules d list ahead place
  learned_sure = rules_same rules d (sure_truth d list (learned level own ahead)) (sure_truth d list ahead) place
      (λ p pred above. ap (λ i. is_met d list i p pred) (known_same p above))

  pub learned_may : may_rules rules d list (learned level own ahead) place ≡ may_rules rules d list ahead place
  learned_may = rules_same rules d (may_truth d list (learned level own ahead)) (may_truth d list ahead) place
      (λ p pred above. ap (λ i. is_met d list i p pred || not (is_settled d list i p pred)) (known_same p above))

-- ---- order

row_in_order : (p : ℕ → Bool) (row : List ℕ) → row ≡ row_of p → IsInOrder row
row_in_order p row is = is ∙ sym (row_of-is_member p) ∙ ap (λ xs. row_of (is_member xs)) (sym is)

-- The rules of a place are in order.
pub rules-in_order : (rules : List Rule) (d : Doc) (truth : PredicateTruth) (place : List ℕ) → IsInOrder (rules_by rules d truth place)
rules-in_order rules d truth place = row_in_order (selected_by rules d truth place) (rules_by rules d truth place) (rules_by-row rules d truth place)

-- ---- elements that stay open

-- one more event
open-next : (elements : List OpenPlace) (list : List Event) (i : ℕ) (event : Event) → slice_get list i ≡ Some event
    → open_after_events elements (take (suc i) list) ≡ open_after (open_after_events elements (take i list)) event
open-next elements [] i event is = absurd (none-some event is)
open-next elements (x ∷ list) zero event is = ap (open_after elements) (same_Some x event is)
open-next elements (x ∷ list) (suc i) event is = open-next (open_after elements x) list i event is

open-past : (elements : List OpenPlace) (list : List Event) (i : ℕ) → slice_get list i ≡ None → open_after_events elements (take (suc i) list) ≡ open_after_events elements (take i list)
open-past elements [] zero is = refl
open-past elements [] (suc i) is = refl
open-past elements (x ∷ list) zero is = absurd (none-some x (sym is))
open-past elements (x ∷ list) (suc i) is = open-past (open_after elements x) list i is

level_with_child : (elements : List OpenPlace) (k : ℕ) → place_of_level (with_child elements) k ≡ place_of_level elements k
level_with_child [] k = refl
level_with_child (parent ∷ up) k = refl

length_with_child : (elements : List OpenPlace) → length (with_child elements) ≡ length elements
length_with_child [] = refl
length_with_child (parent ∷ up) = refl

-- An event changes no level that is open before and after it.
level_after : (elements : List OpenPlace) (event : Event) (k : ℕ) → k ≤ length elements → k ≤ length (open_after elements event)
    → place_of_level (open_after elements event) k ≡ place_of_level elements k
level_after elements (Begin tag below) k before past =
    let long : length (with_child elements) ≡ length elements = length_with_child elements in
    ap (λ b. cond b (Some (next_place elements)) (place_of_level (with_child elements) k)) (other_number k (suc (length (with_child elements))) (omega (arith, long, before)))
    ∙ level_with_child elements k
level_after elements (Attr piece) k before past = refl
level_after elements HeadEnd k before past = refl
level_after elements (Text piece) k before past = refl
level_after [] (Finish tag) k before past = refl
level_after (element ∷ up) (Finish tag) k before past =
    sym (ap (λ b. cond b (Some element.place) (place_of_level up k)) (other_number k (suc (length up)) (omega (arith, past))))
level_after elements End k before past = refl

level_next : (list : List Event) (i k : ℕ) (o : Option Event) → slice_get list i ≡ o → k ≤ length (open_at list i) → k ≤ length (open_at list (suc i))
    → place_of_level (open_at list (suc i)) k ≡ place_of_level (open_at list i) k
level_next list i k None is before past = ap (λ es. place_of_level es k) (open-past [] list i is)
level_next list i k (Some event) is before past =
    let next = open-next [] list i event is in
    ap (λ es. place_of_level es k) next ∙ level_after (open_at list i) event k before (subst (λ es. k ≤ length es) next past)

-- Where at least so many elements stay open, the elements of these levels do.
pub still_open : (list : List Event) (i level more : ℕ) → ((j : ℕ) → i ≤ j → j ≤ more + i → level ≤ length (open_at list j)) → AreStillOpen list i (more + i) level
still_open list i level zero many k near = let same : i ≡ 0 + i = omega arith in ap (λ m. place_of_level (open_at list m) k) same
still_open list i level (suc more) many k near =
    let here : level ≤ length (open_at list (more + i)) = many (more + i) (omega arith) (omega arith) in
    let past : level ≤ length (open_at list (suc (more + i))) = many (suc (more + i)) (omega arith) (omega arith) in
    still_open list i level more (λ j from to. many j from (omega (arith, to))) k near
    ∙ sym (level_next list (more + i) k (slice_get list (more + i)) refl (omega (arith, near, here)) (omega (arith, near, past)))
    ∙ (let same : suc (more + i) ≡ suc more + i = omega arith in ap (λ m. place_of_level (open_at list m) k) same)

pub stay_open : (list : List Event) (i ahead level : ℕ) → i ≤ ahead → ((j : ℕ) → i ≤ j → j ≤ ahead → level ≤ length (open_at list j)) → AreStillOpen list i ahead level
stay_open list i ahead level later many =
    let sum : ahead - i + i ≡ ahead = omega (arith, later) in
    subst (λ m. AreStillOpen list i m level) sum (still_open list i level (ahead - i) (λ j from to. many j from (omega (arith, to, sum))))
