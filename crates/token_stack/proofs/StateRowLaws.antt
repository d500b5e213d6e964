-- The rows of states at each element are where the paths of predicates lead and what the steps of paths select.
use Rattle.std.proofs.Common.{◌≡◌, ℕ, zero, suc, Bool, true, false, ◌&&◌, ◌||◌, Option, Some, None, List, [], ◌∷◌, ◌++◌, map, take, drop, refl, ap, sym, subst, ◌∙◌, inl, inr, ◌⊎◌}
use Rattle.std.specs.Cmp.{first_so, second_so}
use Rattle.std.specs.List.{list_any, slice_get}
use Rattle.std.specs.Option.{option_map_or}
use Rattle.acl_model.specs.NameTests.{passes}
use Rattle.acl_model.specs.Places.{at, prefixes}
use Rattle.acl_model.specs.Select.{Node, NodeSet, virtual_root, leads}
use Rattle.acl_model.specs.declared.document.Doc.{Doc}
use Rattle.acl_model.specs.declared.path.Axis.{Axis}
use Rattle.acl_model.specs.declared.path.Axis.TheVariants.{Child, Descendant}
use Rattle.acl_model.specs.declared.path.Path.{Path}
use Rattle.acl_model.specs.declared.path.PredStep.{PredStep}
use Rattle.acl_model.specs.declared.path.Step.{Step}
use Rattle.acl_model.specs.declared.rule.Rule.{Rule}
use Rattle.acl_model.specs.RuleNumbers.{numbers_of}
use Rattle.acl_bits.specs.Row.{row_of}
use Rattle.acl_bits.specs.inside.RowLaws.{row_of-same}
use Rattle.acl_walk.proofs.MeetLaws.{both_so}
use Rattle.token_stack.specs.Bounds.{PredicateTruth, is_kept_by, step_by, steps_by, selects_by, rules_by}
use Rattle.token_stack.specs.StateRows.{StateRow, comes, SuffixStates, IsSuffix, empty_suffix, HasEmptyAlone, risen, StepStates, Begins, AreSteps, last_step, ArePath, last_of_path, IsKeptRow, AreKeptRows, waiting_row, taken_row, AreWithin}
use Rattle.token_stack.specs.WayNames.{is_deep, led}
use Rattle.token_stack.proofs.WayLaws.{and_or, or_false}

-- ---- tests

pub left_so : (a b : Bool) → a ≡ true → (a || b) ≡ true
left_so a b so = ap (λ c. c || b) so

pub right_so : (a b : Bool) → b ≡ true → (a || b) ≡ true
right_so true b so = refl
right_so false b so = so

pub or_cases : (a b : Bool) → (a || b) ≡ true → (a ≡ true) ⊎ (b ≡ true)
or_cases true b so = inl refl
or_cases false b so = inr so

-- ---- outward

and_swap : (a b : Bool) → (a && b) ≡ (b && a)
and_swap true true = refl
and_swap true false = refl
and_swap false true = refl
and_swap false false = refl

and_join : (a b c : Bool) → (a && (b && c)) ≡ ((a && b) && c)
and_join true b c = refl
and_join false b c = refl

-- whether a step leads on, or the same step leads further, each with the same end
one_end : (p l d m h : Bool) → (((l && h) && p) || (d && (m && h))) ≡ (((p && l) || (d && m)) && h)
one_end p l d m h =
    ap (λ b. b || (d && (m && h))) (and_swap (l && h) p ∙ and_join p l h)
    ∙ ap (λ b. ((p && l) && h) || b) (and_join d m h)
    ∙ sym (and_or (p && l) (d && m) h)

module _ (states : SuffixStates) (innermost : StateRow) where
  -- The rows from the innermost element outward say which suffixes lead to it.
  pub risen_led : (names : List (List ℕ)) (way : List PredStep) (n : ℕ) → IsSuffix states n way → HasEmptyAlone innermost n way
      → risen states innermost names n ≡ (led way names && innermost (empty_suffix n way))
  risen_led [] [] n is alone = refl
  risen_led [] (s ∷ way) zero is alone = absurd is
  risen_led [] (s ∷ way) (suc n) is alone = alone.0
  risen_led (name ∷ down) [] zero is alone = ap (λ b. b && risen states innermost down zero) is
  risen_led (name ∷ down) [] (suc n) is alone =
      let R : StateRow = risen states innermost down in
      ap (λ b. (b && (R n && states.lets n name)) || (states.deep (suc n) && R (suc n))) is.1
      ∙ ap (λ b. b && R (suc n)) is.0
  risen_led (name ∷ down) (s ∷ way) zero is alone = absurd is
  risen_led (name ∷ down) (s ∷ way) (suc n) is alone =
      let R : StateRow = risen states innermost down in
      let h : Bool = innermost (empty_suffix n way) in
      ap (λ b. (b && (R n && states.lets n name)) || (states.deep (suc n) && R (suc n))) is.0
      ∙ ap (λ b. (R n && b) || (states.deep (suc n) && R (suc n))) (is.2 name)
      ∙ ap (λ b. (R n && passes s.test name) || (b && R (suc n))) is.1
      ∙ ap (λ b. (b && passes s.test name) || (is_deep s.axis && R (suc n))) (risen_led down way n is.3 alone.1)
      ∙ ap (λ b. ((led way down && h) && passes s.test name) || (is_deep s.axis && b)) (risen_led down (s ∷ way) (suc n) is alone)
      ∙ one_end (passes s.test name) (led way down) (is_deep s.axis) (led (s ∷ way) down) h

-- ---- inward

-- an axis, over the nodes above, the nearest first
abbrev leads_among : Axis → NodeSet → List Node → Bool
leads_among Child set nodes = list_any set (take 1 nodes)
leads_among Descendant set nodes = list_any set nodes

-- places and the virtual root above them
abbrev nodes_of : List (List ℕ) → List Node
nodes_of places = map Some places ++ (None ∷ [])

-- Each place is followed by its prefixes.
abbrev pub InLine : List (List ℕ) → Type 0
InLine [] = Unit {0}
InLine (p ∷ up) = (prefixes p ≡ p ∷ up) × InLine up

in_line-deeper : (k : ℕ) (ps : List (List ℕ)) → InLine ps → InLine (map (λ p. k ∷ p) ps ++ ([] ∷ []))
in_line-deeper k [] line = (refl, tt)
in_line-deeper k (p ∷ up) line = (ap (λ qs. map (λ q. k ∷ q) qs ++ ([] ∷ [])) line.0, in_line-deeper k up line.1)

pub prefixes-in_line : (place : List ℕ) → InLine (prefixes place)
prefixes-in_line [] = (refl, tt)
prefixes-in_line (k ∷ place) = in_line-deeper k (prefixes place) (prefixes-in_line place)

leads-along : (axis : Axis) (set : NodeSet) (p : List ℕ) (up : List (List ℕ)) → prefixes p ≡ p ∷ up → leads_among axis set (nodes_of up) ≡ leads axis set p
leads-along Child set p up is = ap (λ ps. list_any set (take 1 (map Some (drop 1 ps) ++ (None ∷ [])))) (sym is)
leads-along Descendant set p up is = ap (λ ps. list_any set (map Some (drop 1 ps) ++ (None ∷ []))) (sym is)

near_or_far : (axis : Axis) (set : NodeSet) (p : List ℕ) (up : List (List ℕ))
    → (set (Some p) || (is_deep axis && leads_among axis set (nodes_of up))) ≡ leads_among axis set (nodes_of (p ∷ up))
near_or_far Child set p up = refl
near_or_far Descendant set p up = refl

leads_top : (axis : Axis) (set : NodeSet) → set None ≡ leads_among axis set (nodes_of [])
leads_top Child set = sym (or_false (set None))
leads_top Descendant set = sym (or_false (set None))

module _ (d : Doc) (truth : PredicateTruth) (states : StepStates) (Good : List ℕ → StateRow → Type 0) where
  -- Each of the places has a good row.
  abbrev Goods : List (List ℕ) → List StateRow → Type 0
  Goods [] [] = Unit {0}
  Goods [] (row ∷ rows) = ⊥
  Goods (place ∷ places) [] = ⊥
  Goods (place ∷ places) (row ∷ rows) = Good place row × Goods places rows

  -- A good row tells rightly which of these steps keep the element.
  abbrev Tells : ℕ → List Step → Type 0
  Tells n [] = Unit {0}
  Tells n (s ∷ more) = ((place : List ℕ) (row : StateRow) → Good place row → row n ≡ is_kept_by truth s place (at d place)) × Tells (suc n) more

  tells-all : (n : ℕ) (steps : List Step) → ((place : List ℕ) (row : StateRow) → Good place row → IsKeptRow d truth n steps place row) → Tells n steps
  tells-all n [] to = tt
  tells-all n (s ∷ more) to = ((λ place row good. (to place row good).0), tells-all (suc n) more (λ place row good. (to place row good).1))

  -- A state comes at the members of a set of nodes.
  abbrev ComesAt : ℕ → NodeSet → Type 0
  ComesAt n S = (p : List ℕ) (up : List (List ℕ)) (row : StateRow) (rows : List StateRow) → InLine (p ∷ up) → Good p row → Goods up rows
      → comes states.goes (waiting_row states rows) row n ≡ S (Some p)

  waits_is : (n : ℕ) (s : Step) (S : NodeSet) → states.deep n ≡ is_deep s.axis → states.first n ≡ S None → ComesAt n S
      → (ps : List (List ℕ)) (rows : List StateRow) → InLine ps → Goods ps rows → waiting_row states rows n ≡ leads_among s.axis S (nodes_of ps)
  waits_is n s S deep first from [] [] line good = first ∙ leads_top s.axis S
  waits_is n s S deep first from [] (row ∷ rows) line good = absurd good
  waits_is n s S deep first from (p ∷ up) [] line good = absurd good
  waits_is n s S deep first from (p ∷ up) (row ∷ rows) line good =
      ap (λ b. b || (states.deep n && waiting_row states rows n)) (from p up row rows line good.0 good.1)
      ∙ ap (λ b. S (Some p) || (b && waiting_row states rows n)) deep
      ∙ ap (λ b. S (Some p) || (is_deep s.axis && b)) (waits_is n s S deep first from up rows line.1 good.1)
      ∙ near_or_far s.axis S p up

  taken_is : (n : ℕ) (s : Step) (S : NodeSet) → states.deep n ≡ is_deep s.axis → states.first n ≡ S None → ComesAt n S
      → ((place : List ℕ) (row : StateRow) → Good place row → row n ≡ is_kept_by truth s place (at d place))
      → (p : List ℕ) (up : List (List ℕ)) (row : StateRow) (rows : List StateRow) → InLine (p ∷ up) → Good p row → Goods up rows
      → (waiting_row states rows n && row n) ≡ step_by d truth s S (Some p)
  taken_is n s S deep first from told p up row rows line good goods =
      ap (λ b. b && row n) (waits_is n s S deep first from up rows line.1 goods)
      ∙ ap (λ b. b && row n) (leads-along s.axis S p up line.0)
      ∙ ap (λ b. leads s.axis S p && b) (told p row good)

  steps_are_rows : (more : List Step) (n : ℕ) (s : Step) (S : NodeSet) → AreSteps states n s more → states.first n ≡ S None → ComesAt n S → Tells n (s ∷ more)
      → (p : List ℕ) (up : List (List ℕ)) (row : StateRow) (rows : List StateRow) → InLine (p ∷ up) → Good p row → Goods up rows
      → taken_row states (row ∷ rows) (last_step n more) ≡ steps_by d truth (s ∷ more) S (Some p)
  steps_are_rows [] n s S are first from told = taken_is n s S are first from told.0
  steps_are_rows (next ∷ more) n s S are first from told =
      steps_are_rows more (suc n) next (step_by d truth s S) are.3 are.2
      (λ p up row rows line good goods.
      ap (λ b. b && (waiting_row states rows n && row n)) are.1
      ∙ taken_is n s S are.0 first from told.0 p up row rows line good goods)
      told.1

comes_fresh : (states : StepStates) (n : ℕ) (row kept : StateRow) → Begins states n → comes states.goes row kept n ≡ false
comes_fresh states zero row kept begins = refl
comes_fresh states (suc n) row kept begins = ap (λ b. b && (row n && kept n)) begins.1

first_begins : (states : StepStates) (n : ℕ) → Begins states n → states.first n ≡ true
first_begins states zero begins = begins
first_begins states (suc n) begins = begins.0

kept_goods : (d : Doc) (truth : PredicateTruth) (states : StepStates) (n : ℕ) (steps : List Step) (ps : List (List ℕ)) (rows : List StateRow) → AreKeptRows d truth n steps ps rows
    → Goods d truth states (IsKeptRow d truth n steps) ps rows
kept_goods d truth states n steps [] [] are = tt
kept_goods d truth states n steps [] (row ∷ rows) are = absurd are
kept_goods d truth states n steps (p ∷ ps) [] are = absurd are
kept_goods d truth states n steps (p ∷ ps) (row ∷ rows) are = (are.0, kept_goods d truth states n steps ps rows are.1)

-- the same for places that begin with the place of an element
taken_along : (d : Doc) (truth : PredicateTruth) (states : StepStates) (n : ℕ) (s : Step) (more : List Step) (ps : List (List ℕ)) (rows : List StateRow) (place : List ℕ)
    → Begins states n → AreSteps states n s more → AreKeptRows d truth n (s ∷ more) ps rows → InLine ps → take 1 ps ≡ place ∷ []
    → taken_row states rows (last_step n more) ≡ steps_by d truth (s ∷ more) virtual_root (Some place)
taken_along d truth states n s more [] rows place begins are kept line head = cc
taken_along d truth states n s more (p ∷ up) [] place begins are kept line head = absurd kept
taken_along d truth states n s more (p ∷ up) (row ∷ rows) place begins are kept line head =
    steps_are_rows d truth states (IsKeptRow d truth n (s ∷ more)) more n s virtual_root are (first_begins states n begins)
    (λ q above r rs line good goods. comes_fresh states n (waiting_row states rs) r begins)
    (tells-all d truth states (IsKeptRow d truth n (s ∷ more)) n (s ∷ more) (λ place row good. good))
    p up row rows line kept.0 (kept_goods d truth states n (s ∷ more) up rows kept.1)
    ∙ (let same : p ≡ place = cc in ap (λ q. steps_by d truth (s ∷ more) virtual_root (Some q)) same)

prefixes-head : (place : List ℕ) → take 1 (prefixes place) ≡ place ∷ []
prefixes-head [] = refl
prefixes-head (k ∷ place) = head_of (prefixes place) (prefixes-head place)
  where
    head_of : (ps : List (List ℕ)) → take 1 ps ≡ place ∷ [] → take 1 (map (λ p. k ∷ p) ps ++ ([] ∷ [])) ≡ (k ∷ place) ∷ []
    head_of [] is = cc
    head_of (p ∷ ps) is = let same : p ≡ place = cc in ap (λ q. (k ∷ q) ∷ []) same

-- A path selects a place where its last step is taken there.
taken_selects : (d : Doc) (truth : PredicateTruth) (states : StepStates) (n : ℕ) (path : Path) (s : Step) (more : List Step) (place : List ℕ) (rows : List StateRow)
    → path.steps ≡ s ∷ more → Begins states n → AreSteps states n s more → AreKeptRows d truth n path.steps (prefixes place) rows
    → taken_row states rows (last_step n more) ≡ selects_by d truth path place
unfolding selects_by
taken_selects d truth states n path s more place rows is begins are kept =
    taken_along d truth states n s more (prefixes place) rows place begins are
    (subst (λ steps. AreKeptRows d truth n steps (prefixes place) rows) is kept) (prefixes-in_line place) (prefixes-head place)
    ∙ ap (λ steps. steps_by d truth steps virtual_root (Some place)) (sym is)

-- ---- the rules of an element

pub taken_path : (d : Doc) (truth : PredicateTruth) (states : StepStates) (n : ℕ) (path : Path) (steps : List Step) (place : List ℕ) (rows : List StateRow) → path.steps ≡ steps
    → ArePath states n steps → AreKeptRows d truth n path.steps (prefixes place) rows → taken_row states rows (last_of_path n steps) ≡ selects_by d truth path place
taken_path d truth states n path [] place rows is are kept = absurd are
taken_path d truth states n path (s ∷ more) place rows is are kept = taken_selects d truth states n path s more place rows is are.0 are.1 kept

rules_by-row : (rules : List Rule) (d : Doc) (truth : PredicateTruth) (place : List ℕ) → rules_by rules d truth place ≡ row_of (λ n. option_map_or (λ r. selects_by d truth r.path place) (slice_get rules n) false)
unfolding row_of numbers_of
rules_by-row rules d truth place = refl

some_same : (f g : Rule → Bool) (o : Option Rule) → ((r : Rule) → o ≡ Some r → f r ≡ g r) → option_map_or f o false ≡ option_map_or g o false
some_same f g None same = refl
some_same f g (Some r) same = same r refl

-- The rules that select an element by a truth are those whose last steps are taken there.
pub taken_rules : (rules : List Rule) (d : Doc) (truth : PredicateTruth) (states : StepStates) (begins : ℕ → ℕ) (place : List ℕ) (rows : List StateRow)
    → ((n : ℕ) (rule : Rule) → slice_get rules n ≡ Some rule → ArePath states (begins n) rule.path.steps)
    → ((n : ℕ) (rule : Rule) → slice_get rules n ≡ Some rule → AreKeptRows d truth (begins n) rule.path.steps (prefixes place) rows)
    → rules_by rules d truth place ≡ row_of (λ n. option_map_or (λ rule. taken_row states rows (last_of_path (begins n) rule.path.steps)) (slice_get rules n) false)
taken_rules rules d truth states begins place rows are kept =
    rules_by-row rules d truth place
    ∙ row_of-same (λ n. option_map_or (λ r. selects_by d truth r.path place) (slice_get rules n) false)
    (λ n. option_map_or (λ rule. taken_row states rows (last_of_path (begins n) rule.path.steps)) (slice_get rules n) false)
    (λ n small. some_same (λ r. selects_by d truth r.path place) (λ rule. taken_row states rows (last_of_path (begins n) rule.path.steps)) (slice_get rules n)
    (λ rule is. sym (taken_path d truth states (begins n) rule.path rule.path.steps place rows refl (are n rule is) (kept n rule is))))

-- ---- larger rows

comes_grows : (goes low high kept more : StateRow) (n : ℕ) → ((m : ℕ) → low m ≡ true → high m ≡ true) → ((m : ℕ) → kept m ≡ true → more m ≡ true)
    → comes goes low kept n ≡ true → comes goes high more n ≡ true
comes_grows goes low high kept more zero up wide so = so
comes_grows goes low high kept more (suc n) up wide so =
    let rest : (low n && kept n) ≡ true = second_so (goes n) (low n && kept n) so in
    both_so (goes n) (high n && more n) (first_so (goes n) (low n && kept n) so)
    (both_so (high n) (more n) (up n (first_so (low n) (kept n) rest)) (wide n (second_so (low n) (kept n) rest)))

module _ (states : StepStates) where
  waits_grow : (lows highs : List StateRow) → AreWithin lows highs → (n : ℕ) → waiting_row states lows n ≡ true → waiting_row states highs n ≡ true
  waits_grow [] [] within n so = so
  waits_grow [] (high ∷ highs) within n so = absurd within
  waits_grow (low ∷ lows) [] within n so = absurd within
  waits_grow (low ∷ lows) (high ∷ highs) within n so =
      let L : StateRow = waiting_row states lows in
      let H : StateRow = waiting_row states highs in
      elim (or_cases (comes states.goes L low n) (states.deep n && L n) so) [
        | inl came ↦ left_so (comes states.goes H high n) (states.deep n && H n) (comes_grows states.goes L H low high n (waits_grow lows highs within.1) within.0 came)
        | inr stayed ↦ right_so (comes states.goes H high n) (states.deep n && H n)
            (both_so (states.deep n) (H n) (first_so (states.deep n) (L n) stayed) (waits_grow lows highs within.1 n (second_so (states.deep n) (L n) stayed)))
      ]

  -- Where more is kept at each element, more steps are taken.
  pub taken_grows : (lows highs : List StateRow) → AreWithin lows highs → (n : ℕ) → taken_row states lows n ≡ true → taken_row states highs n ≡ true
  taken_grows [] [] within n so = so
  taken_grows [] (high ∷ highs) within n so = absurd within
  taken_grows (low ∷ lows) [] within n so = absurd within
  taken_grows (low ∷ lows) (high ∷ highs) within n so =
      both_so (waiting_row states highs n) (high n) (waits_grow lows highs within.1 n (first_so (waiting_row states lows n) (low n) so))
      (within.0 n (second_so (waiting_row states lows n) (low n) so))
