-- Rows of states at each open element, and how they follow from one element to the next: inward for the steps of paths
-- and outward for those of predicates. In the terms of XPath 1.0, 2.1; defined by this project.
use Rattle.std.specs.Prelude.{◌≡◌, ℕ, zero, suc, Bool, true, false, ◌&&◌, ◌||◌, List, [], ◌∷◌}
use Rattle.acl_model.specs.NameTests.{passes}
use Rattle.acl_model.specs.Places.{at}
use Rattle.acl_model.specs.declared.document.Doc.{Doc}
use Rattle.acl_model.specs.declared.path.PredStep.{PredStep}
use Rattle.acl_model.specs.declared.path.Step.{Step}
use Rattle.token_stack.specs.Bounds.{PredicateTruth, is_kept_by}
use Rattle.token_stack.specs.WayNames.{is_deep}

-- a test of states, each by its number
abbrev pub StateRow : Type 0
StateRow = ℕ → Bool

-- A state comes from the state before it: that one goes on to it, is in the first row, and passes the second.
abbrev pub comes : StateRow → StateRow → StateRow → StateRow
comes goes row kept zero = false
comes goes row kept (suc n) = goes n && (row n && kept n)

-- the row one element further along: the states that come from the states before them, and those of the row whose
-- step is on the descendant axis
abbrev pub moved_row : StateRow → StateRow → StateRow → StateRow → StateRow
moved_row goes deep row kept n = comes goes row kept n || (deep n && row n)

-- ---- outward: the paths of predicates

-- States for the paths of predicates. A path of n steps has n + 1 suffixes, the empty one and itself included. Each
-- has a state. The state of a suffix comes after that of the next shorter one.
pub record SuffixStates : Type 0 where
  -- The next state is the suffix with one step more.
  pub goes : StateRow
  -- The first step of the suffix is on the descendant axis.
  pub deep : StateRow
  -- The name passes the name test of the one step that the next suffix has more.
  pub lets : ℕ → List ℕ → Bool

-- The state with this number is the suffix `way`, and those before it are the shorter suffixes of it, from the empty
-- one on. No state goes on to the empty suffix.
abbrev pub IsSuffix : SuffixStates → ℕ → List PredStep → Type 0
IsSuffix states zero [] = states.deep zero ≡ false
IsSuffix states (suc n) [] = (states.deep (suc n) ≡ false) × (states.goes n ≡ false)
IsSuffix states zero (s ∷ way) = ⊥
IsSuffix states (suc n) (s ∷ way) =
    (states.goes n ≡ true) × (states.deep (suc n) ≡ is_deep s.axis)
    × ((name : List ℕ) → states.lets n name ≡ passes s.test name) × IsSuffix states n way

-- the number of the empty suffix of a suffix with this number
abbrev pub empty_suffix : ℕ → List PredStep → ℕ
empty_suffix n [] = n
empty_suffix zero (s ∷ way) = zero
empty_suffix (suc n) (s ∷ way) = empty_suffix n way

-- Of the suffixes of `way`, which has this number, no more than the empty one is in the row.
abbrev pub HasEmptyAlone : StateRow → ℕ → List PredStep → Type 0
HasEmptyAlone row n [] = Unit {0}
HasEmptyAlone row zero (s ∷ way) = Unit {0}
HasEmptyAlone row (suc n) (s ∷ way) = (row (suc n) ≡ false) × HasEmptyAlone row n way

-- The row of an element: the suffixes that lead from it to the innermost element, whose row is given. The elements
-- from a child of it down to the innermost have these names.
abbrev pub risen : SuffixStates → StateRow → List (List ℕ) → StateRow
risen states innermost [] = innermost
risen states innermost (name ∷ down) =
    moved_row states.goes states.deep (risen states innermost down) (λ n. states.lets n name)

-- the rows of elements that are inside each other, from the innermost one outward, where the innermost one's row is
-- given. These are the names of the elements, the innermost one's first.
abbrev pub rising_rows : SuffixStates → StateRow → List (List ℕ) → List StateRow
rising_rows states row [] = []
rising_rows states row (name ∷ up) =
    row ∷ rising_rows states (moved_row states.goes states.deep row (λ n. states.lets n name)) up

-- ---- inward: the steps of paths

-- States for the steps of paths, one for each step.
pub record StepStates : Type 0 where
  -- The step is the first one of its path.
  pub first : StateRow
  -- The next state is the next step of the path.
  pub goes : StateRow
  -- The step is on the descendant axis.
  pub deep : StateRow

-- A path begins with the state with this number.
abbrev pub Begins : StepStates → ℕ → Type 0
Begins states zero = states.first zero ≡ true
Begins states (suc n) = (states.first (suc n) ≡ true) × (states.goes n ≡ false)

-- The states from this number on are a step and the steps after it, up to the last one of the path.
abbrev pub AreSteps : StepStates → ℕ → Step → List Step → Type 0
AreSteps states n s [] = states.deep n ≡ is_deep s.axis
AreSteps states n s (next ∷ more) =
    (states.deep n ≡ is_deep s.axis) × (states.goes n ≡ true) × (states.first (suc n) ≡ false)
    × AreSteps states (suc n) next more

-- the number of a path's last step, where this number is followed by those of these steps
abbrev pub last_step : ℕ → List Step → ℕ
last_step n [] = n
last_step n (s ∷ more) = last_step (suc n) more

-- The states from this number on are the steps of a path, of which there is at least one.
abbrev pub ArePath : StepStates → ℕ → List Step → Type 0
ArePath states n [] = ⊥
ArePath states n (s ∷ more) = Begins states n × AreSteps states n s more

-- the number of a path's last step, where its first one has the number n
abbrev pub last_of_path : ℕ → List Step → ℕ
last_of_path n [] = n
last_of_path n (s ∷ more) = last_step n more

-- The row has exactly those of the steps, which are numbered from n on, that keep the element at the place.
abbrev pub IsKeptRow : Doc → PredicateTruth → ℕ → List Step → List ℕ → StateRow → Type 0
IsKeptRow d truth n [] place row = Unit {0}
IsKeptRow d truth n (s ∷ more) place row =
    (row n ≡ is_kept_by truth s place (at d place)) × IsKeptRow d truth (suc n) more place row

-- There is such a row for each of the places.
abbrev pub AreKeptRows : Doc → PredicateTruth → ℕ → List Step → List (List ℕ) → List StateRow → Type 0
AreKeptRows d truth n steps [] [] = Unit {0}
AreKeptRows d truth n steps [] (row ∷ rows) = ⊥
AreKeptRows d truth n steps (place ∷ places) [] = ⊥
AreKeptRows d truth n steps (place ∷ places) (row ∷ rows) =
    IsKeptRow d truth n steps place row × AreKeptRows d truth n steps places rows

-- the states that wait at an element, that is, whose steps may be taken at a child of it. The steps that keep the
-- element, its parent, and so on to the root are given. At the virtual root the first steps wait.
abbrev pub waiting_row : StepStates → List StateRow → StateRow
waiting_row states [] = states.first
waiting_row states (kept ∷ up) = moved_row states.goes states.deep (waiting_row states up) kept

-- the states whose steps are taken at the element: those that wait at its parent and keep it
abbrev pub taken_row : StepStates → List StateRow → StateRow
taken_row states [] n = false
taken_row states (kept ∷ up) n = waiting_row states up n && kept n

-- Each row has at most the states of the row at the same index.
abbrev pub AreWithin : List StateRow → List StateRow → Type 0
AreWithin [] [] = Unit {0}
AreWithin [] (high ∷ highs) = ⊥
AreWithin (low ∷ lows) [] = ⊥
AreWithin (low ∷ lows) (high ∷ highs) = ((n : ℕ) → low n ≡ true → high n ≡ true) × AreWithin lows highs
