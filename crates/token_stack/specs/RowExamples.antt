-- A document of three elements, two rules with predicates, and the rows of their states, worked out by hand. Defined
-- by this project.
use Rattle.std.specs.Prelude.{ℕ, nat_eq, Bool, true, false, ◌||◌, Some, None, List, [], ◌∷◌, codes}
use Rattle.acl_model.specs.NameTests.{passes}
use Rattle.acl_model.specs.declared.document.Element.{Element}
use Rattle.acl_model.specs.declared.path.Axis.TheVariants as axis
use Rattle.acl_model.specs.declared.path.Cmp.{Cmp}
use Rattle.acl_model.specs.declared.path.Op.TheVariants.{Eq}
use Rattle.acl_model.specs.declared.path.Operand.TheVariants as operand
use Rattle.acl_model.specs.declared.path.Pred.{Pred}
use Rattle.acl_model.specs.declared.path.PredStep.{PredStep}
use Rattle.acl_model.specs.declared.path.Test.TheVariants as test
use Rattle.acl_walk.specs.Pieces.{piece_of}
use Rattle.acl_walk.specs.declared.event.Event.{Event}
use Rattle.acl_walk.specs.declared.event.Event.TheVariants.{Begin, Attr}
use Rattle.token_stack.specs.PredicateLevels.{PredicateLevel, new_level, levels_after_event}
use Rattle.token_stack.specs.StateRows.{StateRow, SuffixStates, rising_rows, StepStates}

-- ---- the document: an element a, in it an a, and in that a b whose attribute c has the value x

-- (b, with the attribute Ac CDATA x, )b
abbrev pub b_with_c : Element
b_with_c = record { name = codes "b"; attributes = codes "c CDATA x" ∷ []; items = [] }

-- the event of the attribute, in one piece
abbrev pub c_is_x : Event
c_is_x = Attr (piece_of (codes "c CDATA x") true)

-- the names of the three elements, the innermost one's first
abbrev pub b_in_a_in_a : List (List ℕ)
b_in_a_in_a = codes "b" ∷ codes "a" ∷ codes "a" ∷ []

-- = '..', with this text
abbrev pub equal_to : List ℕ → Cmp
equal_to text = record { op = Eq; operand = operand.Text text }

-- ---- the predicates of //a[b] and /a[.//b/@c = 'x']

-- the path b
abbrev pub child_b : List PredStep
child_b = record { axis = axis.Child; test = test.Named (codes "b") } ∷ []

-- the path .//b
abbrev pub descendant_b : List PredStep
descendant_b = record { axis = axis.Descendant; test = test.Named (codes "b") } ∷ []

-- The states 0 and 1 are the suffixes of the path b, and 2 and 3 those of .//b.
abbrev pub suffixes_of_b : SuffixStates
suffixes_of_b = record {
  goes = λ n. nat_eq n 0 || nat_eq n 2;
  deep = λ n. nat_eq n 3;
  lets = λ n name. passes (test.Named (codes "b")) name;
}

-- the answers of a row for the states 0 to 3
abbrev pub first_four : StateRow → List Bool
first_four row = row 0 ∷ row 1 ∷ row 2 ∷ row 3 ∷ []

-- the row of this one state
abbrev pub just : ℕ → StateRow
just state n = nat_eq n state

-- the two predicates, and before each the shorter suffix of its path, which is the empty one: [[], b, [], .//b]. The
-- last two members have the attribute c and the comparison. Each number is that of the state.
abbrev pub preds_of_b : List Pred
preds_of_b =
    record { way = []; attribute = None; cmp = None }
    ∷ record { way = child_b; attribute = None; cmp = None }
    ∷ record { way = []; attribute = Some (codes "c"); cmp = Some (equal_to (codes "x")) }
    ∷ record { way = descendant_b; attribute = Some (codes "c"); cmp = Some (equal_to (codes "x")) }
    ∷ []

-- the levels of the inner a and of the root before the Begin of b, where no predicate is met
abbrev pub levels_of_a : List PredicateLevel
levels_of_a = new_level (λ n. false) ∷ new_level (λ n. false) ∷ []

-- the levels after the Begin of b, whose tag is 1
abbrev pub levels_with_b : List PredicateLevel
levels_with_b = levels_after_event (Begin 1 []) (rising_rows suffixes_of_b (just 0) b_in_a_in_a) levels_of_a

-- the levels after the attribute
abbrev pub levels_with_c : List PredicateLevel
levels_with_c = levels_after_event c_is_x (rising_rows suffixes_of_b (just 2) b_in_a_in_a) levels_with_b

-- which of the four predicates are met at a level
abbrev pub first_met : PredicateLevel → List Bool
first_met level = first_four level.met

-- ---- the steps of the rules

-- The state 0 is the step of //a[b], and 1 that of /a[.//b/@c = 'x'].
abbrev pub steps_to_a : StepStates
steps_to_a = record { first = λ n. nat_eq n 0 || nat_eq n 1; goes = λ n. false; deep = λ n. nat_eq n 0 }

-- After the attribute both predicates are true for the inner a, so both steps keep it.
abbrev pub kept_inner : StateRow
kept_inner n = nat_eq n 0 || nat_eq n 1

-- The second one is true for the root.
abbrev pub kept_root : StateRow
kept_root n = nat_eq n 1

-- The name b doesn't pass the steps' name tests.
abbrev pub kept_b : StateRow
kept_b n = false

-- the answers for the states 0 and 1
abbrev pub first_two : StateRow → List Bool
first_two row = row 0 ∷ row 1 ∷ []
