-- Which lines are refused, and with which answer. Lines are taken in order, and the first refused line decides. Where
-- it has two causes, the first one in the table decides. This project's profile of the ESIS line form. The lines
-- before a line are always in reverse order, the nearest first.
use Rattle.std.specs.Prelude.{◌≡◌, ℕ, ◌+◌, Bool, true, false, not, nat_eq, nat_le, nat_lt, ◌&&◌, ◌||◌, Option, Some, None, List, [], ◌∷◌, ◌++◌, length, reverse, if◌then◌else◌, ◌⊎◌}
use Rattle.std.specs.Cmp.Lexicographic.{pointwise}
use Rattle.std.specs.List.{list_any}
use Rattle.acl_model.specs.Limits.{most_attributes, most_open_elements}
use Rattle.esis_lines.specs.declared.doc_fault.DocFault.{DocFault}
use Rattle.esis_lines.specs.declared.doc_fault.DocFault.TheVariants.{BadLine, Unsupported, Unbalanced, NoRoot, SecondRoot, TooDeep, NameTooLong, InputTooLong, SourceFault, TooManyAttributes, NoMemory}
use Rattle.esis_lines.specs.LineForms.{argument, first_byte, is_start, is_end, is_text, is_attribute, is_closing, is_unsupported, is_of_form, has_long_name}

-- ---- what the lines before a line leave

-- the list without its first element
abbrev pub without_first : List (List ℕ) → List (List ℕ)
without_first [] = []
without_first (x ∷ xs) = xs

-- the names of the elements that are open, the innermost first: a start opens its name, and an end closes the
-- innermost one
abbrev pub open_names : List (List ℕ) → List (List ℕ)
open_names [] = []
open_names (l ∷ before) =
    if is_start l then argument l ∷ open_names before
    else (if is_end l then without_first (open_names before) else open_names before)

-- how many attributes wait for the next start: those after the last start
abbrev pub waiting_count : List (List ℕ) → ℕ
waiting_count [] = 0
waiting_count (l ∷ before) =
    if is_start l then 0
    else (if is_attribute l then waiting_count before + 1 else waiting_count before)

-- An element is open.
abbrev pub is_any_open : List (List ℕ) → Bool
is_any_open before = nat_lt 0 (length (open_names before))

-- An attribute waits.
abbrev pub does_any_wait : List (List ℕ) → Bool
does_any_wait before = nat_lt 0 (waiting_count before)

-- An element was started.
abbrev pub has_started : List (List ℕ) → Bool
has_started before = list_any is_start before

-- The root has ended: it was started, and no element is open.
abbrev pub has_ended : List (List ℕ) → Bool
has_ended before = has_started before && not (is_any_open before)

-- The first of the names is this one.
abbrev pub is_innermost : List ℕ → List (List ℕ) → Bool
is_innermost name [] = false
is_innermost name (first ∷ names) = pointwise nat_eq first name

-- ---- one line

-- The line doesn't fit the open elements and the waiting attributes. It is an end that is not that of the innermost
-- open element, a text outside every element, an end, a text or a 'C' where attributes wait, or a 'C' inside an
-- element.
abbrev pub is_unbalanced : List (List ℕ) → List ℕ → Bool
is_unbalanced before l =
    (is_end l && not (is_innermost (argument l) (open_names before)))
    || (is_text l && not (is_any_open before))
    || ((is_end l || is_text l || is_closing l) && does_any_wait before)
    || (is_closing l && is_any_open before)

-- the table of causes: when a line after these is refused, and the answer, with the number of the line, counted from
-- 1. After a 'C' each line is refused.
abbrev pub causes : List (List ℕ) → List ℕ → List (Bool × DocFault)
causes before l =
    let number = length before + 1 in
    (list_any is_closing before, BadLine number)
    ∷ (is_unsupported l, Unsupported number (first_byte l))
    ∷ (not (is_of_form l), BadLine number)
    ∷ (has_long_name l, NameTooLong number)
    ∷ ((is_start l || is_attribute l) && has_ended before, SecondRoot number)
    ∷ (is_unbalanced before l, Unbalanced number)
    ∷ (is_start l && nat_le most_open_elements (length (open_names before)), TooDeep number)
    ∷ (is_attribute l && nat_le most_attributes (waiting_count before), TooManyAttributes number)
    ∷ []

-- the table of causes after the last line
abbrev pub causes_at_end : List (List ℕ) → List (Bool × DocFault)
causes_at_end before =
    (is_any_open before || does_any_wait before, Unbalanced (length before + 1))
    ∷ (not (has_started before), NoRoot)
    ∷ []

-- the answer of the first cause that fits, if one does
abbrev pub first_that_fits : List (Bool × DocFault) → Option DocFault
first_that_fits [] = None
first_that_fits (cause ∷ others) = if cause.0 then Some cause.1 else first_that_fits others

-- the answer with which the line is refused after these, if it is
abbrev pub refusal : List (List ℕ) → List ℕ → Option DocFault
refusal before l = first_that_fits (causes before l)

-- ---- all lines

-- No line of these is refused after those before it.
abbrev pub AreTaken : List (List ℕ) → Type 0
AreTaken [] = Unit {0}
AreTaken (l ∷ before) = (refusal before l ≡ None) × AreTaken before

-- Some line is the first that is refused, with this answer.
abbrev pub IsFirstRefused : DocFault → List (List ℕ) → Type 0
IsFirstRefused fault ls =
    (before : List (List ℕ)) × (l : List ℕ) × (after : List (List ℕ))
    × (ls ≡ reverse before ++ l ∷ after) × AreTaken before × (refusal before l ≡ Some fault)

-- No line is refused, and this is the answer after the last one.
abbrev pub IsRefusedAtEnd : DocFault → List (List ℕ) → Type 0
IsRefusedAtEnd fault ls = AreTaken (reverse ls) × (first_that_fits (causes_at_end (reverse ls)) ≡ Some fault)

-- The lines are refused with this answer.
abbrev pub IsRefused : DocFault → List (List ℕ) → Type 0
IsRefused fault ls = IsFirstRefused fault ls ⊎ IsRefusedAtEnd fault ls

-- The answer is about lines, and not about the source, the limit of bytes, or memory.
abbrev pub is_of_lines : DocFault → Bool
is_of_lines (BadLine line) = true
is_of_lines (Unsupported line kind) = true
is_of_lines (Unbalanced line) = true
is_of_lines NoRoot = true
is_of_lines (SecondRoot line) = true
is_of_lines (TooDeep line) = true
is_of_lines (NameTooLong line) = true
is_of_lines (InputTooLong limit) = false
is_of_lines SourceFault = false
is_of_lines (TooManyAttributes line) = true
is_of_lines NoMemory = false
