-- The forms that lines of licences, bodies and keys share: a keyword followed by hexadecimal digits, and how the
-- first of some lines is read by its form. Defined by this project.
use Rattle.std.specs.Prelude.{◌≡◌, ℕ, List, [], ◌∷◌, ◌++◌, Option, ok_or, Result, Ok, Err}
use Rattle.std.specs.Option.{option_map, option_and_then}
use Rattle.std.specs.Result.{result_ok}
use Rattle.hex.specs.Hex.{decode_sized}
pub use Rattle.acl_model.specs.Lists.{text_after}

-- ---- whole lines

-- the lines of a text, each without its line feed
abbrev pub Lines : Type 0
Lines = List (List ℕ)

-- The line is the keyword, and after it the hexadecimal digits, of either case, of these `count` bytes.
abbrev pub HasDigits : List ℕ → ℕ → List ℕ → List ℕ → Type 0
HasDigits word count line bytes = (digits : List ℕ) × (line ≡ word ++ digits) × (decode_sized digits count ≡ Ok bytes)

-- The first of the lines is not of this form: there is no line at all, or the first one has another form.
abbrev pub NoneFirst : (List ℕ → Type 0) → Lines → Type 0
NoneFirst Form ls = (line : List ℕ) (rest : Lines) → ls ≡ line ∷ rest → Form line → ⊥

-- ---- how a line is read

-- The first fault is the answer. A value is passed to the next step.
infixl 10 ◌>>=◌
abbrev pub ◌>>=◌ : {A B E : Type 0} → Result A E → (A → Result B E) → Result B E
Ok a >>= more = more a
Err fault >>= more = Err fault

-- the `count` bytes whose digits follow the keyword, or None where the line is not of this form
abbrev pub bytes_after : List ℕ → ℕ → List ℕ → Option (List ℕ)
bytes_after word count line = option_and_then (λ digits. result_ok (decode_sized digits count)) (text_after word line)

-- The value that the first of these lines has by its form, and the lines after it. Where there is no line, or it is
-- not of the form, the answer is the fault.
abbrev pub line_of_form : {A E : Type 0} → E → (List ℕ → Option A) → Lines → Result (A × Lines) E
line_of_form fault form [] = Err fault
line_of_form fault form (line ∷ rest) = ok_or (option_map (λ a. (a, rest)) (form line)) fault
