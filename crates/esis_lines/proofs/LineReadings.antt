-- What is known of a line that says something.
use Rattle.std.proofs.Common.{◌≡◌, ℕ, Bool, true, false, Result, Ok, Err, List, [], ◌∷◌, length, nat_eq, nat_le, ◌&&◌, ◌||◌, if◌then◌else◌, refl, sym, ap, subst, ◌∙◌, ◌⊎◌, inl, inr}
use Rattle.std.proofs.lemmas.Bool.{and_from}
use Rattle.std.specs.Cmp.{first_so, second_so}
use borrow.Author.Tests.{eqb-true}
use Rattle.acl_model.specs.Ascii.{left_parenthesis, right_parenthesis, hyphen, capital_a}
use Rattle.acl_model.specs.Document.{is_type}
use Rattle.acl_model.specs.Names.{is_name, is_spelled_as_name}
use Rattle.acl_model.specs.Values.{attribute_name, attribute_type}
use Rattle.esis_lines.specs.declared.doc_fault.DocFault.{DocFault}
use Rattle.esis_lines.specs.declared.doc_fault.DocFault.TheVariants.{BadLine, NameTooLong}
use Rattle.esis_lines.specs.LineForms.{capital_c, capital_l, number_sign, question_mark, is_passed_by, is_closing}
use Rattle.esis_lines.specs.LineMachine.{Line, line_of, with_name, with_attribute, with_nothing, fault_of_kind, says_closing}

-- which of two values a choice is
pub chosen : {A : Type 0} (b : Bool) (x y z : A) → (if b then x else y) ≡ z → ((b ≡ true) × (x ≡ z)) ⊎ ((b ≡ false) × (y ≡ z))
chosen true x y z h = inl (refl, h)
chosen false x y z h = inr (refl, h)

pub ok_same : {A B : Type 0} (x y : A) → ◌≡◌ {A = Result A B} (Ok x) (Ok y) → x ≡ y
ok_same x y h = cc

pub not_ok : {A B C : Type 0} (x : A) (e : B) → ◌≡◌ {A = Result A B} (Err e) (Ok x) → C
not_ok x e h = cc

-- ---- the choices by the first byte, from the last one on

abbrev pub after_passed : ℕ → ℕ → List ℕ → Result Line DocFault
after_passed number kind rest = if nat_eq kind capital_c then with_nothing number rest else Err (fault_of_kind number kind)

abbrev pub after_attribute : ℕ → ℕ → List ℕ → Result Line DocFault
after_attribute number kind rest =
    if nat_eq kind question_mark || nat_eq kind capital_l || nat_eq kind number_sign then Ok Line.PassesBy else after_passed number kind rest

abbrev pub after_end : ℕ → ℕ → List ℕ → Result Line DocFault
after_end number kind rest = if nat_eq kind capital_a then with_attribute number rest else after_attribute number kind rest

abbrev pub after_start : ℕ → ℕ → List ℕ → Result Line DocFault
after_start number kind rest = if nat_eq kind right_parenthesis then with_name number rest (Line.Ends rest) else after_end number kind rest

abbrev pub after_text : ℕ → ℕ → List ℕ → Result Line DocFault
after_text number kind rest = if nat_eq kind left_parenthesis then with_name number rest (Line.Starts rest) else after_start number kind rest

-- ---- what is in a line that says this

unfoldable pub LineIs : List ℕ → Line → Type 0
LineIs l (Line.Starts name) = (l ≡ left_parenthesis ∷ name) × (is_name name ≡ true)
LineIs l (Line.Ends name) = (l ≡ right_parenthesis ∷ name) × (is_name name ≡ true)
LineIs l (Line.Says bytes) = l ≡ hyphen ∷ bytes
LineIs l (Line.Waits raw) = (l ≡ capital_a ∷ raw) × (is_name (attribute_name raw) ≡ true) × (is_type (attribute_type raw) ≡ true)
LineIs l Line.PassesBy = is_passed_by l ≡ true
LineIs l Line.Closes = l ≡ capital_c ∷ []

named_is : (number : ℕ) (name : List ℕ) (said x : Line) → with_name number name said ≡ Ok x → (is_name name ≡ true) × (said ≡ x)
named_is number name said x h = elim (chosen (is_spelled_as_name name) (if nat_le (length name) 255 then Ok said else Err (NameTooLong number)) (Err (BadLine number)) (Ok x) h) [
  | inl spelled ↦ elim (chosen (nat_le (length name) 255) (Ok said) (Err (NameTooLong number)) (Ok x) spelled.1) [
    | inl short ↦ (and_from (is_spelled_as_name name) (nat_le (length name) 255) spelled.0 short.0, ok_same said x short.1)
    | inr long ↦ not_ok x (NameTooLong number) long.1
  ]
  | inr other ↦ not_ok x (BadLine number) other.1
]

first_is : (kind c : ℕ) (rest : List ℕ) → nat_eq kind c ≡ true → kind ∷ rest ≡ c ∷ rest
first_is kind c rest is = ap (λ k. k ∷ rest) (eqb-true kind c is)

closes_is : (number kind : ℕ) (rest : List ℕ) (x : Line) → nat_eq kind capital_c ≡ true → with_nothing number rest ≡ Ok x → LineIs (kind ∷ rest) x
unfolding LineIs
closes_is number kind [] x is h = subst (λ (y : Line). LineIs (kind ∷ []) y) (ok_same Line.Closes x h) (first_is kind capital_c [] is)
closes_is number kind (b ∷ rest) x is h = not_ok x (BadLine number) h

passed_is : (number kind : ℕ) (rest : List ℕ) (x : Line) → after_attribute number kind rest ≡ Ok x → LineIs (kind ∷ rest) x
unfolding LineIs
passed_is number kind rest x h = elim (chosen (nat_eq kind question_mark || nat_eq kind capital_l || nat_eq kind number_sign) (Ok Line.PassesBy) (after_passed number kind rest) (Ok x) h) [
  | inl passed ↦ subst (λ (y : Line). LineIs (kind ∷ rest) y) (ok_same Line.PassesBy x passed.1) passed.0
  | inr other ↦ elim (chosen (nat_eq kind capital_c) (with_nothing number rest) (Err (fault_of_kind number kind)) (Ok x) other.1) [
    | inl closing ↦ closes_is number kind rest x closing.0 closing.1
    | inr none ↦ not_ok x (fault_of_kind number kind) none.1
  ]
]

attribute_is : (number kind : ℕ) (rest : List ℕ) (x : Line) → after_end number kind rest ≡ Ok x → LineIs (kind ∷ rest) x
unfolding LineIs
attribute_is number kind rest x h = elim (chosen (nat_eq kind capital_a) (with_attribute number rest) (after_attribute number kind rest) (Ok x) h) [
  | inl here ↦ elim (chosen (is_type (attribute_type rest)) (with_name number (attribute_name rest) (Line.Waits rest)) (Err (BadLine number)) (Ok x) here.1) [
    | inl typed ↦ let n = named_is number (attribute_name rest) (Line.Waits rest) x typed.1 in
        subst (λ (y : Line). LineIs (kind ∷ rest) y) n.1 (first_is kind capital_a rest here.0, n.0, typed.0)
    | inr bare ↦ not_ok x (BadLine number) bare.1
  ]
  | inr other ↦ passed_is number kind rest x other.1
]

ends_is : (number kind : ℕ) (rest : List ℕ) (x : Line) → after_start number kind rest ≡ Ok x → LineIs (kind ∷ rest) x
unfolding LineIs
ends_is number kind rest x h = elim (chosen (nat_eq kind right_parenthesis) (with_name number rest (Line.Ends rest)) (after_end number kind rest) (Ok x) h) [
  | inl here ↦ let n = named_is number rest (Line.Ends rest) x here.1 in
      subst (λ (y : Line). LineIs (kind ∷ rest) y) n.1 (first_is kind right_parenthesis rest here.0, n.0)
  | inr other ↦ attribute_is number kind rest x other.1
]

starts_is : (number kind : ℕ) (rest : List ℕ) (x : Line) → after_text number kind rest ≡ Ok x → LineIs (kind ∷ rest) x
unfolding LineIs
starts_is number kind rest x h = elim (chosen (nat_eq kind left_parenthesis) (with_name number rest (Line.Starts rest)) (after_start number kind rest) (Ok x) h) [
  | inl here ↦ let n = named_is number rest (Line.Starts rest) x here.1 in
      subst (λ (y : Line). LineIs (kind ∷ rest) y) n.1 (first_is kind left_parenthesis rest here.0, n.0)
  | inr other ↦ ends_is number kind rest x other.1
]

-- A line that says something has the form of what it says.
pub line_is : (number : ℕ) (l : List ℕ) (x : Line) → line_of number l ≡ Ok x → LineIs l x
unfolding LineIs
line_is number [] x h = not_ok x (BadLine number) h
line_is number (kind ∷ rest) x h = elim (chosen (nat_eq kind hyphen) (Ok (Line.Says rest)) (after_text number kind rest) (Ok x) h) [
  | inl here ↦ subst (λ (y : Line). LineIs (kind ∷ rest) y) (ok_same (Line.Says rest) x here.1) (first_is kind hyphen rest here.0)
  | inr other ↦ starts_is number kind rest x other.1
]

-- ---- the closing line

passed_by_closes : (kind : ℕ) (v w x : Bool) → nat_eq kind question_mark ≡ v → nat_eq kind capital_l ≡ w → nat_eq kind number_sign ≡ x → (v || w || x) ≡ true → nat_eq kind capital_c ≡ false
passed_by_closes kind true w x a b c h = ap (λ (k : ℕ). nat_eq k capital_c) (eqb-true kind question_mark a)
passed_by_closes kind false true x a b c h = ap (λ (k : ℕ). nat_eq k capital_c) (eqb-true kind capital_l b)
passed_by_closes kind false false true a b c h = ap (λ (k : ℕ). nat_eq k capital_c) (eqb-true kind number_sign c)
passed_by_closes kind false false false a b c h = cc

-- No line that is passed by is the closing one.
pub passed_by-closing : (l : List ℕ) → is_passed_by l ≡ true → is_closing l ≡ false
passed_by-closing [] h = refl
passed_by-closing (kind ∷ rest) h =
    ap (λ (v : Bool). v && nat_eq (length rest) 0) (passed_by_closes kind (nat_eq kind question_mark) (nat_eq kind capital_l) (nat_eq kind number_sign) refl refl refl h)

said_closing : (l : List ℕ) (x : Line) → LineIs l x → is_closing l ≡ says_closing x
unfolding LineIs
said_closing l (Line.Starts name) is = ap is_closing is.0
said_closing l (Line.Ends name) is = ap is_closing is.0
said_closing l (Line.Says bytes) is = ap is_closing is
said_closing l (Line.Waits raw) is = ap is_closing is.0
said_closing l Line.PassesBy is = passed_by-closing l is
said_closing l Line.Closes is = ap is_closing is

-- The closing line, and no other, says that all lines were written.
pub closing_is : (number : ℕ) (l : List ℕ) (x : Line) → line_of number l ≡ Ok x → is_closing l ≡ says_closing x
closing_is number l x h = said_closing l x (line_is number l x h)

-- ---- a line of the form says it, whatever its number

with_name-name : (number : ℕ) (name : List ℕ) (said : Line) → is_name name ≡ true → with_name number name said ≡ Ok said
with_name-name number name said is =
    let spelled : is_spelled_as_name name ≡ true = first_so (is_spelled_as_name name) (nat_le (length name) 255) is in
    let short : nat_le (length name) 255 ≡ true = second_so (is_spelled_as_name name) (nat_le (length name) 255) is in
    rw (spelled, short) refl

first_of_three : (kind : ℕ) (v w x : Bool) → nat_eq kind question_mark ≡ v → nat_eq kind capital_l ≡ w → nat_eq kind number_sign ≡ x → (v || w || x) ≡ true
    → (kind ≡ question_mark) ⊎ ((kind ≡ capital_l) ⊎ (kind ≡ number_sign))
first_of_three kind true w x a b c h = inl (eqb-true kind question_mark a)
first_of_three kind false true x a b c h = inr (inl (eqb-true kind capital_l b))
first_of_three kind false false true a b c h = inr (inr (eqb-true kind number_sign c))
first_of_three kind false false false a b c h = cc

-- What is true of each line that begins with '?', 'L' or '#' is true of a line that is passed by.
pub passed_kind : (P : List ℕ → Type 0) → ((rest : List ℕ) → P (question_mark ∷ rest)) → ((rest : List ℕ) → P (capital_l ∷ rest)) → ((rest : List ℕ) → P (number_sign ∷ rest)) → (l : List ℕ) → is_passed_by l ≡ true → P l
passed_kind P a b c [] h = cc
passed_kind P a b c (kind ∷ rest) h = elim (first_of_three kind (nat_eq kind question_mark) (nat_eq kind capital_l) (nat_eq kind number_sign) refl refl refl h) [
  | inl e ↦ subst (λ (k : ℕ). P (k ∷ rest)) (sym e) (a rest)
  | inr other ↦ elim other [
    | inl e ↦ subst (λ (k : ℕ). P (k ∷ rest)) (sym e) (b rest)
    | inr e ↦ subst (λ (k : ℕ). P (k ∷ rest)) (sym e) (c rest)
  ]
]

passed_said : (number : ℕ) (l : List ℕ) → is_passed_by l ≡ true → line_of number l ≡ Ok Line.PassesBy
passed_said number = passed_kind (λ l. line_of number l ≡ Ok Line.PassesBy) (λ rest. refl) (λ rest. refl) (λ rest. refl)

attribute_said : (number : ℕ) (raw : List ℕ) → is_name (attribute_name raw) ≡ true → is_type (attribute_type raw) ≡ true → line_of number (capital_a ∷ raw) ≡ Ok (Line.Waits raw)
attribute_said number raw named typed = rw typed (with_name-name number (attribute_name raw) (Line.Waits raw) named)

pub line_said : (number : ℕ) (l : List ℕ) (x : Line) → LineIs l x → line_of number l ≡ Ok x
unfolding LineIs
line_said number l (Line.Starts name) is = ap (line_of number) is.0 ∙ with_name-name number name (Line.Starts name) is.1
line_said number l (Line.Ends name) is = ap (line_of number) is.0 ∙ with_name-name number name (Line.Ends name) is.1
line_said number l (Line.Says bytes) is = ap (line_of number) is
line_said number l (Line.Waits raw) is = ap (line_of number) is.0 ∙ attribute_said number raw is.1 is.2
line_said number l Line.PassesBy is = passed_said number l is
line_said number l Line.Closes is = ap (line_of number) is
