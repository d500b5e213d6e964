-- A line is refused by itself as the first rows of the table of causes say.
use Rattle.std.proofs.Common.{◌≡◌, ℕ, Bool, true, false, not, Option, Some, None, Result, Ok, Err, List, [], ◌∷◌, length, nat_eq, nat_le, nat_lt, ◌&&◌, ◌||◌, if◌then◌else◌, refl, sym, ap, subst, ◌∙◌, arith}
use Rattle.std.proofs.lemmas.Bool.{ne_eqb, lt-ltb, le-ltb, leb-true, leb-false}
use borrow.Author.Tests.{eqb-true}
use Rattle.acl_model.specs.Ascii.{left_parenthesis, right_parenthesis, hyphen, capital_a}
use Rattle.acl_model.specs.Document.{is_type}
use Rattle.acl_model.specs.Names.{is_spelled_as_name}
use Rattle.acl_model.specs.Values.{attribute_name, attribute_type}
use Rattle.esis_lines.specs.declared.doc_fault.DocFault.{DocFault}
use Rattle.esis_lines.specs.declared.doc_fault.DocFault.TheVariants.{BadLine, Unsupported, NameTooLong}
use Rattle.esis_lines.specs.LineForms.{capital_c, capital_l, number_sign, question_mark, first_byte, is_unsupported, is_unsupported_kind, is_of_form, has_long_name}
use Rattle.esis_lines.specs.LineMachine.{Line, line_of}

-- the fault, where there is one
abbrev pub fault_in : {A : Type 0} → Result A DocFault → Option DocFault
fault_in (Ok x) = None
fault_in (Err fault) = Some fault

-- the rows for a line by itself, by what they ask
abbrev pub own_by : ℕ → Bool → ℕ → Bool → Bool → Option DocFault
own_by n unsupported kind formed long =
    if unsupported then Some (Unsupported n kind) else (if not formed then Some (BadLine n) else (if long then Some (NameTooLong n) else None))

unfoldable pub own_fault : ℕ → List ℕ → Option DocFault
own_fault n l = own_by n (is_unsupported l) (first_byte l) (is_of_form l) (has_long_name l)

pub two : (b : Bool) → ((b ≡ true) → ⊥) → b ≡ false
two true h = absurd (h refl)
two false h = refl

-- a length is past 255 where it is not within
pub past_is : (n k : ℕ) → nat_lt k n ≡ not (nat_le n k)
past_is n k = elim (nat_le n k) as (λ (v : Bool). nat_le n k ≡ v → nat_lt k n ≡ not v) [
  | true ↦ λ is. le-ltb k n (leb-true n k is)
  | false ↦ λ is. lt-ltb k n (leb-false n k is)
] refl

named_own : (n kind : ℕ) (said : Line) (v w : Bool) → fault_in (if v then (if w then Ok said else Err (NameTooLong n)) else Err (BadLine n)) ≡ own_by n false kind (v || false || false || false || false) (not w)
named_own n kind said true true = refl
named_own n kind said true false = refl
named_own n kind said false true = refl
named_own n kind said false false = refl

attribute_own : (n kind : ℕ) (said : Line) (v w t : Bool) → fault_in (if t then (if v then (if w then Ok said else Err (NameTooLong n)) else Err (BadLine n)) else Err (BadLine n)) ≡ own_by n false kind ((v && t) || false || false) (not w)
attribute_own n kind said true true true = refl
attribute_own n kind said true true false = refl
attribute_own n kind said true false true = refl
attribute_own n kind said true false false = refl
attribute_own n kind said false true true = refl
attribute_own n kind said false true false = refl
attribute_own n kind said false false true = refl
attribute_own n kind said false false false = refl

Agrees : ℕ → List ℕ → Type 0
Agrees n l = fault_in (line_of n l) ≡ own_fault n l

text_agrees : (n : ℕ) (rest : List ℕ) → Agrees n (hyphen ∷ rest)
unfolding Agrees own_fault is_unsupported_kind
text_agrees n rest = refl

start_agrees : (n : ℕ) (rest : List ℕ) → Agrees n (left_parenthesis ∷ rest)
unfolding Agrees own_fault is_unsupported_kind
start_agrees n rest =
    named_own n left_parenthesis (Line.Starts rest) (is_spelled_as_name rest) (nat_le (length rest) 255)
    ∙ ap (own_by n false left_parenthesis (is_spelled_as_name rest || false || false || false || false)) (sym (past_is (length rest) 255))

end_agrees : (n : ℕ) (rest : List ℕ) → Agrees n (right_parenthesis ∷ rest)
unfolding Agrees own_fault is_unsupported_kind
end_agrees n rest =
    named_own n right_parenthesis (Line.Ends rest) (is_spelled_as_name rest) (nat_le (length rest) 255)
    ∙ ap (own_by n false right_parenthesis (is_spelled_as_name rest || false || false || false || false)) (sym (past_is (length rest) 255))

attribute_agrees : (n : ℕ) (raw : List ℕ) → Agrees n (capital_a ∷ raw)
unfolding Agrees own_fault is_unsupported_kind
attribute_agrees n raw =
    let named : Bool = is_spelled_as_name (attribute_name raw) in
    let typed : Bool = is_type (attribute_type raw) in
    attribute_own n capital_a (Line.Waits raw) named (nat_le (length (attribute_name raw)) 255) typed
    ∙ ap (own_by n false capital_a ((named && typed) || false || false)) (sym (past_is (length (attribute_name raw)) 255))

question_agrees : (n : ℕ) (rest : List ℕ) → Agrees n (question_mark ∷ rest)
unfolding Agrees own_fault is_unsupported_kind
question_agrees n rest = refl

place_agrees : (n : ℕ) (rest : List ℕ) → Agrees n (capital_l ∷ rest)
unfolding Agrees own_fault is_unsupported_kind
place_agrees n rest = refl

own_agrees : (n : ℕ) (rest : List ℕ) → Agrees n (number_sign ∷ rest)
unfolding Agrees own_fault is_unsupported_kind
own_agrees n rest = refl

closing_agrees : (n : ℕ) (rest : List ℕ) → Agrees n (capital_c ∷ rest)
unfolding Agrees own_fault is_unsupported_kind
closing_agrees n [] = refl
closing_agrees n (b ∷ rest) = let some : nat_eq (length (b ∷ rest)) 0 ≡ false = ne_eqb (length (b ∷ rest)) 0 (λ e. absurd (omega (arith, e))) in rw some refl

other_own : (n kind : ℕ) (u : Bool) → Some (if u then Unsupported n kind else BadLine n) ≡ own_by n u kind false false
other_own n kind true = refl
other_own n kind false = refl

other_agrees : (n kind : ℕ) (rest : List ℕ) → nat_eq kind hyphen ≡ false → nat_eq kind left_parenthesis ≡ false → nat_eq kind right_parenthesis ≡ false → nat_eq kind capital_a ≡ false
    → nat_eq kind question_mark ≡ false → nat_eq kind capital_l ≡ false → nat_eq kind number_sign ≡ false → nat_eq kind capital_c ≡ false → Agrees n (kind ∷ rest)
unfolding Agrees own_fault
other_agrees n kind rest h s e a q p o c = rw (h, s, e, a, q, p, o, c) (other_own n kind (is_unsupported_kind kind))

-- the line's first byte is this one, or it isn't
by_kind : (n kind c : ℕ) (rest : List ℕ) → Agrees n (c ∷ rest) → (nat_eq kind c ≡ false → Agrees n (kind ∷ rest)) → Agrees n (kind ∷ rest)
by_kind n kind c rest here other = elim (nat_eq kind c) as (λ (v : Bool). nat_eq kind c ≡ v → Agrees n (kind ∷ rest)) [
  | true ↦ λ is. subst (λ (k : ℕ). Agrees n (k ∷ rest)) (sym (eqb-true kind c is)) here
  | false ↦ other
] refl

-- A line by itself is refused by the first of its own causes.
pub own_faults : (n : ℕ) (l : List ℕ) → fault_in (line_of n l) ≡ own_fault n l
unfolding Agrees own_fault
own_faults n [] = refl
own_faults n (kind ∷ rest) =
    by_kind n kind hyphen rest (text_agrees n rest) (λ h.
    by_kind n kind left_parenthesis rest (start_agrees n rest) (λ s.
    by_kind n kind right_parenthesis rest (end_agrees n rest) (λ e.
    by_kind n kind capital_a rest (attribute_agrees n rest) (λ a.
    by_kind n kind question_mark rest (question_agrees n rest) (λ q.
    by_kind n kind capital_l rest (place_agrees n rest) (λ p.
    by_kind n kind number_sign rest (own_agrees n rest) (λ o.
    by_kind n kind capital_c rest (closing_agrees n rest) (λ c.
    other_agrees n kind rest h s e a q p o c))))))))
