-- What follows where a line was read by its form, and where it was not.
use Rattle.std.proofs.Common.{◌≡◌, ℕ, ◌⊎◌, inl, inr, List, [], ◌∷◌, ◌++◌, length, take, drop, nat_eq, Bool, true, false, ◌&&◌, cond, Option, Some, None, Result, Ok, Err, ok_or, refl, ap, sym, subst, ◌∙◌, arith}
use Rattle.std.specs.Option.{option_map, option_and_then, unwrap_or}
use Rattle.std.specs.Result.{result_ok, result_err}
use Rattle.std.specs.Cmp.Lexicographic.{pointwise, same_text}
use Rattle.std.proofs.lemmas.Bool.{eq-eqb}
use Rattle.std.proofs.lemmas.List.{take-append-drop}
use Rattle.std.proofs.lemmas.Option.{none-some, option_and_then_some, cond_some}
use Rattle.hex.specs.Hex.{decode_sized}
use Rattle.licence.specs.Forms.{Lines, HasDigits, NoneFirst, ◌>>=◌, text_after, bytes_after, line_of_form}

-- ---- what an answer shows

-- Equal answers have equal values.
pub same_within : {A : Type 0} (x y : A) → Some x ≡ Some y → x ≡ y
same_within x y h = ap (λ o. unwrap_or o x) h

pub same_value : {A E : Type 0} (x y : A) → ◌≡◌ {A = Result A E} (Ok x) (Ok y) → x ≡ y
same_value x y h = same_within x y (ap result_ok h)

pub same_fault : {A E : Type 0} (x y : E) → ◌≡◌ {A = Result A E} (Err x) (Err y) → x ≡ y
same_fault x y h = same_within x y (ap result_err h)

pub not_both : {A E : Type 0} (x : A) (e : E) → ◌≡◌ {A = Result A E} (Ok x) (Err e) → ⊥
not_both x e h = none-some x (sym (ap result_ok h))

pub not_err : {A E : Type 0} (x : A) (e : E) → ◌≡◌ {A = Result A E} (Err e) (Ok x) → ⊥
not_err x e h = none-some x (ap result_ok h)

pub option_map-some : {A B : Type 0} (f : A → B) (o : Option A) (y : B) → option_map f o ≡ Some y → (x : A) × (o ≡ Some x) × (f x ≡ y)
option_map-some f None y h = absurd (none-some y h)
option_map-some f (Some x) y h = (x, refl, same_within (f x) y h)

result_ok-some : {A E : Type 0} (r : Result A E) (a : A) → result_ok r ≡ Some a → r ≡ Ok a
result_ok-some (Ok x) a h = ap Ok (same_within x a h)
result_ok-some (Err e) a h = absurd (none-some a h)

pub bind-ok : {A B E : Type 0} (r : Result A E) (more : A → Result B E) (b : B) → (r >>= more) ≡ Ok b → (a : A) × (r ≡ Ok a) × (more a ≡ Ok b)
bind-ok (Ok a) more b h = (a, refl, h)
bind-ok (Err fault) more b h = absurd (not_err b fault h)

pub bind-err : {A B E : Type 0} (r : Result A E) (more : A → Result B E) (fault : E) → (r >>= more) ≡ Err fault
    → (r ≡ Err fault) ⊎ ((a : A) × (r ≡ Ok a) × (more a ≡ Err fault))
bind-err (Ok a) more fault h = inr (a, refl, h)
bind-err {B} (Err e) more fault h = inl (ap Err (same_fault {A = B} e fault h))

ok_or-ok : {A E : Type 0} (o : Option A) (fault : E) (a : A) → ok_or o fault ≡ Ok a → o ≡ Some a
ok_or-ok None fault a h = absurd (not_err a fault h)
ok_or-ok (Some x) fault a h = ap result_ok h

-- A test was passed, and what it guards was answered.
pub cond-some : {A : Type 0} (t : Bool) (o : Option A) (x : A) → cond t o None ≡ Some x → (t ≡ true) × (o ≡ Some x)
cond-some true o x h = (refl, h)
cond-some false o x h = absurd (none-some x h)

pub both_true : (a b : Bool) → a ≡ true → b ≡ true → (a && b) ≡ true
both_true a b x y = ap (λ v. v && b) x ∙ y

pub not_so : (b : Bool) → (b ≡ true → ⊥) → b ≡ false
not_so true never = absurd (never refl)
not_so false never = refl

pub pointwise-same : (xs ys : List ℕ) → pointwise nat_eq xs ys ≡ true → xs ≡ ys
pointwise-same xs ys same = same_text xs ys (sym same)

pub pointwise-self : (xs : List ℕ) → pointwise nat_eq xs xs ≡ true
pointwise-self [] = refl
pointwise-self (x ∷ xs) = both_true (nat_eq x x) (pointwise nat_eq xs xs) (eq-eqb x x refl) (pointwise-self xs)

-- ---- a keyword and what follows it

pub text_after-some : (word bytes rest : List ℕ) → text_after word bytes ≡ Some rest → bytes ≡ word ++ rest
text_after-some word bytes rest h =
    let found = cond_some (pointwise nat_eq (take (length word) bytes) word) (drop (length word) bytes) rest h in
    sym (take-append-drop (length word) bytes)
    ∙ ap (λ (prefix : List ℕ). prefix ++ drop (length word) bytes) (pointwise-same (take (length word) bytes) word found.0)
    ∙ ap (λ (back : List ℕ). word ++ back) found.1

-- Bytes that were read after a keyword have their digits there.
pub bytes_after-some : (word : List ℕ) (count : ℕ) (line bytes : List ℕ) → bytes_after word count line ≡ Some bytes → HasDigits word count line bytes
bytes_after-some word count line bytes h =
    option_and_then_some (λ digits. result_ok (decode_sized digits count)) (text_after word line) bytes h
    (λ digits after decoded. (digits, text_after-some word line digits after, result_ok-some (decode_sized digits count) bytes decoded))

-- The bytes whose digits follow a keyword are read.
pub bytes_after-digits : (word : List ℕ) → ((rest : List ℕ) → text_after word (word ++ rest) ≡ Some rest) → (count : ℕ) (line bytes : List ℕ)
    → HasDigits word count line bytes → bytes_after word count line ≡ Some bytes
bytes_after-digits word after count line bytes has =
    ap (λ (l : List ℕ). bytes_after word count l) has.1
    ∙ ap (λ o. option_and_then (λ digits. result_ok (decode_sized digits count)) o) (after has.0) ∙ ap result_ok has.2

-- ---- the first of some lines

abbrev first_or : Lines → List ℕ → List ℕ
first_or [] other = other
first_or (line ∷ ls) other = line

pub first_same : (line other : List ℕ) (ls rest : Lines) → line ∷ ls ≡ other ∷ rest → line ≡ other
first_same line other ls rest h = ap (λ (all : Lines). first_or all line) h

pub none_of_none : (Form : List ℕ → Type 0) → NoneFirst Form []
none_of_none Form line rest h = absurd (omega (arith, ap (length {A = List ℕ}) h))

pub none_first : (Form : List ℕ → Type 0) (line : List ℕ) (ls : Lines) → (Form line → ⊥) → NoneFirst Form (line ∷ ls)
none_first Form line ls never other rest h form = never (subst Form (sym (first_same line other ls rest h)) form)

-- A line was read by its form.
pub line_of_form-ok : {A E : Type 0} (fault : E) (form : List ℕ → Option A) (ls : Lines) (p : A × Lines) → line_of_form fault form ls ≡ Ok p
    → (line : List ℕ) × (ls ≡ line ∷ p.1) × (form line ≡ Some p.0)
line_of_form-ok fault form [] p h = absurd (not_err p fault h)
line_of_form-ok fault form (line ∷ rest) p h =
    let found = option_map-some (λ a. (a, rest)) (form line) p (ok_or-ok (option_map (λ a. (a, rest)) (form line)) fault p h) in
    (line, ap (λ q. line ∷ q.1) found.2, found.1 ∙ ap (λ q. Some q.0) found.2)

-- None was.
pub line_of_form-err : {A E : Type 0} (fault : E) (form : List ℕ → Option A) (Form : List ℕ → Type 0) → ((line : List ℕ) → Form line → (a : A) × (form line ≡ Some a))
    → (ls : Lines) (other : E) → line_of_form fault form ls ≡ Err other → (other ≡ fault) × NoneFirst Form ls
line_of_form-err {A} fault form Form takes [] other h = (sym (same_fault {A = A × Lines} fault other h), none_of_none Form)
line_of_form-err {A} {E} fault form Form takes (line ∷ rest) other h =
    elim (form line)
    as (λ o. form line ≡ o → ◌≡◌ {A = Result (A × Lines) E} (ok_or (option_map (λ a. (a, rest)) o) fault) (Err other) → (other ≡ fault) × NoneFirst Form (line ∷ rest)) [
      | None ↦ λ e is. (sym (same_fault {A = A × Lines} fault other is), none_first Form line rest (λ f. none-some (takes line f).0 (sym e ∙ (takes line f).1)))
      | Some a ↦ λ e is. absurd (not_both {A = A × Lines} (a, rest) other is)
    ] refl h

-- Where the first line is not of the form, none is read.
pub line_of_form-none : {A E : Type 0} (fault : E) (form : List ℕ → Option A) (Form : List ℕ → Type 0) → ((line : List ℕ) (a : A) → form line ≡ Some a → Form line)
    → (ls : Lines) → NoneFirst Form ls → line_of_form fault form ls ≡ Err fault
line_of_form-none fault form Form shows [] none = refl
line_of_form-none {A} {E} fault form Form shows (line ∷ rest) none =
    elim (form line)
    as (λ o. form line ≡ o → ◌≡◌ {A = Result (A × Lines) E} (ok_or (option_map (λ a. (a, rest)) o) fault) (Err fault)) [
      | None ↦ λ e. refl
      | Some a ↦ λ e. absurd (none line rest refl (shows line a e))
    ] refl
