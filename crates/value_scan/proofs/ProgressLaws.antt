-- The progress after the last byte of a value decides the comparison, however the value was cut.
use Rattle.std.proofs.Common.{◌≡◌, ℕ, suc, zero, ◌+◌, ◌<◌, ◌≤◌, Bool, true, false, not, nat_eq, nat_le, nat_lt, ◌&&◌, int_lt, int_le, Option, Some, None, List, [], ◌∷◌, ◌++◌, length, get_or, drop, drop-cons, refl, ap, sym, ◌∙◌, inl, inr, ◌⊎◌, arith, add-one, if◌then◌else◌}
use Rattle.std.proofs.lemmas.Bool.Decides.{nat_tests}
use Rattle.std.proofs.lemmas.Bool.{false≢true}
use Rattle.std.proofs.lemmas.List.{drop_all}
use Rattle.std.specs.Option.{option_map_or}
use Rattle.std.specs.Ordering.{int_eq}
use Rattle.std.specs.Cmp.Lexicographic.{pointwise}
use Rattle.acl_model.specs.Numbers.{whole}
use Rattle.acl_model.specs.Comparisons.{equals, operand_number, are_ordered, satisfies}
use Rattle.acl_model.specs.declared.path.Cmp.{Cmp}
use Rattle.acl_model.specs.declared.path.Op.{Op}
use Rattle.acl_model.specs.declared.path.Op.TheVariants.{Eq, Ne, Lt, Le, Gt, Ge}
use Rattle.acl_model.specs.declared.path.Operand.{Operand}
use Rattle.acl_model.specs.declared.path.Operand.TheVariants.{Text, Number, User}
use Rattle.value_scan.specs.Numerals.{numeral_after_all, number_of}
use Rattle.value_scan.specs.Progress.{begun, matched_after, fed_byte, fed, is_all_matched, is_equal, satisfies_so_far, is_satisfied, is_settled}
use Rattle.value_scan.specs.declared.numeral.Numeral.{Numeral}
use Rattle.value_scan.specs.declared.numeral.Numeral.TheVariants.{Start, Minus, Digits, Unfit}
use Rattle.value_scan.specs.declared.progress.Progress.{Progress}
use Rattle.value_scan.proofs.NumberLaws.{whole_is, inside_or_past, is_below, is_not_below}

-- ---- pieces

-- Feeding two pieces is feeding one and then the other.
pub fed-append : (operand : Operand) (progress : Progress) (first second : List ℕ)
    → fed operand progress (first ++ second) ≡ fed operand (fed operand progress first) second
fed-append operand progress [] second = refl
fed-append operand progress (b ∷ first) second = fed-append operand (fed_byte operand progress b) first second

-- ---- a settled progress

-- the settled progress: the value differs from the literal, and is not a number
abbrev settled : Progress
settled = record { matched = None; numeral = Unfit }

settled-fed : (operand : Operand) (bytes : List ℕ) → fed operand settled bytes ≡ settled
settled-fed operand [] = refl
settled-fed operand (b ∷ bytes) = settled-fed operand bytes

parts_stay : (operand : Operand) (matched : Option ℕ) (numeral : Numeral) (bytes : List ℕ)
    → is_settled (record { matched = matched; numeral = numeral }) ≡ true
    → fed operand (record { matched = matched; numeral = numeral }) bytes ≡ record
    { matched = matched; numeral = numeral }
parts_stay operand (Some count) numeral bytes is = absurd (false≢true is)
parts_stay operand None Start bytes is = absurd (false≢true is)
parts_stay operand None Minus bytes is = absurd (false≢true is)
parts_stay operand None (Digits minus count number) bytes is = absurd (false≢true is)
parts_stay operand None Unfit bytes is = settled-fed operand bytes

-- A settled progress never changes.
pub fed-settled : (operand : Operand) (progress : Progress) (bytes : List ℕ) → is_settled progress ≡ true
    → fed operand progress bytes ≡ progress
fed-settled operand progress bytes is = parts_stay operand progress.matched progress.numeral bytes is

pub ruleset feed_steps = (drop-cons, fed-settled)

-- ---- numbers

-- The numeral of a progress doesn't depend on what is matched of a literal.
numeral_of_fed : (operand : Operand) (progress : Progress) (bytes : List ℕ)
    → (fed operand progress bytes).numeral ≡ numeral_after_all progress.numeral bytes
numeral_of_fed operand progress [] = refl
numeral_of_fed operand progress (b ∷ bytes) = numeral_of_fed operand (fed_byte operand progress b) bytes

-- After the last byte of a value, its number is the number of the value.
number_is : (operand : Operand) (bytes : List ℕ) → number_of (fed operand begun bytes).numeral ≡ whole bytes
number_is operand bytes = ap number_of (numeral_of_fed operand begun bytes) ∙ whole_is bytes

-- ---- literals

-- how many bytes of a list are matched after many bytes
abbrev matched_all : List ℕ → Option ℕ → List ℕ → Option ℕ
matched_all literal matched [] = matched
matched_all literal matched (b ∷ bs) = matched_all literal (matched_after (Text literal) matched b) bs

-- A value that differed once never matches the whole literal.
none_matched : (literal bytes : List ℕ) → is_all_matched literal (matched_all literal None bytes) ≡ false
none_matched literal [] = refl
none_matched literal (b ∷ bytes) = none_matched literal bytes

nat_eq-sym : (a b : ℕ) → nat_eq a b ≡ nat_eq b a
nat_eq-sym a b = grind (arith, nat_tests)

is_unequal : (a b : ℕ) → a < b → nat_eq a b ≡ false
is_unequal a b less = grind (arith, nat_tests)

is_same : (a b : ℕ) → a ≤ b → b ≤ a → nat_eq a b ≡ true
is_same a b low high = grind (arith, nat_tests)

-- Where `count` bytes are matched, the rest of the value is matched exactly where it is the rest of the literal.
abbrev Matches : List ℕ → List ℕ → Type 0
Matches literal bytes = (count : ℕ) → count ≤ length literal
    → is_all_matched literal (matched_all literal (Some count) bytes) ≡ pointwise nat_eq bytes (drop count literal)

ends_inside : (literal : List ℕ) (count : ℕ) → count ≤ length literal
    → (count < length literal) ⊎ (length literal ≤ count)
    → is_all_matched literal (Some count) ≡ pointwise nat_eq [] (drop count literal)
ends_inside literal count within (inl inside) =
    rw (drop-cons literal count 0 inside, is_unequal count (length literal) inside) refl
ends_inside literal count within (inr past) =
    rw (drop_all count literal past, is_same count (length literal) within past) refl

one_more : (literal : List ℕ) (b : ℕ) (bytes : List ℕ) (count : ℕ) → Matches literal bytes → count ≤ length literal
    → (count < length literal) ⊎ (length literal ≤ count)
    → is_all_matched literal (matched_all literal (Some count) (b ∷ bytes)) ≡ pointwise nat_eq (b ∷ bytes)
    (drop count literal)
one_more literal b bytes count matches within (inr past) =
    rw (is_not_below count (length literal) past, drop_all count literal past) (none_matched literal bytes)
one_more literal b bytes count matches within (inl inside) =
    rw (is_below count (length literal) inside, drop-cons literal count 0 inside)
    (elim (nat_eq (get_or literal count 0) b)
    as (λ t. is_all_matched literal (matched_all literal (if t then Some (count + 1) else None) bytes) ≡
    (t && pointwise nat_eq bytes (drop (suc count) literal))) [
      | true ↦ matches (count + 1) (omega (arith, inside)) ∙ ap (λ n. pointwise nat_eq bytes (drop n literal))
          (add-one count)
      | false ↦ none_matched literal bytes
    ]
    ∙ ap (λ t. t && pointwise nat_eq bytes (drop (suc count) literal)) (nat_eq-sym (get_or literal count 0) b))

all_match : (literal bytes : List ℕ) → Matches literal bytes
all_match literal [] count within = ends_inside literal count within (inside_or_past count (length literal))
all_match literal (b ∷ bytes) count within =
    one_more literal b bytes count (all_match literal bytes) within (inside_or_past count (length literal))

-- What is matched of a literal or the user doesn't depend on the numeral.
matched_of_text : (literal : List ℕ) (progress : Progress) (bytes : List ℕ)
    → (fed (Text literal) progress bytes).matched ≡ matched_all literal progress.matched bytes
matched_of_text literal progress [] = refl
matched_of_text literal progress (b ∷ bytes) = matched_of_text literal (fed_byte (Text literal) progress b) bytes

matched_of_user : (literal : List ℕ) (progress : Progress) (bytes : List ℕ)
    → (fed (User literal) progress bytes).matched ≡ matched_all literal progress.matched bytes
matched_of_user literal progress [] = refl
matched_of_user literal progress (b ∷ bytes) = matched_of_user literal (fed_byte (User literal) progress b) bytes

-- ---- comparisons

equals_is : (operand : Operand) (bytes : List ℕ) → is_equal operand (fed operand begun bytes) ≡ equals operand bytes
equals_is (Text literal) bytes = ap (is_all_matched literal) (matched_of_text literal begun bytes)
    ∙ all_match literal bytes 0 (omega arith)
equals_is (Number n) bytes = ap (λ o. option_map_or (λ m. int_eq m n) o false) (number_is (Number n) bytes)
equals_is (User literal) bytes = ap (is_all_matched literal) (matched_of_user literal begun bytes)
    ∙ all_match literal bytes 0 (omega arith)

stands_is : (op : Op) (operand : Operand) (bytes : List ℕ)
    → satisfies_so_far op operand (fed operand begun bytes) ≡ satisfies op operand bytes
stands_is Eq operand bytes = equals_is operand bytes
stands_is Ne operand bytes = ap not (equals_is operand bytes)
stands_is Lt operand bytes = ap (λ n. are_ordered int_lt n (operand_number operand)) (number_is operand bytes)
stands_is Le operand bytes = ap (λ n. are_ordered int_le n (operand_number operand)) (number_is operand bytes)
stands_is Gt operand bytes = ap (are_ordered int_lt (operand_number operand)) (number_is operand bytes)
stands_is Ge operand bytes = ap (are_ordered int_le (operand_number operand)) (number_is operand bytes)

-- After the last byte, the result is that of `acl_model` for the value.
pub satisfied_is : (cmp : Cmp) (value : List ℕ)
    → is_satisfied cmp (fed cmp.operand begun value) ≡ satisfies cmp.op cmp.operand value
satisfied_is cmp value = stands_is cmp.op cmp.operand value
