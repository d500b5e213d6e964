-- The numeral after the last byte of a value has the whole number that `acl_model` defines for the value.
use Rattle.std.proofs.Common.{◌≡◌, ℕ, ℤ, pos, suc, zero, ◌+◌, ◌-◌, ◌*◌, ◌^◌, ◌<◌, ◌≤◌, Bool, true, false, nat_eq, nat_le, nat_lt, ◌&&◌, Option, Some, None, List, [], ◌∷◌, length, refl, ap, sym, ◌∙◌, subst, add-one, inl, inr, ◌⊎◌, arith, if◌then◌else◌, drop-cons}
use Rattle.std.proofs.Math.Nat.{pow-suc, pow-le-pow_right}
use Rattle.std.proofs.lemmas.Bool.Decides.{nat_tests}
use Rattle.std.specs.List.{list_all}
use Rattle.std.specs.Option.{option_map}
use Rattle.std.specs.Char.{is_ascii_digit, digit_value}
use Rattle.std.specs.Str.Parse.{digits_value_after}
use Rattle.acl_model.specs.Numbers.{number_of_digits, negative, whole}
use Rattle.value_scan.specs.Numerals.{leading_digit, numeral_after_all, signed, number_of}
use Rattle.value_scan.specs.declared.numeral.Numeral.TheVariants.{Start, Minus, Digits, Unfit}

-- Once a numeral is Unfit, it stays so.
pub unfit_after : (bytes : List ℕ) → numeral_after_all Unfit bytes ≡ Unfit
unfit_after [] = refl
unfit_after (b ∷ bytes) = unfit_after bytes

unfit_stays : (bytes : List ℕ) → number_of (numeral_after_all Unfit bytes) ≡ None
unfit_stays [] = refl
unfit_stays (b ∷ bytes) = unfit_stays bytes

-- the number after further digits, where there are at most 18 digits together
abbrev rest_of_number : Bool → ℕ → ℕ → List ℕ → Option ℤ
rest_of_number minus count number ds =
    if list_all is_ascii_digit ds && nat_le (count + length ds) 18 then Some
    (signed minus (digits_value_after 10 number ds)) else None

digit_value_is : (b : ℕ) → is_ascii_digit b ≡ true → digit_value b ≡ b - 48
digit_value_is b digit = grind (arith, nat_tests)

fits : (number : ℕ) → number < 10 ^ 18 → nat_lt number 1000000000000000000 ≡ true
fits number small = grind (arith, nat_tests)

and_false : (a : Bool) → (a && false) ≡ false
and_false true = refl
and_false false = refl

pub inside_or_past : (i n : ℕ) → (i < n) ⊎ (n ≤ i)
inside_or_past i zero = inr (omega arith)
inside_or_past zero (suc n) = inl (omega arith)
inside_or_past (suc i) (suc n) =
    elim (inside_or_past i n) [ inl h ↦ inl (omega (arith, h)) | inr h ↦ inr (omega (arith, h)) ]

pub is_below : (a b : ℕ) → a < b → nat_lt a b ≡ true
is_below a b less = grind (arith, nat_tests)

pub is_not_below : (a b : ℕ) → b ≤ a → nat_lt a b ≡ false
is_not_below a b less = grind (arith, nat_tests)

is_not_at_most : (a b : ℕ) → b < a → nat_le a b ≡ false
is_not_at_most a b less = grind (arith, nat_tests)

is_at_most : (a b : ℕ) → a ≤ b → nat_le a b ≡ true
is_at_most a b less = grind (arith, nat_tests)

-- appending a digit to a number makes it longer by one digit
one_more_digit : (number count d : ℕ) → number < 10 ^ count → d < 10 → number * 10 + d < 10 ^ suc count
one_more_digit number count d small digit =
    let power : 10 ^ suc count ≡ 10 ^ count * 10 = pow-suc 10 count in
    rw power (omega (arith, small, digit))

below_ten : (b : ℕ) → is_ascii_digit b ≡ true → b - 48 < 10
below_ten b digit = grind (arith, nat_tests)

too_many : (minus : Bool) (ds : List ℕ) (total number : ℕ) → 18 < total
    → (if list_all is_ascii_digit ds && nat_le total 18 then Some (signed minus number) else None) ≡ None
too_many minus ds total number many =
    rw (is_not_at_most total 18 many)
    (ap (λ t. if t then Some (signed minus number) else None) (and_false (list_all is_ascii_digit ds)))

-- after 18 digits, one more digit gives no number
digit_too_many : (d : ℕ) (ds : List ℕ) (minus : Bool) (count number : ℕ) → is_ascii_digit d ≡ true → 18 ≤ count
    → number_of (numeral_after_all (Digits minus count number) (d ∷ ds)) ≡ rest_of_number minus count number (d ∷ ds)
digit_too_many d ds minus count number digit full =
    rw (digit, is_not_below count 18 full)
    (unfit_stays ds ∙ sym
    (too_many minus ds (count + length (d ∷ ds)) (digits_value_after 10 (number * 10 + digit_value d) ds)
    (omega (arith, full))))

-- the numeral after further bytes has the number that they write
abbrev Follows : List ℕ → Type 0
Follows ds = (minus : Bool) (count number : ℕ) → count ≤ 18 → number < 10 ^ count
    → number_of (numeral_after_all (Digits minus count number) ds) ≡ rest_of_number minus count number ds

one_digit_follows : (d : ℕ) (ds : List ℕ) (minus : Bool) (count number : ℕ) → Follows ds → is_ascii_digit d ≡ true
    → count < 18 → number < 10 ^ count
    → number_of (numeral_after_all (Digits minus count number) (d ∷ ds)) ≡ rest_of_number minus count number (d ∷ ds)
one_digit_follows d ds minus count number follow digit room small =
    let large : 10 ^ count ≤ 10 ^ 17 =
    pow-le-pow_right {n = 10} (omega arith) {i = count} {j = 17} (omega (arith, room)) in
    let more : number * 10 + (d - 48) < 10 ^ (count + 1) =
    subst (λ n. number * 10 + (d - 48) < 10 ^ n) (sym (add-one count))
    (one_more_digit number count (d - 48) small (below_ten d digit)) in
    let total : count + 1 + length ds ≡ count + length (d ∷ ds) = omega arith in
    rw (digit, is_below count 18 room, is_below number 100000000000000000 (omega (arith, small, large)))
    (follow minus (count + 1) (number * 10 + (d - 48)) (omega (arith, room)) more
    ∙ ap (λ n. if list_all is_ascii_digit ds && nat_le n 18 then Some
    (signed minus (digits_value_after 10 (number * 10 + (d - 48)) ds)) else None) total
    ∙ ap (λ n. if list_all is_ascii_digit ds && nat_le (count + length (d ∷ ds)) 18 then Some
    (signed minus (digits_value_after 10 (number * 10 + n) ds)) else None) (sym (digit_value_is d digit)))

digit_follows : (d : ℕ) (ds : List ℕ) (minus : Bool) (count number : ℕ) (t : Bool) → Follows ds → is_ascii_digit d ≡ t
    → (count < 18) ⊎ (18 ≤ count) → number < 10 ^ count
    → number_of (numeral_after_all (Digits minus count number) (d ∷ ds)) ≡ rest_of_number minus count number (d ∷ ds)
digit_follows d ds minus count number false follow other room small = rw other (unfit_stays ds)
digit_follows d ds minus count number true follow digit (inl room) small =
    one_digit_follows d ds minus count number follow digit room small
digit_follows d ds minus count number true follow digit (inr full) small =
    digit_too_many d ds minus count number digit full

digits_follow : (ds : List ℕ) → Follows ds
digits_follow [] minus count number few small =
    let large : 10 ^ count ≤ 10 ^ 18 = pow-le-pow_right {n = 10} (omega arith) {i = count} {j = 18} few in
    rw (
      is_below number 1000000000000000000 (omega (arith, small, large)),
      is_at_most (count + 0) 18
          (omega (arith, few)),
    ) refl
digits_follow (d ∷ ds) minus count number few small =
    digit_follows d ds minus count number (is_ascii_digit d) (digits_follow ds) refl (inside_or_past count 18) small

-- the same, where the bytes are all the digits of a number
all_digits : (minus all : Bool) (n v w : ℕ) → v ≡ w
    → (if all && nat_le (1 + n) 18 then Some (signed minus v) else None) ≡ option_map (λ m. signed minus m)
    (if (all && nat_le 1 (suc n)) && nat_le (suc n) 18 then Some w else None)
all_digits minus false n v w same = refl
all_digits minus true n v w same =
    rw (is_at_most 1 (suc n) (omega arith))
    (let plus : 1 + n ≡ suc n = omega arith in
    ap (λ m. if nat_le m 18 then Some (signed minus v) else None) plus
    ∙ ap (λ x. if nat_le (suc n) 18 then Some (signed minus x) else None) same
    ∙ elim (nat_le (suc n) 18) as
    (λ t. (if t then Some (signed minus w) else None) ≡ option_map (λ m. signed minus m)
    (if t then Some w else None)) [ true ↦ refl | false ↦ refl ])

-- A first digit begins the number of all digits.
first_digit_is : (minus : Bool) (b : ℕ) (bs : List ℕ)
    → number_of (numeral_after_all (leading_digit minus b) bs) ≡ option_map (λ m. signed minus m)
    (number_of_digits (b ∷ bs))
first_digit_is minus b bs = by_digit (is_ascii_digit b) refl
  where
    by_digit : (t : Bool) → is_ascii_digit b ≡ t
        → number_of (numeral_after_all (leading_digit minus b) bs) ≡ option_map (λ m. signed minus m)
        (number_of_digits (b ∷ bs))
    by_digit false other = rw other (unfit_stays bs)
    by_digit true digit =
        let same : b - 48 ≡ 0 * 10 + digit_value b = omega (arith, digit_value_is b digit) in
        rw digit
        (digits_follow bs minus 1 (b - 48) (omega arith) (below_ten b digit)
        ∙ all_digits minus (list_all is_ascii_digit bs) (length bs) _ _ (ap (λ n. digits_value_after 10 n bs) same))

-- what follows a '-'
after_minus : (bs : List ℕ) → number_of (numeral_after_all Minus bs) ≡ option_map negative (number_of_digits bs)
after_minus [] = refl
after_minus (b ∷ bs) = first_digit_is true b bs

-- After the last byte of a value, the numeral has the whole number of the value.
pub whole_is : (bytes : List ℕ) → number_of (numeral_after_all Start bytes) ≡ whole bytes
whole_is [] = refl
whole_is (b ∷ bs) =
    elim (nat_eq b 45) as
    (λ t. number_of (numeral_after_all (if t then Minus else leading_digit false b) bs) ≡
    (if t then option_map negative (number_of_digits bs) else option_map pos (number_of_digits (b ∷ bs))))
    [ true ↦ after_minus bs | false ↦ first_digit_is false b bs ]

-- more than 18 digits are not a number
no_digits : (ds : List ℕ) → 18 < length ds → number_of_digits ds ≡ None
no_digits ds many = rw
    (is_not_at_most (length ds) 18 many, and_false (list_all is_ascii_digit ds && nat_le 1 (length ds))) refl

-- A value longer than 19 bytes is not a whole number.
pub whole-long : (bytes : List ℕ) → 19 < length bytes → whole bytes ≡ None
whole-long [] long = absurd (omega arith)
whole-long (b ∷ bs) long =
    elim (nat_eq b 45) as
    (λ t. (if t then option_map negative (number_of_digits bs) else option_map pos (number_of_digits (b ∷ bs))) ≡
    None) [
      | true ↦ ap (option_map negative) (no_digits bs (omega (arith, long)))
      | false ↦ ap (option_map pos)
          (no_digits (b ∷ bs) (omega (arith, long)))
    ]

pub ruleset numeral_steps = (drop-cons, unfit_after)

pub ruleset number_laws = (whole_is, whole-long)
