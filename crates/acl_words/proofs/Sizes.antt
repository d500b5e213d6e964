-- Arguments of digits are parsed as the number that they write.
use Rattle.std.proofs.Common.{◌≡◌, ℕ, ◌<◌, ◌≤◌, Bool, true, false, ◌&&◌, Result, Ok, Err, List, length, refl, arith, rules}
use Rattle.std.proofs.lemmas.Str.Parse.{IsNumeralModel, numerals_by_value, parse_gives, digits_value_short}
use Rattle.std.specs.Char.{is_ascii_digit}
use Rattle.std.specs.List.{list_all}
use Rattle.std.specs.Str.Parse.{digits_value, ParsesUnsigned}
use Rattle.acl_words.specs.CommandLines.{is_numeral}
use borrow.Author.Tests.{ltb-true, leb-true}

own : IsNumeralModel (λ ds. list_all is_ascii_digit ds ≡ true) (digits_value 10)
own = numerals_by_value _ (search rules)

-- `parse` of 1 to 6 digits gives the number that they write.
pub parse_digits : {E : Type 0} (bs : List ℕ) (r : Result ℕ E) → ParsesUnsigned 32 10 bs r → list_all is_ascii_digit bs ≡ true → 0 < length bs → length bs ≤ 6
    → r ≡ Ok (digits_value 10 bs)
parse_digits bs r h p some few = parse_gives own 32 bs r h p some (omega (arith, digits_value_short own bs 6 p few))

both : (a b : Bool) → (a && b) ≡ true → (a ≡ true) × (b ≡ true)
both true true h = (refl, refl)
both true false h = absurd (cc)
both false b h = absurd (cc)

-- `parse` doesn't fail on a numeral.
pub not_refused : {E : Type 0} (bs : List ℕ) (e : E) → ParsesUnsigned {E = E} 32 10 bs (Err e) → is_numeral bs ≡ true → ⊥
not_refused bs e h numeral =
    let first = both _ _ numeral in
    let second = both _ _ first.0 in
    let third = both _ _ second.0 in
    let read = parse_digits bs (Err e) h second.1 (ltb-true 0 (length bs) third.0) (leb-true (length bs) 6 third.1) in
    absurd (cc)

-- what `read_size` uses
pub ruleset sizes = (parse_digits)
