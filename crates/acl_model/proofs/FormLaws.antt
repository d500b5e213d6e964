-- The form of an element by its parts, the form of a raw attribute by its parts, and what fits a line.
use Rattle.std.proofs.Common.{◌≡◌, ℕ, suc, ◌+◌, ◌-◌, ◌<◌, ◌≤◌, Bool, true, false, not, cond, ◌&&◌, nat_eq, nat_le, Option, None, Some, List, [], ◌∷◌, length, map, get_or, take, drop, refl, ap, sym, ◌∙◌, ⊎_elim, arith}
use Rattle.std.specs.List.{list_all, before_first, after_first, position_or_len}
use Rattle.std.specs.Option.{option_map}
use Rattle.std.proofs.lemmas.Bool.{cases_Bool}
use Rattle.std.proofs.lemmas.Bool.Decides.{nat_tests}
use Rattle.acl_model.specs.Ascii.{is_byte, are_bytes, space, line_feed}
use Rattle.acl_model.specs.Names.{is_name}
use Rattle.acl_model.specs.Lines.{cut_at, lacks, is_within_line}
use Rattle.acl_model.specs.Document.{is_type, is_raw_attribute, is_well_formed, item_well_formed, greatest, height, height_of_item}
use Rattle.acl_model.proofs.FormEquations.{well_formed_is, height_is}
use Rattle.acl_model.specs.declared.document.Element.{Element}

-- ---- parts between spaces

abbrev is_space : ℕ → Bool
is_space b = nat_eq b space

first_of : Option (List ℕ × List ℕ) → List ℕ → List ℕ
first_of None bytes = bytes
first_of (Some p) bytes = p.0

after_of : Option (List ℕ × List ℕ) → List ℕ
after_of None = []
after_of (Some p) = p.1

-- one cut gives what comes before and after the first space
cut_first : (bytes : List ℕ) → before_first is_space bytes ≡ first_of (cut_at space bytes) bytes
unfolding first_of
cut_first [] = refl
cut_first (b ∷ bytes) = ⊎_elim
    (λ at.
    ap (λ t. take (cond (not t) (1 + position_or_len is_space bytes) 0) (b ∷ bytes)) at
    ∙ sym (ap (λ t. first_of (cond t (Some ([], bytes)) (option_map (λ p. (b ∷ p.0, p.1)) (cut_at space bytes))) (b ∷ bytes)) at))
    (λ other.
    let on : 1 + position_or_len is_space bytes ≡ suc (position_or_len is_space bytes) = omega arith in
    ap (λ t. take (cond (not t) (1 + position_or_len is_space bytes) 0) (b ∷ bytes)) other
    ∙ ap (λ n. take n (b ∷ bytes)) on
    ∙ ap (λ l. b ∷ l) (cut_first bytes) ∙ pushed b bytes (cut_at space bytes)
    ∙ sym (ap (λ t. first_of (cond t (Some ([], bytes)) (option_map (λ p. (b ∷ p.0, p.1)) (cut_at space bytes))) (b ∷ bytes)) other))
    (cases_Bool (is_space b))
  where
    pushed : (b : ℕ) (bytes : List ℕ) (o : Option (List ℕ × List ℕ)) → b ∷ first_of o bytes ≡ first_of (option_map (λ p. (b ∷ p.0, p.1)) o) (b ∷ bytes)
    pushed b bytes None = refl
    pushed b bytes (Some p) = refl

cut_after : (bytes : List ℕ) → after_first is_space bytes ≡ after_of (cut_at space bytes)
unfolding after_of
cut_after [] = refl
cut_after (b ∷ bytes) = ⊎_elim
    (λ at.
    ap (λ t. drop (cond (not t) (1 + position_or_len is_space bytes) 0 + 1) (b ∷ bytes)) at
    ∙ sym (ap (λ t. after_of (cond t (Some ([], bytes)) (option_map (λ p. (b ∷ p.0, p.1)) (cut_at space bytes)))) at))
    (λ other.
    let on : 1 + position_or_len is_space bytes + 1 ≡ suc (position_or_len is_space bytes + 1) = omega arith in
    ap (λ t. drop (cond (not t) (1 + position_or_len is_space bytes) 0 + 1) (b ∷ bytes)) other
    ∙ ap (λ n. drop n (b ∷ bytes)) on
    ∙ cut_after bytes ∙ pushed b (cut_at space bytes)
    ∙ sym (ap (λ t. after_of (cond t (Some ([], bytes)) (option_map (λ p. (b ∷ p.0, p.1)) (cut_at space bytes)))) other))
    (cases_Bool (is_space b))
  where
    pushed : (b : ℕ) (o : Option (List ℕ × List ℕ)) → after_of o ≡ after_of (option_map (λ p. (b ∷ p.0, p.1)) o)
    pushed b None = refl
    pushed b (Some p) = refl

-- the bytes before the first space, where there is a space and where there is none
pub before_first-cut : (bytes word after : List ℕ) → cut_at space bytes ≡ Some (word, after) → before_first is_space bytes ≡ word
unfolding first_of
before_first-cut bytes word after cut = cut_first bytes ∙ ap (λ o. first_of o bytes) cut

pub before_first-whole : (bytes : List ℕ) → cut_at space bytes ≡ None → before_first is_space bytes ≡ bytes
unfolding first_of
before_first-whole bytes cut = cut_first bytes ∙ ap (λ o. first_of o bytes) cut

pub after_first-cut : (bytes word after : List ℕ) → cut_at space bytes ≡ Some (word, after) → after_first is_space bytes ≡ after
unfolding after_of
after_first-cut bytes word after cut = cut_after bytes ∙ ap after_of cut

-- a raw attribute by its parts
pub raw_attribute-cut : (raw name after : List ℕ) → cut_at space raw ≡ Some (name, after)
    → is_raw_attribute raw ≡ (is_name name && is_type (before_first is_space after) && is_within_line raw)
raw_attribute-cut raw name after cut =
    ap (λ l. is_name l && is_type (before_first is_space (after_first is_space raw)) && is_within_line raw) (before_first-cut raw name after cut)
    ∙ ap (λ l. is_name name && is_type (before_first is_space l) && is_within_line raw) (after_first-cut raw name after cut)

-- without a space there is no type
pub raw_attribute-none : (raw : List ℕ) → cut_at space raw ≡ None → is_raw_attribute raw ≡ false
unfolding after_of
raw_attribute-none raw cut =
    ap (λ l. is_name (before_first is_space raw) && is_type (before_first is_space l) && is_within_line raw) (cut_after raw ∙ ap after_of cut)
    ∙ never (is_name (before_first is_space raw)) (is_within_line raw)
  where
    never : (a b : Bool) → (a && false && b) ≡ false
    never true b = refl
    never false b = refl

-- ---- lines

are_bytes-fit : (bytes : List ℕ) → ((k : ℕ) → get_or bytes k 0 < 256) → are_bytes bytes ≡ true
are_bytes-fit [] fit = refl
are_bytes-fit (b ∷ bytes) fit =
    let first = fit 0 in
    let own : is_byte b ≡ true = grind (arith, nat_tests) in
    rw (own, are_bytes-fit bytes (λ k. fit (suc k))) refl

-- bytes fit a line where none is a line feed
pub within_line-bytes : (bytes : List ℕ) → ((k : ℕ) → get_or bytes k 0 < 256) → lacks line_feed bytes ≡ is_within_line bytes
within_line-bytes bytes fit = sym (ap (λ b. b && lacks line_feed bytes) (are_bytes-fit bytes fit))

-- ---- elements

-- each element has at least one level
pub element-no_levels : (name : List ℕ → Bool) (e : Element) (levels : ℕ) → levels ≡ 0 → (is_well_formed name e && nat_le (height e) levels) ≡ false
element-no_levels name e levels none =
    let high = height_is e in
    let over : nat_le (height e) levels ≡ false = grind (arith, nat_tests) in
    ap (λ b. is_well_formed name e && b) over ∙ never (is_well_formed name e)
  where
    never : (a : Bool) → (a && false) ≡ false
    never true = refl
    never false = refl

-- an element has one level more than its items
pub element-levels : (name : List ℕ → Bool) (e : Element) (levels : ℕ) → 1 ≤ levels
    → (is_well_formed name e && nat_le (height e) levels)
    ≡ ((name e.name && nat_le (length e.attributes) 65535 && list_all is_raw_attribute e.attributes)
    && (list_all (λ b. b) (map (item_well_formed name) e.items) && nat_le (greatest (map height_of_item e.items)) (levels - 1)))
element-levels name e levels some =
    let own : Bool = name e.name && nat_le (length e.attributes) 65535 && list_all is_raw_attribute e.attributes in
    let items : Bool = list_all (λ b. b) (map (item_well_formed name) e.items) in
    ap (λ b. b && nat_le (height e) levels) (well_formed_is name e)
    ∙ ap (λ n. (own && items) && nat_le n levels) (height_is e)
    ∙ ap (λ b. (own && items) && b) (one_less (greatest (map height_of_item e.items)) levels some)
    ∙ grouped own items (nat_le (greatest (map height_of_item e.items)) (levels - 1))
  where
    one_less : (n m : ℕ) → 1 ≤ m → nat_le (n + 1) m ≡ nat_le n (m - 1)
    one_less n m some = grind (arith, nat_tests)

    grouped : (a b c : Bool) → ((a && b) && c) ≡ (a && (b && c))
    grouped true b c = refl
    grouped false b c = refl

-- ---- conjunctions

pub and_no_first : (a b c : Bool) → a ≡ false → (a && b && c) ≡ false
and_no_first a b c no_first = ap (λ x. x && b && c) no_first

pub and_no_second : (a b c : Bool) → b ≡ false → (a && b && c) ≡ false
and_no_second a b c no_second = ap (λ x. a && x && c) no_second ∙ never a c
  where
    never : (a c : Bool) → (a && false && c) ≡ false
    never true c = refl
    never false c = refl

pub and_both : (a b c : Bool) → a ≡ true → b ≡ true → c ≡ (a && b && c)
and_both a b c one other = rw (one, other) refl

pub and_true : (a b : Bool) → a ≡ true → b ≡ (a && b)
and_true a b one = rw one refl

pub and_no : (a b : Bool) → a ≡ false → (a && b) ≡ false
and_no a b no_first = ap (λ x. x && b) no_first
