-- What bits were, where they were read as a number, and the bit of a head that says whether a tag set follows.
use Rattle.std.proofs.Common.{◌≡◌, ℕ, zero, suc, ◌+◌, ◌^◌, ◌<◌, ◌≤◌, Bool, true, cond, nat_eq, nat_le, get_or, Option, Some, None, List, [], ◌∷◌, ◌++◌, length, take, drop, refl, ap, sym, ◌∙◌, subst, arith, drop_at, take-append-drop, length-take-le, append_assoc}
use Rattle.std.specs.Option.{option_and_then, option_map}
use Rattle.std.proofs.lemmas.Bool.Decides.{nat_tests}
use Rattle.std.proofs.lemmas.Option.{same_Some, none-some}
use Rattle.acl_bits.specs.FilledBits.{bits_of, number_of, bits_of_bytes}
use Rattle.acl_bits.proofs.BitStrings.{bits_of-number_of, number_of-lt}
use Rattle.acl_model.specs.StreamBits as model
use Rattle.acl_model.proofs.SizeLaws as sizes
use Rattle.skip_decode.specs.inside.HeadReading.{take_bits}
use Rattle.skip_decode.specs.StreamHeads.{inner_bit}
use Rattle.skip_decode.proofs.StepKinds.{and_then_some, cond_some}
use Rattle.skip_decode.proofs.SpotHeads.{cond_option}
use Rattle.skip_decode.proofs.Taking.{bits_same, bits_of_bytes-append}

-- Where a function is mapped over an option and there is a value, it is the function's value.
pub mapped : {A B : Type 0} (f : A → B) (o : Option A) (y : B) → option_map f o ≡ Some y
    → (x : A) × (o ≡ Some x) × (f x ≡ y)
mapped f None y is = absurd (none-some y is)
mapped f (Some x) y is = (x, refl, same_Some (f x) y is)

-- The bits are those of the number that was read, and the bits after it.
pub record Taken (n : ℕ) (bits : List Bool) (read : ℕ × List Bool) : Type 0 where
  pub spelled : bits ≡ model.bits_of n read.0 ++ read.1
  pub fits : read.0 < 2 ^ n

pub taken : (n : ℕ) (bits : List Bool) (read : ℕ × List Bool) → take_bits n bits ≡ Some read → Taken n bits read
unfolding take_bits
taken n bits read is =
    let parts = cond_some (nat_le n (length bits)) (number_of (take n bits), drop n bits) read is in
    let test = parts.0 in
    let within : n ≤ length bits = grind (arith, nat_tests, test) in
    let long : length (take n bits) ≡ n = length-take-le n bits within in
    let value : number_of (take n bits) ≡ read.0 = ap (λ (r : ℕ × List Bool). r.0) parts.1 in
    let after : drop n bits ≡ read.1 = ap (λ (r : ℕ × List Bool). r.1) parts.1 in
    let front : take n bits ≡ model.bits_of n read.0 =
    sym (bits_of-number_of (take n bits))
    ∙ ap (λ k. bits_of k (number_of (take n bits))) long
    ∙ ap (bits_of n) value
    ∙ sym (bits_same n read.0) in
    record {
      spelled = sym (take-append-drop n bits) ∙ ap (λ l. l ++ drop n bits) front
          ∙ ap (λ l. model.bits_of n read.0 ++ l) after;
      fits = subst (λ (v : ℕ). v < 2 ^ n) value
          (subst (λ (k : ℕ). number_of (take n bits) < 2 ^ k) long (number_of-lt (take n bits)));
    }

one_digit : (v : ℕ) → v < 2 → model.bits_of 1 v ≡ nat_eq v 1 ∷ []
unfolding model.bits_of
one_digit zero small = refl
one_digit (suc zero) small = refl
one_digit (suc (suc v)) small = absurd (omega (arith, small))

-- One bit that was read.
pub taken-one : (bits : List Bool) (read : ℕ × List Bool) → take_bits 1 bits ≡ Some read
    → (bits ≡ nat_eq read.0 1 ∷ read.1) × (read.0 < 2)
taken-one bits read is =
    let one = taken 1 bits read is in
    let few = one.fits in
    let small : read.0 < 2 = omega (arith, few) in
    (one.spelled ∙ ap (λ l. l ++ read.1) (one_digit read.0 small), small)

-- Where two lists are the same, so are their elements after prefixes of one length.
pub same_bit : (xs ys back rest : List Bool) (a b : Bool) → xs ++ (a ∷ back) ≡ ys ++ (b ∷ rest)
    → length xs ≡ length ys → a ≡ b
same_bit xs ys back rest a b same long =
    ap (λ l. get_or l 0 true)
    (sym (drop_at xs (a ∷ back) (length xs) refl) ∙ ap (drop (length xs)) same
    ∙ drop_at ys (b ∷ rest) (length xs) (sym long))

-- The bit for a tag set stands after the first bit and the number of the name.
pub record Inner (number : ℕ) (bits : List Bool) (inner : ℕ) : Type 0 where
  pub front : List Bool
  pub back : List Bool
  pub spelled : bits ≡ front ++ (nat_eq inner 1 ∷ back)
  pub long : length front ≡ 1 + number

pub inner_bit-at : (number : ℕ) (bytes : List ℕ) (inner : ℕ) → inner_bit number bytes ≡ Some inner
    → Inner number (bits_of_bytes bytes) inner
unfolding inner_bit
inner_bit-at number bytes inner is =
    let last_of : ℕ × List Bool → Option ℕ = λ named. option_map (λ (i : ℕ × List Bool). i.0) (take_bits 1 named.1) in
    let first = and_then_some
    (λ (f : ℕ × List Bool). cond (nat_eq f.0 1) (option_and_then last_of (take_bits number f.1)) None)
    (take_bits 1 (bits_of_bytes bytes)) inner is in
    let on = cond_option (nat_eq first.0.0 1)
    (option_and_then last_of (take_bits number first.0.1)) inner first.2 in
    let named = and_then_some last_of (take_bits number first.0.1) inner on.1 in
    let last = mapped (λ (i : ℕ × List Bool). i.0) (take_bits 1 named.0.1) inner named.2 in
    let one = taken-one (bits_of_bytes bytes) first.0 first.1 in
    let two = taken number first.0.1 named.0 named.1 in
    let three = taken-one named.0.1 last.0 last.1 in
    let size = sizes.length-bits_of number named.0.0 in
    record {
      front = nat_eq first.0.0 1 ∷ model.bits_of number named.0.0;
      back = last.0.1;
      spelled = one.0 ∙ ap (λ l. nat_eq first.0.0 1 ∷ l)
          (two.spelled ∙ ap (λ l. model.bits_of number named.0.0 ++ l)
          (three.0 ∙ ap (λ v. nat_eq v 1 ∷ last.0.1) last.2));
      long = omega (arith, size);
    }

-- The bits of a prefix begin the bits of the bytes.
pub prefix_bits : (n : ℕ) (bytes : List ℕ)
    → bits_of_bytes bytes ≡ bits_of_bytes (take n bytes) ++ bits_of_bytes (drop n bytes)
prefix_bits n bytes =
    ap bits_of_bytes (sym (take-append-drop n bytes)) ∙ bits_of_bytes-append (take n bytes) (drop n bytes)

-- The bit for a tag set is the same in each prefix that has it.
pub same_inner : (number m n : ℕ) (bytes : List ℕ) (inner : ℕ) (front back : List Bool) (bit : Bool)
    → Inner number (bits_of_bytes (take m bytes)) inner
    → bits_of_bytes (take n bytes) ≡ front ++ (bit ∷ back) → length front ≡ 1 + number → nat_eq inner 1 ≡ bit
same_inner number m n bytes inner front back bit read spelled long =
    same_bit read.front front (read.back ++ bits_of_bytes (drop m bytes)) (back ++ bits_of_bytes (drop n bytes))
    (nat_eq inner 1) bit
    (sym (append_assoc read.front (nat_eq inner 1 ∷ read.back) (bits_of_bytes (drop m bytes)))
    ∙ ap (λ l. l ++ bits_of_bytes (drop m bytes)) (sym read.spelled)
    ∙ sym (prefix_bits m bytes) ∙ prefix_bits n bytes
    ∙ ap (λ l. l ++ bits_of_bytes (drop n bytes)) spelled
    ∙ append_assoc front (bit ∷ back) (bits_of_bytes (drop n bytes)))
    (read.long ∙ sym long)
