-- Which fragments are opened where bytes are read one after the other.
use Rattle.std.proofs.Common.{◌≡◌, ℕ, zero, suc, ◌+◌, ◌-◌, ◌/◌, ◌%◌, ◌<◌, ◌≤◌, Bool, true, false, cond, nat_eq, Option, None, Some, List, [], ◌∷◌, refl, ap, sym, ◌∙◌, subst, arith, inl, inr}
use Rattle.std.specs.Prelude.{Ok, Err}
use Rattle.std.specs.Option.{option_map}
use Rattle.std.proofs.lemmas.Bool.Decides.{nat_tests}
use Rattle.acl_outside.specs.declared.read_fault.ReadFault.{ReadFault}
use Rattle.skip_decode.specs.Fragments.{OpensFragment}
use Rattle.skip_decode.specs.inside.Windows.{HasRead, HasReadSome, HasReadWithin, IsNewest, OpensSame}
use Rattle.skip_decode.specs.inside.Windows.{fragments_over, touch, touch_from, touched}

-- ---- lists

-- the newest fragment isn't opened again
pub touch-same : (i : ℕ) (before : List ℕ) → touch i (i ∷ before) ≡ i ∷ before
unfolding touch
touch-same i before =
    let same : nat_eq i i ≡ true = grind (arith, nat_tests) in
    ap (λ b. cond b (i ∷ before) (i ∷ i ∷ before)) same

-- holding a fragment twice opens it once
pub touch-twice : (i : ℕ) (opened : List ℕ) → touch i (touch i opened) ≡ touch i opened
unfolding touch
touch-twice i [] = touch-same i []
touch-twice i (newest ∷ before) = by (nat_eq i newest) refl
  where
    by : (b : Bool) → nat_eq i newest ≡ b → touch i (cond b (newest ∷ before) (i ∷ newest ∷ before)) ≡ cond b (newest ∷ before) (i ∷ newest ∷ before)
    by true is = ap (λ b. cond b (newest ∷ before) (i ∷ newest ∷ before)) is
    by false is = touch-same i (newest ∷ before)

-- the last of the fragments in order
pub touch_from-last : (more first : ℕ) (opened : List ℕ) → touch_from (suc more) first opened ≡ touch (first + more) (touch_from more first opened)
unfolding touch_from
touch_from-last zero first opened = ap (λ n. touch n opened) (omega arith)
touch_from-last (suc more) first opened =
    let at : first + 1 + more ≡ first + suc more = omega arith in
    touch_from-last more (first + 1) (touch first opened)
    ∙ ap (λ n. touch n (touch_from more (first + 1) (touch first opened))) at

-- the last one isn't opened again
pub touch_from-again : (more first : ℕ) (opened : List ℕ) → touch (first + more) (touch_from (suc more) first opened) ≡ touch_from (suc more) first opened
touch_from-again more first opened =
    ap (touch (first + more)) (touch_from-last more first opened)
    ∙ touch-twice (first + more) (touch_from more first opened)
    ∙ sym (touch_from-last more first opened)

-- fragments in order, and those after them
pub touch_from-sum : (m n first : ℕ) (opened : List ℕ) → touch_from n (first + m) (touch_from m first opened) ≡ touch_from (m + n) first opened
unfolding touch_from
touch_from-sum zero n first opened =
    let at : first + 0 ≡ first = omega arith in
    let count : n ≡ 0 + n = omega arith in
    ap (λ k. touch_from n k opened) at ∙ ap (λ k. touch_from k first opened) count
touch_from-sum (suc m) n first opened =
    let at : first + suc m ≡ first + 1 + m = omega arith in
    let count : suc (m + n) ≡ suc m + n = omega arith in
    ap (λ k. touch_from n k (touch_from m (first + 1) (touch first opened))) at
    ∙ touch_from-sum m n (first + 1) (touch first opened)
    ∙ ap (λ k. touch_from k first opened) count

-- ---- bytes

-- no bytes
pub touched-none : (start : ℕ) (opened : List ℕ) → touched start 0 opened ≡ opened
unfolding touch_from
touched-none start opened = refl

touch_from-none : (first : ℕ) (opened : List ℕ) → touch_from 0 first opened ≡ opened
unfolding touch_from
touch_from-none first opened = refl

-- how many fragments have one of some bytes
pub over-some : (start n : ℕ) → 1 ≤ n → fragments_over start n ≡ (start + n - 1) / 256 - start / 256 + 1
over-some start n some =
    let test : nat_eq n 0 ≡ false = grind (arith, nat_tests) in
    ap (λ b. cond b 0 ((start + n - 1) / 256 - start / 256 + 1)) test

-- Bytes of one fragment after others.
pub touched-piece : (start place n : ℕ) (opened : List ℕ) → start ≤ place → 1 ≤ n → place % 256 + n ≤ 256
    → touched start (place + n - start) opened ≡ touch (place / 256) (touched start (place - start) opened)
touched-piece start place n opened rises some fits = by_first (nat_eq place start) refl
  where
    whole : ℕ
    whole = fragments_over start (place + n - start)

    is_whole : whole ≡ (place + n - 1) / 256 - start / 256 + 1
    is_whole = over-some start (place + n - start) (omega (arith, rises, some)) ∙ omega (arith, rises, some)

    by_first : (b : Bool) → nat_eq place start ≡ b
        → touched start (place + n - start) opened ≡ touch (place / 256) (touched start (place - start) opened)
    by_first true is =
        let same : place ≡ start = grind (arith, nat_tests, is) in
        let one : whole ≡ 1 = omega (arith, is_whole, same, some, fits) in
        let at : start / 256 + 0 ≡ place / 256 = omega (arith, same) in
        let none : 0 ≡ place - start = omega (arith, same) in
        ap (λ k. touch_from k (start / 256) opened) one
        ∙ touch_from-last 0 (start / 256) opened
        ∙ ap (λ k. touch k (touch_from 0 (start / 256) opened)) at
        ∙ ap (λ l. touch (place / 256) l) (touch_from-none (start / 256) opened ∙ sym (touched-none start opened))
        ∙ ap (λ k. touch (place / 256) (touched start k opened)) none
    by_first false is =
        let apart : start < place = grind (arith, nat_tests, is, rises) in
        let before : fragments_over start (place - start) ≡ (place - 1) / 256 - start / 256 + 1 =
        over-some start (place - start) (omega (arith, apart)) ∙ omega (arith, apart) in
        let last : ℕ = (place - 1) / 256 - start / 256 in
        by_border last (before ∙ omega arith) (omega arith) apart (nat_eq (place % 256) 0) refl
      where
        by_border : (m : ℕ) → fragments_over start (place - start) ≡ suc m → m ≡ (place - 1) / 256 - start / 256 → start < place
            → (b : Bool) → nat_eq (place % 256) 0 ≡ b
            → touched start (place + n - start) opened ≡ touch (place / 256) (touched start (place - start) opened)
        by_border m before is_m apart true is =
            let border : place % 256 ≡ 0 = grind (arith, nat_tests, is) in
            let more : whole ≡ suc (suc m) = omega (arith, is_whole, border, is_m, apart, some, fits) in
            let at : start / 256 + suc m ≡ place / 256 = omega (arith, border, is_m, apart) in
            ap (λ k. touch_from k (start / 256) opened) more
            ∙ touch_from-last (suc m) (start / 256) opened
            ∙ ap (λ k. touch k (touch_from (suc m) (start / 256) opened)) at
            ∙ ap (λ k. touch (place / 256) (touch_from k (start / 256) opened)) (sym before)
        by_border m before is_m apart false is =
            let inside : 1 ≤ place % 256 = grind (arith, nat_tests, is) in
            let same : whole ≡ suc m = omega (arith, is_whole, inside, is_m, apart, some, fits) in
            let at : start / 256 + m ≡ place / 256 = omega (arith, inside, is_m, apart) in
            ap (λ k. touch_from k (start / 256) opened) same
            ∙ sym (touch_from-again m (start / 256) opened)
            ∙ ap (λ k. touch k (touch_from (suc m) (start / 256) opened)) at
            ∙ ap (λ k. touch (place / 256) (touch_from k (start / 256) opened)) (sym before)

-- the first one, and those after it
touch_from-first : (k first : ℕ) (opened : List ℕ) → touch_from (suc k) first opened ≡ touch_from k (first + 1) (touch first opened)
unfolding touch_from
touch_from-first k first opened = refl

-- Bytes from a byte offset on, after the byte there was read.
pub touched-again : (start place n : ℕ) (opened : List ℕ) → start ≤ place → 1 ≤ n
    → touched place n (touched start (place + 1 - start) opened) ≡ touched start (place + n - start) opened
touched-again start place n opened rises some =
    let m : ℕ = place / 256 - start / 256 in
    let k : ℕ = (place + n - 1) / 256 - place / 256 in
    let first : fragments_over start (place + 1 - start) ≡ suc m =
    over-some start (place + 1 - start) (omega (arith, rises)) ∙ omega (arith, rises) in
    let second : fragments_over place n ≡ suc k = over-some place n some ∙ omega arith in
    let both : fragments_over start (place + n - start) ≡ suc m + k =
    over-some start (place + n - start) (omega (arith, rises, some)) ∙ omega (arith, rises, some) in
    let at : place / 256 ≡ start / 256 + m = omega (arith, rises) in
    let done : List ℕ = touch_from (suc m) (start / 256) opened in
    let next : start / 256 + m + 1 ≡ start / 256 + suc m = omega arith in
    ap (λ x. touch_from x (place / 256) (touched start (place + 1 - start) opened)) second
    ∙ ap (λ x. touch_from (suc k) (place / 256) (touch_from x (start / 256) opened)) first
    ∙ ap (λ x. touch_from (suc k) x done) at
    ∙ touch_from-first k (start / 256 + m) done
    ∙ ap (touch_from k (start / 256 + m + 1)) (touch_from-again m (start / 256) opened)
    ∙ ap (λ x. touch_from k x done) next
    ∙ touch_from-sum (suc m) k (start / 256) opened
    ∙ ap (λ x. touch_from x (start / 256) opened) (sym both)

-- ---- where they are told

-- the fragment that is held isn't opened
pub held-touched : (i : ℕ) (opened : Option (List ℕ)) → IsNewest (Some i) opened → opened ≡ option_map (touch i) opened
held-touched i None newest = refl
held-touched i (Some []) newest = absurd newest
held-touched i (Some (last ∷ before)) newest = ap Some (sym (ap (λ k. touch i (k ∷ before)) (sym newest) ∙ touch-same i before ∙ ap (λ k. k ∷ before) newest))

-- another one is opened
other-touched : (at : Option ℕ) (i last : ℕ) (before : List ℕ) → IsNewest at (Some (last ∷ before)) → (at ≡ Some i → ⊥) → i ∷ last ∷ before ≡ touch i (last ∷ before)
unfolding touch
other-touched None i last before newest other = absurd newest
other-touched (Some held) i last before newest other =
    let apart : nat_eq i last ≡ false = by (nat_eq i last) refl in
    sym (ap (λ b. cond b (last ∷ before) (i ∷ last ∷ before)) apart)
  where
    by : (b : Bool) → nat_eq i last ≡ b → nat_eq i last ≡ false
    by true is =
        let same : i ≡ last = grind (arith, nat_tests, is) in
        absurd (other (ap Some (newest ∙ sym same)))
    by false is = is

-- the first one is opened
first-touched : (i : ℕ) → i ∷ [] ≡ touch i []
unfolding touch
first-touched i = refl

pub fetched-touched : (at : Option ℕ) (i : ℕ) (old new : Option (List ℕ)) → IsNewest at old → (at ≡ Some i → ⊥) → OpensFragment (Ok tt) i old new
    → new ≡ option_map (touch i) old
fetched-touched at i None None newest other opens = refl
fetched-touched at i None (Some new) newest other opens = absurd opens
fetched-touched at i (Some old) None newest other opens = absurd opens
fetched-touched at i (Some []) (Some new) newest other opens = ap Some (opens ∙ first-touched i)
fetched-touched at i (Some (last ∷ before)) (Some new) newest other opens = ap Some (opens ∙ other-touched at i last before newest other)

-- what was opened is the newest
pub fetched-newest : (i : ℕ) (old new : Option (List ℕ)) → OpensFragment (Ok tt) i old new → IsNewest (Some i) new
fetched-newest i None None opens = tt
fetched-newest i None (Some new) opens = absurd opens
fetched-newest i (Some old) None opens = absurd opens
fetched-newest i (Some old) (Some new) opens = subst (λ (l : List ℕ). IsNewest (Some i) (Some l)) (sym opens) refl

-- a fetch that is refused
pub refused-touched : (at : Option ℕ) (i : ℕ) (fault : ReadFault) (old new : Option (List ℕ)) → IsNewest at old → (at ≡ Some i → ⊥)
    → OpensFragment (Err fault) i old new → OpensSame (touch i) old new
refused-touched at i fault None None newest other opens = inl refl
refused-touched at i fault None (Some new) newest other opens = absurd opens
refused-touched at i fault (Some old) None newest other opens = absurd opens
refused-touched at i fault (Some old) (Some new) newest other (inl more) = inr (fetched-touched at i (Some old) (Some new) newest other more)
refused-touched at i fault (Some old) (Some new) newest other (inr same) = inl (ap Some same)

-- ---- what was read

module _ (first : Option (List ℕ)) (start place : ℕ) (at : Option ℕ) (opened : Option (List ℕ)) (has : HasRead first start place at opened) where
  -- a first part of it
  pub has-some : HasReadSome first start opened
  has-some = record { count = place - start; opens = has.opens }

  -- no more bytes
  pub read-none : (to : ℕ) → to ≡ place → HasRead first start to at opened
  read-none to is = subst (λ (k : ℕ). HasRead first start k at opened) (sym is) has

  -- bytes of one fragment
  pub read-piece : (n : ℕ) (new : Option ℕ) (after : Option (List ℕ)) → 1 ≤ n → place % 256 + n ≤ 256
      → after ≡ option_map (touch (place / 256)) opened → IsNewest new after → HasRead first start (place + n) new after
  read-piece n new after some fits more newest = record {
    rises = omega (arith, has.rises);
    newest = newest;
    opens = more ∙ ap (option_map (touch (place / 256))) has.opens ∙ by first;
  }
    where
      by : (o : Option (List ℕ)) → option_map (touch (place / 256)) (option_map (touched start (place - start)) o) ≡ option_map (touched start (place + n - start)) o
      by None = refl
      by (Some l) = ap Some (sym (touched-piece start place n l has.rises some fits))

  -- the fragment of the next byte
  touched-byte : (o : Option (List ℕ))
      → option_map (touch (place / 256)) (option_map (touched start (place - start)) o)
      ≡ option_map (touched start (place + 1 - start)) o
  touched-byte None = refl
  touched-byte (Some l) = ap Some (sym (touched-piece start place 1 l has.rises (omega arith) (omega arith)))

  -- that fragment, or none
  pub read-same : (after : Option (List ℕ)) → OpensSame (touch (place / 256)) opened after → HasReadSome first start after
  read-same after (inl same) = record { count = place - start; opens = same ∙ has.opens }
  read-same after (inr more) = record {
    count = place + 1 - start;
    opens = more ∙ ap (option_map (touch (place / 256))) has.opens ∙ touched-byte first;
  }

  -- the same, up to a byte offset after that byte
  pub read-same-within : (to : ℕ) → place < to → (after : Option (List ℕ))
      → OpensSame (touch (place / 256)) opened after → HasReadWithin first start to after
  read-same-within to less after (inl same) =
      let rises = has.rises in
      record { count = place - start; within = omega (arith, rises, less); opens = same ∙ has.opens }
  read-same-within to less after (inr more) =
      let rises = has.rises in
      record {
        count = place + 1 - start;
        within = omega (arith, rises, less);
        opens = more ∙ ap (option_map (touch (place / 256))) has.opens ∙ touched-byte first;
      }

-- what ends before a byte offset ends before a later one
pub within-more : (first : Option (List ℕ)) (start to later : ℕ) (opened : Option (List ℕ)) → to ≤ later
    → HasReadWithin first start to opened → HasReadWithin first start later opened
within-more first start to later opened le has =
    let ends = has.within in
    record { count = has.count; within = omega (arith, ends, le); opens = has.opens }

-- nothing was read yet
pub read-nothing : (place : ℕ) (at : Option ℕ) (opened : Option (List ℕ)) → IsNewest at opened → HasRead opened place place at opened
read-nothing place at opened newest = record { rises = omega arith; newest = newest; opens = by opened }
  where
    by : (o : Option (List ℕ)) → o ≡ option_map (touched place (place - place)) o
    by None = refl
    by (Some l) =
        let none : place - place ≡ 0 = omega arith in
        ap Some (sym (ap (λ n. touched place n l) none ∙ touched-none place l))

-- from a byte offset on, after the byte there was read
module _ (first : Option (List ℕ)) (start place : ℕ) (at : Option ℕ) (opened : Option (List ℕ)) (rises : start ≤ place) (has : HasRead first start (place + 1) at opened) where
  again : (n : ℕ) → 1 ≤ n → (after : Option (List ℕ)) → after ≡ option_map (touched place n) opened → after ≡ option_map (touched start (place + n - start)) first
  again n some after is = is ∙ ap (option_map (touched place n)) has.opens ∙ by first
    where
      by : (o : Option (List ℕ)) → option_map (touched place n) (option_map (touched start (place + 1 - start)) o) ≡ option_map (touched start (place + n - start)) o
      by None = refl
      by (Some l) = ap Some (touched-again start place n l rises some)

  pub read-again : (to : ℕ) (new : Option ℕ) (after : Option (List ℕ)) → place < to → HasRead opened place to new after → HasRead first start to new after
  read-again to new after more on = let count : place + (to - place) - start ≡ to - start = omega (arith, more, rises) in record {
    rises = omega (arith, rises, more);
    newest = on.newest;
    opens = again (to - place) (omega (arith, more)) after on.opens ∙ ap (λ k. option_map (touched start k) first) count;
  }

  pub read-some-again : (after : Option (List ℕ)) → HasReadSome opened place after → HasReadSome first start after
  read-some-again after on = by on.count on.opens
    where
      by : (n : ℕ) → after ≡ option_map (touched place n) opened → HasReadSome first start after
      by zero is = record { count = place + 1 - start; opens = is ∙ none opened ∙ has.opens }
        where
          none : (o : Option (List ℕ)) → option_map (touched place 0) o ≡ o
          none None = refl
          none (Some l) = ap Some (touched-none place l)
      by (suc n) is = record { count = place + suc n - start; opens = again (suc n) (omega arith) after is }

  pub read-within-again : (to : ℕ) (after : Option (List ℕ)) → place < to → HasReadWithin opened place to after
      → HasReadWithin first start to after
  read-within-again to after less on = by on.count on.within on.opens
    where
      none : (o : Option (List ℕ)) → option_map (touched place 0) o ≡ o
      none None = refl
      none (Some l) = ap Some (touched-none place l)

      by : (n : ℕ) → place + n ≤ to → after ≡ option_map (touched place n) opened → HasReadWithin first start to after
      by zero ends is = record {
        count = place + 1 - start;
        within = omega (arith, rises, less);
        opens = is ∙ none opened ∙ has.opens;
      }
      by (suc n) ends is = record {
        count = place + suc n - start;
        within = omega (arith, rises, ends);
        opens = again (suc n) (omega arith) after is;
      }
