-- Lemmas on the list of flags that words hold.
use Rattle.std.proofs.Common.{◌≡◌, ℕ, zero, suc, ◌+◌, ◌-◌, ◌*◌, ◌/◌, ◌%◌, ◌^◌, ◌<◌, ◌≤◌, Bool, true, false, eqb, ltb, ◌&&◌, ◌||◌, List, [], ◌∷◌, ◌++◌, length, get_or, set, take, drop, map, replicate, refl, ap, arith, sym, ◌∙◌, bit_and, bit_or, inl, inr, length-set, length-append, get_or-set_other}
use Rattle.std.specs.Int.{bit_at}
use Rattle.std.specs.List.{range_with_len}
use Rattle.std.proofs.lemmas.Grind.{get_or-set_at, get_or_default_zero}
use Rattle.std.proofs.lemmas.Bool.{cases_lt, cases_eq, le-ltb, ne_eqb, eq-eqb}
use Rattle.std.proofs.lemmas.List.{get_or_past, get_or_append_left, get_or-append_right, get_or-replicate, length-replicate, take_all, take_at, set_split}
use Rattle.std.proofs.lemmas.List.FromFn.{length-map-range_with_len, get_or-map-range_with_len, fill_by_all}
use Rattle.std.proofs.lemmas.Nat.Bits.{shr_and_one, bit_at-zero}
use Rattle.acl_bits.specs.Row.{is_set}
use Rattle.acl_bits.specs.Flags.{risen, rises, flag_before, flags_of, HoldFlags, AreRisen}
use Rattle.acl_bits.proofs.Words.{put_at}

-- ---- the list

pub length-flags : (words : List ℕ) (len : ℕ) (flags : List Bool) → flags_of words len ≡ flags → length flags ≡ len
length-flags words len flags view = ap length (sym view) ∙ length-map-range_with_len (is_set words) 0 len

-- the flag with a given index
flag_at : (words : List ℕ) (len : ℕ) (flags : List Bool) (n : ℕ) → flags_of words len ≡ flags → n < len → get_or flags n false ≡ is_set words n
flag_at words len flags n view h =
    ap (λ xs. get_or xs n false) (sym view) ∙ get_or-map-range_with_len (is_set words) 0 len n n false h (omega arith)

-- no flag is set past the words
is_set_past : (words : List ℕ) (n : ℕ) → 64 * length words ≤ n → is_set words n ≡ false
unfolding is_set
is_set_past words n h =
    ap (λ w. eqb (bit_at w (n % 64)) 1) (get_or_past words (n / 64) 0 (omega arith)) ∙ ap (λ b. eqb b 1) (bit_at-zero (n % 64))

-- ---- `new`

pub HoldFlags-none : (words : List ℕ) → words ≡ [] → HoldFlags words 0
HoldFlags-none words e =
    let long : length words ≡ 0 = ap length e in
    record { exact = omega arith; clear = λ n h. is_set_past words n (omega arith) }

-- ---- `has`

pub has_flag : (words : List ℕ) (len : ℕ) (flags : List Bool) (n w : ℕ) → flags_of words len ≡ flags → HoldFlags words len → n < len
    → w ≡ get_or words (n / 64) w → eqb (bit_and (w / 2 ^ (n % 64)) 1) 1 ≡ get_or flags n false
unfolding is_set
has_flag words len flags n w view hold h e =
    ap (λ x. eqb x 1) (shr_and_one w (n % 64))
    ∙ ap (λ x. eqb (bit_at x (n % 64)) 1) (e ∙ get_or_default_zero words (n / 64) w (omega (arith, hold.exact)))
    ∙ sym (flag_at words len flags n view h)

pub has_no_flag : (words : List ℕ) (len : ℕ) (flags : List Bool) (n : ℕ) → flags_of words len ≡ flags → len ≤ n
    → ltb n len ≡ get_or flags n false
has_no_flag words len flags n view h =
    le-ltb n len h ∙ sym (get_or_past flags n false (omega (arith, length-flags words len flags view)))

-- ---- `put`

-- the word after `|= 1 << n % 64`
abbrev pub put_words : List ℕ → ℕ → ℕ → List ℕ
put_words words n w = set words (n / 64) (bit_or w (1 * 2 ^ (n % 64) % 2 ^ 64))

put_flag_at : (words : List ℕ) (n w m : ℕ) → n / 64 < length words → w ≡ get_or words (n / 64) w
    → is_set (put_words words n w) m ≡ (eqb m n || is_set words m)
put_flag_at words n w m within e =
    ap (λ x. is_set (put_words words n x) m) (e ∙ get_or_default_zero words (n / 64) w within) ∙ put_at words n m within

pub HoldFlags-put : (words : List ℕ) (len n w : ℕ) → HoldFlags words len → n < len → w ≡ get_or words (n / 64) w
    → HoldFlags (put_words words n w) len
HoldFlags-put words len n w hold h e = record {
  exact = length-set words (n / 64) (bit_or w (1 * 2 ^ (n % 64) % 2 ^ 64)) ∙ hold.exact;
  clear = λ m l.
      let apart : m ≡ n → ⊥ = λ same. omega arith in
      put_flag_at words n w m (omega (arith, hold.exact)) e ∙ ap (λ b. b || is_set words m) (ne_eqb m n apart) ∙ hold.clear m l;
}

pub flags_of-put : (words : List ℕ) (len : ℕ) (flags : List Bool) (n w : ℕ) → flags_of words len ≡ flags → HoldFlags words len
    → n < length flags → w ≡ get_or words (n / 64) w → flags_of (put_words words n w) len ≡ take n flags ++ true ∷ drop (n + 1) flags
flags_of-put words len flags n w view hold h e =
    let long = length-flags words len flags view in
    let within : n / 64 < length words = omega (arith, long, hold.exact) in
    let next : suc n ≡ n + 1 = omega arith in
    sym (fill_by_all (is_set (put_words words n w)) (set flags n true) len false (length-set flags n true ∙ long) (λ k l. elim (cases_eq k n) [
      | inl here ↦
          get_or-set_at flags n k true false here h
          ∙ sym (put_flag_at words n w k within e ∙ ap (λ b. b || is_set words k) (eq-eqb k n here))
      | inr elsewhere ↦
          get_or-set_other flags n k true false elsewhere ∙ flag_at words len flags k view l
          ∙ sym (put_flag_at words n w k within e ∙ ap (λ b. b || is_set words k) (ne_eqb k n elsewhere))
    ]))
    ∙ set_split flags n true h ∙ ap (λ m. take n flags ++ true ∷ drop m flags) next

-- ---- `grow`

-- words of zeros at the end set no flag
is_set_padded : (words : List ℕ) (k n : ℕ) → is_set (words ++ replicate k 0) n ≡ is_set words n
unfolding is_set
is_set_padded words k n = ap (λ w. eqb (bit_at w (n % 64)) 1) (elim (cases_lt (n / 64) (length words)) [
  | inl within ↦ get_or_append_left words (replicate k 0) 0 (n / 64) within
  | inr past ↦
      get_or-append_right words (replicate k 0) (length words) (n / 64) 0 refl past
      ∙ zero_at k (n / 64 - length words) ∙ sym (get_or_past words (n / 64) 0 past)
])
  where
    zero_at : (k i : ℕ) → get_or (replicate {A = ℕ} k 0) i 0 ≡ 0
    zero_at k i = elim (cases_lt i k) [
      | inl within ↦ get_or-replicate k i 0 0 within
      | inr past ↦ get_or_past (replicate {A = ℕ} k 0) i 0 (omega (arith, length-replicate {A = ℕ} k 0))
    ]

-- the words after `resize`, where there were `had`
grown_words : (old new : List ℕ) (len more words had : ℕ) → HoldFlags old len → words ≡ (more + 63) / 64 → len ≤ more → had ≡ length old
    → new ≡ take words old ++ replicate (words - had) 0 → new ≡ old ++ replicate (words - length old) 0
grown_words old new len more words had hold e h all resized =
    resized ∙ ap (λ k. take words old ++ replicate (words - k) 0) all
    ∙ ap (λ xs. xs ++ replicate (words - length old) 0) (take_all words old (omega (arith, hold.exact)))

pub HoldFlags-grown : (old new : List ℕ) (len more words had : ℕ) → HoldFlags old len → words ≡ (more + 63) / 64 → len ≤ more
    → had ≡ length old → new ≡ take words old ++ replicate (words - had) 0 → HoldFlags new more
HoldFlags-grown old new len more words had hold e h all resized =
    let grown = grown_words old new len more words had hold e h all resized in
    let long : length new ≡ length old + (words - length old) =
    ap length grown ∙ length-append old (replicate (words - length old) 0)
    ∙ ap (λ k. length old + k) (length-replicate {A = ℕ} (words - length old) 0) in
    record {
      exact = omega (arith, long, hold.exact, e);
      clear = λ n l.
          ap (λ xs. is_set xs n) grown ∙ is_set_padded old (words - length old) n ∙ hold.clear n (omega arith);
    }

pub flags_of-grown : (old new : List ℕ) (len more words had count : ℕ) (flags : List Bool) → flags_of old len ≡ flags → HoldFlags old len
    → words ≡ (more + 63) / 64 → more ≡ len + count → had ≡ length old
    → new ≡ take words old ++ replicate (words - had) 0 → flags_of new more ≡ flags ++ replicate count false
flags_of-grown old new len more words had count flags view hold e sum whole resized =
    let long = length-flags old len flags view in
    let grown = grown_words old new len more words had hold e (omega arith) whole resized in
    let all : length (flags ++ replicate count false) ≡ more =
    length-append flags (replicate count false) ∙ omega (arith, long, sum, length-replicate {A = Bool} count false) in
    sym (fill_by_all (is_set new) (flags ++ replicate count false) more false all (λ k l. elim (cases_lt k (length flags)) [
      | inl before ↦
          get_or_append_left flags (replicate count false) false k before ∙ flag_at old len flags k view (omega (arith, long))
          ∙ sym (ap (λ xs. is_set xs k) grown ∙ is_set_padded old (words - length old) k)
      | inr past ↦
          get_or-append_right flags (replicate count false) (length flags) k false refl past
          ∙ get_or-replicate count (k - length flags) false false (omega (arith, long, sum))
          ∙ sym (ap (λ xs. is_set xs k) grown ∙ is_set_padded old (words - length old) k ∙ hold.clear k (omega (arith, long)))
    ]))

-- ---- `rise`

-- flags that are each given by `rises` are the list `risen`
rises_range : (own tests deep below new : ℕ → Bool) (a n : ℕ)
    → ((k : ℕ) → a ≤ k → k < a + n → new k ≡ rises (own k) (tests k) (flag_before below false k) (deep k) (below k))
    → risen (flag_before below false a) (map tests (range_with_len a n)) (map deep (range_with_len a n)) (map below (range_with_len a n)) (map own (range_with_len a n))
    ≡ map new (range_with_len a n)
unfolding risen
rises_range own tests deep below new a zero h = refl
rises_range own tests deep below new a (suc n) h =
    let next : suc a ≡ a + 1 = omega arith in
    let all = range_with_len (a + 1) n in
    ap (λ b. b ∷ risen (below a) (map tests all) (map deep all) (map below all) (map own all)) (sym (h a (omega arith) (omega arith)))
    ∙ ap (λ xs. new a ∷ xs)
    (ap (λ k. risen (flag_before below false k) (map tests all) (map deep all) (map below all) (map own all)) next
    ∙ rises_range own tests deep below new (a + 1) n (λ k l m. h k (omega arith) (omega arith)))

rises_none : (a b c d e : Bool) → a ≡ false → b ≡ false → d ≡ false → rises a b c d e ≡ false
rises_none a b c d e p q r =
    ap (λ x. x || ((b && c) || (d && e))) p ∙ ap (λ x. (x && c) || (d && e)) q ∙ ap (λ x. x && e) r

pub HoldFlags-risen : (old new tests deep below : List ℕ) (len : ℕ) → AreRisen old new tests deep below
    → HoldFlags old len → HoldFlags tests len → HoldFlags deep len → HoldFlags new len
HoldFlags-risen old new tests deep below len up hold first second = record {
  exact = up.long ∙ hold.exact;
  clear = λ n h. elim (cases_lt n (64 * length old)) [
    | inl within ↦
        up.flags n within
        ∙ rises_none (is_set old n) (is_set tests n) (flag_before (is_set below) false n) (is_set deep n) (is_set below n)
        (hold.clear n h) (first.clear n h) (second.clear n h)
    | inr past ↦ is_set_past new n (omega (arith, up.long))
  ];
}

pub flags_of-risen : (old new tests deep below : List ℕ) (len : ℕ) → AreRisen old new tests deep below → HoldFlags old len
    → flags_of new len ≡ risen false (flags_of tests len) (flags_of deep len) (flags_of below len) (flags_of old len)
flags_of-risen old new tests deep below len up hold =
    sym (rises_range (is_set old) (is_set tests) (is_set deep) (is_set below) (is_set new) 0 len (λ k l h. up.flags k (omega (arith, hold.exact))))

-- two lists of the same length have the same number of flags, and the same number of words
pub same_len : (own other : List ℕ) (len more : ℕ) (flags others : List Bool) → flags_of own len ≡ flags → flags_of other more ≡ others
    → length others ≡ length flags → more ≡ len
same_len own other len more flags others view second long =
    sym (length-flags other more others second) ∙ long ∙ length-flags own len flags view

pub same_words : (own other xs ys : List ℕ) (len more : ℕ) → HoldFlags own len → HoldFlags other more → more ≡ len
    → ys ≡ other → xs ≡ own → length ys ≡ length xs
same_words own other xs ys len more hold second e at_other at_own =
    ap length at_other ∙ second.exact ∙ ap (λ k. (k + 63) / 64) e ∙ sym hold.exact ∙ sym (ap length at_own)

-- after a write to all words, the words are the new ones
pub words_left : (old new xs : List ℕ) (n : ℕ) → xs ≡ old → length new ≡ length old → length xs ≡ n
    → take n (new ++ drop (length new) old) ≡ new
words_left old new xs n e long whole = take_at new (drop (length new) old) n (long ∙ ap length (sym e) ∙ whole)

pub flags_of-rise : (old new tests deep below : List ℕ) (len p q r : ℕ) (own test_list deep_list below_list : List Bool)
    → AreRisen old new tests deep below → HoldFlags old len → flags_of old len ≡ own
    → flags_of tests p ≡ test_list → flags_of deep q ≡ deep_list → flags_of below r ≡ below_list
    → p ≡ len → q ≡ len → r ≡ len → flags_of new len ≡ risen false test_list deep_list below_list own
flags_of-rise old new tests deep below len p q r own test_list deep_list below_list up hold first second third fourth e f g =
    flags_of-risen old new tests deep below len up hold
    ∙ ap (λ xs. risen false xs (flags_of deep len) (flags_of below len) (flags_of old len)) (ap (flags_of tests) (sym e) ∙ second)
    ∙ ap (λ xs. risen false test_list xs (flags_of below len) (flags_of old len)) (ap (flags_of deep) (sym f) ∙ third)
    ∙ ap (λ xs. risen false test_list deep_list xs (flags_of old len)) (ap (flags_of below) (sym g) ∙ fourth)
    ∙ ap (λ xs. risen false test_list deep_list below_list xs) first
