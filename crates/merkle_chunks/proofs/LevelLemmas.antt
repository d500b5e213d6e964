-- Levels, one after the other: the index of each level and of each of its digests among the digests of a whole table.
use Rattle.std.proofs.Common.{◌≡◌, ℕ, zero, suc, ◌+◌, ◌*◌, ◌/◌, ◌<◌, ◌≤◌, inl, inr, List, [], ◌∷◌, ◌++◌, length, map, take, drop, get_or, refl, sym, ap, ◌∙◌, arith, length-append, length-drop}
use Rattle.std.specs.Prelude.{Some, None}
use Rattle.std.specs.List.{concat, flat_map, range_with_len, slice_get}
use Rattle.std.specs.Option.{option_and_then}
use Rattle.std.proofs.lemmas.Bool.Decides.{leb_tells}
use Rattle.std.proofs.lemmas.Option.{slice_get_past}
use Rattle.std.proofs.lemmas.List.{take_all, drop_at, take-append-le, drop-append-le, length-take-le, length-take, get_or-take, get_or-drop, append-nil}
use Rattle.std.proofs.lemmas.List.Concat.{flat_map-append}
use Rattle.std.proofs.lemmas.List.Folds.{concat-append}
use Rattle.std.proofs.lemmas.List.FromFn.{length-map-range_with_len}
use Rattle.std.proofs.Math.Seq.{take-add}
use Rattle.merkle_chunks.specs.Table.{level_count, count_below, top_level, digest_count, each_level, table_bytes, node_of}
use Rattle.merkle_chunks.specs.inside.LevelBytes.{digests_in, levels_in}
use Rattle.merkle_chunks.proofs.PieceLemmas.{AreSized, length-first_chunks, concat-first_chunks, get_or-first_chunks, digests_in-concat}

-- ---- ranges

pub range-more : (a m : ℕ) → range_with_len a (suc m) ≡ range_with_len a m ++ ((a + m) ∷ [])
range-more a zero = let here : a ≡ a + 0 = omega arith in ap (λ (n : ℕ). n ∷ []) here
range-more a (suc m) =
    let there : a + 1 + m ≡ a + suc m = omega arith in
    ap (λ (ns : List ℕ). a ∷ ns) (range-more (a + 1) m ∙ ap (λ (n : ℕ). range_with_len (a + 1) m ++ (n ∷ [])) there)

-- functions that agree on a range give the same there
pub map-range-same : {A : Type 0} (f g : ℕ → A) (a m : ℕ) → ((l : ℕ) → a ≤ l → l < a + m → f l ≡ g l) → map f (range_with_len a m) ≡ map g (range_with_len a m)
map-range-same f g a zero same = refl
map-range-same f g a (suc m) same =
    λ i. same a (omega arith) (omega arith) i ∷ map-range-same f g (a + 1) m (λ l from to. same l (omega arith) (omega arith)) i

pub slice_get-map-range : {A : Type 0} (f : ℕ → A) (a m l : ℕ) → l < m → slice_get (map f (range_with_len a m)) l ≡ Some (f (a + l))
slice_get-map-range f a zero l lt = absurd (omega arith)
slice_get-map-range f a (suc m) zero lt = let here : a ≡ a + 0 = omega arith in ap (λ (n : ℕ). Some (f n)) here
slice_get-map-range f a (suc m) (suc l) lt =
    let there : a + 1 + l ≡ a + suc l = omega arith in
    slice_get-map-range f (a + 1) m l (omega arith) ∙ ap (λ (n : ℕ). Some (f n)) there

pub slice_get-is : {A : Type 0} (xs : List A) (k : ℕ) (d : A) → k < length xs → slice_get xs k ≡ Some (get_or xs k d)
slice_get-is [] k d lt = absurd (omega arith)
slice_get-is (x ∷ xs) zero d lt = refl
slice_get-is (x ∷ xs) (suc k) d lt = slice_get-is xs k d (omega arith)

-- ---- counts

pub count_below-le : (n l m : ℕ) → l ≤ m → count_below n l ≤ count_below n m
count_below-le n l zero le = let none : l ≡ 0 = omega arith in omega (arith, ap (count_below n) none)
count_below-le n l (suc m) le =
    elim (leb_tells l m) [
      | inl p ↦ omega (arith, count_below-le n l m p.1)
      | inr p ↦ let same : l ≡ suc m = omega (arith, p.1) in omega (arith, ap (count_below n) same)
    ]

-- ---- digests on each level

-- the digests below a level, where a function gives those of each level
abbrev pub digests_below : (ℕ → List (List ℕ)) → ℕ → List (List ℕ)
digests_below f m = flat_map f (range_with_len 0 m)

pub digests_below-more : (f : ℕ → List (List ℕ)) (m : ℕ) → digests_below f (suc m) ≡ digests_below f m ++ f m
digests_below-more f m =
    let here : 0 + m ≡ m = omega arith in
    ap (flat_map f) (range-more 0 m)
    ∙ flat_map-append f (range_with_len 0 m) ((0 + m) ∷ [])
    ∙ ap (λ (digests : List (List ℕ)). digests_below f m ++ digests) (append-nil (f (0 + m)) ∙ ap f here)

joined-range : (f : ℕ → List (List ℕ)) (ls : List ℕ) → flat_map concat (map f ls) ≡ concat (flat_map f ls)
joined-range f [] = refl
joined-range f (l ∷ ls) = ap (λ (bytes : List ℕ). concat (f l) ++ bytes) (joined-range f ls) ∙ sym (concat-append (f l) (flat_map f ls))

-- the bytes of levels are those of all digests
pub table_bytes-each_level : (n : ℕ) (f : ℕ → List (List ℕ)) → table_bytes (each_level n f) ≡ concat (digests_below f (top_level n + 1))
table_bytes-each_level n f = joined-range f (range_with_len 0 (top_level n + 1))

module _ (n : ℕ) (f : ℕ → List (List ℕ)) (many : (l : ℕ) → length (f l) ≡ level_count n l) where
  pub length-digests_below : (m : ℕ) → length (digests_below f m) ≡ count_below n m
  length-digests_below zero = refl
  length-digests_below (suc m) =
      ap length (digests_below-more f m)
      ∙ length-append (digests_below f m) (f m)
      ∙ (λ i. length-digests_below m i + many m i)

  -- a level follows those below it
  pub level_at : (l m : ℕ) → l < m → take (level_count n l) (drop (count_below n l) (digests_below f m)) ≡ f l
  level_at l zero lt = absurd (omega arith)
  level_at l (suc m) lt =
      elim (leb_tells m l) [
        | inl p ↦
            let same : l ≡ m = omega (arith, p.1) in
            ap (λ (digests : List (List ℕ)). take (level_count n l) (drop (count_below n l) digests)) (digests_below-more f m)
            ∙ ap (take (level_count n l)) (drop_at (digests_below f m) (f m) (count_below n l) (length-digests_below m ∙ ap (count_below n) (sym same)))
            ∙ take_all (level_count n l) (f m) (omega (arith, many m, ap (level_count n) same))
            ∙ ap f (sym same)
        | inr p ↦
            let next : count_below n (suc l) ≤ count_below n m = count_below-le n (suc l) m (omega (arith, p.1)) in
            ap (λ (digests : List (List ℕ)). take (level_count n l) (drop (count_below n l) digests)) (digests_below-more f m)
            ∙ ap (take (level_count n l)) (drop-append-le (count_below n l) (digests_below f m) (f m) (omega (arith, length-digests_below m)))
            ∙ take-append-le (level_count n l) (drop (count_below n l) (digests_below f m)) (f m)
            (omega (arith, length-drop (count_below n l) (digests_below f m), length-digests_below m))
            ∙ level_at l m p.1
      ]

  -- and so each of its digests follows those before it
  pub digest_at : (l m k : ℕ) → l < m → k < level_count n l → get_or (digests_below f m) (count_below n l + k) [] ≡ get_or (f l) k []
  digest_at l m k low lt =
      sym (get_or-drop (count_below n l) (digests_below f m) k [])
      ∙ sym (get_or-take (level_count n l) (drop (count_below n l) (digests_below f m)) k [] lt)
      ∙ ap (λ (digests : List (List ℕ)). get_or digests k []) (level_at l m low)

  module _ (sized : AreSized 32 (digests_below f (top_level n + 1))) where
    all_in : digests_in (table_bytes (each_level n f)) ≡ digests_below f (top_level n + 1)
    all_in =
        ap digests_in (table_bytes-each_level n f) ∙ digests_in-concat (digests_below f (top_level n + 1)) sized

    -- the bytes of a table are cut into its levels
    pub levels_in-table : levels_in n (table_bytes (each_level n f)) ≡ each_level n f
    unfolding levels_in
    levels_in-table =
        map-range-same (λ l. take (level_count n l) (drop (count_below n l) (digests_in (table_bytes (each_level n f))))) f 0 (top_level n + 1)
        (λ l from to. ap (λ (digests : List (List ℕ)). take (level_count n l) (drop (count_below n l) digests)) all_in
        ∙ level_at l (top_level n + 1) (omega arith))

-- ---- a table in bytes

module _ (n : ℕ) (bytes : List ℕ) (long : length bytes ≡ 32 * digest_count n) where
  -- the digests of a level
  on_level : ℕ → List (List ℕ)
  on_level l = take (level_count n l) (drop (count_below n l) (digests_in bytes))

  count_all : length (digests_in bytes) ≡ digest_count n
  count_all = length-first_chunks 32 (length bytes / 32) bytes ∙ omega arith

  enough : (l : ℕ) → l ≤ top_level n → count_below n l + level_count n l ≤ digest_count n
  enough l low = count_below-le n (suc l) (suc (top_level n)) (omega arith)

  -- a node is within the bytes
  pub node_within : (l k : ℕ) → l ≤ top_level n → k < level_count n l → 32 * (count_below n l + k) + 32 ≤ length bytes
  node_within l k low lt = omega (arith, enough l low)

  pub length-levels_in : length (levels_in n bytes) ≡ top_level n + 1
  unfolding levels_in on_level
  length-levels_in = length-map-range_with_len on_level 0 (top_level n + 1)

  -- the digest at a level and an index is the bytes at its offset
  pub node_at : (l k : ℕ) → l ≤ top_level n → k < level_count n l
      → node_of (levels_in n bytes) l k ≡ Some (take 32 (drop (32 * (count_below n l + k)) bytes))
  unfolding levels_in on_level
  node_at l k low lt =
      let within : length (on_level l) ≡ level_count n l =
      length-take-le (level_count n l) (drop (count_below n l) (digests_in bytes))
      (omega (arith, length-drop (count_below n l) (digests_in bytes), count_all, enough l low)) in
      let there : 0 + l ≡ l = omega arith in
      ap (option_and_then (λ digests. slice_get digests k)) (slice_get-map-range on_level 0 (top_level n + 1) l (omega arith) ∙ ap (λ (m : ℕ). Some (on_level m)) there)
      ∙ slice_get-is (on_level l) k [] (omega arith)
      ∙ ap (λ (digest : List ℕ). Some digest)
      (get_or-take (level_count n l) (drop (count_below n l) (digests_in bytes)) k [] lt
      ∙ get_or-drop (count_below n l) (digests_in bytes) k []
      ∙ get_or-first_chunks 32 (length bytes / 32) (count_below n l + k) bytes (omega (arith, enough l low)))

  -- there is none past the level's end
  pub no_node_past_level : (l k : ℕ) → l ≤ top_level n → level_count n l ≤ k → node_of (levels_in n bytes) l k ≡ None
  unfolding levels_in on_level
  no_node_past_level l k low past =
      let there : 0 + l ≡ l = omega arith in
      ap (option_and_then (λ digests. slice_get digests k)) (slice_get-map-range on_level 0 (top_level n + 1) l (omega arith) ∙ ap (λ (m : ℕ). Some (on_level m)) there)
      ∙ slice_get_past (on_level l) k (omega (arith, length-take (level_count n l) (drop (count_below n l) (digests_in bytes))))

  -- nor above the top
  pub no_node_above_top : (l k : ℕ) → top_level n < l → node_of (levels_in n bytes) l k ≡ None
  no_node_above_top l k above =
      ap (option_and_then (λ digests. slice_get digests k)) (slice_get_past (levels_in n bytes) l (omega (arith, length-levels_in)))

  -- the bytes are those of the levels
  part_prefix : (m : ℕ) → count_below n m ≤ digest_count n → digests_below on_level m ≡ take (count_below n m) (digests_in bytes)
  unfolding on_level
  part_prefix zero fits = refl
  part_prefix (suc m) fits =
      digests_below-more on_level m
      ∙ ap (λ (digests : List (List ℕ)). digests ++ on_level m) (part_prefix m (omega arith))
      ∙ sym (take-add (count_below n m) (level_count n m) (digests_in bytes))

  pub table_bytes-levels_in : table_bytes (levels_in n bytes) ≡ bytes
  unfolding levels_in on_level
  table_bytes-levels_in =
      let one : top_level n + 1 ≡ suc (top_level n) = omega arith in
      table_bytes-each_level n on_level
      ∙ ap concat (ap (digests_below on_level) one ∙ part_prefix (suc (top_level n)) (omega arith)
      ∙ take_all (digest_count n) (digests_in bytes) (omega (arith, count_all)))
      ∙ concat-first_chunks 32 (length bytes / 32) bytes
      ∙ take_all (32 * (length bytes / 32)) bytes (omega arith)
