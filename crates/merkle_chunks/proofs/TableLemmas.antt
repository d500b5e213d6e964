-- The levels of a table: their lengths, and the index of each digest.
use Rattle.std.proofs.Common.{◌≡◌, ℕ, zero, suc, ◌+◌, ◌*◌, ◌/◌, ◌<◌, List, [], ◌∷◌, length, map, get_or, refl, sym, ap, ◌∙◌, arith, add-one}
use Rattle.std.specs.List.{flat_map, range_with_len}
use Rattle.std.proofs.lemmas.List.{length-map, get_or-map}
use Rattle.merkle_chunks.specs.Strings.{leaf_string, leaf_strings, node_string, node_strings, absent_child}
use Rattle.merkle_chunks.specs.Table.{IsNode, level_count, top_level, strings_at, digests_at, table_levels, top_digest}
use Rattle.merkle_chunks.specs.inside.LevelBytes.{parents, level_above, levels_above}
use Rattle.merkle_chunks.proofs.PieceLemmas.{AreSized, AreSized-append}

-- ---- strings

pub length-leaf_strings : (i : ℕ) (fragments : List (List ℕ)) → length (leaf_strings i fragments) ≡ length fragments
length-leaf_strings i [] = refl
length-leaf_strings i (fragment ∷ fragments) = ap (λ (n : ℕ). suc n) (length-leaf_strings (i + 1) fragments)

pub get_or-leaf_strings : (i k : ℕ) (fragments : List (List ℕ)) → k < length fragments → get_or (leaf_strings i fragments) k [] ≡ leaf_string (i + k) (get_or fragments k [])
get_or-leaf_strings i k [] lt = absurd (omega arith)
get_or-leaf_strings i zero (fragment ∷ fragments) lt = let here : i ≡ i + 0 = omega arith in ap (λ (n : ℕ). leaf_string n fragment) here
get_or-leaf_strings i (suc k) (fragment ∷ fragments) lt =
    let there : i + 1 + k ≡ i + suc k = omega arith in
    get_or-leaf_strings (i + 1) k fragments (omega arith) ∙ ap (λ (n : ℕ). leaf_string n (get_or fragments k [])) there

pub length-node_strings : (digests : List (List ℕ)) → length (node_strings digests) ≡ (length digests + 1) / 2
length-node_strings [] = omega arith
length-node_strings (last ∷ []) = omega arith
length-node_strings (left ∷ right ∷ digests) = omega (arith, length-node_strings digests)

-- the string of a node contains the two digests below it
pub get_or-node_strings : (digests : List (List ℕ)) (k : ℕ) → 2 * k < length digests
    → get_or (node_strings digests) k [] ≡ node_string (get_or digests (2 * k) []) (get_or digests (2 * k + 1) absent_child)
get_or-node_strings [] k lt = absurd (omega arith)
get_or-node_strings (last ∷ []) zero lt = refl
get_or-node_strings (last ∷ []) (suc k) lt = absurd (omega arith)
get_or-node_strings (left ∷ right ∷ digests) zero lt = refl
get_or-node_strings (left ∷ right ∷ digests) (suc k) lt =
    let even : 2 * suc k ≡ suc (suc (2 * k)) = omega arith in
    let odd : 2 * suc k + 1 ≡ suc (suc (2 * k + 1)) = omega arith in
    get_or-node_strings digests k (omega arith)
    ∙ (λ i. node_string (get_or (left ∷ right ∷ digests) (sym even i) []) (get_or (left ∷ right ∷ digests) (sym odd i) absent_child))

-- ---- levels

module _ (hash : List ℕ → List ℕ) where
  pub length-parents : (digests : List (List ℕ)) → length (parents hash digests) ≡ (length digests + 1) / 2
  length-parents digests = length-map (node_strings digests) hash ∙ length-node_strings digests

  pub get_or-parents : (digests : List (List ℕ)) (k : ℕ) → 2 * k < length digests
      → get_or (parents hash digests) k [] ≡ hash (node_string (get_or digests (2 * k) []) (get_or digests (2 * k + 1) absent_child))
  get_or-parents digests k lt =
      get_or-map hash (node_strings digests) k [] [] (omega (arith, length-node_strings digests))
      ∙ ap hash (get_or-node_strings digests k lt)

  pub length-strings_at : (fragments : List (List ℕ)) (l : ℕ) → length (strings_at hash fragments l) ≡ level_count (length fragments) l
  unfolding strings_at
  length-strings_at fragments zero = length-leaf_strings 0 fragments
  length-strings_at fragments (suc l) =
      length-node_strings (map hash (strings_at hash fragments l))
      ∙ ap (λ (c : ℕ). (c + 1) / 2) (length-map (strings_at hash fragments l) hash ∙ length-strings_at fragments l)

  pub length-digests_at : (fragments : List (List ℕ)) (l : ℕ) → length (digests_at hash fragments l) ≡ level_count (length fragments) l
  length-digests_at fragments l = length-map (strings_at hash fragments l) hash ∙ length-strings_at fragments l

  pub string_of_node : (fragments : List (List ℕ)) (l k : ℕ) → IsNode (length fragments) (suc l) k
      → get_or (strings_at hash fragments (suc l)) k [] ≡ node_string (get_or (digests_at hash fragments l) (2 * k) []) (get_or (digests_at hash fragments l) (2 * k + 1) absent_child)
  unfolding strings_at
  string_of_node fragments l k node = get_or-node_strings (digests_at hash fragments l) k (omega (arith, node.within, length-digests_at fragments l))

  -- a level above is that of the digests' own table
  pub digests_at-above : (fragments : List (List ℕ)) (m l : ℕ) → level_above hash m (digests_at hash fragments l) ≡ digests_at hash fragments (l + m)
  unfolding strings_at level_above
  digests_at-above fragments zero l = let same : l ≡ l + 0 = omega arith in ap (digests_at hash fragments) same
  digests_at-above fragments (suc m) l =
      let there : suc l + m ≡ l + suc m = omega arith in
      digests_at-above fragments m (suc l) ∙ ap (digests_at hash fragments) there

  levels_above-range : (fragments : List (List ℕ)) (m l : ℕ) → levels_above hash m (digests_at hash fragments l) ≡ map (digests_at hash fragments) (range_with_len (l + 1) m)
  unfolding strings_at levels_above
  levels_above-range fragments zero l = refl
  levels_above-range fragments (suc m) l =
      let next : suc l ≡ l + 1 = omega arith in
      (λ i. digests_at hash fragments (next i) ∷ levels_above-range fragments m (suc l) i)
      ∙ ap (λ (k : ℕ). digests_at hash fragments (l + 1) ∷ map (digests_at hash fragments) (range_with_len (k + 1) m)) next

  -- the levels of a table are the digests of its leaves and those above them
  pub table_levels-is : (fragments : List (List ℕ)) → table_levels hash fragments ≡ digests_at hash fragments 0 ∷ levels_above hash (top_level (length fragments)) (digests_at hash fragments 0)
  unfolding table_levels
  table_levels-is fragments =
      ap (λ (n : ℕ). map (digests_at hash fragments) (range_with_len 0 n)) (add-one (top_level (length fragments)))
      ∙ ap (λ (rest : List (List (List ℕ))). digests_at hash fragments 0 ∷ rest) (sym (levels_above-range fragments (top_level (length fragments)) 0))

  pub top_digest-is : (fragments : List (List ℕ)) → top_digest hash fragments ≡ get_or (level_above hash (top_level (length fragments)) (digests_at hash fragments 0)) 0 []
  unfolding top_digest
  top_digest-is fragments =
      let same : top_level (length fragments) ≡ 0 + top_level (length fragments) = omega arith in
      ap (λ (l : ℕ). get_or (digests_at hash fragments l) 0 []) same
      ∙ ap (λ (digests : List (List ℕ)). get_or digests 0 []) (sym (digests_at-above fragments (top_level (length fragments)) 0))

  module _ (wide : (string : List ℕ) → length (hash string) ≡ 32) where
    pub sized-digests : (strings : List (List ℕ)) → AreSized 32 (map hash strings)
    sized-digests [] = tt
    sized-digests (string ∷ strings) = (wide string, sized-digests strings)

    -- so have those of each level
    pub sized-levels : (fragments : List (List ℕ)) (a m : ℕ) → AreSized 32 (flat_map (digests_at hash fragments) (range_with_len a m))
    sized-levels fragments a zero = tt
    sized-levels fragments a (suc m) =
        AreSized-append 32 (digests_at hash fragments a) (flat_map (digests_at hash fragments) (range_with_len (a + 1) m))
        (sized-digests (strings_at hash fragments a)) (sized-levels fragments (a + 1) m)
