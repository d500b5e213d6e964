-- Each string of a file has its own index among all strings, which its name determines. So no two have the same name.
use Rattle.std.proofs.Common.{◌≡◌, ℕ, zero, suc, ◌+◌, ◌-◌, ◌<◌, ◌≤◌, inl, inr, List, [], ◌∷◌, ◌++◌, length, get_or, sym, ap, ◌∙◌, arith, add-one}
use Rattle.std.specs.Prelude.{Some}
use Rattle.std.specs.List.{flat_map, range_with_len, slice_get}
use Rattle.merkle_chunks.specs.Strings.{StringName, spot, root, root_string}
use Rattle.merkle_chunks.specs.Table.{level_count, count_below, top_level, IsNode, strings_at, named_strings, all_strings, top_digest}
use Rattle.std.proofs.lemmas.Bool.Decides.{leb_tells}
use Rattle.merkle_chunks.proofs.CountLemmas.{count_below-more}
use Rattle.merkle_chunks.proofs.TableLemmas.{length-strings_at}
use Rattle.merkle_chunks.proofs.LevelLemmas.{count_below-le}

-- the index of a name's string among all strings over n fragments: the root string is first, then those of each level
abbrev pub name_place : ℕ → StringName → ℕ
name_place n (spot level index) = 1 + (count_below n level + index)
name_place n root = 0

-- a named string is at the index that its name gives, counted from the first string of its level
module _ (n level : ℕ) where
  in_level : (i : ℕ) (strings : List (List ℕ)) (more : List (StringName × List ℕ)) (p : ℕ) (s : StringName × List ℕ)
      → ((q : ℕ) → slice_get more q ≡ Some s → name_place n s.0 ≡ 1 + (count_below n level + i + length strings + q))
      → slice_get (named_strings level i strings ++ more) p ≡ Some s → name_place n s.0 ≡ 1 + (count_below n level + i + p)
  in_level i [] more p s later found = omega (arith, later p found)
  in_level i (string ∷ strings) more zero s later found = let is : (spot level i, string) ≡ s = cc in ap (λ (t : StringName × List ℕ). name_place n t.0) (sym is) ∙ omega arith
  in_level i (string ∷ strings) more (suc p) s later found =
      omega (arith, in_level (i + 1) strings more p s (λ q at. omega (arith, later q at)) found)

  -- the string at an index of a level
  at_index : (i : ℕ) (strings : List (List ℕ)) (more : List (StringName × List ℕ)) (k : ℕ) → k < length strings
      → slice_get (named_strings level i strings ++ more) k ≡ Some (spot level (i + k), get_or strings k [])
  at_index i [] more k lt = absurd (omega arith)
  at_index i (string ∷ strings) more zero lt = let here : i ≡ i + 0 = omega arith in ap (λ (m : ℕ). Some (spot level m, string)) here
  at_index i (string ∷ strings) more (suc k) lt =
      let there : i + 1 + k ≡ i + suc k = omega arith in
      at_index (i + 1) strings more k (omega arith) ∙ ap (λ (m : ℕ). Some (spot level m, get_or strings k [])) there

  -- what follows a level
  past_level : (i : ℕ) (strings : List (List ℕ)) (more : List (StringName × List ℕ)) (p : ℕ)
      → slice_get (named_strings level i strings ++ more) (length strings + p) ≡ slice_get more p
  past_level i [] more p = let none : 0 + p ≡ p = omega arith in ap (slice_get more) none
  past_level i (string ∷ strings) more p =
      let next : suc (length strings) + p ≡ suc (length strings + p) = omega arith in
      ap (slice_get (named_strings level i (string ∷ strings) ++ more)) next ∙ past_level (i + 1) strings more p

module _ (hash : List ℕ → List ℕ) (fragments : List (List ℕ)) where
  -- the named strings of the levels from one on
  abbrev pub level_strings : ℕ → ℕ → List (StringName × List ℕ)
  level_strings from many = flat_map (λ level. named_strings level 0 (strings_at hash fragments level)) (range_with_len from many)

  in_levels : (from many p : ℕ) (s : StringName × List ℕ) → slice_get (level_strings from many) p ≡ Some s
      → name_place (length fragments) s.0 ≡ 1 + (count_below (length fragments) from + p)
  in_levels from zero p s found = absurd cc
  in_levels from (suc many) p s found =
      omega (
        arith,
        in_level (length fragments) from 0 (strings_at hash fragments from) (level_strings (from + 1) many) p s
            (λ q at. omega (arith, in_levels (from + 1) many q s at, length-strings_at hash fragments from, ap (count_below (length fragments)) (add-one from)))
            found,
      )

  at_place : (from many l k p : ℕ) → from ≤ l → l < from + many → k < level_count (length fragments) l
      → count_below (length fragments) l + k ≡ count_below (length fragments) from + p
      → slice_get (level_strings from many) p ≡ Some (spot l k, get_or (strings_at hash fragments l) k [])
  at_place from zero l k p low high lt place = absurd (omega arith)
  at_place from (suc many) l k p low high lt place =
      elim (leb_tells l from) [
        | inl q ↦
            let same : l ≡ from = omega (arith, q.1) in
            let here : p ≡ k = omega (arith, ap (count_below (length fragments)) same) in
            let first : 0 + k ≡ k = omega arith in
            ap (slice_get (level_strings from (suc many))) here
            ∙ at_index (length fragments) from 0 (strings_at hash fragments from) (level_strings (from + 1) many) k
            (omega (arith, length-strings_at hash fragments from, ap (level_count (length fragments)) same))
            ∙ (λ i. Some (spot (sym same i) (first i), get_or (strings_at hash fragments (sym same i)) k []))
        | inr q ↦
            let next : count_below (length fragments) (from + 1) ≡ count_below (length fragments) from + level_count (length fragments) from = count_below-more (length fragments) from in
            let past : count_below (length fragments) (from + 1) ≤ count_below (length fragments) l = count_below-le (length fragments) (from + 1) l (omega (arith, q.1)) in
            let after : p ≡ length (strings_at hash fragments from) + (p - length (strings_at hash fragments from)) = omega (arith, length-strings_at hash fragments from) in
            ap (slice_get (level_strings from (suc many))) after
            ∙ past_level (length fragments) from 0 (strings_at hash fragments from) (level_strings (from + 1) many) (p - length (strings_at hash fragments from))
            ∙ at_place (from + 1) many l k (p - length (strings_at hash fragments from)) (omega (arith, q.1)) (omega arith) lt (omega (arith, length-strings_at hash fragments from))
      ]

  -- the string of a node is at the index that its name gives
  pub string_at_place : (header : List ℕ) (l k : ℕ) → IsNode (length fragments) l k
      → slice_get (all_strings hash header fragments) (1 + (count_below (length fragments) l + k)) ≡ Some (spot l k, get_or (strings_at hash fragments l) k [])
  unfolding all_strings
  string_at_place header l k node =
      let after : 1 + (count_below (length fragments) l + k) ≡ suc (count_below (length fragments) l + k) = omega arith in
      ap (slice_get (all_strings hash header fragments)) after
      ∙ at_place 0 (top_level (length fragments) + 1) l k (count_below (length fragments) l + k) (omega arith) (omega (arith, node.on_level)) node.within (omega arith)

  -- each string is at the index that its name gives
  pub name_place_of : (header : List ℕ) (p : ℕ) (s : StringName × List ℕ) → slice_get (all_strings hash header fragments) p ≡ Some s → name_place (length fragments) s.0 ≡ p
  unfolding all_strings
  name_place_of header zero s found = let is : (root, root_string header (top_digest hash fragments)) ≡ s = cc in ap (λ (t : StringName × List ℕ). name_place (length fragments) t.0) (sym is)
  name_place_of header (suc p) s found = omega (arith, in_levels 0 (top_level (length fragments) + 1) p s found)

  -- so no two have the same name
  pub one_place : (header : List ℕ) (p q : ℕ) (s t : StringName × List ℕ) → slice_get (all_strings hash header fragments) p ≡ Some s
      → slice_get (all_strings hash header fragments) q ≡ Some t → s.0 ≡ t.0 → p ≡ q
  one_place header p q s t here there same =
      sym (name_place_of header p s here) ∙ ap (name_place (length fragments)) same ∙ name_place_of header q t there
