-- The main law: without a clash with a file's strings, good openings under its root are of its own fragments.
use Rattle.std.proofs.Common.{◌≡◌, ℕ, zero, suc, ◌+◌, ◌/◌, ◌<◌, ◌≤◌, Bool, true, false, List, [], ◌∷◌, ◌++◌, length, take, drop, get_or, refl, sym, ap, ◌∙◌, subst, inl, inr, ◌⊎◌, arith, true≢false}
use Rattle.std.specs.Prelude.{nat_lt, Option, Some, is_some, option_map, map, Contains}
use Rattle.std.specs.List.{slice_get}
use Rattle.std.proofs.lemmas.Bool.{eqb-true, ltb-true}
use Rattle.std.proofs.lemmas.List.{take_at, drop_at}
use Rattle.std.proofs.lemmas.List.Elements.{Contains-append_left, Contains-append_right}
use Rattle.merkle_chunks.specs.Strings.{StringName, leaf_string, root, root_string, spot}
use Rattle.merkle_chunks.specs.Table.{all_strings, count_below, strings_at, top_digest, top_level, root_digest, IsNode}
use Rattle.merkle_chunks.proofs.CountLemmas.{top_level-is}
use Rattle.merkle_chunks.proofs.NameLemmas.{string_at_place}
use Rattle.merkle_chunks.proofs.TableLemmas.{get_or-leaf_strings}
use Rattle.fragment_open.specs.Openings.{Opening, index_of}
use Rattle.fragment_open.specs.Asks.{goal_level, index_at, same_chunk, to_chunk}
use Rattle.fragment_open.specs.Served.{whole}
use Rattle.fragment_open.specs.Hashed.{chunk_digest, goal_after, hashed_in, named_up_to, string_at, wanted_in}
use Rattle.fragment_open.specs.Good.{AllFoldAsWanted}
use Rattle.fragment_open.specs.Clash.{has_clash}
use Rattle.fragment_open.proofs.ClashLemmas.{agree, both_true}
use Rattle.fragment_open.proofs.TreeLemmas.{if_true, if_false, index_at-lt, index_at-chunk, string_in, digest_in}
use Rattle.fragment_open.proofs.PathLemmas.{got, same_value, mapped, whole-length, down, IsHonestUpTo, named_up_to-has, folded-there, hashed_in-good}

pub either : (b : Bool) → (b ≡ true) ⊎ (b ≡ false)
either true = inl refl
either false = inr refl

-- what is at an index is contained
pub contained : {X : Type 0} (xs : List X) (p : ℕ) (x : X) → slice_get xs p ≡ Some x → Contains xs x
contained [] p x h = absurd (true≢false (sym (ap is_some h)))
contained (y ∷ ys) zero x h = (0, omega arith, same_value y x h)
contained (y ∷ ys) (suc p) x h = let rest = contained ys p x h in (suc rest.0, omega (arith, rest.1), rest.2)

-- ---- goals

pub goal_level-le : (n i : ℕ) (before : List ℕ) → goal_level n i before ≤ top_level n
goal_level-le n i before =
    elim (either (to_chunk n i before)) [
      | inl e ↦ let high : 4 < top_level n = ltb-true 4 (top_level n) (both_true (nat_lt 4 (top_level n)) (same_chunk i before) e).0 in omega (arith, high, if_true _ 4 (top_level n) e)
      | inr e ↦ omega (arith, if_false _ 4 (top_level n) e)
    ]

pub goal_level-least : (n i : ℕ) (before : List ℕ) → 4 < top_level n → 4 ≤ goal_level n i before
goal_level-least n i before high =
    elim (either (to_chunk n i before)) [
      | inl e ↦ omega (arith, if_true _ 4 (top_level n) e)
      | inr e ↦ omega (arith, if_false _ 4 (top_level n) e, high)
    ]

-- an opening that goes up only to its chunk has one before it, in that chunk
no_chunk_alone : (n i : ℕ) → to_chunk n i [] ≡ true → ⊥
no_chunk_alone n i e = true≢false (sym (both_true (nat_lt 4 (top_level n)) false e).1)

module _ (hash : List ℕ → List ℕ) (wide : (string : List ℕ) → length (hash string) ≡ 32) (frags : List (List ℕ)) (some : 1 ≤ length frags) where
  -- strings under the name of a node whose digests are the table's are the table's
  abbrev pub AgreesIn : List (StringName × List ℕ) → Type 0
  AgreesIn ours = (l k : ℕ) (x : List ℕ) → Contains ours (spot l k, x) → IsNode (length frags) l k → hash x ≡ hash (string_in hash frags l k) → x ≡ string_in hash frags l k

  -- the strings of the newest opening are the table's
  abbrev pub IsHonestHead : List Opening → Type 0
  IsHonestHead [] = Unit {0}
  IsHonestHead (o ∷ before) = IsHonestUpTo hash wide frags o (goal_after hash (length frags) o before)

  pub on_top : (i : ℕ) → i < length frags → index_at i (top_level (length frags)) ≡ 0
  on_top i lt = omega (arith, index_at-lt (length frags) i (top_level (length frags)) lt, (top_level-is (length frags) some).single)

  -- what is wanted at the goal is the table's digest there
  at_goal : (top : List ℕ) (o : Opening) (before : List Opening) (x : List ℕ) → index_of o < length frags → IsHonestHead before
      → top ≡ hash (string_in hash frags (top_level (length frags)) 0)
      → ◌≡◌ {A = Option (List ℕ)} (Some (hash x)) (wanted_in hash (length frags) (Some top) (o ∷ before))
      → hash x ≡ hash (string_in hash frags (goal_after hash (length frags) o before) (index_at (index_of o) (goal_after hash (length frags) o before)))
  at_goal top o [] x lt honest istop same =
      let n : ℕ = length frags in
      let i : ℕ = index_of o in
      elim (either (to_chunk n i [])) [
        | inl e ↦ absurd (no_chunk_alone n i e)
        | inr e ↦
            let goal : goal_level n i [] ≡ top_level n = if_false _ 4 (top_level n) e in
            let P : ℕ → Type 0 = λ g. hash x ≡ hash (string_in hash frags g (index_at i g)) in
            subst P (sym goal) (same_value (hash x) top (same ∙ if_false _ (chunk_digest hash n []) (Some top) e) ∙ istop
            ∙ ap (λ (k : ℕ). hash (string_in hash frags (top_level n) k)) (sym (on_top i lt)))
      ]
  at_goal top o (b ∷ bs) x lt honest istop same =
      let n : ℕ = length frags in
      let i : ℕ = index_of o in
      let before : List ℕ = map index_of (b ∷ bs) in
      elim (either (to_chunk n i before)) [
        | inl e ↦
            let parts = both_true (nat_lt 4 (top_level n)) (same_chunk i before) e in
            let high : 4 < top_level n = ltb-true 4 (top_level n) parts.0 in
            let chunk : i / 16 ≡ index_of b / 16 = eqb-true (i / 16) (index_of b / 16) parts.1 in
            let goal : goal_level n i before ≡ 4 = if_true _ 4 (top_level n) e in
            let there : string_at hash n b 4 ≡ Some (string_in hash frags 4 (index_at (index_of b) 4)) = honest 4 (goal_level-least n (index_of b) (map index_of bs) high) in
            let k : index_at (index_of b) 4 ≡ index_at i 4 = index_at-chunk (index_of b) ∙ sym chunk ∙ sym (index_at-chunk i) in
            let P : ℕ → Type 0 = λ g. hash x ≡ hash (string_in hash frags g (index_at i g)) in
            subst P (sym goal)
            (same_value (hash x) (hash (string_in hash frags 4 (index_at (index_of b) 4))) (same ∙ if_true _ (chunk_digest hash n (b ∷ bs)) (Some top) e ∙ ap (option_map hash) there)
            ∙ ap (λ (j : ℕ). hash (string_in hash frags 4 j)) k)
        | inr e ↦
            let goal : goal_level n i before ≡ top_level n = if_false _ 4 (top_level n) e in
            let P : ℕ → Type 0 = λ g. hash x ≡ hash (string_in hash frags g (index_at i g)) in
            subst P (sym goal) (same_value (hash x) top (same ∙ if_false _ (chunk_digest hash n (b ∷ bs)) (Some top) e) ∙ istop
            ∙ ap (λ (k : ℕ). hash (string_in hash frags (top_level n) k)) (sym (on_top i lt)))
      ]

  pub good-honest : (top : List ℕ) (os : List Opening) → AllFoldAsWanted hash (length frags) top os → AgreesIn (hashed_in hash (length frags) os)
      → top ≡ hash (string_in hash frags (top_level (length frags)) 0) → IsHonestHead os
  good-honest top [] good agrees istop = tt
  good-honest top (o ∷ before) good agrees istop =
      let n : ℕ = length frags in
      let i : ℕ = index_of o in
      let g : ℕ = goal_after hash n o before in
      let x = got (string_at hash n o g) (folded-there hash wide n o before good.1) in
      let all : hashed_in hash n (o ∷ before) ≡ hashed_in hash n before ++ named_up_to hash n o g = hashed_in-good hash wide n top o before good.3 in
      let earlier : AgreesIn (hashed_in hash n before) = λ l k y has.
      let P : List (StringName × List ℕ) → Type 0 = λ ours. Contains ours (spot l k, y) in
      agrees l k y (subst P (sym all) (Contains-append_left (hashed_in hash n before) (named_up_to hash n o g) (spot l k, y) has)) in
      let honest : IsHonestHead before = good-honest top before good.3 earlier istop in
      let folded : ◌≡◌ {A = Option (List ℕ)} (Some (hash x.0)) (wanted_in hash n (Some top) (o ∷ before)) = sym (ap (option_map hash) x.1) ∙ good.2 in
      down hash wide frags o g x.0 good.0
      (λ m y le there same.
      let P : List (StringName × List ℕ) → Type 0 = λ ours. Contains ours (spot m (index_at i m), y) in
      agrees m (index_at i m) y
      (subst P (sym all) (Contains-append_right (hashed_in hash n before) (named_up_to hash n o g) (spot m (index_at i m), y) (named_up_to-has hash wide n o g m y le there)))
      (let bound : goal_level n i (map index_of before) ≤ top_level n = goal_level-le n i (map index_of before) in
      record { on_level = omega (arith, le, bound); within = index_at-lt n i m good.0 })
      same)
      x.1 (at_goal top o before x.0 good.0 honest istop folded)

  -- the top digest is that of the top string
  pub top_digest-is : top_digest hash frags ≡ hash (string_in hash frags (top_level (length frags)) 0)
  unfolding top_digest
  top_digest-is = digest_in hash frags (top_level (length frags)) 0 (omega (arith, (top_level-is (length frags) some).single))

  -- ---- the law

  module _ (theirs : List ℕ) (long : length theirs ≡ 64) (ours : List (StringName × List ℕ)) (none : has_clash hash ours (all_strings hash theirs frags) ≡ false) where
    pub node-agrees : AgreesIn ours
    node-agrees l k x has node same =
        agree hash ours (all_strings hash theirs frags) none (spot l k) x (string_in hash frags l k) has
        (contained (all_strings hash theirs frags) (1 + (count_below (length frags) l + k)) (spot l k, string_in hash frags l k) (string_at_place hash frags theirs l k node))
        same

    -- the root string served is the file's, and so are its header and its top digest
    pub root-agrees : (header top : List ℕ) → length header ≡ 64 → Contains ours (root, root_string header top) → hash (root_string header top) ≡ root_digest hash theirs frags
        → (header ≡ theirs) × (top ≡ top_digest hash frags)
    unfolding all_strings root_digest
    root-agrees header top size has same =
        let string : root_string header top ≡ root_string theirs (top_digest hash frags) =
        agree hash ours (all_strings hash theirs frags) none root (root_string header top) (root_string theirs (top_digest hash frags)) has (0, omega arith, refl) same in (
          sym (take_at header top 64 size) ∙ ap (λ (x : List ℕ). take 64 (drop 1 x)) string ∙ take_at theirs (top_digest hash frags) 64 long,
          sym (drop_at header top 64 size) ∙ ap (λ (x : List ℕ). drop 64 (drop 1 x)) string ∙ drop_at theirs (top_digest hash frags) 64 long,
        )

    -- the newest of good openings under that top digest read its fragment
    pub fragment-agrees : (top : List ℕ) (o : Opening) (before : List Opening) → top ≡ top_digest hash frags → AllFoldAsWanted hash (length frags) top (o ∷ before)
        → ((s : StringName × List ℕ) → Contains (hashed_in hash (length frags) (o ∷ before)) s → Contains ours s)
        → o.leaf.bytes ≡ get_or frags (index_of o) []
    unfolding strings_at string_at
    fragment-agrees top o before istop good within =
        let i : ℕ = index_of o in
        let honest = good-honest top (o ∷ before) good (λ l k x has. node-agrees l k x (within (spot l k, x) has)) (istop ∙ top_digest-is) in
        let bottom : string_at hash (length frags) o 0 ≡ Some (string_in hash frags 0 i) = honest 0 (omega arith) in
        let leaf = mapped (leaf_string i) (whole 256 o.leaf) (string_in hash frags 0 i) bottom in
        let zero_more : 0 + i ≡ i = omega arith in
        let theirs_leaf : string_in hash frags 0 i ≡ leaf_string i (get_or frags i []) = get_or-leaf_strings 0 i frags good.0 ∙ ap (λ (j : ℕ). leaf_string j (get_or frags i [])) zero_more in
        (whole-length 256 o.leaf leaf.0 leaf.1).1 ∙ ap (drop 9) (leaf.2 ∙ theirs_leaf)
