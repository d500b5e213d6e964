-- The path from a fragment to the top of a table: each string on it is made of the digest below it and the sibling's.
use Rattle.std.proofs.Common.{◌≡◌, ℕ, zero, suc, ◌+◌, ◌-◌, ◌*◌, ◌/◌, ◌%◌, ◌<◌, Bool, true, false, List, [], length, take, drop, get_or, sym, ap, ◌∙◌, inl, inr, arith}
use Rattle.std.specs.Prelude.{nat_eq, if◌then◌else◌}
use Rattle.std.proofs.lemmas.Bool.Decides.{eqb_tells, leb_tells}
use Rattle.std.proofs.lemmas.List.{get_or_default, get_or_past, take_at, drop_at, get_or-map}
use Rattle.merkle_chunks.specs.Strings.{absent_child, node_string, node_strings}
use Rattle.merkle_chunks.specs.Table.{level_count, strings_at, digests_at}
use Rattle.merkle_chunks.proofs.TableLemmas.{get_or-node_strings, length-digests_at, length-strings_at}
use Rattle.fragment_open.specs.Asks.{index_at, sibling_of, has_sibling}
use Rattle.fragment_open.specs.Hashed.{parent_string}

-- ---- choices

pub if_true : {A : Type 0} (b : Bool) (x y : A) → b ≡ true → (if b then x else y) ≡ x
if_true b x y h = ap (λ (v : Bool). if v then x else y) h

pub if_false : {A : Type 0} (b : Bool) (x y : A) → b ≡ false → (if b then x else y) ≡ y
if_false b x y h = ap (λ (v : Bool). if v then x else y) h

-- ---- indexes

pub index_at-lt : (n i l : ℕ) → i < n → index_at i l < level_count n l
index_at-lt n i zero lt = lt
index_at-lt n i (suc l) lt = omega (arith, index_at-lt n i l lt)

pub index_at-chunk : (i : ℕ) → index_at i 4 ≡ i / 16
index_at-chunk i = omega arith

-- ---- a parent's string

-- a parent's string contains the digest of each child
pub parent_parts : (k : ℕ) (a s b t : List ℕ) → length a ≡ 32 → length s ≡ 32 → length b ≡ 32 → length t ≡ 32
    → parent_string k a s ≡ parent_string k b t → a ≡ b
parent_parts k a s b t la ls lb lt same =
    elim (eqb_tells (k % 2) 0) [
      | inl p ↦
          let plain : node_string a s ≡ node_string b t = sym (if_true _ (node_string a s) (node_string s a) p.0) ∙ same ∙ if_true _ (node_string b t) (node_string t b) p.0 in
          sym (take_at a s 32 la) ∙ ap (λ (x : List ℕ). take 32 (drop 1 x)) plain ∙ take_at b t 32 lb
      | inr p ↦
          let plain : node_string s a ≡ node_string t b = sym (if_false _ (node_string a s) (node_string s a) p.0) ∙ same ∙ if_false _ (node_string b t) (node_string t b) p.0 in
          sym (drop_at s a 32 ls) ∙ ap (λ (x : List ℕ). drop 32 (drop 1 x)) plain ∙ drop_at t b 32 lt
    ]

-- over a level of digests, the string of the parent of an index has its digest and its sibling's, or zeros
pub string_of_parent : (digests : List (List ℕ)) (k : ℕ) → k < length digests
    → get_or (node_strings digests) (k / 2) [] ≡ parent_string k (get_or digests k []) (get_or digests (sibling_of k) absent_child)
string_of_parent digests k lt =
    elim (eqb_tells (k % 2) 0) [
      | inl p ↦
          let here : 2 * (k / 2) ≡ k = omega (arith, p.1) in
          let other : 2 * (k / 2) + 1 ≡ sibling_of k = omega (arith, p.1) ∙ sym (if_true (nat_eq (k % 2) 0) (k + 1) (k - 1) p.0) in
          get_or-node_strings digests (k / 2) (omega arith)
          ∙ (λ i. node_string (get_or digests (here i) []) (get_or digests (other i) absent_child))
          ∙ sym (if_true _ (node_string (get_or digests k []) (get_or digests (sibling_of k) absent_child)) (node_string (get_or digests (sibling_of k) absent_child) (get_or digests k [])) p.0)
      | inr p ↦
          let here : 2 * (k / 2) + 1 ≡ k = omega (arith, p.1) in
          let other : 2 * (k / 2) ≡ sibling_of k = omega (arith, p.1) ∙ sym (if_false (nat_eq (k % 2) 0) (k + 1) (k - 1) p.0) in
          get_or-node_strings digests (k / 2) (omega arith)
          ∙ (λ i. node_string (get_or digests (other i) []) (get_or digests (here i) absent_child))
          ∙ (λ i. node_string (get_or_default digests (sibling_of k) [] absent_child (omega (arith, other)) i) (get_or_default digests k absent_child [] lt i))
          ∙ sym (if_false _ (node_string (get_or digests k []) (get_or digests (sibling_of k) absent_child)) (node_string (get_or digests (sibling_of k) absent_child) (get_or digests k [])) p.0)
    ]

module _ (hash : List ℕ → List ℕ) (frags : List (List ℕ)) where
  -- the string of a table at a level and an index
  abbrev pub string_in : ℕ → ℕ → List ℕ
  string_in l k = get_or (strings_at hash frags l) k []

  -- the digest of the sibling, or that of an absent child
  abbrev pub sibling_in : ℕ → ℕ → List ℕ
  sibling_in l k = get_or (digests_at hash frags l) (sibling_of k) absent_child

  pub digest_in : (l k : ℕ) → k < level_count (length frags) l → get_or (digests_at hash frags l) k [] ≡ hash (string_in l k)
  digest_in l k lt = get_or-map hash (strings_at hash frags l) k [] [] (omega (arith, length-strings_at hash frags l))

  -- the string above is that of a parent
  pub string_above : (l k : ℕ) → k < level_count (length frags) l → string_in (suc l) (k / 2) ≡ parent_string k (hash (string_in l k)) (sibling_in l k)
  unfolding strings_at
  string_above l k lt =
      string_of_parent (digests_at hash frags l) k (omega (arith, length-digests_at hash frags l))
      ∙ ap (λ (d : List ℕ). parent_string k d (sibling_in l k)) (digest_in l k lt)

  -- a sibling that the table doesn't have is zeros
  pub sibling_absent : (i l : ℕ) → has_sibling (length frags) i l ≡ false → sibling_in l (index_at i l) ≡ absent_child
  sibling_absent i l none = get_or_past (digests_at hash frags l) (sibling_of (index_at i l)) absent_child (grind (arith, none, length-digests_at hash frags l))

  pub length-sibling : ((string : List ℕ) → length (hash string) ≡ 32) → (l k : ℕ) → length (sibling_in l k) ≡ 32
  length-sibling wide l k =
      elim (leb_tells (length (digests_at hash frags l)) (sibling_of k)) [
        | inl p ↦ ap length (get_or_past (digests_at hash frags l) (sibling_of k) absent_child p.1)
        | inr p ↦
            let there : sibling_of k < level_count (length frags) l = omega (arith, p.1, length-digests_at hash frags l) in
            ap length (get_or_default (digests_at hash frags l) (sibling_of k) absent_child [] p.1 ∙ digest_in l (sibling_of k) there) ∙ wide (string_in l (sibling_of k))
      ]
