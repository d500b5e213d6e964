-- From a digest of the table down to the fragment: without a clash each string on the path is the table's.
use Rattle.std.proofs.Common.{◌≡◌, ℕ, zero, suc, ◌/◌, ◌<◌, ◌≤◌, Bool, true, false, ◌&&◌, ◌||◌, List, [], ◌∷◌, ◌++◌, length, refl, sym, ap, ◌∙◌, subst, inl, inr, arith, true≢false}
use Rattle.std.specs.Prelude.{if◌then◌else◌, Option, Some, None, is_some, is_none, option_map, option_and_then, option_to_list, Contains}
use Rattle.std.specs.List.{slice_get}
use Rattle.std.proofs.lemmas.Bool.Decides.{eqb_tells, leb_tells}
use Rattle.std.proofs.lemmas.List.Elements.{Contains-append_left, Contains-append_right}
use Rattle.acl_outside.specs.Outside.{StoreRead}
use Rattle.merkle_chunks.specs.Strings.{StringName, absent_child, spot}
use Rattle.merkle_chunks.specs.Table.{level_count}
use Rattle.fragment_open.specs.Openings.{Opening, index_of}
use Rattle.fragment_open.specs.Asks.{has_sibling, index_at, siblings_below}
use Rattle.fragment_open.specs.Served.{whole}
use Rattle.fragment_open.specs.Hashed.{folded_in, goal_after, hashed_in, is_stopped, lacks_sibling, named_at, named_up_to, parent_string, sibling_digest, string_at}
use Rattle.fragment_open.specs.Good.{AllFoldAsWanted}
use Rattle.fragment_open.proofs.TreeLemmas.{if_true, if_false, index_at-lt, parent_parts, string_in, sibling_in, string_above, length-sibling}

-- ---- options

pub got : {A : Type 0} (o : Option A) → is_some o ≡ true → (x : A) × (o ≡ Some x)
got None h = absurd (true≢false (sym h))
got (Some x) h = (x, refl)

pub same_value : {A : Type 0} (a b : A) → ◌≡◌ {A = Option A} (Some a) (Some b) → a ≡ b
same_value a b h = cc

pub mapped : {A B : Type 0} (f : A → B) (o : Option A) (y : B) → option_map f o ≡ Some y → (x : A) × (o ≡ Some x) × (f x ≡ y)
mapped f None y h = absurd (true≢false (sym (ap is_some h)))
mapped f (Some x) y h = (x, refl, same_value (f x) y h)

pub chained : {A B : Type 0} (f : A → Option B) (o : Option A) (y : B) → option_and_then f o ≡ Some y → (x : A) × (o ≡ Some x) × (f x ≡ Some y)
chained f None y h = absurd (true≢false (sym (ap is_some h)))
chained f (Some x) y h = (x, refl, h)

pub whole-length : (size : ℕ) (read : StoreRead) (bytes : List ℕ) → whole size read ≡ Some bytes → (length bytes ≡ size) × (read.bytes ≡ bytes)
whole-length size read bytes h =
    elim (eqb_tells (length read.bytes) size) [
      | inl p ↦
          let same : read.bytes ≡ bytes = same_value read.bytes bytes (sym (if_true _ (Some read.bytes) None p.0) ∙ h) in
          (sym (ap length same) ∙ p.1, same)
      | inr p ↦ absurd (true≢false (sym (ap is_some (sym (if_false _ (Some read.bytes) None p.0) ∙ h))))
    ]

-- a sibling's digest has 32 bytes
pub length-sibling_digest : (n : ℕ) (o : Opening) (l : ℕ) (s : List ℕ) → sibling_digest n o l ≡ Some s → length s ≡ 32
length-sibling_digest n o l s h =
    elim (has_sibling n (index_of o) l) as (λ (v : Bool). (if v then option_and_then (whole 32) (slice_get o.siblings (siblings_below n (index_of o) l)) else Some absent_child) ≡ Some s → length s ≡ 32) [
      | true ↦ λ e. let r = chained (whole 32) (slice_get o.siblings (siblings_below n (index_of o) l)) s e in (whole-length 32 r.0 s r.2).0
      | false ↦ λ e. ap length (sym (same_value absent_child s e))
    ] h

module _ (hash : List ℕ → List ℕ) (wide : (string : List ℕ) → length (hash string) ≡ 32) where
  -- the parts of a string above level 0
  pub string_at-above : (n : ℕ) (o : Opening) (l : ℕ) (x : List ℕ) → string_at hash n o (suc l) ≡ Some x
      → (y : List ℕ) × (s : List ℕ) × (string_at hash n o l ≡ Some y) × (sibling_digest n o l ≡ Some s) × (parent_string (index_at (index_of o) l) (hash y) s ≡ x)
  unfolding string_at
  string_at-above n o l x h =
      let a = chained (λ string. option_map (parent_string (index_at (index_of o) l) (hash string)) (sibling_digest n o l)) (string_at hash n o l) x h in
      let b = mapped (parent_string (index_at (index_of o) l) (hash a.0)) (sibling_digest n o l) x a.2 in
      (a.0, b.0, a.1, b.1, b.2)

  -- so where there is a string, there are those below it
  pub string_at-below : (n : ℕ) (o : Opening) (l m : ℕ) → m ≤ l → is_some (string_at hash n o l) ≡ true → is_some (string_at hash n o m) ≡ true
  string_at-below n o zero m le there = let here : m ≡ 0 = omega arith in ap (λ (k : ℕ). is_some (string_at hash n o k)) here ∙ there
  string_at-below n o (suc l) m le there =
      elim (leb_tells m l) [
        | inl p ↦
            let x = got (string_at hash n o (suc l)) there in
            let below = string_at-above n o l x.0 x.1 in
            string_at-below n o l m p.1 (ap is_some below.2)
        | inr p ↦ let here : m ≡ suc l = omega (arith, p.1) in ap (λ (k : ℕ). is_some (string_at hash n o k)) here ∙ there
      ]

  module _ (frags : List (List ℕ)) where
    n : ℕ
    n = length frags

    -- strings of an opening up to a level whose digests are the table's are the table's
    abbrev pub AgreesUpTo : Opening → ℕ → Type 0
    AgreesUpTo o l = (m : ℕ) (x : List ℕ) → m ≤ l → string_at hash (length frags) o m ≡ Some x
        → hash x ≡ hash (string_in hash frags m (index_at (index_of o) m)) → x ≡ string_in hash frags m (index_at (index_of o) m)

    -- each string up to a level is the table's
    abbrev pub IsHonestUpTo : Opening → ℕ → Type 0
    IsHonestUpTo o l = (m : ℕ) → m ≤ l → string_at hash (length frags) o m ≡ Some (string_in hash frags m (index_at (index_of o) m))

    pub down : (o : Opening) (l : ℕ) (x : List ℕ) → index_of o < length frags → AgreesUpTo o l → string_at hash (length frags) o l ≡ Some x
        → hash x ≡ hash (string_in hash frags l (index_at (index_of o) l)) → IsHonestUpTo o l
    down o zero x lt agrees there same = λ m le.
        let here : m ≡ 0 = omega arith in
        let P : ℕ → Type 0 = λ k. string_at hash (length frags) o k ≡ Some (string_in hash frags k (index_at (index_of o) k)) in
        subst P (sym here) (there ∙ ap (λ (y : List ℕ). Some y) (agrees 0 x (omega arith) there same))
    down o (suc l) x lt agrees there same =
        let i : ℕ = index_of o in
        let k : ℕ = index_at i l in
        let below = string_at-above (length frags) o l x there in
        let on_level : k < level_count (length frags) l = index_at-lt (length frags) i l lt in
        let is : x ≡ string_in hash frags (suc l) (k / 2) = agrees (suc l) x (omega arith) there same in
        let digest : hash below.0 ≡ hash (string_in hash frags l k) =
        parent_parts k (hash below.0) below.1 (hash (string_in hash frags l k)) (sibling_in hash frags l k)
        (wide below.0) (length-sibling_digest (length frags) o l below.1 below.3) (wide (string_in hash frags l k)) (length-sibling hash frags wide l k)
        (below.4 ∙ is ∙ string_above hash frags l k on_level) in
        let rest : IsHonestUpTo o l = down o l below.0 lt (λ m y le. agrees m y (omega (arith, le))) below.2 digest in
        λ m le. elim (leb_tells m l) [
          | inl p ↦ rest m p.1
          | inr p ↦
              let here : m ≡ suc l = omega (arith, p.1, le) in
              let P : ℕ → Type 0 = λ j. string_at hash (length frags) o j ≡ Some (string_in hash frags j (index_at i j)) in
              subst P (sym here) (there ∙ ap (λ (y : List ℕ). Some y) is)
        ]

  -- ---- the strings of an opening are among those hashed

  pub named_up_to-has : (n : ℕ) (o : Opening) (g m : ℕ) (x : List ℕ) → m ≤ g → string_at hash n o m ≡ Some x
      → Contains (named_up_to hash n o g) (spot m (index_at (index_of o) m), x)
  named_up_to-has n o g m x le there =
      let here : named_at hash n o m ≡ (spot m (index_at (index_of o) m), x) ∷ [] = ap (λ (s : Option (List ℕ)). option_to_list (option_map (λ string. (spot m (index_at (index_of o) m), string)) s)) there in
      let P : List (StringName × List ℕ) → Type 0 = λ l. Contains l (spot m (index_at (index_of o) m), x) in
      let has : Contains (named_at hash n o m) (spot m (index_at (index_of o) m), x) = subst P (sym here) (0, omega arith, refl) in
      up g le has
    where
      up : (g : ℕ) → m ≤ g → Contains (named_at hash n o m) (spot m (index_at (index_of o) m), x) → Contains (named_up_to hash n o g) (spot m (index_at (index_of o) m), x)
      up zero le has =
          let same : m ≡ 0 = omega arith in
          let P : ℕ → Type 0 = λ k. Contains (named_at hash n o k) (spot m (index_at (index_of o) m), x) in
          subst P same has
      up (suc g) le has =
          elim (leb_tells m g) [
            | inl p ↦ Contains-append_left (named_up_to hash n o g) (named_at hash n o (suc g)) (spot m (index_at (index_of o) m), x) (up g p.1 has)
            | inr p ↦
                let same : m ≡ suc g = omega (arith, p.1, le) in
                let P : ℕ → Type 0 = λ k. Contains (named_at hash n o k) (spot m (index_at (index_of o) m), x) in
                Contains-append_right (named_up_to hash n o g) (named_at hash n o (suc g)) (spot m (index_at (index_of o) m), x) (subst P same has)
          ]

  -- good openings don't stop the list
  pub folded-there : (n : ℕ) (o : Opening) (before : List Opening) → is_some (folded_in hash n (o ∷ before)) ≡ true → is_some (string_at hash n o (goal_after hash n o before)) ≡ true
  folded-there n o before h =
      let x = got (folded_in hash n (o ∷ before)) h in
      ap is_some (mapped hash (string_at hash n o (goal_after hash n o before)) x.0 x.1).1

  nothing_lacks : (a b : Option (List ℕ)) → is_some b ≡ true → (is_some a && is_none b) ≡ false
  nothing_lacks None b h = refl
  nothing_lacks (Some x) None h = sym h
  nothing_lacks (Some x) (Some y) h = refl

  pub good-not_stopped : (n : ℕ) (top : List ℕ) (os : List Opening) → AllFoldAsWanted hash n top os → is_stopped hash n os ≡ false
  good-not_stopped n top [] good = refl
  good-not_stopped n top (o ∷ before) good =
      ap (λ (v : Bool). v || lacks_sibling hash n o before) (good-not_stopped n top before good.3)
      ∙ nothing_lacks (string_at hash n o 0) (string_at hash n o (goal_after hash n o before)) (folded-there n o before good.1)

  pub hashed_in-good : (n : ℕ) (top : List ℕ) (o : Opening) (before : List Opening) → AllFoldAsWanted hash n top before
      → hashed_in hash n (o ∷ before) ≡ hashed_in hash n before ++ named_up_to hash n o (goal_after hash n o before)
  unfolding hashed_in
  hashed_in-good n top o before good =
      if_false (is_stopped hash n before) (hashed_in hash n before) (hashed_in hash n before ++ named_up_to hash n o (goal_after hash n o before)) (good-not_stopped n top before good)
