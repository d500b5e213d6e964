-- A whole opening: its bytes, its chunk's digest, and the digest at its goal.
use Rattle.std.proofs.Common.{◌≡◌, ℕ, ◌+◌, ◌-◌, ◌*◌, ◌≤◌, true, List, [], ◌∷◌, ◌++◌, length, take, refl, sym, ap, ◌∙◌, subst, inl, inr, arith}
use Rattle.std.specs.Prelude.{Option, Some, None, option_map, Ok, Err}
use Rattle.std.specs.List.{list_all}
use Rattle.std.proofs.lemmas.Bool.{eq-eqb}
use Rattle.std.proofs.lemmas.List.{length-take-le}
use Rattle.sha2.specs.Sha256.{sha256}
use Rattle.acl_outside.specs.Outside.{StoreRead}
use Rattle.acl_outside.specs.declared.read_fault.ReadFault.{ReadFault}
use Rattle.acl_outside.specs.declared.read_fault.ReadFault.TheVariants.{StoreFault, StoreShort}
use Rattle.merkle_chunks.specs.Strings.{leaf_string}
use Rattle.fragment_open.specs.Openings.{Opening, index_of, opening_at}
use Rattle.fragment_open.specs.Hashed.{digest_at, string_at}
use Rattle.fragment_open.specs.CallReads.{ReadsWhole, Told, is_whole}
use Rattle.fragment_open.specs.inside.Climbing.{Climbs, Ends, IsClimbed, IsEnded, IsNotOpened, IsOpened}
use Rattle.fragment_open.proofs.ClashLemmas.{and_true}
use Rattle.fragment_open.proofs.TreeLemmas.{if_true}
use Rattle.fragment_open.proofs.PathLemmas.{mapped}
use Rattle.fragment_open.proofs.ClimbLemmas.{Told-trans, Told-weaker, ends_higher, lacks_higher, lacks_leaf, less-neq, string_at-more, with_more}

-- a statement about numbers and a digest is true of equal ones
pub moved : (P : ℕ → ℕ → ℕ → List ℕ → Type 0) (n' n i' i l' l : ℕ) (d' d : List ℕ) → n' ≡ n → i' ≡ i → l' ≡ l → d' ≡ d → P n' i' l' d' → P n i l d
moved P n' n i' i l' l d' d a b c e h =
    let A : ℕ → Type 0 = λ x. P x i' l' d' in
    let B : ℕ → Type 0 = λ x. P n x l' d' in
    let C : ℕ → Type 0 = λ x. P n i x d' in
    subst (P n i l) e (subst C c (subst B b (subst A a h)))

-- the first read gave these bytes
pub record BeginsWith (bytes : List ℕ) (reads : List StoreRead) : Type 0 where
  pub first : StoreRead
  pub rest : List StoreRead
  pub all : reads ≡ first ∷ rest
  pub given : first.bytes ≡ bytes

-- an opening that reached a level, and the bytes of its fragment
pub record IsUp (n i level : ℕ) (digest bytes : List ℕ) (reads : List StoreRead) : Type 0 where
  pub climbed : IsClimbed n i level digest reads
  pub begins : BeginsWith bytes reads

first_of : List StoreRead → StoreRead → StoreRead
first_of [] r = r
first_of (x ∷ xs) r = x

rest_of : List StoreRead → List StoreRead
rest_of [] = []
rest_of (x ∷ xs) = xs

same_first : (a b : StoreRead) (xs ys : List StoreRead) → a ∷ xs ≡ b ∷ ys → a ≡ b
unfolding first_of
same_first a b xs ys h = ap (λ l. first_of l a) h

same_rest : (a b : StoreRead) (xs ys : List StoreRead) → a ∷ xs ≡ b ∷ ys → xs ≡ ys
unfolding rest_of
same_rest a b xs ys h = ap rest_of h

module _ (n i : ℕ) where
  -- ---- the fragment's own read

  pub leaf_up : (place : ℕ) (into : List ℕ) (u : Unit {0}) (reads : List StoreRead) → place ≡ 64 + 256 * i → length into ≡ 256 → ReadsWhole {T = Unit {0}} (Ok u) place into reads
      → IsUp n i 0 (sha256 (leaf_string i into)) into reads
  unfolding string_at
  leaf_up place into u reads at size h =
      let r : StoreRead = record { at = place; asked = length into; bytes = into } in
      let index : index_of (opening_at r) ≡ i = omega (arith, at) in
      record {
        climbed = record {
          opening = opening_at r;
          asked = record { all = h; leaf = λ j. (at j, size j); siblings = refl };
          all_whole = ap (list_all is_whole) h ∙ and_true (is_whole r) true (eq-eqb (length into) (length into) refl) refl;
          folds = ap (λ (b : Option (List ℕ)). option_map sha256 (option_map (leaf_string (index_of (opening_at r))) b)) (if_true _ (Some into) None (eq-eqb (length into) 256 size))
              ∙ ap (λ (k : ℕ). Some (sha256 (leaf_string k into))) index;
        };
        begins = record { first = r; rest = []; all = h; given = refl };
      }

  pub leaf_fails : (goal place : ℕ) (into : List ℕ) (fault : ReadFault) (reads : List StoreRead) → place ≡ 64 + 256 * i → length into ≡ 256 → ReadsWhole {T = Unit {0}} (Err fault) place into reads → IsNotOpened n i goal fault reads
  leaf_fails goal place into (StoreShort to) reads at size h =
      let r : StoreRead = record { at = place; asked = length into; bytes = take (to - place) into } in
      let len : length (take (to - place) into) ≡ to - place = length-take-le (to - place) into (omega (arith, h.0, h.1)) in (
        record {
          opening = opening_at r;
          level = 0;
          low = omega arith;
          asked = record { all = h.2; leaf = λ j. (at j, size j); siblings = refl };
          lacks = lacks_higher n (opening_at r) 0 goal (omega arith) (lacks_leaf n (opening_at r) (less-neq (length (take (to - place) into)) 256 (omega (arith, len, size, h.0, h.1))));
        },
        record { before = []; last = r; all = h.2; whole = refl; short = omega (arith, len, h.0, h.1); place = omega (arith, len, h.1) },
      )
  leaf_fails goal place into StoreFault reads at size h = inl h
  leaf_fails goal place into _ reads at size h = absurd h

  -- ---- after it

  pub up_more : (l m : ℕ) (d e bytes : List ℕ) (t u : List StoreRead) → IsUp n i l d bytes t → Climbs n i l d m e u → IsUp n i m e bytes (t ++ u)
  up_more l m d e bytes t u h more = record {
    climbed = more t h.climbed;
    begins = record { first = h.begins.first; rest = h.begins.rest ++ u; all = ap (λ (s : List StoreRead). s ++ u) h.begins.all; given = h.begins.given };
  }

  not_opened : (goal : ℕ) (fault : ReadFault) (reads : List StoreRead) → IsEnded n i goal fault reads → IsNotOpened n i goal fault reads
  not_opened goal (StoreShort to) reads h = h
  not_opened goal StoreFault reads h = inr h
  not_opened goal _ reads h = absurd h

  pub up_fails : (l low goal : ℕ) (d bytes : List ℕ) (fault : ReadFault) (t u : List StoreRead) → low ≤ goal → IsUp n i l d bytes t → Ends n i l d low fault u → IsNotOpened n i goal fault (t ++ u)
  up_fails l low goal d bytes fault t u le h ends = not_opened goal fault (t ++ u) (ends_higher n i low goal fault (t ++ u) le (ends t h.climbed))

  -- at the goal, after the chunk's level
  pub up_opened : (low goal : ℕ) (chunk digest bytes : List ℕ) (t u : List StoreRead) → (4 ≤ goal → low ≡ 4) → IsUp n i low chunk bytes t → Climbs n i low chunk goal digest u → IsOpened n i goal bytes chunk digest (t ++ u)
  up_opened low goal chunk digest bytes t u level h more =
      let end : IsUp n i goal digest bytes (t ++ u) = up_more low goal chunk digest bytes t u h more in
      let o : Opening = h.climbed.opening in
      let p : Opening = end.climbed.opening in
      let reads : p.leaf ∷ p.siblings ≡ o.leaf ∷ (o.siblings ++ u) = sym end.climbed.asked.all ∙ ap (λ (s : List StoreRead). s ++ u) h.climbed.asked.all in
      let leaf : p.leaf ≡ o.leaf = same_first p.leaf o.leaf p.siblings (o.siblings ++ u) reads in
      let siblings : p.siblings ≡ o.siblings ++ u = same_rest p.leaf o.leaf p.siblings (o.siblings ++ u) reads in
      let same : p ≡ with_more o u = λ j. record { leaf = leaf j; siblings = siblings j } in
      let first : p.leaf ≡ end.begins.first = same_first p.leaf end.begins.first p.siblings end.begins.rest (sym end.climbed.asked.all ∙ end.begins.all) in
      record {
        opening = p;
        asked = end.climbed.asked;
        bytes = ap (λ (r : StoreRead). r.bytes) first ∙ end.begins.given;
        all_whole = end.climbed.all_whole;
        folds = end.climbed.folds;
        folds_chunk = λ high.
            let x = mapped sha256 (string_at sha256 n o low) chunk h.climbed.folds in
            let there : string_at sha256 n (with_more o u) low ≡ Some x.0 = string_at-more n o u low x.0 x.1 in
            ap (λ (q : Opening). digest_at sha256 n q 4) same
            ∙ ap (λ (k : ℕ). digest_at sha256 n (with_more o u) k) (sym (level high))
            ∙ ap (option_map sha256) there ∙ ap (λ (y : List ℕ). Some y) x.2;
      }

-- ---- in the form of the code's contracts

module _ (n i : ℕ) (a b c : Option (List StoreRead)) (place : ℕ) (into : List ℕ) (u : Unit {0}) (at : place ≡ 64 + 256 * i) (size : length into ≡ 256) where
  pub told_leaf_fails : (goal : ℕ) (fault : ReadFault) → Told a b (ReadsWhole {T = Unit {0}} (Err fault) place into) → Told a b (IsNotOpened n i goal fault)
  told_leaf_fails goal fault h = Told-weaker a b (ReadsWhole {T = Unit {0}} (Err fault) place into) (IsNotOpened n i goal fault) h (λ t. leaf_fails n i goal place into fault t at size)

  pub told_low : (n' i' l' m : ℕ) (d e : List ℕ) → n' ≡ n → i' ≡ i → l' ≡ 0 → d ≡ sha256 (leaf_string i into) → Told a b (ReadsWhole {T = Unit {0}} (Ok u) place into) → Told b c (Climbs n' i' l' d m e)
      → Told a c (IsUp n i m e into)
  told_low n' i' l' m d e same_n same_i same_l same_d first more =
      Told-trans a b c (ReadsWhole {T = Unit {0}} (Ok u) place into) (Climbs n i 0 (sha256 (leaf_string i into)) m e) (IsUp n i m e into) first
      (moved (λ n i l d. Told b c (Climbs n i l d m e)) n' n i' i l' 0 d (sha256 (leaf_string i into)) same_n same_i same_l same_d more)
      (λ t v h k. up_more n i 0 m (sha256 (leaf_string i into)) e into t v (leaf_up n i place into u t at size h) k)

  pub told_low_fails : (n' i' l' low goal : ℕ) (d : List ℕ) (fault : ReadFault) → n' ≡ n → i' ≡ i → l' ≡ 0 → d ≡ sha256 (leaf_string i into) → low ≤ goal → Told a b (ReadsWhole {T = Unit {0}} (Ok u) place into) → Told b c (Ends n' i' l' d low fault)
      → Told a c (IsNotOpened n i goal fault)
  told_low_fails n' i' l' low goal d fault same_n same_i same_l same_d le first more =
      Told-trans a b c (ReadsWhole {T = Unit {0}} (Ok u) place into) (Ends n i 0 (sha256 (leaf_string i into)) low fault) (IsNotOpened n i goal fault) first
      (moved (λ n i l d. Told b c (Ends n i l d low fault)) n' n i' i l' 0 d (sha256 (leaf_string i into)) same_n same_i same_l same_d more)
      (λ t v h k. up_fails n i 0 low goal (sha256 (leaf_string i into)) into fault t v le (leaf_up n i place into u t at size h) k)

module _ (n i : ℕ) (a b c : Option (List StoreRead)) (low : ℕ) (chunk bytes : List ℕ) (first : Told a b (IsUp n i low chunk bytes)) where
  pub told_end_fails : (n' i' l' goal : ℕ) (fault : ReadFault) → n' ≡ n → i' ≡ i → l' ≡ low → Told b c (Ends n' i' l' chunk goal fault) → Told a c (IsNotOpened n i goal fault)
  told_end_fails n' i' l' goal fault same_n same_i same_l more =
      Told-trans a b c (IsUp n i low chunk bytes) (Ends n i low chunk goal fault) (IsNotOpened n i goal fault) first
      (moved (λ n i l d. Told b c (Ends n i l d goal fault)) n' n i' i l' low chunk chunk same_n same_i same_l refl more)
      (λ t v h k. up_fails n i low goal goal chunk bytes fault t v (omega arith) h k)

  pub told_opened : (n' i' l' goal : ℕ) (digest : List ℕ) → n' ≡ n → i' ≡ i → l' ≡ low → (4 ≤ goal → low ≡ 4) → Told b c (Climbs n' i' l' chunk goal digest) → Told a c (IsOpened n i goal bytes chunk digest)
  told_opened n' i' l' goal digest same_n same_i same_l level more =
      Told-trans a b c (IsUp n i low chunk bytes) (Climbs n i low chunk goal digest) (IsOpened n i goal bytes chunk digest) first
      (moved (λ n i l d. Told b c (Climbs n i l d goal digest)) n' n i' i l' low chunk chunk same_n same_i same_l refl more)
      (λ t v h k. up_opened n i low goal chunk digest bytes t v level h k)
