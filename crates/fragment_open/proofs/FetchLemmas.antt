-- What an opener's reads show after one more opening.
use Rattle.std.proofs.Common.{◌≡◌, ◌≢◌, ℕ, zero, suc, ◌/◌, ◌<◌, ◌≤◌, Bool, true, false, ◌&&◌, ◌||◌, List, [], ◌∷◌, ◌++◌, length, take, map, get_or, refl, sym, ap, ◌∙◌, subst, ◌⊎◌, inl, inr, arith, append_assoc, append-nil, true≢false}
use Rattle.std.specs.Prelude.{Result, Ok, Err, MatchResult, IfOk, Option, Some, None, nat_eq, nat_lt, if◌then◌else◌, is_some}
use Rattle.std.specs.List.{list_all}
use Rattle.std.specs.Option.{option_map_or}
use Rattle.std.proofs.lemmas.Bool.{eqb-true, lt-ltb, ltb-true}
use Rattle.std.proofs.lemmas.Bool.Decides.{leb_tells}
use Rattle.std.proofs.lemmas.List.{take_at}
use Rattle.sha2.specs.Sha256.{sha256}
use Rattle.acl_model.specs.Document.{is_document}
use Rattle.acl_model.specs.Stream.{plain}
use Rattle.acl_model.specs.declared.document.Doc.{Doc}
use Rattle.aes_block.specs.Aes.{AreBytes}
use Rattle.acl_outside.specs.Outside.{StoreRead}
use Rattle.acl_outside.specs.declared.read_fault.ReadFault.{ReadFault}
use Rattle.acl_outside.specs.declared.read_fault.ReadFault.TheVariants.{BadFragment, StoreFault, StoreShort}
use Rattle.merkle_chunks.specs.HeaderBytes.{IsInRange, fragment_count}
use Rattle.merkle_chunks.specs.File.{cipher_fragments, file_root}
use Rattle.merkle_chunks.specs.Table.{fragments, top_level}
use Rattle.merkle_chunks.specs.declared.header.Header.{Header}
use Rattle.merkle_chunks.proofs.CountLemmas.{top_level-is}
use Rattle.merkle_chunks.proofs.StreamBytes.{fragment_unlocks}
use Rattle.position_cipher.specs.Fragments.{unlocked_fragment}
use Rattle.fragment_open.specs.declared.kept.Kept.{Kept}
use Rattle.fragment_open.specs.Openings.{Opening, index_of, indexes, openings}
use Rattle.fragment_open.specs.Plain.{newest_plain, plain_of}
use Rattle.fragment_open.specs.Asks.{ask_of, goal_level, index_at, leaf_ask, same_chunk, sibling_ask, sibling_asks, to_chunk}
use Rattle.fragment_open.specs.Served.{IsRegular, asks_by, fragments_served, header_served, top_served}
use Rattle.fragment_open.specs.Hashed.{chunk_digest, digest_at, folded, folded_in, wanted, wanted_in}
use Rattle.fragment_open.specs.Good.{AllFoldAsWanted}
use Rattle.fragment_open.specs.CallReads.{Told, is_whole}
use Rattle.fragment_open.specs.inside.Climbing.{IsAsked, IsNotOpened, IsOpened}
use Rattle.fragment_open.specs.Held.{IsOpenedHeld, IsStoreFault, digest_held}
use Rattle.fragment_open.specs.Starting.{HoldsDocument, IsHead, IsHeadFault, IsHeadOf, IsNotStarted, IsStarted}
use Rattle.fragment_open.specs.Settled.{AreHeld, FoldAsWanted, IsFetchCause, IsFetched, IsKept, IsKeptOf, IsSettled, Settled, goes_to_chunk, root_by, since, want_by}
use Rattle.fragment_open.proofs.ClashLemmas.{and_true, both_true}
use Rattle.fragment_open.proofs.TreeLemmas.{if_true, if_false, index_at-chunk, index_at-lt}
use Rattle.fragment_open.proofs.KeyLemmas.{either, goal_level-least}
use Rattle.fragment_open.proofs.DocumentLemmas.{fragment_is}
use Rattle.fragment_open.proofs.ClimbLemmas.{all_whole-append, and_false, asked-index, cut-after, length-map_ask, map_ask-append}
use Rattle.fragment_open.proofs.StartLemmas.{no_openings}
use Rattle.fragment_open.proofs.SinceLemmas.{since-start, header_served-more, openings-more, top_served-more, two_reads}

-- ---- the aim

pub goes-is : (n i : ℕ) (kept : Option Kept) (os : List Opening) → IsKept n kept os → goes_to_chunk (top_level n) i kept ≡ to_chunk n i (map index_of os)
goes-is n i None [] is = sym (and_false (nat_lt 4 (top_level n)))
goes-is n i None (o ∷ os) is = absurd is
goes-is n i (Some kept) [] is = absurd is
goes-is n i (Some kept) (o ∷ os) is = ap (λ (k : ℕ). nat_lt 4 (top_level n) && nat_eq (i / 16) k) is.0

pub want-is : (n i : ℕ) (kept : Option Kept) (top : List ℕ) (os : List Opening) → IsKept n kept os
    → (if to_chunk n i (map index_of os) then chunk_digest sha256 n os else Some top) ≡ Some (want_by (top_level n) i kept top)
want-is n i None top [] is = if_false (to_chunk n i []) (chunk_digest sha256 n []) (Some top) (and_false (nat_lt 4 (top_level n)))
want-is n i None top (o ∷ os) is = absurd is
want-is n i (Some kept) top [] is = absurd is
want-is n i (Some kept) top (o ∷ os) is =
    let same = goes-is n i (Some kept) (o ∷ os) is in
    elim (either (to_chunk n i (map index_of (o ∷ os)))) [
      | inl e ↦
          let high : 4 < top_level n = ltb-true 4 (top_level n) (both_true (nat_lt 4 (top_level n)) (same_chunk i (map index_of (o ∷ os))) e).0 in
          if_true _ (chunk_digest sha256 n (o ∷ os)) (Some top) e ∙ is.1 high ∙ ap (λ (d : List ℕ). Some d) (sym (if_true _ kept.digest top (same ∙ e)))
      | inr e ↦ if_false _ (chunk_digest sha256 n (o ∷ os)) (Some top) e ∙ ap (λ (d : List ℕ). Some d) (sym (if_false _ kept.digest top (same ∙ e)))
    ]

-- ---- regular reads

take_whole : (asks : List (ℕ × ℕ)) (n : ℕ) → n ≡ length asks → take n asks ≡ asks
take_whole asks n same = ap (take n) (sym (append-nil asks)) ∙ take_at asks [] n (sym same)

good-within : (n : ℕ) (top : List ℕ) (os : List Opening) → AllFoldAsWanted sha256 n top os → list_all (λ index. nat_lt index n) (map index_of os) ≡ true
good-within n top [] good = refl
good-within n top (o ∷ os) good = and_true (nat_lt (index_of o) n) (list_all (λ index. nat_lt index n) (map index_of os)) (lt-ltb (index_of o) n good.0) (good-within n top os good.3)

pub count_served : (h : Header) (s : List StoreRead) → header_served s ≡ Some h → fragments_served s ≡ fragment_count h
count_served h s found = ap (λ (o : Option Header). option_map_or fragment_count o 0) found

pub settled-regular : (h : Header) (top : List ℕ) (kept : Option Kept) (s : List StoreRead) → IsSettled h top kept s → IsRegular s
settled-regular h top kept s is = record {
  follows = is.asked
      ∙ sym (take_whole (asks_by (Some h) (indexes s)) (length s) (sym (length-map_ask s) ∙ ap length is.asked))
      ∙ ap (λ (o : Option Header). take (length s) (asks_by o (indexes s))) (sym is.header_is);
  within = ap (λ (n : ℕ). list_all (λ index. nat_lt index n) (indexes s)) (count_served h s is.header_is) ∙ good-within (fragment_count h) top (openings s) is.good;
}

-- without an opening, or after good ones, the reads show no refusal
pub unrefused_without : (reads : List StoreRead) → folded sha256 reads ≡ None → FoldAsWanted reads
unrefused_without reads none made folds = absurd (true≢false (sym (ap is_some (sym none ∙ folds))))

-- after good openings the newest folds to the wanted digest
pub good-unrefused : (h : Header) (top : List ℕ) (s : List StoreRead) → header_served s ≡ Some h → top_served s ≡ Some top → AllFoldAsWanted sha256 (fragment_count h) top (openings s) → FoldAsWanted s
unfolding folded wanted
good-unrefused h top s header_is top_is are_good made folds =
    let n : ℕ = fragment_count h in
    let count : fragments_served s ≡ n = count_served h s header_is in
    (λ j. wanted_in sha256 (count j) (top_is j) (openings s)) ∙ by (openings s) are_good (ap (λ (m : ℕ). folded_in sha256 m (openings s)) (sym count) ∙ folds)
  where
    by : (os : List Opening) → AllFoldAsWanted sha256 (fragment_count h) top os → folded_in sha256 (fragment_count h) os ≡ Some made → wanted_in sha256 (fragment_count h) (Some top) os ≡ Some made
    by [] good there = absurd (true≢false (sym (ap is_some there)))
    by (o ∷ os) good there = sym good.2 ∙ there

pub settled-unrefused : (h : Header) (top : List ℕ) (kept : Option Kept) (s : List StoreRead) → IsSettled h top kept s → FoldAsWanted s
settled-unrefused h top kept s is = good-unrefused h top s is.header_is is.top_is is.good

pub sibling_asks-prefix : (n i low high : ℕ) → low ≤ high → (rest : List (ℕ × ℕ)) × (sibling_asks n i high ≡ sibling_asks n i low ++ rest)
sibling_asks-prefix n i low zero le = let same : low ≡ 0 = omega arith in ([], ap (sibling_asks n i) (sym same) ∙ sym (append-nil (sibling_asks n i low)))
sibling_asks-prefix n i low (suc high) le =
    elim (leb_tells low high) [
      | inl p ↦
          let rest = sibling_asks-prefix n i low high p.1 in
          (rest.0 ++ sibling_ask n i high, ap (λ (l : List (ℕ × ℕ)). l ++ sibling_ask n i high) rest.1 ∙ append_assoc (sibling_asks n i low) rest.0 (sibling_ask n i high))
      | inr p ↦ let same : low ≡ suc high = omega (arith, p.1, le) in ([], ap (sibling_asks n i) (sym same) ∙ sym (append-nil (sibling_asks n i low)))
    ]

module _ (h : Header) (top : List ℕ) (kept : Option Kept) (s : List StoreRead) (is : IsSettled h top kept s) (i : ℕ) (lt : i < fragment_count h) where
  n : ℕ
  n = fragment_count h

  two : 2 ≤ length s
  two = two_reads s top is.top_is

  pub header_more : (t : List StoreRead) → header_served (s ++ t) ≡ Some h
  header_more t = header_served-more s t h is.header_is

  module _ (l : ℕ) (o : Opening) (t : List StoreRead) (a : IsAsked (fragment_count h) i l o t) where
    pub index : index_of o ≡ i
    index = asked-index (fragment_count h) i l o t a

    pub opened : openings (s ++ t) ≡ o ∷ openings s
    opened = openings-more (fragment_count h) i l o s t two a

    pub indexes-more : indexes (s ++ t) ≡ i ∷ indexes s
    indexes-more = ap (map index_of) opened ∙ ap (λ (k : ℕ). k ∷ indexes s) index

    asks-more : map ask_of (s ++ t) ≡ asks_by (Some h) (indexes s) ++ (leaf_ask i ∷ sibling_asks (fragment_count h) i l)
    asks-more = map_ask-append s t ∙ (λ j. is.asked j ++ (ap (map ask_of) a.all ∙ (λ k. a.leaf k ∷ a.siblings k)) j)

    -- the first reads of an opening, after regular reads, are regular
    pub begun-regular : l ≤ goal_level (fragment_count h) i (indexes s) → IsRegular (s ++ t)
    begun-regular low =
        let rest = sibling_asks-prefix (fragment_count h) i l (goal_level (fragment_count h) i (indexes s)) low in
        let prefix : List (ℕ × ℕ) = asks_by (Some h) (indexes s) ++ (leaf_ask i ∷ sibling_asks (fragment_count h) i l) in
        let all : asks_by (Some h) (i ∷ indexes s) ≡ prefix ++ rest.0 =
        ap (λ (r : List (ℕ × ℕ)). asks_by (Some h) (indexes s) ++ (leaf_ask i ∷ r)) rest.1
        ∙ sym (append_assoc (asks_by (Some h) (indexes s)) (leaf_ask i ∷ sibling_asks (fragment_count h) i l) rest.0) in
        let count : length prefix ≡ length (s ++ t) = sym (sym (length-map_ask (s ++ t)) ∙ ap length asks-more) in
        record {
          follows = asks-more ∙ sym (take_at prefix rest.0 (length (s ++ t)) count) ∙ ap (take (length (s ++ t))) (sym all)
              ∙ (λ j. take (length (s ++ t)) (asks_by (sym (header_more t) j) (sym indexes-more j)));
          within = ap (λ (m : ℕ). list_all (λ k. nat_lt k m) (indexes (s ++ t))) (count_served h (s ++ t) (header_more t))
              ∙ ap (list_all (λ k. nat_lt k (fragment_count h))) indexes-more
              ∙ and_true (nat_lt i (fragment_count h)) (list_all (λ k. nat_lt k (fragment_count h)) (indexes s)) (lt-ltb i (fragment_count h) lt) (good-within (fragment_count h) top (openings s) is.good);
        }

    -- where the opening doesn't reach its goal, the reads fold to nothing
    pub folds_none : (goal : ℕ) → goal ≡ goal_level (fragment_count h) i (indexes s) → digest_at sha256 (fragment_count h) o goal ≡ None → folded sha256 (s ++ t) ≡ None
    unfolding folded
    folds_none goal at lacks =
        (λ j. folded_in sha256 (count_served h (s ++ t) (header_more t) j) (opened j))
        ∙ ap (digest_at sha256 (fragment_count h) o) (ap (λ (k : ℕ). goal_level (fragment_count h) k (indexes s)) index ∙ sym at) ∙ lacks

    -- and they show no refusal
    unrefused : (goal : ℕ) → goal ≡ goal_level (fragment_count h) i (indexes s) → digest_at sha256 (fragment_count h) o goal ≡ None → FoldAsWanted (s ++ t)
    unrefused goal at lacks = unrefused_without (s ++ t) (folds_none goal at lacks)

    -- what the newest opening folds to, and the wanted digest
    folded-more : (goal : ℕ) (digest : List ℕ) → goal ≡ goal_level (fragment_count h) i (indexes s) → digest_at sha256 (fragment_count h) o goal ≡ Some digest
        → folded_in sha256 (fragment_count h) (o ∷ openings s) ≡ Some digest
    folded-more goal digest at folds =
        ap (digest_at sha256 (fragment_count h) o) (ap (λ (k : ℕ). goal_level (fragment_count h) k (indexes s)) index ∙ sym at) ∙ folds

    wanted-more : (want : List ℕ) → want ≡ want_by (top_level (fragment_count h)) i kept top → wanted_in sha256 (fragment_count h) (Some top) (o ∷ openings s) ≡ Some want
    wanted-more want by =
        ap (λ (k : ℕ). if to_chunk (fragment_count h) k (indexes s) then chunk_digest sha256 (fragment_count h) (openings s) else Some top) index
        ∙ want-is (fragment_count h) i kept top (openings s) is.kept_is ∙ ap (λ (d : List ℕ). Some d) (sym by)

    pub folded_reads : (goal : ℕ) (digest : List ℕ) → goal ≡ goal_level (fragment_count h) i (indexes s) → digest_at sha256 (fragment_count h) o goal ≡ Some digest → folded sha256 (s ++ t) ≡ Some digest
    unfolding folded
    folded_reads goal digest at folds = (λ j. folded_in sha256 (count_served h (s ++ t) (header_more t) j) (opened j)) ∙ folded-more goal digest at folds

    pub wanted_reads : (want : List ℕ) → want ≡ want_by (top_level (fragment_count h)) i kept top → wanted sha256 (s ++ t) ≡ Some want
    unfolding wanted
    wanted_reads want by = (λ j. wanted_in sha256 (count_served h (s ++ t) (header_more t) j) (top_served-more s t top is.top_is j) (opened j)) ∙ wanted-more want by

  pub goal_is : (goal : ℕ) → goal ≡ (if goes_to_chunk (top_level (fragment_count h)) i kept then 4 else top_level (fragment_count h)) → goal ≡ goal_level (fragment_count h) i (indexes s)
  goal_is goal by = by ∙ ap (λ (v : Bool). if v then 4 else top_level (fragment_count h)) (goes-is (fragment_count h) i kept (openings s) is.kept_is)

  -- ---- a good opening

  module _ (goal : ℕ) (cipher chunk digest want : List ℕ) (t : List StoreRead) (o : IsOpened (fragment_count h) i goal cipher chunk digest t)
      (aim : goal ≡ (if goes_to_chunk (top_level (fragment_count h)) i kept then 4 else top_level (fragment_count h)))
      (by : want ≡ want_by (top_level (fragment_count h)) i kept top) where
    at : goal ≡ goal_level (fragment_count h) i (indexes s)
    at = goal_is goal aim

    pub settled-more : digest ≡ want → IsSettled h top (Some (record { chunk = i / 16; digest = chunk })) (s ++ t)
    settled-more same =
        let idx = index goal o.opening t o.asked in
        let open_is = opened goal o.opening t o.asked in
        let folds = folded-more goal o.opening t o.asked goal digest at o.folds in
        let want_is = wanted-more goal o.opening t o.asked want by in
        let P : List Opening → Type 0 = λ os. AllFoldAsWanted sha256 (fragment_count h) top os in
        let Q : List Opening → Type 0 = λ os. IsKept (fragment_count h) (Some (record { chunk = i / 16; digest = chunk })) os in
        record {
          header_is = header_more t;
          top_is = top_served-more s t top is.top_is;
          asked = asks-more goal o.opening t o.asked
              ∙ ap (λ (g : ℕ). asks_by (Some h) (indexes s) ++ (leaf_ask i ∷ sibling_asks (fragment_count h) i g)) at
              ∙ ap (asks_by (Some h)) (sym (indexes-more goal o.opening t o.asked));
          all_whole = all_whole-append s t is.all_whole o.all_whole;
          good = subst P (sym open_is) (omega (arith, idx, lt), ap is_some folds, folds ∙ ap (λ (d : List ℕ). Some d) same ∙ sym want_is, is.good);
          kept_is = subst Q (sym open_is) (
            ap (λ (k : ℕ). k / 16) (sym idx),
            λ high. o.folds_chunk (omega (arith, at, goal_level-least (fragment_count h) i (indexes s) high)),
          );
        }

    pub bad_fragment : (refused : ℕ) → refused ≡ i → (want ≢ digest) → IsRegular (s ++ t) × IsFetchCause i (BadFragment refused want digest) (s ++ t)
    bad_fragment refused same differ = (
      begun-regular goal o.opening t o.asked (omega (arith, at)),
      (same, all_whole-append s t is.all_whole o.all_whole, (indexes s, indexes-more goal o.opening t o.asked), folded_reads goal o.opening t o.asked goal digest at o.folds, wanted_reads goal o.opening t o.asked want by, differ),
    )

  -- ---- an opening that ended by a fault of the store

  pub not_opened-ends : (goal : ℕ) (fault : ReadFault) (t : List StoreRead) → goal ≡ (if goes_to_chunk (top_level (fragment_count h)) i kept then 4 else top_level (fragment_count h))
      → IsNotOpened (fragment_count h) i goal fault t → IsRegular (s ++ t) × IsFetchCause i fault (s ++ t)
  not_opened-ends goal (StoreShort to) t aim f = (
    begun-regular f.0.level f.0.opening t f.0.asked (omega (arith, f.0.low, goal_is goal aim)),
    (cut-after to s t is.all_whole f.1, unrefused f.0.level f.0.opening t f.0.asked goal (goal_is goal aim) f.0.lacks),
  )
  not_opened-ends goal StoreFault t aim (inl none) =
      let same : s ++ t ≡ s = ap (λ (l : List StoreRead). s ++ l) none ∙ append-nil s in
      (subst IsRegular (sym same) (settled-regular h top kept s is), (ap (list_all is_whole) same ∙ is.all_whole, subst FoldAsWanted (sym same) (settled-unrefused h top kept s is)))
  not_opened-ends goal StoreFault t aim (inr f) = (
    begun-regular f.0.level f.0.opening t f.0.asked (omega (arith, f.0.low, goal_is goal aim)),
    (all_whole-append s t is.all_whole f.1, unrefused f.0.level f.0.opening t f.0.asked goal (goal_is goal aim) f.0.lacks),
  )
  not_opened-ends goal _ t aim f = absurd f

  -- it opened the fragment, or none
  pub not_opened-opens : (goal : ℕ) (fault : ReadFault) (t : List StoreRead) → IsNotOpened (fragment_count h) i goal fault t → (indexes (s ++ t) ≡ i ∷ indexes s) ⊎ (indexes (s ++ t) ≡ indexes s)
  not_opened-opens goal (StoreShort to) t f = inl (indexes-more f.0.level f.0.opening t f.0.asked)
  not_opened-opens goal StoreFault t (inl none) = inr (ap indexes (ap (λ (l : List StoreRead). s ++ l) none ∙ append-nil s))
  not_opened-opens goal StoreFault t (inr f) = inl (indexes-more f.0.level f.0.opening t f.0.asked)
  not_opened-opens goal _ t f = absurd f

-- ---- the reads of a start are settled

pub started-settled : (h : Header) (top : List ℕ) (t : List StoreRead) → IsStarted h top t → IsSettled h top None t
started-settled h top t s =
    let two : length t ≡ 2 = sym (length-map_ask t) ∙ ap length s.asked in
    let none : openings t ≡ [] = no_openings t (omega (arith, two)) in
    let P : List Opening → Type 0 = λ os. AllFoldAsWanted sha256 (fragment_count h) top os in
    let Q : List Opening → Type 0 = λ os. IsKept (fragment_count h) None os in
    record {
      header_is = s.header_is;
      top_is = s.top_is;
      asked = s.asked ∙ ap (λ (os : List Opening). asks_by (Some h) (map index_of os)) (sym none);
      all_whole = s.all_whole;
      good = subst P (sym none) tt;
      kept_is = subst Q (sym none) tt;
    }

start_since : (h : Header) (top : List ℕ) (a t : List StoreRead) → IsStarted h top t → since (a ++ t) ≡ t
start_since h top a [] s = absurd (omega (arith, ap length s.asked))
start_since h top a (r ∷ []) s = absurd (omega (arith, ap length s.asked))
start_since h top a (r ∷ q ∷ []) s =
    since-start a r (q ∷ [])
    (ap (λ (l : List (ℕ × ℕ)). nat_eq (first_asked l) 64) s.asked)
    (ap (λ (l : List (ℕ × ℕ)). nat_eq (second_asked l) 64 || false) s.asked)
  where
    first_asked : List (ℕ × ℕ) → ℕ
    first_asked [] = 0
    first_asked (a ∷ l) = a.1

    second_asked : List (ℕ × ℕ) → ℕ
    second_asked [] = 0
    second_asked (a ∷ []) = 0
    second_asked (a ∷ b ∷ l) = b.1
start_since h top a (r ∷ q ∷ p ∷ t) s = absurd (omega (arith, ap length s.asked))

pub told-settled : (h : Header) (top : List ℕ) (a b : Option (List StoreRead)) → Told a b (IsStarted h top) → Settled b h top None None
told-settled h top None None s = tt
told-settled h top None (Some b) s = absurd s
told-settled h top (Some a) None s = absurd s
told-settled h top (Some a) (Some b) s =
    let same : since b ≡ s.0 = ap since s.1 ∙ start_since h top a s.0 s.2 in
    subst (IsSettled h top None) (sym same) (started-settled h top s.0 s.2)

pub settled_started : {T : Type 0} (result : Result T ReadFault) (header_of : T → Header) (top_of : T → List ℕ) (root key : List ℕ) (a b : Option (List StoreRead))
    → Told a b (λ reads. MatchResult result (λ head. IsStarted (header_of head) (top_of head) reads) (λ fault. IsNotStarted root key fault reads))
    → IfOk result (λ head. Settled b (header_of head) (top_of head) None None)
settled_started (Ok head) header_of top_of root key a b s = told-settled (header_of head) (top_of head) a b s
settled_started (Err fault) header_of top_of root key a b s = tt

pub held_settled : {T : Type 0} (result : Result T ReadFault) (header_of : T → Header) (top_of key_of : T → List ℕ) (root key : List ℕ) (h : Header) (top : List ℕ) (held later : Option (List ℕ)) → later ≡ held
    → MatchResult result (λ head. IsHead root key h top (header_of head) (top_of head) (key_of head) (root_by h top)) (λ fault. IsHeadFault root key h.check (root_by h top) fault)
    → ((d : Doc) → HoldsDocument held d key → file_root d key ≡ root → MatchResult result (λ head. IsHeadOf d key (header_of head) (top_of head)) (λ fault. IsStoreFault fault))
    → IfOk result (λ head. AreHeld later (header_of head) (top_of head) (key_of head) None)
held_settled (Ok head) header_of top_of key_of root key h top held later same is gives = λ d holds has.
    let P : List ℕ → Type 0 = λ k. HoldsDocument held d k in
    let Q : List ℕ → Type 0 = λ k. IsHeadOf d k (header_of head) (top_of head) in
    let here : HoldsDocument held d (key_of head) = record { holds = sym same ∙ holds.holds; document = holds.document; stream = holds.stream; key_bytes = holds.key_bytes } in
    let root_same : file_root d key ≡ root = ap (file_root d) (sym is.key_is) ∙ has ∙ (λ i. root_by (is.header_is i) (is.top_is i)) ∙ is.root_is in
    (subst Q (sym is.key_is) (gives d (subst P is.key_is here) root_same), tt)
held_settled (Err fault) header_of top_of key_of root key h top held later same is gives = tt

-- ---- after a refusal nothing is claimed of the reads

pub settled-refused : (served : Option (List StoreRead)) (h : Header) (top : List ℕ) (kept : Option Kept) (fault : ReadFault) → Settled served h top kept (Some fault)
settled-refused None h top kept fault = tt
settled-refused (Some all) h top kept fault = tt

-- ---- a fragment that was opened

module _ (h : Header) (top : List ℕ) (kept : Option Kept) (s : List StoreRead) (is : IsSettled h top kept s) (i : ℕ) (lt : i < fragment_count h)
    (goal : ℕ) (cipher chunk digest want : List ℕ) (t : List StoreRead) (o : IsOpened (fragment_count h) i goal cipher chunk digest t)
    (aim : goal ≡ (if goes_to_chunk (top_level (fragment_count h)) i kept then 4 else top_level (fragment_count h)))
    (by : want ≡ want_by (top_level (fragment_count h)) i kept top) (same : digest ≡ want) where
  -- the bytes are the plain ones of the opening
  pub plain_is : (key into : List ℕ) → into ≡ unlocked_fragment key i cipher → plain_of key o.opening ≡ into
  plain_is key into unlocked = (λ j. unlocked_fragment key (index h top kept s is i lt goal o.opening t o.asked j) (o.bytes j)) ∙ sym unlocked

  pub fetched : (key into : List ℕ) → AreBytes 16 key → IsInRange h → into ≡ unlocked_fragment key i cipher → IsFetched i h top key into (s ++ t)
  fetched key into key_bytes range unlocked =
      let settled = settled-more h top kept s is i lt goal cipher chunk digest want t o aim by same in
      let at = goal_is h top kept s is i lt goal aim in
      let folds = folded_reads h top kept s is i lt goal o.opening t o.asked goal digest at o.folds in
      record {
        regular = settled-regular h top (Some (record { chunk = i / 16; digest = chunk })) (s ++ t) settled;
        all_whole = settled.all_whole;
        newest = (indexes s, indexes-more h top kept s is i lt goal o.opening t o.asked);
        folds = folds ∙ ap (λ (d : List ℕ). Some d) same ∙ sym (wanted_reads h top kept s is i lt goal o.opening t o.asked want by);
        there = ap is_some folds;
        plain_is = ap (newest_plain key) (opened h top kept s is i lt goal o.opening t o.asked)
            ∙ ap (λ (l : List ℕ). Some l) (plain_is key into unlocked);
        gives = λ d document has none.
            fragment_is d key h top (s ++ t) document key_bytes range settled.header_is settled.top_is has none i o.opening (openings s) cipher into lt
            (index h top kept s is i lt goal o.opening t o.asked) o.bytes (opened h top kept s is i lt goal o.opening t o.asked) settled.good unlocked;
      }

-- ---- what a store that holds the file gives

module _ (d : Doc) (key : List ℕ) (h : Header) (top : List ℕ) (kept : Option Kept) (head : IsHeadOf d key h top) (keeps : IsKeptOf d key (top_level (fragment_count h)) kept) (i : ℕ) (lt : i < fragment_count h) where
  at_top : index_at i (top_level (fragment_count h)) ≡ 0
  at_top = omega (arith, index_at-lt (fragment_count h) i (top_level (fragment_count h)) lt, (top_level-is (fragment_count h) (omega (arith, lt))).single)

  -- what is wanted is the file's digest at the goal
  pub want_held : (goal : ℕ) → goal ≡ (if goes_to_chunk (top_level (fragment_count h)) i kept then 4 else top_level (fragment_count h)) → want_by (top_level (fragment_count h)) i kept top ≡ digest_held d key goal (index_at i goal)
  want_held goal aim = by_kept kept keeps aim
    where
      to_top : goal ≡ top_level (fragment_count h) → top ≡ digest_held d key goal (index_at i goal)
      to_top end =
          head.top_is ∙ ap (λ (k : ℕ). digest_held d key (top_level (fragment_count h)) k) (sym at_top) ∙ ap (λ (g : ℕ). digest_held d key g (index_at i g)) (sym end)

      by_kept : (k : Option Kept) → IsKeptOf d key (top_level (fragment_count h)) k → goal ≡ (if goes_to_chunk (top_level (fragment_count h)) i k then 4 else top_level (fragment_count h))
          → want_by (top_level (fragment_count h)) i k top ≡ digest_held d key goal (index_at i goal)
      by_kept None keeps end = to_top end
      by_kept (Some k) keeps end =
          elim (either (goes_to_chunk (top_level (fragment_count h)) i (Some k))) [
            | inl e ↦
                let parts = both_true (nat_lt 4 (top_level (fragment_count h))) (nat_eq (i / 16) k.chunk) e in
                let chunk : k.chunk ≡ index_at i 4 = sym (eqb-true (i / 16) k.chunk parts.1) ∙ sym (index_at-chunk i) in
                if_true _ k.digest top e ∙ keeps (ltb-true 4 (top_level (fragment_count h)) parts.0) ∙ ap (λ (j : ℕ). digest_held d key 4 j) chunk
                ∙ ap (λ (g : ℕ). digest_held d key g (index_at i g)) (sym (end ∙ if_true _ 4 (top_level (fragment_count h)) e))
            | inr e ↦ if_false _ k.digest top e ∙ to_top (end ∙ if_false _ 4 (top_level (fragment_count h)) e)
          ]

  -- so is what is kept
  pub kept_held : (goal : ℕ) (cipher chunk digest : List ℕ) → goal ≡ (if goes_to_chunk (top_level (fragment_count h)) i kept then 4 else top_level (fragment_count h)) → IsOpenedHeld d key i goal cipher chunk digest
      → IsKeptOf d key (top_level (fragment_count h)) (Some (record { chunk = i / 16; digest = chunk }))
  kept_held goal cipher chunk digest aim o = λ high.
      let far : 4 ≤ goal = elim (either (goes_to_chunk (top_level (fragment_count h)) i kept)) [
        | inl e ↦ omega (arith, aim ∙ if_true _ 4 (top_level (fragment_count h)) e)
        | inr e ↦ omega (arith, aim ∙ if_false _ 4 (top_level (fragment_count h)) e, high)
      ] in
      o.folds_chunk far ∙ ap (λ (j : ℕ). digest_held d key 4 j) (index_at-chunk i)

  -- and the bytes are the document's fragment
  pub bytes_held : (goal : ℕ) (cipher chunk digest into : List ℕ) → is_document d ≡ true → AreBytes 16 key → length (cipher_fragments d key) ≡ fragment_count h → IsOpenedHeld d key i goal cipher chunk digest → into ≡ unlocked_fragment key i cipher
      → into ≡ get_or (fragments (plain d)) i []
  bytes_held goal cipher chunk digest into document key_bytes count o unlocked =
      unlocked ∙ ap (unlocked_fragment key i) o.bytes ∙ fragment_unlocks d key i document key_bytes (omega (arith, lt, count))
