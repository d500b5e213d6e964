-- Openings were checked one by one, and the bytes given are those of the reads.
use Rattle.std.proofs.Common.{◌≡◌, ℕ, ◌/◌, ◌<◌, Bool, true, false, List, [], ◌∷◌, ◌++◌, drop, refl, sym, ap, ◌∙◌, subst, ◌⊎◌, inl, inr, append-nil, true≢false}
use Rattle.std.specs.Prelude.{Option, Some, None, IfSome, Result, Ok, Err, if◌then◌else◌}
use Rattle.sha2.specs.Sha256.{sha256}
use Rattle.acl_outside.specs.Outside.{StoreRead}
use Rattle.acl_outside.specs.declared.read_fault.ReadFault.{ReadFault}
use Rattle.acl_outside.specs.declared.read_fault.ReadFault.TheVariants.{StoreFault, StoreShort}
use Rattle.merkle_chunks.specs.HeaderBytes.{fragment_count}
use Rattle.merkle_chunks.specs.Table.{top_level}
use Rattle.merkle_chunks.specs.declared.header.Header.{Header}
use Rattle.position_cipher.specs.Fragments.{unlocked_fragment}
use Rattle.fragment_open.specs.declared.kept.Kept.{Kept}
use Rattle.fragment_open.specs.CallReads.{Told}
use Rattle.fragment_open.specs.Openings.{Opening, indexes, openings}
use Rattle.fragment_open.specs.Plain.{plain_in, plain_of, plain_served}
use Rattle.fragment_open.specs.Served.{fragments_served, header_served, top_served}
use Rattle.fragment_open.specs.Hashed.{folded, folded_in}
use Rattle.fragment_open.specs.Good.{AllFoldAsWanted}
use Rattle.fragment_open.specs.inside.Climbing.{IsAsked, IsNotOpened, IsOpened}
use Rattle.fragment_open.specs.Settled.{AddsPlain, FoldAsWanted, IsSettled, CompletesNone, Settled, goes_to_chunk, since, want_by}
use Rattle.fragment_open.specs.Checked.{AllFoldUnlessRefused, refuses_fragment}
use Rattle.fragment_open.proofs.PathLemmas.{same_value}
use Rattle.fragment_open.proofs.FetchLemmas.{count_served, folds_none, goal_is, header_more, not_opened-ends, opened, plain_is, settled-more, settled-unrefused, unrefused_without}
use Rattle.fragment_open.proofs.SinceLemmas.{since-append, top_served-more}
use Rattle.fragment_open.proofs.TellLemmas.{not_opened-no_start, opened-no_start}

-- ---- by a header and a top digest that were served

good_after : (n : ℕ) (top : List ℕ) (os : List Opening) → AllFoldAsWanted sha256 n top os → AllFoldAsWanted sha256 n top (drop 1 os)
good_after n top [] good = good
good_after n top (o ∷ os) good = good.3

module _ (h : Header) (top : List ℕ) (reads : List StoreRead) (header_is : header_served reads ≡ Some h) (top_is : top_served reads ≡ Some top) where
  -- openings before the newest that are good under what was served are good
  checked_by : (refused : Bool) → AllFoldAsWanted sha256 (fragment_count h) top (drop 1 (openings reads)) → (refused ≡ false → FoldAsWanted reads) → AllFoldUnlessRefused refused reads
  checked_by refused good newest = record {
    earlier = λ other found.
        let same : top ≡ other = same_value top other (sym top_is ∙ found) in
        let P : ℕ → Type 0 = λ n. AllFoldAsWanted sha256 n other (drop 1 (openings reads)) in
        let Q : List ℕ → Type 0 = λ d. AllFoldAsWanted sha256 (fragment_count h) d (drop 1 (openings reads)) in
        subst P (sym (count_served h reads header_is)) (subst Q same good);
    newest = newest;
  }

-- reads of an opener that refused none
pub settled-checked : (h : Header) (top : List ℕ) (kept : Option Kept) (s : List StoreRead) (refused : Bool) → IsSettled h top kept s → AllFoldUnlessRefused refused s
settled-checked h top kept s refused is =
    checked_by h top s is.header_is is.top_is refused (good_after (fragment_count h) top (openings s) is.good) (λ e. settled-unrefused h top kept s is)

-- reads that opened no fragment fold to nothing
pub unopened-folds : (reads : List StoreRead) → openings reads ≡ [] → folded sha256 reads ≡ None
unfolding folded
unopened-folds reads none = ap (folded_in sha256 (fragments_served reads)) none

-- and so they were checked
pub unopened-checked : (reads : List StoreRead) (refused : Bool) → openings reads ≡ [] → AllFoldUnlessRefused refused reads
unopened-checked reads refused none = record {
  earlier = λ top found.
      let P : List Opening → Type 0 = λ os. AllFoldAsWanted sha256 (fragments_served reads) top (drop 1 os) in
      subst P (sym none) tt;
  newest = λ e. unrefused_without reads (unopened-folds reads none);
}

-- where no fragment is refused, the reads show no refusal, whatever the answer
pub unrefused-checked : (reads : List StoreRead) (refused : Bool) → AllFoldUnlessRefused false reads → AllFoldUnlessRefused refused reads
unrefused-checked reads refused checked = record { earlier = checked.earlier; newest = λ e. checked.newest refl }

-- ---- one more opening

module _ (h : Header) (top : List ℕ) (kept : Option Kept) (s : List StoreRead) (is : IsSettled h top kept s) (i : ℕ) (lt : i < fragment_count h) where
  -- the openings before a further one were good
  begun-checked : (l : ℕ) (o : Opening) (t : List StoreRead) → IsAsked (fragment_count h) i l o t → (refused : Bool) → (refused ≡ false → FoldAsWanted (s ++ t)) → AllFoldUnlessRefused refused (s ++ t)
  begun-checked l o t a refused newest =
      let P : List Opening → Type 0 = λ os. AllFoldAsWanted sha256 (fragment_count h) top (drop 1 os) in
      checked_by h top (s ++ t) (header_more h top kept s is i lt t) (top_served-more s t top is.top_is) refused (subst P (sym (opened h top kept s is i lt l o t a)) is.good) newest

  not_opened-checked : (goal : ℕ) (fault : ReadFault) (t : List StoreRead) → goal ≡ (if goes_to_chunk (top_level (fragment_count h)) i kept then 4 else top_level (fragment_count h))
      → IsNotOpened (fragment_count h) i goal fault t → AllFoldUnlessRefused (refuses_fragment fault) (s ++ t)
  not_opened-checked goal (StoreShort to) t aim f =
      begun-checked f.0.level f.0.opening t f.0.asked false (λ e. (not_opened-ends h top kept s is i lt goal (StoreShort to) t aim f).1.1)
  not_opened-checked goal StoreFault t aim (inl none) =
      subst (AllFoldUnlessRefused false) (sym (ap (λ (l : List StoreRead). s ++ l) none ∙ append-nil s)) (settled-checked h top kept s false is)
  not_opened-checked goal StoreFault t aim (inr f) =
      begun-checked f.0.level f.0.opening t f.0.asked false (λ e. (not_opened-ends h top kept s is i lt goal StoreFault t aim (inr f)).1.1)
  not_opened-checked goal _ t aim f = absurd f

  -- where the store failed, no fragment was opened
  not_opened-none : (goal : ℕ) (t : List StoreRead) → goal ≡ (if goes_to_chunk (top_level (fragment_count h)) i kept then 4 else top_level (fragment_count h))
      → IsNotOpened (fragment_count h) i goal StoreFault t → (indexes (s ++ t) ≡ indexes s) ⊎ (folded sha256 (s ++ t) ≡ None)
  not_opened-none goal t aim (inl none) = inl (ap indexes (ap (λ (l : List StoreRead). s ++ l) none ∙ append-nil s))
  not_opened-none goal t aim (inr f) = inr (folds_none h top kept s is i lt f.0.level f.0.opening t f.0.asked goal (goal_is h top kept s is i lt goal aim) f.0.lacks)

  -- a fragment that was opened adds its plain bytes
  plain-more : (l : ℕ) (o : Opening) (t : List StoreRead) → IsAsked (fragment_count h) i l o t → (key into : List ℕ) → plain_of key o ≡ into → plain_served key (s ++ t) ≡ plain_served key s ++ into
  unfolding plain_served
  plain-more l o t a key into same =
      ap (plain_in key) (opened h top kept s is i lt l o t a) ∙ ap (λ (p : List ℕ). plain_in key (openings s) ++ p) same

-- ---- what contracts see of a store

module _ (h : Header) (top : List ℕ) (kept : Option Kept) (a b : Option (List StoreRead)) (is : Settled a h top kept None) (i : ℕ) (lt : i < fragment_count h) (goal : ℕ)
    (aim : goal ≡ (if goes_to_chunk (top_level (fragment_count h)) i kept then 4 else top_level (fragment_count h))) where
  module _ (fault : ReadFault) (told : Told a b (IsNotOpened (fragment_count h) i goal fault)) where
    pub checked-ended : IfSome b (λ all. AllFoldUnlessRefused (refuses_fragment fault) (since all))
    checked-ended = by_told a b is told
      where
        by_told : (x y : Option (List StoreRead)) → Settled x h top kept None → Told x y (IsNotOpened (fragment_count h) i goal fault) → IfSome y (λ all. AllFoldUnlessRefused (refuses_fragment fault) (since all))
        by_told None None s t = tt
        by_told None (Some y) s t = absurd t
        by_told (Some x) None s t = absurd t
        by_told (Some x) (Some y) s t =
            let same : since y ≡ since x ++ t.0 = ap since t.1 ∙ since-append x t.0 (not_opened-no_start (fragment_count h) i goal fault t.0 t.2) in
            subst (AllFoldUnlessRefused (refuses_fragment fault)) (sym same) (not_opened-checked h top kept (since x) s i lt goal fault t.0 aim t.2)

    pub none-ended : ◌≡◌ {A = Result (Unit {0}) ReadFault} (Err fault) (Err StoreFault) → CompletesNone a b
    none-ended failed = by_told a b is (subst P store_failed told)
      where
        P : ReadFault → Type 0
        P f = Told a b (IsNotOpened (fragment_count h) i goal f)

        store_failed : fault ≡ StoreFault
        store_failed = cc

        by_told : (x y : Option (List StoreRead)) → Settled x h top kept None → Told x y (IsNotOpened (fragment_count h) i goal StoreFault) → CompletesNone x y
        by_told None None s t = tt
        by_told None (Some y) s t = absurd t
        by_told (Some x) None s t = absurd t
        by_told (Some x) (Some y) s t =
            let same : since y ≡ since x ++ t.0 = ap since t.1 ∙ since-append x t.0 (not_opened-no_start (fragment_count h) i goal StoreFault t.0 t.2) in
            let Q : List StoreRead → Type 0 = λ r. (indexes r ≡ indexes (since x)) ⊎ (folded sha256 r ≡ None) in
            subst Q (sym same) (not_opened-none h top kept (since x) s i lt goal t.0 aim t.2)

  module _ (cipher chunk digest want : List ℕ) (told : Told a b (IsOpened (fragment_count h) i goal cipher chunk digest)) (by : want ≡ want_by (top_level (fragment_count h)) i kept top) where
    pub checked-bad : IfSome b (λ all. AllFoldUnlessRefused true (since all))
    checked-bad = by_told a b is told
      where
        by_told : (x y : Option (List StoreRead)) → Settled x h top kept None → Told x y (IsOpened (fragment_count h) i goal cipher chunk digest) → IfSome y (λ all. AllFoldUnlessRefused true (since all))
        by_told None None s t = tt
        by_told None (Some y) s t = absurd t
        by_told (Some x) None s t = absurd t
        by_told (Some x) (Some y) s t =
            let same : since y ≡ since x ++ t.0 = ap since t.1 ∙ since-append x t.0 (opened-no_start (fragment_count h) i goal cipher chunk digest t.0 t.2) in
            subst (AllFoldUnlessRefused true) (sym same) (begun-checked h top kept (since x) s i lt goal t.2.opening t.0 t.2.asked true (λ e. absurd (true≢false e)))

    pub checked-fetched : digest ≡ want → IfSome b (λ all. AllFoldUnlessRefused false (since all))
    checked-fetched good = by_told a b is told
      where
        by_told : (x y : Option (List StoreRead)) → Settled x h top kept None → Told x y (IsOpened (fragment_count h) i goal cipher chunk digest) → IfSome y (λ all. AllFoldUnlessRefused false (since all))
        by_told None None s t = tt
        by_told None (Some y) s t = absurd t
        by_told (Some x) None s t = absurd t
        by_told (Some x) (Some y) s t =
            let same : since y ≡ since x ++ t.0 = ap since t.1 ∙ since-append x t.0 (opened-no_start (fragment_count h) i goal cipher chunk digest t.0 t.2) in
            subst (AllFoldUnlessRefused false) (sym same)
            (settled-checked h top (Some (record { chunk = i / 16; digest = chunk })) (since x ++ t.0) false
            (settled-more h top kept (since x) s i lt goal cipher chunk digest want t.0 t.2 aim by good))

    pub plain-fetched : (u : Unit {0}) (key into : List ℕ) → digest ≡ want → into ≡ unlocked_fragment key i cipher → AddsPlain (Ok u) key into a b
    plain-fetched u key into good unlocked = by_told a b is told
      where
        by_told : (x y : Option (List StoreRead)) → Settled x h top kept None → Told x y (IsOpened (fragment_count h) i goal cipher chunk digest) → AddsPlain (Ok u) key into x y
        by_told None None s t = tt
        by_told None (Some y) s t = absurd t
        by_told (Some x) None s t = absurd t
        by_told (Some x) (Some y) s t =
            ap (plain_served key) (ap since t.1 ∙ since-append x t.0 (opened-no_start (fragment_count h) i goal cipher chunk digest t.0 t.2))
            ∙ plain-more h top kept (since x) s i lt goal t.2.opening t.0 t.2.asked key into
            (plain_is h top kept (since x) s i lt goal cipher chunk digest want t.0 t.2 aim by good key into unlocked)
