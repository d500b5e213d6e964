-- What contracts see of a store (what it tells) after one more opening.
use Rattle.std.proofs.Common.{◌≡◌, ◌≢◌, ℕ, ◌/◌, ◌<◌, false, List, ◌∷◌, ◌++◌, ◌⊎◌, sym, ap, ◌∙◌, subst, inl, inr, refl}
use Rattle.std.specs.Prelude.{Option, Some, None, IfSome, Ok, Err, if◌then◌else◌}
use Rattle.std.specs.List.{list_any}
use Rattle.aes_block.specs.Aes.{AreBytes}
use Rattle.acl_outside.specs.Outside.{StoreRead}
use Rattle.acl_outside.specs.declared.read_fault.ReadFault.{ReadFault}
use Rattle.acl_outside.specs.declared.read_fault.ReadFault.TheVariants.{BadFragment, StoreFault, StoreShort}
use Rattle.merkle_chunks.specs.HeaderBytes.{IsInRange, fragment_count}
use Rattle.merkle_chunks.specs.Table.{top_level}
use Rattle.merkle_chunks.specs.declared.header.Header.{Header}
use Rattle.position_cipher.specs.Fragments.{unlocked_fragment}
use Rattle.fragment_open.specs.declared.kept.Kept.{Kept}
use Rattle.fragment_open.specs.CallReads.{Told}
use Rattle.fragment_open.specs.Openings.{indexes}
use Rattle.fragment_open.specs.inside.Climbing.{IsNotOpened, IsOpened}
use Rattle.fragment_open.specs.Settled.{FetchEnds, IsSettled, Opens, Settled, goes_to_chunk, is_start, since, want_by}
use Rattle.fragment_open.proofs.ClimbLemmas.{Told-weaker}
use Rattle.fragment_open.proofs.SinceLemmas.{asked-no_start, since-append}
use Rattle.fragment_open.proofs.FetchLemmas.{bad_fragment, fetched, indexes-more, not_opened-ends, not_opened-opens, settled-more}

pub opened-no_start : (n i goal : ℕ) (cipher chunk digest : List ℕ) (t : List StoreRead) → IsOpened n i goal cipher chunk digest t → list_any is_start t ≡ false
opened-no_start n i goal cipher chunk digest t o = asked-no_start n i goal o.opening t o.asked

pub not_opened-no_start : (n i goal : ℕ) (fault : ReadFault) (t : List StoreRead) → IsNotOpened n i goal fault t → list_any is_start t ≡ false
not_opened-no_start n i goal (StoreShort to) t f = asked-no_start n i f.0.level f.0.opening t f.0.asked
not_opened-no_start n i goal StoreFault t (inl none) = ap (list_any is_start) none
not_opened-no_start n i goal StoreFault t (inr f) = asked-no_start n i f.0.level f.0.opening t f.0.asked
not_opened-no_start n i goal _ t f = absurd f

module _ (h : Header) (top : List ℕ) (kept : Option Kept) (a b : Option (List StoreRead)) (is : Settled a h top kept None) (i : ℕ) (lt : i < fragment_count h) (goal : ℕ)
    (aim : goal ≡ (if goes_to_chunk (top_level (fragment_count h)) i kept then 4 else top_level (fragment_count h))) where
  module _ (fault : ReadFault) (told : Told a b (IsNotOpened (fragment_count h) i goal fault)) where
    pub grown-ended : Told a b (λ more. list_any is_start more ≡ false)
    grown-ended = Told-weaker a b (IsNotOpened (fragment_count h) i goal fault) (λ more. list_any is_start more ≡ false) told (not_opened-no_start (fragment_count h) i goal fault)

    pub told-ended : (key bytes : List ℕ) → IfSome b (λ all. FetchEnds {T = Unit {0}} (Err fault) i h top key bytes (since all))
    told-ended key bytes = by_told a b is told
      where
        by_told : (x y : Option (List StoreRead)) → Settled x h top kept None → Told x y (IsNotOpened (fragment_count h) i goal fault) → IfSome y (λ all. FetchEnds {T = Unit {0}} (Err fault) i h top key bytes (since all))
        by_told None None s t = tt
        by_told None (Some y) s t = absurd t
        by_told (Some x) None s t = absurd t
        by_told (Some x) (Some y) s t =
            let same : since y ≡ since x ++ t.0 = ap since t.1 ∙ since-append x t.0 (not_opened-no_start (fragment_count h) i goal fault t.0 t.2) in
            let P : List StoreRead → Type 0 = λ r. FetchEnds {T = Unit {0}} (Err fault) i h top key bytes r in
            subst P (sym same) (not_opened-ends h top kept (since x) s i lt goal fault t.0 aim t.2)

    pub opens-ended : Opens {T = Unit {0}} (Err fault) i a b
    opens-ended = by_told a b is told
      where
        by_told : (x y : Option (List StoreRead)) → Settled x h top kept None → Told x y (IsNotOpened (fragment_count h) i goal fault) → Opens {T = Unit {0}} (Err fault) i x y
        by_told None None s t = tt
        by_told None (Some y) s t = absurd t
        by_told (Some x) None s t = absurd t
        by_told (Some x) (Some y) s t =
            let same : since y ≡ since x ++ t.0 = ap since t.1 ∙ since-append x t.0 (not_opened-no_start (fragment_count h) i goal fault t.0 t.2) in
            let P : List StoreRead → Type 0 = λ r. (indexes r ≡ i ∷ indexes (since x)) ⊎ (indexes r ≡ indexes (since x)) in
            subst P (sym same) (not_opened-opens h top kept (since x) s i lt goal fault t.0 t.2)

  module _ (cipher chunk digest want : List ℕ) (told : Told a b (IsOpened (fragment_count h) i goal cipher chunk digest)) (by : want ≡ want_by (top_level (fragment_count h)) i kept top) where
    pub grown-opened : Told a b (λ more. list_any is_start more ≡ false)
    grown-opened = Told-weaker a b (IsOpened (fragment_count h) i goal cipher chunk digest) (λ more. list_any is_start more ≡ false) told (opened-no_start (fragment_count h) i goal cipher chunk digest)

    pub opens-fetched : (u : Unit {0}) → Opens (Ok u) i a b
    opens-fetched u = by_told a b is told
      where
        by_told : (x y : Option (List StoreRead)) → Settled x h top kept None → Told x y (IsOpened (fragment_count h) i goal cipher chunk digest) → Opens (Ok u) i x y
        by_told None None s t = tt
        by_told None (Some y) s t = absurd t
        by_told (Some x) None s t = absurd t
        by_told (Some x) (Some y) s t =
            ap indexes (ap since t.1 ∙ since-append x t.0 (opened-no_start (fragment_count h) i goal cipher chunk digest t.0 t.2))
            ∙ indexes-more h top kept (since x) s i lt goal t.2.opening t.0 t.2.asked

    pub opens-bad : (fault : ReadFault) → Opens {T = Unit {0}} (Err fault) i a b
    opens-bad fault = by_opened a b (opens-fetched tt)
      where
        by_opened : (x y : Option (List StoreRead)) → Opens {T = Unit {0}} (Ok tt) i x y → Opens {T = Unit {0}} (Err fault) i x y
        by_opened None y o = tt
        by_opened (Some x) None o = tt
        by_opened (Some x) (Some y) o = inl o

    pub told-bad : (key bytes : List ℕ) → want ≢ digest → IfSome b (λ all. FetchEnds {T = Unit {0}} (Err (BadFragment i want digest)) i h top key bytes (since all))
    told-bad key bytes differ = by_told a b is told
      where
        by_told : (x y : Option (List StoreRead)) → Settled x h top kept None → Told x y (IsOpened (fragment_count h) i goal cipher chunk digest)
            → IfSome y (λ all. FetchEnds {T = Unit {0}} (Err (BadFragment i want digest)) i h top key bytes (since all))
        by_told None None s t = tt
        by_told None (Some y) s t = absurd t
        by_told (Some x) None s t = absurd t
        by_told (Some x) (Some y) s t =
            let same : since y ≡ since x ++ t.0 = ap since t.1 ∙ since-append x t.0 (opened-no_start (fragment_count h) i goal cipher chunk digest t.0 t.2) in
            let P : List StoreRead → Type 0 = λ r. FetchEnds {T = Unit {0}} (Err (BadFragment i want digest)) i h top key bytes r in
            subst P (sym same) (bad_fragment h top kept (since x) s i lt goal cipher chunk digest want t.0 t.2 aim by i refl differ)

    pub told-fetched : (key into : List ℕ) (u : Unit {0}) → digest ≡ want → AreBytes 16 key → IsInRange h → into ≡ unlocked_fragment key i cipher
        → IfSome b (λ all. FetchEnds {T = Unit {0}} (Ok u) i h top key into (since all))
    told-fetched key into u good key_bytes range unlocked = by_told a b is told
      where
        by_told : (x y : Option (List StoreRead)) → Settled x h top kept None → Told x y (IsOpened (fragment_count h) i goal cipher chunk digest) → IfSome y (λ all. FetchEnds {T = Unit {0}} (Ok u) i h top key into (since all))
        by_told None None s t = tt
        by_told None (Some y) s t = absurd t
        by_told (Some x) None s t = absurd t
        by_told (Some x) (Some y) s t =
            let same : since y ≡ since x ++ t.0 = ap since t.1 ∙ since-append x t.0 (opened-no_start (fragment_count h) i goal cipher chunk digest t.0 t.2) in
            let P : List StoreRead → Type 0 = λ r. FetchEnds {T = Unit {0}} (Ok u) i h top key into r in
            subst P (sym same) (fetched h top kept (since x) s i lt goal cipher chunk digest want t.0 t.2 aim by good key into key_bytes range unlocked)

    pub settled-fetched : digest ≡ want → Settled b h top (Some (record { chunk = i / 16; digest = chunk })) None
    settled-fetched good = by_told a b is told
      where
        by_told : (x y : Option (List StoreRead)) → Settled x h top kept None → Told x y (IsOpened (fragment_count h) i goal cipher chunk digest) → Settled y h top (Some (record { chunk = i / 16; digest = chunk })) None
        by_told None None s t = tt
        by_told None (Some y) s t = absurd t
        by_told (Some x) None s t = absurd t
        by_told (Some x) (Some y) s t =
            let same : since y ≡ since x ++ t.0 = ap since t.1 ∙ since-append x t.0 (opened-no_start (fragment_count h) i goal cipher chunk digest t.0 t.2) in
            let P : List StoreRead → Type 0 = λ r. IsSettled h top (Some (record { chunk = i / 16; digest = chunk })) r in
            subst P (sym same) (settled-more h top kept (since x) s i lt goal cipher chunk digest want t.0 t.2 aim by good)
