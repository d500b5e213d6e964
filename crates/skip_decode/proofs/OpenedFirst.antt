-- The fragments of a section are opened one after the other.
use Rattle.std.proofs.Common.{◌≡◌, ℕ, suc, ◌+◌, ◌≤◌, Option, None, Some, List, ◌∷◌, ◌++◌, refl, ap, sym, ◌∙◌, subst, inl, inr, arith}
use Rattle.std.specs.Prelude.{Result, Ok, Err}
use Rattle.std.specs.Option.{option_map}
use Rattle.acl_outside.specs.declared.read_fault.ReadFault.{ReadFault}
use Rattle.skip_decode.specs.Fragments.{OpensFragment}
use Rattle.skip_decode.specs.Starting.{OpenedFirst, OpensNext, OpensSection, indexes_below}
use Rattle.skip_decode.specs.declared.start_fault.StartFault.{StartFault}
use Rattle.skip_decode.specs.inside.Windows.{IsNewest}

-- ---- one fragment

-- a fetch opened it
pub next_opened : {T : Type 0} (u : Unit {0}) (done : T) (index : ℕ) (before after : Option (List ℕ)) → OpensFragment (Ok u) index before after → OpensNext (Ok done) index before after
next_opened u done index None None opens = refl
next_opened u done index None (Some after) opens = absurd opens
next_opened u done index (Some before) None opens = absurd opens
next_opened u done index (Some before) (Some after) opens = ap (λ (l : List ℕ). Some l) opens

-- a fetch that was refused opened it, or none
pub next_refused : (T : Type 0) (fault : ReadFault) (made : StartFault) (index : ℕ) (before after : Option (List ℕ)) → OpensFragment (Err fault) index before after → OpensNext {T = T} (Err made) index before after
next_refused T fault made index None None opens = inr refl
next_refused T fault made index None (Some after) opens = absurd opens
next_refused T fault made index (Some before) None opens = absurd opens
next_refused T fault made index (Some before) (Some after) (inl opened) = inl (ap (λ (l : List ℕ). Some l) opened)
next_refused T fault made index (Some before) (Some after) (inr still) = inr (ap (λ (l : List ℕ). Some l) still)

-- the one that was opened is the newest
pub newest_so : (index : ℕ) (before after : Option (List ℕ)) (u : Unit {0}) → OpensFragment (Ok u) index before after → IsNewest (Some index) after
newest_so index None None u opens = tt
newest_so index None (Some after) u opens = absurd opens
newest_so index (Some before) None u opens = absurd opens
newest_so index (Some before) (Some after) u opens = subst (λ (l : List ℕ). IsNewest (Some index) (Some l)) (sym opens) refl

-- ---- one after the other

-- none was opened
pub first_none : (before : Option (List ℕ)) → OpenedFirst 0 before before
first_none None = refl
first_none (Some before) = refl

-- one more was opened
pub first_more : (n index m : ℕ) (before middle after : Option (List ℕ)) → index ≡ n → m ≡ suc n → OpenedFirst n before middle → after ≡ option_map (λ opened. index ∷ opened) middle → OpenedFirst m before after
first_more n index m before middle after here next so_far opens =
    subst (λ (k : ℕ). OpenedFirst k before after) (sym next)
    (opens ∙ ap (λ (k : ℕ). option_map (λ (opened : List ℕ). k ∷ opened) middle) here ∙ ap (option_map (λ (opened : List ℕ). n ∷ opened)) so_far ∙ by before)
  where
    by : (o : Option (List ℕ)) → option_map (λ (opened : List ℕ). n ∷ opened) (option_map (λ (opened : List ℕ). indexes_below n ++ opened) o) ≡ option_map (λ (opened : List ℕ). indexes_below (suc n) ++ opened) o
    by None = refl
    by (Some opened) = refl

-- an error came after so many
pub section_stopped : {T : Type 0} (result : Result T StartFault) (made : StartFault) (m n : ℕ) (before after : Option (List ℕ)) → result ≡ Err made → m ≤ n → OpenedFirst m before after
    → OpensSection result n before after
section_stopped {T} result made m n before after failed few opened =
    subst (λ (r : Result T StartFault). OpensSection r n before after) (sym failed) (m, few, opened)

-- an error came at the next one
pub section_stopped_at : (U : Type 0) {T : Type 0} (result : Result T StartFault) (made fault : StartFault) (m index n : ℕ) (before middle after : Option (List ℕ)) → result ≡ Err made → index ≡ m → m + 1 ≤ n
    → OpenedFirst m before middle → OpensNext {T = U} (Err fault) index middle after → OpensSection result n before after
section_stopped_at U result made fault m index n before middle after failed here few so_far (inl opened) =
    section_stopped result made (suc m) n before after failed (omega (arith, few)) (first_more m index (suc m) before middle after here refl so_far opened)
section_stopped_at U result made fault m index n before middle after failed here few so_far (inr still) =
    section_stopped result made m n before after failed (omega (arith, few)) (subst (OpenedFirst m before) (sym still) so_far)
