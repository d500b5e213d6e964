-- The laws of what a store shows between two moments of the one that reads it.
use Rattle.std.proofs.Common.{◌≡◌, ℕ, true, false, ◌||◌, Option, Some, None, List, refl, sym, ◌∙◌, subst, arith}
use Rattle.std.specs.Prelude.{IfSome}
use Rattle.std.specs.List.{list_any}
use Rattle.std.proofs.lemmas.List.Folds.{list_any-append}
use Rattle.acl_outside.specs.Outside.{StoreRead}
use Rattle.acl_outside.specs.declared.read_fault.ReadFault.{ReadFault}
use Rattle.acl_outside.specs.declared.read_fault.ReadFault.TheVariants.{BadFragment, BadHeader, BadIndex, StoreFault, StoreShort, WrongKey, WrongRoot}
use Rattle.fragment_open.specs.Held.{IsQuietElse}
use Rattle.fragment_open.specs.Settled.{IsQuiet, is_start}
use Rattle.fragment_open.specs.Sound.{IsOrigin, tells_file}
use Rattle.fragment_open.specs.declared.head.Head.{Head}
use Rattle.fragment_open.proofs.ClimbLemmas.{Told-none, Told-trans}
use Rattle.skip_decode.specs.CheckedStream.{Fetched}
use Rattle.skip_decode.specs.StoreWent.{IsCause, IsQuietUnlessFailed, StoreMoment, StoreWent}

-- ---- the store

quiet-same : (fault : Option ReadFault) (n : ℕ) → IsQuietUnlessFailed fault n n
quiet-same None n = refl
quiet-same (Some BadHeader) n = refl
quiet-same (Some (WrongRoot want made)) n = refl
quiet-same (Some (WrongKey want made)) n = refl
quiet-same (Some (StoreShort to)) n = refl
quiet-same (Some StoreFault) n = tt
quiet-same (Some (BadFragment index want made)) n = refl
quiet-same (Some BadIndex) n = refl

-- A moment went to itself.
pub store-nowhere : (w : StoreMoment) → StoreWent w w
store-nowhere w = record {
  held_is = refl;
  grows = Told-none w.served (λ more. list_any is_start more ≡ false) refl;
  stays = λ fault is. is;
  silent = λ fault is. refl;
  silent_faults = λ fault is. refl;
  never_falls = omega arith;
  quiet = quiet-same w.fault w.faults;
  regular = λ are. are;
  whole = λ are. are;
  folds = λ all. all;
  cause = λ none. subst (λ (o : Option ReadFault). IfSome o (λ fault. IsCause fault w.faults w.faults w.served)) (sym none) tt;
}

-- From u to v and from v to w gives from u to w.
pub store-onward : (u v w : StoreMoment) → StoreWent u v → StoreWent v w → StoreWent u w
store-onward u v w first second = record {
  held_is = second.held_is ∙ first.held_is;
  grows = Told-trans u.served v.served w.served (λ more. list_any is_start more ≡ false) (λ more. list_any is_start more ≡ false) (λ more. list_any is_start more ≡ false)
      first.grows second.grows (λ t s one other. list_any-append is_start t s ∙ (λ j. one j || other j));
  stays = λ fault is. second.stays fault (first.stays fault is);
  silent = λ fault is. second.silent fault (first.stays fault is) ∙ first.silent fault is;
  silent_faults = λ fault is. second.silent_faults fault (first.stays fault is) ∙ first.silent_faults fault is;
  never_falls = omega (arith, first.never_falls, second.never_falls);
  quiet = quiet v.fault refl;
  regular = λ are. second.regular (first.regular are);
  whole = λ are. second.whole (first.whole are);
  folds = λ all. second.folds (first.folds all);
  cause = λ none. cause none v.fault refl;
}
  where
    quiet : (o : Option ReadFault) → v.fault ≡ o → IsQuietUnlessFailed w.fault u.faults w.faults
    quiet None middle =
        let still : v.faults ≡ u.faults = subst (λ (o : Option ReadFault). IsQuietUnlessFailed o u.faults v.faults) middle first.quiet in
        subst (λ (n : ℕ). IsQuietUnlessFailed w.fault n w.faults) still second.quiet
    quiet (Some fault) middle =
        subst (λ (o : Option ReadFault). IsQuietUnlessFailed o u.faults w.faults) (sym (second.stays fault middle))
        (subst (λ (n : ℕ). IsQuietElse fault u.faults n) (sym (second.silent_faults fault middle))
        (subst (λ (o : Option ReadFault). IsQuietUnlessFailed o u.faults v.faults) middle first.quiet))

    cause : u.fault ≡ None → (o : Option ReadFault) → v.fault ≡ o → IfSome w.fault (λ fault. IsCause fault u.faults w.faults w.served)
    cause none None middle =
        let still : v.faults ≡ u.faults = subst (λ (o : Option ReadFault). IsQuietUnlessFailed o u.faults v.faults) middle first.quiet in
        subst (λ (n : ℕ). IfSome w.fault (λ fault. IsCause fault n w.faults w.served)) still (second.cause middle)
    cause none (Some fault) middle =
        let was : IsCause fault u.faults v.faults v.served = subst (λ (o : Option ReadFault). IfSome o (λ f. IsCause f u.faults v.faults v.served)) middle (first.cause none) in
        subst (λ (o : Option ReadFault). IfSome o (λ f. IsCause f u.faults w.faults w.served)) (sym (second.stays fault middle))
        (subst (λ (n : ℕ). IsCause fault u.faults n w.served) (sym (second.silent_faults fault middle))
        (subst (λ (s : Option (List StoreRead)). IsCause fault u.faults v.faults s) (sym (second.silent fault middle)) was))

-- ---- a new refusal under a store that holds the file

-- A new refusal is the store's own failure, where each was that came in one of two stretches.
pub failure-onward : (u v w : StoreMoment) → StoreWent v w → (v.fault ≡ None → IsQuiet w.fault) → IsQuiet v.fault → IsQuiet w.fault
failure-onward u v w second here there = by v.fault refl
  where
    by : (o : Option ReadFault) → v.fault ≡ o → IsQuiet w.fault
    by None middle = here middle
    by (Some fault) middle = subst IsQuiet (sym (second.stays fault middle)) (subst IsQuiet middle there)

-- ---- an opener

-- no fetch
pub fetched-nowhere : (head : Head) (w : StoreMoment) → Fetched head head w w
fetched-nowhere head w = record {
  head = refl;
  was_sound = λ d sound. sound;
  reads = store-nowhere w;
  held = λ d origin told none. subst IsQuiet (sym none) tt;
}

-- fetches, and then more of them
pub fetched-onward : (one two three : Head) (u v w : StoreMoment) → Fetched one two u v → Fetched two three v w → Fetched one three u w
fetched-onward one two three u v w first second = record {
  head = second.head ∙ first.head;
  was_sound = λ d sound. first.was_sound d (second.was_sound d sound);
  reads = store-onward u v w first.reads second.reads;
  held = λ d origin told none.
      failure-onward u v w second.reads (λ middle. second.held d origin told middle)
      (first.held d (subst (λ (h : Head). IsOrigin h.header h.top h.key d) second.head origin)
      (subst (λ (o : Option (List ℕ)). tells_file o d two.key ≡ true) second.reads.held_is
      (subst (λ (h : Head). tells_file w.held d h.key ≡ true) second.head told)) none);
}

-- the opener and its store are as they were
pub fetched-same : (old new : Head) (w v : StoreMoment) → new ≡ old → v ≡ w → Fetched old new w v
fetched-same old new w v same still =
    subst (λ (h : Head). Fetched old h w v) (sym same) (subst (λ (m : StoreMoment). Fetched old old w m) (sym still) (fetched-nowhere old w))
