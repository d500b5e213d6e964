-- What an opener's store shows after a fetch.
use Rattle.std.proofs.Common.{◌≡◌, ℕ, true, false, List, refl, sym, subst}
use Rattle.std.specs.Prelude.{Option, None, Some, IfSome, Result, Ok, Err, OnOk, IfErr, MatchResult}
use Rattle.std.specs.List.{list_all, list_any}
use Rattle.std.proofs.lemmas.Bool.{true≢false}
use Rattle.std.proofs.lemmas.Option.{none-some}
use Rattle.acl_outside.specs.Outside.{NotFallen, Rose, StoreRead}
use Rattle.acl_outside.specs.declared.read_fault.ReadFault.{ReadFault}
use Rattle.acl_outside.specs.declared.read_fault.ReadFault.TheVariants.{BadFragment, BadHeader, BadIndex, StoreFault, StoreShort, WrongKey, WrongRoot}
use Rattle.fragment_open.specs.CallReads.{IsFetchFault, Told, is_whole}
use Rattle.fragment_open.specs.Checked.{AllFoldUnlessRefused, is_bad_fragment}
use Rattle.fragment_open.specs.Held.{IsQuietElse}
use Rattle.fragment_open.specs.Served.{IsRegular}
use Rattle.fragment_open.specs.Settled.{FetchEnds, IsFetchCause, IsQuietIfHeld, Settled, is_start, since}
use Rattle.fragment_open.specs.declared.head.Head.{Head}
use Rattle.fragment_open.specs.declared.kept.Kept.{Kept}
use Rattle.fragment_open.proofs.CheckedLemmas.{settled-checked}
use Rattle.fragment_open.proofs.FetchLemmas.{settled-regular}
use Rattle.merkle_chunks.specs.declared.header.Header.{Header}
use Rattle.skip_decode.specs.CheckedStream.{Fetched, store_moment}
use Rattle.skip_decode.specs.StoreWent.{AreGood, IsCause, IsQuietUnlessFailed, OfReads, StoreWent, refused_fragment, refused_short}
use Rattle.skip_decode.proofs.OpenerLemmas.{fault_in, file-told, narrower_sound}

-- the refusal that is kept is the result's
pub kept_is : (r : Result (Unit {0}) ReadFault) (kept : Option ReadFault) → MatchResult r (λ done. kept ≡ None) (λ fault. kept ≡ Some fault) → kept ≡ fault_in r
kept_is (Ok done) kept stays = stays
kept_is (Err fault) kept stays = stays

module _ (index : ℕ) (old : Head) (bytes : List ℕ) (served : Option (List StoreRead)) where
  -- the reads are regular
  regular_after : (r : Result (Unit {0}) ReadFault) → IfSome served (λ all. FetchEnds r index old.header old.top old.key bytes (since all)) → OfReads served IsRegular
  regular_after r ends = by r served ends
    where
      by : (r : Result (Unit {0}) ReadFault) (s : Option (List StoreRead)) → IfSome s (λ all. FetchEnds r index old.header old.top old.key bytes (since all)) → OfReads s IsRegular
      by r None e = tt
      by (Ok done) (Some all) e = e.regular
      by (Err fault) (Some all) e = e.0

  -- they are whole, unless one was short
  whole_after : (r : Result (Unit {0}) ReadFault) → IfSome served (λ all. FetchEnds r index old.header old.top old.key bytes (since all))
      → refused_short (fault_in r) ≡ false → OfReads served (λ reads. list_all is_whole reads ≡ true)
  whole_after r ends long = by r served ends long
    where
      by : (r : Result (Unit {0}) ReadFault) (s : Option (List StoreRead)) → IfSome s (λ all. FetchEnds r index old.header old.top old.key bytes (since all))
          → refused_short (fault_in r) ≡ false → OfReads s (λ reads. list_all is_whole reads ≡ true)
      by r None e is = tt
      by (Ok done) (Some all) e is = e.all_whole
      by (Err BadHeader) (Some all) e is = absurd e.1
      by (Err (WrongRoot want made)) (Some all) e is = absurd e.1
      by (Err (WrongKey want made)) (Some all) e is = absurd e.1
      by (Err (StoreShort to)) (Some all) e is = absurd (true≢false is)
      by (Err StoreFault) (Some all) e is = e.1.0
      by (Err (BadFragment refused want made)) (Some all) e is = e.1.1
      by (Err BadIndex) (Some all) e is = absurd e.1

  -- why a fragment was refused
  cause_after : (r : Result (Unit {0}) ReadFault) (m n : ℕ) → IfSome served (λ all. FetchEnds r index old.header old.top old.key bytes (since all))
      → (r ≡ Err StoreFault → Rose m n) → IfErr r IsFetchFault → IfSome (fault_in r) (λ fault. IsCause fault m n served)
  cause_after r m n ends rose only = by r served ends rose only
    where
      by : (r : Result (Unit {0}) ReadFault) (s : Option (List StoreRead)) → IfSome s (λ all. FetchEnds r index old.header old.top old.key bytes (since all))
          → (r ≡ Err StoreFault → Rose m n) → IfErr r IsFetchFault → IfSome (fault_in r) (λ fault. IsCause fault m n s)
      by (Ok done) s e rose only = tt
      by (Err StoreFault) s e rose only = rose refl
      by (Err BadIndex) s e rose only = tt
      by (Err BadHeader) s e rose only = only
      by (Err (WrongRoot want made)) s e rose only = only
      by (Err (WrongKey want made)) s e rose only = only
      by (Err (StoreShort to)) None e rose only = tt
      by (Err (BadFragment refused want made)) None e rose only = tt
      by (Err (StoreShort to)) (Some all) e rose only = e.1.0
      by (Err (BadFragment refused want made)) (Some all) e rose only =
          let P : ℕ → Type 0 = λ n. IsFetchCause n (BadFragment refused want made) (since all) in subst P (sym e.1.0) e.1

  -- each opening folds to what is wanted, unless it was refused
  folds_after : (r : Result (Unit {0}) ReadFault) → IfSome served (λ all. AllFoldUnlessRefused (is_bad_fragment r) (since all))
      → OfReads served (AllFoldUnlessRefused (refused_fragment (fault_in r)))
  folds_after (Ok done) checked = checked
  folds_after (Err fault) checked = checked

-- the count of faults
quiet_after : (r : Result (Unit {0}) ReadFault) (m n : ℕ) → OnOk r (n ≡ m) → IfErr r (λ fault. IsQuietElse fault m n) → IsQuietUnlessFailed (fault_in r) m n
quiet_after (Ok done) m n ok err = ok
quiet_after (Err fault) m n ok err = err

-- a fetch of an opener that had refused nothing
pub fetched-one : (index : ℕ) (old new : Head) → new ≡ old → (a b : Option (List StoreRead)) (held later : Option (List ℕ)) → later ≡ held → (m n : ℕ) (bytes : List ℕ)
    (kept : Option Kept) → Settled a old.header old.top kept None → (r : Result (Unit {0}) ReadFault) (fault : Option ReadFault)
    → MatchResult r (λ done. fault ≡ None) (λ f. fault ≡ Some f)
    → Told a b (λ more. list_any is_start more ≡ false)
    → IfSome b (λ all. FetchEnds r index old.header old.top old.key bytes (since all))
    → IfSome b (λ all. AllFoldUnlessRefused (is_bad_fragment r) (since all))
    → (r ≡ Err StoreFault → Rose m n) → NotFallen m n → OnOk r (n ≡ m) → IfErr r (λ f. IsQuietElse f m n)
    → IfErr r IsFetchFault → IsQuietIfHeld later new.header new.top new.key fault
    → Fetched old new (store_moment a held m None) (store_moment b later n fault)
fetched-one index old new same a b held later constant m n bytes kept settled r fault stays grown ends checked rose never ok err only of_held = record {
  head = same;
  was_sound = narrower_sound old new same a b held later constant kept settled grown;
  reads = subst (λ (o : Option ReadFault). StoreWent (store_moment a held m None) (store_moment b later n o)) (sym (kept_is r fault stays)) (record {
    held_is = constant;
    grows = grown;
    stays = λ f is. absurd (none-some f is);
    silent = λ f is. absurd (none-some f is);
    silent_faults = λ f is. absurd (none-some f is);
    never_falls = never;
    quiet = quiet_after r m n ok err;
    regular = λ are. regular_after index old bytes b r ends;
    whole = λ are. whole_after index old bytes b r ends;
    folds = λ all. folds_after index old bytes b r checked;
    cause = λ none. cause_after index old bytes b r m n ends rose only;
  });
  held = λ d origin told none. of_held d (record {
    holds = file-told later d new.key told;
    document = origin.document;
    stream = origin.has_root.defined;
    key_bytes = new.key_bytes;
  }) origin.has_root.same;
}

-- the reads of an opener that has refused nothing
pub good_so : (header : Header) (top : List ℕ) (kept : Option Kept) (served : Option (List StoreRead)) (held : Option (List ℕ)) (faults : ℕ) (fault : Option ReadFault) → fault ≡ None
    → Settled served header top kept fault → AreGood (store_moment served held faults fault)
good_so header top kept served held faults fault quiet settled =
    subst (λ (o : Option ReadFault). AreGood (store_moment served held faults o)) (sym quiet)
    (by served (subst (λ (o : Option ReadFault). Settled served header top kept o) quiet settled))
  where
    by : (s : Option (List StoreRead)) → Settled s header top kept None → AreGood (store_moment s held faults None)
    by None is = record { regular = tt; whole = λ long. tt; folds = tt }
    by (Some all) is = record {
      regular = settled-regular header top kept (since all) is;
      whole = λ long. is.all_whole;
      folds = settled-checked header top kept (since all) false is;
    }
