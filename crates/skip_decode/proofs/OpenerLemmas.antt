-- What an opener may be reading after a call, and which fragment it gave.
use Rattle.std.proofs.Common.{◌≡◌, ℕ, ◌<◌, ◌*◌, ◌/◌, true, false, List, [], length, get_or, refl, sym, ap, ◌∙◌, subst, arith}
use Rattle.std.specs.Prelude.{Option, None, Some, IfSome, Result, Ok, Err, OnOk, MatchResult}
use Rattle.std.specs.List.{list_any}
use Rattle.std.proofs.lemmas.Bool.{true≢false}
use Rattle.std.proofs.lemmas.Option.{none-some, same_Some}
use Rattle.std.proofs.lemmas.Slice.Eq.{bytes_eq-Decides}
use Rattle.acl_model.specs.Stream.{plain}
use Rattle.acl_model.specs.declared.document.Doc.{Doc}
use Rattle.acl_outside.specs.Outside.{StoreRead}
use Rattle.acl_outside.specs.declared.read_fault.ReadFault.{ReadFault}
use Rattle.merkle_chunks.specs.HeaderBytes.{fragment_count}
use Rattle.merkle_chunks.specs.File.{file, file_root}
use Rattle.merkle_chunks.specs.Table.{fragments}
use Rattle.merkle_chunks.proofs.PieceLemmas.{get_or-first_chunks}
use Rattle.fragment_open.specs.declared.head.Head.{Head}
use Rattle.fragment_open.specs.declared.kept.Kept.{Kept}
use Rattle.fragment_open.specs.CallReads.{Told}
use Rattle.fragment_open.specs.Held.{IsStoreFault}
use Rattle.fragment_open.specs.Settled.{FetchEnds, Settled, is_start, root_by, since}
use Rattle.fragment_open.specs.Starting.{HoldsDocument}
use Rattle.fragment_open.proofs.SoundLemmas.{fetched-is, sound-before}
use Rattle.fragment_open.specs.Sound.{sound_for, tells_file}
use Rattle.acl_outside.specs.declared.read_fault.ReadFault.TheVariants.{BadIndex}
use Rattle.skip_decode.specs.CheckedStream.{MayBe}
use Rattle.skip_decode.specs.Fragments.{FitsNone, ForEach, fragment_of}
use Rattle.skip_decode.specs.inside.CheckedLaws.{whole_stream}

-- a store that tells a file holds it
pub file-told : (held : Option (List ℕ)) (d : Doc) (key : List ℕ) → tells_file held d key ≡ true → held ≡ Some (file d key)
file-told None d key told = absurd (true≢false (sym told))
file-told (Some bytes) d key told = ap (λ (l : List ℕ). Some l) ((bytes_eq-Decides bytes (file d key)).0 told)

-- the fault of a refused result
abbrev pub fault_in : Result (Unit {0}) ReadFault → Option ReadFault
fault_in (Ok done) = None
fault_in (Err fault) = Some fault

-- what is true of the value, if there is one, gives what follows from it
pub if_some : {T : Type 0} (P Q : T → Type 0) (o : Option T) → ((x : T) → P x → Q x) → IfSome o P → IfSome o Q
if_some P Q None so is = tt
if_some P Q (Some x) so is = so x is

-- an opener whose call was not refused had refused nothing
pub ok_quiet : (P : ReadFault → Type 0) (done : Unit {0}) (before : Option ReadFault)
    → IfSome before (λ fault. (Ok done ≡ Err fault) × P fault) → before ≡ None
ok_quiet P done None again = refl
ok_quiet P done (Some fault) again = absurd (none-some fault (ap fault_in again.0))

-- where the refusal that is kept is BadIndex, it is the result
pub err_of_kept : (r : Result (Unit {0}) ReadFault) (kept : Option ReadFault) → MatchResult r (λ done. kept ≡ None) (λ fault. kept ≡ Some fault)
    → kept ≡ Some BadIndex → r ≡ Err BadIndex
err_of_kept (Ok done) kept stays is = absurd (none-some BadIndex (sym stays ∙ is))
err_of_kept (Err fault) kept stays is = ap Err (same_Some fault BadIndex (sym stays ∙ is))

module _ (old new : Head) (same : new ≡ old) (a b : Option (List StoreRead)) (held later : Option (List ℕ)) (constant : later ≡ held) where
  -- the store is as it was, and so is the stream
  pub same_stream : b ≡ a → (stream : List ℕ) → MayBe b later new stream → MayBe a held old stream
  same_stream served stream is =
      let P : Head → Type 0 = λ h. MayBe a held h stream in
      let Q : Option (List ℕ) → Type 0 = λ o. MayBe a o new stream in
      let R : Option (List StoreRead) → Type 0 = λ o. MayBe o later new stream in
      subst P same (subst Q constant (subst R served is))

  -- the store served more reads
  pub narrower_stream : (kept : Option Kept) → Settled a old.header old.top kept None → Told a b (λ more. list_any is_start more ≡ false) → (stream : List ℕ) → MayBe b later new stream → MayBe a held old stream
  narrower_stream kept settled told stream is =
      let P : Head → Type 0 = λ h. MayBe b held h stream in
      let Q : Option (List ℕ) → Type 0 = λ o. MayBe b o new stream in
      let now : MayBe b held old stream = subst P same (subst Q constant is) in
      record {
        document = now.document;
        origin = now.origin;
        sound = sound-before old.header old.top kept held now.document old.key a b settled told now.sound;
        stream_is = now.stream_is;
      }

  -- a document for which the opener is sound is one for which it was, where the store is as it was
  pub same_sound : b ≡ a → (d : Doc) → sound_for b later d new.key ≡ true → sound_for a held d old.key ≡ true
  same_sound served d is =
      let P : Head → Type 0 = λ h. sound_for a held d h.key ≡ true in
      let Q : Option (List ℕ) → Type 0 = λ o. sound_for a o d new.key ≡ true in
      let R : Option (List StoreRead) → Type 0 = λ o. sound_for o later d new.key ≡ true in
      subst P same (subst Q constant (subst R served is))

  -- the same, where the store served more reads
  pub narrower_sound : (kept : Option Kept) → Settled a old.header old.top kept None → Told a b (λ more. list_any is_start more ≡ false) → (d : Doc) → sound_for b later d new.key ≡ true → sound_for a held d old.key ≡ true
  narrower_sound kept settled told d is =
      let P : Head → Type 0 = λ h. sound_for b held d h.key ≡ true in
      let Q : Option (List ℕ) → Type 0 = λ o. sound_for b o d new.key ≡ true in
      sound-before old.header old.top kept held d old.key a b settled told (subst P same (subst Q constant is))

  -- an opener that refused nothing refuses with BadIndex only where it may be reading no stream
  pub bad_index_none : (result : Result (Unit {0}) ReadFault) (i : ℕ) (bytes : List ℕ)
      → IfSome b (λ all. FetchEnds result i old.header old.top old.key bytes (since all))
      → ((d : Doc) → HoldsDocument held d old.key → file_root d old.key ≡ root_by old.header old.top
      → MatchResult result (λ done. bytes ≡ get_or (fragments (plain d)) i []) (λ fault. IsStoreFault fault))
      → result ≡ Err BadIndex → FitsNone (MayBe b later new)
  bad_index_none result i bytes ends of_held is = λ stream may_be.
      let P : Head → Type 0 = λ h. MayBe b held h stream in
      let Q : Option (List ℕ) → Type 0 = λ o. MayBe b o new stream in
      let now : MayBe b held old stream = subst P same (subst Q constant may_be) in
      let d : Doc = now.document in
      let told : tells_file held d old.key ≡ true = by b (subst (λ (r : Result (Unit {0}) ReadFault). IfSome b (λ all. FetchEnds r i old.header old.top old.key bytes (since all))) is ends) d now.sound in
      subst (λ (r : Result (Unit {0}) ReadFault). MatchResult r (λ done. bytes ≡ get_or (fragments (plain d)) i []) (λ fault. IsStoreFault fault)) is
      (of_held d (record { holds = file-told held d old.key told; document = now.origin.document; stream = now.origin.has_root.defined; key_bytes = old.key_bytes }) now.origin.has_root.same)
    where
      by : (s : Option (List StoreRead)) → IfSome s (λ all. FetchEnds {T = Unit {0}} (Err BadIndex) i old.header old.top old.key bytes (since all))
          → (d : Doc) → sound_for s held d old.key ≡ true → tells_file held d old.key ≡ true
      by None end d sound = sound
      by (Some all) end d sound = absurd end.1

  -- the same of an opener that may have refused before
  pub bad_index_so : (before : Option ReadFault) (result : Result (Unit {0}) ReadFault) (i : ℕ) (bytes : List ℕ)
      → IfSome before (λ fault. (result ≡ Err fault) × (b ≡ a))
      → (before ≡ Some BadIndex → FitsNone (MayBe a held old))
      → (before ≡ None → IfSome b (λ all. FetchEnds result i old.header old.top old.key bytes (since all)))
      → ((d : Doc) → HoldsDocument held d old.key → file_root d old.key ≡ root_by old.header old.top
      → MatchResult result (λ done. bytes ≡ get_or (fragments (plain d)) i []) (λ fault. IsStoreFault fault))
      → result ≡ Err BadIndex → FitsNone (MayBe b later new)
  bad_index_so None result i bytes again was ends of_held is = bad_index_none result i bytes (ends refl) of_held is
  bad_index_so (Some fault) result i bytes again was ends of_held is = λ stream may_be.
      was (ap fault_in (sym again.0 ∙ is)) stream (same_stream again.1 stream may_be)

  -- the bytes given are the fragment of each stream that it may be
  pub fragment_given : (result : Result (Unit {0}) ReadFault) (i : ℕ) (bytes : List ℕ) → i < fragment_count old.header
      → IfSome b (λ all. FetchEnds result i old.header old.top old.key bytes (since all))
      → ((d : Doc) → HoldsDocument held d old.key → file_root d old.key ≡ root_by old.header old.top
      → MatchResult result (λ done. bytes ≡ get_or (fragments (plain d)) i []) (λ fault. IsStoreFault fault))
      → OnOk result (ForEach (MayBe b later new) (λ stream. bytes ≡ fragment_of stream i))
  fragment_given (Err fault) i bytes lt ends of_held = tt
  fragment_given (Ok done) i bytes lt ends of_held = λ stream is.
      let P : Head → Type 0 = λ h. MayBe b held h stream in
      let Q : Option (List ℕ) → Type 0 = λ o. MayBe b o new stream in
      let now : MayBe b held old stream = subst P same (subst Q constant is) in
      let d : Doc = now.document in
      let long : length (plain d) ≡ 256 * fragment_count old.header = ap (λ (l : List ℕ). length l) (sym now.stream_is) ∙ whole_stream b held old.header old.top old.key stream now in
      fetched-is old.header old.top old.key old.key_bytes d now.origin.document now.origin.has_root i bytes b held ends of_held now.sound
      ∙ get_or-first_chunks 256 (length (plain d) / 256) i (plain d) (omega (arith, long, lt))
      ∙ ap (λ (l : List ℕ). fragment_of l i) (sym now.stream_is)
