-- What is due of the document in a store, and that nothing is written before the store is read.
use Rattle.std.proofs.Common.{◌≡◌, ℕ, Bool, true, false, Option, Some, None, Result, Ok, Err, List, [], ◌∷◌, ◌++◌, length, take, IfSome, refl, sym, ap, subst, arith, true≢false}
use Rattle.std.proofs.Math.Seq.{take-append_seam}
use Rattle.std.specs.Bool.{OnTrue}
use Rattle.std.specs.Io.KnownBytes.{Appends}
use Rattle.acl_model.specs.Document.{is_document}
use Rattle.acl_model.specs.declared.document.Doc.{Doc}
use Rattle.acl_outside.specs.Outside.{AppendsPart, StoreRead}
use Rattle.acl_outside.specs.declared.read_fault.ReadFault.{ReadFault}
use Rattle.acl_outside.specs.declared.read_fault.ReadFault.TheVariants.{BadFragment, BadHeader, BadIndex, StoreFault, StoreShort, WrongKey, WrongRoot}
use Rattle.acl_outcome.specs.declared.outcome.Outcome.{Outcome}
use Rattle.acl_outcome.specs.Ends.{End, end_of}
use Rattle.licence.specs.declared.keys.Keys.{Keys}
use Rattle.licence.specs.declared.terms.Licence.{Licence}
use Rattle.merkle_chunks.specs.File.{HasRoot, file_root}
use Rattle.fragment_open.specs.Clash.{reads_clash}
use Rattle.fragment_open.specs.Openings.{openings}
use Rattle.fragment_open.specs.Served.{IsRegular}
use Rattle.fragment_open.specs.Starting.{HoldsDocument}
use Rattle.fragment_open.specs.CallReads.{Told}
use Rattle.fragment_open.proofs.ClimbLemmas.{Told-none, Told-weaker}
use Rattle.file_reading.specs.FileEnds.{FileEnds, IsShown, OfHeldDocument}
use Rattle.file_reading.specs.WholeFile.{ShowsNoDocument}
use Rattle.acl_run.specs.declared.preview.Wanted.{Wanted}
use Rattle.acl_words.specs.Command.{Command, Shown, preview, encode, seal, view, sample}
use Rattle.acl_run.specs.Headline.{EndsWithoutDocument, HasStoreCause, IsRefusedAsShown, OfEachDueText, OfHeldText, OfKeys, OfLicence, OfOpened, OfWanted, WritesShown, is_store_end}
use Rattle.acl_run.specs.Preview.{wanted_by, wanted_text}
use Rattle.acl_run.specs.Readers.{keys_of, sealed_licence_of}
use Rattle.acl_run.specs.WrittenTexts.{WhereWhole}
use Rattle.acl_run.proofs.Facts.{whatever_told, where_whole_so}

-- ---- facts that are true without a condition

pub of_wanted : (keys : Keys) (licence : Licence) (r : Result Wanted Outcome) (holds : Keys → Licence → Wanted → Type 0) → ((k : Keys) (l : Licence) (w : Wanted) → holds k l w) → OfWanted keys licence r holds
of_wanted keys licence (Ok wanted) holds all = all keys licence wanted
of_wanted keys licence (Err refusal) holds all = tt

pub of_licence : (what : Shown) (keys : Keys) (r : Result Licence Outcome) (holds : Keys → Licence → Wanted → Type 0) → ((k : Keys) (l : Licence) (w : Wanted) → holds k l w) → OfLicence what keys r holds
of_licence what keys (Ok licence) holds all = of_wanted keys licence (wanted_by licence.user what) holds all
of_licence what keys (Err refusal) holds all = tt

pub of_keys : (what : Shown) (r : Result Keys Outcome) (sealed : List ℕ) (holds : Keys → Licence → Wanted → Type 0) → ((k : Keys) (l : Licence) (w : Wanted) → holds k l w) → OfKeys what r sealed holds
of_keys what (Ok keys) sealed holds all = of_licence what keys (sealed_licence_of keys.seal sealed) holds all
of_keys what (Err refusal) sealed holds all = tt

-- a fact about all keys, licences and wishes is one about those that were read
pub of_opened : (c : Command) (secret sealed : List ℕ) (holds : Keys → Licence → Wanted → Type 0) → ((k : Keys) (l : Licence) (w : Wanted) → holds k l w) → OfOpened c secret sealed holds
of_opened (preview what) secret sealed holds all = tt
of_opened encode secret sealed holds all = tt
of_opened seal secret sealed holds all = tt
of_opened (view what) secret sealed holds all = of_keys what (keys_of secret) sealed holds all
of_opened (sample size) secret sealed holds all = tt

-- a fact about what is said to be read is one about what was read
pub opened_is : (what : Shown) (secret sealed : List ℕ) (keys : Keys) (licence : Licence) (wanted : Wanted) (holds : Keys → Licence → Wanted → Type 0)
    → keys_of secret ≡ Ok keys → sealed_licence_of keys.seal sealed ≡ Ok licence → wanted_by licence.user what ≡ Ok wanted
    → holds keys licence wanted → OfOpened (view what) secret sealed holds
opened_is what secret sealed keys licence wanted holds keys_is licence_is wanted_is h =
    let P : Result Keys Outcome → Type 0 = λ r. OfKeys what r sealed holds in
    let Q : Result Licence Outcome → Type 0 = λ r. OfLicence what keys r holds in
    let R : Result Wanted Outcome → Type 0 = λ r. OfWanted keys licence r holds in
    subst P (sym keys_is) (subst Q (sym licence_is) (subst R (sym wanted_is) h))

-- ---- before the store is read

no_some : {A : Type 0} (a : A) → None ≡ Some a → ⊥
no_some a e = cc

no_cons : (x : ℕ) (xs : List ℕ) → [] ≡ x ∷ xs → ⊥
no_cons x xs e = cc

regular_none : IsRegular []
unfolding openings
regular_none = record { follows = refl; within = refl }

-- the reads of a store that was not read are none, and no reads are regular
pub unasked : (a : Option (List StoreRead)) → Told a a IsRegular
unasked a = Told-none a IsRegular regular_none

-- a fact about all texts is one about each that is due
pub due_anyway : (c : Command) (kl ql : Option (List ℕ)) (a b : Option (List StoreRead)) (Q : List StoreRead → Type 0) (P : List ℕ → Type 0)
    → ((text : List ℕ) → P text) → Told a b Q
    → IfSome kl (λ secret. IfSome ql (λ sealed. Told a b (λ reads. OfEachDueText c secret sealed reads P)))
due_anyway c kl ql a b Q P all told =
    whatever_told kl ql (λ secret sealed. Told a b (λ reads. OfEachDueText c secret sealed reads P))
    (λ secret sealed. Told-weaker a b Q (λ reads. OfEachDueText c secret sealed reads P) told
    (λ reads q. of_opened c secret sealed _ (λ k l wanted d document has none. all (wanted_text d l.rules wanted))))

pub store_cause_of_none : (b : Bool) (P : Type 0) → b ≡ false → OnTrue b P
store_cause_of_none true P h = absurd (true≢false h)
store_cause_of_none false P h = tt

-- an outcome that is neither a fault of the store nor a refusal of its bytes needs no cause in the reads
pub cause_anyway : (c : Command) (kl ql : Option (List ℕ)) (a b : Option (List StoreRead)) (Q : List StoreRead → Type 0) (o : Outcome)
    → is_store_end (end_of o) ≡ false → Told a b Q
    → IfSome kl (λ secret. IfSome ql (λ sealed. Told a b (λ reads. OfOpened c secret sealed (λ k l wanted. HasStoreCause o l.root k.document reads))))
cause_anyway c kl ql a b Q o other told =
    whatever_told kl ql (λ secret sealed. Told a b (λ reads. OfOpened c secret sealed (λ k l wanted. HasStoreCause o l.root k.document reads)))
    (λ secret sealed. Told-weaker a b Q (λ reads. OfOpened c secret sealed (λ k l wanted. HasStoreCause o l.root k.document reads)) told
    (λ reads q. of_opened c secret sealed _ (λ k l wanted. store_cause_of_none (is_store_end (end_of o)) _ other)))

-- an empty list of reads shows nothing
pub nothing_shown : (root key : List ℕ) (fault : ReadFault) → IsShown root key fault [] → ⊥
unfolding openings
nothing_shown root key BadHeader shown = true≢false (sym shown.0)
nothing_shown root key (WrongRoot want made) shown = no_some _ shown.0
nothing_shown root key (WrongKey want made) shown = no_some _ shown.0
nothing_shown root key (StoreShort to) shown = no_some _ shown
nothing_shown root key StoreFault shown = shown
nothing_shown root key (BadFragment index want made) shown = no_cons index _ shown.0.1
nothing_shown root key BadIndex shown = shown

-- where the store was not read, the reads show no fault
pub unshown : (c : Command) (kl ql : Option (List ℕ)) (a : Option (List StoreRead)) (o : Outcome)
    → IfSome kl (λ secret. IfSome ql (λ sealed. Told a a (λ reads. OfOpened c secret sealed (λ k l wanted. IsRefusedAsShown o l.root k.document reads))))
unshown c kl ql a o =
    whatever_told kl ql (λ secret sealed. Told a a (λ reads. OfOpened c secret sealed (λ k l wanted. IsRefusedAsShown o l.root k.document reads)))
    (λ secret sealed. Told-none a (λ reads. OfOpened c secret sealed (λ k l wanted. IsRefusedAsShown o l.root k.document reads))
    (of_opened c secret sealed (λ k l wanted. IsRefusedAsShown o l.root k.document []) (λ k l wanted fault shown. absurd (nothing_shown l.root k.document fault shown))))

no_file : (root key : List ℕ) → ShowsNoDocument root key [] → ⊥
no_file root key shows = no_some _ shows.whole_file.checked.header_is

-- where the store was not read, the reads show no file
pub unshown_document : (c : Command) (kl ql : Option (List ℕ)) (a : Option (List StoreRead)) (o : Outcome)
    → IfSome kl (λ secret. IfSome ql (λ sealed. Told a a (λ reads. OfOpened c secret sealed (λ k l wanted. EndsWithoutDocument o l.root k.document reads))))
unshown_document c kl ql a o =
    whatever_told kl ql (λ secret sealed. Told a a (λ reads. OfOpened c secret sealed (λ k l wanted. EndsWithoutDocument o l.root k.document reads)))
    (λ secret sealed. Told-none a (λ reads. OfOpened c secret sealed (λ k l wanted. EndsWithoutDocument o l.root k.document reads))
    (of_opened c secret sealed (λ k l wanted. EndsWithoutDocument o l.root k.document []) (λ k l wanted shows. absurd (no_file l.root k.document shows))))

-- ---- what was written

-- a fact about whatever was read is one about what was read
pub opened_anyway : (c : Command) (kl ql : Option (List ℕ)) (a b : Option (List StoreRead)) (Q : List StoreRead → Type 0) (holds : List StoreRead → Keys → Licence → Wanted → Type 0)
    → ((reads : List StoreRead) (k : Keys) (l : Licence) (w : Wanted) → holds reads k l w) → Told a b Q
    → IfSome kl (λ secret. IfSome ql (λ sealed. Told a b (λ reads. OfOpened c secret sealed (holds reads))))
opened_anyway c kl ql a b Q holds all told =
    whatever_told kl ql (λ secret sealed. Told a b (λ reads. OfOpened c secret sealed (holds reads)))
    (λ secret sealed. Told-weaker a b Q (λ reads. OfOpened c secret sealed (holds reads)) told
    (λ reads q. of_opened c secret sealed (holds reads) (all reads)))

-- the text that was written is due of a document that the reads show
pub written_shown : (e : End) (k : Keys) (l : Licence) (w : Wanted) (before after : Option (List ℕ)) (d : Doc) (reads : List StoreRead)
    → is_document d ≡ true → FileEnds (Ok d) l.root k.document reads → WhereWhole e (Appends before after (wanted_text d l.rules w))
    → WhereWhole e (WritesShown k l w reads before after)
written_shown e k l w before after d reads document read =
    where_whole_so e (Appends before after (wanted_text d l.rules w)) (WritesShown k l w reads before after)
    (λ written. record { d = d; document = document; shows = read.shows; written = written })

-- ---- before the first byte is written

pub part_of_none : (a : Option (List ℕ)) (text : List ℕ) → AppendsPart a a text
part_of_none None text = tt
part_of_none (Some a) text = (omega arith, take-append_seam a text)

-- where nothing was written, a prefix of each due text was written
pub prefix_of_none : (c : Command) (kl ql : Option (List ℕ)) (a b : Option (List StoreRead)) (Q : List StoreRead → Type 0) (w : Option (List ℕ)) → Told a b Q
    → IfSome kl (λ secret. IfSome ql (λ sealed. Told a b (λ reads. OfEachDueText c secret sealed reads (λ text. AppendsPart w w text))))
prefix_of_none c kl ql a b Q w told = due_anyway c kl ql a b Q (λ text. AppendsPart w w text) (part_of_none w) told

-- ---- after the reading of the query

-- the fact is true of the due text of the document in the store
abbrev pub OfHeld : Option (List ℕ) → (List ℕ → Type 0) → Keys → Licence → Wanted → Type 0
OfHeld held holds k l wanted = (d : Doc) → HoldsDocument held d k.document → file_root d k.document ≡ l.root → holds (wanted_text d l.rules wanted)

module _ (what : Shown) (kl ql : Option (List ℕ)) (keys : Keys) (licence : Licence) (wanted : Wanted) (wanted_is : wanted_by licence.user what ≡ Ok wanted)
    (keys_is : IfSome kl (λ bytes. keys_of bytes ≡ Ok keys)) (licence_is : IfSome ql (λ bytes. sealed_licence_of keys.seal bytes ≡ Ok licence)) where
  -- a fact about the keys, the licence and what is wanted, as they were read
  pub read_is : (holds : Keys → Licence → Wanted → Type 0) → holds keys licence wanted
      → IfSome kl (λ secret. IfSome ql (λ sealed. OfOpened (view what) secret sealed holds))
  read_is holds h = by kl ql keys_is licence_is
    where
      by : (kl ql : Option (List ℕ)) → IfSome kl (λ bytes. keys_of bytes ≡ Ok keys) → IfSome ql (λ bytes. sealed_licence_of keys.seal bytes ≡ Ok licence)
          → IfSome kl (λ secret. IfSome ql (λ sealed. OfOpened (view what) secret sealed holds))
      by None ql k l = tt
      by (Some secret) None k l = tt
      by (Some secret) (Some sealed) k l = opened_is what secret sealed keys licence wanted holds k l wanted_is h

  -- the same fact, for the reads of a store
  pub reads_are : (a b : Option (List StoreRead)) (Q : List StoreRead → Type 0) (holds : List StoreRead → Keys → Licence → Wanted → Type 0) → Told a b Q
      → ((reads : List StoreRead) → Q reads → holds reads keys licence wanted)
      → IfSome kl (λ secret. IfSome ql (λ sealed. Told a b (λ reads. OfOpened (view what) secret sealed (holds reads))))
  reads_are a b Q holds told h = by kl ql keys_is licence_is
    where
      by : (kl ql : Option (List ℕ)) → IfSome kl (λ bytes. keys_of bytes ≡ Ok keys) → IfSome ql (λ bytes. sealed_licence_of keys.seal bytes ≡ Ok licence)
          → IfSome kl (λ secret. IfSome ql (λ sealed. Told a b (λ reads. OfOpened (view what) secret sealed (holds reads))))
      by None ql k l = tt
      by (Some secret) None k l = tt
      by (Some secret) (Some sealed) k l =
          Told-weaker a b Q (λ reads. OfOpened (view what) secret sealed (holds reads)) told
          (λ reads q. opened_is what secret sealed keys licence wanted (holds reads) k l wanted_is (h reads q))

  -- a fact about the text of the document that was read is one about each text that is due
  pub each_due : (a b : Option (List StoreRead)) (doc : Doc) (P : List ℕ → Type 0) → Told a b (FileEnds (Ok doc) licence.root keys.document) → P (wanted_text doc licence.rules wanted)
      → IfSome kl (λ secret. IfSome ql (λ sealed. Told a b (λ reads. OfEachDueText (view what) secret sealed reads P)))
  each_due a b doc P told p =
      reads_are a b (FileEnds (Ok doc) licence.root keys.document)
      (λ reads k l w. (d : Doc) → is_document d ≡ true → HasRoot d k.document l.root → reads_clash reads d k.document ≡ false → P (wanted_text d l.rules w))
      told
      (λ reads read d document has none. subst (λ (e : Doc). P (wanted_text e licence.rules wanted)) (read.gives d document has none) p)

  -- it is a fact about the text of the document in the store
  pub held_due : (held : Option (List ℕ)) (doc : Doc) (P : List ℕ → Type 0) → OfHeldDocument held licence.root keys.document (λ d. doc ≡ d) → P (wanted_text doc licence.rules wanted)
      → IfSome kl (λ secret. IfSome ql (λ sealed. OfHeldText (view what) secret sealed held P))
  held_due held doc P same p =
      read_is (OfHeld held P) (λ d holds root. subst (λ (e : Doc). P (wanted_text e licence.rules wanted)) (same d holds root) p)
