-- What `view` and `explain` promise of a store that nobody trusts. Defined by this project. A text is *due* of a
-- document where the command is to write it for that document. An *opening* is the reads of one fragment. It *folds*
-- to the digest that the fragment and the digests beside its way up the tree lead to.
use Rattle.std.specs.Prelude.{◌≡◌, ◌≢◌, ℕ, Bool, true, false, is_some, Option, Some, None, option_map, option_and_then, Result, Ok, Err, List, [], ◌∷◌, map}
use Rattle.std.specs.Bool.{OnTrue}
use Rattle.std.specs.Io.KnownBytes.{Appends}
use Rattle.std.specs.List.{list_all, slice_get}
use Rattle.sha2.specs.Sha256.{sha256}
use Rattle.acl_model.specs.Document.{is_document}
use Rattle.acl_model.specs.declared.document.Doc.{Doc}
use Rattle.acl_outside.specs.Outside.{StoreRead}
use Rattle.acl_outside.specs.declared.read_fault.ReadFault.{ReadFault}
use Rattle.acl_outside.specs.declared.read_fault.ReadFault.TheVariants.{BadFragment, BadHeader, BadIndex, StoreFault, StoreShort, WrongKey, WrongRoot}
use Rattle.acl_outcome.specs.declared.outcome.Outcome.{Outcome}
use Rattle.acl_outcome.specs.Ends.{Object, store, is_same, End, done, no_memory, usage, fault, stopped, refused, end_of}
use Rattle.file_reading.specs.FileEnds.{IsFileCause, IsShown, first_short}
use Rattle.file_reading.specs.WholeFile.{IsUnfinished, ShowsDocument, ShowsNoDocument}
use Rattle.fragment_open.specs.Asks.{ask_of, header_ask}
use Rattle.fragment_open.specs.Clash.{reads_clash}
use Rattle.fragment_open.specs.Hashed.{folded, wanted}
use Rattle.fragment_open.specs.Openings.{indexes}
use Rattle.fragment_open.specs.Served.{header_served, root_served, whole}
use Rattle.fragment_open.specs.Starting.{AreOfStart, HoldsDocument}
use Rattle.fragment_open.specs.CallReads.{IsCut, is_whole}
use Rattle.licence.specs.declared.keys.Keys.{Keys}
use Rattle.licence.specs.declared.terms.Licence.{Licence}
use Rattle.merkle_chunks.specs.File.{HasRoot, file_root}
use Rattle.merkle_chunks.specs.declared.header.Header.{Header}
use Rattle.acl_run.specs.declared.preview.Wanted.{Wanted}
use Rattle.acl_words.specs.Command.{Command, Shown, preview, encode, seal, view, sample}
use Rattle.acl_run.specs.Preview.{wanted_by, wanted_text}
use Rattle.acl_run.specs.Outcomes.{IsOfNoDocument, outcome_of_read_fault}
use Rattle.acl_run.specs.Readers.{keys_of, sealed_licence_of}
use Rattle.acl_run.specs.Steps.{is_of_store}

-- Where what is wanted was read, the fact is true of the keys, the licence and what is wanted. Else nothing is claimed.
abbrev pub OfWanted : Keys → Licence → Result Wanted Outcome → (Keys → Licence → Wanted → Type 0) → Type 0
OfWanted keys licence (Ok wanted) holds = holds keys licence wanted
OfWanted keys licence (Err refusal) holds = Unit {0}

-- The same, where the licence was read. What is wanted is read for the user of that licence.
abbrev pub OfLicence : Shown → Keys → Result Licence Outcome → (Keys → Licence → Wanted → Type 0) → Type 0
OfLicence what keys (Ok licence) holds = OfWanted keys licence (wanted_by licence.user what) holds
OfLicence what keys (Err refusal) holds = Unit {0}

-- The same, where the keys were read and these bytes are a licence that is sealed with their seal key.
abbrev pub OfKeys : Shown → Result Keys Outcome → List ℕ → (Keys → Licence → Wanted → Type 0) → Type 0
OfKeys what (Ok keys) sealed holds = OfLicence what keys (sealed_licence_of keys.seal sealed) holds
OfKeys what (Err refusal) sealed holds = Unit {0}

-- For `view` and `explain`: where these bytes of keys, these bytes of a sealed licence and the query can be read, the
-- fact is true of the keys, the licence and what is wanted. For other commands nothing is claimed.
abbrev pub OfOpened : Command → List ℕ → List ℕ → (Keys → Licence → Wanted → Type 0) → Type 0
OfOpened (preview what) secret sealed holds = Unit {0}
OfOpened encode secret sealed holds = Unit {0}
OfOpened seal secret sealed holds = Unit {0}
OfOpened (view what) secret sealed holds = OfKeys what (keys_of secret) sealed holds
OfOpened (sample size) secret sealed holds = Unit {0}

-- Under the conditions of `OfOpened`: for each document whose file under the document key has the licence's root, the
-- fact is true of the text that is due of it, unless the reads collide with that file. They collide where the root or
-- a position in the tree of digests has two different strings with one SHA-256 digest: one in the reads, and one in
-- the file (`reads_clash`).
abbrev pub OfEachDueText : Command → List ℕ → List ℕ → List StoreRead → (List ℕ → Type 0) → Type 0
OfEachDueText c secret sealed reads holds = OfOpened c secret sealed (λ keys licence wanted.
    (d : Doc) → is_document d ≡ true → HasRoot d keys.document licence.root → reads_clash reads d keys.document ≡ false
    → holds (wanted_text d licence.rules wanted))

-- Under the conditions of `OfOpened`: the fact is true of the text that is due of a document, if the store contains
-- the file of that document under the document key, of 16 bytes, and the root of the file is the licence's.
abbrev pub OfHeldText : Command → List ℕ → List ℕ → Option (List ℕ) → (List ℕ → Type 0) → Type 0
OfHeldText c secret sealed held holds = OfOpened c secret sealed (λ keys licence wanted.
    (d : Doc) → HoldsDocument held d keys.document → file_root d keys.document ≡ licence.root
    → holds (wanted_text d licence.rules wanted))

-- ---- how a run may end over a store that contains the file

-- The end is that all is done, that memory ran out, or that an object failed. It is no refusal, not Usage and no stop.
abbrev pub IsUnrefusedEnd : End → Type 0
IsUnrefusedEnd done = Unit {0}
IsUnrefusedEnd no_memory = Unit {0}
IsUnrefusedEnd usage = ⊥
IsUnrefusedEnd (fault x) = Unit {0}
IsUnrefusedEnd stopped = ⊥
IsUnrefusedEnd (refused subject) = ⊥

-- ---- why the store was refused

-- whether the end is a fault of the store or a refusal of its bytes
abbrev pub is_store_end : End → Bool
is_store_end done = false
is_store_end no_memory = false
is_store_end usage = false
is_store_end (fault x) = is_same x store
is_store_end stopped = false
is_store_end (refused subject) = is_of_store subject

-- If the outcome is a fault of the store or a refusal of its bytes, it is that of a read fault. Under this root and
-- this key, the cause of the fault is in the reads (`IsFileCause`).
abbrev pub HasStoreCause : Outcome → List ℕ → List ℕ → List StoreRead → Type 0
HasStoreCause outcome root key reads = OnTrue (is_store_end (end_of outcome))
    ((read : ReadFault) × (outcome ≡ outcome_of_read_fault read) × IsFileCause root key read reads)

-- If the reads show a read fault under this root and this key (`IsShown`), the outcome is that of this fault.
abbrev pub IsRefusedAsShown : Outcome → List ℕ → List ℕ → List StoreRead → Type 0
IsRefusedAsShown outcome root key reads = (fault : ReadFault) → IsShown root key fault reads → outcome ≡ outcome_of_read_fault fault

-- ---- why the store was refused, as far as the reads show it without the root and the key of the run

-- The cause of a read fault, as far as the reads show it without the root and the key of the run.
-- BadHeader: the only read is that of the header. It came whole, and its bytes are no header.
-- WrongRoot: the reads are those of the header and of the top digest, and came whole. The root string that they make
-- has the digest `made`, which is not `want`.
-- WrongKey: the reads are the same two, and came whole. The header has the key check `want`, which is not `made`.
-- StoreShort: the last read came short and ended at the byte offset `to`. All reads before it came whole.
-- StoreFault: all reads came whole, and they are unfinished (`IsUnfinished`).
-- BadFragment: all reads came whole. The newest opening is that of the fragment `index`. It folds to `made`, and it
-- should fold to `want`, which is another digest.
-- BadIndex: all reads came whole, and under some root and some key they show a whole file of no document.
abbrev pub IsServedCause : ReadFault → List StoreRead → Type 0
IsServedCause BadHeader reads =
    (map ask_of reads ≡ header_ask ∷ []) × (header_served reads ≡ None) × (list_all is_whole reads ≡ true)
IsServedCause (WrongRoot want made) reads =
    (option_map sha256 (root_served reads) ≡ Some made) × (want ≢ made)
    × ((header : Header) × AreOfStart header reads) × (list_all is_whole reads ≡ true)
IsServedCause (WrongKey want made) reads =
    (option_map (λ h. h.check) (header_served reads) ≡ Some want) × (want ≢ made)
    × ((header : Header) × AreOfStart header reads) × (list_all is_whole reads ≡ true)
IsServedCause (StoreShort to) reads = IsCut to reads
IsServedCause StoreFault reads = (list_all is_whole reads ≡ true) × IsUnfinished reads
IsServedCause (BadFragment index want made) reads =
    (list_all is_whole reads ≡ true) × ((before : List ℕ) × (indexes reads ≡ index ∷ before))
    × (folded sha256 reads ≡ Some made) × (wanted sha256 reads ≡ Some want) × (want ≢ made)
IsServedCause BadIndex reads =
    (list_all is_whole reads ≡ true)
    × ((root : List ℕ) × (key : List ℕ) × ShowsNoDocument root key reads)

-- If the outcome is a fault of the store or a refusal of its bytes, it is that of a read fault. The cause of the fault
-- is in the reads, as far as they show it without the root and the key (`IsServedCause`).
abbrev pub HasServedCause : Outcome → List StoreRead → Type 0
HasServedCause outcome reads = OnTrue (is_store_end (end_of outcome))
    ((fault : ReadFault) × (outcome ≡ outcome_of_read_fault fault) × IsServedCause fault reads)

-- What the reads show without the root and the key of the run.
-- BadHeader: the first read has 64 bytes, and they are no header.
-- StoreShort: the first read that came short ended at the byte offset `to`.
-- BadFragment: the newest opening is that of the fragment `index`. It folds to `made`, and it should fold to `want`,
-- which is another digest.
-- The other four are shown by no reads alone. A wrong root or key shows only beside the right one, and a failed read
-- leaves no trace. For a file of no document the answer may also be NoMemory.
abbrev pub IsServedFault : ReadFault → List StoreRead → Type 0
IsServedFault BadHeader reads =
    (is_some (option_and_then (whole 64) (slice_get reads 0)) ≡ true) × (header_served reads ≡ None)
IsServedFault (WrongRoot want made) reads = ⊥
IsServedFault (WrongKey want made) reads = ⊥
IsServedFault (StoreShort to) reads = first_short reads ≡ Some to
IsServedFault StoreFault reads = ⊥
IsServedFault (BadFragment index want made) reads =
    ((before : List ℕ) × (indexes reads ≡ index ∷ before))
    × (folded sha256 reads ≡ Some made) × (wanted sha256 reads ≡ Some want) × (want ≢ made)
IsServedFault BadIndex reads = ⊥

-- If the reads show a read fault without the root and the key (`IsServedFault`), the outcome is that of this fault.
abbrev pub IsRefusedAsServed : Outcome → List StoreRead → Type 0
IsRefusedAsServed outcome reads = (fault : ReadFault) → IsServedFault fault reads → outcome ≡ outcome_of_read_fault fault

-- ---- of which document the file is, as the reads show it

-- Under the licence's root and the document key the reads show a document, and the output grew by the whole text that
-- is due of it.
pub record WritesShown (keys : Keys) (licence : Licence) (wanted : Wanted) (reads : List StoreRead) (before after : Option (List ℕ)) : Type 0 where
  pub d : Doc
  pub document : is_document d ≡ true
  pub shows : ShowsDocument licence.root keys.document d reads
  pub written : Appends before after (wanted_text d licence.rules wanted)

-- If the reads show, under this root and this key, a whole file of no document, the outcome is BadIndex or NoMemory.
abbrev pub EndsWithoutDocument : Outcome → List ℕ → List ℕ → List StoreRead → Type 0
EndsWithoutDocument outcome root key reads = ShowsNoDocument root key reads → IsOfNoDocument outcome
