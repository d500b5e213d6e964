-- How the reading of a whole file ends, according to the reads that its store served. Defined by this project.
use Rattle.std.specs.Prelude.{◌≡◌, ◌≢◌, ◌⊎◌, ℕ, ◌+◌, ◌*◌, ◌<◌, Bool, true, false, if◌then◌else◌, is_some, Result, Ok, Err, Option, Some, None, IfSome, option_map, option_and_then, List, [], ◌∷◌, ◌++◌, length, take, Vec}
use Rattle.std.specs.declared.alloc.Global.{Global}
use Rattle.std.specs.List.{list_all, slice_get}
use Rattle.sha2.specs.Sha256.{sha256}
use Rattle.acl_model.specs.Document.{is_document}
use Rattle.acl_model.specs.Stream.{plain}
use Rattle.acl_model.specs.declared.document.Doc.{Doc}
use Rattle.acl_outside.specs.Outside.{StoreRead}
use Rattle.acl_outside.specs.declared.read_fault.ReadFault.{ReadFault}
use Rattle.acl_outside.specs.declared.read_fault.ReadFault.TheVariants.{BadFragment, BadHeader, BadIndex, StoreFault, StoreShort, WrongKey, WrongRoot}
use Rattle.merkle_chunks.specs.File.{HasRoot, document_header, file_root, key_check}
use Rattle.merkle_chunks.specs.declared.header.Header.{Header}
use Rattle.fragment_open.specs.Checked.{AreVerifiedUnder, refuses_fragment}
use Rattle.fragment_open.specs.Clash.{reads_clash}
use Rattle.fragment_open.specs.Held.{IsQuietElse, IsStoreFault}
use Rattle.fragment_open.specs.Hashed.{folded, wanted}
use Rattle.fragment_open.specs.Openings.{indexes}
use Rattle.fragment_open.specs.Plain.{plain_served}
use Rattle.fragment_open.specs.Served.{IsRegular, fragments_served, header_served, root_served, whole}
use Rattle.fragment_open.specs.Settled.{IsFetchCause, root_by, since}
use Rattle.fragment_open.specs.Starting.{HoldsDocument, IsStartCause}
use Rattle.fragment_open.specs.CallReads.{IsCut, is_whole}
use Rattle.file_reading.specs.declared.fault.FileFault.{FileFault}
use Rattle.file_reading.specs.declared.fault.FileFault.TheVariants.{NoMemory, Refused}
use Rattle.file_reading.specs.WholeFile.{IsUnfinished, IsWholeFile, ShowsDocument, ShowsNoDocument, numbers_below}

-- ---- documents that a file may be of

-- `holds` is true of each document whose file under the key has the root, unless there is a clash with it. In a clash
-- some name has one string in what the reads hash and another one in that file, with one digest.
abbrev pub OfEachDocument : List ℕ → List ℕ → List StoreRead → (Doc → Type 0) → Type 0
OfEachDocument root key reads holds =
    (d : Doc) → is_document d ≡ true → HasRoot d key root → reads_clash reads d key ≡ false
    → holds d

-- `holds` is true of the document whose file the store holds, under the key and with the root.
abbrev pub OfHeldDocument : Option (List ℕ) → List ℕ → List ℕ → (Doc → Type 0) → Type 0
OfHeldDocument held root key holds =
    (d : Doc) → HoldsDocument held d key → file_root d key ≡ root → holds d

-- ---- the whole reading

-- The reading ended in a document: the reads are regular and whole, and show this document. It is each document whose
-- file has the root, unless there is a clash with that one.
pub record IsFileRead (root key : List ℕ) (doc : Doc) (reads : List StoreRead) : Type 0 where
  pub regular : IsRegular reads
  pub all_whole : list_all is_whole reads ≡ true
  pub shows : ShowsDocument root key doc reads
  pub gives : OfEachDocument root key reads (λ d. doc ≡ d)

-- Why a file was refused, according to its reads. `StoreShort`: the last read is short. `StoreFault`: all are whole,
-- and they are unfinished. `BadFragment`: all are whole, and the newest opening folds to another digest than the
-- wanted one. `BadIndex`: all are whole and show a whole file of no document, and each document whose file has the
-- root has a clash with them. The other refusals have the causes of a start.
abbrev pub IsFileCause : List ℕ → List ℕ → ReadFault → List StoreRead → Type 0
IsFileCause root key (StoreShort to) reads = IsCut to reads
IsFileCause root key StoreFault reads = (list_all is_whole reads ≡ true) × IsUnfinished reads
IsFileCause root key (BadFragment index want made) reads =
    IsFetchCause index (BadFragment index want made) reads
IsFileCause root key BadIndex reads =
    (list_all is_whole reads ≡ true)
    × ((d : Doc) → is_document d ≡ true → HasRoot d key root → reads_clash reads d key ≡ true)
    × ShowsNoDocument root key reads
IsFileCause root key BadHeader reads = IsStartCause root key BadHeader reads
IsFileCause root key (WrongRoot want made) reads = IsStartCause root key (WrongRoot want made) reads
IsFileCause root key (WrongKey want made) reads = IsStartCause root key (WrongKey want made) reads

-- how the reading of a file under a root and a key ended, according to its reads
abbrev pub FileEnds : Result Doc FileFault → List ℕ → List ℕ → List StoreRead → Type 0
FileEnds (Ok doc) root key reads = IsFileRead root key doc reads
FileEnds (Err (Refused fault)) root key reads = IsRegular reads × IsFileCause root key fault reads
FileEnds (Err NoMemory) root key reads = IsRegular reads

-- ---- what the answer is where the reads show a cause

-- the byte offset at which the bytes of the first short read ended, where there is such a read
abbrev pub first_short : List StoreRead → Option ℕ
first_short [] = None
first_short (read ∷ reads) =
    if is_whole read then first_short reads else Some (read.at + length read.bytes)

-- What the reads alone show of a file under a root and a key. `BadHeader`: the first read gave 64 bytes that are not
-- a header. `WrongRoot`: the root string served has another digest than the root. `WrongKey`: its digest is the root,
-- and the key has another check than the header. `StoreShort`: the first short read ended at `to`. `BadFragment`: the
-- newest opening folds to another digest than the wanted one.
abbrev pub IsShown : List ℕ → List ℕ → ReadFault → List StoreRead → Type 0
IsShown root key BadHeader reads =
    (is_some (option_and_then (whole 64) (slice_get reads 0)) ≡ true)
    × (header_served reads ≡ None)
IsShown root key (WrongRoot want made) reads =
    (option_map sha256 (root_served reads) ≡ Some made) × (want ≡ root) × (want ≢ made)
IsShown root key (WrongKey want made) reads =
    (option_map sha256 (root_served reads) ≡ Some root)
    × (option_map (λ h. h.check) (header_served reads) ≡ Some want)
    × (made ≡ key_check key) × (want ≢ made)
IsShown root key (StoreShort to) reads = first_short reads ≡ Some to
IsShown root key (BadFragment index want made) reads =
    ((before : List ℕ) × (indexes reads ≡ index ∷ before))
    × (folded sha256 reads ≡ Some made) × (wanted sha256 reads ≡ Some want) × (want ≢ made)
IsShown root key StoreFault reads = ⊥
IsShown root key BadIndex reads = ⊥

-- Where the reads show a cause of refusal, this is the answer, with its values. Reads don't show a failure of the
-- store; for a file of no document there is `IsRefusedWithoutDocument`.
abbrev pub IsRefusedWhereShown : {T : Type 0} → Result T FileFault → List ℕ → List ℕ → List StoreRead → Type 0
IsRefusedWhereShown result root key reads =
    (fault : ReadFault) → IsShown root key fault reads → result ≡ Err (Refused fault)

-- the answer is BadIndex or NoMemory
abbrev pub IsBadIndexOrNoMemory : {T : Type 0} → Result T FileFault → Type 0
IsBadIndexOrNoMemory (Ok value) = ⊥
IsBadIndexOrNoMemory (Err NoMemory) = Unit {0}
IsBadIndexOrNoMemory (Err (Refused BadIndex)) = Unit {0}
IsBadIndexOrNoMemory (Err (Refused BadHeader)) = ⊥
IsBadIndexOrNoMemory (Err (Refused (WrongRoot want made))) = ⊥
IsBadIndexOrNoMemory (Err (Refused (WrongKey want made))) = ⊥
IsBadIndexOrNoMemory (Err (Refused (StoreShort to))) = ⊥
IsBadIndexOrNoMemory (Err (Refused StoreFault)) = ⊥
IsBadIndexOrNoMemory (Err (Refused (BadFragment index want made))) = ⊥

-- the answer is this document or NoMemory
abbrev pub IsDocumentOrNoMemory : Result Doc FileFault → Doc → Type 0
IsDocumentOrNoMemory (Ok doc) d = doc ≡ d
IsDocumentOrNoMemory (Err NoMemory) d = Unit {0}
IsDocumentOrNoMemory (Err (Refused fault)) d = ⊥

-- Where the reads show that the file is of no document, the answer is BadIndex or NoMemory.
abbrev pub IsRefusedWithoutDocument : {T : Type 0} → Result T FileFault → List ℕ → List ℕ → List StoreRead → Type 0
IsRefusedWithoutDocument result root key reads =
    ShowsNoDocument root key reads → IsBadIndexOrNoMemory result

-- Where the reads show a document, the answer is this document or NoMemory.
abbrev pub IsGivenWhereShown : Result Doc FileFault → List ℕ → List ℕ → List StoreRead → Type 0
IsGivenWhereShown result root key reads =
    (d : Doc) → ShowsDocument root key d reads → IsDocumentOrNoMemory result d

-- whether an answer is the refusal of a fragment by its digest
abbrev pub is_bad_fragment : {T : Type 0} → Result T FileFault → Bool
is_bad_fragment (Ok value) = false
is_bad_fragment (Err (Refused fault)) = refuses_fragment fault
is_bad_fragment (Err NoMemory) = false

-- ---- the order of the fragments

-- the openings are of the fragments in order from 0, one for each: of all fragments after Ok, and of the first ones
-- after an error
abbrev pub OpensInOrder : {T : Type 0} → Result T FileFault → List StoreRead → Type 0
OpensInOrder (Ok value) reads = indexes reads ≡ numbers_below (fragments_served reads)
OpensInOrder (Err fault) reads = (count : ℕ) × (indexes reads ≡ numbers_below count)

-- ---- what a store that holds the file may give

-- a fault that a store which holds the file may give: its own failure, or out of memory
abbrev pub IsHonestFault : FileFault → Type 0
IsHonestFault (Refused fault) = IsStoreFault fault
IsHonestFault NoMemory = Unit {0}

-- the fault is the store's own failure, and no other
abbrev pub IsStoreFailure : {T : Type 0} → Result T FileFault → Type 0
IsStoreFailure (Ok value) = ⊥
IsStoreFailure (Err (Refused fault)) = IsStoreFault fault
IsStoreFailure (Err NoMemory) = ⊥

-- Where the fault is not the store's own failure, the store's count of faults is as it was.
abbrev pub IsQuietFault : FileFault → ℕ → ℕ → Type 0
IsQuietFault (Refused fault) before after = IsQuietElse fault before after
IsQuietFault NoMemory before after = after ≡ before

-- ---- the stream alone

-- The reading ended in a stream: the reads are regular and whole. Header and stream are those of each document whose
-- file has the root, unless there is a clash with that one.
pub record IsStreamRead (header : Header) (root key stream : List ℕ) (reads : List StoreRead) : Type 0 where
  pub regular : IsRegular reads
  pub all_whole : list_all is_whole reads ≡ true
  pub gives : OfEachDocument root key reads
      (λ d. (header ≡ document_header d key) × (stream ≡ plain d))

-- why a fragment of a stream was refused, according to the reads
abbrev pub IsStreamCause : ReadFault → List StoreRead → Type 0
IsStreamCause (BadFragment index want made) reads =
    IsFetchCause index (BadFragment index want made) reads
IsStreamCause (StoreShort to) reads = IsCut to reads
IsStreamCause StoreFault reads = list_all is_whole reads ≡ true
IsStreamCause BadHeader reads = ⊥
IsStreamCause (WrongRoot want made) reads = ⊥
IsStreamCause (WrongKey want made) reads = ⊥
IsStreamCause BadIndex reads = ⊥

-- the reads are regular, and show why a stream was not read
abbrev pub IsStreamFault : FileFault → List StoreRead → Type 0
IsStreamFault (Refused fault) reads = IsRegular reads × IsStreamCause fault reads
IsStreamFault NoMemory reads = IsRegular reads

-- how the reading of a stream ended, according to the reads
abbrev pub StreamEnds : Result (Vec ℕ Global) FileFault → Header → List ℕ → List ℕ → List StoreRead → Type 0
StreamEnds (Ok stream) header top key reads =
    IsStreamRead header (root_by header top) key stream.items reads
StreamEnds (Err fault) header top key reads = IsStreamFault fault reads

-- how the reading ended where the store holds the file of document `d`: in its stream, or with a fault that such a
-- store may give
abbrev pub HeldEnds : Result (Vec ℕ Global) FileFault → Doc → Type 0
HeldEnds (Ok stream) d = stream.items ≡ plain d
HeldEnds (Err fault) d = IsHonestFault fault

-- `stream` is the first `count` fragments of the stream of each document whose file has the root, unless there is a
-- clash with that document
abbrev pub AreFirst : List ℕ → List ℕ → ℕ → List ℕ → List StoreRead → Type 0
AreFirst root key count stream reads =
    OfEachDocument root key reads (λ d. stream ≡ take (256 * count) (plain d))

-- the openings before are followed by those of the fragments in order from 0: of all fragments after Ok, and of the
-- first ones after an error
abbrev pub OpensAfter : {T : Type 0} → Result T FileFault → List ℕ → List StoreRead → Type 0
OpensAfter (Ok value) before reads =
    indexes reads ≡ numbers_below (fragments_served reads) ++ before
OpensAfter (Err fault) before reads =
    (count : ℕ) × (indexes reads ≡ numbers_below count ++ before)

-- this is true of the openings since an opener's start, where its store tells what it served
abbrev pub GoesOnInOrder : {T : Type 0} → Result T FileFault → Option (List StoreRead) → Option (List StoreRead) → Type 0
GoesOnInOrder result before after =
    IfSome before (λ old. IfSome after (λ new. OpensAfter result (indexes (since old)) (since new)))

-- What is true of an opener's reads after further reads of the file. After Ok they are checked against the root, and
-- the stream follows the plain bytes opened before. After `StoreFault` there are fewer further openings than the header
-- served has fragments, or the newest one didn't reach its goal.
abbrev pub ReadsAfter : Result (Vec ℕ Global) FileFault → Header → List ℕ → List ℕ → List StoreRead → List StoreRead → Type 0
ReadsAfter (Ok stream) header top key before reads =
    AreVerifiedUnder (root_by header top) header top reads
    × (plain_served key reads ≡ plain_served key before ++ stream.items)
ReadsAfter (Err (Refused StoreFault)) header top key before reads =
    (length (indexes reads) < fragments_served reads + length (indexes before))
    ⊎ (folded sha256 reads ≡ None)
ReadsAfter (Err (Refused BadHeader)) header top key before reads = Unit {0}
ReadsAfter (Err (Refused (WrongRoot want made))) header top key before reads = Unit {0}
ReadsAfter (Err (Refused (WrongKey want made))) header top key before reads = Unit {0}
ReadsAfter (Err (Refused (StoreShort to))) header top key before reads = Unit {0}
ReadsAfter (Err (Refused (BadFragment index want made))) header top key before reads = Unit {0}
ReadsAfter (Err (Refused BadIndex)) header top key before reads = Unit {0}
ReadsAfter (Err NoMemory) header top key before reads = Unit {0}

-- this is true of what an opener read since its start, where its store tells what it served
abbrev pub GoesOnReading : Result (Vec ℕ Global) FileFault → Header → List ℕ → List ℕ → Option (List StoreRead) → Option (List StoreRead) → Type 0
GoesOnReading result header top key before after =
    IfSome before (λ old. IfSome after (λ new.
    ReadsAfter result header top key (since old) (since new)))

-- what the reads show of a stream: after Ok they show the whole file, and the stream is its plain bytes; after
-- `StoreFault` they are unfinished
abbrev pub StreamShown : Result (Vec ℕ Global) FileFault → Header → List ℕ → List ℕ → List StoreRead → Type 0
StreamShown (Ok stream) header top key reads =
    IsWholeFile (root_by header top) key header top reads
    × (stream.items ≡ plain_served key reads)
StreamShown (Err (Refused StoreFault)) header top key reads = IsUnfinished reads
StreamShown (Err (Refused BadHeader)) header top key reads = Unit {0}
StreamShown (Err (Refused (WrongRoot want made))) header top key reads = Unit {0}
StreamShown (Err (Refused (WrongKey want made))) header top key reads = Unit {0}
StreamShown (Err (Refused (StoreShort to))) header top key reads = Unit {0}
StreamShown (Err (Refused (BadFragment index want made))) header top key reads = Unit {0}
StreamShown (Err (Refused BadIndex)) header top key reads = Unit {0}
StreamShown (Err NoMemory) header top key reads = Unit {0}
