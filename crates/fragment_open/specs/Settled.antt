-- What is true of an opener's reads between its calls, and how a call of it ends. Defined by this project.
use Rattle.std.specs.Prelude.{◌≡◌, ◌≢◌, ◌⊎◌, ℕ, ◌/◌, ◌<◌, Bool, true, false, ◌&&◌, nat_eq, nat_lt, if◌then◌else◌, is_some, Option, Some, None, IfSome, Result, Ok, Err, List, [], ◌∷◌, ◌++◌, map, slice_index_or}
use Rattle.std.specs.List.{list_all, list_any}
use Rattle.sha2.specs.Sha256.{sha256}
use Rattle.acl_model.specs.Document.{is_document}
use Rattle.acl_model.specs.Stream.{plain}
use Rattle.acl_model.specs.declared.document.Doc.{Doc}
use Rattle.acl_outside.specs.Outside.{StoreRead}
use Rattle.acl_outside.specs.declared.read_fault.ReadFault.{ReadFault}
use Rattle.acl_outside.specs.declared.read_fault.ReadFault.TheVariants.{BadFragment, BadHeader, BadIndex, StoreFault, StoreShort, WrongKey, WrongRoot}
use Rattle.merkle_chunks.specs.HeaderBytes.{fragment_count, header_bytes}
use Rattle.merkle_chunks.specs.File.{HasRoot, file_root}
use Rattle.merkle_chunks.specs.Strings.{root_string}
use Rattle.merkle_chunks.specs.Table.{fragments, top_level}
use Rattle.merkle_chunks.specs.declared.header.Header.{Header}
use Rattle.fragment_open.specs.declared.kept.Kept.{Kept}
use Rattle.fragment_open.specs.Openings.{Opening, index_of, indexes, openings}
use Rattle.fragment_open.specs.Plain.{newest_plain, plain_served}
use Rattle.fragment_open.specs.Asks.{ask_of}
use Rattle.fragment_open.specs.Served.{IsRegular, asks_by, header_served, top_served}
use Rattle.fragment_open.specs.Hashed.{chunk_digest, folded, wanted}
use Rattle.fragment_open.specs.Good.{AllFoldAsWanted}
use Rattle.fragment_open.specs.Clash.{reads_clash}
use Rattle.fragment_open.specs.CallReads.{IsCut, is_whole}
use Rattle.fragment_open.specs.Held.{IsStoreFault, digest_held}
use Rattle.fragment_open.specs.Starting.{HoldsDocument, IsHeadOf}

-- ---- the reads of one opener

-- whether a read asks for a header. Only the first read of an opener does.
abbrev pub is_start : StoreRead → Bool
is_start read = nat_eq read.asked 64

-- the reads from the last one on that asked for a header: those of the newest opener
unfoldable pub since : List StoreRead → List StoreRead
since [] = []
since (read ∷ reads) = if list_any is_start reads then since reads else read ∷ reads

-- the root that a header and a top digest make
abbrev pub root_by : Header → List ℕ → List ℕ
root_by header top = sha256 (root_string (header_bytes header) top)

-- ---- between calls

-- What is kept is of the newest opening: the number of its chunk and, where there are levels above, the chunk's digest.
-- Something is kept exactly where there is an opening.
abbrev pub IsKept : ℕ → Option Kept → List Opening → Type 0
IsKept n None [] = Unit {0}
IsKept n None (opening ∷ before) = ⊥
IsKept n (Some kept) [] = ⊥
IsKept n (Some kept) (opening ∷ before) = (kept.chunk ≡ index_of opening / 16) × (4 < top_level n → chunk_digest sha256 n (opening ∷ before) ≡ Some kept.digest)

-- The reads of an opener are settled under a header and a top digest: nothing was refused. They served these two, are
-- exactly those that an opener makes for these openings, and are whole. Each opening was good, and what is kept is of
-- the newest.
pub record IsSettled (header : Header) (top : List ℕ) (kept : Option Kept) (reads : List StoreRead) : Type 0 where
  pub header_is : header_served reads ≡ Some header
  pub top_is : top_served reads ≡ Some top
  pub asked : map ask_of reads ≡ asks_by (Some header) (indexes reads)
  pub all_whole : list_all is_whole reads ≡ true
  pub good : AllFoldAsWanted sha256 (fragment_count header) top (openings reads)
  pub kept_is : IsKept (fragment_count header) kept (openings reads)

-- the reads of an opener that has not refused are settled, where the store tells what it served
abbrev pub Settled : Option (List StoreRead) → Header → List ℕ → Option Kept → Option ReadFault → Type 0
Settled None header top kept fault = Unit {0}
Settled (Some all) header top kept (Some fault) = Unit {0}
Settled (Some all) header top kept None = IsSettled header top kept (since all)

-- the kept digest is that of the file's chunk, where there are levels above a chunk
abbrev pub IsKeptOf : Doc → List ℕ → ℕ → Option Kept → Type 0
IsKeptOf d key top None = Unit {0}
IsKeptOf d key top (Some kept) = 4 < top → kept.digest ≡ digest_held d key 4 kept.chunk

-- Where the store holds the file of a document under the key, with the root made of header and top digest, these two
-- and what is kept are the file's.
abbrev pub AreHeld : Option (List ℕ) → Header → List ℕ → List ℕ → Option Kept → Type 0
AreHeld held header top key kept =
    (d : Doc) → HoldsDocument held d key → file_root d key ≡ root_by header top
    → IsHeadOf d key header top × IsKeptOf d key (top_level (fragment_count header)) kept

-- ---- how a call ends

-- A fragment was opened. The reads are those that an opener makes, and are whole. The newest opening is of this
-- fragment and folds to the wanted digest, and the bytes are its plain bytes. They are the fragment of each document
-- whose file has the root, unless there is a clash with its strings.
pub record IsFetched (index : ℕ) (header : Header) (top key bytes : List ℕ) (reads : List StoreRead) : Type 0 where
  pub regular : IsRegular reads
  pub all_whole : list_all is_whole reads ≡ true
  pub newest : (before : List ℕ) × (indexes reads ≡ index ∷ before)
  pub folds : folded sha256 reads ≡ wanted sha256 reads
  pub there : is_some (folded sha256 reads) ≡ true
  pub plain_is : newest_plain key (openings reads) ≡ Some bytes
  pub gives : (d : Doc) → is_document d ≡ true → HasRoot d key (root_by header top) → reads_clash reads d key ≡ false
      → bytes ≡ slice_index_or (fragments (plain d)) index []

-- the reads show no refusal: where the newest opening reached its goal, it folds to the wanted digest
abbrev pub FoldAsWanted : List StoreRead → Type 0
FoldAsWanted reads = (made : List ℕ) → folded sha256 reads ≡ Some made → wanted sha256 reads ≡ Some made

-- Why a fragment was refused, according to the reads. `StoreShort`: the last read is short, and the reads show no
-- refusal. `StoreFault`: all are whole, and they show no refusal. `BadFragment`: all are whole, and the newest opening
-- is of this fragment and folds to another digest than the wanted one.
abbrev pub IsFetchCause : ℕ → ReadFault → List StoreRead → Type 0
IsFetchCause index (StoreShort to) reads = IsCut to reads × FoldAsWanted reads
IsFetchCause index StoreFault reads = (list_all is_whole reads ≡ true) × FoldAsWanted reads
IsFetchCause index (BadFragment refused want made) reads =
    (refused ≡ index) × (list_all is_whole reads ≡ true) × ((before : List ℕ) × (indexes reads ≡ index ∷ before))
    × (folded sha256 reads ≡ Some made) × (wanted sha256 reads ≡ Some want) × (want ≢ made)
IsFetchCause index BadHeader reads = ⊥
IsFetchCause index (WrongRoot want made) reads = ⊥
IsFetchCause index (WrongKey want made) reads = ⊥
IsFetchCause index BadIndex reads = ⊥

-- the answer of an opener that had not refused, and its reads after the call
abbrev pub FetchEnds : {T : Type 0} → Result T ReadFault → ℕ → Header → List ℕ → List ℕ → List ℕ → List StoreRead → Type 0
FetchEnds (Ok done) index header top key bytes reads = IsFetched index header top key bytes reads
FetchEnds (Err fault) index header top key bytes reads = IsRegular reads × IsFetchCause index fault reads

-- what a call adds to the indexes of the openings (the newest first): its own fragment after Ok, and that one or none
-- after a refusal
abbrev pub OpensOne : {T : Type 0} → Result T ReadFault → ℕ → List ℕ → List ℕ → Type 0
OpensOne (Ok done) index before after = after ≡ index ∷ before
OpensOne (Err fault) index before after = (after ≡ index ∷ before) ⊎ (after ≡ before)

-- a call adds this to the openings since the opener's start, where the store tells what it served before and after
abbrev pub Opens : {T : Type 0} → Result T ReadFault → ℕ → Option (List StoreRead) → Option (List StoreRead) → Type 0
Opens result index before after =
    IfSome before (λ old. IfSome after (λ new. OpensOne result index (indexes (since old)) (indexes (since new))))

-- after Ok the plain bytes of the openings since the opener's start are those before the call, followed by the bytes
-- that the call gave
abbrev pub AddsPlain : {T : Type 0} → Result T ReadFault → List ℕ → List ℕ → Option (List StoreRead) → Option (List StoreRead) → Type 0
AddsPlain (Ok done) key bytes before after =
    IfSome before (λ old. IfSome after (λ new.
    plain_served key (since new) ≡ plain_served key (since old) ++ bytes))
AddsPlain (Err fault) key bytes before after = Unit {0}

-- a call left its fragment unopened: it added no opening, or the newest opening didn't reach its goal
abbrev pub CompletesNone : Option (List StoreRead) → Option (List StoreRead) → Type 0
CompletesNone before after =
    IfSome before (λ old. IfSome after (λ new.
    (indexes (since new) ≡ indexes (since old)) ⊎ (folded sha256 (since new) ≡ None)))

-- ---- the goal of the next opening, given what is kept

-- whether it goes up only to its chunk: there are levels above, and the digest of that chunk is kept
abbrev pub goes_to_chunk : ℕ → ℕ → Option Kept → Bool
goes_to_chunk top index None = false
goes_to_chunk top index (Some kept) = nat_lt 4 top && nat_eq (index / 16) kept.chunk

-- the digest that is wanted at its goal: the kept one, or the top digest
abbrev pub want_by : ℕ → ℕ → Option Kept → List ℕ → List ℕ
want_by level index None top = top
want_by level index (Some kept) top = if goes_to_chunk level index (Some kept) then kept.digest else top

-- ---- refusals under a store that holds the file

-- there is no refusal, or it is the store's own failure
abbrev pub IsQuiet : Option ReadFault → Type 0
IsQuiet None = Unit {0}
IsQuiet (Some fault) = IsStoreFault fault

-- Where the store holds the file of a document under the key, with the root made of header and top digest, there is no
-- refusal but the store's own failure.
abbrev pub IsQuietIfHeld : Option (List ℕ) → Header → List ℕ → List ℕ → Option ReadFault → Type 0
IsQuietIfHeld held header top key fault = (d : Doc) → HoldsDocument held d key → file_root d key ≡ root_by header top → IsQuiet fault
