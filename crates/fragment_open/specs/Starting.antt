-- How a reader starts on a store: with the header and the top digest. Defined by this project.
use Rattle.std.specs.Prelude.{◌≡◌, ◌≢◌, ◌⊎◌, ℕ, true, Option, Some, None, option_map, option_and_then, List, [], ◌∷◌, map}
use Rattle.std.specs.List.{list_all, slice_get}
use Rattle.sha2.specs.Sha256.{sha256}
use Rattle.acl_model.specs.Document.{is_document}
use Rattle.acl_model.specs.Stream.{has_stream}
use Rattle.acl_model.specs.declared.document.Doc.{Doc}
use Rattle.aes_block.specs.Aes.{AreBytes}
use Rattle.acl_outside.specs.Outside.{StoreRead}
use Rattle.acl_outside.specs.declared.read_fault.ReadFault.{ReadFault}
use Rattle.acl_outside.specs.declared.read_fault.ReadFault.TheVariants.{BadFragment, BadHeader, BadIndex, StoreFault, StoreShort, WrongKey, WrongRoot}
use Rattle.merkle_chunks.specs.HeaderBytes.{fragment_count, header_bytes}
use Rattle.merkle_chunks.specs.File.{document_header, file, key_check}
use Rattle.merkle_chunks.specs.Strings.{root_string}
use Rattle.merkle_chunks.specs.Table.{top_level}
use Rattle.merkle_chunks.specs.declared.header.Header.{Header}
use Rattle.fragment_open.specs.Asks.{ask_of, header_ask, top_ask}
use Rattle.fragment_open.specs.Served.{IsRegular, header_served, root_served, top_served, whole}
use Rattle.fragment_open.specs.CallReads.{IsCut, is_whole}
use Rattle.fragment_open.specs.Held.{digest_held}

-- ---- what was read

-- The reads are the single read of a header, which is whole, and `header` is the header served.
pub record IsHeaderRead (header : Header) (reads : List StoreRead) : Type 0 where
  pub asked : map ask_of reads ≡ header_ask ∷ []
  pub served : header_served reads ≡ Some header
  pub all_whole : list_all is_whole reads ≡ true

-- a header was not read: its read was short, its bytes are not a header, or the store failed
abbrev pub IsNoHeader : ReadFault → List StoreRead → Type 0
IsNoHeader BadHeader reads = (map ask_of reads ≡ header_ask ∷ []) × (header_served reads ≡ None) × (list_all is_whole reads ≡ true)
IsNoHeader (StoreShort to) reads = (map ask_of reads ≡ header_ask ∷ []) × (header_served reads ≡ None) × IsCut to reads
IsNoHeader StoreFault reads = reads ≡ []
IsNoHeader (WrongRoot want made) reads = ⊥
IsNoHeader (WrongKey want made) reads = ⊥
IsNoHeader (BadFragment index want made) reads = ⊥
IsNoHeader BadIndex reads = ⊥

-- The reads are the single read of the top digest over n fragments, which is whole and gave `top`.
pub record IsTopRead (n : ℕ) (top : List ℕ) (reads : List StoreRead) : Type 0 where
  pub asked : map ask_of reads ≡ top_ask n ∷ []
  pub served : option_and_then (whole 32) (slice_get reads 0) ≡ Some top
  pub all_whole : list_all is_whole reads ≡ true

-- a top digest was not read: its read was short, or the store failed
abbrev pub IsNoTop : ℕ → ReadFault → List StoreRead → Type 0
IsNoTop n (StoreShort to) reads = (map ask_of reads ≡ top_ask n ∷ []) × IsCut to reads
IsNoTop n StoreFault reads = reads ≡ []
IsNoTop n BadHeader reads = ⊥
IsNoTop n (WrongRoot want made) reads = ⊥
IsNoTop n (WrongKey want made) reads = ⊥
IsNoTop n (BadFragment index want made) reads = ⊥
IsNoTop n BadIndex reads = ⊥

-- The reads are the two of a start, and are whole: that of the header, and that of the top digest for it. They served
-- these.
pub record IsStarted (header : Header) (top : List ℕ) (reads : List StoreRead) : Type 0 where
  pub asked : map ask_of reads ≡ header_ask ∷ top_ask (fragment_count header) ∷ []
  pub header_is : header_served reads ≡ Some header
  pub top_is : top_served reads ≡ Some top
  pub all_whole : list_all is_whole reads ≡ true

-- The reads are the two of a start: that of the header, which is the one served, and that of the top digest for it.
pub record AreOfStart (header : Header) (reads : List StoreRead) : Type 0 where
  pub served : header_served reads ≡ Some header
  pub asked : map ask_of reads ≡ header_ask ∷ top_ask (fragment_count header) ∷ []

-- Why a start under a root and a key was refused, according to its reads. `BadHeader`: the header's read is whole, and
-- served no header. `StoreShort`: the header's read was short, or the second of the two reads of a start. `StoreFault`:
-- there was no read, or only that of the header. `WrongRoot`: the two reads of a start are whole, and the root string
-- served has another digest than the root. `WrongKey`: they are whole, that digest is the root, and the key has another
-- check than the header.
abbrev pub IsStartCause : List ℕ → List ℕ → ReadFault → List StoreRead → Type 0
IsStartCause root key BadHeader reads = (map ask_of reads ≡ header_ask ∷ []) × (header_served reads ≡ None) × (list_all is_whole reads ≡ true)
IsStartCause root key (StoreShort to) reads =
    IsCut to reads × ((map ask_of reads ≡ header_ask ∷ []) ⊎ ((header : Header) × AreOfStart header reads))
IsStartCause root key StoreFault reads = (reads ≡ []) ⊎ ((header : Header) × IsHeaderRead header reads)
IsStartCause root key (WrongRoot want made) reads =
    (option_map sha256 (root_served reads) ≡ Some made) × (want ≡ root) × (want ≢ made)
    × ((header : Header) × AreOfStart header reads) × (list_all is_whole reads ≡ true)
IsStartCause root key (WrongKey want made) reads =
    (option_map sha256 (root_served reads) ≡ Some root) × (option_map (λ h. h.check) (header_served reads) ≡ Some want) × (made ≡ key_check key) × (want ≢ made)
    × ((header : Header) × AreOfStart header reads) × (list_all is_whole reads ≡ true)
IsStartCause root key (BadFragment index want made) reads = ⊥
IsStartCause root key BadIndex reads = ⊥

-- a start under a root and a key was refused: its reads are regular, and show the cause
abbrev pub IsNotStarted : List ℕ → List ℕ → ReadFault → List StoreRead → Type 0
IsNotStarted root key fault reads = IsRegular reads × IsStartCause root key fault reads

-- ---- what a store that holds a file gives

-- A store holds the file, under a key of 16 bytes, of a document that has a stream.
pub record HoldsDocument (held : Option (List ℕ)) (d : Doc) (key : List ℕ) : Type 0 where
  pub holds : held ≡ Some (file d key)
  pub document : is_document d ≡ true
  pub stream : has_stream d ≡ true
  pub key_bytes : AreBytes 16 key

-- A header and a top digest are those of a document's file under a key.
pub record IsHeadOf (d : Doc) (key : List ℕ) (header : Header) (top : List ℕ) : Type 0 where
  pub header_is : header ≡ document_header d key
  pub top_is : top ≡ digest_held d key (top_level (fragment_count header)) 0

-- ---- the checks of a start

-- The header, the top digest and the key are taken as they were given, the root made of the header and the top digest
-- is `root`, and the key has the header's check.
pub record IsHead (root key : List ℕ) (header : Header) (top : List ℕ) (taken : Header) (taken_top taken_key made : List ℕ) : Type 0 where
  pub header_is : taken ≡ header
  pub top_is : taken_top ≡ top
  pub key_is : taken_key ≡ key
  pub root_is : made ≡ root
  pub check_is : key_check key ≡ header.check

-- why a header and a top digest were refused: the root made of them is not `root`, or it is, and the key has another
-- check
abbrev pub IsHeadFault : List ℕ → List ℕ → List ℕ → List ℕ → ReadFault → Type 0
IsHeadFault root key check made (WrongRoot want other) = (want ≡ root) × (other ≡ made) × (want ≢ other)
IsHeadFault root key check made (WrongKey want other) = (made ≡ root) × (want ≡ check) × (other ≡ key_check key) × (want ≢ other)
IsHeadFault root key check made BadHeader = ⊥
IsHeadFault root key check made (StoreShort at) = ⊥
IsHeadFault root key check made StoreFault = ⊥
IsHeadFault root key check made (BadFragment index want other) = ⊥
IsHeadFault root key check made BadIndex = ⊥

-- The root made of the header and the top digest is `root`, and `taken_key` is the key, which has the header's check.
pub record IsUnder (root key : List ℕ) (header : Header) (top taken_key : List ℕ) : Type 0 where
  pub root_is : sha256 (root_string (header_bytes header) top) ≡ root
  pub key_is : taken_key ≡ key
  pub check_is : key_check key ≡ header.check
