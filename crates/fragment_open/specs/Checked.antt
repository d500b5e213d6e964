-- Reads that were checked against a root, and reads of a store that holds a file. Defined by this project.
use Rattle.std.specs.Prelude.{◌≡◌, ℕ, Bool, true, false, Some, Result, Ok, Err, List, [], ◌∷◌, take, drop}
use Rattle.sha2.specs.Sha256.{sha256}
use Rattle.acl_outside.specs.Outside.{StoreRead}
use Rattle.acl_outside.specs.declared.read_fault.ReadFault.{ReadFault}
use Rattle.acl_outside.specs.declared.read_fault.ReadFault.TheVariants.{BadFragment, BadHeader, BadIndex, StoreFault, StoreShort, WrongKey, WrongRoot}
use Rattle.merkle_chunks.specs.HeaderBytes.{fragment_count}
use Rattle.merkle_chunks.specs.declared.header.Header.{Header}
use Rattle.fragment_open.specs.Openings.{openings}
use Rattle.fragment_open.specs.Served.{fragments_served, header_served, top_served}
use Rattle.fragment_open.specs.Good.{AllFoldAsWanted}
use Rattle.fragment_open.specs.Settled.{FoldAsWanted, root_by}

-- The reads served this header and this top digest, the root made of them is `root`, and each opening was good.
pub record AreVerifiedUnder (root : List ℕ) (header : Header) (top : List ℕ) (reads : List StoreRead) : Type 0 where
  pub header_is : header_served reads ≡ Some header
  pub top_is : top_served reads ≡ Some top
  pub root_is : root_by header top ≡ root
  pub good : AllFoldAsWanted sha256 (fragment_count header) top (openings reads)

-- each read gave the bytes of a file from its offset on, cut at the file's end
abbrev pub AreReadsOf : List ℕ → List StoreRead → Type 0
AreReadsOf file [] = Unit {0}
AreReadsOf file (read ∷ reads) = (read.bytes ≡ take read.asked (drop read.at file)) × AreReadsOf file reads

-- ---- each opening was checked

-- whether a fault is the refusal of a fragment by its digest
abbrev pub refuses_fragment : ReadFault → Bool
refuses_fragment (BadFragment index want made) = true
refuses_fragment BadHeader = false
refuses_fragment (WrongRoot want made) = false
refuses_fragment (WrongKey want made) = false
refuses_fragment (StoreShort at) = false
refuses_fragment StoreFault = false
refuses_fragment BadIndex = false

-- whether an answer is such a refusal
abbrev pub is_bad_fragment : {T : Type 0} → Result T ReadFault → Bool
is_bad_fragment (Ok value) = false
is_bad_fragment (Err fault) = refuses_fragment fault

-- The openings of reads were checked one by one: each but the newest was good. Where the newest reached its goal and is
-- not the refused one, it folds to the wanted digest.
pub record AllFoldUnlessRefused (refused : Bool) (reads : List StoreRead) : Type 0 where
  pub earlier : (top : List ℕ) → top_served reads ≡ Some top
      → AllFoldAsWanted sha256 (fragments_served reads) top (drop 1 (openings reads))
  pub newest : refused ≡ false → FoldAsWanted reads
