-- What the reads alone show of a whole file. Defined by this project.
use Rattle.std.specs.Prelude.{◌≡◌, ◌⊎◌, ℕ, zero, suc, ◌<◌, true, None, List, [], ◌∷◌, length}
use Rattle.std.specs.List.{list_all}
use Rattle.sha2.specs.Sha256.{sha256}
use Rattle.acl_model.specs.declared.document.Doc.{Doc}
use Rattle.acl_outside.specs.Outside.{StoreRead}
use Rattle.merkle_chunks.specs.HeaderBytes.{fragment_count}
use Rattle.merkle_chunks.specs.File.{key_check}
use Rattle.merkle_chunks.specs.declared.header.Header.{Header}
use Rattle.skip_decode.specs.StreamOf.{IsStreamOf}
use Rattle.fragment_open.specs.Checked.{AreVerifiedUnder}
use Rattle.fragment_open.specs.Hashed.{folded}
use Rattle.fragment_open.specs.Openings.{indexes}
use Rattle.fragment_open.specs.Plain.{plain_served}
use Rattle.fragment_open.specs.Served.{fragments_served}
use Rattle.fragment_open.specs.CallReads.{is_whole}

-- the numbers below a number, the highest first
abbrev pub numbers_below : ℕ → List ℕ
numbers_below zero = []
numbers_below (suc n) = n ∷ numbers_below n

-- The reads show the whole file of a root and a key. They served this header and this top digest, of which the root is
-- made, and the header has the check of the key. All reads are whole. All fragments were opened in order from 0, each
-- once, and each opening was good.
pub record IsWholeFile (root key : List ℕ) (header : Header) (top : List ℕ) (reads : List StoreRead) : Type 0 where
  pub checked : AreVerifiedUnder root header top reads
  pub check_is : key_check key ≡ header.check
  pub all_whole : list_all is_whole reads ≡ true
  pub in_order : indexes reads ≡ numbers_below (fragment_count header)

-- The reads show a whole file, and its plain bytes are the stream of document `d`, with the numbers of the header
-- served.
pub record ShowsDocument (root key : List ℕ) (d : Doc) (reads : List StoreRead) : Type 0 where
  pub header : Header
  pub top : List ℕ
  pub whole_file : IsWholeFile root key header top reads
  pub stream : IsStreamOf d (plain_served key reads) header

-- The reads show a whole file, and its plain bytes are the stream of no document with the numbers of the header served.
pub record ShowsNoDocument (root key : List ℕ) (reads : List StoreRead) : Type 0 where
  pub header : Header
  pub top : List ℕ
  pub whole_file : IsWholeFile root key header top reads
  pub no_stream : (d : Doc) → ¬ IsStreamOf d (plain_served key reads) header

-- The reads are unfinished: they have fewer openings than the header served has fragments, or they have none, or the
-- newest one didn't reach its goal.
abbrev pub IsUnfinished : List StoreRead → Type 0
IsUnfinished reads = (length (indexes reads) < fragments_served reads) ⊎ (folded sha256 reads ≡ None)
