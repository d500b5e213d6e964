-- How far an opening has been hashed, according to its reads. Defined by this project.
use Rattle.std.specs.Prelude.{◌≡◌, ◌⊎◌, ℕ, ◌≤◌, true, if◌then◌else◌, Some, None, option_and_then, List, [], ◌∷◌, ◌++◌, map}
use Rattle.std.specs.List.{list_all, slice_get}
use Rattle.sha2.specs.Sha256.{sha256}
use Rattle.acl_outside.specs.Outside.{StoreRead}
use Rattle.acl_outside.specs.declared.read_fault.ReadFault.{ReadFault}
use Rattle.acl_outside.specs.declared.read_fault.ReadFault.TheVariants.{BadFragment, BadHeader, BadIndex, StoreFault, StoreShort, WrongKey, WrongRoot}
use Rattle.merkle_chunks.specs.Strings.{absent_child}
use Rattle.fragment_open.specs.Openings.{Opening}
use Rattle.fragment_open.specs.Asks.{ask_of, has_sibling, leaf_ask, sibling_ask, sibling_asks}
use Rattle.fragment_open.specs.Served.{whole}
use Rattle.fragment_open.specs.Hashed.{digest_at}
use Rattle.fragment_open.specs.CallReads.{IsCut, is_whole}

-- The reads are those of an opening of fragment i up to a level: of its bytes and of its siblings below that level,
-- with the asks for a file of n fragments.
pub record IsAsked (n i level : ℕ) (opening : Opening) (reads : List StoreRead) : Type 0 where
  pub all : reads ≡ opening.leaf ∷ opening.siblings
  pub leaf : ask_of opening.leaf ≡ leaf_ask i
  pub siblings : map ask_of opening.siblings ≡ sibling_asks n i level

-- The reads are those of an opening of fragment i up to a level, all are whole, and its digest on that level is
-- `digest`.
pub record IsClimbed (n i level : ℕ) (digest : List ℕ) (reads : List StoreRead) : Type 0 where
  pub opening : Opening
  pub asked : IsAsked n i level opening reads
  pub all_whole : list_all is_whole reads ≡ true
  pub folds : digest_at sha256 n opening level ≡ Some digest

-- The reads are the first ones of an opening of fragment i with a goal, and give no digest at the goal.
pub record IsBegun (n i goal : ℕ) (reads : List StoreRead) : Type 0 where
  pub opening : Opening
  pub level : ℕ
  pub low : level ≤ goal
  pub asked : IsAsked n i level opening reads
  pub lacks : digest_at sha256 n opening goal ≡ None

-- An opening with a goal ended by a fault of the store: the last read was short, or all are whole and the store failed.
abbrev pub IsEnded : ℕ → ℕ → ℕ → ReadFault → List StoreRead → Type 0
IsEnded n i goal (StoreShort to) reads = IsBegun n i goal reads × IsCut to reads
IsEnded n i goal StoreFault reads = IsBegun n i goal reads × (list_all is_whole reads ≡ true)
IsEnded n i goal BadHeader reads = ⊥
IsEnded n i goal (WrongRoot want made) reads = ⊥
IsEnded n i goal (WrongKey want made) reads = ⊥
IsEnded n i goal (BadFragment index want made) reads = ⊥
IsEnded n i goal BadIndex reads = ⊥

-- `more` reads take an opening from one level and its digest to another level and its digest
abbrev pub Climbs : ℕ → ℕ → ℕ → List ℕ → ℕ → List ℕ → List StoreRead → Type 0
Climbs n i low digest high above more = (reads : List StoreRead) → IsClimbed n i low digest reads → IsClimbed n i high above (reads ++ more)

-- with `more` reads an opening with a goal ends by a fault of the store
abbrev pub Ends : ℕ → ℕ → ℕ → List ℕ → ℕ → ReadFault → List StoreRead → Type 0
Ends n i low digest goal fault more = (reads : List StoreRead) → IsClimbed n i low digest reads → IsEnded n i goal fault (reads ++ more)

-- the reads for a sibling at a level gave its digest: no read (and zeros) where the table doesn't have it, and
-- elsewhere one, which is whole
pub record IsSibling (n i level : ℕ) (digest : List ℕ) (reads : List StoreRead) : Type 0 where
  pub asked : map ask_of reads ≡ sibling_ask n i level
  pub gives : (if has_sibling n i level then option_and_then (whole 32) (slice_get reads 0) else Some absent_child) ≡ Some digest
  pub all_whole : list_all is_whole reads ≡ true

-- the reads for a sibling that was not given: a short one, or none where the table has the sibling and the store failed
abbrev pub LacksSibling : ℕ → ℕ → ℕ → ReadFault → List StoreRead → Type 0
LacksSibling n i level (StoreShort to) reads = (map ask_of reads ≡ sibling_ask n i level) × IsCut to reads
LacksSibling n i level StoreFault reads = (reads ≡ []) × (has_sibling n i level ≡ true)
LacksSibling n i level BadHeader reads = ⊥
LacksSibling n i level (WrongRoot want made) reads = ⊥
LacksSibling n i level (WrongKey want made) reads = ⊥
LacksSibling n i level (BadFragment index want made) reads = ⊥
LacksSibling n i level BadIndex reads = ⊥

-- the position of a digest in a table: the number of fragments and the fragment are as before, and the level is `level`
abbrev pub IsNext : ℕ → ℕ → ℕ → ℕ → ℕ → ℕ → Type 0
IsNext n i level fragments index at = (fragments ≡ n) × (index ≡ i) × (at ≡ level)

-- An opening of fragment i reached its goal. All its reads are whole, and they gave these enciphered bytes, and
-- `digest` as the digest at the goal. Where the goal isn't below level 4, the digest on that level is `chunk`.
pub record IsOpened (n i goal : ℕ) (cipher chunk digest : List ℕ) (reads : List StoreRead) : Type 0 where
  pub opening : Opening
  pub asked : IsAsked n i goal opening reads
  pub bytes : opening.leaf.bytes ≡ cipher
  pub all_whole : list_all is_whole reads ≡ true
  pub folds : digest_at sha256 n opening goal ≡ Some digest
  pub folds_chunk : 4 ≤ goal → digest_at sha256 n opening 4 ≡ Some chunk

-- An opening of fragment i ended by a fault of the store, possibly before its first read.
abbrev pub IsNotOpened : ℕ → ℕ → ℕ → ReadFault → List StoreRead → Type 0
IsNotOpened n i goal (StoreShort to) reads = IsBegun n i goal reads × IsCut to reads
IsNotOpened n i goal StoreFault reads = (reads ≡ []) ⊎ (IsBegun n i goal reads × (list_all is_whole reads ≡ true))
IsNotOpened n i goal BadHeader reads = ⊥
IsNotOpened n i goal (WrongRoot want made) reads = ⊥
IsNotOpened n i goal (WrongKey want made) reads = ⊥
IsNotOpened n i goal (BadFragment index want made) reads = ⊥
IsNotOpened n i goal BadIndex reads = ⊥
