-- Propositions about an opener's reads have at most one proof each.
use Rattle.std.proofs.Common.{ℕ, List, [], ◌∷◌}
use Rattle.std.specs.Prelude.{Option, Some, None}
use Rattle.std.proofs.Props.{props}
use Rattle.sha2.specs.Sha256.{sha256}
use Rattle.acl_model.specs.declared.document.Doc.{Doc}
use Rattle.acl_outside.specs.Outside.{StoreRead}
use Rattle.acl_outside.specs.declared.read_fault.ReadFault.{ReadFault}
use Rattle.acl_outside.specs.declared.read_fault.ReadFault.TheVariants.{BadFragment, BadHeader, BadIndex, StoreFault, StoreShort, WrongKey, WrongRoot}
use Rattle.merkle_chunks.specs.HeaderBytes.{fragment_count}
use Rattle.merkle_chunks.specs.declared.header.Header.{Header}
use Rattle.fragment_open.specs.declared.kept.Kept.{Kept}
use Rattle.fragment_open.specs.Openings.{Opening, openings}
use Rattle.fragment_open.specs.CallReads.{IsFetchFault, IsOfFetch}
use Rattle.fragment_open.specs.Good.{AllFoldAsWanted}
use Rattle.fragment_open.specs.Held.{IsStoreFault}
use Rattle.fragment_open.specs.Settled.{AreHeld, IsQuiet, IsQuietIfHeld, IsKept, IsKeptOf, IsSettled, Settled, since}

-- "each opening is good" has at most one proof
pub AllFoldAsWanted-prop : (n : ℕ) (top : List ℕ) (os : List Opening) → IsProp (AllFoldAsWanted sha256 n top os)
AllFoldAsWanted-prop n top [] = hlevel props
AllFoldAsWanted-prop n top (o ∷ os) = let rest = AllFoldAsWanted-prop n top os in hlevel (props, rest)

-- "what is kept is of the newest opening" has at most one proof
pub IsKept-prop : (n : ℕ) (kept : Option Kept) (os : List Opening) → IsProp (IsKept n kept os)
IsKept-prop n None [] = hlevel props
IsKept-prop n None (o ∷ os) = hlevel props
IsKept-prop n (Some kept) [] = hlevel props
IsKept-prop n (Some kept) (o ∷ os) = hlevel props

-- "the reads are those of an opener that refused nothing" has at most one proof
pub IsSettled-prop : (header : Header) (top : List ℕ) (kept : Option Kept) (reads : List StoreRead) → IsProp (IsSettled header top kept reads)
IsSettled-prop header top kept reads =
    let good = AllFoldAsWanted-prop (fragment_count header) top (openings reads) in
    let is = IsKept-prop (fragment_count header) kept (openings reads) in
    hlevel (props, good, is)

-- the same for an opener that may have refused, or whose store may not tell what it served
pub Settled-prop : (served : Option (List StoreRead)) (header : Header) (top : List ℕ) (kept : Option Kept) (fault : Option ReadFault) → IsProp (Settled served header top kept fault)
Settled-prop None header top kept fault = hlevel props
Settled-prop (Some all) header top kept (Some fault) = hlevel props
Settled-prop (Some all) header top kept None = IsSettled-prop header top kept (since all)

-- "what is kept is the file's" has at most one proof
pub IsKeptOf-prop : (d : Doc) (key : List ℕ) (top : ℕ) (kept : Option Kept) → IsProp (IsKeptOf d key top kept)
IsKeptOf-prop d key top None = hlevel props
IsKeptOf-prop d key top (Some kept) = hlevel props

-- "header, top digest and what is kept are those of the held file" has at most one proof
pub AreHeld-prop : (held : Option (List ℕ)) (header : Header) (top key : List ℕ) (kept : Option Kept) → IsProp (AreHeld held header top key kept)
AreHeld-prop held header top key kept = hlevel (props, IsKeptOf-prop)

-- "the fault is the store's own failure" has at most one proof
IsStoreFault-prop : (fault : ReadFault) → IsProp (IsStoreFault fault)
IsStoreFault-prop StoreFault = hlevel props
IsStoreFault-prop _ = hlevel props

-- "there is no refusal, or it is the store's own failure" has at most one proof
pub IsQuiet-prop : (fault : Option ReadFault) → IsProp (IsQuiet fault)
IsQuiet-prop None = hlevel props
IsQuiet-prop (Some fault) = IsStoreFault-prop fault

-- the same where the store holds the file
pub IsQuietIfHeld-prop : (held : Option (List ℕ)) (header : Header) (top key : List ℕ) (fault : Option ReadFault) → IsProp (IsQuietIfHeld held header top key fault)
IsQuietIfHeld-prop held header top key fault = hlevel (props, IsQuiet-prop)

-- "the fault is that of a fetch" has at most one proof
IsFetchFault-prop : (fault : ReadFault) → IsProp (IsFetchFault fault)
IsFetchFault-prop StoreFault = hlevel props
IsFetchFault-prop (StoreShort at) = hlevel props
IsFetchFault-prop (BadFragment index want made) = hlevel props
IsFetchFault-prop BadHeader = hlevel props
IsFetchFault-prop (WrongRoot want made) = hlevel props
IsFetchFault-prop (WrongKey want made) = hlevel props
IsFetchFault-prop BadIndex = hlevel props

-- "there is no fault, or it is that of a fetch" has at most one proof
pub IsOfFetch-prop : (fault : Option ReadFault) → IsProp (IsOfFetch fault)
IsOfFetch-prop None = hlevel props
IsOfFetch-prop (Some fault) = IsFetchFault-prop fault
