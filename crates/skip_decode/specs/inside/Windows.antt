-- The fragment that is held of a stream. Defined by this project.
use Rattle.std.specs.Prelude.{◌≡◌, ℕ, ◌+◌, ◌-◌, ◌/◌, ◌≤◌, ◌⊎◌, zero, suc, nat_eq, if◌then◌else◌, Option, None, Some, List, [], ◌∷◌}
use Rattle.std.specs.Option.{option_map}
use Rattle.acl_outside.specs.declared.read_fault.ReadFault.{ReadFault}
use Rattle.std.proofs.Props.{props}
use Rattle.skip_decode.specs.Fragments.{ForEach, fragment_of}

-- The bytes held are those of the fragment at this index, if there is one.
abbrev pub IsHeld : (List ℕ → Type 0) → List ℕ → Option ℕ → Type 0
IsHeld may_be held None = Unit {0}
IsHeld may_be held (Some index) = ForEach may_be (λ stream. held ≡ fragment_of stream index)

-- "the bytes held are those of that fragment" has at most one proof
pub IsHeld-prop : (may_be : List ℕ → Type 0) (held : List ℕ) (at : Option ℕ) → IsProp (IsHeld may_be held at)
IsHeld-prop may_be held None = hlevel props
IsHeld-prop may_be held (Some index) = hlevel props

-- ---- the fragments opened, the newest first

-- The newest of the fragments opened is the one held.
abbrev pub IsNewest : Option ℕ → Option (List ℕ) → Type 0
IsNewest at None = Unit {0}
IsNewest None (Some []) = Unit {0}
IsNewest None (Some (newest ∷ before)) = ⊥
IsNewest (Some index) (Some []) = ⊥
IsNewest (Some index) (Some (newest ∷ before)) = index ≡ newest

-- Where nothing was refused, the newest of the fragments opened is the one held.
abbrev pub IsNewestUnless : Option ReadFault → Option ℕ → Option (List ℕ) → Type 0
IsNewestUnless fault at opened = fault ≡ None → IsNewest at opened

-- "the newest is the one held" has at most one proof
pub IsNewestUnless-prop : (fault : Option ReadFault) (at : Option ℕ) (opened : Option (List ℕ))
    → IsProp (IsNewestUnless fault at opened)
IsNewestUnless-prop fault None None = hlevel props
IsNewestUnless-prop fault (Some index) None = hlevel props
IsNewestUnless-prop fault None (Some []) = hlevel props
IsNewestUnless-prop fault None (Some (newest ∷ before)) = hlevel props
IsNewestUnless-prop fault (Some index) (Some []) = hlevel props
IsNewestUnless-prop fault (Some index) (Some (newest ∷ before)) = hlevel props

-- the fragments opened, once the one at this index is held
unfoldable pub touch : ℕ → List ℕ → List ℕ
touch index [] = index ∷ []
touch index (newest ∷ before) = if nat_eq index newest then newest ∷ before else index ∷ newest ∷ before

-- the same after so many fragments in order from the first on
unfoldable pub touch_from : ℕ → ℕ → List ℕ → List ℕ
touch_from zero first opened = opened
touch_from (suc more) first opened = touch_from more (first + 1) (touch first opened)

-- how many fragments have one of the n bytes from a byte offset on
abbrev pub fragments_over : ℕ → ℕ → ℕ
fragments_over place n = if nat_eq n 0 then 0 else (place + n - 1) / 256 - place / 256 + 1

-- the fragments opened, after the n bytes from a byte offset on were read
abbrev pub touched : ℕ → ℕ → List ℕ → List ℕ
touched place n opened = touch_from (fragments_over place n) (place / 256) opened

-- The fragments opened are the same, or what the function makes of them.
abbrev pub OpensSame : (List ℕ → List ℕ) → Option (List ℕ) → Option (List ℕ) → Type 0
OpensSame more before after = (after ≡ before) ⊎ (after ≡ option_map more before)

-- ---- what calls read, one after the other

-- Since a moment at which the fragments opened were `first`, exactly the bytes from one byte offset up to another were
-- read. The newest of the fragments opened is the one held.
pub record HasRead (first : Option (List ℕ)) (start to : ℕ) (at : Option ℕ) (opened : Option (List ℕ)) : Type 0 where
  pub rises : start ≤ to
  pub newest : IsNewest at opened
  pub opens : opened ≡ option_map (touched start (to - start)) first

-- Since such a moment, so many bytes from a byte offset on were read.
pub record HasReadSome (first : Option (List ℕ)) (start : ℕ) (opened : Option (List ℕ)) : Type 0 where
  pub count : ℕ
  pub opens : opened ≡ option_map (touched start count) first

-- Since such a moment, so many bytes from a byte offset on were read or asked for. They end at or before another byte
-- offset.
pub record HasReadWithin (first : Option (List ℕ)) (start to : ℕ) (opened : Option (List ℕ)) : Type 0 where
  pub count : ℕ
  pub within : start + count ≤ to
  pub opens : opened ≡ option_map (touched start count) first

-- What is true after a call where exactly the bytes up to a byte offset were read before it, from whichever moment on.
abbrev pub AfterReads : ℕ → Option ℕ → Option (List ℕ) → (Option (List ℕ) → ℕ → Type 0) → Type 0
AfterReads place at opened so =
    (first : Option (List ℕ)) (start : ℕ) → HasRead first start place at opened → so first start
