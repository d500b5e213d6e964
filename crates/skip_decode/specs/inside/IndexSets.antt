-- Sets of indexes, with a flag for each index. Defined by this project.
use Rattle.std.specs.Prelude.{◌≡◌, ℕ, suc, Bool, false, nat_eq, if◌then◌else◌, Option, None, Some, IfSome, List, [], ◌∷◌, get_or}
use Rattle.std.specs.List.{list_any}
use Rattle.std.proofs.Props.{props}
use Rattle.acl_outside.specs.declared.read_fault.ReadFault.{ReadFault}
use Rattle.skip_decode.specs.Different.{different}

-- how many of the flags are set
unfoldable pub set_count : List Bool → ℕ
set_count [] = 0
set_count (flag ∷ flags) = if flag then suc (set_count flags) else set_count flags

-- The flags are those of the set of the numbers in a list.
pub record AreFlagsOf (members : List ℕ) (flags : List Bool) : Type 0 where
  -- The flag of an index is set exactly where the list has the index.
  pub each : (index : ℕ) → get_or flags index false ≡ list_any (nat_eq index) members
  -- As many flags are set as the list has different numbers.
  pub many : set_count flags ≡ different members

-- Where nothing was refused, the flags are those of the set of the fragments opened, if these are told.
abbrev pub FlagOpened : Option ReadFault → Option (List ℕ) → List Bool → Type 0
FlagOpened fault opened flags = fault ≡ None → IfSome opened (λ indexes. AreFlagsOf indexes flags)

-- "the flags are those of the set of the fragments opened" has at most one proof
pub FlagOpened-prop : (fault : Option ReadFault) (opened : Option (List ℕ)) (flags : List Bool)
    → IsProp (FlagOpened fault opened flags)
FlagOpened-prop fault None flags = hlevel props
FlagOpened-prop fault (Some indexes) flags = hlevel props
