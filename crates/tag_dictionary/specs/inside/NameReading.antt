-- How the names of a dictionary section are read from its bytes, one after the other. Defined by this project. The
-- format itself is `dictionary_section` of `acl_model`. The proofs show that reading a section returns its names.
use Rattle.std.specs.Prelude.{ℕ, zero, suc, Bool, not, ◌&&◌, nat_le, Option, None, Some, List, [], ◌∷◌, ◌++◌, length, take, drop, if◌then◌else◌}
use Rattle.std.specs.Option.{option_and_then}
use Rattle.acl_model.specs.Names.{is_name}
use Rattle.acl_model.specs.Dictionary.{has_name}

-- The bytes begin with a length byte and as many bytes as it says. The result is those bytes and the rest, or None where
-- there are too few.
abbrev pub cut_name : List ℕ → Option (List ℕ × List ℕ)
cut_name [] = None
cut_name (count ∷ bytes) = if nat_le count (length bytes) then Some (take count bytes, drop count bytes) else None

-- The bytes have the form of a name, and are none of these names.
abbrev pub may_join : List (List ℕ) → List ℕ → Bool
may_join names name = is_name name && not (has_name names name)

-- The names, followed by the given number of names that are read from the bytes. None where one of them can't be read or
-- may not be added, or where bytes are left.
unfoldable pub read_names : ℕ → List (List ℕ) → List ℕ → Option (List (List ℕ))
read_names zero names [] = Some names
read_names zero names (b ∷ bytes) = None
read_names (suc n) names bytes =
    option_and_then (λ p. if may_join names p.0 then read_names n (names ++ (p.0 ∷ [])) p.1 else None) (cut_name bytes)
