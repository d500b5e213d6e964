-- Which raw attributes satisfy a comparison on attributes. Defined by this project, over the values of `acl_model`.
use Rattle.std.specs.Prelude.{ℕ, Bool, not, nat_eq, ◌&&◌, Option, Some, None, List, [], ◌∷◌, if◌then◌else◌}
use Rattle.std.specs.Cmp.Lexicographic.{pointwise}
use Rattle.std.specs.List.{before_first, after_first}
use Rattle.acl_model.specs.Predicates.{is_enough}
use Rattle.acl_model.specs.Values.{is_space, implied, gives_value, attribute_value}
use Rattle.acl_model.specs.declared.path.Cmp.{Cmp}

-- The raw attribute has the name and a value, and this value is enough: it satisfies the comparison, or there is none.
abbrev pub attribute_is_enough : List ℕ → Option Cmp → List ℕ → Bool
attribute_is_enough name cmp raw = gives_value name raw && is_enough cmp (attribute_value raw)

-- ---- an equivalent form, for one pass over the bytes

-- what follows the name and its space in a raw attribute of this name: the empty list where the attribute ends with its
-- name, and None where it has another name
abbrev pub after_name : List ℕ → List ℕ → Option (List ℕ)
after_name [] [] = Some []
after_name [] (b ∷ raw) = if is_space b then Some raw else None
after_name (n ∷ name) [] = None
after_name (n ∷ name) (b ∷ raw) =
    if nat_eq b n && not (is_space b) then after_name name raw else None

-- The bytes are a type other than IMPLIED and, after a space, a value that is enough.
abbrev pub typed_is_enough : Option Cmp → List ℕ → Bool
typed_is_enough cmp typed =
    not (pointwise nat_eq (before_first is_space typed) implied)
    && is_enough cmp (after_first is_space typed)
