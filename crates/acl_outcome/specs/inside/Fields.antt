-- The fields of the definitions that the fields of the code represent.
use Rattle.std.specs.Prelude.{ℕ, List, [], ◌∷◌, decimal}
use Rattle.hex.specs.Hex.{encode_lower}
use Rattle.acl_outcome.specs.Outcome as word
use Rattle.acl_outcome.specs.declared.outcome_line.Value.{Value}
use Rattle.acl_outcome.specs.declared.outcome_line.Value.TheVariants.{Number, Digest, Check}
use Rattle.acl_outcome.specs.declared.outcome_line.Field.{Field}
use Rattle.acl_outcome.specs.declared.outcome_line.Fields.{Fields}
use Rattle.acl_outcome.specs.declared.outcome_line.Fields.TheVariants.{Absent, One, Two, Three}

-- the text of a value, in decimal or in lower-case hexadecimal
abbrev pub value_text : Value → List ℕ
value_text (Number n) = decimal n
value_text (Digest bytes) = encode_lower bytes.now
value_text (Check bytes) = encode_lower bytes.now

-- the field of the definitions that a field of the code represents
abbrev pub meant_field : Field → word.Field
meant_field field = record { name = field.name.now; text = value_text field.value }

-- the fields of the definitions that the fields of the code represent, in the same order
abbrev pub meant_fields : Fields → List word.Field
meant_fields Absent = []
meant_fields (One a) = meant_field a ∷ []
meant_fields (Two a b) = meant_field a ∷ meant_field b ∷ []
meant_fields (Three a b c) = meant_field a ∷ meant_field b ∷ meant_field c ∷ []
