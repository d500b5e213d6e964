-- Texts that one call writes as several lines, and lines that are written in parts. Defined by this project.
use Rattle.std.specs.Prelude.{ℕ, List, [], ◌∷◌, ◌++◌, map}
use Rattle.std.specs.List.{concat}
use Rattle.acl_model.specs.Ascii.{capital_a, left_parenthesis, space}
use Rattle.acl_model.specs.Explain.{sign_byte, place_text}
use Rattle.acl_model.specs.Lines.{as_line}
use Rattle.acl_model.specs.Text.{line}
use Rattle.acl_model.specs.declared.rule.Sign.{Sign}

-- the lines before an element's items: its attributes, followed by its start
abbrev pub start_text : List (List ℕ) → List ℕ → List ℕ
start_text attributes name =
    concat (map (line capital_a) attributes) ++ line left_parenthesis name

-- the beginning of an explanation line: the sign, a space, `word`, which is the rule's id or 'closed', and a space
abbrev pub explanation_head : Sign → List ℕ → List ℕ
explanation_head sign word = sign_byte sign ∷ space ∷ (word ++ space ∷ [])

-- An explanation line is the sign, a space, the rule's id or 'closed', a space, the place, and a line feed.
abbrev pub explained_line : Sign → List ℕ → List ℕ → List ℕ
explained_line sign word place =
    as_line (sign_byte sign ∷ space ∷ (word ++ (space ∷ place_text place)))
