-- An explanation line is the parts that are written one after another.
use Rattle.std.proofs.Common.{◌≡◌, ℕ, List, [], ◌∷◌, ◌++◌, ap, sym, ◌∙◌, append_assoc}
use Rattle.acl_model.specs.Ascii.{space, line_feed}
use Rattle.acl_model.specs.Explain.{sign_byte, place_text}
use Rattle.acl_model.specs.declared.rule.Sign.{Sign}
use Rattle.line_writer.specs.Parts.{explanation_head, explained_line}

-- A line is the part before its place, the place, and the line feed.
pub explained_line-parts : (sign : Sign) (word place : List ℕ)
    → explained_line sign word place ≡ explanation_head sign word ++ (place_text place ++ line_feed ∷ [])
explained_line-parts sign word place =
    ap (λ text. sign_byte sign ∷ space ∷ text)
    (append_assoc word (space ∷ place_text place) (line_feed ∷ [])
    ∙ sym (append_assoc word (space ∷ []) (place_text place ++ line_feed ∷ [])))
