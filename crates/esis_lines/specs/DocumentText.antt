-- Which bytes are a text of a document: those whose lines are the document's lines, except for lines that belong to no
-- document. This project's profile of the ESIS line form.
use Rattle.std.specs.Prelude.{◌≡◌, ℕ, true, not, List, [], ◌∷◌, if◌then◌else◌}
use Rattle.std.specs.List.{filter}
use Rattle.acl_model.specs.Document.{is_document}
use Rattle.acl_model.specs.Lines.{lines}
use Rattle.acl_model.specs.Text.{text}
use Rattle.acl_model.specs.declared.document.Doc.{Doc}
use Rattle.esis_lines.specs.LineForms.{is_closing, is_passed_by}

-- The lines without a last line 'C'. A line 'C' before the last stays.
abbrev pub without_closing : List (List ℕ) → List (List ℕ)
without_closing [] = []
without_closing (l ∷ []) = if is_closing l then [] else l ∷ []
without_closing (l ∷ next ∷ ls) = l ∷ without_closing (next ∷ ls)

-- the lines that belong to a document: all but a last line 'C' and the lines that begin with '?', 'L' or '#'
abbrev pub document_lines : List (List ℕ) → List (List ℕ)
document_lines ls = filter (λ l. not (is_passed_by l)) (without_closing ls)

-- The bytes are a text of the document: it is a document of the right form, and their lines that belong to a document
-- are exactly the lines that are written for it.
abbrev pub IsDocumentText : Doc → List ℕ → Type 0
IsDocumentText d bytes = (is_document d ≡ true) × (document_lines (lines bytes) ≡ lines (text d))
