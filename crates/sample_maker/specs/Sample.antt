-- The sample line: how many elements and lines the sample document has, and how many lines its view under one rule
-- has. Defined by this project.
use Rattle.std.specs.Prelude.{ℕ, Some, None, List, [], ◌∷◌, length, codes, decimal}
use Rattle.std.specs.List.{concat}
use Rattle.acl_model.specs.Ascii.{line_feed}
use Rattle.acl_model.specs.Lines.{lines}
use Rattle.acl_model.specs.Text.{text}
use Rattle.acl_model.specs.Places.{places}
use Rattle.acl_model.specs.View.{out}
use Rattle.acl_model.specs.declared.document.Doc.{Doc}
use Rattle.acl_model.specs.declared.rule.Rule.{Rule}
use Rattle.acl_model.specs.declared.rule.Sign.TheVariants.{Grant}
use Rattle.acl_model.specs.declared.path.Path.{Path}
use Rattle.acl_model.specs.declared.path.Pred.{Pred}
use Rattle.acl_model.specs.declared.path.Axis.TheVariants.{Child, Descendant}
use Rattle.acl_model.specs.declared.path.Test.TheVariants.{Named}
use Rattle.acl_model.specs.declared.path.Op.TheVariants.{Eq}
use Rattle.acl_model.specs.declared.path.Operand.TheVariants.{Text}
use Rattle.sample_maker.specs.Hospital.{hospital}

-- [Act/RPhys = "Ana"]: the context node has an act by the physician Ana
unfoldable pub by_ana : Pred
by_ana = record {
  way = record { axis = Child; test = Named (codes "Act") } ∷ record { axis = Child; test = Named (codes "RPhys") } ∷ [];
  attribute = None;
  cmp = Some (record { op = Eq; operand = Text (codes "Ana") });
}

-- //Folder[Act/RPhys = "Ana"]/Admin: the patients of the physician Ana, each as the element Admin
unfoldable pub patients_of_ana : Path
patients_of_ana = record {
  steps =
      record { axis = Descendant; test = Named (codes "Folder"); preds = by_ana ∷ [] }
      ∷ record { axis = Child; test = Named (codes "Admin"); preds = [] }
      ∷ [];
}

-- the rule that grants them: + S //Folder[Act/RPhys = "Ana"]/Admin
abbrev pub sample_rule : Rule
sample_rule = record { id = codes "S"; sign = Grant; path = patients_of_ana }

-- the number of elements of a document, which is the number of its places
unfoldable pub element_number : Doc → ℕ
element_number d = length (places d)

-- the number of lines of a document's text
unfoldable pub line_number : Doc → ℕ
line_number d = length (lines (text d))

-- the number of lines of a document's view under `sample_rule`, without a query
unfoldable pub view_line_number : Doc → ℕ
view_line_number d = length (lines (out d (sample_rule ∷ []) None))

-- sample elements=<e> lines=<l> view=<v>, the numbers in decimal, and a line feed
unfoldable pub line_of_numbers : ℕ → ℕ → ℕ → List ℕ
line_of_numbers e l v = concat (
    codes "sample elements=" ∷ decimal e
    ∷ codes " lines=" ∷ decimal l
    ∷ codes " view=" ∷ decimal v
    ∷ (line_feed ∷ [])
    ∷ [])

-- the line with the three numbers of the hospital with n folders
unfoldable pub sample_line : ℕ → List ℕ
sample_line n = line_of_numbers (element_number (hospital n)) (line_number (hospital n)) (view_line_number (hospital n))
