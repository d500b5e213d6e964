-- The sample document: a hospital with a folder for each patient, made from numbers alone. Defined by this project.
use Rattle.std.specs.Prelude.{ℕ, ◌+◌, ◌*◌, ◌%◌, ◌==◌, List, [], ◌∷◌, map, codes, decimal, if◌then◌else◌}
use Rattle.std.specs.List.{concat, range_with_len}
use Rattle.acl_model.specs.declared.document.Doc.{Doc}
use Rattle.acl_model.specs.declared.document.Element.{Element}
use Rattle.acl_model.specs.declared.document.Item.{Item}
use Rattle.acl_model.specs.declared.document.Item.TheVariants.{Text, Child}

-- the numbers from 1 to n
abbrev pub one_to : ℕ → List ℕ
one_to n = range_with_len 1 n

-- an element without attributes
abbrev pub plain : List ℕ → List Item → Element
plain name items = record { name = name; attributes = []; items = items }

-- a child element that contains one text and has no attributes
abbrev pub field : List ℕ → List ℕ → Item
field name text = Child (plain name (Text text ∷ []))

-- the element Admin of folder i, which is about its patient: SSN, Fname and Age
unfoldable pub admin : ℕ → Item
admin i = Child (plain (codes "Admin") (
    field (codes "SSN") (decimal (100000000 + 7001 * i))
    ∷ field (codes "Fname") (concat (codes "Patient" ∷ decimal i ∷ []))
    ∷ field (codes "Age") (decimal (20 + i % 70))
    ∷ []))

-- the physician of act j in folder i: Ana, Bea or Cy, where (i + j) mod 3 is 0, 1 or 2
unfoldable pub physician : ℕ → ℕ → List ℕ
physician i j =
    if (i + j) % 3 == 0 then codes "Ana"
    else if (i + j) % 3 == 1 then codes "Bea"
    else codes "Cy"

-- act j of folder i: RPhys and Details
unfoldable pub act : ℕ → ℕ → Item
act i j = Child (plain (codes "Act") (
    field (codes "RPhys") (physician i j)
    ∷ field (codes "Details") (concat (codes "note " ∷ decimal i ∷ codes "." ∷ decimal j ∷ []))
    ∷ []))

-- the one attribute of folder i, its identifier: Id CDATA f<i>
abbrev pub identifier : ℕ → List (List ℕ)
identifier i = concat (codes "Id CDATA f" ∷ decimal i ∷ []) ∷ []

-- Folder i has its identifier as attribute. Its items are the patient, and then the acts from 1 to i mod 4.
unfoldable pub folder : ℕ → Item
folder i = Child (record {
  name = codes "Folder";
  attributes = identifier i;
  items = admin i ∷ map (act i) (one_to (i % 4));
})

-- The root of the hospital contains the folders from 1 to n.
unfoldable pub hospital : ℕ → Doc
hospital n = record { root = plain (codes "Hospital") (map folder (one_to n)) }
