use Rattle.std.proofs.Common.{◌≡◌, ℕ, true, List, [], ◌∷◌, refl, ap, ◌∙◌, arith}
use Rattle.std.specs.Prelude.{codes}
use Rattle.acl_model.specs.Document.{is_document}
use Rattle.acl_model.specs.declared.document.Element.{Element}
use Rattle.acl_model.specs.declared.document.Item.{Item}
use Rattle.acl_model.specs.declared.document.Item.TheVariants.{Text, Child}
use Rattle.acl_model.proofs.FormEquations.{form_equations}
use Rattle.tag_dictionary.proofs.tests.small.Goals as goal

-- an element with nothing inside
abbrev leaf : List ℕ → Element
leaf name = record { name = name; attributes = []; items = [] }

-- the small document is one
small_is_document : (name : List ℕ) (attributes : List (List ℕ)) (items : List Item) → name ≡ codes "a" → attributes ≡ []
    → items ≡ Child (leaf (codes "c")) ∷ Text (codes "x") ∷ Child (leaf (codes "bb")) ∷ Child (leaf (codes "c")) ∷ []
    → is_document (record { root = record { name = name; attributes = attributes; items = items } }) ≡ true
small_is_document name attributes items named none inside = rw (named, none, inside) (simp form_equations refl)

pub returns : goal.returns
returns c =
    let first = c.in_ok-child.field-0 in
    let text = c.in_ok-from_slice.field-0 in
    let second = c.in_ok-child-2.field-0 in
    let third = c.in_ok-child-3.field-0 in
    let items : c.from_vec.result ≡ first ∷ Text text ∷ second ∷ third ∷ [] = grind arith in
    small_is_document c.in_ok-from_slice-2.field-0 c.new.result c.from_vec.result c.in_ok-from_slice-2.ensures c.new.ensures
    (items
    ∙ ap (λ (i : Item). i ∷ Text text ∷ second ∷ third ∷ []) c.in_ok-child.ensures
    ∙ ap (λ (t : List ℕ). Child (leaf (codes "c")) ∷ Text t ∷ second ∷ third ∷ []) c.in_ok-from_slice.ensures
    ∙ ap (λ (i : Item). Child (leaf (codes "c")) ∷ Text (codes "x") ∷ i ∷ third ∷ []) c.in_ok-child-2.ensures
    ∙ ap (λ (i : Item). Child (leaf (codes "c")) ∷ Text (codes "x") ∷ Child (leaf (codes "bb")) ∷ i ∷ []) c.in_ok-child-3.ensures)
