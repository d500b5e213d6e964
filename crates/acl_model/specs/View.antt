-- The authorised view: the document, with each element shown as its sign says. Also what `view` and `preview` write.
use Rattle.std.specs.Prelude.{ℕ, ◌+◌, Option, Some, None, Bool, true, false, ◌||◌, List, [], ◌∷◌}
use Rattle.std.specs.Option.{option_and_then}
use Rattle.acl_model.specs.Ascii.{hyphen}
use Rattle.acl_model.specs.Text.{text_of_view}
use Rattle.acl_model.specs.Decide.{sign}
use Rattle.acl_model.specs.declared.document.Doc.{Doc}
use Rattle.acl_model.specs.declared.document.Item.{Item}
use Rattle.acl_model.specs.declared.document.Element.{Element}
use Rattle.acl_model.specs.declared.document.Item.TheVariants.{Text, Child}
use Rattle.acl_model.specs.declared.document.Item.TheOpen.{Item-F, Element-F}
use Rattle.acl_model.specs.declared.document.Item.TheFolds.{fold-Item, fold-Element}
use Rattle.acl_model.specs.declared.path.Path.{Path}
use Rattle.acl_model.specs.declared.rule.Rule.{Rule}
use Rattle.acl_model.specs.declared.rule.Sign.{Sign}
use Rattle.acl_model.specs.declared.rule.Sign.TheVariants.{Grant, Deny}

-- the signs of an element and of all places inside it, relative to the element
abbrev pub Signs : Type 0
Signs = List ℕ → Sign

-- the signs inside the k-th element child
abbrev pub in_child : Signs → ℕ → Signs
in_child signs k place = signs (k ∷ place)

-- What an item contributes to the view of its parent: a text contributes its bytes, and a child element the two
-- functions of `ElementFilter`.
pub data ItemFilter : Type 0 where
  words : List ℕ → ItemFilter
  inner : (Signs → Bool) → (Signs → Option Element) → ItemFilter

-- Two functions of the signs in an element: whether the element or a place in it is granted, and the element's view,
-- which is None where the element isn't shown.
pub record ElementFilter : Type 0 where
  pub has_grant : Signs → Bool
  pub view : Signs → Option Element

-- what an item contributes, given that of the element in it
abbrev pub item_filter : Item-F ItemFilter ElementFilter → ItemFilter
item_filter (Item-F.Text bytes) = words bytes
item_filter (Item-F.Child e) = inner e.has_grant e.view

-- The sign grants.
abbrev pub is_grant : Sign → Bool
is_grant Grant = true
is_grant Deny = false

-- A place in one of the items is granted, where the next element child has the number k.
abbrev pub grant_within : List ItemFilter → Signs → ℕ → Bool
grant_within [] signs k = false
grant_within (words bytes ∷ items) signs k = grant_within items signs k
grant_within (inner has_grant view ∷ items) signs k = has_grant (in_child signs k) || grant_within items signs (k + 1)

-- the items, preceded by a child where there is one
abbrev pub with_child : Option Element → List Item → List Item
with_child None items = items
with_child (Some e) items = Child e ∷ items

-- the items, preceded by a text where its element is granted
abbrev pub with_text : Sign → List ℕ → List Item → List Item
with_text Grant bytes items = Text bytes ∷ items
with_text Deny bytes items = items

-- the items in the view of an element with the sign `own`: the views of its children, and its texts where it is
-- granted. The next element child has the number k.
abbrev pub views : Sign → List ItemFilter → Signs → ℕ → List Item
views own [] signs k = []
views own (words bytes ∷ items) signs k = with_text own bytes (views own items signs k)
views own (inner has_grant view ∷ items) signs k = with_child (view (in_child signs k)) (views own items signs (k + 1))

-- Where the sign is Grant, the element is shown with its name and attributes. Where it is Deny and a place inside is
-- granted, a dummy is shown, which has the name '-' and no attributes. Else nothing is shown.
abbrev pub view_by_sign : Sign → Bool → List ℕ → List (List ℕ) → List Item → Option Element
view_by_sign Grant granted_inside name attributes items = Some (record { name = name; attributes = attributes; items = items })
view_by_sign Deny true name attributes items = Some (record { name = hyphen ∷ []; attributes = []; items = items })
view_by_sign Deny false name attributes items = None

-- the two functions of an element, from what its items contribute
abbrev pub element_filter : Element-F ItemFilter ElementFilter → ElementFilter
element_filter e = record {
  has_grant = λ signs. is_grant (signs []) || grant_within e.items signs 1;
  view = λ signs. view_by_sign (signs []) (grant_within e.items signs 1) e.name e.attributes (views (signs []) e.items signs 1);
}

-- the two functions of an element
unfoldable pub filter_of : Element → ElementFilter
filter_of = fold-Element ItemFilter ElementFilter item_filter element_filter

-- the same of an item
unfoldable pub filter_of_item : Item → ItemFilter
filter_of_item = fold-Item ItemFilter ElementFilter item_filter element_filter

-- the document with this root, where there is one
abbrev pub doc_of : Option Element → Option Doc
doc_of None = None
doc_of (Some e) = Some (record { root = e })

-- The authorised view of a document under the rules. It is None if the root isn't shown.
unfoldable pub view : Doc → List Rule → Option Doc
view d rules = doc_of ((filter_of d.root).view (sign d rules))

-- the rule that grants what a path selects
abbrev pub grant_rule : Path → Rule
grant_rule path = record { id = []; sign = Grant; path = path }

-- The answer of a query: the view of the view, with the single rule that grants what the query selects. Without a
-- query, the view itself.
abbrev pub answer : Doc → List Rule → Option Path → Option Doc
answer d rules None = view d rules
answer d rules (Some query) = option_and_then (λ v. view v (grant_rule query ∷ [])) (view d rules)

-- the text of the answer, as it is written
abbrev pub out : Doc → List Rule → Option Path → List ℕ
out d rules query = text_of_view (answer d rules query)
