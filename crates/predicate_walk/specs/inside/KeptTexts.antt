-- Which texts of a document the walk keeps. Defined by this project.
use Rattle.std.specs.Prelude.{ℕ, Bool, true, false, Option, Some, None, List, []}
use Rattle.std.specs.List.{list_any}
use Rattle.acl_model.specs.declared.path.Pred.{Pred}
use Rattle.acl_model.specs.declared.path.Cmp.{Cmp}

-- There is a comparison, and what it compares is not an attribute.
abbrev pub compares_element : Option (List ℕ) → Option Cmp → Bool
compares_element None None = false
compares_element None (Some cmp) = true
compares_element (Some name) cmp = false

-- The predicate compares the string-values of elements.
abbrev pub compares_texts : Pred → Bool
compares_texts pred = compares_element pred.attribute pred.cmp

-- Some predicate compares string-values.
abbrev pub needs_texts : List Pred → Bool
needs_texts preds = list_any compares_texts preds

-- a text where texts are needed, and otherwise nothing
abbrev pub kept : Bool → List ℕ → List ℕ
kept true text = text
kept false text = []
