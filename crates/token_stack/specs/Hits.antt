-- What an event of a list meets: with it an element inside a context node is seen to have what a predicate asks for.
-- The *bearer* of a predicate is its context node (XPath 1.0, 1). Defined by this project.
use Rattle.std.specs.Prelude.{◌≡◌, ℕ, Bool, true, false, ◌&&◌, Option, Some, None, List, ◌++◌, slice_get}
use Rattle.std.specs.Option.{option_map_or}
use Rattle.acl_model.specs.Comparisons.{satisfies}
use Rattle.acl_model.specs.Places.{at}
use Rattle.acl_model.specs.Values.{string_value}
use Rattle.acl_model.specs.declared.document.Doc.{Doc}
use Rattle.acl_model.specs.declared.document.Element.{Element}
use Rattle.acl_model.specs.declared.path.Cmp.{Cmp}
use Rattle.acl_model.specs.declared.path.Pred.{Pred}
use Rattle.acl_walk.specs.Begun.{innermost_is_at}
use Rattle.acl_walk.specs.Closes.{attributes_at, has_enough}
use Rattle.acl_walk.specs.Open.{OpenPlace, open_after, open_at}
use Rattle.acl_walk.specs.declared.event.Event.{Event}
use Rattle.acl_walk.specs.declared.event.Event.TheVariants.{Begin, Attr, HeadEnd, Text, Finish, End}
use Rattle.token_stack.specs.WayNames.{led, names_from}

-- the elements that are open at an event, the innermost first, where these were open before it. An element that begins
-- is open at its Begin, and one that finishes is still open at its Finish.
abbrev pub open_with : List OpenPlace → Event → List OpenPlace
open_with elements (Begin tag below) = open_after elements (Begin tag below)
open_with elements (Attr piece) = elements
open_with elements HeadEnd = elements
open_with elements (Text piece) = elements
open_with elements (Finish tag) = elements
open_with elements End = elements

-- A predicate with this attribute and this comparison has neither, so that each element has what it asks for.
abbrev pub asks_nothing : Option (List ℕ) → Option Cmp → Bool
asks_nothing None None = true
asks_nothing None (Some cmp) = false
asks_nothing (Some name) cmp = false

-- It has only a comparison, and an element's string-value satisfies it.
abbrev pub asks_value : Option (List ℕ) → Option Cmp → List ℕ → Bool
asks_value None None value = false
asks_value None (Some cmp) value = satisfies cmp.op cmp.operand value
asks_value (Some name) cmp value = false

-- It has an attribute, and the raw attribute, if there is one, is such an attribute and satisfies the comparison.
abbrev pub asks_raw : Option (List ℕ) → Option Cmp → Option (List ℕ) → Bool
asks_raw None cmp raw = false
asks_raw (Some name) cmp raw = option_map_or (has_enough name cmp) raw false

-- The event shows that the innermost element x has what a predicate with this attribute and this comparison asks for.
-- The number is how many of the attributes of x have ended before. A Begin shows that x is there, the last piece of an
-- attribute shows the attribute, and a Finish shows the string-value.
abbrev pub hits : Event → ℕ → Element → Option (List ℕ) → Option Cmp → Bool
hits (Begin tag below) n x attribute cmp = asks_nothing attribute cmp
hits (Attr piece) n x attribute cmp = piece.last && asks_raw attribute cmp (slice_get x.attributes n)
hits HeadEnd n x attribute cmp = false
hits (Text piece) n x attribute cmp = false
hits (Finish tag) n x attribute cmp = asks_value attribute cmp (string_value x)
hits End n x attribute cmp = false

-- What it is for the event at index i to meet a predicate at its bearer. The innermost element at the event is at the
-- place `bearer ++ more`, so it is the bearer or inside it. The predicate's path leads to it by the names on the way
-- down, and the event shows what the predicate asks for.
pub record HitsInside (d : Doc) (list : List Event) (bearer : List ℕ) (pred : Pred) (i : ℕ) : Type 0 where
  pub event : Event
  pub more : List ℕ
  pub x : Element
  pub comes : slice_get list i ≡ Some event
  pub innermost : innermost_is_at (bearer ++ more) (open_with (open_at list i) event) ≡ true
  pub there : at d (bearer ++ more) ≡ Some x
  pub leads : led pred.way (names_from d bearer more) ≡ true
  pub hit : hits event (attributes_at list i) x pred.attribute pred.cmp ≡ true
