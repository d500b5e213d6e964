-- Which events of a list meet a predicate, and with which event it closes, that is, is decided. The
-- *bearer* of a predicate is its context node (XPath 1.0, 1). Defined by this project.
use Rattle.std.specs.Prelude.{ℕ, ◌+◌, nat_eq, Bool, false, ◌&&◌, Option, Some, None, List, [], ◌∷◌, length, take, slice_get, if◌then◌else◌}
use Rattle.std.specs.List.{list_any, find, range_with_len}
use Rattle.std.specs.Option.{option_map_or, option_or}
use Rattle.acl_model.specs.Comparisons.{satisfies}
use Rattle.acl_model.specs.Places.{at, places}
use Rattle.acl_model.specs.Predicates.{is_enough}
use Rattle.acl_model.specs.Targets.{path_leads}
use Rattle.acl_model.specs.Values.{attribute_value, gives_value, string_value}
use Rattle.acl_model.specs.declared.document.Doc.{Doc}
use Rattle.acl_model.specs.declared.document.Element.{Element}
use Rattle.acl_model.specs.declared.path.Cmp.{Cmp}
use Rattle.acl_model.specs.declared.path.Pred.{Pred}
use Rattle.acl_walk.specs.Begun.{innermost_is_at, begins_at, finishes_at}
use Rattle.acl_walk.specs.Open.{open_at}
use Rattle.acl_walk.specs.declared.event.Event.{Event}
use Rattle.acl_walk.specs.declared.event.Event.TheVariants.{Begin, Attr, HeadEnd, Text, Finish, End}

-- ---- attributes

-- The event is the last piece of an attribute.
abbrev pub is_last_of_attribute : Event → Bool
is_last_of_attribute (Begin tag below) = false
is_last_of_attribute (Attr piece) = piece.last
is_last_of_attribute HeadEnd = false
is_last_of_attribute (Text piece) = false
is_last_of_attribute (Finish tag) = false
is_last_of_attribute End = false

-- how many attributes have ended since the last Begin, after an event, where n had ended before it: none
-- after a Begin, and one more after the last piece of an attribute
abbrev pub attributes_after : ℕ → Event → ℕ
attributes_after n (Begin tag below) = 0
attributes_after n (Attr piece) = if piece.last then n + 1 else n
attributes_after n HeadEnd = n
attributes_after n (Text piece) = n
attributes_after n (Finish tag) = n
attributes_after n End = n

-- the same after a list of events
abbrev pub attributes_after_events : ℕ → List Event → ℕ
attributes_after_events n [] = n
attributes_after_events n (event ∷ events) = attributes_after_events (attributes_after n event) events

-- how many attributes have ended since the last Begin, before the event at i
abbrev pub attributes_at : List Event → ℕ → ℕ
attributes_at list i = attributes_after_events 0 (take i list)

-- The event at i ends the k-th attribute, from 0, of the element at the place: it is the last piece of an
-- attribute of that element, and k of the element's attributes have ended before.
abbrev pub ends_attribute_at : List Event → List ℕ → ℕ → ℕ → Bool
ends_attribute_at list place k i =
    option_map_or is_last_of_attribute (slice_get list i) false
    && (innermost_is_at place (open_at list i) && nat_eq (attributes_at list i) k)

-- ---- where a predicate is met

-- the numbers from 0 to n - 1
abbrev pub counted : ℕ → List ℕ
counted n = range_with_len 0 n

-- A raw attribute has this name and a value, and the value satisfies the comparison, if there is one.
abbrev pub has_enough : List ℕ → Option Cmp → List ℕ → Bool
has_enough name cmp raw = gives_value name raw && is_enough cmp (attribute_value raw)

-- The event at i ends such an attribute of the element at the place.
abbrev pub meets_attribute : List Event → List ℕ → Option Cmp → List ℕ → ℕ → Element → Bool
meets_attribute list name cmp place i e =
    list_any (λ k. option_map_or (has_enough name cmp) (slice_get e.attributes k) false
    && ends_attribute_at list place k i) (counted (length e.attributes))

-- The event at i shows that the element at the place meets a predicate with this attribute and this
-- comparison. Where an attribute is named, it is the last piece of one that satisfies the comparison.
-- Where there is only a comparison, it is the element's Finish, and the string-value satisfies the
-- comparison. Where there is neither, it is the element's Begin.
abbrev pub meets : List Event → Option (List ℕ) → Option Cmp → List ℕ → ℕ → Element → Bool
meets list None None place i e = begins_at list place i
meets list None (Some cmp) place i e =
    satisfies cmp.op cmp.operand (string_value e) && finishes_at list place i
meets list (Some name) cmp place i e = meets_attribute list name cmp place i e

-- The event at i meets the predicate: it shows that some element meets it to which the predicate's path
-- leads from the bearer.
abbrev pub is_met_at : Doc → List Event → List ℕ → Pred → ℕ → Bool
is_met_at d list bearer pred i =
    list_any (λ place. path_leads d pred.way bearer place
    && option_map_or (meets list pred.attribute pred.cmp place i) (at d place) false) (places d)

-- ---- where it closes

-- the event with which a predicate closes at its bearer: the first one that meets the predicate, or the
-- bearer's Finish where none does
abbrev pub close : Doc → List Event → List ℕ → Pred → Option ℕ
close d list bearer pred =
    option_or (find (is_met_at d list bearer pred) (counted (length list)))
    (find (finishes_at list bearer) (counted (length list)))
