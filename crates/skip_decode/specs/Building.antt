-- How a document is built from a list of events: a state machine takes the events one by one, on a stack of the open
-- elements. The code implements this machine. Defined by this project.
use Rattle.std.specs.Prelude.{ℕ, Bool, true, false, nat_eq, if◌then◌else◌, Option, None, Some, List, [], ◌∷◌, ◌++◌}
use Rattle.std.specs.List.{slice_get}
use Rattle.std.specs.Option.{option_and_then, option_map}
use Rattle.acl_bits.specs.declared.piece.Piece.{Piece}
use Rattle.acl_model.specs.Ascii.{hyphen}
use Rattle.acl_model.specs.declared.document.Doc.{Doc}
use Rattle.acl_model.specs.declared.document.Element.{Element}
use Rattle.acl_model.specs.declared.document.Item.{Item}
use Rattle.acl_model.specs.declared.document.Item.TheVariants as item
use Rattle.acl_walk.specs.declared.event.Event.{Event}
use Rattle.acl_walk.specs.declared.event.Event.TheVariants.{Begin, Attr, HeadEnd, Text, Finish, End}

-- ---- between two events

-- An open element, which has begun and not finished: its name, and its attributes and items so far.
pub record OpenElement : Type 0 where
  pub name : List ℕ
  pub attributes : List (List ℕ)
  pub items : List Item

-- A document of which some events were taken: the open elements, the innermost first; the bytes so far of an attribute
-- or text that isn't whole yet; and the root, once it has finished.
pub record Builder : Type 0 where
  pub opened : List OpenElement
  pub bytes : List ℕ
  pub root : Option Element

-- before the first event
abbrev pub no_event : Builder
no_event = record { opened = []; bytes = []; root = None }

-- the element that an open one becomes where it finishes
abbrev pub finished : OpenElement → Element
finished o = record { name = o.name; attributes = o.attributes; items = o.items }

-- the open element with one more attribute
abbrev pub with_attribute : List ℕ → OpenElement → OpenElement
with_attribute raw o = record { name = o.name; attributes = o.attributes ++ raw ∷ []; items = o.items }

-- the open element with one more item
abbrev pub with_item : Item → OpenElement → OpenElement
with_item i o = record { name = o.name; attributes = o.attributes; items = o.items ++ i ∷ [] }

-- ---- one event

-- the name of a tag: a dummy's for 256, and else the name with that number, if there is one
abbrev pub name_at : List (List ℕ) → ℕ → Option (List ℕ)
name_at names tag = if nat_eq tag 256 then Some (hyphen ∷ []) else slice_get names tag

-- An element of this name begins, where the root hasn't finished.
abbrev pub begun : List OpenElement → List ℕ → Option Element → List ℕ → Option Builder
begun opened bytes None name =
    Some (record { opened = record { name = name; attributes = []; items = [] } ∷ opened; bytes = bytes; root = None })
begun opened bytes (Some root) name = None

-- A whole attribute joins the innermost open element, if there is one.
abbrev pub with_whole_attribute : List ℕ → Option Element → List OpenElement → Option Builder
with_whole_attribute raw root [] = None
with_whole_attribute raw root (o ∷ around) =
    Some (record { opened = with_attribute raw o ∷ around; bytes = []; root = root })

-- A whole text joins the innermost open element, if there is one.
abbrev pub with_whole_text : List ℕ → Option Element → List OpenElement → Option Builder
with_whole_text bytes root [] = None
with_whole_text bytes root (o ∷ around) =
    Some (record { opened = with_item (item.Text bytes) o ∷ around; bytes = []; root = root })

-- A whole element becomes an item of the innermost open element. Where none is open, it is the root.
abbrev pub with_element : Element → List ℕ → Option Element → List OpenElement → Builder
with_element e bytes root [] = record { opened = []; bytes = bytes; root = Some e }
with_element e bytes root (o ∷ around) =
    record { opened = with_item (item.Child e) o ∷ around; bytes = bytes; root = root }

-- The innermost open element finishes, if there is one.
abbrev pub closed : List ℕ → Option Element → List OpenElement → Option Builder
closed bytes root [] = None
closed bytes root (o ∷ around) = Some (with_element (finished o) bytes root around)

-- a piece of an attribute: after the last one it is whole
abbrev pub attribute_fed : Piece → Builder → Option Builder
attribute_fed piece b =
    if piece.last then with_whole_attribute (b.bytes ++ piece.bytes.items) b.root b.opened
    else Some (record { opened = b.opened; bytes = b.bytes ++ piece.bytes.items; root = b.root })

-- a piece of a text: after the last one it is whole
abbrev pub text_fed : Piece → Builder → Option Builder
text_fed piece b =
    if piece.last then with_whole_text (b.bytes ++ piece.bytes.items) b.root b.opened
    else Some (record { opened = b.opened; bytes = b.bytes ++ piece.bytes.items; root = b.root })

-- after an event; None where it doesn't fit
abbrev pub fed : List (List ℕ) → Event → Builder → Option Builder
fed names (Begin tag below) b = option_and_then (begun b.opened b.bytes b.root) (name_at names tag)
fed names (Attr piece) b = attribute_fed piece b
fed names HeadEnd b = Some b
fed names (Text piece) b = text_fed piece b
fed names (Finish tag) b = closed b.bytes b.root b.opened
fed names End b = Some b

-- ---- all events

-- The event is End.
abbrev pub is_end : Event → Bool
is_end (Begin tag below) = false
is_end (Attr piece) = false
is_end HeadEnd = false
is_end (Text piece) = false
is_end (Finish tag) = false
is_end End = true

-- the document whose root has finished
abbrev pub document_of : Builder → Option Doc
document_of b = option_map (λ root. record { root = root }) b.root

-- The document at End, where these events are taken first. None where one doesn't fit, or where no End comes.
abbrev pub built_on : List (List ℕ) → List Event → Builder → Option Doc
built_on names [] b = None
built_on names (event ∷ events) b =
    if is_end event then document_of b else option_and_then (built_on names events) (fed names event b)

-- the document that a list of events builds, under these names
abbrev pub built : List (List ℕ) → List Event → Option Doc
built names events = built_on names events no_event
