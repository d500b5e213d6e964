-- What has been read of values that are not whole yet: the texts inside each open element, and an attribute. A value
-- comes in pieces. Defined by this project.
use Rattle.std.specs.Prelude.{ℕ, List, [], ◌∷◌, ◌++◌, drop, map, take, if◌then◌else◌}
use Rattle.acl_walk.specs.declared.event.Event.{Event}
use Rattle.acl_walk.specs.declared.event.Event.TheVariants.{Begin, Attr, HeadEnd, Text, Finish, End}

-- what has been read inside each open element, the innermost first, after an event: of its texts and of those of its
-- descendants, in document order
abbrev pub texts_after : List (List ℕ) → Event → List (List ℕ)
texts_after texts (Begin tag below) = [] ∷ texts
texts_after texts (Attr piece) = texts
texts_after texts HeadEnd = texts
texts_after texts (Text piece) = map (λ text. text ++ piece.bytes.items) texts
texts_after texts (Finish tag) = drop 1 texts
texts_after texts End = texts

-- the same after a list of events
abbrev pub texts_after_events : List (List ℕ) → List Event → List (List ℕ)
texts_after_events texts [] = texts
texts_after_events texts (event ∷ events) = texts_after_events (texts_after texts event) events

-- the same after the first i events of a list
abbrev pub texts_at : List Event → ℕ → List (List ℕ)
texts_at list i = texts_after_events [] (take i list)

-- what has been read of an attribute that has not ended, after an event; nothing where there is none
abbrev pub raw_after : List ℕ → Event → List ℕ
raw_after raw (Begin tag below) = []
raw_after raw (Attr piece) = if piece.last then [] else raw ++ piece.bytes.items
raw_after raw HeadEnd = []
raw_after raw (Text piece) = []
raw_after raw (Finish tag) = []
raw_after raw End = []

-- the same after a list of events
abbrev pub raw_after_events : List ℕ → List Event → List ℕ
raw_after_events raw [] = raw
raw_after_events raw (event ∷ events) = raw_after_events (raw_after raw event) events

-- the same after the first i events of a list
abbrev pub raw_at : List Event → ℕ → List ℕ
raw_at list i = raw_after_events [] (take i list)
