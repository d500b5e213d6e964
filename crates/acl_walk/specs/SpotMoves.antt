-- How a position moves along the list of events that its walk stands for. Defined by this project.
use Rattle.std.specs.Prelude.{◌≡◌, ℕ, zero, suc, ◌+◌, ◌<◌, ◌≤◌, List, [], ◌∷◌, drop}
use Rattle.acl_walk.specs.declared.event.Event.{Event}
use Rattle.acl_walk.specs.declared.event.Event.TheVariants.{Begin, Attr, HeadEnd, Text, Finish, End}

-- the index after an event at this index: the next one, and the same at End
abbrev pub place_after : Event → ℕ → ℕ
place_after (Begin tag below) place = place + 1
place_after (Attr piece) place = place + 1
place_after HeadEnd place = place + 1
place_after (Text piece) place = place + 1
place_after (Finish tag) place = place + 1
place_after End place = place

-- The event is at the old index of the list, and the new index is the one after it.
pub record StandsAt (list : List Event) (old : ℕ) (event : Event) (new : ℕ) : Type 0 where
  pub there : drop old list ≡ event ∷ drop (old + 1) list
  pub moved : new ≡ place_after event old

-- the events from the Finish on that ends the innermost element, where n elements are open inside it; no
-- events, where there is no such Finish
abbrev pub from_finish : ℕ → List Event → List Event
from_finish n [] = []
from_finish n (Begin tag below ∷ events) = from_finish (suc n) events
from_finish n (Attr piece ∷ events) = from_finish n events
from_finish n (HeadEnd ∷ events) = from_finish n events
from_finish n (Text piece ∷ events) = from_finish n events
from_finish zero (Finish tag ∷ events) = Finish tag ∷ events
from_finish (suc n) (Finish tag ∷ events) = from_finish n events
from_finish n (End ∷ events) = []

-- From the old index on, the Finish of the innermost open element is at the new index. Where none is open,
-- the new index is the old one.
abbrev pub PassesTo : List ℕ → List Event → ℕ → ℕ → Type 0
PassesTo [] list old new = new ≡ old
PassesTo (tag ∷ tags) list old new = drop new list ≡ from_finish 0 (drop old list)

-- Each event but End lowers the bound on the events to come, and End doesn't raise it.
abbrev pub Falls : Event → ℕ → ℕ → Type 0
Falls (Begin tag below) old new = new < old
Falls (Attr piece) old new = new < old
Falls HeadEnd old new = new < old
Falls (Text piece) old new = new < old
Falls (Finish tag) old new = new < old
Falls End old new = new ≤ old
