-- Where a pass leads: to the Finish of the innermost open element. Defined by this project.
use Rattle.std.specs.Prelude.{◌≡◌, ℕ, ◌+◌, ◌≤◌, List, ◌∷◌, ◌++◌}
use Rattle.acl_walk.specs.Open.{OpenPlace, open_at, tags_at, places_of}
use Rattle.acl_walk.specs.SpotMoves.{StandsAt}
use Rattle.acl_walk.specs.declared.event.Event.{Event}
use Rattle.acl_walk.specs.declared.event.Event.TheVariants.{Finish}

-- A pass leads from the old index of a list, where some element is open, to the new one.
pub record IsPass (list : List Event) (old new : ℕ) : Type 0 where
  -- The element is the innermost open one at the old index, and `up` are the elements around it.
  pub element : OpenPlace
  pub up : List OpenPlace
  pub innermost : open_at list old ≡ element ∷ up
  -- The new index isn't before the old one.
  pub onward : old ≤ new
  -- The element's Finish is at the new index.
  pub finish : StandsAt list new (Finish element.tag) (new + 1)
  -- The elements that are open at the new index have the tags of those open at the old one.
  pub same_tags : tags_at list new ≡ tags_at list old
  -- They are at the same places of the document.
  pub same_places : places_of (open_at list new) ≡ places_of (open_at list old)
  -- At each index from the old one to the new one the element and those around it are open.
  pub inside : (k : ℕ) → old ≤ k → k ≤ new → (inner : List OpenPlace)
      × (places_of (open_at list k) ≡ places_of inner ++ places_of (element ∷ up))
