-- The positions (spots) of a walk over a tree. Defined by this project.
use Rattle.std.specs.Prelude.{◌≡◌, ℕ, ◌-◌, ◌≤◌, List, length, drop}
use Rattle.acl_model.specs.Document.{height}
use Rattle.acl_walk.specs.Nesting.{Stage, Nest, at_start}
use Rattle.acl_walk.specs.Open.{tags_at}
use Rattle.acl_walk.specs.inside.OpenElements.{tags_of}
use Rattle.acl_walk.specs.TreeEvents.{document_events}
use Rattle.acl_walk.specs.TreeState.{Tree, CanBeWalked}
use Rattle.acl_walk.specs.inside.TreeSteps.{to_come, phase_of, IsInside}
use Rattle.acl_walk.specs.declared.event.Event.{Event}
use Rattle.acl_walk.specs.declared.tree_spot.TreeSpot.{TreeSpot}

-- The second list is a suffix of the first.
pub record EndsWith (whole rest : List Event) : Type 0 where
  pub shorter : length rest ≤ length whole
  pub same : drop (length whole - length rest) whole ≡ rest

-- the events to come from a spot
abbrev pub spot_to_come : Tree → TreeSpot → List Event
spot_to_come tree spot = to_come tree.names spot.now spot.levels

-- the events of a tree
abbrev pub tree_events : Tree → List Event
tree_events tree = document_events tree.names tree.doc

-- the index of a spot: how many events of the list come before it
abbrev pub spot_place : Tree → TreeSpot → ℕ
spot_place tree spot = length (tree_events tree) - length (spot_to_come tree spot)

-- the stage of a spot
abbrev pub spot_stage : TreeSpot → Stage
spot_stage spot =
    record { tags = tags_of spot.levels; phase = phase_of spot.now (tags_of spot.levels) }

-- the most elements that are open at once
abbrev pub tree_depth : Tree → ℕ
tree_depth tree = height tree.doc.root

-- A walk over this tree made the spot: the events to come are a suffix of the tree's list, and
-- nest. Before the first event they are the whole list. At most as many elements are open as the
-- document is high, and they are those that are open at the spot's index.
pub record IsSpotOf (tree : Tree) (spot : TreeSpot) : Type 0 where
  pub walked : CanBeWalked tree
  pub rest : EndsWith (tree_events tree) (spot_to_come tree spot)
  pub nests : Nest (length tree.names) (tree_depth tree) (tags_of spot.levels)
      (phase_of spot.now (tags_of spot.levels)) (spot_to_come tree spot)
  pub fresh : phase_of spot.now (tags_of spot.levels) ≡ at_start
      → spot_to_come tree spot ≡ tree_events tree
  pub few_open : length spot.levels ≤ tree_depth tree
  pub open_tags : tags_of spot.levels ≡ tags_at (tree_events tree) (spot_place tree spot)
  pub inside : IsInside spot.now spot.levels
