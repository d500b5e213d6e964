-- The open elements at a position in a tree as they are stored in memory, the innermost last.
-- Defined by this project.
use Rattle.std.specs.Prelude.{List, map, reverse}
use Rattle.acl_walk.specs.inside.OpenElements.{OpenElement}
use Rattle.acl_walk.specs.declared.levels.Level.{Level}

-- an open element
abbrev pub open_element : Level → OpenElement
open_element level = record { tag = level.tag; items = level.items.now }

-- the open elements, the innermost first
unfoldable pub open_elements : List Level → List OpenElement
open_elements levels = map open_element (reverse levels)
