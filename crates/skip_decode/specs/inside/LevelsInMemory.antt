-- The open elements at a position as they are stored in memory, the innermost last. Defined by this
-- project.
use Rattle.std.specs.Prelude.{◌<◌, Option, None, Some, List, [], ◌∷◌, length, reverse}
use Rattle.skip_decode.specs.declared.position.Level.{Level}
use Rattle.skip_decode.specs.StreamSteps.{Change, Stay, Open, Close}

-- the open elements, the innermost first
unfoldable pub innermost_first : List Level → List Level
innermost_first levels = reverse levels

-- the innermost of these open elements, if there is one
abbrev pub innermost : List Level → Option Level
innermost [] = None
innermost (level ∷ up) = Some level

-- There is room for the element that a change opens, if it opens one.
abbrev pub HasRoom : Change → List Level → Type 0
HasRoom Stay levels = Unit {0}
HasRoom (Open parent child) levels = length levels < 255
HasRoom Close levels = Unit {0}
