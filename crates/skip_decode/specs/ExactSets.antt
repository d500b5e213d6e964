-- Lists of events whose tag sets are exact. Defined by this project (VLDB 2004: the Skip index has the set of tags
-- inside each element).
use Rattle.std.specs.Prelude.{◌≡◌, ℕ, zero, suc, List, [], ◌∷◌}
use Rattle.acl_bits.specs.Row.{row_of, is_member}
use Rattle.acl_walk.specs.declared.event.Event.{Event}
use Rattle.acl_walk.specs.declared.event.Event.TheVariants.{Begin, Attr, HeadEnd, Text, Finish, End}

-- the tags of the elements that begin before the Finish of the innermost element, where n elements are open inside it
abbrev pub tags_inside : ℕ → List Event → List ℕ
tags_inside n [] = []
tags_inside n (Begin tag below ∷ events) = tag ∷ tags_inside (suc n) events
tags_inside n (Attr piece ∷ events) = tags_inside n events
tags_inside n (HeadEnd ∷ events) = tags_inside n events
tags_inside n (Text piece ∷ events) = tags_inside n events
tags_inside zero (Finish tag ∷ events) = []
tags_inside (suc n) (Finish tag ∷ events) = tags_inside n events
tags_inside n (End ∷ events) = []

-- The set of each Begin is exactly the set of the tags of the elements inside.
abbrev pub HaveExactSets : List Event → Type 0
HaveExactSets [] = Unit {0}
HaveExactSets (Begin tag below ∷ events) =
    (below ≡ row_of (is_member (tags_inside 0 events))) × HaveExactSets events
HaveExactSets (Attr piece ∷ events) = HaveExactSets events
HaveExactSets (HeadEnd ∷ events) = HaveExactSets events
HaveExactSets (Text piece ∷ events) = HaveExactSets events
HaveExactSets (Finish tag ∷ events) = HaveExactSets events
HaveExactSets (End ∷ events) = HaveExactSets events
