use Rattle.std.proofs.Common.{◌≡◌, ◌+◌, ◌*◌, map, drop}
use Rattle.std.specs.Prelude.{max}
use Rattle.acl_model.specs.Document.{greatest, height, height_of_item}
use Rattle.skip_encode.proofs.height.+tree.Given as goal

abbrev pub invariant-height-loop-item : goal.invariant-height-loop-item
invariant-height-loop-item l = max l.greatest (greatest (map height_of_item (drop l.item-index l.element.items))) ≡ greatest (map height_of_item l.element.items)

-- An item is lower than the element that contains it, and a child element is as high as its item.
abbrev pub decreases-height : goal.decreases-height
decreases-height l = 2 * height l.element.now

abbrev pub decreases-height_of_item : goal.decreases-height_of_item
decreases-height_of_item l = 2 * height_of_item l.item.now + 1
