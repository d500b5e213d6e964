use Rattle.std.proofs.Common.{◌≡◌, ◌+◌, ◌*◌, ◌≤◌, ◌++◌, length, map, take, drop}
use Rattle.std.specs.List.{flat_map}
use Rattle.acl_model.specs.Document.{height, height_of_item}
use Rattle.acl_model.specs.Stream.{part_of}
use Rattle.skip_encode.specs.inside.Measures.{part_measures}
use Rattle.skip_encode.specs.inside.Tallies.{IsSmall, prefix_size, tally_of}
use Rattle.skip_encode.proofs.measuring.+tree.Given as goal

-- An item is lower than the element that contains it, and a child element is as high as its item.
abbrev pub decreases-measure_element : goal.decreases-measure_element
decreases-measure_element l = 2 * height l.element.now

abbrev pub decreases-measure_item : goal.decreases-measure_item
decreases-measure_item l = 2 * height_of_item l.item.now + 1

-- The items left are a prefix of all items, and those after them are measured and counted.
abbrev pub invariant-measure_element-loop-items : goal.invariant-measure_element-loop-items
invariant-measure_element-loop-items l = record {
  prefix : l.items ≡ take (length l.items) l.element.items;
  within : length l.items ≤ length l.element.items;
  measured : l.measures ≡ flat_map part_measures (map (part_of l.names) (drop (length l.items) l.element.items)) ++ l.fn.measures;
  counted : l.tally ≡ tally_of (prefix_size l.element.attributes) (map (part_of l.names) (drop (length l.items) l.element.items));
  small : IsSmall l.tally;
}

abbrev pub decreases-measure_element-loop-items : goal.decreases-measure_element-loop-items
decreases-measure_element-loop-items l = length l.items
