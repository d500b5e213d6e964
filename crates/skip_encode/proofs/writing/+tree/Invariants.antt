use Rattle.std.proofs.Common.{◌≡◌, ◌+◌, ◌*◌, ◌++◌, true, length, map, drop}
use Rattle.std.specs.List.{flat_map, list_all}
use Rattle.acl_model.specs.Names.{is_name}
use Rattle.acl_model.specs.Width.{binary_length}
use Rattle.acl_model.specs.Document.{height, height_of_item, item_well_formed}
use Rattle.acl_model.specs.Stream.{size, bytes_of_segments, part_segments, element_part, branch_of, part_of}
use Rattle.skip_encode.specs.inside.Measures.{part_measures}
use Rattle.skip_encode.proofs.writing.+tree.Given as goal

-- An item is lower than the element that contains it, and a child element is as high as its item.
abbrev pub decreases-write_element : goal.decreases-write_element
decreases-write_element l = 2 * height l.element.now

abbrev pub decreases-write_item : goal.decreases-write_item
decreases-write_item l = 2 * height_of_item l.item.now + 1

-- The bytes of the items left come after what is written, and their measures are first on the stack.
abbrev pub invariant-write_element-loop-item : goal.invariant-write_element-loop-item
invariant-write_element-loop-item l = record {
  written : l.bytes.items ++ bytes_of_segments (flat_map (part_segments (branch_of l.names l.element).below (binary_length (size (branch_of l.names l.element).content))) (map (part_of l.names) (drop l.item-index l.element.items)))
      ≡ l.fn.bytes.items ++ bytes_of_segments (part_segments l.parent.members l.parent.width (element_part (branch_of l.names l.element)));
  left : l.measures ≡ flat_map part_measures (map (part_of l.names) (drop l.item-index l.element.items)) ++ drop (length (part_measures (element_part (branch_of l.names l.element)))) l.fn.measures;
  formed : list_all (λ b. b) (map (item_well_formed is_name) (drop l.item-index l.element.items)) ≡ true;
}
