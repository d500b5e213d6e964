use Rattle.std.proofs.Common.{◌≡◌, ◌+◌, ◌*◌, drop, map, true}
use Rattle.std.specs.List.{list_all, flat_map}
use Rattle.acl_model.specs.Names.{is_name}
use Rattle.acl_model.specs.Document.{item_well_formed, height, height_of_item}
use Rattle.acl_model.specs.Dictionary.{with_names, start_names, item_start_names}
use Rattle.tag_dictionary.proofs.dictionary.Dictionary.+tree.Given as goal

abbrev pub invariant-add_element-loop-item : goal.invariant-add_element-loop-item
invariant-add_element-loop-item l = record {
  joins : with_names l.self (flat_map (λ starts. starts) (map item_start_names (drop l.item-index l.element.items))) ≡ with_names l.fn.self (start_names l.element);
  formed : list_all (λ b. b) (map (item_well_formed is_name) (drop l.item-index l.element.items)) ≡ true;
}

-- an item is lower than its element, and a child element is as high as its item
abbrev pub decreases-add_element : goal.decreases-add_element
decreases-add_element l = 2 * height l.element.now

abbrev pub decreases-add_item : goal.decreases-add_item
decreases-add_item l = 2 * height_of_item l.item.now + 1
