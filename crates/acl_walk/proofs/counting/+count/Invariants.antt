-- The count so far and the events that are left give the whole count, up to the greatest u64.
use Rattle.std.proofs.Common.{◌≡◌, ◌+◌, ◌-◌, ◌^◌, ◌≤◌, ℕ, List, length, min, drop}
use Rattle.std.specs.List.{flat_map}
use Rattle.acl_walk.specs.inside.OpenElements.{items_events}
use Rattle.acl_walk.specs.TreeEvents.{attribute_events, element_events}
use Rattle.acl_walk.proofs.counting.+count.Given as goal

abbrev pub invariant-element_count-loop-raw : goal.invariant-element_count-loop-raw
invariant-element_count-loop-raw l = record {
  all : min (l.count + length (flat_map attribute_events (drop l.raw-index l.element.attributes))) (2 ^ 64 - 1) ≡ min (3 + length (flat_map attribute_events l.element.attributes)) (2 ^ 64 - 1);
  fits : l.count ≤ 2 ^ 64 - 1;
}

abbrev pub invariant-element_count-loop-item : goal.invariant-element_count-loop-item
invariant-element_count-loop-item l = record {
  all : (names : List (List ℕ)) → min (l.count + length (items_events names (drop l.item-index l.element.items))) (2 ^ 64 - 1) ≡ min (length (element_events names l.element)) (2 ^ 64 - 1);
  fits : l.count ≤ 2 ^ 64 - 1;
}
