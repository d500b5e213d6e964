use Rattle.std.proofs.Common.{◌≡◌, ◌++◌, drop, length}
use Rattle.std.specs.List.{flat_map}
use Rattle.acl_model.specs.Predicates.{below_item}
use Rattle.acl_model.specs.Values.{value_of_item}
use Rattle.predicate_walk.specs.inside.States.{number_of_states, with_items}
use Rattle.predicate_walk.specs.inside.KeptTexts.{needs_texts, kept}
use Rattle.predicate_walk.specs.Truths.{truths}
use Rattle.predicate_walk.proofs.walk.+walk.Given as goal

abbrev pub invariant-walk_element-loop-item : goal.invariant-walk_element-loop-item
invariant-walk_element-loop-item l = record {
  long : length l.row ≡ number_of_states l.machine;
  row : with_items l.machine l.row (drop l.item-index l.item-items) ≡ with_items l.machine l.initial.row l.item-items;
  texts : l.texts.items ++ flat_map (λ item. kept (needs_texts l.machine) (value_of_item item)) (drop l.item-index l.item-items)
      ≡ l.initial.texts.items ++ flat_map (λ item. kept (needs_texts l.machine) (value_of_item item)) l.item-items;
  flags : l.flags ++ flat_map (λ item. truths l.machine (below_item item)) (drop l.item-index l.item-items)
      ≡ l.initial.flags ++ flat_map (λ item. truths l.machine (below_item item)) l.item-items;
}
