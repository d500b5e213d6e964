-- All names are known exactly if those in the items that are left are.
use Rattle.std.proofs.Common.{◌≡◌, ℕ, List, map, drop}
use Rattle.std.specs.List.{list_all, flat_map}
use Rattle.acl_model.specs.Dictionary.{item_start_names}
use Rattle.acl_walk.specs.TreeState.{is_known}
use Rattle.acl_walk.proofs.walkable.+known.Given as goal

abbrev pub invariant-knows_element-loop-item : goal.invariant-knows_element-loop-item
invariant-knows_element-loop-item l =
    list_all (is_known l.names) (flat_map {X = List (List ℕ)} (λ starts. starts) (map item_start_names (drop l.item-index l.element.items)))
    ≡ list_all (is_known l.names) (flat_map {X = List (List ℕ)} (λ starts. starts) (map item_start_names l.element.items))
