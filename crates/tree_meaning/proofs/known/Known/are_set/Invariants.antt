use Rattle.std.proofs.Common.{◌≡◌, take, drop}
use Rattle.std.specs.List.{list_all}
use Rattle.tree_meaning.proofs.known.Known.are_set.Given as goal

abbrev pub invariant-loop-n : goal.invariant-loop-n
invariant-loop-n l = list_all (λ flag. flag) (drop l.n (take l.count l.self)) ≡ list_all (λ flag. flag) (take l.count l.self)
