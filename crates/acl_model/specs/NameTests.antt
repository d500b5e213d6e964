-- Which names pass the test of a step (XPath 1.0, 2.3).
use Rattle.std.specs.Prelude.{ℕ, Bool, true, not, nat_eq, ◌&&◌, List}
use Rattle.std.specs.Cmp.Lexicographic.{pointwise}
use Rattle.acl_model.specs.Document.{is_dummy_name}
use Rattle.acl_model.specs.declared.path.Test.{Test}
use Rattle.acl_model.specs.declared.path.Test.TheVariants.{Any, Named}

-- Every name passes '*', also that of a dummy. An equal name passes a name test, but the name of a dummy passes none
-- (XPath 1.0, 2.3).
abbrev pub passes : Test → List ℕ → Bool
passes Any name = true
passes (Named wanted) name = pointwise nat_eq wanted name && not (is_dummy_name name)
