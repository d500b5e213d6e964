-- The three counts of a path. Licences and queries have limits on them. Defined by this project.
use Rattle.std.specs.Prelude.{ℕ, min, List, length, sum_by}
use Rattle.acl_model.specs.declared.path.Path.{Path}
use Rattle.acl_model.specs.declared.path.Step.{Step}
use Rattle.acl_model.specs.declared.path.Pred.{Pred}

-- How many steps a path has.
abbrev pub step_count : Path → ℕ
step_count path = length path.steps

-- How many predicates all steps of a path have in total.
abbrev pub pred_count : Path → ℕ
pred_count path = sum_by (λ s. length s.preds) path.steps

-- How many tests the paths of these predicates have in total. The path of a predicate is in its field `way`.
abbrev pub way_test_count : List Pred → ℕ
way_test_count preds = sum_by (λ p. length p.way) preds

-- How many predicate steps a path has: one for each test in the path of a predicate.
abbrev pub pred_step_count : Path → ℕ
pred_step_count path = sum_by (λ s. way_test_count s.preds) path.steps

-- A count that saturates at 32 bits: the count itself, or the greatest `u32` where the count is above that.
abbrev pub in_32_bits : ℕ → ℕ
in_32_bits n = min n 4294967295
