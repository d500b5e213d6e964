-- Rules by number: the index of a rule in the list of rules, from 0. Defined by this project.
use Rattle.std.specs.Prelude.{ℕ, Bool, false, List}
use Rattle.std.specs.List.{filter, range_with_len, slice_get}
use Rattle.std.specs.Option.{option_map_or}
use Rattle.acl_model.specs.Explain.{is_same_sign}
use Rattle.acl_model.specs.declared.rule.Rule.{Rule}
use Rattle.acl_model.specs.declared.rule.Sign.{Sign}

-- the numbers, from 0 to 255, of the rules that pass a test, in order
unfoldable pub numbers_of : (Rule → Bool) → List Rule → List ℕ
numbers_of test rules =
    filter (λ n. option_map_or test (slice_get rules n) false) (range_with_len 0 256)

-- the numbers of the rules of a sign
abbrev pub numbers_of_sign : Sign → List Rule → List ℕ
numbers_of_sign sign rules = numbers_of (λ r. is_same_sign r.sign sign) rules
