-- What the tags that a walk gives mean for the elements of a document. Defined by this project.
use Rattle.std.specs.Prelude.{◌≡◌, ℕ, nat_eq, Option, Some, List, [], ◌∷◌, if◌then◌else◌}
use Rattle.std.specs.List.{slice_get}
use Rattle.acl_model.specs.Ascii.{hyphen}
use Rattle.acl_model.specs.Chain.{Chain, selects}
use Rattle.acl_model.specs.RuleNumbers.{numbers_of}
use Rattle.acl_model.specs.declared.rule.Rule.{Rule}

-- the tag of a dummy; no name has this number
abbrev pub dummy_tag : ℕ
dummy_tag = 256

-- the name of a tag: a dummy's for the dummy's tag, and else the name with this number, if there is one
abbrev pub tag_name : List (List ℕ) → ℕ → Option (List ℕ)
tag_name names tag = if nat_eq tag dummy_tag then Some (hyphen ∷ []) else slice_get names tag

-- There is one tag for each element of the chain, and each tag's name is the element's.
abbrev pub AreTagsOf : List (List ℕ) → List ℕ → Chain → Type 0
AreTagsOf names [] [] = Unit {0}
AreTagsOf names [] (e ∷ up) = ⊥
AreTagsOf names (tag ∷ tags) [] = ⊥
AreTagsOf names (tag ∷ tags) (e ∷ up) = (tag_name names tag ≡ Some e.name) × AreTagsOf names tags up

-- the numbers, from 0, of the rules whose paths select the first element of the chain
abbrev pub selecting_rules : List Rule → Chain → List ℕ
selecting_rules rules chain = numbers_of (λ r. selects r.path chain) rules
