-- A walk that tests each target where it is reached gives `holds` of acl_model.
use Rattle.std.proofs.Common.{◌≡◌, ℕ, Bool, true, false, ◌&&◌, ◌||◌, Option, Some, None, List, [], ◌∷◌, map, append-nil, cond, refl, ap, sym, ◌∙◌}
use Rattle.std.proofs.lemmas.List.Folds.{list_any-append}
use Rattle.std.specs.List.{list_any, filter, flat_map}
use Rattle.acl_model.specs.NameTests.{passes}
use Rattle.acl_model.specs.Values.{string_value, values_at, gives_value, attribute_value, attribute_values}
use Rattle.acl_model.specs.Comparisons.{satisfies}
use Rattle.acl_model.specs.Predicates.{on_axis, targets, is_enough, holds}
use Rattle.acl_model.specs.declared.document.Element.{Element}
use Rattle.acl_model.specs.declared.path.Pred.{Pred}
use Rattle.acl_model.specs.declared.path.PredStep.{PredStep}
use Rattle.acl_model.specs.declared.path.Cmp.{Cmp}
use Rattle.predicate_walk.specs.inside.Met.{is_enough_at, is_met}
use Rattle.value_scan.specs.Attributes.{attribute_is_enough}

or_false : (b : Bool) → (b || false) ≡ b
or_false true = refl
or_false false = refl

-- ---- one target

any_attribute : (name : List ℕ) (cmp : Option Cmp) (raws : List (List ℕ))
    → list_any (is_enough cmp) (map attribute_value (filter (gives_value name) raws))
    ≡ list_any (attribute_is_enough name cmp) raws
any_attribute name cmp [] = refl
any_attribute name cmp (raw ∷ raws) =
    elim (gives_value name raw) as (λ t. list_any (is_enough cmp) (map attribute_value (cond t (raw ∷ filter (gives_value name) raws) (filter (gives_value name) raws))) ≡ ((t && is_enough cmp (attribute_value raw)) || list_any (attribute_is_enough name cmp) raws))
    [ true ↦ ap (λ b. is_enough cmp (attribute_value raw) || b) (any_attribute name cmp raws) | false ↦ any_attribute name cmp raws ]

-- With the name of an attribute, each attribute of the element is tested.
pub enough_attributes : (pred : Pred) (name : List ℕ) (e : Element) → pred.attribute ≡ Some name
    → list_any (attribute_is_enough name pred.cmp) e.attributes ≡ is_enough_at pred e
unfolding is_enough_at
enough_attributes pred name e is =
    sym (any_attribute name pred.cmp e.attributes)
    ∙ ap (list_any (is_enough pred.cmp)) (sym (append-nil (attribute_values name e)))
    ∙ ap (λ o. list_any (is_enough pred.cmp) (values_at o (e ∷ []))) (sym is)

-- Without one, the string-value is tested.
pub enough_text : (pred : Pred) (cmp : Cmp) (e : Element) → pred.attribute ≡ None → pred.cmp ≡ Some cmp
    → satisfies cmp.op cmp.operand (string_value e) ≡ is_enough_at pred e
unfolding is_enough_at
enough_text pred cmp e none is =
    sym (or_false (satisfies cmp.op cmp.operand (string_value e)))
    ∙ ap (λ c. list_any (is_enough c) (string_value e ∷ [])) (sym is)
    ∙ ap (λ o. list_any (is_enough pred.cmp) (values_at o (e ∷ []))) (sym none)

-- Without a comparison, it is enough that the element exists.
pub enough_there : (pred : Pred) (e : Element) → pred.attribute ≡ None → pred.cmp ≡ None → true ≡ is_enough_at pred e
unfolding is_enough_at
enough_there pred e none is =
    ap (λ c. list_any (is_enough c) (string_value e ∷ [])) (sym is)
    ∙ ap (λ o. list_any (is_enough pred.cmp) (values_at o (e ∷ []))) (sym none)

pub ruleset enough_laws = (enough_attributes, enough_text, enough_there)

-- ---- all targets

any_filter : (t : Element → Bool) (way : List PredStep) (test : Element → Bool) (es : List Element)
    → ((e : Element) → list_any test (targets way e) ≡ is_met test way e)
    → list_any test (flat_map (targets way) (filter t es)) ≡ list_any (λ e. t e && is_met test way e) es
any_filter t way test [] same = refl
any_filter t way test (e ∷ es) same =
    elim (t e) as (λ b. list_any test (flat_map (targets way) (cond b (e ∷ filter t es) (filter t es))) ≡ ((b && is_met test way e) || list_any (λ x. t x && is_met test way x) es)) [
      | true ↦ list_any-append test (targets way e) (flat_map (targets way) (filter t es)) ∙ ap (λ b. b || list_any test (flat_map (targets way) (filter t es))) (same e) ∙ ap (λ b. is_met test way e || b) (any_filter t way test es same)
      | false ↦ any_filter t way test es same
    ]

any_target : (test : Element → Bool) (way : List PredStep) (e : Element) → list_any test (targets way e)
    ≡ is_met test way e
any_target test [] e = or_false (test e)
any_target test (s ∷ way) e = any_filter (λ c. passes s.test c.name) way test (on_axis s.axis e) (any_target test way)

-- the values at many targets, target by target
any_value : (p : List ℕ → Bool) (attribute : Option (List ℕ)) (es : List Element)
    → list_any p (values_at attribute es) ≡ list_any (λ e. list_any p (values_at attribute (e ∷ []))) es
any_value p None [] = refl
any_value p None (e ∷ es) =
    ap (λ b. p (string_value e) || b) (any_value p None es)
    ∙ ap (λ b. b || list_any (λ x. list_any p (values_at None (x ∷ []))) es) (sym (or_false (p (string_value e))))
any_value p (Some name) [] = refl
any_value p (Some name) (e ∷ es) =
    list_any-append p (attribute_values name e) (flat_map (attribute_values name) es)
    ∙ ap (λ b. list_any p (attribute_values name e) || b) (any_value p (Some name) es)
    ∙ ap (λ vs. list_any p vs || list_any (λ x. list_any p (values_at (Some name) (x ∷ []))) es)
    (sym (append-nil (attribute_values name e)))

-- A predicate holds where the walk reaches a target with a value that is enough.
pub held_where_met : (pred : Pred) (e : Element) → is_met (is_enough_at pred) pred.way e ≡ holds pred e
unfolding holds is_enough_at
held_where_met pred e =
    sym (any_target (λ x. list_any (is_enough pred.cmp) (values_at pred.attribute (x ∷ []))) pred.way e)
    ∙ sym (any_value (is_enough pred.cmp) pred.attribute (targets pred.way e))
