-- Which texts are kept.
use Rattle.std.proofs.Common.{◌≡◌, ℕ, ◌<◌, Bool, true, false, List, [], ◌∷◌, ◌++◌, map, length, get_or, refl, ap, sym, ◌∙◌}
use Rattle.std.proofs.lemmas.List.Folds.{list_any_at}
use Rattle.std.specs.List.{list_any, concat, flat_map}
use Rattle.acl_model.specs.Values.{string_value, value_of_item}
use Rattle.acl_model.proofs.ValueEquations.{string_value_is}
use Rattle.acl_model.specs.declared.document.Element.{Element}
use Rattle.acl_model.specs.declared.document.Item.{Item}
use Rattle.predicate_walk.specs.declared.truths.PredRef.{PredRef}
use Rattle.predicate_walk.specs.inside.KeptTexts.{compares_texts, needs_texts, kept}
use Rattle.predicate_walk.specs.Truths.{preds_in}
use Rattle.predicate_walk.proofs.Lists.{any_map}

pub refs_need : (refs : List PredRef) → list_any (λ r. compares_texts r.pred.now) refs ≡ needs_texts (preds_in refs)
refs_need refs = sym (any_map compares_texts (λ r. r.pred.now) refs)

-- Where a predicate compares string-values, texts are kept.
pub texts_are_there : (refs : List PredRef) (i : ℕ) (r : PredRef) (value text : List ℕ) → i < length refs → r
    ≡ get_or refs i r → value ≡ kept (needs_texts (preds_in refs)) text
    → compares_texts r.pred.now ≡ true → value ≡ text
texts_are_there refs i r value text within is kept_is compares =
    let needed : needs_texts (preds_in refs) ≡ true = sym (refs_need refs) ∙ list_any_at (λ x. compares_texts x.pred.now) refs i r within (ap (λ x. compares_texts x.pred.now) (sym is) ∙ compares) in
    kept_is ∙ ap (λ b. kept b text) needed

kept_all : (b : Bool) (items : List Item) → flat_map (λ item. kept b (value_of_item item)) items
    ≡ kept b (concat (map value_of_item items))
kept_all true [] = refl
kept_all true (item ∷ items) = ap (λ s. value_of_item item ++ s) (kept_all true items)
kept_all false [] = refl
kept_all false (item ∷ items) = kept_all false items

-- The string-value of an element is joined from its items.
pub kept_is : (b : Bool) (e : Element) → flat_map (λ item. kept b (value_of_item item)) e.items
    ≡ kept b (string_value e)
kept_is b e = kept_all b e.items ∙ ap (kept b) (sym (string_value_is e))
