-- The rows, computed.
use Rattle.std.proofs.Common.{◌≡◌, ℕ, zero, suc, Some, None, [], refl, subst}
use Rattle.std.proofs.lemmas.Option.{same_Some, none-some}
use Rattle.std.specs.Prelude.{codes}
use Rattle.acl_model.specs.declared.path.Pred.{Pred}
use Rattle.acl_walk.specs.declared.event.Event.{Event}
use Rattle.acl_walk.specs.declared.event.Event.TheVariants.{Begin}
use Rattle.token_stack.specs.Hits.{hits}
use Rattle.token_stack.specs.PredicateLevels.{AreSuffixes, IsHitRow}
use Rattle.token_stack.specs.RowExamples.{b_with_c, c_is_x, equal_to, child_b, descendant_b, suffixes_of_b}
use Rattle.token_stack.specs.RowExamples.{preds_of_b, just}
use Rattle.token_stack.specs.StateRows.{StateRow, IsSuffix, empty_suffix, HasEmptyAlone}
use Rattle.token_stack.proofs.predicate_laws.rows_of_a_small_document.Goals as goal

abbrev any_of : Pred
any_of = record { way = []; attribute = None; cmp = None }

abbrev child_of : Pred
child_of = record { way = child_b; attribute = None; cmp = None }

abbrev c_of : Pred
c_of = record { way = []; attribute = Some (codes "c"); cmp = Some (equal_to (codes "x")) }

abbrev descendant_of : Pred
descendant_of = record { way = descendant_b; attribute = Some (codes "c"); cmp = Some (equal_to (codes "x")) }

suffixes_are : AreSuffixes suffixes_of_b preds_of_b
suffixes_are zero pred is = subst (λ (p : Pred). IsSuffix suffixes_of_b 0 p.way) (same_Some any_of pred is) refl
suffixes_are (suc zero) pred is =
    subst (λ (p : Pred). IsSuffix suffixes_of_b 1 p.way) (same_Some child_of pred is)
    (refl, refl, (λ name. refl), refl)
suffixes_are (suc (suc zero)) pred is =
    subst (λ (p : Pred). IsSuffix suffixes_of_b 2 p.way) (same_Some c_of pred is) (refl, refl)
suffixes_are (suc (suc (suc zero))) pred is =
    subst (λ (p : Pred). IsSuffix suffixes_of_b 3 p.way) (same_Some descendant_of pred is)
    (refl, refl, (λ name. refl), (refl, refl))
suffixes_are (suc (suc (suc (suc n)))) pred is = absurd (none-some pred is)

abbrev IsHit : StateRow → Event → ℕ → Pred → Type 0
IsHit row event m pred =
    HasEmptyAlone row m pred.way × (row (empty_suffix m pred.way) ≡ hits event 0 b_with_c pred.attribute pred.cmp)

hits_by : (row : StateRow) (event : Event) → IsHit row event 0 any_of → IsHit row event 1 child_of
    → IsHit row event 2 c_of → IsHit row event 3 descendant_of
    → IsHitRow preds_of_b row event 0 b_with_c
hits_by row event first second third fourth zero pred is = subst (IsHit row event 0) (same_Some any_of pred is) first
hits_by row event first second third fourth (suc zero) pred is =
    subst (IsHit row event 1) (same_Some child_of pred is) second
hits_by row event first second third fourth (suc (suc zero)) pred is =
    subst (IsHit row event 2) (same_Some c_of pred is) third
hits_by row event first second third fourth (suc (suc (suc zero))) pred is =
    subst (IsHit row event 3) (same_Some descendant_of pred is) fourth
hits_by row event first second third fourth (suc (suc (suc (suc n)))) pred is = absurd (none-some pred is)

pub returns : goal.returns
returns c = record {
  numbered = ((refl, refl, (λ name. refl), refl), (refl, refl, (λ name. refl), (refl, refl)));
  near = (refl, refl);
  far = (refl, refl);
  begin = (refl, refl);
  attribute = (refl, refl, refl);
  at_begin = refl;
  at_attribute = refl;
  suffixes = suffixes_are;
  hit_at_begin = hits_by (just 0) (Begin 1 []) (tt, refl) ((refl, tt), refl) (tt, refl) ((refl, tt), refl);
  hit_at_attribute = hits_by (just 2) c_is_x (tt, refl) ((refl, tt), refl) (tt, refl) ((refl, tt), refl);
  levels_at_begin = refl;
  levels_at_attribute = refl;
  learned = refl;
  learned_root = refl;
  root = refl;
  inner = refl;
  none = refl;
}
