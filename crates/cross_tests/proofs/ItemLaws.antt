-- One item more: items are of the right form where all are, and the highest of them counts.
use Rattle.std.proofs.Common.{◌≡◌, ℕ, ◌≤◌, Bool, true, false, List, [], ◌∷◌, ◌++◌, map, max, refl, ap, sym, ◌∙◌, ◌&&◌, arith}
use Rattle.std.specs.List.{list_all}
use Rattle.acl_model.specs.Document.{item_well_formed, greatest, height_of_item}
use Rattle.acl_model.specs.Names.{is_name}
use Rattle.acl_model.specs.declared.document.Item.{Item}

pub formed-push : (items : List Item) (item : Item) → list_all (λ b. b) (map (item_well_formed is_name) items) ≡ true → item_well_formed is_name item ≡ true
    → list_all (λ b. b) (map (item_well_formed is_name) (items ++ (item ∷ []))) ≡ true
formed-push [] item formed is = ap (λ b. b && true) is
formed-push (i ∷ items) item formed is = step (item_well_formed is_name i) (λ rest. formed-push items item rest is) formed
  where
    step : (b : Bool) → (list_all (λ b. b) (map (item_well_formed is_name) items) ≡ true → list_all (λ b. b) (map (item_well_formed is_name) (items ++ (item ∷ []))) ≡ true)
        → (b && list_all (λ b. b) (map (item_well_formed is_name) items)) ≡ true → (b && list_all (λ b. b) (map (item_well_formed is_name) (items ++ (item ∷ [])))) ≡ true
    step true farther rest = farther rest
    step false farther rest = rest

pub greatest-push : (items : List Item) (item : Item) (levels : ℕ) → greatest (map height_of_item items) ≤ levels → height_of_item item ≤ levels
    → greatest (map height_of_item (items ++ (item ∷ []))) ≤ levels
greatest-push [] item levels few is = omega (arith, is)
greatest-push (i ∷ items) item levels few is =
    let rest : greatest (map height_of_item (items ++ (item ∷ []))) ≤ levels = greatest-push items item levels (omega (arith, few)) is in
    omega (arith, few, rest)

pub ruleset item_steps = (formed-push, greatest-push)
