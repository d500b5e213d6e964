-- What is known of the parts and the names of an element.
use Rattle.std.proofs.Common.{◌≡◌, ℕ, ◌<◌, ◌≤◌, Bool, true, false, ◌&&◌, ◌||◌, nat_le, List, ◌∷◌, length, map, refl, ap, sym, ◌∙◌, arith}
use Rattle.std.specs.Cmp.{first_so, second_so}
use Rattle.std.specs.List.{list_all, list_any}
use Rattle.std.proofs.lemmas.Bool.Decides.{nat_tests}
use Rattle.acl_bits.specs.Row.{row_of}
use Rattle.acl_model.specs.Document.{is_raw_attribute, is_well_formed, item_well_formed}
use Rattle.acl_model.specs.Dictionary.{has_name}
use Rattle.acl_model.specs.Stream.{Part, holds_number, numbers_in}
use Rattle.acl_model.proofs.FormEquations.{well_formed_is}
use Rattle.acl_model.specs.declared.document.Element.{Element}
use Rattle.skip_decode.proofs.Heads.{numbers_with-row}

-- ---- parts

-- The numbers in a part pass the test.
abbrev pub Passes : (ℕ → Bool) → Part → Type 0
Passes p part = (k : ℕ) → k < 256 → holds_number k part ≡ true → p k ≡ true

-- The numbers in all parts pass the test.
abbrev pub AllPass : (ℕ → Bool) → List Part → Type 0
AllPass p parts = (k : ℕ) → k < 256 → list_any (holds_number k) parts ≡ true → p k ≡ true

pub first_passes : (p : ℕ → Bool) (part : Part) (parts : List Part) → AllPass p (part ∷ parts) → Passes p part
first_passes p part parts all k small holds = all k small (ap (λ b. b || list_any (holds_number k) parts) holds)

pub others_pass : (p : ℕ → Bool) (part : Part) (parts : List Part) → AllPass p (part ∷ parts) → AllPass p parts
others_pass p part parts all k small holds = all k small (ap (λ b. holds_number k part || b) holds ∙ always (holds_number k part))
  where
    always : (b : Bool) → (b || true) ≡ true
    always true = refl
    always false = refl

-- ---- an element

-- The numbers in the parts, as the set of a test's numbers.
pub numbers_in-row : (parts : List Part) → numbers_in parts ≡ row_of (λ n. list_any (holds_number n) parts)
unfolding numbers_in
numbers_in-row parts = numbers_with-row (λ n. list_any (holds_number n) parts)

pub few_attributes : (names : List (List ℕ)) (e : Element) → is_well_formed (has_name names) e ≡ true → length e.attributes ≤ 65535
few_attributes names e good =
    let own = has_name names e.name in
    let few = nat_le (length e.attributes) 65535 in
    let raw = list_all is_raw_attribute e.attributes in
    let items = list_all (λ b. b) (map (item_well_formed (has_name names)) e.items) in
    let bounded : nat_le (length e.attributes) 65535 ≡ true = second_so own few (first_so (own && few) raw (first_so (own && few && raw) items (sym (well_formed_is (has_name names) e) ∙ good))) in
    grind (arith, nat_tests)

pub good_items : (names : List (List ℕ)) (e : Element) → is_well_formed (has_name names) e ≡ true → list_all (λ b. b) (map (item_well_formed (has_name names)) e.items) ≡ true
good_items names e good =
    second_so (has_name names e.name && nat_le (length e.attributes) 65535 && list_all is_raw_attribute e.attributes) (list_all (λ b. b) (map (item_well_formed (has_name names)) e.items)) (sym (well_formed_is (has_name names) e) ∙ good)

pub has_own_name : (names : List (List ℕ)) (e : Element) → is_well_formed (has_name names) e ≡ true → has_name names e.name ≡ true
has_own_name names e good =
    let own = has_name names e.name in
    let few = nat_le (length e.attributes) 65535 in
    let raw = list_all is_raw_attribute e.attributes in
    let items = list_all (λ b. b) (map (item_well_formed (has_name names)) e.items) in
    first_so own few (first_so (own && few) raw (first_so (own && few && raw) items (sym (well_formed_is (has_name names) e) ∙ good)))
