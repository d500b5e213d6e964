-- The numbers of the names in an element are those of its part: its own number, and those in its tag set.
use Rattle.std.proofs.Common.{◌≡◌, ℕ, ◌<◌, ◌≤◌, Bool, true, false, ◌&&◌, ◌||◌, nat_eq, Option, Some, None, is_some, List, [], ◌∷◌, ◌++◌, length, map, refl, ap, sym, ◌∙◌, subst, arith, inl, inr, ◌⊎◌, ⊎_elim, IfSome}
use Rattle.std.specs.Cmp.{first_so, second_so}
use Rattle.std.specs.Cmp.Lexicographic.{pointwise, bytes_decides}
use Rattle.std.specs.List.{flat_map, list_all, list_any, Contains}
use Rattle.std.specs.Option.{unwrap_or}
use Rattle.std.proofs.lemmas.Bool.{cases_Bool, true≢false}
use Rattle.std.proofs.lemmas.Bool.Decides.{nat_tests}
use Rattle.std.proofs.lemmas.Cmp.{nat_list_eq_equiv}
use Rattle.std.proofs.lemmas.List.Folds.{list_any-append}
use Rattle.std.proofs.lemmas.Map.Views.{list_any-from_Contains}
use Rattle.acl_bits.specs.Row.{is_member}
use Rattle.acl_model.specs.Document.{is_well_formed, item_well_formed, is_dummy_name}
use Rattle.acl_model.specs.Dictionary.{item_starts, element_starts, has_name, name_number, start_names, item_start_names}
use Rattle.acl_model.specs.Names.{is_name}
use Rattle.acl_model.specs.Places.{children, names_of, tag_set}
use Rattle.acl_model.specs.Stream.{tag_of, Branch, element_part, holds_number, has_member, branch_of, part_of}
use Rattle.acl_model.proofs.DictionaryLaws.{start_names_is, item_start_names-Text, item_start_names-Child}
use Rattle.acl_model.proofs.FormEquations.{item_well_formed-Child}
use Rattle.acl_model.proofs.GrantLaws.{children-Text, children-Child}
use Rattle.acl_model.proofs.StreamEquations.{branch_of_is, part_of-Child}
use Rattle.acl_model.specs.declared.document.Element.{Element}
use Rattle.acl_model.specs.declared.document.Item.{Item}
use Rattle.acl_model.specs.declared.document.Item.TheVariants as item
use Rattle.acl_model.specs.declared.document.Item.TheOpen.{Item-F, Element-F}
use Rattle.acl_model.specs.declared.document.Item.TheFolds.{fold-Item, fold-Element, fold_out-Element, fold-roll-Item}
use Rattle.acl_walk.specs.Spelling as spelling
use Rattle.acl_walk.specs.Spelling.{Covers}
use Rattle.acl_walk.specs.inside.TagLaws.{tag_of-name, is_some-name_number}
use Rattle.acl_walk.specs.inside.TreeInduction.{Each, element_by_parts, each_by_parts}
use Rattle.skip_decode.proofs.Heads.{is_member-has, has_member-row}
use Rattle.skip_decode.proofs.Names.{tag_of-below}
use Rattle.skip_decode.proofs.Elements.{numbers_in-row, good_items, has_own_name}
use Rattle.skip_decode.proofs.Starts.{start_names-formed}

-- the names in items
abbrev pub names_in : List Item → List (List ℕ)
names_in items = flat_map (λ starts. starts) (map item_start_names items)

pub either : (a b : Bool) → (a || b) ≡ true → (a ≡ true) ⊎ (b ≡ true)
either true b so = inl refl
either false b so = inr so

pub or_true : (b : Bool) → (b || true) ≡ true
or_true true = refl
or_true false = refl

-- ---- both definitions of the names in an element say the same

-- two folds by functions that agree are the same
module _ (fi gi : Item-F (List (List ℕ)) (List (List ℕ)) → List (List ℕ)) (fe ge : Element-F (List (List ℕ)) (List (List ℕ)) → List (List ℕ))
    (items_agree : (x : Item-F (List (List ℕ)) (List (List ℕ))) → fi x ≡ gi x) (elements_agree : (x : Element-F (List (List ℕ)) (List (List ℕ))) → fe x ≡ ge x) where
  abbrev SameFold : Element → Type 0
  SameFold e = fold-Element (List (List ℕ)) (List (List ℕ)) fi fe e ≡ fold-Element (List (List ℕ)) (List (List ℕ)) gi ge e

  abbrev SameItem : Item → Type 0
  SameItem i = fold-Item (List (List ℕ)) (List (List ℕ)) fi fe i ≡ fold-Item (List (List ℕ)) (List (List ℕ)) gi ge i

  same_text : (bytes : List ℕ) → SameItem (item.Text bytes)
  same_text bytes = subst SameItem (item.rolls-Text bytes)
      (fold-roll-Item (List (List ℕ)) (List (List ℕ)) fi fe (Item-F.Text bytes) ∙ items_agree (Item-F.Text bytes) ∙ sym (fold-roll-Item (List (List ℕ)) (List (List ℕ)) gi ge (Item-F.Text bytes)))

  same_child : (e : Element) → SameFold e → SameItem (item.Child e)
  same_child e same = subst SameItem (item.rolls-Child e)
      (fold-roll-Item (List (List ℕ)) (List (List ℕ)) fi fe (Item-F.Child e) ∙ items_agree (Item-F.Child (fold-Element (List (List ℕ)) (List (List ℕ)) fi fe e))
      ∙ ap (λ l. gi (Item-F.Child l)) same ∙ sym (fold-roll-Item (List (List ℕ)) (List (List ℕ)) gi ge (Item-F.Child e)))

  same_items : (items : List Item) → Each SameItem items → map (fold-Item (List (List ℕ)) (List (List ℕ)) fi fe) items ≡ map (fold-Item (List (List ℕ)) (List (List ℕ)) gi ge) items
  same_items [] each = refl
  same_items (i ∷ items) each =
      ap (λ l. l ∷ map (fold-Item (List (List ℕ)) (List (List ℕ)) fi fe) items) each.0 ∙ ap (λ ls. fold-Item (List (List ℕ)) (List (List ℕ)) gi ge i ∷ ls) (same_items items each.1)

  same_element : (e : Element) → Each SameItem e.items → SameFold e
  same_element e each =
      fold_out-Element (List (List ℕ)) (List (List ℕ)) fi fe e ∙ elements_agree _
      ∙ ap (λ ls. ge (record { name = e.name; attributes = e.attributes; items = ls })) (same_items e.items each)
      ∙ sym (fold_out-Element (List (List ℕ)) (List (List ℕ)) gi ge e)

  same_fold : (e : Element) → SameFold e
  same_fold = element_by_parts SameFold SameItem same_text same_child same_element

names_of-start : (e : Element) → names_of e ≡ start_names e
unfolding names_of start_names
names_of-start e = same_fold _ item_starts _ element_starts (λ x. elim x [
  | Item-F.Text bytes ↦ refl
  | Item-F.Child names ↦ refl
]) (λ x. refl) e

-- the names of element children are those in the items
abbrev NamesFirst : Item → Type 0
NamesFirst i = (items : List Item) → flat_map names_of (children (i ∷ items)) ≡ item_start_names i ++ flat_map names_of (children items)

names_first : (items : List Item) → Each NamesFirst items
names_first = each_by_parts (λ e. Unit {0}) NamesFirst
    (λ bytes items. ap (flat_map names_of) (children-Text bytes items) ∙ ap (λ l. l ++ flat_map names_of (children items)) (sym (item_start_names-Text bytes)))
    (λ e known items. ap (flat_map names_of) (children-Child e items) ∙ ap (λ l. l ++ flat_map names_of (children items)) (names_of-start e ∙ sym (item_start_names-Child e)))
    (λ e each. tt)

children_names : (items : List Item) → Each NamesFirst items → flat_map names_of (children items) ≡ names_in items
children_names [] each = refl
children_names (i ∷ items) each = each.0 items ∙ ap (λ l. item_start_names i ++ l) (children_names items each.1)

-- The tag set of an element has the names in its items.
pub tag_set-names : (e : Element) → tag_set e ≡ names_in e.items
tag_set-names e = children_names e.items (names_first e.items)

-- ---- names are held

module _ (names : List (List ℕ)) (few : length names ≤ 256) (name : List ℕ) (known : has_name names name ≡ true) where
  -- where a well-formed element has the name, its part has the name's number
  abbrev Held : Element → Type 0
  Held e = is_well_formed (has_name names) e ≡ true → has_name (start_names e) name ≡ true → holds_number (tag_of names name) (element_part (branch_of names e)) ≡ true

  abbrev ItemHeld : Item → Type 0
  ItemHeld i = item_well_formed (has_name names) i ≡ true → has_name (item_start_names i) name ≡ true → holds_number (tag_of names name) (part_of names i) ≡ true

  text_held : (bytes : List ℕ) → ItemHeld (item.Text bytes)
  text_held bytes good there = absurd (true≢false (sym there ∙ ap (λ l. has_name l name) (item_start_names-Text bytes)))

  child_held : (e : Element) → Held e → ItemHeld (item.Child e)
  child_held e held good there =
      ap (holds_number (tag_of names name)) (part_of-Child names e)
      ∙ held (sym (item_well_formed-Child (has_name names) e) ∙ good) (ap (λ l. has_name l name) (sym (item_start_names-Child e)) ∙ there)

  items_held : (items : List Item) → Each ItemHeld items → list_all (λ b. b) (map (item_well_formed (has_name names)) items) ≡ true → has_name (names_in items) name ≡ true
      → list_any (holds_number (tag_of names name)) (map (part_of names) items) ≡ true
  items_held [] each good there = there
  items_held (i ∷ items) each good there =
      let others : Bool = list_any (holds_number (tag_of names name)) (map (part_of names) items) in
      let split = sym (list_any-append (pointwise nat_eq name) (item_start_names i) (names_in items)) ∙ there in
      elim (either (has_name (item_start_names i) name) (has_name (names_in items) name) split) [
        | inl here ↦ ap (λ b. b || others) (each.0 (first_so (item_well_formed (has_name names) i) (list_all (λ b. b) (map (item_well_formed (has_name names)) items)) good) here)
        | inr later ↦ ap (λ b. holds_number (tag_of names name) (part_of names i) || b) (items_held items each.1 (second_so (item_well_formed (has_name names) i) (list_all (λ b. b) (map (item_well_formed (has_name names)) items)) good) later)
            ∙ or_true (holds_number (tag_of names name) (part_of names i))
      ]

  -- The number is in the tag set where an item has it.
  in_below : (e : Element) → list_any (holds_number (tag_of names name)) (map (part_of names) e.items) ≡ true → has_member (branch_of names e).below (tag_of names name) ≡ true
  in_below e holds =
      let below = tag_of-below names name known in
      ap (λ m. has_member m (tag_of names name)) (ap (λ (b : Branch). b.below) (branch_of_is names e) ∙ numbers_in-row (map (part_of names) e.items))
      ∙ has_member-row (λ n. list_any (holds_number n) (map (part_of names) e.items)) (tag_of names name) (omega (arith, below, few)) ∙ holds

  element_held : (e : Element) → Each ItemHeld e.items → Held e
  element_held e each good there =
      let b : Branch = branch_of names e in
      let split : (pointwise nat_eq name e.name || has_name (names_in e.items) name) ≡ true = ap (λ l. has_name l name) (sym (start_names_is e)) ∙ there in
      let tag : b.tag ≡ tag_of names e.name = ap (λ (b : Branch). b.tag) (branch_of_is names e) in
      elim (either (pointwise nat_eq name e.name) (has_name (names_in e.items) name) split) [
        | inl own ↦
            let same : name ≡ e.name = (bytes_decides name e.name).0 own in
            let number : b.tag ≡ tag_of names name = tag ∙ ap (tag_of names) (sym same) in
            let test : nat_eq b.tag (tag_of names name) ≡ true = grind (arith, nat_tests) in
            ap (λ t. t || has_member b.below (tag_of names name)) test
        | inr inside ↦
            ap (λ t. nat_eq b.tag (tag_of names name) || t) (in_below e (items_held e.items each (good_items names e good) inside)) ∙ or_true (nat_eq b.tag (tag_of names name))
      ]

  -- The part of an element has the number of each name in it.
  pub element_holds : (e : Element) → Held e
  element_holds = element_by_parts Held ItemHeld text_held child_held element_held

  -- The tag set of an element has the number of each name in its items.
  pub below_holds : (e : Element) → is_well_formed (has_name names) e ≡ true → has_name (names_in e.items) name ≡ true → has_member (branch_of names e).below (tag_of names name) ≡ true
  below_holds e good there = in_below e (items_held e.items (each_by_parts Held ItemHeld text_held child_held element_held e.items) (good_items names e good) there)

-- ---- the tag set covers the element

-- what holds of the value that an option has
pub some_value : (o : Option ℕ) (below : List ℕ) → ((n : ℕ) → o ≡ Some n → is_member below n ≡ true) → IfSome o (λ n. is_member below n ≡ true)
some_value None below h = tt
some_value (Some n) below h = h n refl

-- A set with a member isn't empty.
pub has_some : (below : List ℕ) (n : ℕ) → has_member below n ≡ true → 0 < length below
has_some [] n has = absurd (true≢false (sym has))
has_some (m ∷ below) n has = omega arith

module _ (names : List (List ℕ)) (few : length names ≤ 256) where
  member_known : (e : Element) (name : List ℕ) (n : ℕ) → is_well_formed (has_name names) e ≡ true → Contains (tag_set e) name → name_number names name ≡ Some n → is_member (branch_of names e).below n ≡ true
  member_known e name n good inside found =
      let known : has_name names name ≡ true = sym (is_some-name_number names name) ∙ ap is_some found in
      let number : tag_of names name ≡ n = ap (λ o. unwrap_or o 0) found in
      let there : has_name (names_in e.items) name ≡ true = list_any-from_Contains nat_list_eq_equiv name (names_in e.items) (subst (λ l. Contains l name) (tag_set-names e) inside) in
      ap (is_member (branch_of names e).below) (sym number) ∙ is_member-has (branch_of names e).below (tag_of names name) ∙ below_holds names few name known e good there

  -- Where an element has a child, a name is in its items.
  pub first_child : (es : List Element) (l : List (List ℕ)) → flat_map names_of es ≡ l → 0 < length es → (name : List ℕ) × (has_name l name ≡ true)
  first_child [] l is some = absurd (omega (arith, some))
  first_child (e ∷ es) l is some =
      let starts : e.name ∷ (names_in e.items ++ flat_map names_of es) ≡ l = ap (λ s. s ++ flat_map names_of es) (sym (names_of-start e ∙ start_names_is e)) ∙ is in
      (e.name, ap (λ s. has_name s e.name) (sym starts) ∙ ap (λ b. b || has_name (names_in e.items ++ flat_map names_of es) e.name) (nat_list_eq_equiv.refl e.name))

  -- Each name in the items of a well-formed element is one of the names.
  inside_known : (e : Element) (name : List ℕ) → is_well_formed (has_name names) e ≡ true → has_name (names_in e.items) name ≡ true → has_name names name ≡ true
  inside_known e name good there =
      let all : (has_name names e.name && list_all (has_name names) (names_in e.items)) ≡ true = ap (list_all (has_name names)) (sym (start_names_is e)) ∙ start_names-formed (has_name names) e good in
      known_by (names_in e.items) (second_so (has_name names e.name) (list_all (has_name names) (names_in e.items)) all) there
    where
      known_by : (l : List (List ℕ)) → list_all (has_name names) l ≡ true → has_name l name ≡ true → has_name names name ≡ true
      known_by [] all there = absurd (true≢false (sym there))
      known_by (first ∷ l) all there = elim (either (pointwise nat_eq name first) (has_name l name) there) [
        | inl same ↦ ap (has_name names) ((bytes_decides name first).0 same) ∙ first_so (has_name names first) (list_all (has_name names) l) all
        | inr later ↦ known_by l (second_so (has_name names first) (list_all (has_name names) l) all) later
      ]

  -- The tag set of a well-formed element covers it.
  pub branch_covers : (e : Element) → is_well_formed (has_name names) e ≡ true → Covers names (branch_of names e).below e
  branch_covers e good = record {
    names_inside = λ name inside other. some_value (name_number names name) (branch_of names e).below (λ n found. member_known e name n good inside found);
    some_inside = λ some.
        let first = first_child (children e.items) (names_in e.items) (tag_set-names e) some in
        has_some (branch_of names e).below (tag_of names first.0) (below_holds names few first.0 (inside_known e first.0 good first.1) e good first.1);
  }

-- ---- the tag of an element

pub no_dummy : (name : List ℕ) → is_name name ≡ true → is_dummy_name name ≡ false
no_dummy [] named = refl
no_dummy (b ∷ []) named = ⊎_elim
    (λ same.
    let equal : b ≡ 45 = grind (arith, nat_tests) in
    absurd (true≢false (sym named ∙ ap (λ n. is_name (n ∷ [])) equal)))
    (λ other. other)
    (cases_Bool (nat_eq b 45))
no_dummy (b ∷ c ∷ bs) named = refl

-- a name among valid names is valid
pub among_valid : (names : List (List ℕ)) (name : List ℕ) → list_all is_name names ≡ true → has_name names name ≡ true → is_name name ≡ true
among_valid [] name all there = absurd (true≢false (sym there))
among_valid (first ∷ names) name all there = elim (either (pointwise nat_eq name first) (has_name names name) there) [
  | inl same ↦ ap is_name ((bytes_decides name first).0 same) ∙ first_so (is_name first) (list_all is_name names) all
  | inr later ↦ among_valid names name (second_so (is_name first) (list_all is_name names) all) later
]

pub number_some : (o : Option ℕ) → is_some o ≡ true → o ≡ Some (unwrap_or o 0)
number_some None some = absurd (true≢false (sym some))
number_some (Some n) some = refl

-- The tag of an element is the number of its name, by both definitions.
pub own_tag : (names : List (List ℕ)) → list_all is_name names ≡ true → (e : Element) → is_well_formed (has_name names) e ≡ true → spelling.tag_of names e.name ≡ Some (branch_of names e).tag
own_tag names formed e good =
    let there = has_own_name names e good in
    tag_of-name names e.name (no_dummy e.name (among_valid names e.name formed there))
    ∙ number_some (name_number names e.name) (is_some-name_number names e.name ∙ there)
    ∙ ap Some (sym (ap (λ (b : Branch). b.tag) (branch_of_is names e)))
