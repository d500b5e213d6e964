-- Names by their numbers, and the tag sets that cover an element, whatever its attributes are.
use Rattle.std.proofs.Common.{◌≡◌, ℕ, ◌<◌, ◌≤◌, Bool, true, ◌||◌, nat_eq, Some, List, [], ◌∷◌, ◌++◌, length, map, ap, sym, ◌∙◌, subst, arith, inl, inr}
use Rattle.std.specs.Cmp.Lexicographic.{pointwise, bytes_decides}
use Rattle.std.specs.List.{list_all, list_any, Contains}
use Rattle.std.specs.Option.{unwrap_or}
use Rattle.std.proofs.lemmas.Bool.{true≢false}
use Rattle.std.proofs.lemmas.Bool.Decides.{nat_tests}
use Rattle.std.proofs.lemmas.Cmp.{nat_list_eq_equiv}
use Rattle.std.proofs.lemmas.List.Folds.{list_any-append}
use Rattle.std.proofs.lemmas.Map.Views.{list_any-from_Contains}
use Rattle.acl_bits.specs.Row.{row_of, is_member}
use Rattle.acl_model.specs.Dictionary.{has_name, name_number, are_new, start_names}
use Rattle.acl_model.specs.Names.{is_name}
use Rattle.acl_model.specs.Places.{children}
use Rattle.acl_model.specs.Stream.{tag_of, Branch, element_part, holds_number, has_member, branch_of, part_of}
use Rattle.acl_model.proofs.DictionaryLaws.{start_names_is, item_start_names-Text, item_start_names-Child}
use Rattle.acl_model.proofs.StreamEquations.{branch_of_is, part_of-Child}
use Rattle.acl_model.specs.declared.document.Element.{Element}
use Rattle.acl_model.specs.declared.document.Item.{Item}
use Rattle.acl_model.specs.declared.document.Item.TheVariants as item
use Rattle.acl_walk.specs.Spelling as spelling
use Rattle.acl_walk.specs.Spelling.{Covers}
use Rattle.acl_walk.specs.inside.TagLaws.{tag_of-name, is_some-name_number}
use Rattle.skip_decode.proofs.Elements.{numbers_in-row}
use Rattle.skip_decode.proofs.Heads.{is_member-has, has_member-row}
use Rattle.skip_decode.proofs.HeldNames.{names_in, tag_set-names, either, or_true, some_value, has_some, first_child, no_dummy, among_valid, number_some}
use Rattle.skip_decode.proofs.Names.{slice_get-tag_of, tag_of-below}
use Rattle.skip_decode.proofs.RootNames.{name_at, has_at, one_number}

module _ (names : List (List ℕ)) (few : length names ≤ 256) (formed : list_all is_name names ≡ true)
    (new : are_new [] names ≡ true) where
  -- ---- numbers

  -- The name with this number.
  pub record NameOf (tag : ℕ) : Type 0 where
    pub name : List ℕ
    pub known : has_name names name ≡ true
    pub number : tag_of names name ≡ tag
    pub spelled : spelling.tag_of names name ≡ Some tag

  pub name_of : (tag : ℕ) → tag < length names → NameOf tag
  name_of tag within =
      let named = name_at names tag within in
      let known : has_name names named.0 ≡ true = has_at names tag named.0 named.1 in
      let number : tag_of names named.0 ≡ tag =
      one_number [] names (tag_of names named.0) tag named.0 new (slice_get-tag_of names named.0 known) named.1 in
      record {
        name = named.0;
        known = known;
        number = number;
        spelled = tag_of-name names named.0 (no_dummy named.0 (among_valid names named.0 formed known))
            ∙ number_some (name_number names named.0) (is_some-name_number names named.0 ∙ known)
            ∙ ap Some number;
      }

  -- ---- names inside

  -- Each name in the items is one of the names, and a part has its number.
  abbrev pub AreHeld : List Item → Type 0
  AreHeld items =
      (name : List ℕ) → has_name (names_in items) name ≡ true
      → (has_name names name ≡ true)
      × (list_any (holds_number (tag_of names name)) (map (part_of names) items) ≡ true)

  -- Each name of the element is one of the names, and its part has the number.
  abbrev pub IsHeld : Element → Type 0
  IsHeld e =
      (name : List ℕ) → has_name (start_names e) name ≡ true
      → (has_name names name ≡ true) × (holds_number (tag_of names name) (element_part (branch_of names e)) ≡ true)

  pub none_held : AreHeld []
  none_held name there = absurd (true≢false (sym there))

  pub text_held : (bytes : List ℕ) (items : List Item) → AreHeld items → AreHeld (item.Text bytes ∷ items)
  text_held bytes items held name there =
      let later = held name (ap (λ (l : List (List ℕ)). has_name (l ++ names_in items) name)
      (sym (item_start_names-Text bytes)) ∙ there) in (
        later.0,
        ap (λ b. holds_number (tag_of names name) (part_of names (item.Text bytes)) || b) later.1
            ∙ or_true (holds_number (tag_of names name) (part_of names (item.Text bytes))),
      )

  pub child_held : (e : Element) (items : List Item) → IsHeld e → AreHeld items → AreHeld (item.Child e ∷ items)
  child_held e items own held name there =
      let others : Bool = list_any (holds_number (tag_of names name)) (map (part_of names) items) in
      let split : (has_name (start_names e) name || has_name (names_in items) name) ≡ true =
      sym (list_any-append (pointwise nat_eq name) (start_names e) (names_in items))
      ∙ ap (λ (l : List (List ℕ)). has_name (l ++ names_in items) name) (sym (item_start_names-Child e)) ∙ there in
      elim (either (has_name (start_names e) name) (has_name (names_in items) name) split) [
        | inl here ↦
            let is = own name here in
            (is.0, ap (λ b. b || others) (ap (holds_number (tag_of names name)) (part_of-Child names e) ∙ is.1))
        | inr after ↦
            let is = held name after in (
              is.0,
              ap (λ b. holds_number (tag_of names name) (part_of names (item.Child e)) || b) is.1
                  ∙ or_true (holds_number (tag_of names name) (part_of names (item.Child e))),
            )
      ]

  below_row : (e : Element) → (branch_of names e).below
      ≡ row_of (λ n. list_any (holds_number n) (map (part_of names) e.items))
  below_row e = ap (λ (b : Branch). b.below) (branch_of_is names e) ∙ numbers_in-row (map (part_of names) e.items)

  -- The number of a name inside is in the tag set.
  in_set : (e : Element) → AreHeld e.items → (name : List ℕ) → has_name (names_in e.items) name ≡ true
      → has_member (branch_of names e).below (tag_of names name) ≡ true
  in_set e held name there =
      let is = held name there in
      let below = tag_of-below names name is.0 in
      ap (λ m. has_member m (tag_of names name)) (below_row e)
      ∙ has_member-row (λ n. list_any (holds_number n) (map (part_of names) e.items)) (tag_of names name)
      (omega (arith, below, few)) ∙ is.1

  pub element_held : (e : Element) → has_name names e.name ≡ true → AreHeld e.items → IsHeld e
  element_held e known held name there =
      let b : Branch = branch_of names e in
      let tag : b.tag ≡ tag_of names e.name = ap (λ (b : Branch). b.tag) (branch_of_is names e) in
      let split : (pointwise nat_eq name e.name || has_name (names_in e.items) name) ≡ true =
      ap (λ (l : List (List ℕ)). has_name l name) (sym (start_names_is e)) ∙ there in
      elim (either (pointwise nat_eq name e.name) (has_name (names_in e.items) name) split) [
        | inl own ↦
            let same : name ≡ e.name = (bytes_decides name e.name).0 own in
            let number : b.tag ≡ tag_of names name = tag ∙ ap (tag_of names) (sym same) in
            let test : nat_eq b.tag (tag_of names name) ≡ true = grind (arith, nat_tests, number) in
            (ap (has_name names) same ∙ known, ap (λ t. t || has_member b.below (tag_of names name)) test)
        | inr inside ↦ (
          (held name inside).0,
          ap (λ t. nat_eq b.tag (tag_of names name) || t) (in_set e held name inside)
              ∙ or_true (nat_eq b.tag (tag_of names name)),
        )
      ]

  -- The tag set covers the element.
  pub held_covers : (e : Element) → AreHeld e.items → Covers names (branch_of names e).below e
  held_covers e held = record {
    names_inside = λ name inside other. some_value (name_number names name) (branch_of names e).below (λ n found.
        let there : has_name (names_in e.items) name ≡ true =
        list_any-from_Contains nat_list_eq_equiv name (names_in e.items)
        (subst (λ l. Contains l name) (tag_set-names e) inside) in
        let number : tag_of names name ≡ n = ap (λ o. unwrap_or o 0) found in
        ap (is_member (branch_of names e).below) (sym number)
        ∙ is_member-has (branch_of names e).below (tag_of names name) ∙ in_set e held name there);
    some_inside = λ some.
        let first = first_child names few (children e.items) (names_in e.items) (tag_set-names e) some in
        has_some (branch_of names e).below (tag_of names first.0) (in_set e held first.0 first.1);
  }
