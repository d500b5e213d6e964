-- The sets of the Begins in a list that an element, its attributes or its items are read as are exact.
use Rattle.std.proofs.Common.{◌≡◌, ℕ, suc, ◌<◌, Bool, ◌||◌, nat_eq, false, List, [], ◌∷◌, ◌++◌, map, refl, ap, sym, ◌∙◌, subst, append_assoc, append-nil}
use Rattle.std.proofs.lemmas.List.Folds.{list_any-append}
use Rattle.acl_bits.specs.Row.{row_of, is_member}
use Rattle.acl_bits.specs.declared.piece.Piece.{Piece}
use Rattle.acl_bits.specs.inside.RowLaws.{row_of-same}
use Rattle.acl_walk.specs.Spelling.{SpellsAttributes, no_attribute, an_attribute}
use Rattle.acl_walk.specs.declared.event.Event.{Event}
use Rattle.acl_walk.specs.declared.event.Event.TheVariants.{Begin, Attr, HeadEnd, Text, Finish}
use Rattle.skip_decode.specs.ExactSets.{tags_inside, HaveExactSets}

-- The events are those of whole parts of a content, whose elements have the tags that pass the test. Whatever follows,
-- these tags come before what is inside of it, and the sets are exact if those that follow are.
pub record AreExact (own : List Event) (test : ℕ → Bool) : Type 0 where
  pub tags : List ℕ
  pub inside : (n : ℕ) (more : List Event) → tags_inside n (own ++ more) ≡ tags ++ tags_inside n more
  pub members : (m : ℕ) → m < 256 → is_member tags m ≡ test m
  pub exact : (more : List Event) → HaveExactSets more → HaveExactSets (own ++ more)

is_member-append : (xs ys : List ℕ) (m : ℕ) → is_member (xs ++ ys) m ≡ (is_member xs m || is_member ys m)
unfolding is_member
is_member-append xs ys m = list_any-append _ xs ys

is_member-none : (m : ℕ) → is_member [] m ≡ false
unfolding is_member
is_member-none m = refl

is_member-one : (n m : ℕ) (ns : List ℕ) → is_member (n ∷ ns) m ≡ (nat_eq n m || is_member ns m)
unfolding is_member
is_member-one n m ns = refl

-- No events have no tags.
pub exact-none : AreExact [] (λ m. false)
exact-none = record { tags = []; inside = λ n more. refl; members = λ m small. is_member-none m; exact = λ more exact. exact }

-- ---- pieces

text_inside : (pieces : List Piece) (n : ℕ) (more : List Event) → tags_inside n (map Text pieces ++ more) ≡ tags_inside n more
text_inside [] n more = refl
text_inside (piece ∷ pieces) n more = text_inside pieces n more

text_exact : (pieces : List Piece) (more : List Event) → HaveExactSets more → HaveExactSets (map Text pieces ++ more)
text_exact [] more exact = exact
text_exact (piece ∷ pieces) more exact = text_exact pieces more exact

-- A text has no tags.
pub exact-text : (pieces : List Piece) → AreExact (map Text pieces) (λ m. false)
exact-text pieces = record { tags = []; inside = text_inside pieces; members = λ m small. is_member-none m; exact = text_exact pieces }

attr_inside : (pieces : List Piece) (n : ℕ) (more : List Event) → tags_inside n (map Attr pieces ++ more) ≡ tags_inside n more
attr_inside [] n more = refl
attr_inside (piece ∷ pieces) n more = attr_inside pieces n more

attr_exact : (pieces : List Piece) (more : List Event) → HaveExactSets more → HaveExactSets (map Attr pieces ++ more)
attr_exact [] more exact = exact
attr_exact (piece ∷ pieces) more exact = attr_exact pieces more exact

heads_inside : (raws : List (List ℕ)) (heads : List Event) → SpellsAttributes raws heads → (n : ℕ) (more : List Event) → tags_inside n (heads ++ more) ≡ tags_inside n more
heads_inside raws heads no_attribute n more = refl
heads_inside raws heads (an_attribute raw pieces others events joins spells) n more =
    ap (tags_inside n) (append_assoc (map Attr pieces) events more) ∙ attr_inside pieces n (events ++ more) ∙ heads_inside others events spells n more

heads_exact : (raws : List (List ℕ)) (heads : List Event) → SpellsAttributes raws heads → (more : List Event) → HaveExactSets more → HaveExactSets (heads ++ more)
heads_exact raws heads no_attribute more exact = exact
heads_exact raws heads (an_attribute raw pieces others events joins spells) more exact =
    subst HaveExactSets (sym (append_assoc (map Attr pieces) events more)) (attr_exact pieces (events ++ more) (heads_exact others events spells more exact))

-- ---- items and elements

-- One part after another.
pub exact-append : (one other : List Event) (p q : ℕ → Bool) → AreExact one p → AreExact other q → AreExact (one ++ other) (λ m. p m || q m)
exact-append one other p q first second = record {
  tags = first.tags ++ second.tags;
  inside = λ n more.
      ap (tags_inside n) (append_assoc one other more) ∙ first.inside n (other ++ more) ∙ ap (λ l. first.tags ++ l) (second.inside n more)
      ∙ sym (append_assoc first.tags second.tags (tags_inside n more));
  members = λ m small.
      is_member-append first.tags second.tags m ∙ ap (λ b. b || is_member second.tags m) (first.members m small) ∙ ap (λ b. p m || b) (second.members m small);
  exact = λ more exact. subst HaveExactSets (sym (append_assoc one other more)) (first.exact (other ++ more) (second.exact more exact));
}

-- Two tests that agree have the same tags.
pub exact-same : (own : List Event) (p q : ℕ → Bool) → ((m : ℕ) → m < 256 → p m ≡ q m) → AreExact own p → AreExact own q
exact-same own p q agree first = record { tags = first.tags; inside = first.inside; members = λ m small. first.members m small ∙ agree m small; exact = first.exact }

module _ (tag : ℕ) (q : ℕ → Bool) (raws : List (List ℕ)) (heads contents : List Event) (attributes : SpellsAttributes raws heads) (items : AreExact contents q) where
  -- the events of an element after its Begin
  abbrev after_begin : List Event
  after_begin = heads ++ (HeadEnd ∷ (contents ++ (Finish tag ∷ [])))

  regrouped : (more : List Event) → after_begin ++ more ≡ heads ++ (HeadEnd ∷ (contents ++ (Finish tag ∷ more)))
  regrouped more = append_assoc heads (HeadEnd ∷ (contents ++ (Finish tag ∷ []))) more ∙ ap (λ l. heads ++ (HeadEnd ∷ l)) (append_assoc contents (Finish tag ∷ []) more)

  content_inside : (n : ℕ) (more : List Event) → tags_inside n (after_begin ++ more) ≡ items.tags ++ tags_inside n (Finish tag ∷ more)
  content_inside n more = ap (tags_inside n) (regrouped more) ∙ heads_inside raws heads attributes n (HeadEnd ∷ (contents ++ (Finish tag ∷ more))) ∙ items.inside n (Finish tag ∷ more)

  set_exact : (more : List Event) → row_of q ≡ row_of (is_member (tags_inside 0 (after_begin ++ more)))
  set_exact more = row_of-same q (is_member (tags_inside 0 (after_begin ++ more))) (λ m small.
      sym (ap (λ l. is_member l m) (content_inside 0 more ∙ append-nil items.tags) ∙ items.members m small))

  -- An element has its own tag, and those of its items.
  pub exact-element : AreExact (Begin tag (row_of q) ∷ after_begin) (λ m. nat_eq tag m || q m)
  exact-element = record {
    tags = tag ∷ items.tags;
    inside = λ n more. ap (λ l. tag ∷ l) (content_inside (suc n) more);
    members = λ m small. is_member-one tag m items.tags ∙ ap (λ b. nat_eq tag m || b) (items.members m small);
    exact = λ more exact. (
      set_exact more,
      subst HaveExactSets (sym (regrouped more)) (heads_exact raws heads attributes (HeadEnd ∷ (contents ++ (Finish tag ∷ more))) (items.exact (Finish tag ∷ more) exact)),
    );
  }
