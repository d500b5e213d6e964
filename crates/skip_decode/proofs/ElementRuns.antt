-- An element whose bytes stand at a byte offset is read as events that spell it.
use Rattle.std.proofs.Common.{◌≡◌, ℕ, zero, suc, ◌+◌, ◌-◌, ◌^◌, ◌<◌, ◌≤◌, Bool, true, false, ◌&&◌, ◌||◌, nat_eq, nat_le, List, [], ◌∷◌, ◌++◌, length, drop, map, refl, ap, sym, ◌∙◌, subst, arith, append_assoc, append-nil, length-append, w16, w32}
use Rattle.std.specs.Cmp.{first_so, second_so}
use Rattle.std.specs.Int.{to_be_bytes}
use Rattle.std.specs.List.{flat_map, list_all, list_any}
use Rattle.std.proofs.lemmas.Bool.Decides.{nat_tests}
use Rattle.acl_bits.specs.Row.{row_of, is_member}
use Rattle.acl_bits.specs.inside.RowLaws.{row_of-same, is_member-row_of}
use Rattle.acl_model.specs.StreamBits as model
use Rattle.acl_model.specs.Document.{is_well_formed, item_well_formed, is_raw_attribute, greatest, height, height_of_item}
use Rattle.acl_model.specs.Dictionary.{has_name}
use Rattle.acl_model.specs.Names.{is_name}
use Rattle.acl_model.specs.Stream.{tag_of as stream_tag, measured_bytes, bytes_of_segments, size, head_bits, Part, Branch, element_part, holds_number, has_member, numbers_in, content_at, content_width, branch_of, part_of}
use Rattle.acl_model.specs.Width.{binary_length}
use Rattle.acl_model.proofs.FormEquations.{well_formed_is, item_well_formed-Text, item_well_formed-Child, height_is, height_of_item-Child}
use Rattle.acl_model.proofs.StreamEquations.{branch_of_is, part_of-Text, part_of-Child}
use Rattle.acl_model.specs.declared.document.Element.{Element}
use Rattle.acl_model.specs.declared.document.Item.{Item}
use Rattle.acl_model.specs.declared.document.Item.TheVariants as item
use Rattle.acl_walk.specs.Spelling.{an_element, SpellsItems, no_item, a_text, a_child, SpellsAttributes, Covers}
use Rattle.acl_walk.specs.declared.event.Event.{Event}
use Rattle.acl_walk.specs.declared.event.Event.TheVariants.{Begin, HeadEnd, Text, Finish}
use Rattle.acl_walk.specs.inside.TreeInduction.{Each, element_by_parts}
use Rattle.skip_decode.specs.declared.head.Head.{Head}
use Rattle.skip_decode.specs.declared.position.Level.{Level}
use Rattle.skip_decode.specs.declared.position.Next.TheVariants.{Count, Item as an_item}
use Rattle.skip_decode.specs.Positions.{Numbers, spare_of}
use Rattle.skip_decode.specs.StreamSteps.{next_in, met_with, saved_bytes, level_of, finish_step, step_at}
use Rattle.skip_decode.specs.StreamEvents.{weight}
use Rattle.skip_decode.proofs.Heads.{IsPart, row_of-none, is_member-has, or_false, has_member-row}
use Rattle.skip_decode.proofs.Sizes.{width_found, width_known, part_bytes, part_bytes-text, part_bytes-element, part_grows, parts_grow, content_bytes, content_size, content_grows}
use Rattle.skip_decode.proofs.Names.{tag_of-below}
use Rattle.skip_decode.proofs.Elements.{Passes, AllPass, first_passes, others_pass, numbers_in-row, few_attributes, good_items, has_own_name}
use Rattle.skip_decode.proofs.Runs.{Runs, stay, one_step, runs-append}
use Rattle.skip_decode.proofs.PieceRuns.{at, drop-on}
use Rattle.skip_decode.proofs.TextRuns.{text_run}
use Rattle.skip_decode.proofs.AttributeRuns.{head_run}
use Rattle.skip_decode.proofs.HeadSteps.{whole, begin_run, saved_is, item_step-end}
use Rattle.skip_decode.proofs.HeldNames.{own_tag, branch_covers}
use Rattle.skip_decode.proofs.ExactRuns.{AreExact, exact-none, exact-text, exact-append, exact-same, exact-element}

-- an open element with these numbers met and so many bytes to spare
abbrev pub inside : List ℕ → ℕ → ℕ → ℕ → List ℕ → ℕ → Level
inside members w end name met spare = record { below = members; met = met; end = end; spare = spare; width = w; tag = name }

module _ (k : Numbers) (stream : List ℕ) (names : List (List ℕ)) (few : length names ≤ 256) (formed : list_all is_name names ≡ true) where
  -- ---- what is proved of elements and of items

  -- the open element whose content begins at a byte offset, with the width and spare bytes of its length
  abbrev pub opened : Branch → List ℕ → ℕ → Level
  opened b below place = record {
    below = below;
    met = [];
    end = place + size b.content;
    spare = spare_of (size b.content);
    width = binary_length (size b.content);
    tag = b.tag;
  }

  -- the numbers in the parts of an element
  abbrev pub holds_in : Element → ℕ → Bool
  holds_in e n = list_any (holds_number n) (map (part_of names) e.items)

  -- The content of the element is read from its first byte to its Finish.
  pub record ContentRun (e : Element) (up : List Level) (place : ℕ) : Type 0 where
    pub heads : List Event
    pub contents : List Event
    pub attributes : SpellsAttributes e.attributes heads
    pub items : SpellsItems names e.items contents
    pub exact : AreExact contents (holds_in e)
    pub run : Runs k stream (at (opened (branch_of names e) (branch_of names e).below place ∷ up) Count place)
        (heads ++ (HeadEnd ∷ (contents ++ (Finish (branch_of names e).tag ∷ []))))
        (at up (next_in up an_item) (place + size (branch_of names e).content))

  -- So it is wherever its bytes stand, where the depth allows it.
  abbrev pub ElementRuns : Element → Type 0
  ElementRuns e =
      is_well_formed (has_name names) e ≡ true → (up : List Level) (place : ℕ) (rest : List ℕ) → length up + height e ≤ k.depth → size (branch_of names e).content < 2 ^ 31
      → drop place stream ≡ bytes_of_segments (branch_of names e).content ++ rest → ContentRun e up place

  -- Items are read in an open element. What they have of its numbers is met, and what their heads would save is no
  -- longer to spare.
  pub record ItemsRun (items : List Item) (parts : List Part) (members : List ℕ) (w end name : ℕ) (met : List ℕ) (spare : ℕ) (up : List Level) (place : ℕ) : Type 0 where
    pub own : List Event
    pub met_after : List ℕ
    pub spare_after : ℕ
    pub spells : (more : List Item) (events : List Event) → SpellsItems names more events → SpellsItems names (items ++ more) (own ++ events)
    pub exact : AreExact own (λ n. list_any (holds_number n) parts)
    pub meets : (t : ℕ → Bool) → met ≡ row_of t → met_after ≡ row_of (λ n. t n || list_any (holds_number n) parts)
    pub saves : spare + length (flat_map (part_bytes members (w - 1)) parts) ≤ spare_after + length (flat_map (part_bytes members w) parts)
    pub run : Runs k stream (at (inside members w end name met spare ∷ up) an_item place) own
        (at (inside members w end name met_after spare_after ∷ up) an_item (place + length (flat_map (part_bytes members w) parts)))

  -- An item is so read in a parent with these members, whatever else the parent has.
  abbrev pub RunsIn : Item → List ℕ → Type 0
  RunsIn i members =
      (w end name : ℕ) (met : List ℕ) (spare : ℕ) (up : List Level) (place : ℕ) (rest : List ℕ) → length up + 1 + height_of_item i ≤ k.depth
      → drop place stream ≡ part_bytes members w (part_of names i) ++ rest
      → length (part_bytes members w (part_of names i)) < 2 ^ w → length (part_bytes members w (part_of names i)) < 2 ^ 31
      → place + length (part_bytes members w (part_of names i)) ≤ end
      → length (part_bytes members w (part_of names i)) ≤ spare + length (part_bytes members (w - 1) (part_of names i))
      → ItemsRun (i ∷ []) (part_of names i ∷ []) members w end name met spare up place

  abbrev pub ItemRuns : Item → Type 0
  ItemRuns i = item_well_formed (has_name names) i ≡ true → (p : ℕ → Bool) → Passes p (part_of names i) → (members : List ℕ) → members ≡ row_of p → RunsIn i members

  -- ---- a text

  text_runs : (bytes : List ℕ) → ItemRuns (item.Text bytes)
  text_runs bytes good p pass members row w end name met spare up place rest deep there fits small within saved =
      let part : Part = part_of names (item.Text bytes) in
      let is : (v : ℕ) → part_bytes members v part ≡ measured_bytes bytes = λ v. ap (part_bytes members v) (part_of-Text names bytes) ∙ part_bytes-text members v bytes in
      let long : length (part_bytes members w part) ≡ 4 + length bytes = ap length (is w) ∙ length-append (to_be_bytes w32 (length bytes)) bytes in
      let same : length (part_bytes members (w - 1) part) ≡ length (part_bytes members w part) = ap length (is (w - 1)) ∙ sym (ap length (is w)) in
      let wide : flat_map (part_bytes members w) (part ∷ []) ≡ part_bytes members w part = append-nil (part_bytes members w part) in
      let thin : flat_map (part_bytes members (w - 1)) (part ∷ []) ≡ part_bytes members (w - 1) part = append-nil (part_bytes members (w - 1) part) in
      let wide_long = ap length wide in
      let thin_long = ap length thin in
      let run = text_run k stream (inside members w end name met spare) up place bytes rest (there ∙ ap (λ l. l ++ rest) (is w)) (sym (item_well_formed-Text (has_name names) bytes) ∙ good) (omega (arith, long, small)) (omega (arith, within, long)) in
      let last : place + (4 + length bytes) ≡ place + length (flat_map (part_bytes members w) (part ∷ [])) = omega (arith, long, wide_long) in
      record {
        own = map Text run.0;
        met_after = met;
        spare_after = spare;
        spells = λ more events spelled. a_text names bytes run.0 more events run.1 spelled;
        exact = exact-same (map Text run.0) (λ n. false) (λ n. list_any (holds_number n) (part ∷ [])) (λ n below. ap (λ x. list_any (holds_number n) (x ∷ [])) (sym (part_of-Text names bytes))) (exact-text run.0);
        meets = λ t is. is ∙ row_of-same t (λ n. t n || list_any (holds_number n) (part ∷ [])) (λ n below. or_false (t n) ∙ ap (λ x. t n || list_any (holds_number n) (x ∷ [])) (sym (part_of-Text names bytes)));
        saves = omega (arith, wide_long, thin_long, same);
        run = subst (λ n. Runs k stream (at (inside members w end name met spare ∷ up) an_item place) (map Text run.0) (at (inside members w end name met spare ∷ up) an_item n)) last run.2;
      }

  -- ---- a child

  below_row : (e : Element) → (branch_of names e).below ≡ row_of (holds_in e)
  below_row e = ap (λ (b : Branch). b.below) (branch_of_is names e) ∙ numbers_in-row (map (part_of names) e.items)

  tag_small : (e : Element) → is_well_formed (has_name names) e ≡ true → (branch_of names e).tag < 256
  tag_small e good =
      let number = tag_of-below names e.name (has_own_name names e good) in
      let is = ap (λ (b : Branch). b.tag) (branch_of_is names e) in
      omega (arith, is, number, few)

  -- The element's own number passes where all its numbers do.
  own_passes : (e : Element) (p : ℕ → Bool) → is_well_formed (has_name names) e ≡ true → Passes p (element_part (branch_of names e)) → p (branch_of names e).tag ≡ true
  own_passes e p good holds =
      let self : nat_eq (branch_of names e).tag (branch_of names e).tag ≡ true = grind (arith, nat_tests) in
      holds (branch_of names e).tag (tag_small e good) (ap (λ t. t || has_member (branch_of names e).below (branch_of names e).tag) self)

  or_true : (b : Bool) → (b || true) ≡ true
  or_true true = refl
  or_true false = refl

  -- So do the numbers in its tag set.
  part_passes : (e : Element) (p : ℕ → Bool) → Passes p (element_part (branch_of names e)) → IsPart (holds_in e) p
  part_passes e p holds n below there =
      holds n below (ap (λ t. nat_eq (branch_of names e).tag n || t) (ap (λ m. has_member m n) (below_row e) ∙ has_member-row (holds_in e) n below ∙ there) ∙ or_true (nat_eq (branch_of names e).tag n))

  -- The numbers that are met with a child are those of its part.
  pub met_child : (met : List ℕ) (t : ℕ → Bool) (head : Head) → met ≡ row_of t → met_with met head ≡ row_of (λ n. t n || ((nat_eq head.tag n || has_member head.below n) || false))
  met_child met t head is =
      row_of-same (λ n. nat_eq n head.tag || (is_member met n || is_member head.below n)) (λ n. t n || ((nat_eq head.tag n || has_member head.below n) || false)) (λ n below.
      ap (λ b. nat_eq n head.tag || (b || is_member head.below n)) (ap (λ m. is_member m n) is ∙ is_member-row_of t n below)
      ∙ ap (λ b. nat_eq n head.tag || (t n || b)) (is_member-has head.below n)
      ∙ ap (λ b. b || (t n || has_member head.below n)) (turned n head.tag)
      ∙ moved (nat_eq head.tag n) (t n) (has_member head.below n))
    where
      turned : (a b : ℕ) → nat_eq a b ≡ nat_eq b a
      turned a b = grind (arith, nat_tests)

      moved : (a b c : Bool) → (a || (b || c)) ≡ (b || ((a || c) || false))
      moved true true c = refl
      moved true false c = refl
      moved false true c = refl
      moved false false true = refl
      moved false false false = refl

  -- The bytes of a child are those of its head and then of its content.
  child_bytes : (e : Element) (p : ℕ → Bool) (v : ℕ) → part_bytes (row_of p) v (part_of names (item.Child e))
      ≡ model.bytes_of (head_bits (row_of p) v (branch_of names e).tag (row_of (holds_in e)) (size (branch_of names e).content)) ++ bytes_of_segments (branch_of names e).content
  child_bytes e p v =
      ap (part_bytes (row_of p) v) (part_of-Child names e) ∙ part_bytes-element (row_of p) v (branch_of names e)
      ∙ ap (λ m. model.bytes_of (head_bits (row_of p) v (branch_of names e).tag m (size (branch_of names e).content)) ++ bytes_of_segments (branch_of names e).content) (below_row e)

  or_no : (b : Bool) → b ≡ (b || false)
  or_no true = refl
  or_no false = refl

  -- The numbers of a child are its own and those in its parts.
  child_test : (e : Element) (n : ℕ) → n < 256 → (nat_eq (branch_of names e).tag n || holds_in e n) ≡ list_any (holds_number n) (part_of names (item.Child e) ∷ [])
  child_test e n below =
      ap (λ b. nat_eq (branch_of names e).tag n || b) (sym (ap (λ m. has_member m n) (below_row e) ∙ has_member-row (holds_in e) n below))
      ∙ or_no (nat_eq (branch_of names e).tag n || has_member (branch_of names e).below n)
      ∙ ap (λ x. list_any (holds_number n) (x ∷ [])) (sym (part_of-Child names e))

  -- A child is read from its head to its Finish.
  child_at : (e : Element) → ElementRuns e → is_well_formed (has_name names) e ≡ true → (p : ℕ → Bool) → Passes p (element_part (branch_of names e))
      → (w end name : ℕ) (met : List ℕ) (spare : ℕ) (up : List Level) (place : ℕ) (rest : List ℕ) → length up + 1 + height_of_item (item.Child e) ≤ k.depth
      → drop place stream ≡ part_bytes (row_of p) w (part_of names (item.Child e)) ++ rest → size (branch_of names e).content < 2 ^ w
      → length (part_bytes (row_of p) w (part_of names (item.Child e))) < 2 ^ 31
      → place + length (part_bytes (row_of p) w (part_of names (item.Child e))) ≤ end
      → length (part_bytes (row_of p) w (part_of names (item.Child e))) ≤ spare + length (part_bytes (row_of p) (w - 1) (part_of names (item.Child e)))
      → ItemsRun (item.Child e ∷ []) (part_of names (item.Child e) ∷ []) (row_of p) w end name met spare up place
  unfolding size
  child_at e runs good p holds w end name met spare up place rest deep there less small within saved =
      let b : Branch = branch_of names e in
      let part : Part = part_of names (item.Child e) in
      let content : List ℕ = bytes_of_segments b.content in
      let wide : List ℕ = model.bytes_of (head_bits (row_of p) w b.tag (row_of (holds_in e)) (size b.content)) in
      let wide_is : part_bytes (row_of p) w part ≡ wide ++ content = child_bytes e p w in
      let wide_long = ap length wide_is ∙ length-append wide content in
      let thin : List ℕ = model.bytes_of (head_bits (row_of p) (w - 1) b.tag (row_of (holds_in e)) (size b.content)) in
      let thin_long = ap length (child_bytes e p (w - 1)) ∙ length-append thin content in
      let one_wide = ap length (append-nil (part_bytes (row_of p) w part)) in
      let one_thin = ap length (append-nil (part_bytes (row_of p) (w - 1) part)) in
      let grows = part_grows (row_of p) part (w - 1) w (omega arith) in
      let high = height_of_item-Child e in
      let tall = height_is e in
      let passes = own_passes e p good holds in
      let few_bits = tag_small e good in
      let among = part_passes e p holds in
      let head : Head = whole p (holds_in e) w b.tag (size b.content) passes few_bits among less in
      let around : Level = inside (row_of p) w end name met spare in
      let left : ℕ = spare - saved_bytes around head in
      let after : Level = inside (row_of p) w end name (met_with met head) left in
      let here : drop place stream ≡ wide ++ (content ++ rest) = there ∙ ap (λ l. l ++ rest) wide_is ∙ append_assoc wide content rest in
      let begun = begin_run p (holds_in e) w b.tag (size b.content) passes few_bits among less k stream (content ++ rest) up place met end spare name here
      (omega (arith, deep, high, tall)) (omega (arith, within, wide_long)) (omega (arith, saved, wide_long, thin_long)) in
      let inner = runs good (after ∷ up) (place + length wide) rest (omega (arith, deep, high)) (omega (arith, small, wide_long)) (drop-on stream place wide (content ++ rest) (length wide) here refl) in
      let row = below_row e in
      let events : List Event = inner.heads ++ (HeadEnd ∷ (inner.contents ++ (Finish b.tag ∷ []))) in
      let last : place + length wide + size b.content ≡ place + length (flat_map (part_bytes (row_of p) w) (part ∷ [])) = omega (arith, one_wide, wide_long) in
      let saves = saved_is p (holds_in e) w b.tag (size b.content) passes few_bits among less met end spare name in
      record {
        own = Begin b.tag (row_of (holds_in e)) ∷ events;
        met_after = met_with met head;
        spare_after = left;
        spells = λ more others spelled. a_child names e (Begin b.tag (row_of (holds_in e)) ∷ events) more others
            (an_element names e b.tag (row_of (holds_in e)) inner.heads inner.contents (own_tag names formed e good) (subst (λ (m : List ℕ). Covers names m e) row (branch_covers names few e good)) inner.attributes inner.items) spelled;
        exact = exact-same (Begin b.tag (row_of (holds_in e)) ∷ events) (λ n. nat_eq b.tag n || holds_in e n) (λ n. list_any (holds_number n) (part ∷ []))
            (λ n below. child_test e n below) (exact-element b.tag (holds_in e) e.attributes inner.heads inner.contents inner.attributes inner.exact);
        meets = λ t is. met_child met t head is
            ∙ ap (λ (m : List ℕ). row_of (λ n. t n || ((nat_eq b.tag n || has_member m n) || false))) (sym row)
            ∙ ap (λ x. row_of (λ n. t n || (holds_number n x || false))) (sym (part_of-Child names e));
        saves = omega (arith, one_wide, one_thin, wide_long, thin_long, saves, grows, saved);
        run = subst (λ n. Runs k stream (at (around ∷ up) an_item place) (Begin b.tag (row_of (holds_in e)) ∷ events) (at (after ∷ up) an_item n)) last
            (runs-append k stream (at (around ∷ up) an_item place) (at (level_of place head ∷ after ∷ up) Count (place + length wide)) (at (after ∷ up) an_item (place + length wide + size b.content))
            (Begin b.tag (row_of (holds_in e)) ∷ []) events begun
            (subst (λ (m : List ℕ). Runs k stream (at (opened b m (place + length wide) ∷ after ∷ up) Count (place + length wide)) events (at (after ∷ up) an_item (place + length wide + size b.content))) row inner.run));
      }

  child_in : (e : Element) → ElementRuns e → is_well_formed (has_name names) e ≡ true → (p : ℕ → Bool) → Passes p (element_part (branch_of names e)) → RunsIn (item.Child e) (row_of p)
  unfolding size
  child_in e runs good p holds w end name met spare up place rest deep there fits small within saved =
      let wide : List ℕ = model.bytes_of (head_bits (row_of p) w (branch_of names e).tag (row_of (holds_in e)) (size (branch_of names e).content)) in
      let long = ap length (child_bytes e p w) ∙ length-append wide (bytes_of_segments (branch_of names e).content) in
      child_at e runs good p holds w end name met spare up place rest deep there (omega (arith, long, fits)) small within saved

  child_runs : (e : Element) → ElementRuns e → ItemRuns (item.Child e)
  child_runs e runs good p pass members row =
      subst (RunsIn (item.Child e)) (sym row) (child_in e runs (sym (item_well_formed-Child (has_name names) e) ∙ good) p (subst (Passes p) (part_of-Child names e) pass))

  -- ---- items

  pub met_twice : (a b c : Bool) → ((a || (b || false)) || c) ≡ (a || (b || c))
  met_twice true b c = refl
  met_twice false true c = refl
  met_twice false false c = refl

  -- Items are read one after the other.
  items_run : (items : List Item) → Each ItemRuns items → list_all (λ b. b) (map (item_well_formed (has_name names)) items) ≡ true
      → (p : ℕ → Bool) → AllPass p (map (part_of names) items) → (members : List ℕ) → members ≡ row_of p
      → (w end name : ℕ) (met : List ℕ) (spare : ℕ) (up : List Level) (place : ℕ) (rest : List ℕ) → length up + 1 + greatest (map height_of_item items) ≤ k.depth
      → drop place stream ≡ flat_map (part_bytes members w) (map (part_of names) items) ++ rest
      → length (flat_map (part_bytes members w) (map (part_of names) items)) < 2 ^ w → length (flat_map (part_bytes members w) (map (part_of names) items)) < 2 ^ 31
      → place + length (flat_map (part_bytes members w) (map (part_of names) items)) ≤ end
      → length (flat_map (part_bytes members w) (map (part_of names) items)) ≤ spare + length (flat_map (part_bytes members (w - 1)) (map (part_of names) items))
      → ItemsRun items (map (part_of names) items) members w end name met spare up place
  items_run [] each good p pass members row w end name met spare up place rest deep there fits small within saved =
      let same : place ≡ place + 0 = omega arith in
      record {
        own = [];
        met_after = met;
        spare_after = spare;
        spells = λ more events spelled. spelled;
        exact = exact-none;
        meets = λ t is. is ∙ row_of-same t (λ n. t n || false) (λ n below. or_false (t n));
        saves = omega arith;
        run = subst (λ n. Runs k stream (at (inside members w end name met spare ∷ up) an_item place) [] (at (inside members w end name met spare ∷ up) an_item n)) same
            (stay k stream (at (inside members w end name met spare ∷ up) an_item place));
      }
  items_run (i ∷ items) each good p pass members row w end name met spare up place rest deep there fits small within saved =
      let part : Part = part_of names i in
      let parts : List Part = map (part_of names) items in
      let bytes : List ℕ = part_bytes members w part in
      let others : List ℕ = flat_map (part_bytes members w) parts in
      let whole_long = length-append bytes others in
      let thin_long = length-append (part_bytes members (w - 1) part) (flat_map (part_bytes members (w - 1)) parts) in
      let others_grow = parts_grow members parts (w - 1) w (omega arith) in
      let one_wide = ap length (append-nil bytes) in
      let one_thin = ap length (append-nil (part_bytes members (w - 1) part)) in
      let here : drop place stream ≡ bytes ++ (others ++ rest) = there ∙ append_assoc bytes others rest in
      let one = each.0 (first_so (item_well_formed (has_name names) i) (list_all (λ b. b) (map (item_well_formed (has_name names)) items)) good) p (first_passes p part parts pass) members row
      w end name met spare up place (others ++ rest) (omega (arith, deep)) here (omega (arith, whole_long, fits)) (omega (arith, whole_long, small)) (omega (arith, whole_long, within)) (omega (arith, whole_long, thin_long, others_grow, saved)) in
      let middle : ℕ = place + length (flat_map (part_bytes members w) (part ∷ [])) in
      let one_saves = one.saves in
      let later = items_run items each.1 (second_so (item_well_formed (has_name names) i) (list_all (λ b. b) (map (item_well_formed (has_name names)) items)) good) p (others_pass p part parts pass) members row
      w end name one.met_after one.spare_after up middle rest (omega (arith, deep)) (drop-on stream place bytes (others ++ rest) (length (bytes ++ [])) here (sym one_wide))
      (omega (arith, whole_long, fits)) (omega (arith, whole_long, small)) (omega (arith, whole_long, one_wide, within)) (omega (arith, whole_long, thin_long, one_wide, one_thin, one_saves, saved)) in
      let later_saves = later.saves in
      let last : middle + length others ≡ place + length (bytes ++ others) = omega (arith, whole_long, one_wide) in
      record {
        own = one.own ++ later.own;
        met_after = later.met_after;
        spare_after = later.spare_after;
        spells = λ more events spelled. subst (SpellsItems names (i ∷ (items ++ more))) (sym (append_assoc one.own later.own events))
            (one.spells (items ++ more) (later.own ++ events) (later.spells more events spelled));
        exact = exact-same (one.own ++ later.own) (λ n. (holds_number n part || false) || list_any (holds_number n) parts) (λ n. holds_number n part || list_any (holds_number n) parts)
            (λ n below. met_twice false (holds_number n part) (list_any (holds_number n) parts)) (exact-append one.own later.own (λ n. holds_number n part || false) (λ n. list_any (holds_number n) parts) one.exact later.exact);
        meets = λ t is. later.meets (λ n. t n || (holds_number n part || false)) (one.meets t is)
            ∙ row_of-same (λ n. (t n || (holds_number n part || false)) || list_any (holds_number n) parts) (λ n. t n || (holds_number n part || list_any (holds_number n) parts))
            (λ n below. met_twice (t n) (holds_number n part) (list_any (holds_number n) parts));
        saves = omega (arith, whole_long, thin_long, one_wide, one_thin, one_saves, later_saves);
        run = subst (λ n. Runs k stream (at (inside members w end name met spare ∷ up) an_item place) (one.own ++ later.own) (at (inside members w end name later.met_after later.spare_after ∷ up) an_item n)) last
            (runs-append k stream (at (inside members w end name met spare ∷ up) an_item place) (at (inside members w end name one.met_after one.spare_after ∷ up) an_item middle)
            (at (inside members w end name later.met_after later.spare_after ∷ up) an_item (middle + length others)) one.own later.own one.run later.run);
      }

  -- ---- an element

  next_weight : (up : List Level) → weight (next_in up an_item) ≡ 0
  next_weight [] = refl
  next_weight (level ∷ up) = refl

  -- A size of at least 2 needs a bit.
  pub some_width : (w n : ℕ) → 2 ≤ n → n < 2 ^ w → 1 ≤ w
  some_width zero n two fits = absurd (omega arith)
  some_width (suc w) n two fits = omega arith

  raw_attributes : (e : Element) → is_well_formed (has_name names) e ≡ true → list_all is_raw_attribute e.attributes ≡ true
  raw_attributes e good =
      let own = has_name names e.name in
      let bounded = nat_le (length e.attributes) 65535 in
      let raw = list_all is_raw_attribute e.attributes in
      let items = list_all (λ b. b) (map (item_well_formed (has_name names)) e.items) in
      second_so (own && bounded) raw (first_so (own && bounded && raw) items (sym (well_formed_is (has_name names) e) ∙ good))

  -- At the end of its content an element ends.
  finish_run : (level : Level) (up : List Level) (place : ℕ) → place ≡ level.end → level.met ≡ level.below
      → Runs k stream (at (level ∷ up) an_item place) (Finish level.tag ∷ []) (at up (next_in up an_item) place)
  unfolding step_at
  finish_run level up place end exact =
      let light = next_weight up in
      one_step k stream (at (level ∷ up) an_item place) (finish_step level place) (record {
        there = item_step-end k.depth stream (length up + 1) level place end exact;
        on = λ rest. refl;
        fewer = omega (arith, light);
      })

  -- An element is read from the number of its attributes on, where its items are read.
  element_in : (e : Element) → Each ItemRuns e.items → ElementRuns e
  element_in e each good up place rest deep small there =
      let parts : List Part = map (part_of names) e.items in
      let tag : ℕ = stream_tag names e.name in
      let members : List ℕ = numbers_in parts in
      let q : ℕ → Bool = λ n. list_any (holds_number n) parts in
      let row : members ≡ row_of q = numbers_in-row parts in
      let w : ℕ = content_width tag members e.attributes parts in
      let sized : ℕ → ℕ = λ v. size (content_at tag members e.attributes parts v) in
      let n : ℕ = sized w in
      let is = branch_of_is names e in
      let same : size (branch_of names e).content ≡ n = ap (λ (b : Branch). size b.content) is in
      let little : n < 2 ^ 31 = omega (arith, same, small) in
      let found = width_found sized little in
      let known : binary_length n ≡ w = width_known sized (content_grows tag members e.attributes parts) little in
      let whole_fits = found.least.fits in
      let attributes : List ℕ = flat_map measured_bytes e.attributes in
      let bytes : List ℕ = flat_map (part_bytes members w) parts in
      let long = content_size tag members e.attributes parts w in
      let thin = content_size tag members e.attributes parts (w - 1) in
      let some = some_width w n (omega (arith, long)) whole_fits in
      let least = found.least.least (w - 1) (omega (arith, some)) in
      let count : List ℕ = to_be_bytes w16 (length e.attributes) in
      let here : drop place stream ≡ count ++ (attributes ++ (bytes ++ rest)) =
      there ∙ ap (λ (b : Branch). bytes_of_segments b.content ++ rest) is ∙ ap (λ l. l ++ rest) (content_bytes tag members e.attributes parts w)
      ∙ append_assoc count (attributes ++ bytes) rest ∙ ap (λ l. count ++ l) (append_assoc attributes bytes rest) in
      let spare : ℕ = n - 2 ^ (w - 1) in
      let first : Level = inside members w (place + n) tag [] spare in
      let bounded = few_attributes names e good in
      let head = head_run k stream first up place e.attributes (bytes ++ rest) here (omega (arith, bounded)) (raw_attributes e good) (omega (arith, long)) (omega (arith, long, little)) in
      let start : ℕ = place + (2 + length attributes) in
      let tall = height_is e in
      let count_long : length (count ++ attributes) ≡ 2 + length attributes = length-append count attributes in
      let items = items_run e.items each (good_items names e good) q (λ m below holds. holds) members row w (place + n) tag [] spare up start rest (omega (arith, tall, deep))
      (drop-on stream place (count ++ attributes) (bytes ++ rest) (2 + length attributes) (here ∙ sym (append_assoc count attributes (bytes ++ rest))) count_long)
      (omega (arith, long, whole_fits)) (omega (arith, long, little)) (omega (arith, long)) (omega (arith, long, thin, least)) in
      let last : Level = inside members w (place + n) tag items.met_after items.spare_after in
      let finish = finish_run last up (start + length bytes) (omega (arith, long)) (items.meets (λ m. false) (sym row_of-none) ∙ sym row) in
      let end : start + length bytes ≡ place + n = omega (arith, long) in
      let events : List Event = head.0 ++ (HeadEnd ∷ (items.own ++ (Finish tag ∷ []))) in
      let run : Runs k stream (at (first ∷ up) Count place) events (at up (next_in up an_item) (place + n)) =
      subst (λ m. Runs k stream (at (first ∷ up) Count place) events (at up (next_in up an_item) m)) end
      (subst (λ l. Runs k stream (at (first ∷ up) Count place) l (at up (next_in up an_item) (start + length bytes))) (append_assoc head.0 (HeadEnd ∷ []) (items.own ++ (Finish tag ∷ [])))
      (runs-append k stream (at (first ∷ up) Count place) (at (first ∷ up) an_item start) (at up (next_in up an_item) (start + length bytes)) (head.0 ++ (HeadEnd ∷ [])) (items.own ++ (Finish tag ∷ [])) head.2
      (runs-append k stream (at (first ∷ up) an_item start) (at (last ∷ up) an_item (start + length bytes)) (at up (next_in up an_item) (start + length bytes)) items.own (Finish tag ∷ []) items.run finish))) in
      record {
        heads = head.0;
        contents = items.own;
        attributes = head.1;
        exact = items.exact;
        items = all_spelled e.items items.own (items.spells [] [] (no_item names));
        run = subst (λ (b : Branch). Runs k stream (at (opened b b.below place ∷ up) Count place) (head.0 ++ (HeadEnd ∷ (items.own ++ (Finish b.tag ∷ [])))) (at up (next_in up an_item) (place + size b.content))) (sym is)
            (subst (λ v. Runs k stream (at (inside members v (place + n) tag [] (n - 2 ^ (v - 1)) ∷ up) Count place) events (at up (next_in up an_item) (place + n))) (sym known) run);
      }
    where
      all_spelled : (items : List Item) (events : List Event) → SpellsItems names (items ++ []) (events ++ []) → SpellsItems names items events
      all_spelled items events spelled = subst (λ l. SpellsItems names l events) (append-nil items) (subst (SpellsItems names (items ++ [])) (append-nil events) spelled)

  -- Each element is read where its bytes stand.
  pub element_runs : (e : Element) → ElementRuns e
  element_runs = element_by_parts ElementRuns ItemRuns text_runs child_runs element_in
