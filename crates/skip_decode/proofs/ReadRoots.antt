-- A stream that was read to its end has the encoder's bytes for the root that its events spell.
use Rattle.std.proofs.Common.{◌≡◌, ℕ, zero, suc, ◌+◌, ◌-◌, ◌^◌, ◌<◌, ◌≤◌, true, false, cond, nat_eq, nat_lt, Option, Some, None, List, [], ◌∷◌, ◌++◌, length, take, drop, refl, ap, sym, ◌∙◌, subst, arith, append_assoc, append-nil, All, take_at}
use Rattle.std.specs.Cmp.{first_so}
use Rattle.std.specs.List.{list_all, range_with_len}
use Rattle.std.specs.Option.{option_and_then}
use Rattle.std.proofs.lemmas.Bool.Decides.{nat_tests}
use Rattle.std.proofs.lemmas.Option.{same_Some}
use Rattle.acl_bits.specs.Row.{row_of, is_member, IsRow}
use Rattle.acl_bits.specs.inside.RowLaws.{is_member-row_of}
use Rattle.acl_bits.proofs.Members.{IsRow-row_of}
use Rattle.acl_model.specs.Document.{height}
use Rattle.acl_model.specs.Dictionary.{are_new}
use Rattle.acl_model.specs.Names.{is_name}
use Rattle.acl_model.specs.Stream.{bytes_of_segments, size, Branch, element_part, branch_of, tree_at}
use Rattle.acl_model.specs.Width.{least_width, binary_length}
use Rattle.acl_model.specs.declared.document.Element.{Element}
use Rattle.acl_walk.specs.Spelling.{SpellsElement}
use Rattle.acl_walk.specs.declared.event.Event.{Event}
use Rattle.acl_walk.specs.declared.event.Event.TheVariants.{Begin, End}
use Rattle.skip_encode.specs.PlainStream.{tree_under}
use Rattle.skip_decode.specs.declared.head.Head.{Head}
use Rattle.skip_decode.specs.declared.position.Level.{Level}
use Rattle.skip_decode.specs.declared.position.Next.TheVariants as next
use Rattle.skip_decode.specs.Positions.{Numbers, above_root, first_position}
use Rattle.skip_decode.specs.StreamEvents.{run, events_left}
use Rattle.skip_decode.specs.StreamSteps.{Step, level_of, is_only, element_begun, root_step, step_at}
use Rattle.skip_decode.proofs.Documents.{lengths, lengths_is}
use Rattle.skip_decode.proofs.Heads.{row_of-none}
use Rattle.skip_decode.proofs.PieceRuns.{at}
use Rattle.skip_decode.proofs.ReadElements.{IsOpen, ElementRead, element_read}
use Rattle.skip_decode.proofs.ReadHeads.{of_member, head_in, begin_step, BegunRead, begun_read, saved_is, branch_bytes, branch_long}
use Rattle.skip_decode.proofs.ReadItems.{child_open, items_read}
use Rattle.skip_decode.proofs.ReadSteps.{Ends, After, no_run, no_events, some_step, known_step}
use Rattle.skip_decode.proofs.ReadTexts.{bytes_at-rest}
use Rattle.skip_decode.proofs.ReadWidths.{Digits, digits_within, digits_of, parts_shrink, parts_wide, width_is}
use Rattle.skip_decode.proofs.RootRuns.{run-end}
use Rattle.skip_decode.proofs.Roots.{range-row}
use Rattle.skip_decode.proofs.Sizes.{part_bytes}
use Rattle.skip_decode.proofs.StepKinds.{and_then_some, cond_some}

-- After the root comes End alone.
none_after : (k : Numbers) (stream : List ℕ) (n place : ℕ) (rest : List Event)
    → Ends k stream n (at [] next.End place) rest → rest ≡ []
none_after k stream zero place rest ends = absurd (no_run k stream (at [] next.End place) rest ends)
none_after k stream (suc n) place rest ends = only_end rest (sym (run-end k stream n place) ∙ ends)
  where
    only_end : (l : List Event) → End ∷ [] ≡ l ++ (End ∷ []) → l ≡ []
    only_end [] is = refl
    only_end (e ∷ l) is = absurd (no_events l (ap (λ (m : List Event). drop 1 m) is))

-- A tree that the events spell and whose bytes stand in the stream.
pub record TreeRead (k : Numbers) (names : List (List ℕ)) (stream : List ℕ) (events : List Event) : Type 0 where
  pub root : Element
  pub spells : SpellsElement names root events
  pub bytes : bytes_of_segments (tree_under names root) ≡ take k.tree (drop k.dictionary stream)
  pub low : height root ≤ k.depth

module _ (k : Numbers) (stream : List ℕ) (fit : All (λ b. b < 256) stream) (names : List (List ℕ))
    (few : length names ≤ 256) (formed : list_all is_name names ≡ true) (new : are_new [] names ≡ true)
    (named : length names ≡ k.names) (whole : k.dictionary + k.tree ≤ length stream) (small : k.tree ≤ 33554432) where
  abbrev around : Level
  around = above_root k

  rows : around.below ≡ row_of (λ j. nat_lt j (length names))
  rows = ap (range_with_len 0) (sym named) ∙ range-row (length names) few

  around_row : IsRow around.below
  around_row = subst IsRow (sym rows) (IsRow-row_of (λ j. nat_lt j (length names)))

  around_known : (n : ℕ) → is_member around.below n ≡ true → n < length names
  around_known n there =
      let little : n < 256 = of_member (λ m. m < 256) around.below n around_row.small there in
      let test : nat_lt n (length names) ≡ true = sym (is_member-row_of (λ j. nat_lt j (length names)) n little)
      ∙ ap (λ (l : List ℕ). is_member l n) (sym rows) ∙ there in
      grind (arith, nat_tests, test)

  around_open : IsOpen k stream fit names few formed new around
  around_open = record {
    row = around_row;
    known = around_known;
    narrow = digits_within k.tree (omega (arith, small));
    whole = whole;
  }

  -- ---- the bytes of the tree

  module _ (n : ℕ) (events : List Event) (begun : BegunRead k.depth stream 0 around k.dictionary)
      (all : begun.head.bytes + begun.head.long ≡ k.tree)
      (after : After k stream n (at (level_of k.dictionary begun.head ∷ []) next.Count
      (k.dictionary + begun.head.bytes)) (Begin begun.head.tag begun.head.below) events)
      (own : ElementRead k stream fit names few formed new n after.rest begun.head []
      (k.dictionary + begun.head.bytes)) where
    abbrev head : Head
    head = begun.head

    abbrev branch : Branch
    branch = branch_of names own.element

    -- the length of the head with its length in v bits
    abbrev head_long : ℕ → ℕ
    head_long v = length (head_in around.below head v)

    tree_bytes : (v : ℕ) → bytes_of_segments (tree_at (length names) branch v)
        ≡ head_in around.below head v ++ bytes_of_segments branch.content
    tree_bytes v =
        lengths_is (length names) branch v ∙ ap (λ m. part_bytes m v (element_part branch)) (sym rows)
        ∙ branch_bytes around.below branch head v own.same

    sized_is : (v : ℕ) → lengths (length names) branch v ≡ head_long v + head.long
    unfolding size
    sized_is v =
        ap (λ (l : List ℕ). length l) (lengths_is (length names) branch v
        ∙ ap (λ m. part_bytes m v (element_part branch)) (sym rows))
        ∙ branch_long around.below branch head v own.same

    one_part : (v : ℕ) → length (part_bytes around.below v (element_part branch) ++ []) ≡ head_long v + head.long
    one_part v =
        ap (λ (l : List ℕ). length l) (append-nil (part_bytes around.below v (element_part branch)))
        ∙ branch_long around.below branch head v own.same

    digits : Digits k.tree
    digits = let two = own.two in digits_of k.tree (omega (arith, two, all)) (omega (arith, small))

    abbrev lower : ℕ
    lower = digits.lower

    counted : head_long (suc lower) + head.long ≡ k.tree
    counted =
        let is : head.bytes ≡ head_long (suc lower) = begun.exact.counted ∙ ap head_long digits.is in
        omega (arith, is, all)

    saved : head_long (suc lower) ≤ k.tree - 2 ^ lower + head_long lower
    saved =
        let less : suc lower - 1 ≡ lower = omega arith in
        let one = saved_is around head begun.exact.counted in
        let other = begun.saved in
        let known : head_long (binary_length k.tree)
        ≤ k.tree - 2 ^ (binary_length k.tree - 1) + head_long (binary_length k.tree - 1) =
        omega (arith, one, other) in
        subst (λ u. head_long (suc lower) ≤ k.tree - 2 ^ u + head_long u) less
        (subst (λ v. head_long v ≤ k.tree - 2 ^ (v - 1) + head_long (v - 1)) digits.is known)

    width : least_width (lengths (length names) branch) ≡ suc lower
    width =
        let long = counted in
        let less = saved in
        let digits_fit = digits.fits in
        let digits_least = digits.least in
        let wide_is = sized_is (suc lower) in
        let thin_is = sized_is lower in
        let two = own.two in
        let content = own.same.long in
        width_is (lengths (length names) branch) 1
        (λ v.
        let one = sized_is v in
        let other = sized_is (suc v) in
        let part = one_part v in
        let more = one_part (suc v) in
        let rest = parts_shrink around.below v (element_part branch ∷ []) in
        omega (arith, one, other, part, more, rest))
        (λ v.
        let one = sized_is v in
        let part = one_part v in
        let rest = parts_wide around.below v (element_part branch ∷ []) (omega (arith, two, content), tt) in
        omega (arith, one, part, rest))
        lower digits.within (omega (arith, wide_is, long, digits_fit))
        (omega (arith, wide_is, thin_is, long, less, digits_least))

    tree_there : bytes_of_segments (tree_under names own.element) ≡ take k.tree (drop k.dictionary stream)
    unfolding tree_under
    tree_there =
        let bytes : List ℕ = head_in around.below head (suc lower) in
        let content : List ℕ = bytes_of_segments branch.content in
        let rest : List ℕ = drop (k.dictionary + head.bytes + head.long) stream in
        let spelled : take head.bytes (drop k.dictionary stream) ≡ bytes = begun.exact.spelled
        ∙ ap (head_in around.below head) digits.is in
        let there : drop k.dictionary stream ≡ (bytes ++ content) ++ rest =
        bytes_at-rest stream k.dictionary head.bytes
        ∙ ap (λ l. l ++ drop (k.dictionary + head.bytes) stream) spelled
        ∙ ap (λ l. bytes ++ l) own.there ∙ sym (append_assoc bytes content rest) in
        let long : length (bytes ++ content) ≡ k.tree =
        ap (λ (l : List ℕ). length l) (sym (tree_bytes (suc lower))) ∙ sized_long (suc lower) ∙ counted in
        ap (λ v. bytes_of_segments (tree_at (length names) branch v)) width ∙ tree_bytes (suc lower)
        ∙ sym (ap (take k.tree) there ∙ take_at (bytes ++ content) rest k.tree long)
      where
        sized_long : (v : ℕ) → length (bytes_of_segments (tree_at (length names) branch v)) ≡ head_long v + head.long
        sized_long v =
            ap (λ (l : List ℕ). length l) (lengths_is (length names) branch v
            ∙ ap (λ m. part_bytes m v (element_part branch)) (sym rows))
            ∙ branch_long around.below branch head v own.same

    tree_made : TreeRead k names stream events
    tree_made =
        let none = none_after k stream own.fuel (k.dictionary + head.bytes + head.long) own.rest own.ends in
        let spelled : Begin head.tag head.below ∷ own.tail ≡ events =
        sym (after.first ∙ ap (λ l. Begin head.tag head.below ∷ l)
        (own.own ∙ ap (λ l. own.tail ++ l) none ∙ append-nil own.tail)) in
        let low = own.low in
        record {
          root = own.element;
          spells = subst (SpellsElement names own.element) spelled own.spells;
          bytes = tree_there;
          low = omega (arith, low);
        }

  -- ---- the root

  -- The step at the first position begins the root, which is the only item of the tree section.
  pub record RootBegun : Type 0 where
    pub begun : BegunRead k.depth stream 0 around k.dictionary
    pub there : step_at k stream (first_position k) ≡ Some (begin_step around k.dictionary begun.head)
    pub all : begun.head.bytes + begun.head.long ≡ k.tree

  root_begun : (step : Step) → step_at k stream (first_position k) ≡ Some step → RootBegun
  unfolding step_at root_step
  root_begun step is =
      let only : Step → Option Step = λ step. cond (is_only step.change) (Some step) None in
      let parts = and_then_some only (element_begun k.depth stream 0 around k.dictionary) step is in
      let begun = begun_read k.depth stream 0 around k.dictionary parts.0 fit around_row (omega arith) parts.1 in
      let begin : Step = begin_step around k.dictionary begun.head in
      let same : parts.0 ≡ begin = same_Some parts.0 begin (sym parts.1 ∙ begun.is) in
      let tests = cond_some (is_only begin.change) begin step (ap only (sym same) ∙ parts.2) in
      let child : Level = level_of k.dictionary begun.head in
      let end = first_so (nat_eq child.end around.end) _ tests.0 in
      let ends : k.dictionary + begun.head.bytes + begun.head.long ≡ k.dictionary + k.tree =
      grind (arith, nat_tests, end) in
      record {
        begun = begun;
        there = ap (option_and_then only) begun.is ∙ ap (λ b. cond b (Some begin) None) tests.0;
        all = omega (arith, ends);
      }

  root_read : (n : ℕ) (events : List Event) → Ends k stream (suc n) (first_position k) events
      → TreeRead k names stream events
  root_read n events ends =
      let some = some_step k stream n (first_position k) events ends in
      let root = root_begun some.0 some.1 in
      let begun = root.begun in
      let deep = begun.deep in
      let after = known_step k stream n (first_position k) events
      (begin_step around k.dictionary begun.head) root.there tt ends in
      let own = child_open k stream fit names few formed new around k.dictionary 0 around_open begun in
      let read = element_read k stream fit names few formed new n after.rest begun.head [] k.dictionary own.0
      own.1.0 own.1.1.whole after.ends
      (λ m start rest fewer within later. items_read k stream fit names few formed new n m rest
      (level_of k.dictionary begun.head) [] start (λ n. false) fewer own.1.1 (sym row_of-none)
      (omega (arith, deep)) within later) in
      tree_made n events begun root.all after read

  -- A stream that is read to its end has the bytes of a tree.
  pub tree_read : (events : List Event)
      → run k stream (events_left k (first_position k) + 1) (first_position k) ≡ events ++ (End ∷ [])
      → TreeRead k names stream events
  tree_read events ends =
      let fuel : events_left k (first_position k) + 1 ≡ suc (events_left k (first_position k)) = omega arith in
      root_read (events_left k (first_position k)) events
      (subst (λ n. Ends k stream n (first_position k) events) fuel ends)
