-- The items that are read up to the end of an open element have the encoder's bytes.
use Rattle.std.proofs.Common.{◌≡◌, ℕ, zero, suc, ◌+◌, ◌-◌, ◌^◌, ◌<◌, ◌≤◌, Bool, true, false, ◌||◌, nat_eq, Some, List, [], ◌∷◌, ◌++◌, length, drop, map, refl, ap, sym, ◌∙◌, subst, arith, append_assoc, inl, inr, All, length-append, w32}
use Rattle.std.specs.Cmp.Lexicographic.{pointwise, bytes_decides}
use Rattle.std.specs.Int.{to_be_bytes}
use Rattle.std.specs.List.{flat_map, list_all, list_any}
use Rattle.std.proofs.Math.Pow.{pow_mono}
use Rattle.acl_bits.specs.Row.{row_of, is_member}
use Rattle.acl_bits.specs.inside.RowLaws.{row_of-same}
use Rattle.acl_model.specs.Dictionary.{are_new}
use Rattle.acl_model.specs.Names.{is_name}
use Rattle.acl_model.specs.Stream.{measured_bytes, bytes_of_segments, Part, holds_number, has_member, branch_of, part_of}
use Rattle.acl_model.proofs.FormEquations.{height_of_item-Text, height_of_item-Child}
use Rattle.acl_model.proofs.StreamEquations.{part_of-Text, part_of-Child}
use Rattle.acl_model.specs.declared.document.Element.{Element}
use Rattle.acl_model.specs.declared.document.Item.TheVariants as item
use Rattle.acl_walk.specs.Spelling.{no_item, a_text, a_child}
use Rattle.acl_walk.specs.declared.event.Event.{Event}
use Rattle.acl_walk.specs.declared.event.Event.TheVariants as event
use Rattle.skip_decode.specs.declared.head.Head.{Head}
use Rattle.skip_decode.specs.declared.position.Level.{Level}
use Rattle.skip_decode.specs.declared.position.Next.TheVariants.{Count, Item as an_item}
use Rattle.skip_decode.specs.Positions.{Numbers}
use Rattle.skip_decode.specs.StreamSteps.{next_in, parent_with, level_of, finish_step, checked_finish, item_step, step_at}
use Rattle.skip_decode.proofs.ElementRuns.{met_child, met_twice}
use Rattle.skip_decode.proofs.Heads.{row_of-none, or_false}
use Rattle.skip_decode.proofs.PieceRuns.{at}
use Rattle.skip_decode.proofs.ReadElements.{IsOpen, ItemsRead, ElementRead, element_read}
use Rattle.skip_decode.proofs.ReadHeads.{of_member, head_in, begin_step, BegunRead, begun_read, saved_is, IsOfHead, branch_bytes, branch_long}
use Rattle.skip_decode.proofs.ReadNames.{none_held, text_held, child_held}
use Rattle.skip_decode.proofs.ReadSteps.{Ends, After, no_run, some_step, known_step}
use Rattle.skip_decode.proofs.ReadTexts.{bytes_at-rest, item_cases, TextRead, text_read}
use Rattle.skip_decode.proofs.ReadWidths.{digits_within, AreWide}
use Rattle.skip_decode.proofs.Sizes.{part_bytes, part_bytes-text}
use Rattle.skip_decode.proofs.StepKinds.{cond_some}

module _ (k : Numbers) (stream : List ℕ) (fit : All (λ b. b < 256) stream) (names : List (List ℕ))
    (few : length names ≤ 256) (formed : list_all is_name names ≡ true) (new : are_new [] names ≡ true) where
  -- ---- the end

  item_steps : (level : Level) (up : List Level) (place : ℕ)
      → step_at k stream (at (level ∷ up) an_item place) ≡ item_step k.depth stream (length up + 1) level place
  unfolding step_at
  item_steps level up place = refl

  -- At its end an open element has met its whole tag set.
  end_read : (n : ℕ) (events : List Event) (level : Level) (up : List Level) (place : ℕ) (met : ℕ → Bool)
      → level.met ≡ row_of met → length up + 1 ≤ k.depth
      → place ≡ level.end → step_at k stream (at (level ∷ up) an_item place) ≡ checked_finish level place
      → Ends k stream (suc n) (at (level ∷ up) an_item place) events
      → ItemsRead k stream fit names few formed new (suc n) events level up place met
  unfolding checked_finish
  end_read n events level up place met is deep end step ends =
      let some = some_step k stream n (at (level ∷ up) an_item place) events ends in
      let tests = cond_some (pointwise nat_eq level.met level.below) (finish_step level place) some.0
      (sym step ∙ some.1) in
      let there : step_at k stream (at (level ∷ up) an_item place) ≡ Some (finish_step level place) = some.1
      ∙ ap Some (sym tests.1) in
      let after = known_step k stream n (at (level ∷ up) an_item place) events
      (finish_step level place) there tt ends in
      let same : level.met ≡ level.below = (bytes_decides level.met level.below).0 tests.0 in
      record {
        items = [];
        own = [];
        rest = after.rest;
        fuel = n;
        fewer = omega arith;
        first = after.first;
        spells = no_item names;
        there = ap (λ p. drop p stream) end;
        counted = omega (arith, end);
        exact = sym same ∙ is ∙ row_of-same met (λ n. met n || false) (λ n below. or_false (met n));
        saves = omega arith;
        wide = tt;
        low = omega (arith, deep);
        held = none_held names few formed new;
        ends = subst (λ p. Ends k stream n (at up (next_in up an_item) p) after.rest) end after.ends;
      }

  -- ---- a text

  -- A text, and the items after it.
  with_text : (n : ℕ) (events : List Event) (level : Level) (up : List Level) (place : ℕ) (met : ℕ → Bool)
      (whole : level.end ≤ length stream)
      (read : TextRead k stream fit level up whole n events place)
      → ItemsRead k stream fit names few formed new read.fuel read.rest level up (place + (4 + length read.text)) met
      → ItemsRead k stream fit names few formed new n events level up place met
  with_text n events level up place met whole read later =
      let text : List ℕ = read.text in
      let part : Part = part_of names (item.Text text) in
      let parts : List Part = map (part_of names) later.items in
      let others : ℕ → List ℕ = λ v. flat_map (part_bytes level.below v) parts in
      let is : (v : ℕ) → part_bytes level.below v part ≡ measured_bytes text =
      λ v. ap (part_bytes level.below v) (part_of-Text names text) ∙ part_bytes-text level.below v text in
      let text_long : length (measured_bytes text) ≡ 4 + length text =
      length-append (to_be_bytes w32 (length text)) text in
      let long : (v : ℕ) → length (part_bytes level.below v part ++ others v) ≡ 4 + length text + length (others v) =
      λ v. length-append (part_bytes level.below v part) (others v) ∙ ap (λ l. length l + length (others v)) (is v)
      ∙ ap (λ m. m + length (others v)) text_long in
      let wide_long = long level.width in
      let thin_long = long (level.width - 1) in
      let one = read.fewer in
      let other = later.fewer in
      let counted = later.counted in
      let saves = later.saves in
      let low = later.low in
      let flat = height_of_item-Text text in
      record {
        items = item.Text text ∷ later.items;
        own = map event.Text read.pieces ++ later.own;
        rest = later.rest;
        fuel = later.fuel;
        fewer = omega (arith, one, other);
        first = read.own ∙ ap (λ l. map event.Text read.pieces ++ l) later.first
            ∙ sym (append_assoc (map event.Text read.pieces) later.own (event.Finish level.tag ∷ later.rest));
        spells = a_text names text read.pieces later.items later.own read.joins later.spells;
        there =
            read.there ∙ ap (λ l. measured_bytes text ++ l) later.there
            ∙ sym (append_assoc (measured_bytes text) (others level.width) (drop level.end stream))
            ∙ ap (λ l. (l ++ others level.width) ++ drop level.end stream) (sym (is level.width));
        counted = omega (arith, counted, wide_long);
        exact = later.exact ∙ ap (λ (p : Part). row_of
            (λ n. met n || (holds_number n p || list_any (holds_number n) parts))) (sym (part_of-Text names text));
        saves = omega (arith, saves, wide_long, thin_long);
        wide = subst (λ (p : Part). AreWide (p ∷ parts)) (sym (part_of-Text names text)) later.wide;
        low = omega (arith, low, flat);
        held = text_held names few formed new text later.items later.held;
        ends = later.ends;
      }

  -- ---- a child

  -- what was met after a head
  abbrev met_after : (ℕ → Bool) → Head → ℕ → Bool
  met_after met head n = met n || ((nat_eq head.tag n || has_member head.below n) || false)

  -- The numbers of a head are those of the child's part.
  holds_is : (e : Element) (head : Head) → IsOfHead (branch_of names e) head → (n : ℕ)
      → (nat_eq head.tag n || has_member head.below n) ≡ holds_number n (part_of names (item.Child e))
  holds_is e head same n =
      ap (λ t. nat_eq t n || has_member head.below n) (sym same.tag)
      ∙ ap (λ (m : List ℕ). nat_eq (branch_of names e).tag n || has_member m n) (sym same.below)
      ∙ ap (holds_number n) (sym (part_of-Child names e))

  module _ (n : ℕ) (events : List Event) (level : Level) (up : List Level) (place : ℕ) (met : ℕ → Bool)
      (begun : BegunRead k.depth stream (length up + 1) level place)
      (after : After k stream n (at (level_of place begun.head ∷ parent_with level begun.head ∷ up) Count
      (place + begun.head.bytes)) (event.Begin begun.head.tag begun.head.below) events)
      (own : ElementRead k stream fit names few formed new n after.rest begun.head
      (parent_with level begun.head ∷ up) (place + begun.head.bytes))
      (later : ItemsRead k stream fit names few formed new own.fuel own.rest (parent_with level begun.head) up
      (place + begun.head.bytes + begun.head.long) (met_after met begun.head)) where
    abbrev head : Head
    head = begun.head

    abbrev child : Element
    child = own.element

    abbrev part : Part
    part = part_of names (item.Child child)

    abbrev parts : List Part
    parts = map (part_of names) later.items

    abbrev others : ℕ → List ℕ
    others v = flat_map (part_bytes level.below v) parts

    abbrev content : List ℕ
    content = bytes_of_segments (branch_of names child).content

    child_bytes : (v : ℕ) → part_bytes level.below v part ≡ head_in level.below head v ++ content
    child_bytes v =
        ap (part_bytes level.below v) (part_of-Child names child)
        ∙ branch_bytes level.below (branch_of names child) head v own.same

    all_long : (v : ℕ) → length (part_bytes level.below v part ++ others v)
        ≡ length (head_in level.below head v) + head.long + length (others v)
    all_long v =
        length-append (part_bytes level.below v part) (others v)
        ∙ ap (λ m. m + length (others v))
        (ap (λ p. length (part_bytes level.below v p)) (part_of-Child names child)
        ∙ branch_long level.below (branch_of names child) head v own.same)

    child_first : events ≡ ((event.Begin head.tag head.below ∷ own.tail) ++ later.own) ++
        (event.Finish level.tag ∷ later.rest)
    child_first =
        after.first ∙ ap (λ l. event.Begin head.tag head.below ∷ l)
        (own.own ∙ ap (λ l. own.tail ++ l) later.first
        ∙ sym (append_assoc own.tail later.own (event.Finish level.tag ∷ later.rest)))

    child_there : drop place stream
        ≡ (part_bytes level.below level.width part ++ others level.width) ++ drop level.end stream
    child_there =
        let bytes : List ℕ = head_in level.below head level.width in
        let rest : List ℕ = drop level.end stream in
        bytes_at-rest stream place head.bytes
        ∙ ap (λ l. l ++ drop (place + head.bytes) stream) begun.exact.spelled
        ∙ ap (λ l. bytes ++ l) (own.there ∙ ap (λ l. content ++ l) later.there)
        ∙ sym (append_assoc bytes content (others level.width ++ rest))
        ∙ ap (λ l. l ++ (others level.width ++ rest)) (sym (child_bytes level.width))
        ∙ sym (append_assoc (part_bytes level.below level.width part) (others level.width) rest)

    child_exact : level.below ≡ row_of (λ n. met n || (holds_number n part || list_any (holds_number n) parts))
    child_exact =
        later.exact ∙ row_of-same (λ n. met_after met head n || list_any (holds_number n) parts)
        (λ n. met n || (holds_number n part || list_any (holds_number n) parts)) (λ n below.
        met_twice k stream names few formed (met n) (nat_eq head.tag n || has_member head.below n) (list_any (holds_number n) parts)
        ∙ ap (λ b. met n || (b || list_any (holds_number n) parts)) (holds_is child head own.same n))

    child_wide : AreWide (part ∷ parts)
    child_wide =
        let long = own.same.long in
        let two = own.two in
        subst (λ (p : Part). AreWide (p ∷ parts)) (sym (part_of-Child names child))
        (omega (arith, long, two), later.wide)

    with_child : ItemsRead k stream fit names few formed new (suc n) events level up place met
    with_child =
        let one = own.fewer in
        let other = later.fewer in
        let counted = later.counted in
        let saves = later.saves in
        let low = later.low in
        let own_low = own.low in
        let tall = height_of_item-Child child in
        let wide_long = all_long level.width in
        let thin_long = all_long (level.width - 1) in
        let head_long = begun.exact.counted in
        let saved = begun.saved in
        let less = saved_is level head begun.exact.counted in
        record {
          items = item.Child child ∷ later.items;
          own = (event.Begin head.tag head.below ∷ own.tail) ++ later.own;
          rest = later.rest;
          fuel = later.fuel;
          fewer = omega (arith, one, other);
          first = child_first;
          spells = a_child names child (event.Begin head.tag head.below
              ∷ own.tail) later.items later.own own.spells later.spells;
          there = child_there;
          counted = omega (arith, counted, wide_long, head_long);
          exact = child_exact;
          saves = omega (arith, saves, wide_long, thin_long, saved, less);
          wide = child_wide;
          low = omega (arith, low, own_low, tall);
          held = child_held names few formed new child later.items own.held later.held;
          ends = later.ends;
        }

  -- ---- items

  -- An element that begins in an open one is itself open.
  pub child_open : (level : Level) (place around : ℕ) → IsOpen k stream fit names few formed new level
      → (begun : BegunRead k.depth stream around level place)
      → (begun.head.tag < length names)
      × ((begun.head.long < 2 ^ 32) × IsOpen k stream fit names few formed new (level_of place begun.head))
  child_open level place around opened begun =
      let exact = begun.exact in
      let fits = exact.fits in
      let wide : 2 ^ level.width ≤ 2 ^ 32 = pow_mono opened.narrow in
      let small : begun.head.long < 2 ^ 32 = omega (arith, fits, wide) in
      let inside = begun.inside in
      let whole = opened.whole in (
        opened.known begun.head.tag exact.tag,
        (
          small,
          record {
            row = exact.row;
            known = λ n there. opened.known n
                (of_member (λ m. is_member level.below m ≡ true) begun.head.below n exact.part there);
            narrow = digits_within begun.head.long small;
            whole = omega (arith, inside, whole);
          },
        ),
      )

  -- Items are read up to the end of an open element.
  pub items_read : (fuel n : ℕ) (events : List Event) (level : Level) (up : List Level) (place : ℕ) (met : ℕ → Bool)
      → n < fuel → IsOpen k stream fit names few formed new level
      → level.met ≡ row_of met → length up + 1 ≤ k.depth → place ≤ level.end
      → Ends k stream n (at (level ∷ up) an_item place) events
      → ItemsRead k stream fit names few formed new n events level up place met
  items_read zero n events level up place met enough opened is deep before ends = absurd (omega (arith, enough))
  items_read (suc fuel) zero events level up place met enough opened is deep before ends =
      absurd (no_run k stream (at (level ∷ up) an_item place) events ends)
  items_read (suc fuel) (suc n) events level up place met enough opened is deep before ends =
      let some = some_step k stream n (at (level ∷ up) an_item place) events ends in
      let step = item_steps level up place in
      elim (item_cases k.depth stream (length up + 1) level place some.0 (sym step ∙ some.1)) [
        | inl end ↦ end_read n events level up place met is deep end.0 (step ∙ end.1) ends
        | inr inside ↦
            elim inside [
              | inl child ↦
                  let begun = begun_read k.depth stream (length up + 1) level place some.0 fit opened.row before
                  (sym child ∙ sym step ∙ some.1) in
                  let head : Head = begun.head in
                  let own = child_open level place (length up + 1) opened begun in
                  let after = known_step k stream n (at (level ∷ up) an_item place) events
                  (begin_step level place head) (step ∙ child ∙ begun.is) tt ends in
                  let around : Level = parent_with level head in
                  let child_whole = own.1.1.whole in
                  let child_deep = begun.deep in
                  let read = element_read k stream fit names few formed new n after.rest head
                  (around ∷ up) place own.0 own.1.0 child_whole after.ends
                  (λ m start rest fewer within later. items_read fuel m rest (level_of place head)
                  (around ∷ up) start (λ n. false) (omega (arith, enough, fewer)) own.1.1 (sym row_of-none)
                  (omega (arith, child_deep)) within later) in
                  let shorter = read.fewer in
                  let inside_end = begun.inside in
                  let later = items_read fuel read.fuel read.rest around up (place + head.bytes + head.long)
                  (met_after met head) (omega (arith, enough, shorter))
                  (record { row = opened.row; known = opened.known; narrow = opened.narrow; whole = opened.whole })
                  (met_child k stream names few formed level.met met head is) deep
                  (omega (arith, inside_end)) read.ends in
                  with_child n events level up place met begun after read later
              | inr words ↦
                  let read = text_read k stream fit level up opened.whole (suc n) place events (step ∙ words) ends in
                  let shorter = read.fewer in
                  with_text (suc n) events level up place met opened.whole read
                  (items_read fuel read.fuel read.rest level up (place + (4 + length read.text)) met
                  (omega (arith, enough, shorter)) opened is deep read.within read.ends)
            ]
      ]
