-- An element that was read has the encoder's bytes: an element whose branch has its head, and whose content stands
-- after the head.
use Rattle.std.proofs.Common.{◌≡◌, ℕ, suc, ◌+◌, ◌-◌, ◌^◌, ◌<◌, ◌≤◌, Bool, true, false, ◌||◌, List, [], ◌∷◌, ◌++◌, length, drop, map, ap, sym, ◌∙◌, subst, arith, append_assoc, All, w16}
use Rattle.std.specs.Int.{to_be_bytes}
use Rattle.std.specs.List.{flat_map, list_all, list_any}
use Rattle.acl_bits.specs.Row.{row_of, is_member, IsRow}
use Rattle.acl_model.specs.Document.{greatest, height, height_of_item}
use Rattle.acl_model.specs.Dictionary.{are_new}
use Rattle.acl_model.specs.Names.{is_name}
use Rattle.acl_model.specs.Stream.{tag_of as stream_tag, measured_bytes, bytes_of_segments, size, Part, Branch, holds_number, numbers_in, content_at, element_branch, branch_of, part_of}
use Rattle.acl_model.specs.Width.{least_width}
use Rattle.acl_model.proofs.FormEquations.{height_is}
use Rattle.acl_model.proofs.StreamEquations.{branch_of_is}
use Rattle.acl_model.specs.declared.document.Element.{Element}
use Rattle.acl_model.specs.declared.document.Item.{Item}
use Rattle.acl_walk.specs.Spelling.{Covers, SpellsElement, an_element, SpellsItems}
use Rattle.acl_walk.specs.declared.event.Event.{Event}
use Rattle.acl_walk.specs.declared.event.Event.TheVariants.{Begin, HeadEnd, Finish}
use Rattle.skip_decode.specs.declared.head.Head.{Head}
use Rattle.skip_decode.specs.declared.position.Level.{Level}
use Rattle.skip_decode.specs.declared.position.Next.TheVariants.{Count, Item as an_item}
use Rattle.skip_decode.specs.Positions.{Numbers}
use Rattle.skip_decode.specs.StreamSteps.{next_in, level_of}
use Rattle.skip_decode.proofs.Elements.{numbers_in-row}
use Rattle.skip_decode.proofs.PieceRuns.{at}
use Rattle.skip_decode.proofs.ReadAttributes.{CountRead, count_read}
use Rattle.skip_decode.proofs.ReadHeads.{IsOfHead}
use Rattle.skip_decode.proofs.ReadNames.{NameOf, name_of, AreHeld, IsHeld, element_held, held_covers}
use Rattle.skip_decode.proofs.ReadSteps.{Ends}
use Rattle.skip_decode.proofs.ReadWidths.{Digits, digits_of, AreWide, elements_in, parts_shrink, parts_wide, width_is}
use Rattle.skip_decode.proofs.Sizes.{part_bytes, content_bytes, content_size}

module _ (k : Numbers) (stream : List ℕ) (fit : All (λ b. b < 256) stream) (names : List (List ℕ))
    (few : length names ≤ 256) (formed : list_all is_name names ≡ true) (new : are_new [] names ≡ true) where
  -- An open element whose tag set is a set of the names' numbers, and whose content stands in the stream.
  pub record IsOpen (level : Level) : Type 0 where
    pub row : IsRow level.below
    pub known : (n : ℕ) → is_member level.below n ≡ true → n < length names
    pub narrow : level.width ≤ 32
    pub whole : level.end ≤ length stream

  -- Items up to the end of an open element, and the events after its Finish.
  pub record ItemsRead (n : ℕ) (events : List Event) (level : Level) (up : List Level) (place : ℕ)
      (met : ℕ → Bool) : Type 0 where
    pub items : List Item
    pub own : List Event
    pub rest : List Event
    pub fuel : ℕ
    pub fewer : fuel < n
    pub first : events ≡ own ++ (Finish level.tag ∷ rest)
    pub spells : SpellsItems names items own
    pub there : drop place stream ≡ flat_map (part_bytes level.below level.width)
        (map (part_of names) items) ++ drop level.end stream
    pub counted : place + length (flat_map (part_bytes level.below level.width) (map (part_of names) items))
        ≡ level.end
    pub exact : level.below ≡ row_of (λ n. met n || list_any (holds_number n) (map (part_of names) items))
    pub saves : length (flat_map (part_bytes level.below level.width) (map (part_of names) items))
        ≤ level.spare + length (flat_map (part_bytes level.below (level.width - 1)) (map (part_of names) items))
    pub wide : AreWide (map (part_of names) items)
    pub low : length up + 1 + greatest (map height_of_item items) ≤ k.depth
    pub held : AreHeld names few formed new items
    pub ends : Ends k stream fuel (at up (next_in up an_item) level.end) rest

  -- The content of an element with this head, and the events after its Finish.
  pub record ElementRead (n : ℕ) (events : List Event) (head : Head) (up : List Level) (start : ℕ) : Type 0 where
    pub element : Element
    pub tail : List Event
    pub rest : List Event
    pub fuel : ℕ
    pub fewer : fuel < n
    pub own : events ≡ tail ++ rest
    pub spells : SpellsElement names element (Begin head.tag head.below ∷ tail)
    pub same : IsOfHead (branch_of names element) head
    pub two : 2 ≤ head.long
    pub there : drop start stream ≡ bytes_of_segments (branch_of names element).content ++ drop
        (start + head.long) stream
    pub low : length up + height element ≤ k.depth
    pub held : IsHeld names few formed new element
    pub ends : Ends k stream fuel (at up (next_in up an_item) (start + head.long)) rest

  -- ---- an element

  regroup : (a b : List Event) (x y : Event) (rest : List Event)
      → a ++ (x ∷ (b ++ (y ∷ rest))) ≡ (a ++ (x ∷ (b ++ (y ∷ [])))) ++ rest
  regroup a b x y rest =
      ap (λ l. a ++ (x ∷ l)) (sym (append_assoc b (y ∷ []) rest)) ∙ sym (append_assoc a (x ∷ (b ++ (y ∷ []))) rest)

  module _ (n : ℕ) (events : List Event) (head : Head) (up : List Level) (place : ℕ)
      (within : head.tag < length names) (small : head.long < 2 ^ 32)
      (whole : place + head.bytes + head.long ≤ length stream)
      (count : CountRead k stream fit (level_of place head) up whole n events (place + head.bytes))
      (inner : ItemsRead count.fuel count.rest (level_of place head) up
      (place + head.bytes + (2 + length (flat_map measured_bytes count.raws))) (λ n. false)) where
    abbrev start : ℕ
    start = place + head.bytes

    abbrev bytes : List ℕ
    bytes = flat_map measured_bytes count.raws

    abbrev parts : List Part
    parts = map (part_of names) inner.items

    named : NameOf names few formed new head.tag
    named = name_of names few formed new head.tag within

    abbrev made : Element
    made = record { name = named.name; attributes = count.raws; items = inner.items }

    -- the length of the parts with lengths in v bits
    abbrev parts_long : ℕ → ℕ
    parts_long v = length (flat_map (part_bytes head.below v) parts)

    abbrev sized : ℕ → ℕ
    sized v = size (content_at (stream_tag names named.name) (numbers_in parts) count.raws parts v)

    row : numbers_in parts ≡ head.below
    row = numbers_in-row parts ∙ sym inner.exact

    sized_is : (v : ℕ) → sized v ≡ 2 + (length bytes + parts_long v)
    sized_is v =
        content_size (stream_tag names named.name) (numbers_in parts) count.raws parts v
        ∙ ap (λ m. 2 + (length bytes + length (flat_map (part_bytes m v) parts))) row

    two_long : 2 ≤ head.long
    two_long = let inside = count.within in omega (arith, inside)

    digits : Digits head.long
    digits = let two = two_long in digits_of head.long (omega (arith, two)) small

    abbrev lower : ℕ
    lower = digits.lower

    counted : start + (2 + length bytes) + parts_long (suc lower) ≡ start + head.long
    counted = subst (λ v. start + (2 + length bytes) + parts_long v ≡ start + head.long) digits.is inner.counted

    whole_long : sized (suc lower) ≡ head.long
    whole_long = let is = sized_is (suc lower) in let all = counted in omega (arith, is, all)

    saves : parts_long (suc lower) ≤ head.long - 2 ^ lower + parts_long lower
    saves =
        let less : suc lower - 1 ≡ lower = omega arith in
        subst (λ u. parts_long (suc lower) ≤ head.long - 2 ^ u + parts_long u) less
        (subst (λ v. parts_long v ≤ head.long - 2 ^ (v - 1) + parts_long (v - 1)) digits.is inner.saves)

    width : least_width sized ≡ suc lower
    width =
        let long = whole_long in
        let digits_fit = digits.fits in
        let digits_least = digits.least in
        let saved = saves in
        let long_is = sized_is (suc lower) in
        let thin_is = sized_is lower in
        width_is sized (elements_in parts)
        (λ v. let one = sized_is v in let other = sized_is (suc v) in let rest = parts_shrink head.below v parts in
        omega (arith, one, other, rest))
        (λ v. let one = sized_is v in let rest = parts_wide head.below v parts inner.wide in omega (arith, one, rest))
        lower digits.within (omega (arith, long, digits_fit))
        (omega (arith, long, digits_least, saved, long_is, thin_is))

    branch_is : branch_of names made
        ≡ element_branch names (record { name = named.name; attributes = count.raws; items = parts })
    branch_is = branch_of_is names made

    content_is : (branch_of names made).content
        ≡ content_at (stream_tag names named.name) (numbers_in parts) count.raws parts (suc lower)
    content_is =
        ap (λ (b : Branch). b.content) branch_is
        ∙ ap (content_at (stream_tag names named.name) (numbers_in parts) count.raws parts) width

    of_head : IsOfHead (branch_of names made) head
    of_head = record {
      tag = ap (λ (b : Branch). b.tag) branch_is ∙ named.number;
      below = ap (λ (b : Branch). b.below) branch_is ∙ row;
      long = ap size content_is ∙ whole_long;
    }

    own_bytes : bytes_of_segments (branch_of names made).content
        ≡ to_be_bytes w16 (length count.raws) ++ (bytes ++ flat_map (part_bytes head.below (suc lower)) parts)
    own_bytes =
        ap bytes_of_segments content_is
        ∙ content_bytes (stream_tag names named.name) (numbers_in parts) count.raws parts (suc lower)
        ∙ ap (λ m. to_be_bytes w16 (length count.raws) ++ (bytes ++ flat_map (part_bytes m (suc lower)) parts)) row

    there : drop start stream ≡ bytes_of_segments (branch_of names made).content ++ drop (start + head.long) stream
    there =
        let number : List ℕ = to_be_bytes w16 (length count.raws) in
        let after : List ℕ = drop (start + head.long) stream in
        let more : List ℕ = flat_map (part_bytes head.below (suc lower)) parts in
        let later : drop (start + (2 + length bytes)) stream ≡ more ++ after =
        inner.there ∙ ap (λ v. flat_map (part_bytes head.below v) parts ++ after) digits.is in
        count.there ∙ ap (λ l. number ++ (bytes ++ l)) later
        ∙ ap (λ l. number ++ l) (sym (append_assoc bytes more after))
        ∙ sym (append_assoc number (bytes ++ more) after)
        ∙ ap (λ l. l ++ after) (sym own_bytes)

    pub whole_read : ElementRead n events head up start
    whole_read =
        let one = count.fewer in
        let other = inner.fewer in
        let tall = height_is made in
        let low = inner.low in
        record {
          element = made;
          tail = count.heads ++ (HeadEnd ∷ (inner.own ++ (Finish head.tag ∷ [])));
          rest = inner.rest;
          fuel = inner.fuel;
          fewer = omega (arith, one, other);
          own = count.own ∙ ap (λ l. count.heads ++ (HeadEnd ∷ l)) inner.first
              ∙ regroup count.heads inner.own HeadEnd (Finish head.tag) inner.rest;
          spells = an_element names made head.tag head.below count.heads inner.own named.spelled
              (subst (λ (m : List ℕ). Covers names m made) of_head.below
              (held_covers names few formed new made inner.held)) count.spells inner.spells;
          same = of_head;
          two = two_long;
          there = there;
          low = omega (arith, tall, low);
          held = element_held names few formed new made named.known inner.held;
          ends = inner.ends;
        }

  -- The content of an element is read from the number of its attributes on, where its items are read.
  pub element_read : (n : ℕ) (events : List Event) (head : Head) (up : List Level) (place : ℕ)
      → head.tag < length names → head.long < 2 ^ 32
      → place + head.bytes + head.long ≤ length stream
      → Ends k stream n (at (level_of place head ∷ up) Count (place + head.bytes)) events
      → ((fuel start : ℕ) (rest : List Event) → fuel < n → start ≤ place + head.bytes + head.long
      → Ends k stream fuel (at (level_of place head ∷ up) an_item start) rest
      → ItemsRead fuel rest (level_of place head) up start (λ n. false))
      → ElementRead n events head up (place + head.bytes)
  element_read n events head up place within small whole ends items =
      let count = count_read k stream fit (level_of place head) up whole n (place + head.bytes) events ends in
      whole_read n events head up place within small whole count
      (items count.fuel (place + head.bytes +
      (2 + length (flat_map measured_bytes count.raws))) count.rest count.fewer count.within count.ends)
