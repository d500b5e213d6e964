-- Attributes that were read have the encoder's bytes: their number in two bytes, and then each as a text is written.
use Rattle.std.proofs.Common.{◌≡◌, ℕ, zero, suc, ◌+◌, ◌-◌, ◌<◌, ◌≤◌, List, [], ◌∷◌, ◌++◌, length, drop, map, refl, ap, sym, ◌∙◌, subst, arith, append_assoc, All, length-append, w16, w32}
use Rattle.std.specs.Int.{to_be_bytes, from_be_bytes}
use Rattle.std.specs.List.{flat_map}
use Rattle.std.specs.Option.{option_and_then}
use Rattle.std.proofs.lemmas.Nat.{be_bytes_2}
use Rattle.acl_model.specs.Stream.{measured_bytes}
use Rattle.acl_walk.specs.Spelling.{SpellsAttributes, no_attribute, an_attribute}
use Rattle.acl_walk.specs.declared.event.Event.{Event}
use Rattle.acl_walk.specs.declared.event.Event.TheVariants.{Attr, HeadEnd}
use Rattle.skip_decode.specs.declared.position.Level.{Level}
use Rattle.skip_decode.specs.declared.position.Next.{Next}
use Rattle.skip_decode.specs.declared.position.Next.TheVariants.{Count, Attributes, Attribute, Item}
use Rattle.skip_decode.specs.Positions.{Numbers}
use Rattle.skip_decode.specs.StreamHeads.{take_within}
use Rattle.skip_decode.specs.StreamSteps.{Stay, length_at, attribute_step, attributes_step, count_step, step_at}
use Rattle.skip_decode.proofs.HeadExact.{taken_within}
use Rattle.skip_decode.proofs.PieceRuns.{at, piece_step}
use Rattle.skip_decode.proofs.ReadPieces.{bytes_at, length-bytes_at, pieces_read}
use Rattle.skip_decode.proofs.ReadSteps.{Ends, no_run, some_step, known_step}
use Rattle.skip_decode.proofs.ReadTexts.{small_at, bytes_at-rest, length_read, measured_at}
use Rattle.skip_decode.proofs.StepKinds.{and_then_some}

module _ (k : Numbers) (stream : List ℕ) (fit : All (λ b. b < 256) stream) (level : Level) (up : List Level)
    (whole : level.end ≤ length stream) where
  -- So many attributes up to HeadEnd, and the events after it.
  pub record AttributesRead (n : ℕ) (events : List Event) (place count : ℕ) : Type 0 where
    pub raws : List (List ℕ)
    pub heads : List Event
    pub rest : List Event
    pub fuel : ℕ
    pub fewer : fuel < n
    pub counted : length raws ≡ count
    pub there : drop place stream ≡ flat_map measured_bytes raws ++ drop
        (place + length (flat_map measured_bytes raws)) stream
    pub within : place + length (flat_map measured_bytes raws) ≤ level.end
    pub spells : SpellsAttributes raws heads
    pub own : events ≡ heads ++ (HeadEnd ∷ rest)
    pub ends : Ends k stream fuel (at (level ∷ up) Item (place + length (flat_map measured_bytes raws))) rest

  attr_steps : (more place left : ℕ)
      → step_at k stream (at (level ∷ up) (Attribute left more) place)
      ≡ piece_step Attr (Attributes more) (λ left. Attribute left more) stream place left
  unfolding step_at attribute_step
  attr_steps more place left = refl

  same_step : (more place left : ℕ)
      → attribute_step stream more place left
      ≡ piece_step Attr (Attributes more) (λ left. Attribute left more) stream place left
  unfolding attribute_step
  same_step more place left = refl

  next_attributes : (place more : ℕ)
      → step_at k stream (at (level ∷ up) (Attributes more) place) ≡ attributes_step stream place level.end more
  unfolding step_at
  next_attributes place more = refl

  -- After the last attribute comes HeadEnd.
  none_read : (n : ℕ) (next : Next) (from place : ℕ) (events : List Event)
      → step_at k stream (at (level ∷ up) next from) ≡ attributes_step stream place level.end 0
      → place ≤ level.end → Ends k stream (suc n) (at (level ∷ up) next from) events
      → AttributesRead (suc n) events place 0
  unfolding attributes_step
  none_read n next from place events is within ends =
      let after = known_step k stream n (at (level ∷ up) next from) events
      (record { event = HeadEnd; next = Item; place = place; change = Stay }) is tt ends in
      let here : place ≡ place + 0 = omega arith in
      record {
        raws = [];
        heads = [];
        rest = after.rest;
        fuel = n;
        fewer = omega arith;
        counted = refl;
        there = ap (λ p. drop p stream) here;
        within = omega (arith, within);
        spells = no_attribute;
        own = after.first;
        ends = subst (λ p. Ends k stream n (at (level ∷ up) Item p) after.rest) here after.ends;
      }

  -- The first of several attributes, and the others.
  one_read : (n count : ℕ) (next : Next) (from place : ℕ) (events : List Event)
      → step_at k stream (at (level ∷ up) next from) ≡ attributes_step stream place level.end (suc count)
      → Ends k stream (suc n) (at (level ∷ up) next from) events
      → ((fuel after : ℕ) (rest : List Event) → fuel < suc n → after ≤ level.end
      → Ends k stream fuel (at (level ∷ up) (Attributes count) after) rest → AttributesRead fuel rest after count)
      → AttributesRead (suc n) events place (suc count)
  unfolding attributes_step
  one_read n count next from place events is ends others =
      let some = some_step k stream n (at (level ∷ up) next from) events ends in
      let parts = and_then_some (attribute_step stream count (place + 4)) (length_at stream place level.end) some.0
      (sym is ∙ some.1) in
      let left : ℕ = parts.0 in
      let read = length_read stream place level.end left fit whole parts.1 in
      let within = read.0 in
      let begun : step_at k stream (at (level ∷ up) next from)
      ≡ piece_step Attr (Attributes count) (λ left. Attribute left count) stream (place + 4) left =
      is ∙ ap (option_and_then (attribute_step stream count (place + 4))) parts.1
      ∙ same_step count (place + 4) left in
      let pieces = pieces_read k stream level up Attr (Attributes count) (λ left. Attribute left count)
      (attr_steps count) (λ piece. tt) (suc n) next from (place + 4) left events begun
      (omega (arith, within, whole)) ends in
      let raw : List ℕ = bytes_at stream (place + 4) left in
      let long : length raw ≡ left = length-bytes_at stream (place + 4) left (omega (arith, within, whole)) in
      let middle : ℕ = (place + 4) + left in
      let later = others pieces.fuel middle pieces.rest pieces.fewer (omega (arith, within)) pieces.ends in
      let bytes : List ℕ = flat_map measured_bytes later.raws in
      let all : length (measured_bytes raw ++ bytes) ≡ 4 + left + length bytes =
      (let one = length-append (measured_bytes raw) bytes in
      let two = length-append (to_be_bytes w32 (length raw)) raw in omega (arith, one, two, long)) in
      let end : middle + length bytes ≡ place + length (measured_bytes raw ++ bytes) = omega (arith, all) in
      let inside = later.within in
      let one_fewer = pieces.fewer in
      let more_fewer = later.fewer in
      record {
        raws = raw ∷ later.raws;
        heads = map Attr pieces.pieces ++ later.heads;
        rest = later.rest;
        fuel = later.fuel;
        fewer = omega (arith, one_fewer, more_fewer);
        counted = ap suc later.counted;
        there = measured_at stream place left (omega (arith, within, whole)) read.1
            ∙ ap (λ p. measured_bytes raw ++ drop p stream) (omega arith)
            ∙ ap (λ l. measured_bytes raw ++ l) later.there
            ∙ sym (append_assoc (measured_bytes raw) bytes (drop (middle + length bytes) stream))
            ∙ ap (λ p. (measured_bytes raw ++ bytes) ++ drop p stream) end;
        within = omega (arith, inside, all);
        spells = an_attribute raw pieces.pieces later.raws later.heads pieces.joins later.spells;
        own = pieces.own ∙ ap (λ l. map Attr pieces.pieces ++ l) later.own
            ∙ sym (append_assoc (map Attr pieces.pieces) later.heads (HeadEnd ∷ later.rest));
        ends = subst (λ p. Ends k stream later.fuel (at (level ∷ up) Item p) later.rest) end later.ends;
      }

  -- So many attributes are read, from a position whose step has the first of them.
  pub attributes_read : (count n : ℕ) (next : Next) (from place : ℕ) (events : List Event)
      → step_at k stream (at (level ∷ up) next from) ≡ attributes_step stream place level.end count
      → place ≤ level.end → Ends k stream n (at (level ∷ up) next from) events → AttributesRead n events place count
  attributes_read count zero next from place events is within ends =
      absurd (no_run k stream (at (level ∷ up) next from) events ends)
  attributes_read zero (suc n) next from place events is within ends =
      none_read n next from place events is within ends
  attributes_read (suc count) (suc n) next from place events is within ends =
      one_read n count next from place events is ends (λ fuel after rest fewer inside later.
      attributes_read count fuel (Attributes count) after after rest (next_attributes after count) inside later)

  -- ---- their number

  -- The number of attributes, the attributes up to HeadEnd, and the events after it.
  pub record CountRead (n : ℕ) (events : List Event) (place : ℕ) : Type 0 where
    pub raws : List (List ℕ)
    pub heads : List Event
    pub rest : List Event
    pub fuel : ℕ
    pub fewer : fuel < n
    pub there : drop place stream ≡ to_be_bytes w16 (length raws) ++
        (flat_map measured_bytes raws ++ drop (place + (2 + length (flat_map measured_bytes raws))) stream)
    pub within : place + (2 + length (flat_map measured_bytes raws)) ≤ level.end
    pub spells : SpellsAttributes raws heads
    pub own : events ≡ heads ++ (HeadEnd ∷ rest)
    pub ends : Ends k stream fuel (at (level ∷ up) Item (place + (2 + length (flat_map measured_bytes raws)))) rest

  -- The attributes of an element are read from their number on.
  pub count_read : (n place : ℕ) (events : List Event) → Ends k stream n (at (level ∷ up) Count place) events
      → CountRead n events place
  unfolding step_at count_step
  count_read zero place events ends = absurd (no_run k stream (at (level ∷ up) Count place) events ends)
  count_read (suc n) place events ends =
      let some = some_step k stream n (at (level ∷ up) Count place) events ends in
      let parts = and_then_some (λ (two : List ℕ). attributes_step stream (place + 2) level.end
      (from_be_bytes w16 two)) (take_within (level.end - place) 2 (drop place stream)) some.0 some.1 in
      let two = taken_within (level.end - place) 2 (drop place stream) parts.0 parts.1 in
      let few = two.0 in
      let count : ℕ = from_be_bytes w16 parts.0 in
      let is : step_at k stream (at (level ∷ up) Count place) ≡ attributes_step stream (place + 2) level.end count =
      ap (option_and_then (λ (two : List ℕ). attributes_step stream (place + 2) level.end (from_be_bytes w16 two)))
      parts.1 in
      let read = attributes_read count (suc n) Count place (place + 2) events is (omega (arith, few)) ends in
      let bytes : List ℕ = flat_map measured_bytes read.raws in
      let number : length read.raws ≡ from_be_bytes w16 (bytes_at stream place 2) = read.counted
      ∙ ap (from_be_bytes w16) (sym two.1) in
      let front : bytes_at stream place 2 ≡ to_be_bytes w16 (length read.raws) =
      sym (be_bytes_2 (bytes_at stream place 2) (length read.raws)
      (length-bytes_at stream place 2 (omega (arith, few, whole))) (small_at stream fit place 2) number) in
      let end : (place + 2) + length bytes ≡ place + (2 + length bytes) = omega arith in
      let within = read.within in
      record {
        raws = read.raws;
        heads = read.heads;
        rest = read.rest;
        fuel = read.fuel;
        fewer = read.fewer;
        there = bytes_at-rest stream place 2 ∙ ap (λ l. bytes_at stream place 2 ++ l) read.there
            ∙ ap (λ l. l ++ (bytes ++ drop ((place + 2) + length bytes) stream)) front
            ∙ ap (λ p. to_be_bytes w16 (length read.raws) ++ (bytes ++ drop p stream)) end;
        within = omega (arith, within);
        spells = read.spells;
        own = read.own;
        ends = subst (λ p. Ends k stream read.fuel (at (level ∷ up) Item p) read.rest) end read.ends;
      }
