-- Whatever bytes are read: a step leads from a spot to a spot, its event may come there, and fewer events are to come
-- after it. A pass leads from a spot to a spot, too.
use Rattle.std.proofs.Common.{◌≡◌, ℕ, ◌+◌, ◌*◌, ◌<◌, ◌≤◌, List, [], ◌∷◌, length, refl, ap, sym, ◌∙◌, subst, arith, inl, All}
use Rattle.std.proofs.lemmas.List.{length-map}
use Rattle.acl_bits.specs.declared.piece.Piece.{Piece}
use Rattle.acl_walk.specs.Nesting.{Phase, at_start, in_head, in_content, MayBegin, FitsLine, Stage, MayFollow, first_stage, stage_after, stage_passed}
use Rattle.acl_walk.specs.SpotMoves.{Falls}
use Rattle.acl_walk.specs.declared.event.Event.{Event}
use Rattle.acl_walk.specs.declared.event.Event.TheVariants as event
use Rattle.skip_decode.specs.declared.position.Level.{Level}
use Rattle.skip_decode.specs.declared.position.Next.{Next}
use Rattle.skip_decode.specs.declared.position.Next.TheVariants.{Root, Count, Attributes, Attribute, Item, Text, Finish, End}
use Rattle.skip_decode.specs.Positions.{Numbers, Position, tree_end, above_root, first_position, passed}
use Rattle.skip_decode.specs.Spots.{content_end, IsLevel, AreNested, FitsInside, Fits, IsSpot, phase_of, level_tags, stage_of}
use Rattle.skip_decode.specs.StreamSteps.{Step, Change, Stay, Open, Close, finish_step, end_step, next_in, position_after}
use Rattle.skip_decode.specs.StreamEvents.{weight, events_left}
use Rattle.skip_decode.specs.inside.Moves.{IsAttribute, IsInHead, IsText, IsBegin, IsSameLevel, OpenMove, BeginMove, ItemMove, MoveOutside, MoveInside, IsMove}
use Rattle.skip_decode.proofs.PieceRuns.{at}

-- the stage with these tags and this phase
abbrev staged : List ℕ → Phase → Stage
staged tags phase = record { tags = tags; phase = phase }

-- What is true of a step at a spot.
record Led (k : Numbers) (position : Position) (step : Step) : Type 0 where
  spot : IsSpot k (position_after position step)
  falls : Falls step.event (events_left k position) (events_left k (position_after position step))
  follows : MayFollow k.names k.depth (stage_of position) step.event
  stage : stage_of (position_after position step) ≡ stage_after (stage_of position) step.event

-- Open elements end within the tree section.
nested_end : (k : Numbers) (levels : List Level) → AreNested k levels → content_end k levels ≤ tree_end k
nested_end k [] nested = omega arith
nested_end k (level ∷ up) nested =
    let outer = nested_end k up nested.1 in
    let own = nested.0.within in
    omega (arith, own, outer)

-- What comes next inside an element is before its end.
fits_end : (next : Next) (place end : ℕ) → FitsInside next place end → place ≤ end
fits_end Root place end fits = absurd fits
fits_end Count place end fits = fits
fits_end (Attributes count) place end fits = fits
fits_end (Attribute left more) place end fits = let within = fits.1 in omega (arith, within)
fits_end Item place end fits = fits
fits_end (Text left) place end fits = let within = fits.1 in omega (arith, within)
fits_end Finish place end fits = fits
fits_end End place end fits = absurd fits

-- ---- steps inside an element

module _ (k : Numbers) (level : Level) (up : List Level) (next : Next) (from : ℕ) (nested : AreNested k (level ∷ up))
    (few : length (level ∷ up) ≤ k.depth) where
  abbrev position : Position
  position = at (level ∷ up) next from

  -- The event may come here.
  abbrev Comes : Event → Type 0
  Comes e = MayFollow k.names k.depth (stage_of position) e

  -- A step that keeps the open elements.
  abbrev staying : Event → Next → ℕ → Step
  staying e later after = record { event = e; next = later; place = after; change = Stay }

  -- After it fewer events are to come.
  fewer : (later : Next) (after was : ℕ) → FitsInside later after level.end → was ≤ 1
      → 4 * from + weight later < 4 * after + was → weight next ≡ was
      → events_left k (at (level ∷ up) later after) < events_left k position
  fewer later after was fits small less light =
      let end = nested_end k (level ∷ up) nested in
      let here = fits_end later after level.end fits in
      omega (arith, end, here, small, less, light)

  kept : (later : Next) (after : ℕ) → FitsInside later after level.end → IsSpot k (at (level ∷ up) later after)
  kept later after fits = record { nested = nested; few_open = few; fits = fits }

  in_phase : {p q : Phase} → p ≡ q → staged (level_tags (level ∷ up)) p ≡ staged (level_tags (level ∷ up)) q
  in_phase same = ap (staged (level_tags (level ∷ up))) same

  text_led : (e : Event) (later : Next) (after : ℕ) → weight next ≡ 0
      → ((piece : Piece) → FitsLine piece → Comes (event.Text piece))
      → IsText (phase_of later) e → FitsInside later after level.end → 4 * from + weight later < 4 * after + 0
      → Led k position (staying e later after)
  text_led (event.Begin tag below) later after light comes is fits less = absurd is
  text_led (event.Attr piece) later after light comes is fits less = absurd is
  text_led event.HeadEnd later after light comes is fits less = absurd is
  text_led (event.Text piece) later after light comes is fits less = record {
    spot = kept later after fits;
    falls = fewer later after 0 fits (omega arith) less light;
    follows = comes piece is.0;
    stage = in_phase is.1;
  }
  text_led (event.Finish tag) later after light comes is fits less = absurd is
  text_led event.End later after light comes is fits less = absurd is

  attribute_led : (e : Event) (later : Next) (after : ℕ) → weight next ≡ 1
      → ((piece : Piece) → FitsLine piece → Comes (event.Attr piece))
      → IsAttribute (phase_of later) e → FitsInside later after level.end → 4 * from + weight later < 4 * after + 1
      → Led k position (staying e later after)
  attribute_led (event.Begin tag below) later after light comes is fits less = absurd is
  attribute_led (event.Attr piece) later after light comes is fits less = record {
    spot = kept later after fits;
    falls = fewer later after 1 fits (omega arith) less light;
    follows = comes piece is.0;
    stage = in_phase is.1;
  }
  attribute_led event.HeadEnd later after light comes is fits less = absurd is
  attribute_led (event.Text piece) later after light comes is fits less = absurd is
  attribute_led (event.Finish tag) later after light comes is fits less = absurd is
  attribute_led event.End later after light comes is fits less = absurd is

  head_led : (e : Event) (later : Next) (after : ℕ) → weight next ≡ 1
      → ((piece : Piece) → FitsLine piece → Comes (event.Attr piece)) → Comes event.HeadEnd
      → IsInHead (phase_of later) e → FitsInside later after level.end → 4 * from + weight later < 4 * after + 1
      → Led k position (staying e later after)
  head_led (event.Begin tag below) later after light comes ends is fits less = absurd is
  head_led (event.Attr piece) later after light comes ends is fits less = record {
    spot = kept later after fits;
    falls = fewer later after 1 fits (omega arith) less light;
    follows = comes piece is.0;
    stage = in_phase is.1;
  }
  head_led event.HeadEnd later after light comes ends is fits less = record {
    spot = kept later after fits;
    falls = fewer later after 1 fits (omega arith) less light;
    follows = ends;
    stage = in_phase is;
  }
  head_led (event.Text piece) later after light comes ends is fits less = absurd is
  head_led (event.Finish tag) later after light comes ends is fits less = absurd is
  head_led event.End later after light comes ends is fits less = absurd is

  -- ---- the end of the element

  finish_fits : (up : List Level) → from ≤ content_end k up → Fits k up (next_in up Item) from
  finish_fits [] within = within
  finish_fits (parent ∷ up) within = within

  finish_light : (up : List Level) → weight (next_in up Item) ≡ 0
  finish_light [] = refl
  finish_light (parent ∷ up) = refl

  finish_stage : (up : List Level)
      → stage_of (position_after (at (level ∷ up) next from) (finish_step level from)) ≡ stage_after
      (stage_of (at (level ∷ up) next from)) (event.Finish level.tag)
  finish_stage [] = refl
  finish_stage (parent ∷ up) = refl

  finish_led : (step : Step) → from ≤ level.end → Comes (event.Finish level.tag) → step ≡ finish_step level from
      → Led k position step
  finish_led step within comes is =
      let light = finish_light up in
      let own = nested.0.within in
      subst (Led k position) (sym is)
      (record {
        spot = record {
          nested = nested.1;
          few_open = omega (arith, few);
          fits =
              finish_fits up (omega (arith, within, own));
        };
        falls = omega (arith, light);
        follows = comes;
        stage = finish_stage up;
      })

-- ---- the begin of an element

-- A level that is the same but for what was met stays one.
same_level : (k : Numbers) (end : ℕ) (now was : Level) → IsSameLevel now was → IsLevel k end was → IsLevel k end now
same_level k end now was same is =
    let ends = same.end in
    let width = same.width in
    let tag = same.tag in
    let within = is.within in
    let narrow = is.narrow in
    let number = is.tag in
    record {
      within = omega (arith, ends, within);
      narrow = omega (arith, width, narrow);
      tag = omega (arith, tag, number);
      below = subst (All (λ n. n < k.names)) (sym same.below) is.below;
    }

module _ (k : Numbers) (around from : ℕ) (outer : Level) (step : Step) (parent child : Level)
    (opens : OpenMove k around outer from step parent child) where
  begin_fits : (later : Next) → later ≡ Count → FitsInside later step.place child.end
  begin_fits later is = subst (λ n. FitsInside n step.place child.end) (sym is) opens.within

  begin_weight : weight step.next ≡ 1
  begin_weight = ap weight opens.next

  begin_falls : (e : Event) (old new : ℕ) → IsBegin child.tag e → new < old → Falls e old new
  begin_falls (event.Begin tag below) old new is less = less
  begin_falls (event.Attr piece) old new is less = absurd is
  begin_falls event.HeadEnd old new is less = absurd is
  begin_falls (event.Text piece) old new is less = absurd is
  begin_falls (event.Finish tag) old new is less = absurd is
  begin_falls event.End old new is less = absurd is

  begin_follows : (e : Event) (stage : Stage)
      → ((tag : ℕ) (below : List ℕ) → MayBegin k.names k.depth stage.tags tag
      → MayFollow k.names k.depth stage (event.Begin tag below))
      → length stage.tags ≡ around → IsBegin child.tag e → MayFollow k.names k.depth stage e
  begin_follows (event.Begin tag below) stage comes deep is =
      let few = opens.few in
      let own = opens.inside.tag in
      comes tag below (inl (omega (arith, own, is)), omega (arith, few, deep))
  begin_follows (event.Attr piece) stage comes deep is = absurd is
  begin_follows event.HeadEnd stage comes deep is = absurd is
  begin_follows (event.Text piece) stage comes deep is = absurd is
  begin_follows (event.Finish tag) stage comes deep is = absurd is
  begin_follows event.End stage comes deep is = absurd is

  begin_stage : (e : Event) (tags now : List ℕ) (phase later : Phase) → later ≡ in_head → now ≡ tags
      → IsBegin child.tag e
      → staged (child.tag ∷ now) later ≡ stage_after (staged tags phase) e
  begin_stage (event.Begin tag below) tags now phase later head same is =
      ap (staged (child.tag ∷ now)) head ∙ ap (λ ts. staged (child.tag ∷ ts) in_head) same
      ∙ ap (λ t. staged (t ∷ tags) in_head) (sym is)
  begin_stage (event.Attr piece) tags now phase later head same is = absurd is
  begin_stage event.HeadEnd tags now phase later head same is = absurd is
  begin_stage (event.Text piece) tags now phase later head same is = absurd is
  begin_stage (event.Finish tag) tags now phase later head same is = absurd is
  begin_stage event.End tags now phase later head same is = absurd is

opened_inside : (k : Numbers) (level : Level) (up : List Level) (from : ℕ) (e : Event) (later : Next) (after : ℕ)
    (parent child : Level) → AreNested k (level ∷ up)
    → OpenMove k (length up + 1) level from
    (record { event = e; next = later; place = after; change = Open parent child }) parent child
    → Led k (at (level ∷ up) Item from) (record { event = e; next = later; place = after; change = Open parent child })
opened_inside k level up from e later after parent child nested opens =
    let step : Step = record { event = e; next = later; place = after; change = Open parent child } in
    let around : ℕ = length up + 1 in
    let own = same_level k (content_end k up) parent level opens.parent_is nested.0 in
    let inner = subst (λ n. IsLevel k n child) (sym opens.parent_is.end) opens.inside in
    let few = opens.few in
    let rises = opens.rises in
    let within = opens.within in
    let ends = opens.inside.within in
    let end = nested_end k (level ∷ up) nested in
    let light = begin_weight k around from level step parent child opens in
    record {
      spot = record {
        nested = (inner, (own, nested.1));
        few_open = omega (arith, few);
        fits =
            begin_fits k around from level step parent child opens later opens.next;
      };
      falls = begin_falls k around from level step parent child opens e _ _ opens.begins
          (omega (arith, rises, within, ends, end, light));
      follows = begin_follows k around from level step parent child opens e (stage_of (at (level ∷ up) Item from))
          (λ tag below may. may)
          (length-map (level ∷ up) (λ (l : Level). l.tag) ∙ omega arith) opens.begins;
      stage = begin_stage k around from level step parent child opens e (level_tags (level ∷ up))
          (level_tags (parent ∷ up)) in_content (phase_of later) (ap phase_of opens.next)
          (ap (λ t. t ∷ level_tags up) opens.parent_is.tag) opens.begins;
    }

opened_root : (k : Numbers) (from : ℕ) (e : Event) (later : Next) (after : ℕ) (parent child : Level)
    → OpenMove k 0 (above_root k) from
    (record { event = e; next = later; place = after; change = Open parent child }) parent child
    → Led k (at [] Root from) (record { event = e; next = later; place = after; change = Open parent child })
opened_root k from e later after parent child opens =
    let step : Step = record { event = e; next = later; place = after; change = Open parent child } in
    let few = opens.few in
    let rises = opens.rises in
    let within = opens.within in
    let ends = opens.inside.within in
    let light = begin_weight k 0 from (above_root k) step parent child opens in
    record {
      spot = record {
        nested = (opens.inside, tt);
        few_open = omega (arith, few);
        fits =
            begin_fits k 0 from (above_root k) step parent child opens later opens.next;
      };
      falls = begin_falls k 0 from (above_root k) step parent child opens e _ _ opens.begins
          (omega (arith, rises, within, ends, light));
      follows = begin_follows k 0 from (above_root k) step parent child opens e first_stage
          (λ tag below may. may) refl opens.begins;
      stage = begin_stage k 0 from (above_root k) step parent child opens e [] [] at_start (phase_of later)
          (ap phase_of opens.next) refl opens.begins;
    }

-- ---- each step

root_led : (k : Numbers) (from : ℕ) (e : Event) (later : Next) (after : ℕ) (change : Change)
    → BeginMove k 0 (above_root k) from (record { event = e; next = later; place = after; change = change }) change
    → Led k (at [] Root from) (record { event = e; next = later; place = after; change = change })
root_led k from e later after Stay move = absurd move
root_led k from e later after (Open parent child) move = opened_root k from e later after parent child move
root_led k from e later after Close move = absurd move

end_led : (k : Numbers) (from : ℕ) (step : Step) → IsSpot k (at [] End from) → step ≡ end_step from
    → Led k (at [] End from) step
end_led k from step spot is =
    subst (Led k (at [] End from)) (sym is) (record { spot = spot; falls = omega arith; follows = tt; stage = refl })

outside_led : (k : Numbers) (next : Next) (from : ℕ) (step : Step) → IsSpot k (at [] next from)
    → MoveOutside k from step next → Led k (at [] next from) step
outside_led k Root from step spot move = root_led k from step.event step.next step.place step.change move
outside_led k Count from step spot move = absurd move
outside_led k (Attributes count) from step spot move = absurd move
outside_led k (Attribute left more) from step spot move = absurd move
outside_led k Item from step spot move = absurd move
outside_led k (Text left) from step spot move = absurd move
outside_led k Finish from step spot move = absurd move
outside_led k End from step spot move = end_led k from step spot move

item_led : (k : Numbers) (level : Level) (up : List Level) (from : ℕ) (e : Event) (later : Next) (after : ℕ)
    (change : Change) → AreNested k (level ∷ up) → length (level ∷ up) ≤ k.depth → from ≤ level.end
    → ItemMove k (length up + 1) level from (record { event = e; next = later; place = after; change = change }) change
    → Led k (at (level ∷ up) Item from) (record { event = e; next = later; place = after; change = change })
item_led k level up from e later after Stay nested few within move =
    text_led k level up Item from nested few e later after refl (λ piece fits. fits) move.0 move.1.1 move.1.2
item_led k level up from e later after (Open parent child) nested few within move =
    opened_inside k level up from e later after parent child nested move
item_led k level up from e later after Close nested few within move =
    finish_led k level up Item from nested few _ within refl move

-- A step that keeps the open elements, by what is proved of it where it says so.
stayed : (k : Numbers) (position : Position) (step : Step) → step.change ≡ Stay
    → Led k position (record { event = step.event; next = step.next; place = step.place; change = Stay })
    → Led k position step
stayed k position step is led = subst
    (λ c. Led k position (record { event = step.event; next = step.next; place = step.place; change = c })) (sym is) led

inside_led : (k : Numbers) (level : Level) (up : List Level) (next : Next) (from : ℕ) (step : Step)
    → AreNested k (level ∷ up) → length (level ∷ up) ≤ k.depth → FitsInside next from level.end
    → MoveInside k (length up + 1) level from step next → Led k (at (level ∷ up) next from) step
inside_led k level up Root from step nested few fits move = absurd move
inside_led k level up Count from step nested few fits move =
    stayed k (at (level ∷ up) Count from) step move.1.0
    (head_led k level up Count from nested few step.event step.next step.place refl
    (λ piece so. so) tt move.0 move.1.1 move.1.2)
inside_led k level up (Attributes count) from step nested few fits move =
    stayed k (at (level ∷ up) (Attributes count) from) step move.1.0
    (head_led k level up (Attributes count) from nested few step.event step.next step.place refl
    (λ piece so. so) tt move.0 move.1.1 move.1.2)
inside_led k level up (Attribute left more) from step nested few fits move =
    stayed k (at (level ∷ up) (Attribute left more) from) step move.1.0
    (attribute_led k level up (Attribute left more) from nested few step.event step.next step.place refl
    (λ piece so. so) move.0 move.1.1 move.1.2)
inside_led k level up Item from step nested few fits move =
    item_led k level up from step.event step.next step.place step.change nested few fits move
inside_led k level up (Text left) from step nested few fits move =
    stayed k (at (level ∷ up) (Text left) from) step move.1.0
    (text_led k level up (Text left) from nested few step.event step.next step.place refl
    (λ piece so. so) move.0 move.1.1 move.1.2)
inside_led k level up Finish from step nested few fits move =
    finish_led k level up Finish from nested few step fits refl move
inside_led k level up End from step nested few fits move = absurd move

led_among : (k : Numbers) (levels : List Level) (next : Next) (from : ℕ) (step : Step) → IsSpot k (at levels next from)
    → IsMove k (at levels next from) step → Led k (at levels next from) step
led_among k [] next from step spot move = outside_led k next from step spot move
led_among k (level ∷ up) next from step spot move =
    inside_led k level up next from step spot.nested spot.few_open spot.fits move

led : (k : Numbers) (position : Position) (step : Step) → IsSpot k position → IsMove k position step
    → Led k position step
led k position step spot move = led_among k position.levels position.next position.place step spot move

-- ---- laws of steps

-- A step leads from a spot to a spot.
pub spot-after : (k : Numbers) (position : Position) (step : Step) → IsSpot k position → IsMove k position step
    → IsSpot k (position_after position step)
spot-after k position step spot move = (led k position step spot move).spot

-- After it fewer events are to come.
pub spot-falls : (k : Numbers) (position : Position) (step : Step) → IsSpot k position → IsMove k position step
    → Falls step.event (events_left k position) (events_left k (position_after position step))
spot-falls k position step spot move = (led k position step spot move).falls

-- Its event may come there.
pub spot-follows : (k : Numbers) (position : Position) (step : Step) → IsSpot k position → IsMove k position step
    → MayFollow k.names k.depth (stage_of position) step.event
spot-follows k position step spot move = (led k position step spot move).follows

-- The stage after it is the one after its event.
pub spot-stage : (k : Numbers) (position : Position) (step : Step) → IsSpot k position → IsMove k position step
    → stage_of (position_after position step) ≡ stage_after (stage_of position) step.event
spot-stage k position step spot move = (led k position step spot move).stage

-- ---- laws of passes

passed_spot : (k : Numbers) (levels : List Level) (next : Next) (place : ℕ) → IsSpot k (at levels next place)
    → IsSpot k (passed (at levels next place))
passed_spot k [] next place spot = spot
passed_spot k (level ∷ up) next place spot =
    record { nested = spot.nested; few_open = spot.few_open; fits = omega arith }

-- A pass leads from a spot to a spot.
pub passed-spot : (k : Numbers) (position : Position) → IsSpot k position → IsSpot k (passed position)
passed-spot k position spot = passed_spot k position.levels position.next position.place spot

passed_stage : (levels : List Level) (next : Next) (place : ℕ)
    → stage_of (passed (at levels next place)) ≡ stage_passed (stage_of (at levels next place))
passed_stage [] next place = refl
passed_stage (level ∷ up) next place = refl

-- The stage after it is the one after a pass.
pub passed-stage : (position : Position) → stage_of (passed position) ≡ stage_passed (stage_of position)
passed-stage position = passed_stage position.levels position.next position.place

passed_left : (k : Numbers) (levels : List Level) (next : Next) (place : ℕ) → IsSpot k (at levels next place)
    → events_left k (passed (at levels next place)) ≤ events_left k (at levels next place)
passed_left k [] next place spot = omega arith
passed_left k (level ∷ up) next place spot =
    let here = fits_end next place level.end spot.fits in
    omega (arith, here)

-- No more events are to come after it than before.
pub passed-left : (k : Numbers) (position : Position) → IsSpot k position
    → events_left k (passed position) ≤ events_left k position
passed-left k position spot = passed_left k position.levels position.next position.place spot

no_cons : (n : ℕ) (ns : List ℕ) → n ∷ ns ≡ [] → ⊥
no_cons n ns h = cc

passed_none : (levels : List Level) (next : Next) (place : ℕ) → level_tags levels ≡ []
    → passed (at levels next place) ≡ at levels next place
passed_none [] next place none = refl
passed_none (level ∷ up) next place none = absurd (no_cons level.tag (level_tags up) none)

-- Where no element is open, it changes nothing.
pub passed-none : (position : Position) → (stage_of position).tags ≡ [] → passed position ≡ position
passed-none position none = passed_none position.levels position.next position.place none

-- ---- the first position

-- The position before the first event is a spot.
pub first-spot : (k : Numbers) → IsSpot k (first_position k)
first-spot k = record { nested = tt; few_open = omega arith; fits = omega arith }

-- It is at the first stage.
pub first-stage : (k : Numbers) → stage_of (first_position k) ≡ first_stage
first-stage k = refl

-- ---- bounds

-- No more elements are open at a spot than the header allows.
pub spot-few_open : (k : Numbers) (position : Position) → IsSpot k position → length (stage_of position).tags ≤ k.depth
spot-few_open k position spot =
    let same = length-map position.levels (λ (level : Level). level.tag) in
    let few = spot.few_open in
    omega (arith, same, few)

light : (next : Next) → weight next ≤ 1
light Root = omega arith
light Count = omega arith
light (Attributes count) = omega arith
light (Attribute left more) = omega arith
light Item = omega arith
light (Text left) = omega arith
light Finish = omega arith
light End = omega arith

-- The number of events to come is bounded by the numbers of the header.
pub spot-few_left : (k : Numbers) (position : Position) → IsSpot k position
    → events_left k position ≤ 4 * tree_end k + 2 * k.depth + 1
spot-few_left k position spot =
    let few = spot.few_open in
    let one = light position.next in
    omega (arith, few, one)

place_within : (k : Numbers) (levels : List Level) (next : Next) (place : ℕ) → IsSpot k (at levels next place)
    → place ≤ tree_end k
place_within k [] Root place spot = spot.fits
place_within k [] Count place spot = absurd spot.fits
place_within k [] (Attributes count) place spot = absurd spot.fits
place_within k [] (Attribute left more) place spot = absurd spot.fits
place_within k [] Item place spot = absurd spot.fits
place_within k [] (Text left) place spot = absurd spot.fits
place_within k [] Finish place spot = absurd spot.fits
place_within k [] End place spot = spot.fits
place_within k (level ∷ up) next place spot =
    let end = nested_end k (level ∷ up) spot.nested in
    let here = fits_end next place level.end spot.fits in
    omega (arith, end, here)

-- A spot is within the tree section or at its end.
pub spot-within : (k : Numbers) (position : Position) → IsSpot k position → position.place ≤ tree_end k
spot-within k position spot = place_within k position.levels position.next position.place spot
