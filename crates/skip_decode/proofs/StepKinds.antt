-- What a step does to the open elements: it keeps them, opens a child, or closes the innermost one at its end.
use Rattle.std.proofs.Common.{◌≡◌, ℕ, zero, suc, ◌+◌, ◌-◌, Bool, true, false, cond, nat_eq, nat_le, Option, Some, None, List, [], ◌∷◌, length, drop, refl, sym, subst, arith, w16}
use Rattle.std.specs.Cmp.Lexicographic.{pointwise}
use Rattle.std.specs.Int.{from_be_bytes}
use Rattle.std.specs.Option.{option_and_then}
use Rattle.std.proofs.lemmas.Bool.{true≢false}
use Rattle.std.proofs.lemmas.Bool.Decides.{nat_tests}
use Rattle.std.proofs.lemmas.Option.{same_Some, none-some}
use Rattle.acl_model.specs.Lines.{is_within_line}
use Rattle.acl_walk.specs.declared.event.Event.{Event}
use Rattle.acl_walk.specs.declared.event.Event.TheVariants as event
use Rattle.skip_decode.specs.declared.head.Head.{Head}
use Rattle.skip_decode.specs.declared.position.Level.{Level}
use Rattle.skip_decode.specs.declared.position.Next.{Next}
use Rattle.skip_decode.specs.declared.position.Next.TheVariants.{Root, Count, Attributes, Attribute, Item, Text, Finish, End}
use Rattle.skip_decode.specs.Positions.{Numbers}
use Rattle.skip_decode.specs.StreamHeads.{take_within, head_at}
use Rattle.skip_decode.specs.StreamSteps.{Step, Stay, Open, fragment_left, piece_at, length_at, text_step, text_begun, attribute_step, attributes_step, count_step, may_begin, parent_with, level_of, begun_with, element_begun, finish_step, checked_finish, item_by, item_step, step_at}
use Rattle.skip_decode.proofs.PieceRuns.{at}

-- ---- options

-- Where a chain gives a value, so does its first part, and the second gives it from that.
pub and_then_some : {A B : Type 0} (f : A → Option B) (o : Option A) (y : B) → option_and_then f o ≡ Some y → (x : A) × (o ≡ Some x) × (f x ≡ Some y)
and_then_some f None y is = absurd (none-some y is)
and_then_some f (Some x) y is = (x, refl, is)

-- Where a test chooses between a value and none, and there is one, the test passes.
pub cond_some : {A : Type 0} (b : Bool) (x y : A) → cond b (Some x) None ≡ Some y → (b ≡ true) × (x ≡ y)
cond_some true x y is = (refl, same_Some x y is)
cond_some false x y is = absurd (none-some y is)

-- ---- kinds of steps

-- What comes next was reached by reading, not by a pass.
abbrev pub IsRead : Next → Type 0
IsRead Root = Unit {0}
IsRead Count = Unit {0}
IsRead (Attributes count) = Unit {0}
IsRead (Attribute left more) = Unit {0}
IsRead Item = Unit {0}
IsRead (Text left) = Unit {0}
IsRead Finish = ⊥
IsRead End = Unit {0}

-- The event neither begins nor ends an element, nor is it End.
abbrev pub IsInner : Event → Type 0
IsInner (event.Begin tag below) = ⊥
IsInner (event.Attr piece) = Unit {0}
IsInner event.HeadEnd = Unit {0}
IsInner (event.Text piece) = Unit {0}
IsInner (event.Finish tag) = ⊥
IsInner event.End = ⊥

-- A step inside an element keeps the open elements; or it opens a child, and the parent's end and tag stay; or it closes
-- the element, at its end where it was read.
pub data Kind : Level → Next → ℕ → Step → Type 0 where
  keeps : (level : Level) (next : Next) (place : ℕ) (e : Event) (later : Next) (after : ℕ) → IsInner e → IsRead later
      → Kind level next place (record { event = e; next = later; place = after; change = Stay })
  opens : (level : Level) (next : Next) (place tag : ℕ) (below : List ℕ) (after : ℕ) (parent child : Level) → parent.end ≡ level.end → parent.tag ≡ level.tag
      → Kind level next place (record { event = event.Begin tag below; next = Count; place = after; change = Open parent child })
  closes : (level : Level) (place : ℕ) → place ≡ level.end → Kind level Item place (finish_step level place)

-- ---- each step inside an element has a kind

text_kind : (level : Level) (next : Next) (from : ℕ) (stream : List ℕ) (place left : ℕ) (step : Step) → text_step stream place left ≡ Some step → Kind level next from step
unfolding text_step
text_kind level next from stream place left step is =
    let made = cond_some (is_within_line (piece_at stream place left).bytes.items) _ step is in
    subst (Kind level next from) made.1 (keeps level next from _ _ _ tt (later (nat_le left (fragment_left place)) (left - fragment_left place)))
  where
    later : (b : Bool) (n : ℕ) → IsRead (cond b Item (Text n))
    later true n = tt
    later false n = tt

attribute_kind : (level : Level) (next : Next) (from : ℕ) (stream : List ℕ) (more place left : ℕ) (step : Step) → attribute_step stream more place left ≡ Some step → Kind level next from step
unfolding attribute_step
attribute_kind level next from stream more place left step is =
    let made = cond_some (is_within_line (piece_at stream place left).bytes.items) _ step is in
    subst (Kind level next from) made.1 (keeps level next from _ _ _ tt (later (nat_le left (fragment_left place)) (left - fragment_left place)))
  where
    later : (b : Bool) (n : ℕ) → IsRead (cond b (Attributes more) (Attribute n more))
    later true n = tt
    later false n = tt

attributes_kind : (level : Level) (next : Next) (from : ℕ) (stream : List ℕ) (place end count : ℕ) (step : Step) → attributes_step stream place end count ≡ Some step → Kind level next from step
unfolding attributes_step
attributes_kind level next from stream place end zero step is = subst (Kind level next from) (same_Some _ step is) (keeps level next from event.HeadEnd Item place tt tt)
attributes_kind level next from stream place end (suc more) step is =
    let parts = and_then_some (attribute_step stream more (place + 4)) (length_at stream place end) step is in
    attribute_kind level next from stream more (place + 4) parts.0 step parts.2

count_kind : (level : Level) (next : Next) (from : ℕ) (stream : List ℕ) (place end : ℕ) (step : Step) → count_step stream place end ≡ Some step → Kind level next from step
unfolding count_step
count_kind level next from stream place end step is =
    let parts = and_then_some (λ two. attributes_step stream (place + 2) end (from_be_bytes w16 two)) (take_within (end - place) 2 (drop place stream)) step is in
    attributes_kind level next from stream (place + 2) end (from_be_bytes w16 parts.0) step parts.2

pub element_kind : (level : Level) (next : Next) (from depth : ℕ) (stream : List ℕ) (around place : ℕ) (step : Step) → element_begun depth stream around level place ≡ Some step → Kind level next from step
unfolding element_begun begun_with
element_kind level next from depth stream around place step is =
    let parts = and_then_some (begun_with depth around level place) (head_at level.below level.width (level.end - place) (drop place stream)) step is in
    let head : Head = parts.0 in
    let made = cond_some (may_begin depth around level place head) _ step parts.2 in
    subst (Kind level next from) made.1 (opens level next from head.tag head.below (place + head.bytes) (parent_with level head) (level_of place head) refl refl)

item_by_kind : (level : Level) (from depth : ℕ) (stream : List ℕ) (around place : ℕ) (bytes : List ℕ) (step : Step) → item_by depth stream around level place bytes ≡ Some step → Kind level Item from step
unfolding text_begun
item_by_kind level from depth stream around place [] step is = absurd (none-some step is)
item_by_kind level from depth stream around place (byte ∷ bytes) step is = by_test (nat_le 128 byte) is
  where
    by_test : (b : Bool) → cond b (element_begun depth stream around level place) (text_begun stream place level.end) ≡ Some step → Kind level Item from step
    by_test true found = element_kind level Item from depth stream around place step found
    by_test false found =
        let parts = and_then_some (text_step stream (place + 4)) (length_at stream place level.end) step found in
        text_kind level Item from stream (place + 4) parts.0 step parts.2

item_kind : (level : Level) (depth : ℕ) (stream : List ℕ) (around place : ℕ) (step : Step) → item_step depth stream around level place ≡ Some step → Kind level Item place step
unfolding item_step checked_finish
item_kind level depth stream around place step is = by_test (nat_eq place level.end) refl is
  where
    by_test : (b : Bool) → nat_eq place level.end ≡ b
        → cond b (checked_finish level place) (option_and_then (item_by depth stream around level place) (take_within (level.end - place) 1 (drop place stream))) ≡ Some step → Kind level Item place step
    by_test true end found =
        let made = cond_some (pointwise nat_eq level.met level.below) (finish_step level place) step found in
        subst (Kind level Item place) made.1 (closes level place (grind (arith, nat_tests)))
    by_test false end found =
        let parts = and_then_some (item_by depth stream around level place) (take_within (level.end - place) 1 (drop place stream)) step found in
        item_by_kind level place depth stream around place parts.0 step parts.2

-- Each step inside an element that isn't at a passed end has a kind.
pub step_kind : (k : Numbers) (stream : List ℕ) (level : Level) (up : List Level) (next : Next) (place : ℕ) (step : Step) → IsRead next → step_at k stream (at (level ∷ up) next place) ≡ Some step → Kind level next place step
unfolding step_at
step_kind k stream level up Root place step read is = absurd (none-some step is)
step_kind k stream level up Count place step read is = count_kind level Count place stream place level.end step is
step_kind k stream level up (Attributes count) place step read is = attributes_kind level (Attributes count) place stream place level.end count step is
step_kind k stream level up (Attribute left more) place step read is = attribute_kind level (Attribute left more) place stream more place left step is
step_kind k stream level up Item place step read is = item_kind level k.depth stream (length up + 1) place step is
step_kind k stream level up (Text left) place step read is = text_kind level (Text left) place stream place left step is
step_kind k stream level up Finish place step read is = absurd read
step_kind k stream level up End place step read is = absurd (none-some step is)

-- At its end an element only closes.
pub end_kind : (k : Numbers) (stream : List ℕ) (level : Level) (up : List Level) (step : Step) → step_at k stream (at (level ∷ up) Item level.end) ≡ Some step → step ≡ finish_step level level.end
unfolding step_at item_step checked_finish
end_kind k stream level up step is = by_test (nat_eq level.end level.end) (grind (arith, nat_tests)) is
  where
    by_test : (b : Bool) → b ≡ true
        → cond b (checked_finish level level.end) (option_and_then (item_by k.depth stream (length up + 1) level level.end) (take_within (level.end - level.end) 1 (drop level.end stream))) ≡ Some step
        → step ≡ finish_step level level.end
    by_test true at_end found = sym (cond_some (pointwise nat_eq level.met level.below) (finish_step level level.end) step found).1
    by_test false elsewhere found = absurd (true≢false (sym elsewhere))
