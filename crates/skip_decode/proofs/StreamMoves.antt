-- A step along a stream is a move: it is one of those that may be made at its position whatever the bytes are.
use Rattle.std.proofs.Common.{◌≡◌, ℕ, zero, suc, ◌+◌, ◌-◌, ◌<◌, ◌≤◌, Bool, true, false, cond, ◌&&◌, nat_eq, nat_le, nat_lt, Some, None, List, [], ◌∷◌, length, drop, min, refl, sym, subst, arith, w16, w32, All}
use Rattle.std.specs.Cmp.{first_so, second_so}
use Rattle.std.specs.Cmp.Lexicographic.{pointwise}
use Rattle.std.specs.Int.{from_be_bytes}
use Rattle.std.specs.Option.{option_and_then}
use Rattle.std.proofs.lemmas.Bool.Decides.{nat_tests}
use Rattle.std.proofs.lemmas.Option.{same_Some, none-some}
use Rattle.acl_model.specs.Lines.{is_within_line}
use Rattle.acl_walk.specs.Nesting.{Phase}
use Rattle.acl_walk.specs.declared.event.Event.{Event}
use Rattle.acl_walk.specs.declared.event.Event.TheVariants as event
use Rattle.skip_decode.specs.declared.head.Head.{Head}
use Rattle.skip_decode.specs.declared.position.Level.{Level}
use Rattle.skip_decode.specs.declared.position.Next.{Next}
use Rattle.skip_decode.specs.declared.position.Next.TheVariants.{Root, Count, Attributes, Attribute, Item, Text, Finish, End}
use Rattle.skip_decode.specs.Positions.{Numbers, Position, above_root}
use Rattle.skip_decode.specs.Spots.{IsSpot, phase_of}
use Rattle.skip_decode.specs.StreamHeads.{take_within, head_at}
use Rattle.skip_decode.specs.StreamSteps.{Step, Change, Stay, Open, Close, fragment_left, piece_at, length_at, text_step, text_begun, attribute_step, attributes_step, count_step, saved_bytes, may_begin, begun_with, element_begun, finish_step, checked_finish, item_by, item_step, is_only, root_step, end_step, step_at}
use Rattle.skip_decode.specs.inside.Moves.{IsAttribute, IsInHead, AttributeMove, HeadMove, TextMove, BeginMove, ItemMove, IsMove}
use Rattle.skip_decode.proofs.PieceRuns.{at}
use Rattle.skip_decode.proofs.StepKinds.{and_then_some, cond_some}
use Rattle.skip_decode.proofs.SpotHeads.{within_so, few_digits, head_fits, range_so}

le_so : (a b : ℕ) → nat_le a b ≡ true → a ≤ b
le_so a b so = grind (arith, nat_tests, so)

le_not : (a b : ℕ) → nat_le a b ≡ false → b < a
le_not a b so = grind (arith, nat_tests, so)

lt_so : (a b : ℕ) → nat_lt a b ≡ true → a < b
lt_so a b so = grind (arith, nat_tests, so)

-- A length is read within the content, and the content has so many bytes after it.
length_so : (stream : List ℕ) (place end left : ℕ) → length_at stream place end ≡ Some left → place + 4 + left ≤ end
unfolding length_at
length_so stream place end left is =
    let four = and_then_some
    (λ (b : List ℕ). cond (nat_le (from_be_bytes w32 b) (end - place - 4)) (Some (from_be_bytes w32 b)) None)
    (take_within (end - place) 4 (drop place stream)) left is in
    let some = within_so (end - place) 4 (drop place stream) four.0 four.1 in
    let found =
    cond_some (nat_le (from_be_bytes w32 four.0) (end - place - 4)) (from_be_bytes w32 four.0) left four.2 in
    let less = le_so (from_be_bytes w32 four.0) (end - place - 4) found.0 in
    let same = found.1 in
    omega (arith, some, less, same)

-- A fragment has at least a byte left.
fragment_some : (place : ℕ) → 1 ≤ fragment_left place
fragment_some place = omega arith

-- ---- texts and attributes

text_by : (last : Bool) (m from place left end : ℕ) (piece : List ℕ) → nat_le left (fragment_left place) ≡ last
    → m ≡ min left (fragment_left place)
    → from ≤ place → from < place + left → place + left ≤ end → is_within_line piece ≡ true
    → TextMove end from
    (record {
      event = event.Text (record { bytes = record { items = piece }; last = last });
      next =
          cond last Item (Text (left - fragment_left place));
      place = place + m;
      change = Stay;
    })
text_by true m from place left end piece short size later some within clean =
    let less = le_so left (fragment_left place) short in
    let all : m ≡ left = omega (arith, less, size) in
    ((clean, refl), (refl, omega (arith, within, all), omega (arith, some, all)))
text_by false m from place left end piece long size later some within clean =
    let less = le_not left (fragment_left place) long in
    let all : m ≡ fragment_left place = omega (arith, less, size) in
    let one = fragment_some place in
    ((clean, refl), (refl, (omega (arith, less), omega (arith, within, all, less)), omega (arith, later, all, one)))

text_move : (stream : List ℕ) (from place left end : ℕ) (step : Step) → from ≤ place → from < place + left
    → place + left ≤ end → text_step stream place left ≡ Some step → TextMove end from step
unfolding text_step
text_move stream from place left end step later some within is =
    let made = cond_some (is_within_line (piece_at stream place left).bytes.items) _ step is in
    subst (TextMove end from) made.1
    (text_by (nat_le left (fragment_left place)) (min left (fragment_left place)) from place left end
    (piece_at stream place left).bytes.items refl refl later some within made.0)

text_begun_move : (stream : List ℕ) (from end : ℕ) (step : Step) → text_begun stream from end ≡ Some step
    → TextMove end from step
unfolding text_begun
text_begun_move stream from end step is =
    let parts = and_then_some (text_step stream (from + 4)) (length_at stream from end) step is in
    text_move stream from (from + 4) parts.0 end step (omega arith) (omega arith)
    (length_so stream from end parts.0 parts.1) parts.2

attribute_by : (last : Bool) (m more from place left end : ℕ) (piece : List ℕ)
    → nat_le left (fragment_left place) ≡ last → m ≡ min left (fragment_left place)
    → from ≤ place → from < place + left → place + left ≤ end → is_within_line piece ≡ true
    → AttributeMove end from
    (record {
      event = event.Attr (record { bytes = record { items = piece }; last = last });
      next = cond last
          (Attributes more) (Attribute (left - fragment_left place) more);
      place = place + m;
      change = Stay;
    })
attribute_by true m more from place left end piece short size later some within clean =
    let less = le_so left (fragment_left place) short in
    let all : m ≡ left = omega (arith, less, size) in
    ((clean, refl), (refl, omega (arith, within, all), omega (arith, some, all)))
attribute_by false m more from place left end piece long size later some within clean =
    let less = le_not left (fragment_left place) long in
    let all : m ≡ fragment_left place = omega (arith, less, size) in
    let one = fragment_some place in
    ((clean, refl), (refl, (omega (arith, less), omega (arith, within, all, less)), omega (arith, later, all, one)))

attribute_move : (stream : List ℕ) (more from place left end : ℕ) (step : Step) → from ≤ place → from < place + left
    → place + left ≤ end
    → attribute_step stream more place left ≡ Some step → AttributeMove end from step
unfolding attribute_step
attribute_move stream more from place left end step later some within is =
    let made = cond_some (is_within_line (piece_at stream place left).bytes.items) _ step is in
    subst (AttributeMove end from) made.1
    (attribute_by (nat_le left (fragment_left place)) (min left (fragment_left place)) more from place left end
    (piece_at stream place left).bytes.items refl refl later some within made.0)

-- A piece of an attribute is in the head.
in_head_so : (phase : Phase) (e : Event) → IsAttribute phase e → IsInHead phase e
in_head_so phase (event.Begin tag below) is = absurd is
in_head_so phase (event.Attr piece) is = is
in_head_so phase event.HeadEnd is = absurd is
in_head_so phase (event.Text piece) is = absurd is
in_head_so phase (event.Finish tag) is = absurd is
in_head_so phase event.End is = absurd is

attributes_move : (stream : List ℕ) (from place end count : ℕ) (step : Step) → from ≤ place → place ≤ end
    → attributes_step stream place end count ≡ Some step → HeadMove end from step
unfolding attributes_step
attributes_move stream from place end zero step later within is =
    subst (HeadMove end from) (same_Some _ step is) (refl, (refl, within, omega (arith, later)))
attributes_move stream from place end (suc more) step later within is =
    let parts = and_then_some (attribute_step stream more (place + 4)) (length_at stream place end) step is in
    let move = attribute_move stream more from (place + 4) parts.0 end step (omega (arith, later))
    (omega (arith, later)) (length_so stream place end parts.0 parts.1) parts.2 in
    (in_head_so (phase_of step.next) step.event move.0, move.1)

count_move : (stream : List ℕ) (from end : ℕ) (step : Step) → count_step stream from end ≡ Some step
    → HeadMove end from step
unfolding count_step
count_move stream from end step is =
    let parts = and_then_some (λ (two : List ℕ). attributes_step stream (from + 2) end (from_be_bytes w16 two))
    (take_within (end - from) 2 (drop from stream)) step is in
    let some = within_so (end - from) 2 (drop from stream) parts.0 parts.1 in
    attributes_move stream from (from + 2) end (from_be_bytes w16 parts.0) step (omega arith)
    (omega (arith, some)) parts.2

-- ---- elements

begin_move : (k : Numbers) (stream : List ℕ) (around : ℕ) (level : Level) (from : ℕ) (step : Step)
    → All (λ n. n < k.names) level.below
    → element_begun k.depth stream around level from ≡ Some step → BeginMove k around level from step step.change
unfolding element_begun begun_with
begin_move k stream around level from step members is =
    let parts = and_then_some (begun_with k.depth around level from)
    (head_at level.below level.width (level.end - from) (drop from stream)) step is in
    let head : Head = parts.0 in
    let fit = head_fits (λ n. n < k.names) level.below level.width (level.end - from)
    (drop from stream) head members parts.1 in
    let made = cond_some (may_begin k.depth around level from head) _ step parts.2 in
    let ends = nat_le (head.bytes + head.long) (level.end - from) in
    let saves = nat_le (saved_bytes level head) level.spare in
    let deep = lt_so around k.depth (first_so (nat_lt around k.depth) (ends && saves) made.0) in
    let long = le_so (head.bytes + head.long) (level.end - from)
    (first_so ends saves (second_so (nat_lt around k.depth) (ends && saves) made.0)) in
    let some = fit.some in
    subst (λ (s : Step). BeginMove k around level from s s.change) made.1
    (record {
      begins = refl;
      next = refl;
      parent_is = record { below = refl; end = refl; width = refl; tag = refl };
      inside = record {
        within = omega (arith, long, some);
        narrow = few_digits head.long;
        tag = fit.tag;
        below =
            fit.below;
      };
      rises = omega (arith, some);
      within = omega arith;
      few = deep;
    })

-- The start of an element may be an item.
item_so : (k : Numbers) (around : ℕ) (level : Level) (from : ℕ) (step : Step) (change : Change)
    → BeginMove k around level from step change → ItemMove k around level from step change
item_so k around level from step Stay move = absurd move
item_so k around level from step (Open parent child) move = move
item_so k around level from step Close move = absurd move

text_item : (k : Numbers) (around : ℕ) (level : Level) (from : ℕ) (step : Step) → TextMove level.end from step
    → ItemMove k around level from step step.change
text_item k around level from step move = subst (ItemMove k around level from step) (sym move.1.0) move

item_by_move : (k : Numbers) (stream : List ℕ) (around : ℕ) (level : Level) (from : ℕ) (bytes : List ℕ) (step : Step)
    → All (λ n. n < k.names) level.below
    → item_by k.depth stream around level from bytes ≡ Some step → ItemMove k around level from step step.change
item_by_move k stream around level from [] step members is = absurd (none-some step is)
item_by_move k stream around level from (byte ∷ bytes) step members is = by_test (nat_le 128 byte) is
  where
    by_test : (b : Bool)
        → cond b (element_begun k.depth stream around level from) (text_begun stream from level.end) ≡ Some step
        → ItemMove k around level from step step.change
    by_test true found =
        item_so k around level from step step.change (begin_move k stream around level from step members found)
    by_test false found = text_item k around level from step (text_begun_move stream from level.end step found)

item_move : (k : Numbers) (stream : List ℕ) (around : ℕ) (level : Level) (from : ℕ) (step : Step)
    → All (λ n. n < k.names) level.below
    → item_step k.depth stream around level from ≡ Some step → ItemMove k around level from step step.change
unfolding item_step checked_finish
item_move k stream around level from step members is = by_test (nat_eq from level.end) is
  where
    by_test : (b : Bool)
        → cond b (checked_finish level from)
        (option_and_then (item_by k.depth stream around level from)
        (take_within (level.end - from) 1 (drop from stream))) ≡ Some step
        → ItemMove k around level from step step.change
    by_test true found =
        let made = cond_some (pointwise nat_eq level.met level.below) (finish_step level from) step found in
        subst (λ (s : Step). ItemMove k around level from s s.change) made.1 refl
    by_test false found =
        let parts = and_then_some (item_by k.depth stream around level from)
        (take_within (level.end - from) 1 (drop from stream)) step found in
        item_by_move k stream around level from parts.0 step members parts.2

-- ---- the whole tree

root_move : (k : Numbers) (stream : List ℕ) (from : ℕ) (step : Step) → root_step k stream from ≡ Some step
    → BeginMove k 0 (above_root k) from step step.change
unfolding root_step
root_move k stream from step is =
    let parts = and_then_some (λ (s : Step). cond (is_only s.change) (Some s) None)
    (element_begun k.depth stream 0 (above_root k) from) step is in
    let made = cond_some (is_only parts.0.change) parts.0 step parts.2 in
    subst (λ (s : Step). BeginMove k 0 (above_root k) from s s.change) made.1
    (begin_move k stream 0 (above_root k) from parts.0 (range_so k.names) parts.1)

move_among : (k : Numbers) (stream : List ℕ) (levels : List Level) (next : Next) (place : ℕ) (step : Step)
    → IsSpot k (at levels next place)
    → step_at k stream (at levels next place) ≡ Some step → IsMove k (at levels next place) step
unfolding step_at
move_among k stream [] Root place step spot is = root_move k stream place step is
move_among k stream [] Count place step spot is = absurd (none-some step is)
move_among k stream [] (Attributes count) place step spot is = absurd (none-some step is)
move_among k stream [] (Attribute left more) place step spot is = absurd (none-some step is)
move_among k stream [] Item place step spot is = absurd (none-some step is)
move_among k stream [] (Text left) place step spot is = absurd (none-some step is)
move_among k stream [] Finish place step spot is = absurd (none-some step is)
move_among k stream [] End place step spot is = sym (same_Some (end_step place) step is)
move_among k stream (level ∷ up) Root place step spot is = absurd (none-some step is)
move_among k stream (level ∷ up) Count place step spot is = count_move stream place level.end step is
move_among k stream (level ∷ up) (Attributes count) place step spot is =
    attributes_move stream place place level.end count step (omega arith) spot.fits is
move_among k stream (level ∷ up) (Attribute left more) place step spot is =
    let some = spot.fits.0 in
    attribute_move stream more place place left level.end step (omega arith) (omega (arith, some)) spot.fits.1 is
move_among k stream (level ∷ up) Item place step spot is =
    item_move k stream (length up + 1) level place step spot.nested.0.below is
move_among k stream (level ∷ up) (Text left) place step spot is =
    let some = spot.fits.0 in
    text_move stream place place left level.end step (omega arith) (omega (arith, some)) spot.fits.1 is
move_among k stream (level ∷ up) Finish place step spot is = sym (same_Some (finish_step level place) step is)
move_among k stream (level ∷ up) End place step spot is = absurd (none-some step is)

-- The step at a spot is a move.
pub step-moves : (k : Numbers) (stream : List ℕ) (position : Position) (step : Step) → IsSpot k position
    → step_at k stream position ≡ Some step → IsMove k position step
step-moves k stream position step spot is =
    move_among k stream position.levels position.next position.place step spot is
