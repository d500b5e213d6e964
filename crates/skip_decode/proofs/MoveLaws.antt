-- What the steps of the definitions do, whatever bytes are read.
use Rattle.std.proofs.Common.{◌≡◌, ℕ, ◌+◌, ◌-◌, ◌<◌, ◌≤◌, Bool, true, false, cond, nat_le, nat_eq, Option, Some, None, List, refl, ap, sym, ◌∙◌, subst, arith}
use Rattle.std.specs.Prelude.{IfOk, IfSome, OnErr, Result, Ok, Err}
use Rattle.std.specs.Cmp.Lexicographic.{pointwise}
use Rattle.std.proofs.lemmas.Bool.Decides.{nat_tests}
use Rattle.acl_bits.specs.declared.piece.Piece.{Piece}
use Rattle.acl_walk.specs.Nesting.{FitsLine, phase_after_attr, phase_after_text}
use Rattle.acl_walk.specs.declared.event.Event.{Event}
use Rattle.acl_walk.specs.declared.event.Event.TheVariants as event
use Rattle.skip_decode.specs.declared.head.Head.{Head}
use Rattle.skip_decode.specs.declared.position.Level.{Level}
use Rattle.skip_decode.specs.declared.position.Next.TheVariants.{Item, Text, Attribute, Attributes}
use Rattle.skip_decode.specs.Positions.{Numbers, above_root}
use Rattle.skip_decode.specs.Spots.{phase_of}
use Rattle.skip_decode.specs.StreamSteps.{Step, Change, Stay, Open, Close, fragment_left, after_piece, next_in_text, next_in_attribute, may_begin, parent_with, level_of, begun_with, finish_step, checked_finish}
use Rattle.skip_decode.specs.inside.Moves.{IsAttribute, IsInHead, AttributeMove, HeadMove, TextMove, AttributeMoves, TextMoves, IsHeadIn, BeginMove, ItemMove, BeginMoves, ItemMoves}
use Rattle.skip_decode.proofs.StepKinds.{cond_some}
use Rattle.skip_decode.proofs.SpotHeads.{few_digits, range_so, whole_fits}
use Rattle.skip_decode.specs.StreamHeads.{whole_head}

-- what is true of a value, if there is one, is true with what follows from it
pub some-so : {A : Type 0} {P Q : A → Type 0} (o : Option A) → ((x : A) → P x → Q x) → IfSome o P → IfSome o Q
some-so None so held = tt
some-so (Some x) so held = so x held

-- what is true of a value is true with what follows from two facts of it
pub both-so : {A : Type 0} {P R Q : A → Type 0} (o : Option A) → ((x : A) → P x → R x → Q x) → IfSome o P → IfSome o R → IfSome o Q
both-so None so one two = tt
both-so (Some x) so one two = so x one two

-- the same of a result
pub ok-so : {A E : Type 0} {P Q : A → Type 0} (r : Result A E) → ((x : A) → P x → Q x) → IfOk r P → IfOk r Q
ok-so (Ok x) so held = so x held
ok-so (Err e) so held = tt

-- what is true is true after a refusal
pub err-any : {A E P : Type 0} (r : Result A E) → P → OnErr r P
err-any (Ok x) held = tt
err-any (Err e) held = held

-- what is true after a refusal is true with what follows from it
pub err-so : {A E P Q : Type 0} (r : Result A E) → (P → Q) → OnErr r P → OnErr r Q
err-so (Ok x) so held = tt
err-so (Err e) so held = so held

-- ---- pieces

-- a step with a text's piece
abbrev pub text_with : Piece → ℕ → ℕ → Step
text_with piece place left = record { event = event.Text piece; next = next_in_text place left; place = after_piece place left; change = Stay }

-- a piece of a text
pub text-moves : (piece : Piece) (place left : ℕ) → FitsLine piece → piece.last ≡ nat_le left (fragment_left place) → TextMoves place left (text_with piece place left)
text-moves piece place left line last end from within before rises = by (nat_le left (fragment_left place)) refl
  where
    by : (b : Bool) → nat_le left (fragment_left place) ≡ b → TextMove end from (record { event = event.Text piece; next = cond b Item (Text (left - fragment_left place)); place = after_piece place left; change = Stay })
    by true so =
        let small : left ≤ fragment_left place = grind (arith, nat_tests, so) in
        ((line, ap phase_after_text (sym (last ∙ so))), (refl, omega (arith, within, small), omega (arith, before, rises, small)))
    by false so =
        let large : fragment_left place < left = grind (arith, nat_tests, so) in
        ((line, ap phase_after_text (sym (last ∙ so))), (refl, (omega (arith, large), omega (arith, within, large)), omega (arith, before, large)))

-- a step with an attribute's piece
abbrev pub attribute_with : Piece → ℕ → ℕ → ℕ → Step
attribute_with piece more place left = record { event = event.Attr piece; next = next_in_attribute more place left; place = after_piece place left; change = Stay }

-- a piece of an attribute
pub attribute-moves : (piece : Piece) (more place left : ℕ) → FitsLine piece → piece.last ≡ nat_le left (fragment_left place)
    → AttributeMoves place left (attribute_with piece more place left)
attribute-moves piece more place left line last end from within before rises = by (nat_le left (fragment_left place)) refl
  where
    by : (b : Bool) → nat_le left (fragment_left place) ≡ b
        → AttributeMove end from (record { event = event.Attr piece; next = cond b (Attributes more) (Attribute (left - fragment_left place) more); place = after_piece place left; change = Stay })
    by true so =
        let small : left ≤ fragment_left place = grind (arith, nat_tests, so) in
        ((line, ap phase_after_attr (sym (last ∙ so))), (refl, omega (arith, within, small), omega (arith, before, rises, small)))
    by false so =
        let large : fragment_left place < left = grind (arith, nat_tests, so) in
        ((line, ap phase_after_attr (sym (last ∙ so))), (refl, (omega (arith, large), omega (arith, within, large)), omega (arith, before, large)))

-- ---- in a head

-- a piece of an attribute comes in a head
pub attribute-head : (end from : ℕ) (step : Step) → AttributeMove end from step → HeadMove end from step
attribute-head end from step is = (by step.event is.0, is.1)
  where
    by : (e : Event) → IsAttribute (phase_of step.next) e → IsInHead (phase_of step.next) e
    by (event.Begin tag below) so = absurd so
    by (event.Attr piece) so = so
    by event.HeadEnd so = absurd so
    by (event.Text piece) so = absurd so
    by (event.Finish tag) so = absurd so
    by event.End so = absurd so

-- what is a move in a head from a byte offset is one from each earlier one
pub head-earlier : (end from before : ℕ) (step : Step) → before ≤ from → HeadMove end from step → HeadMove end before step
head-earlier end from before step le is = (is.0, (is.1.0, is.1.1, omega (arith, le, is.1.2)))

-- ---- elements

-- a head that was read is one in a parent with these members
pub head-in : (members : List ℕ) (w : ℕ) (bytes : List ℕ) (o : Option Head) → o ≡ whole_head members w bytes → IfSome o (IsHeadIn members)
head-in members w bytes None is = tt
head-in members w bytes (Some head) is = record {
  tag = λ names all. (whole_fits (λ n. n < names) members w bytes head all (sym is)).tag;
  below = λ names all. (whole_fits (λ n. n < names) members w bytes head all (sym is)).below;
  some = (whole_fits (λ n. Unit {0}) members w bytes head (λ i default less. tt) (sym is)).some;
}

-- the start of an element
pub begun-moves : (depth around : ℕ) (parent : Level) (place : ℕ) (head : Head) (o : Option Step) → place ≤ parent.end → IsHeadIn parent.below head
    → o ≡ begun_with depth around parent place head → IfSome o (BeginMoves depth around parent place)
unfolding begun_with
begun-moves depth around parent place head None rises in_head is = tt
begun-moves depth around parent place head (Some step) rises in_head is = λ k same all.
    let found = cond_some (may_begin depth around parent place head) (record {
      event = event.Begin head.tag head.below;
      next = _;
      place = place + head.bytes;
      change = Open (parent_with parent head) (level_of place head);
    }) step (sym is) in
    let ok = found.0 in
    let few : around < k.depth = grind (arith, nat_tests, ok, same) in
    let fits : head.bytes + head.long ≤ parent.end - place = grind (arith, nat_tests, ok) in
    subst (λ (s : Step). BeginMove k around parent place s s.change) found.1
    (record {
      begins = refl;
      next = refl;
      parent_is = record { below = refl; end = refl; width = refl; tag = refl };
      inside = record {
        within = omega (arith, fits, rises, in_head.some);
        narrow = few_digits head.long;
        tag = in_head.tag k.names all;
        below = in_head.below k.names all;
      };
      rises = omega (arith, in_head.some);
      within = omega arith;
      few = few;
    })

-- the start of an element goes past its head
pub begun-place : (depth around : ℕ) (parent : Level) (place : ℕ) (head : Head) (o : Option Step)
    → o ≡ begun_with depth around parent place head → IfSome o (λ s. s.place ≡ place + head.bytes)
unfolding begun_with
begun-place depth around parent place head None is = tt
begun-place depth around parent place head (Some step) is =
    let found = cond_some (may_begin depth around parent place head) (record {
      event = event.Begin head.tag head.below;
      next = _;
      place = place + head.bytes;
      change = Open (parent_with parent head) (level_of place head);
    }) step (sym is) in
    sym (ap (λ (s : Step). s.place) found.1)

pub begun-rises : {members : List ℕ} (place : ℕ) (head : Head) (step : Step) → IsHeadIn members head → step.place ≡ place + head.bytes → place < step.place
begun-rises place head step in_head is = let some = in_head.some in omega (arith, some, is)

-- a start of an element is one of an item
pub begin-item : (depth around : ℕ) (level : Level) (place : ℕ) (step : Step) → BeginMoves depth around level place step → ItemMoves depth around level place step
begin-item depth around level place step is = λ k same all. by k step.change (is k same all)
  where
    by : (k : Numbers) (change : Change) → BeginMove k around level place step change → ItemMove k around level place step change
    by k Stay so = absurd so
    by k (Open parent child) so = so
    by k Close so = absurd so

-- a piece of a text is one of an item
pub text-item : (depth around : ℕ) (level : Level) (place : ℕ) (step : Step) → TextMove level.end place step → ItemMoves depth around level place step
text-item depth around level place step is = λ k same all. subst (ItemMove k around level place step) (sym is.1.0) is

-- the end of an element
pub finish-item : (depth around : ℕ) (level : Level) (place : ℕ) (o : Option Step) → o ≡ checked_finish level place → IfSome o (ItemMoves depth around level place)
unfolding checked_finish
finish-item depth around level place None is = tt
finish-item depth around level place (Some step) is = λ k same all.
    let found = cond_some (pointwise nat_eq level.met level.below) (finish_step level place) step (sym is) in
    subst (λ (s : Step). ItemMove k around level place s s.change) found.1 refl

-- the end of an element leaves the byte offset
pub finish-place : (level : Level) (place : ℕ) (o : Option Step) → o ≡ checked_finish level place → IfSome o (λ s. s.place ≡ place)
unfolding checked_finish
finish-place level place None is = tt
finish-place level place (Some step) is =
    let found = cond_some (pointwise nat_eq level.met level.below) (finish_step level place) step (sym is) in
    sym (ap (λ (s : Step). s.place) found.1)

-- the start of the root
pub root-begins : (k : Numbers) (place : ℕ) (step : Step) → BeginMoves k.depth 0 (above_root k) place step → BeginMove k 0 (above_root k) place step step.change
root-begins k place step is = is k refl (range_so k.names)
