-- Where the steps of the definitions end, and what is true there.
use Rattle.std.proofs.Common.{◌≡◌, ℕ, zero, suc, ◌+◌, ◌-◌, ◌<◌, ◌≤◌, Bool, true, false, cond, nat_eq, nat_le}
use Rattle.std.proofs.Common.{Option, Some, None, List, [], ◌∷◌, drop, refl, ap, sym, subst, arith}
use Rattle.std.specs.Prelude.{IfSome}
use Rattle.std.specs.Int.{w16, from_be_bytes}
use Rattle.std.specs.Option.{option_and_then}
use Rattle.std.proofs.lemmas.Bool.Decides.{nat_tests}
use Rattle.acl_model.specs.Lines.{is_within_line}
use Rattle.skip_decode.specs.declared.head.Head.{Head}
use Rattle.skip_decode.specs.declared.position.Level.{Level}
use Rattle.skip_decode.specs.StreamHeads.{head_at, take_within}
use Rattle.skip_decode.specs.StreamSteps.{Step, after_piece, piece_at, length_at, text_step, text_begun}
use Rattle.skip_decode.specs.StreamSteps.{attribute_step, attributes_step, count_step, begun_with, element_begun}
use Rattle.skip_decode.specs.StreamSteps.{checked_finish, item_by, item_step}
use Rattle.skip_decode.proofs.MoveLaws.{attribute_with, begun-place, some-so, text_with}
use Rattle.skip_decode.proofs.SpotHeads.{head_fits}

-- what is true of a value is true of it where a test chooses between it and none
cond-so : {A : Type 0} (Q : A → Type 0) (b : Bool) (x : A) → Q x → IfSome (cond b (Some x) None) Q
cond-so Q true x so = so
cond-so Q false x so = tt

-- what is true of each value that a function makes is true where it is made of a value or none
and_then-so : {A B : Type 0} (Q : B → Type 0) (f : A → Option B) (o : Option A)
    → ((x : A) → IfSome (f x) Q) → IfSome (option_and_then f o) Q
and_then-so Q f None so = tt
and_then-so Q f (Some x) so = so x

-- the step after a value that was read
and_then-read : {A B : Type 0} (Q : B → Type 0) (f : A → Option B) (x : A) (o : Option A)
    → Some x ≡ o → IfSome (f x) Q → IfSome (option_and_then f o) Q
and_then-read Q f x o is so = subst (λ p. IfSome (option_and_then f p) Q) is so

module _ (is_true : ℕ → Type 0) where
  -- what is true at the end of a step
  abbrev pub AtEnd : Step → Type 0
  AtEnd step = is_true step.place

  -- ---- texts

  -- a piece of a text
  text-ends : (stream : List ℕ) (place left : ℕ) → is_true (after_piece place left)
      → IfSome (text_step stream place left) AtEnd
  unfolding text_step
  text-ends stream place left so =
      let piece = piece_at stream place left in
      cond-so AtEnd (is_within_line piece.bytes.items) (text_with piece place left) so

  -- a text ends after its length
  pub text_begun-later : (stream : List ℕ) (place end : ℕ) → ((n : ℕ) → place + 4 ≤ n → is_true n)
      → IfSome (text_begun stream place end) AtEnd
  unfolding text_begun
  text_begun-later stream place end so =
      and_then-so AtEnd (text_step stream (place + 4)) (length_at stream place end)
      (λ long. text-ends stream (place + 4) long (so _ (omega arith)))

  -- ---- attributes

  -- a piece of an attribute
  attribute-ends : (stream : List ℕ) (more place left : ℕ) → is_true (after_piece place left)
      → IfSome (attribute_step stream more place left) AtEnd
  unfolding attribute_step
  attribute-ends stream more place left so =
      let piece = piece_at stream place left in
      cond-so AtEnd (is_within_line piece.bytes.items) (attribute_with piece more place left) so

  -- an attribute ends after its length
  first-later : (stream : List ℕ) (place end more : ℕ) → ((n : ℕ) → place + 4 ≤ n → is_true n)
      → IfSome (option_and_then (attribute_step stream more (place + 4)) (length_at stream place end)) AtEnd
  first-later stream place end more so =
      and_then-so AtEnd (attribute_step stream more (place + 4)) (length_at stream place end)
      (λ long. attribute-ends stream more (place + 4) long (so _ (omega arith)))

  -- the first of some attributes does so
  pub attributes-later : (stream : List ℕ) (place end count : ℕ) → (count ≡ 0 → ⊥)
      → ((n : ℕ) → place + 4 ≤ n → is_true n) → IfSome (attributes_step stream place end count) AtEnd
  unfolding attributes_step
  attributes-later stream place end zero some so = absurd (some refl)
  attributes-later stream place end (suc more) some so = first-later stream place end more so

  -- attributes end at or after the byte offset where they begin
  attributes-from : (stream : List ℕ) (place end count : ℕ) → ((n : ℕ) → place ≤ n → is_true n)
      → IfSome (attributes_step stream place end count) AtEnd
  unfolding attributes_step
  attributes-from stream place end zero so = so place (omega arith)
  attributes-from stream place end (suc more) so =
      first-later stream place end more (λ n later. so n (omega (arith, later)))

  -- they end after their number
  pub count-later : (stream : List ℕ) (place end : ℕ) → ((n : ℕ) → place + 2 ≤ n → is_true n)
      → IfSome (count_step stream place end) AtEnd
  unfolding count_step
  count-later stream place end so =
      and_then-so AtEnd (λ two. attributes_step stream (place + 2) end (from_be_bytes w16 two))
      (take_within (end - place) 2 (drop place stream))
      (λ two. attributes-from stream (place + 2) end (from_be_bytes w16 two) so)

  -- ---- elements

  module _ (depth : ℕ) (stream : List ℕ) (around : ℕ) (parent : Level) (place : ℕ) where
    -- the head at the byte offset
    abbrev pub head_here : Option Head
    head_here = head_at parent.below parent.width (parent.end - place) (drop place stream)

    -- the start of an element ends where its head does
    pub element-ends : IfSome head_here (λ head. is_true (place + head.bytes))
        → IfSome (element_begun depth stream around parent place) AtEnd
    unfolding element_begun
    element-ends so = by head_here so
      where
        by : (o : Option Head) → IfSome o (λ head. is_true (place + head.bytes))
            → IfSome (option_and_then (begun_with depth around parent place) o) AtEnd
        by None so = tt
        by (Some head) so =
            some-so (begun_with depth around parent place head) (λ step is. subst is_true (sym is) so)
            (begun-place depth around parent place head _ refl)

    -- it ends after its first byte
    element-later : ((n : ℕ) → place < n → is_true n) → IfSome (element_begun depth stream around parent place) AtEnd
    element-later so = element-ends (by head_here refl)
      where
        by : (o : Option Head) → head_here ≡ o → IfSome o (λ head. is_true (place + head.bytes))
        by None is = tt
        by (Some head) is =
            let fits = head_fits (λ n. Unit {0}) parent.below parent.width (parent.end - place) (drop place stream) head
            (λ i default less. tt) is in
            let some = fits.some in
            so (place + head.bytes) (omega (arith, some))

  -- ---- items

  module _ (depth : ℕ) (stream : List ℕ) (around : ℕ) (level : Level) (place : ℕ) where
    -- an item ends after its first byte
    pub item_by-later : (bytes : List ℕ) → ((n : ℕ) → place < n → is_true n)
        → IfSome (item_by depth stream around level place bytes) AtEnd
    item_by-later [] so = tt
    item_by-later (byte ∷ bytes) so = by (nat_le 128 byte)
      where
        by : (b : Bool)
            → IfSome (cond b (element_begun depth stream around level place) (text_begun stream place level.end)) AtEnd
        by true = element-later depth stream around level place so
        by false = text_begun-later stream place level.end (λ n later. so n (omega (arith, later)))

    module _ (inside : place ≡ level.end → ⊥) where
      -- the first byte of a content that isn't at its end
      abbrev first_byte : Option (List ℕ)
      first_byte = take_within (level.end - place) 1 (drop place stream)

      item-inside : item_step depth stream around level place
          ≡ option_and_then (item_by depth stream around level place) first_byte
      unfolding item_step
      item-inside =
          let test : nat_eq place level.end ≡ false = grind (arith, nat_tests, inside) in
          ap (λ b. cond b (checked_finish level place)
          (option_and_then (item_by depth stream around level place) first_byte)) test

      pub item-later : ((n : ℕ) → place < n → is_true n) → IfSome (item_step depth stream around level place) AtEnd
      item-later so =
          subst (λ o. IfSome o AtEnd) (sym item-inside)
          (and_then-so AtEnd (item_by depth stream around level place) first_byte (λ bytes. item_by-later bytes so))

      -- an item by the byte that was read
      pub item-ends : (first : ℕ) → Some (first ∷ []) ≡ first_byte
          → IfSome (item_by depth stream around level place (first ∷ [])) AtEnd
          → IfSome (item_step depth stream around level place) AtEnd
      item-ends first is so =
          subst (λ o. IfSome o AtEnd) (sym item-inside)
          (and_then-read AtEnd (item_by depth stream around level place) (first ∷ []) first_byte is so)
