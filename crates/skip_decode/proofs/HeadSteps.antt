-- A head that stands at a byte offset is read, and its element begins.
use Rattle.std.proofs.Common.{◌≡◌, ℕ, zero, suc, ◌+◌, ◌-◌, ◌/◌, ◌%◌, ◌^◌, ◌<◌, ◌≤◌, Bool, true, false, cond, nat_eq, nat_le, nat_lt, Option, Some, None, List, [], ◌∷◌, ◌++◌, length, take, drop, replicate, map, refl, ap, sym, ◌∙◌, arith, append_assoc, append-nil, length-append, length-take-le, take_at, take-append-drop, get_or}
use Rattle.std.specs.Option.{option_and_then, option_map}
use Rattle.std.proofs.lemmas.Bool.Decides.{nat_tests}
use Rattle.std.proofs.lemmas.List.{take-append-le}
use Rattle.std.proofs.lemmas.Option.{slice_get_within}
use Rattle.std.specs.Cmp.Lexicographic.{pointwise, bytes_decides}
use Rattle.acl_bits.specs.FilledBits.{bits_of, bits_of_bytes, number_of, number_after, has_bit}
use Rattle.acl_bits.specs.Row.{row_of}
use Rattle.acl_bits.proofs.BitStrings.{length-bits_of_bytes}
use Rattle.acl_model.specs.StreamBits as model
use Rattle.acl_model.specs.Stream.{rank, set_bits, head_bits, has_member}
use Rattle.acl_model.proofs.SizeLaws.{length-bytes_of, length-head_bits, length-set_bits}
use Rattle.acl_model.proofs.SizeLaws as sizes
use Rattle.acl_walk.specs.declared.event.Event.TheVariants.{Begin}
use Rattle.skip_decode.specs.declared.head.Head.{Head}
use Rattle.skip_decode.specs.StreamHeads.{take_within, number_width, inner_bit, inner_at, filled_head, whole_head, head_at}
use Rattle.skip_decode.specs.declared.position.Level.{Level}
use Rattle.skip_decode.specs.declared.position.Next.TheVariants.{Count, Item}
use Rattle.skip_decode.specs.Positions.{Numbers}
use Rattle.skip_decode.specs.StreamSteps.{Step, Open, inner_of, saved_bytes, met_with, parent_with, level_of, may_begin, begun_with, element_begun, text_begun, finish_step, checked_finish, item_by, item_step, step_at}
use Rattle.skip_decode.specs.inside.HeadReading.{take_bits, head_bytes, take_head_on}
use Rattle.skip_decode.proofs.Taking.{take_bits-model, bits_of_bytes-append, bits_of_bytes-model}
use Rattle.skip_decode.proofs.Heads.{IsPart, one_bit, take_head_on-read, head_bytes-counted, length-row, rank-member, number-fits}
use Rattle.skip_decode.proofs.FirstBits.{bits_after, first_bit}
use Rattle.skip_decode.proofs.Runs.{Runs, one_step}
use Rattle.skip_decode.proofs.PieceRuns.{at}

-- ---- prefixes

-- So many bytes are there.
pub take_within-all : (left n : ℕ) (bytes : List ℕ) → n ≤ left → take_within left n bytes ≡ Some (take n bytes)
unfolding take_within
take_within-all left n bytes few = let test : nat_le n left ≡ true = grind (arith, nat_tests) in ap (λ b. cond b (Some (take n bytes)) None) test

-- Where two lists concatenated are the same, a short prefix of the one begins the longer prefix of the other.
prefix-longer : (xs ys front bs : List Bool) → xs ++ ys ≡ front ++ bs → length front ≤ length xs → xs ≡ front ++ drop (length front) xs
prefix-longer xs ys front bs same few =
    sym (take-append-drop (length front) xs)
    ∙ ap (λ l. l ++ drop (length front) xs) (sym (take-append-le (length front) xs ys few) ∙ ap (take (length front)) same ∙ take_at front bs (length front) refl)

-- Zero bits make the number 0.
pub number_of-zeros : (n : ℕ) → number_of (replicate n false) ≡ 0
unfolding number_after
number_of-zeros zero = refl
number_of-zeros (suc n) = number_of-zeros n

-- The bits of a tag set begin with one that says whether the set is empty.
first_of : List ℕ → Bool
first_of [] = false
first_of (n ∷ below) = true

rest_of : List ℕ → List ℕ → List Bool
rest_of members [] = []
rest_of members (n ∷ below) = map (has_member (n ∷ below)) members

set_bits-split : (members below : List ℕ) → set_bits members below ≡ first_of below ∷ rest_of members below
unfolding first_of rest_of
set_bits-split members [] = refl
set_bits-split members (n ∷ below) = refl

first_of-number : (below : List ℕ) → cond (first_of below) 1 0 ≡ inner_of below
unfolding first_of
first_of-number [] = refl
first_of-number (n ∷ below) = refl

-- ---- what comes next by its first byte

-- The first byte of a head is at least 128.
pub high_byte : (bytes : List ℕ) (bits : List Bool) → bits_of_bytes bytes ≡ true ∷ bits → (byte : ℕ) × (more : List ℕ) × (bytes ≡ byte ∷ more) × (128 ≤ byte)
unfolding bits_of_bytes bits_of
high_byte [] bits is = absurd (no_bit bits is)
  where
    no_bit : (l : List Bool) → [] ≡ true ∷ l → ⊥
    no_bit l h = cc
high_byte (byte ∷ more) bits is =
    let first : has_bit byte 7 ≡ true = ap (λ (l : List Bool). get_or l 0 true) is in
    let bit : byte / 128 % 2 ≡ 1 = grind (arith, nat_tests) in
    (byte, more, refl, omega (arith, bit))

-- An item whose first byte is at least 128 is an element.
pub item_step-element : (depth : ℕ) (stream : List ℕ) (around : ℕ) (level : Level) (place byte : ℕ) (more : List ℕ) → drop place stream ≡ byte ∷ more → place < level.end → 128 ≤ byte
    → item_step depth stream around level place ≡ element_begun depth stream around level place
unfolding item_step
item_step-element depth stream around level place byte more there within high =
    let on : nat_eq place level.end ≡ false = grind (arith, nat_tests) in
    let test : nat_le 128 byte ≡ true = grind (arith, nat_tests) in
    ap (λ b. cond b (checked_finish level place) (option_and_then (item_by depth stream around level place) (take_within (level.end - place) 1 (drop place stream)))) on
    ∙ ap (option_and_then (item_by depth stream around level place)) (take_within-all (level.end - place) 1 (drop place stream) (omega arith) ∙ ap (λ (l : List ℕ). Some (take 1 l)) there)
    ∙ ap (λ b. cond b (element_begun depth stream around level place) (text_begun stream place level.end)) test

-- An item whose first byte is below 128 is a text.
pub item_step-text : (depth : ℕ) (stream : List ℕ) (around : ℕ) (level : Level) (place byte : ℕ) (more : List ℕ) → drop place stream ≡ byte ∷ more → place < level.end → byte < 128
    → item_step depth stream around level place ≡ text_begun stream place level.end
unfolding item_step
item_step-text depth stream around level place byte more there within low =
    let on : nat_eq place level.end ≡ false = grind (arith, nat_tests) in
    let test : nat_le 128 byte ≡ false = grind (arith, nat_tests) in
    ap (λ b. cond b (checked_finish level place) (option_and_then (item_by depth stream around level place) (take_within (level.end - place) 1 (drop place stream)))) on
    ∙ ap (option_and_then (item_by depth stream around level place)) (take_within-all (level.end - place) 1 (drop place stream) (omega arith) ∙ ap (λ (l : List ℕ). Some (take 1 l)) there)
    ∙ ap (λ b. cond b (element_begun depth stream around level place) (text_begun stream place level.end)) test

-- Where the content ends with the right tag set, so does the element.
pub item_step-end : (depth : ℕ) (stream : List ℕ) (around : ℕ) (level : Level) (place : ℕ) → place ≡ level.end → level.met ≡ level.below
    → item_step depth stream around level place ≡ Some (finish_step level place)
unfolding item_step checked_finish
item_step-end depth stream around level place end exact =
    let on : nat_eq place level.end ≡ true = grind (arith, nat_tests) in
    let test : pointwise nat_eq level.met level.below ≡ true = (bytes_decides level.met level.below).1 exact in
    ap (λ b. cond b (cond (pointwise nat_eq level.met level.below) (Some (finish_step level place)) None) (option_and_then (item_by depth stream around level place) (take_within (level.end - place) 1 (drop place stream)))) on
    ∙ ap (λ b. cond b (Some (finish_step level place)) None) test

-- ---- a head

module _ (p q : ℕ → Bool) (w tag long : ℕ) (passes : p tag ≡ true) (small : tag < 256) (part : IsPart q p) (fits : long < 2 ^ w) where
  abbrev members : List ℕ
  members = row_of p

  abbrev below : List ℕ
  below = row_of q

  abbrev number : ℕ
  number = number_width (length members)

  -- the bytes of the head
  abbrev pub own : List ℕ
  own = model.bytes_of (head_bits members w tag below long)

  -- the head
  abbrev pub whole : Head
  whole = record { tag = tag; below = below; long = long; bytes = length own }

  own_size : head_bytes (length members) number (inner_of below) w ≡ length own
  own_size = head_bytes-counted members w tag below long ∙ sym (length-bytes_of (head_bits members w tag below long))

  -- the bits up to the one for a tag set
  abbrev front_bits : List Bool
  front_bits = true ∷ (model.bits_of number (rank members tag) ++ (first_of below ∷ []))

  abbrev back_bits : List Bool
  back_bits = rest_of members below ++ (model.bits_of w long ++ replicate ((8 - length (head_bits members w tag below long) % 8) % 8) false)

  head_split : head_bits members w tag below long ≡ true ∷ (model.bits_of number (rank members tag) ++ ((first_of below ∷ rest_of members below) ++ model.bits_of w long))
  unfolding head_bits
  head_split = ap (λ l. true ∷ (model.bits_of number (rank members tag) ++ (l ++ model.bits_of w long))) (set_bits-split members below)

  regroup : (x y : Bool) (a b c d : List Bool) → (x ∷ (a ++ ((y ∷ b) ++ c))) ++ d ≡ (x ∷ (a ++ (y ∷ []))) ++ (b ++ (c ++ d))
  regroup x y a b c d = ap (λ l. x ∷ l) (simp append_assoc)

  own_bits : bits_of_bytes own ≡ front_bits ++ back_bits
  own_bits =
      bits_of_bytes-model (head_bits members w tag below long)
      ∙ ap (λ l. l ++ replicate ((8 - length (head_bits members w tag below long) % 8) % 8) false) head_split
      ∙ regroup true (first_of below) (model.bits_of number (rank members tag)) (rest_of members below) (model.bits_of w long) (replicate ((8 - length (head_bits members w tag below long) % 8) % 8) false)

  front_long : length front_bits ≡ 2 + number
  front_long =
      let number_bits = sizes.length-bits_of number (rank members tag) in
      let all = length-append (model.bits_of number (rank members tag)) (first_of below ∷ []) in
      omega (arith, number_bits, all)

  own_front : (9 + number) / 8 ≤ length own
  own_front =
      let long_own = length-bytes_of (head_bits members w tag below long) in
      let bits = length-head_bits members w tag below long in
      let set = ap length (set_bits-split members below) in
      omega (arith, long_own, bits, set)

  rank_fits : rank members tag < 2 ^ number
  rank_fits = number-fits (length members) (rank members tag) (length-row p) (slice_get_within members (rank members tag) tag (rank-member p tag small passes))

  inner_bit-of : (bytes : List ℕ) (more : List Bool) → bits_of_bytes bytes ≡ front_bits ++ more → inner_bit number bytes ≡ Some (inner_of below)
  unfolding inner_bit
  inner_bit-of bytes more is =
      let named : ℕ × List Bool → Option ℕ = λ named. option_map (λ inner. inner.0) (take_bits 1 named.1) in
      let first : ℕ × List Bool → Option ℕ = λ first. cond (nat_eq first.0 1) (option_and_then named (take_bits number first.1)) None in
      ap (λ l. option_and_then first (take_bits 1 l)) (is ∙ ap (λ l. true ∷ l) (append_assoc (model.bits_of number (rank members tag)) (first_of below ∷ []) more))
      ∙ ap (option_and_then first) (one_bit true (model.bits_of number (rank members tag) ++ (first_of below ∷ more)))
      ∙ ap (option_and_then named) (take_bits-model number (rank members tag) (first_of below ∷ more) rank_fits)
      ∙ ap (option_map (λ inner. inner.0)) (one_bit (first_of below) more)
      ∙ ap Some (first_of-number below)

  inner-read : (left : ℕ) (rest : List ℕ) → length own ≤ left → inner_at number left (own ++ rest) ≡ Some (inner_of below)
  unfolding inner_at
  inner-read left rest few =
      let n : ℕ = (9 + number) / 8 in
      let front : List ℕ = take n own in
      let back : List ℕ = drop n own in
      let short = own_front in
      let cut : length front ≡ n = length-take-le n own short in
      let bits : bits_of_bytes front ++ bits_of_bytes back ≡ front_bits ++ back_bits = sym (bits_of_bytes-append front back) ∙ ap bits_of_bytes (take-append-drop n own) ∙ own_bits in
      let eight = length-bits_of_bytes front in
      let two = front_long in
      let is = prefix-longer (bits_of_bytes front) (bits_of_bytes back) front_bits back_bits bits (omega (arith, cut, eight, two)) in
      ap (option_and_then (inner_bit number)) (take_within-all left n (own ++ rest) (omega (arith, short, few)) ∙ ap Some (take-append-le n own rest short))
      ∙ inner_bit-of front (drop (length front_bits) (bits_of_bytes front)) is

  whole-read : whole_head members w own ≡ Some whole
  unfolding whole_head bits_after bits_of_bytes
  whole-read =
      let fill : List Bool = replicate ((8 - length (head_bits members w tag below long) % 8) % 8) false in
      let first : ℕ × List Bool → Option Head = λ first. cond (nat_eq first.0 1) (option_and_then filled_head (take_head_on members w first.1)) None in
      let zeros : number_of (fill ++ []) ≡ 0 = ap number_of (append-nil fill) ∙ number_of-zeros _ in
      let size : (length (head_bits members w tag below long) + 7) / 8 ≡ length own = sym (length-bytes_of (head_bits members w tag below long)) in
      ap (λ l. option_and_then first (take_bits 1 (bits_of_bytes l))) (sym (append-nil own))
      ∙ ap (option_and_then first) (first_bit members w tag below long [])
      ∙ ap (option_and_then filled_head) (take_head_on-read p q w tag long (fill ++ []) passes small part fits)
      ∙ ap (λ n. cond (nat_eq n 0) (Some (record { tag = tag; below = below; long = long; bytes = (length (head_bits members w tag below long) + 7) / 8 })) None) zeros
      ∙ ap (λ n. Some (record { tag = tag; below = below; long = long; bytes = n })) size

  -- A head at the start of the bytes is read, where its bytes are among those that are left.
  pub head_at-read : (left : ℕ) (rest : List ℕ) → length own ≤ left → head_at members w left (own ++ rest) ≡ Some whole
  unfolding head_at
  head_at-read left rest few =
      ap (option_and_then (λ inner. option_and_then (whole_head members w) (take_within left (head_bytes (length members) number inner w) (own ++ rest)))) (inner-read left rest few)
      ∙ ap (λ n. option_and_then (whole_head members w) (take_within left n (own ++ rest))) own_size
      ∙ ap (option_and_then (whole_head members w)) (take_within-all left (length own) (own ++ rest) few ∙ ap Some (take_at own rest (length own) refl))
      ∙ whole-read

  -- ---- an element begins

  -- the parent
  abbrev pub parent : List ℕ → ℕ → ℕ → ℕ → Level
  parent met end spare name = record { below = members; met = met; end = end; spare = spare; width = w; tag = name }

  -- the step at the head
  abbrev pub begin_step : ℕ → Level → Step
  begin_step place around = record { event = Begin tag below; next = Count; place = place + length own; change = Open (parent_with around whole) (level_of place whole) }

  -- the head with its length in one bit less
  abbrev pub narrow : List ℕ
  narrow = model.bytes_of (head_bits members (w - 1) tag below long)

  narrow_size : head_bytes (length members) number (inner_of below) (w - 1) ≡ length narrow
  narrow_size = head_bytes-counted members (w - 1) tag below long ∙ sym (length-bytes_of (head_bits members (w - 1) tag below long))

  -- The element begins, where the depth allows it, its content ends within the parent's, and the width allows it.
  pub element_begun-read : (stream rest : List ℕ) (depth around place : ℕ) (met : List ℕ) (end spare name : ℕ) → drop place stream ≡ own ++ rest → around < depth
      → place + (length own + long) ≤ end → length own ≤ spare + length narrow
      → element_begun depth stream around (parent met end spare name) place ≡ Some (begin_step place (parent met end spare name))
  unfolding element_begun begun_with
  element_begun-read stream rest depth around place met end spare name there deep within saved =
      let above : Level = parent met end spare name in
      let one : nat_lt around depth ≡ true = grind (arith, nat_tests) in
      let two : nat_le (length own + long) (end - place) ≡ true = grind (arith, nat_tests) in
      let size = narrow_size in
      let three : nat_le (length own - head_bytes (length members) number (inner_of below) (w - 1)) spare ≡ true = grind (arith, nat_tests) in
      let may : may_begin depth around above place whole ≡ true = rw (one, two, three) refl in
      ap (λ l. option_and_then (begun_with depth around above place) (head_at members w (end - place) l)) there
      ∙ ap (option_and_then (begun_with depth around above place)) (head_at-read (end - place) rest (omega arith))
      ∙ ap (λ b. cond b (Some (begin_step place above)) None) may

  -- The first bit of the head is 1, so its first byte is at least 128.
  pub own_high : (byte : ℕ) × (more : List ℕ) × (own ≡ byte ∷ more) × (128 ≤ byte)
  own_high = high_byte own ((model.bits_of number (rank members tag) ++ (first_of below ∷ [])) ++ back_bits) own_bits

  -- An element begins inside another one.
  pub begin_run : (k : Numbers) (stream rest : List ℕ) (up : List Level) (place : ℕ) (met : List ℕ) (end spare name : ℕ) → drop place stream ≡ own ++ rest → length up + 1 < k.depth
      → place + (length own + long) ≤ end → length own ≤ spare + length narrow
      → Runs k stream (at (parent met end spare name ∷ up) Item place) (Begin tag below ∷ [])
      (at (level_of place whole ∷ parent (met_with met whole) end (spare - saved_bytes (parent met end spare name) whole) name ∷ up) Count (place + length own))
  unfolding step_at
  begin_run k stream rest up place met end spare name there deep within saved =
      let high = own_high in
      let some = ap (λ (l : List ℕ). length l) high.2 in
      one_step k stream (at (parent met end spare name ∷ up) Item place) (begin_step place (parent met end spare name)) (record {
        there = item_step-element k.depth stream (length up + 1) (parent met end spare name) place high.0 (high.1 ++ rest) (there ∙ ap (λ l. l ++ rest) high.2) (omega (arith, within, some)) high.3
            ∙ element_begun-read stream rest k.depth (length up + 1) place met end spare name there deep within saved;
        on = λ rest. refl;
        fewer = omega (arith, some);
      })

  -- What the head saves is the difference of the two sizes.
  pub saved_is : (met : List ℕ) (end spare name : ℕ) → saved_bytes (parent met end spare name) whole ≡ length own - length narrow
  saved_is met end spare name = ap (λ n. length own - n) narrow_size
