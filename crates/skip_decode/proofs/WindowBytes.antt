-- Bytes of one fragment, and bytes of two after each other.
use Rattle.std.proofs.Common.{◌≡◌, ℕ, ◌+◌, ◌-◌, ◌*◌, ◌/◌, ◌%◌, ◌≤◌, min, true, cond, nat_le, None, Some, List, ◌++◌, length, take, drop, take_at, append_assoc, length-append, ap, sym, ◌∙◌, arith}
use Rattle.std.proofs.lemmas.List.{take-take, drop-take, drop-drop, take-append-drop, length-take-le}
use Rattle.std.proofs.lemmas.Bool.Decides.{nat_tests}
use Rattle.std.specs.Option.{option_and_then}
use Rattle.acl_walk.specs.Pieces.{piece_of}
use Rattle.skip_decode.specs.Fragments.{fragment_of}
use Rattle.skip_decode.specs.StreamHeads.{take_within, whole_head}
use Rattle.skip_decode.specs.StreamSteps.{fragment_left, piece_at}

-- Bytes of a stream that are all of one fragment are those of the fragment.
pub within_fragment : (stream : List ℕ) (place n : ℕ) → place % 256 + n ≤ 256
    → take n (drop (place % 256) (fragment_of stream (place / 256))) ≡ take n (drop place stream)
within_fragment stream place n fits =
    let parts : 256 ≡ place % 256 + (256 - place % 256) = omega arith in
    let whole : 256 * (place / 256) + place % 256 ≡ place = omega arith in
    ap (λ k. take n (drop (place % 256) (take k (drop (256 * (place / 256)) stream)))) parts
    ∙ ap (take n) (drop-take (place % 256) (256 - place % 256) (drop (256 * (place / 256)) stream))
    ∙ take-take n (256 - place % 256) (drop (place % 256) (drop (256 * (place / 256)) stream)) (omega arith)
    ∙ ap (take n) (drop-drop (place % 256) (256 * (place / 256)) stream ∙ ap (λ k. drop k stream) whole)

-- The first bytes, and those after them, are the first bytes of both.
take_sum : (m n : ℕ) (bytes : List ℕ) → take m bytes ++ take n (drop m bytes) ≡ take (m + n) bytes
take_sum m n bytes =
    ap (λ l. l ++ take n (drop m bytes)) (sym (take-take m (m + n) bytes (omega arith)))
    ∙ ap (λ l. take m (take (m + n) bytes) ++ l) (sym (drop-take m n bytes))
    ∙ take-append-drop m (take (m + n) bytes)

-- The bytes from a byte offset on, and those after them.
pub over_border : (stream : List ℕ) (place m n : ℕ)
    → take m (drop place stream) ++ take n (drop (place + m) stream) ≡ take (m + n) (drop place stream)
over_border stream place m n =
    ap (λ l. take m (drop place stream) ++ take n l) (sym (drop-drop m place stream))
    ∙ take_sum m n (drop place stream)

-- Bytes of the fragment that is held are those of the stream.
pub held_bytes : (held stream : List ℕ) (place n : ℕ) → held ≡ fragment_of stream (place / 256) → place % 256 + n ≤ 256
    → take n (drop (place % 256) held) ≡ take n (drop place stream)
held_bytes held stream place n is fits =
    ap (λ l. take n (drop (place % 256) l)) is ∙ within_fragment stream place n fits

-- The bytes written after the first ones in a buffer, up to where they end.
pub filled : (buffer new rest : List ℕ) (from to : ℕ) → from ≤ to → to ≤ length buffer → length new ≡ to - from
    → take to (take from buffer ++ (new ++ rest)) ≡ take from buffer ++ new
filled buffer new rest from to rises room long =
    let front = length-take-le from buffer (omega arith) in
    let both = length-append (take from buffer) new in
    ap (take to) (sym (append_assoc (take from buffer) new rest))
    ∙ take_at (take from buffer ++ new) rest to (omega (arith, front, both, long))

-- A piece of bytes of the fragment that is held is the one of the stream.
pub held_piece : (held stream : List ℕ) (place left room n : ℕ) → room ≡ fragment_left place → n ≡ min left room
    → held ≡ fragment_of stream (place / 256)
    → piece_of (take (place % 256 + n - place % 256) (drop (place % 256) held)) (nat_le left room) ≡ piece_at stream place left
held_piece held stream place left room n is_room is_n is =
    let count : place % 256 + n - place % 256 ≡ min left (fragment_left place) = omega (arith, is_room, is_n) in
    let fits : place % 256 + min left (fragment_left place) ≤ 256 = omega arith in
    ap (λ k. piece_of (take k (drop (place % 256) held)) (nat_le left room)) count
    ∙ ap (λ l. piece_of l (nat_le left room)) (held_bytes held stream place (min left (fragment_left place)) is fits)
    ∙ ap (λ k. piece_of (take (min left (fragment_left place)) (drop place stream)) (nat_le left k)) is_room

-- A head that was read in two parts is the head in the stream.
pub whole_head-parts : (members : List ℕ) (width place left front long : ℕ) (stream first read : List ℕ) → long ≤ left → front ≤ long
    → first ≡ take front (drop place stream)
    → read ≡ first ++ take (long - front) (drop (place + front) stream)
    → whole_head members width read ≡ option_and_then (whole_head members width) (take_within left long (drop place stream))
unfolding take_within
whole_head-parts members width place left front long stream first read within rises firsts is =
    let test : nat_le long left ≡ true = grind (arith, nat_tests) in
    let sum : front + (long - front) ≡ long = omega arith in
    ap (whole_head members width)
    (is ∙ ap (λ l. l ++ take (long - front) (drop (place + front) stream)) firsts
    ∙ over_border stream place front (long - front)
    ∙ ap (λ n. take n (drop place stream)) sum)
    ∙ sym (ap (λ b. option_and_then (whole_head members width) (cond b (Some (take long (drop place stream))) None)) test)
