-- Laws about pieces: the first one, and that the pieces join to the bytes.
use Rattle.std.proofs.Common.{◌≡◌, ℕ, zero, suc, ◌+◌, ◌-◌, ◌*◌, ◌/◌, ◌<◌, ◌≤◌, true, false, List, [], ◌∷◌, length, take, drop, refl, ap, sym, subst, arith, length-take, length-drop, take-append-drop}
use Rattle.acl_walk.specs.Pieces.{piece_of, Joins, alone, onward, cut_after, pieces}

-- at most 256 bytes are one piece
pub pieces-short : (bytes : List ℕ) → length bytes ≤ 256 → pieces bytes ≡ piece_of bytes true ∷ []
unfolding pieces cut_after
pieces-short bytes short =
    let none : (length bytes - 1) / 256 ≡ 0 = omega arith in
    ap (λ n. cut_after n bytes) none

-- of more bytes, the first 256 are a piece, and the rest is cut in the same way
pub pieces-long : (bytes : List ℕ) → 256 < length bytes → pieces bytes ≡ piece_of (take 256 bytes) false ∷ pieces (drop 256 bytes)
unfolding pieces cut_after
pieces-long bytes long =
    let left : length (drop 256 bytes) ≡ length bytes - 256 = length-drop 256 bytes in
    let one : (length bytes - 1) / 256 ≡ suc ((length (drop 256 bytes) - 1) / 256) = omega arith in
    ap (λ n. cut_after n bytes) one

-- n full pieces and a last one that isn't empty join to the bytes
cut_joins : (n : ℕ) (bytes : List ℕ) → 256 * n < length bytes → length bytes ≤ 256 * n + 256 → Joins bytes (cut_after n bytes)
unfolding cut_after
cut_joins zero bytes some few = alone bytes (omega arith)
cut_joins (suc n) bytes some few =
    let left : length (drop 256 bytes) ≡ length bytes - 256 = length-drop 256 bytes in
    let prefix : length (take 256 bytes) ≡ 256 = omega (arith, length-take 256 bytes) in
    let after : Joins (drop 256 bytes) (cut_after n (drop 256 bytes)) = cut_joins n (drop 256 bytes) (omega arith) (omega arith) in
    subst (λ whole. Joins whole (piece_of (take 256 bytes) false ∷ cut_after n (drop 256 bytes))) (take-append-drop 256 bytes)
    (onward (take 256 bytes) (drop 256 bytes) (cut_after n (drop 256 bytes)) (omega arith) (omega arith) (omega arith) after)

-- one empty piece joins to no bytes
nothing_joins : (bytes : List ℕ) → length bytes ≡ 0 → Joins bytes (pieces bytes)
nothing_joins bytes none = subst (Joins bytes) (sym (pieces-short bytes (omega arith))) (alone bytes (omega arith))

-- the same of bytes of any length
pieces_by_length : (bytes : List ℕ) (n : ℕ) → length bytes ≡ n → Joins bytes (pieces bytes)
unfolding pieces
pieces_by_length bytes zero none = nothing_joins bytes none
pieces_by_length bytes (suc n) some = cut_joins ((length bytes - 1) / 256) bytes (omega arith) (omega arith)

-- the pieces of bytes join to them
pub pieces-join : (bytes : List ℕ) → Joins bytes (pieces bytes)
pieces-join bytes = pieces_by_length bytes (length bytes) refl
