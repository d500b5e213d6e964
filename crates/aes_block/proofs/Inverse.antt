-- The inverse cipher undoes the cipher, and the cipher the inverse cipher, under any words whose round keys are states.
use Rattle.std.proofs.Common.{◌≡◌, ℕ, zero, suc, ◌-◌, ◌≤◌, List, refl, ap, ◌∙◌, arith}
use Rattle.aes_block.specs.Aes.{round_key, full_rounds, cipher_with, inverse_rounds, inverse_cipher_with, add_round_key, sub_bytes, shift_rows, mix_columns, inverse_sub_bytes, inverse_shift_rows, inverse_mix_columns}
use Rattle.aes_block.proofs.States.{IsState, IsState-add_round_key, add_round_key_undone, IsState-sub_bytes, IsState-inverse_sub_bytes, inverse_sub_bytes-sub_bytes, sub_bytes-inverse_sub_bytes, IsState-shift_rows, IsState-inverse_shift_rows, inverse_shift_rows-shift_rows, shift_rows-inverse_shift_rows, IsState-mix_columns, IsState-inverse_mix_columns, inverse_mix_columns-mix_columns, mix_columns-inverse_mix_columns}

-- the round keys 0 to n are states
abbrev pub HasKeys : List (List ℕ) → ℕ → Type 0
HasKeys words n = (r : ℕ) → r ≤ n → IsState (round_key words r)

abbrev pub scrambled : List ℕ → List ℕ
scrambled s = shift_rows (sub_bytes s)

abbrev pub unscrambled : List ℕ → List ℕ
unscrambled s = inverse_sub_bytes (inverse_shift_rows s)

pub IsState-scrambled : (s : List ℕ) → IsState s → IsState (scrambled s)
IsState-scrambled s is = IsState-shift_rows (sub_bytes s) (IsState-sub_bytes s is)

pub IsState-unscrambled : (s : List ℕ) → IsState s → IsState (unscrambled s)
IsState-unscrambled s is = IsState-inverse_sub_bytes (inverse_shift_rows s) (IsState-inverse_shift_rows s is)

unscrambled-scrambled : (s : List ℕ) → IsState s → unscrambled (scrambled s) ≡ s
unscrambled-scrambled s is =
    ap inverse_sub_bytes (inverse_shift_rows-shift_rows (sub_bytes s) (IsState-sub_bytes s is))
    ∙ inverse_sub_bytes-sub_bytes s is

scrambled-unscrambled : (s : List ℕ) → IsState s → scrambled (unscrambled s) ≡ s
scrambled-unscrambled s is =
    ap shift_rows (sub_bytes-inverse_sub_bytes (inverse_shift_rows s) (IsState-inverse_shift_rows s is))
    ∙ shift_rows-inverse_shift_rows s is

pub IsState-full_rounds : (words : List (List ℕ)) (block : List ℕ) (n : ℕ) → IsState block → HasKeys words n → IsState (full_rounds words block n)
unfolding full_rounds
IsState-full_rounds words block zero is keys = IsState-add_round_key block (round_key words 0) is (keys 0 (omega arith))
IsState-full_rounds words block (suc n) is keys =
    let before = IsState-full_rounds words block n is (λ r le. keys r (omega arith)) in
    let s = full_rounds words block n in
    IsState-add_round_key (mix_columns (scrambled s)) (round_key words (suc n))
    (IsState-mix_columns (scrambled s) (IsState-scrambled s before)) (keys (suc n) (omega arith))

-- the full rounds of the inverse cipher undo those of the cipher, the last one first
rounds_undone : (words : List (List ℕ)) (block : List ℕ) (n : ℕ) → IsState block → HasKeys words n
    → inverse_rounds words (scrambled (full_rounds words block n)) n ≡ scrambled (full_rounds words block 0)
unfolding full_rounds inverse_rounds
rounds_undone words block zero is keys = refl
rounds_undone words block (suc n) is keys =
    let fewer : HasKeys words n = λ r le. keys r (omega arith) in
    let s = full_rounds words block n in
    let before = IsState-full_rounds words block n is fewer in
    let here = IsState-full_rounds words block (suc n) is keys in
    let key = keys (suc n) (omega arith) in
    let mixed = IsState-mix_columns (scrambled s) (IsState-scrambled s before) in
    ap (λ (t : List ℕ). inverse_rounds words (inverse_mix_columns (add_round_key t (round_key words (suc n)))) n)
    (unscrambled-scrambled (full_rounds words block (suc n)) here)
    ∙ ap (λ (t : List ℕ). inverse_rounds words (inverse_mix_columns t) n)
    (add_round_key_undone (mix_columns (scrambled s)) (round_key words (suc n)) mixed key)
    ∙ ap (λ (t : List ℕ). inverse_rounds words t n)
    (inverse_mix_columns-mix_columns (scrambled s) (IsState-scrambled s before))
    ∙ rounds_undone words block n is fewer

pub inverse_cipher-cipher : (words : List (List ℕ)) (n : ℕ) (block : List ℕ) → IsState block → HasKeys words n
    → inverse_cipher_with words n (cipher_with words n block) ≡ block
unfolding cipher_with inverse_cipher_with full_rounds
inverse_cipher-cipher words n block is keys =
    let fewer : HasKeys words (n - 1) = λ r le. keys r (omega arith) in
    let last = IsState-full_rounds words block (n - 1) is fewer in
    let first = IsState-full_rounds words block 0 is (λ r le. keys r (omega arith)) in
    ap (λ (t : List ℕ). add_round_key (unscrambled (inverse_rounds words t (n - 1))) (round_key words 0))
    (add_round_key_undone (scrambled (full_rounds words block (n - 1))) (round_key words n)
    (IsState-scrambled (full_rounds words block (n - 1)) last) (keys n (omega arith)))
    ∙ ap (λ (t : List ℕ). add_round_key (unscrambled t) (round_key words 0)) (rounds_undone words block (n - 1) is fewer)
    ∙ ap (λ (t : List ℕ). add_round_key t (round_key words 0)) (unscrambled-scrambled (full_rounds words block 0) first)
    ∙ add_round_key_undone block (round_key words 0) is (keys 0 (omega arith))

pub IsState-inverse_rounds : (words : List (List ℕ)) (s : List ℕ) (n : ℕ) → IsState s → HasKeys words n → IsState (inverse_rounds words s n)
unfolding inverse_rounds
IsState-inverse_rounds words s zero is keys = is
IsState-inverse_rounds words s (suc n) is keys =
    let t = add_round_key (unscrambled s) (round_key words (suc n)) in
    IsState-inverse_rounds words (inverse_mix_columns t) n
    (IsState-inverse_mix_columns t (IsState-add_round_key (unscrambled s) (round_key words (suc n))
    (IsState-unscrambled s is) (keys (suc n) (omega arith)))) (λ r le. keys r (omega arith))

-- the result of the inverse cipher, with which the full rounds of the cipher begin
abbrev found_block : List (List ℕ) → List ℕ → ℕ → List ℕ
found_block words s n = add_round_key (unscrambled (inverse_rounds words s n)) (round_key words 0)

rounds_redone : (words : List (List ℕ)) (s : List ℕ) (n : ℕ) → IsState s → HasKeys words n
    → full_rounds words (found_block words s n) n ≡ unscrambled s
unfolding full_rounds inverse_rounds
rounds_redone words s zero is keys =
    add_round_key_undone (unscrambled s) (round_key words 0) (IsState-unscrambled s is) (keys 0 (omega arith))
rounds_redone words s (suc n) is keys =
    let fewer : HasKeys words n = λ r le. keys r (omega arith) in
    let key = keys (suc n) (omega arith) in
    let k = round_key words (suc n) in
    let open_state = IsState-unscrambled s is in
    let sum = IsState-add_round_key (unscrambled s) k open_state key in
    let t = inverse_mix_columns (add_round_key (unscrambled s) k) in
    let mixed = IsState-inverse_mix_columns (add_round_key (unscrambled s) k) sum in
    ap (λ (u : List ℕ). add_round_key (mix_columns (scrambled u)) k) (rounds_redone words t n mixed fewer)
    ∙ ap (λ (u : List ℕ). add_round_key (mix_columns u) k) (scrambled-unscrambled t mixed)
    ∙ ap (λ (u : List ℕ). add_round_key u k) (mix_columns-inverse_mix_columns (add_round_key (unscrambled s) k) sum)
    ∙ add_round_key_undone (unscrambled s) k open_state key

pub cipher-inverse_cipher : (words : List (List ℕ)) (n : ℕ) (block : List ℕ) → IsState block → HasKeys words n
    → cipher_with words n (inverse_cipher_with words n block) ≡ block
unfolding cipher_with inverse_cipher_with
cipher-inverse_cipher words n block is keys =
    let fewer : HasKeys words (n - 1) = λ r le. keys r (omega arith) in
    let key = keys n (omega arith) in
    let s = add_round_key block (round_key words n) in
    let here = IsState-add_round_key block (round_key words n) is key in
    ap (λ (u : List ℕ). add_round_key (scrambled u) (round_key words n)) (rounds_redone words s (n - 1) here fewer)
    ∙ ap (λ (u : List ℕ). add_round_key u (round_key words n)) (scrambled-unscrambled s here)
    ∙ add_round_key_undone block (round_key words n) is key
