-- States: each step of a round maps states to states, and is undone by its inverse.
use Rattle.std.proofs.Common.{◌≡◌, ℕ, zero, suc, ◌<◌, lit<, List, [], ◌∷◌, ◌++◌, length, map, get_or, true, refl, sym, ap, ◌∙◌, arith, bit_xor, ltb}
use Rattle.std.proofs.lemmas.Nat.{xor_of_8}
use Rattle.std.proofs.lemmas.List.{length-map}
use lib.Bits.{xor_assoc, xor_self, xor_zero_r}
use Rattle.aes_block.specs.Field.{product, remainder, mul}
use Rattle.aes_block.specs.Aes.{sub_byte, inverse_sub_byte, sub_bytes, inverse_sub_bytes, xor4, xor_bytes, word_product_row, mix_word, inverse_mix_word, shift_rows, inverse_shift_rows, mix_columns, inverse_mix_columns, add_round_key}
use Rattle.aes_block.proofs.Bytes.{passes_below, bounded_below}
use Rattle.aes_block.proofs.Columns.{word_product_row-xor, undone_row_0, undone_row_1, undone_row_2, undone_row_3, redone_row_0, redone_row_1, redone_row_2, redone_row_3}
use Rattle.aes_block.proofs.Substitution.{sub_byte-lt, inverse_sub_byte-lt, inverse_sub_byte-sub_byte, sub_byte-inverse_sub_byte}

-- each number of the list is a byte
abbrev pub AllBytes : List ℕ → Type 0
AllBytes [] = Unit {0}
AllBytes (x ∷ xs) = (x < 256) × AllBytes xs

-- a state is sixteen bytes
pub record IsState (s : List ℕ) : Type 0 where
  pub size : length s ≡ 16
  pub bytes : AllBytes s

pub byte_lt : (s : List ℕ) → AllBytes s → (k : ℕ) → get_or s k 0 < 256
byte_lt [] all k = lit< tt
byte_lt (x ∷ xs) all zero = all.0
byte_lt (x ∷ xs) all (suc k) = byte_lt xs all.1 k

pub AllBytes-append : (xs ys : List ℕ) → AllBytes xs → AllBytes ys → AllBytes (xs ++ ys)
AllBytes-append [] ys all also = also
AllBytes-append (x ∷ xs) ys all also = (all.0, AllBytes-append xs ys all.1 also)

pub AllBytes-map : (f : ℕ → ℕ) → ((x : ℕ) → x < 256 → f x < 256) → (xs : List ℕ) → AllBytes xs → AllBytes (map f xs)
AllBytes-map f keeps [] all = tt
AllBytes-map f keeps (x ∷ xs) all = (keeps x all.0, AllBytes-map f keeps xs all.1)

map_undone : (f g : ℕ → ℕ) → ((x : ℕ) → x < 256 → g (f x) ≡ x) → (xs : List ℕ) → AllBytes xs → map g (map f xs) ≡ xs
map_undone f g back [] all = refl
map_undone f g back (x ∷ xs) all = λ i. back x all.0 i ∷ map_undone f g back xs all.1 i

pub AllBytes-xor_bytes : (xs ys : List ℕ) → AllBytes xs → AllBytes ys → AllBytes (xor_bytes xs ys)
unfolding xor_bytes
AllBytes-xor_bytes [] ys all also = tt
AllBytes-xor_bytes (x ∷ xs) [] all also = tt
AllBytes-xor_bytes (x ∷ xs) (y ∷ ys) all also =
    (xor_of_8 x y all.0 also.0, AllBytes-xor_bytes xs ys all.1 also.1)

pub length-xor_bytes : (xs ys : List ℕ) → length xs ≡ length ys → length (xor_bytes xs ys) ≡ length xs
unfolding xor_bytes
length-xor_bytes [] ys same = refl
length-xor_bytes (x ∷ xs) [] same = absurd (omega arith)
length-xor_bytes (x ∷ xs) (y ∷ ys) same = ap suc (length-xor_bytes xs ys (omega arith))

-- adding a list twice changes nothing
pub xor_bytes-xor_bytes : (xs ys : List ℕ) → length xs ≡ length ys → xor_bytes (xor_bytes xs ys) ys ≡ xs
unfolding xor_bytes
xor_bytes-xor_bytes [] ys same = refl
xor_bytes-xor_bytes (x ∷ xs) [] same = absurd (omega arith)
xor_bytes-xor_bytes (x ∷ xs) (y ∷ ys) same =
    let head : bit_xor (bit_xor x y) y ≡ x = xor_assoc x y y ∙ ap (bit_xor x) (xor_self y) ∙ xor_zero_r x in
    λ i. head i ∷ xor_bytes-xor_bytes xs ys (omega arith) i

-- a state, written out
abbrev pub written_out : List ℕ → List ℕ
written_out s = get_or s 0 0 ∷ get_or s 1 0 ∷ get_or s 2 0 ∷ get_or s 3 0 ∷ get_or s 4 0 ∷ get_or s 5 0 ∷ get_or s 6 0 ∷ get_or s 7 0 ∷ get_or s 8 0 ∷ get_or s 9 0 ∷ get_or s 10 0 ∷ get_or s 11 0 ∷ get_or s 12 0 ∷ get_or s 13 0 ∷ get_or s 14 0 ∷ get_or s 15 0 ∷ []

pub cells : (s : List ℕ) → length s ≡ 16 → s ≡ written_out s
cells (x0 ∷ x1 ∷ x2 ∷ x3 ∷ x4 ∷ x5 ∷ x6 ∷ x7 ∷ x8 ∷ x9 ∷ x10 ∷ x11 ∷ x12 ∷ x13 ∷ x14 ∷ x15 ∷ []) same = refl
cells _ same = absurd (omega arith)

pub IsState-add_round_key : (s k : List ℕ) → IsState s → IsState k → IsState (add_round_key s k)
IsState-add_round_key s k is key = record {
  size = length-xor_bytes s k (is.size ∙ sym key.size) ∙ is.size;
  bytes = AllBytes-xor_bytes s k is.bytes key.bytes;
}

pub add_round_key_undone : (s k : List ℕ) → IsState s → IsState k → add_round_key (add_round_key s k) k ≡ s
add_round_key_undone s k is key = xor_bytes-xor_bytes s k (is.size ∙ sym key.size)

pub IsState-sub_bytes : (s : List ℕ) → IsState s → IsState (sub_bytes s)
IsState-sub_bytes s is = record {
  size = length-map s sub_byte ∙ is.size;
  bytes = AllBytes-map sub_byte sub_byte-lt s is.bytes;
}

pub inverse_sub_bytes-sub_bytes : (s : List ℕ) → IsState s → inverse_sub_bytes (sub_bytes s) ≡ s
inverse_sub_bytes-sub_bytes s is = map_undone sub_byte inverse_sub_byte inverse_sub_byte-sub_byte s is.bytes

pub IsState-inverse_sub_bytes : (s : List ℕ) → IsState s → IsState (inverse_sub_bytes s)
IsState-inverse_sub_bytes s is = record {
  size = length-map s inverse_sub_byte ∙ is.size;
  bytes = AllBytes-map inverse_sub_byte inverse_sub_byte-lt s is.bytes;
}

pub sub_bytes-inverse_sub_bytes : (s : List ℕ) → IsState s → sub_bytes (inverse_sub_bytes s) ≡ s
sub_bytes-inverse_sub_bytes s is = map_undone inverse_sub_byte sub_byte sub_byte-inverse_sub_byte s is.bytes

pub IsState-shift_rows : (s : List ℕ) → IsState s → IsState (shift_rows s)
unfolding shift_rows
IsState-shift_rows s is = record {
  size = refl;
  bytes = (byte_lt s is.bytes 0, (byte_lt s is.bytes 5, (byte_lt s is.bytes 10, (byte_lt s is.bytes 15, (byte_lt s is.bytes 4, (byte_lt s is.bytes 9, (byte_lt s is.bytes 14, (byte_lt s is.bytes 3, (byte_lt s is.bytes 8, (byte_lt s is.bytes 13, (byte_lt s is.bytes 2, (byte_lt s is.bytes 7, (byte_lt s is.bytes 12, (byte_lt s is.bytes 1, (byte_lt s is.bytes 6, (byte_lt s is.bytes 11, tt))))))))))))))));
}

pub inverse_shift_rows-shift_rows : (s : List ℕ) → IsState s → inverse_shift_rows (shift_rows s) ≡ s
unfolding shift_rows inverse_shift_rows
inverse_shift_rows-shift_rows s is = sym (cells s is.size)

pub IsState-inverse_shift_rows : (s : List ℕ) → IsState s → IsState (inverse_shift_rows s)
unfolding inverse_shift_rows
IsState-inverse_shift_rows s is = record {
  size = refl;
  bytes = (byte_lt s is.bytes 0, (byte_lt s is.bytes 13, (byte_lt s is.bytes 10, (byte_lt s is.bytes 7, (byte_lt s is.bytes 4, (byte_lt s is.bytes 1, (byte_lt s is.bytes 14, (byte_lt s is.bytes 11, (byte_lt s is.bytes 8, (byte_lt s is.bytes 5, (byte_lt s is.bytes 2, (byte_lt s is.bytes 15, (byte_lt s is.bytes 12, (byte_lt s is.bytes 9, (byte_lt s is.bytes 6, (byte_lt s is.bytes 3, tt))))))))))))))));
}

pub shift_rows-inverse_shift_rows : (s : List ℕ) → IsState s → shift_rows (inverse_shift_rows s) ≡ s
unfolding shift_rows inverse_shift_rows
shift_rows-inverse_shift_rows s is = sym (cells s is.size)

xor4_lt : (a b c d : ℕ) → a < 256 → b < 256 → c < 256 → d < 256 → xor4 a b c d < 256
xor4_lt a b c d la lb lc ld =
    xor_of_8 (bit_xor (bit_xor a b) c) d (xor_of_8 (bit_xor a b) c (xor_of_8 a b la lb) lc) ld

times_1_test : passes_below 256 (λ x. ltb (mul 1 x) 256) ≡ true
unfolding mul product remainder
times_1_test = refl

times_1_lt : (x : ℕ) → x < 256 → mul 1 x < 256
times_1_lt = bounded_below 256 256 (mul 1) times_1_test

times_2_test : passes_below 256 (λ x. ltb (mul 2 x) 256) ≡ true
unfolding mul product remainder
times_2_test = refl

times_2_lt : (x : ℕ) → x < 256 → mul 2 x < 256
times_2_lt = bounded_below 256 256 (mul 2) times_2_test

times_3_test : passes_below 256 (λ x. ltb (mul 3 x) 256) ≡ true
unfolding mul product remainder
times_3_test = refl

times_3_lt : (x : ℕ) → x < 256 → mul 3 x < 256
times_3_lt = bounded_below 256 256 (mul 3) times_3_test

times_9_test : passes_below 256 (λ x. ltb (mul 9 x) 256) ≡ true
unfolding mul product remainder
times_9_test = refl

times_9_lt : (x : ℕ) → x < 256 → mul 9 x < 256
times_9_lt = bounded_below 256 256 (mul 9) times_9_test

times_11_test : passes_below 256 (λ x. ltb (mul 11 x) 256) ≡ true
unfolding mul product remainder
times_11_test = refl

times_11_lt : (x : ℕ) → x < 256 → mul 11 x < 256
times_11_lt = bounded_below 256 256 (mul 11) times_11_test

times_13_test : passes_below 256 (λ x. ltb (mul 13 x) 256) ≡ true
unfolding mul product remainder
times_13_test = refl

times_13_lt : (x : ℕ) → x < 256 → mul 13 x < 256
times_13_lt = bounded_below 256 256 (mul 13) times_13_test

times_14_test : passes_below 256 (λ x. ltb (mul 14 x) 256) ≡ true
unfolding mul product remainder
times_14_test = refl

times_14_lt : (x : ℕ) → x < 256 → mul 14 x < 256
times_14_lt = bounded_below 256 256 (mul 14) times_14_test

row_0_lt : (b0 b1 b2 b3 : ℕ) → b0 < 256 → b1 < 256 → b2 < 256 → b3 < 256 → word_product_row mix_word 0 b0 b1 b2 b3 < 256
row_0_lt b0 b1 b2 b3 l0 l1 l2 l3 =
    xor4_lt (mul 2 b0) (mul 3 b1) (mul 1 b2) (mul 1 b3)
    (times_2_lt b0 l0) (times_3_lt b1 l1) (times_1_lt b2 l2) (times_1_lt b3 l3)

row_1_lt : (b0 b1 b2 b3 : ℕ) → b0 < 256 → b1 < 256 → b2 < 256 → b3 < 256 → word_product_row mix_word 1 b0 b1 b2 b3 < 256
row_1_lt b0 b1 b2 b3 l0 l1 l2 l3 =
    xor4_lt (mul 1 b0) (mul 2 b1) (mul 3 b2) (mul 1 b3)
    (times_1_lt b0 l0) (times_2_lt b1 l1) (times_3_lt b2 l2) (times_1_lt b3 l3)

row_2_lt : (b0 b1 b2 b3 : ℕ) → b0 < 256 → b1 < 256 → b2 < 256 → b3 < 256 → word_product_row mix_word 2 b0 b1 b2 b3 < 256
row_2_lt b0 b1 b2 b3 l0 l1 l2 l3 =
    xor4_lt (mul 1 b0) (mul 1 b1) (mul 2 b2) (mul 3 b3)
    (times_1_lt b0 l0) (times_1_lt b1 l1) (times_2_lt b2 l2) (times_3_lt b3 l3)

row_3_lt : (b0 b1 b2 b3 : ℕ) → b0 < 256 → b1 < 256 → b2 < 256 → b3 < 256 → word_product_row mix_word 3 b0 b1 b2 b3 < 256
row_3_lt b0 b1 b2 b3 l0 l1 l2 l3 =
    xor4_lt (mul 3 b0) (mul 1 b1) (mul 1 b2) (mul 2 b3)
    (times_3_lt b0 l0) (times_1_lt b1 l1) (times_1_lt b2 l2) (times_2_lt b3 l3)

pub IsState-mix_columns : (s : List ℕ) → IsState s → IsState (mix_columns s)
unfolding mix_columns
IsState-mix_columns s is = record {
  size = refl;
  bytes = (
    row_0_lt _ _ _ _ (byte_lt s is.bytes 0) (byte_lt s is.bytes 1) (byte_lt s is.bytes 2) (byte_lt s is.bytes 3),
    (
      row_1_lt _ _ _ _ (byte_lt s is.bytes 0) (byte_lt s is.bytes 1) (byte_lt s is.bytes 2) (byte_lt s is.bytes 3),
      (
        row_2_lt _ _ _ _ (byte_lt s is.bytes 0) (byte_lt s is.bytes 1) (byte_lt s is.bytes 2) (byte_lt s is.bytes 3),
        (
          row_3_lt _ _ _ _ (byte_lt s is.bytes 0) (byte_lt s is.bytes 1) (byte_lt s is.bytes 2) (byte_lt s is.bytes 3),
          (
            row_0_lt _ _ _ _ (byte_lt s is.bytes 4) (byte_lt s is.bytes 5) (byte_lt s is.bytes 6) (byte_lt s is.bytes 7),
            (
              row_1_lt _ _ _ _ (byte_lt s is.bytes 4) (byte_lt s is.bytes 5) (byte_lt s is.bytes 6) (byte_lt s is.bytes 7),
              (
                row_2_lt _ _ _ _ (byte_lt s is.bytes 4) (byte_lt s is.bytes 5) (byte_lt s is.bytes 6) (byte_lt s is.bytes 7),
                (
                  row_3_lt _ _ _ _ (byte_lt s is.bytes 4) (byte_lt s is.bytes 5) (byte_lt s is.bytes 6) (byte_lt s is.bytes 7),
                  (
                    row_0_lt _ _ _ _ (byte_lt s is.bytes 8) (byte_lt s is.bytes 9) (byte_lt s is.bytes 10) (byte_lt s is.bytes 11),
                    (
                      row_1_lt _ _ _ _ (byte_lt s is.bytes 8) (byte_lt s is.bytes 9) (byte_lt s is.bytes 10) (byte_lt s is.bytes 11),
                      (
                        row_2_lt _ _ _ _ (byte_lt s is.bytes 8) (byte_lt s is.bytes 9) (byte_lt s is.bytes 10) (byte_lt s is.bytes 11),
                        (
                          row_3_lt _ _ _ _ (byte_lt s is.bytes 8) (byte_lt s is.bytes 9) (byte_lt s is.bytes 10) (byte_lt s is.bytes 11),
                          (
                            row_0_lt _ _ _ _ (byte_lt s is.bytes 12) (byte_lt s is.bytes 13) (byte_lt s is.bytes 14) (byte_lt s is.bytes 15),
                            (
                              row_1_lt _ _ _ _ (byte_lt s is.bytes 12) (byte_lt s is.bytes 13) (byte_lt s is.bytes 14) (byte_lt s is.bytes 15),
                              (
                                row_2_lt _ _ _ _ (byte_lt s is.bytes 12) (byte_lt s is.bytes 13) (byte_lt s is.bytes 14) (byte_lt s is.bytes 15),
                                (
                                  row_3_lt _ _ _ _ (byte_lt s is.bytes 12) (byte_lt s is.bytes 13) (byte_lt s is.bytes 14) (byte_lt s is.bytes 15),
                                  tt,
                                ),
                              ),
                            ),
                          ),
                        ),
                      ),
                    ),
                  ),
                ),
              ),
            ),
          ),
        ),
      ),
    ),
  );
}

pub inverse_mix_columns-mix_columns : (s : List ℕ) → IsState s → inverse_mix_columns (mix_columns s) ≡ s
unfolding mix_columns inverse_mix_columns
inverse_mix_columns-mix_columns s is =
    (λ i. undone_row_0 (get_or s 0 0) (get_or s 1 0) (get_or s 2 0) (get_or s 3 0) (byte_lt s is.bytes 0) (byte_lt s is.bytes 1) (byte_lt s is.bytes 2) (byte_lt s is.bytes 3) i ∷
    undone_row_1 (get_or s 0 0) (get_or s 1 0) (get_or s 2 0) (get_or s 3 0) (byte_lt s is.bytes 0) (byte_lt s is.bytes 1) (byte_lt s is.bytes 2) (byte_lt s is.bytes 3) i ∷
    undone_row_2 (get_or s 0 0) (get_or s 1 0) (get_or s 2 0) (get_or s 3 0) (byte_lt s is.bytes 0) (byte_lt s is.bytes 1) (byte_lt s is.bytes 2) (byte_lt s is.bytes 3) i ∷
    undone_row_3 (get_or s 0 0) (get_or s 1 0) (get_or s 2 0) (get_or s 3 0) (byte_lt s is.bytes 0) (byte_lt s is.bytes 1) (byte_lt s is.bytes 2) (byte_lt s is.bytes 3) i ∷
    undone_row_0 (get_or s 4 0) (get_or s 5 0) (get_or s 6 0) (get_or s 7 0) (byte_lt s is.bytes 4) (byte_lt s is.bytes 5) (byte_lt s is.bytes 6) (byte_lt s is.bytes 7) i ∷
    undone_row_1 (get_or s 4 0) (get_or s 5 0) (get_or s 6 0) (get_or s 7 0) (byte_lt s is.bytes 4) (byte_lt s is.bytes 5) (byte_lt s is.bytes 6) (byte_lt s is.bytes 7) i ∷
    undone_row_2 (get_or s 4 0) (get_or s 5 0) (get_or s 6 0) (get_or s 7 0) (byte_lt s is.bytes 4) (byte_lt s is.bytes 5) (byte_lt s is.bytes 6) (byte_lt s is.bytes 7) i ∷
    undone_row_3 (get_or s 4 0) (get_or s 5 0) (get_or s 6 0) (get_or s 7 0) (byte_lt s is.bytes 4) (byte_lt s is.bytes 5) (byte_lt s is.bytes 6) (byte_lt s is.bytes 7) i ∷
    undone_row_0 (get_or s 8 0) (get_or s 9 0) (get_or s 10 0) (get_or s 11 0) (byte_lt s is.bytes 8) (byte_lt s is.bytes 9) (byte_lt s is.bytes 10) (byte_lt s is.bytes 11) i ∷
    undone_row_1 (get_or s 8 0) (get_or s 9 0) (get_or s 10 0) (get_or s 11 0) (byte_lt s is.bytes 8) (byte_lt s is.bytes 9) (byte_lt s is.bytes 10) (byte_lt s is.bytes 11) i ∷
    undone_row_2 (get_or s 8 0) (get_or s 9 0) (get_or s 10 0) (get_or s 11 0) (byte_lt s is.bytes 8) (byte_lt s is.bytes 9) (byte_lt s is.bytes 10) (byte_lt s is.bytes 11) i ∷
    undone_row_3 (get_or s 8 0) (get_or s 9 0) (get_or s 10 0) (get_or s 11 0) (byte_lt s is.bytes 8) (byte_lt s is.bytes 9) (byte_lt s is.bytes 10) (byte_lt s is.bytes 11) i ∷
    undone_row_0 (get_or s 12 0) (get_or s 13 0) (get_or s 14 0) (get_or s 15 0) (byte_lt s is.bytes 12) (byte_lt s is.bytes 13) (byte_lt s is.bytes 14) (byte_lt s is.bytes 15) i ∷
    undone_row_1 (get_or s 12 0) (get_or s 13 0) (get_or s 14 0) (get_or s 15 0) (byte_lt s is.bytes 12) (byte_lt s is.bytes 13) (byte_lt s is.bytes 14) (byte_lt s is.bytes 15) i ∷
    undone_row_2 (get_or s 12 0) (get_or s 13 0) (get_or s 14 0) (get_or s 15 0) (byte_lt s is.bytes 12) (byte_lt s is.bytes 13) (byte_lt s is.bytes 14) (byte_lt s is.bytes 15) i ∷
    undone_row_3 (get_or s 12 0) (get_or s 13 0) (get_or s 14 0) (get_or s 15 0) (byte_lt s is.bytes 12) (byte_lt s is.bytes 13) (byte_lt s is.bytes 14) (byte_lt s is.bytes 15) i ∷ [])
    ∙ sym (cells s is.size)

inverse_row_0_lt : (b0 b1 b2 b3 : ℕ) → b0 < 256 → b1 < 256 → b2 < 256 → b3 < 256 → word_product_row inverse_mix_word 0 b0 b1 b2 b3 < 256
inverse_row_0_lt b0 b1 b2 b3 l0 l1 l2 l3 =
    xor4_lt (mul 14 b0) (mul 11 b1) (mul 13 b2) (mul 9 b3)
    (times_14_lt b0 l0) (times_11_lt b1 l1) (times_13_lt b2 l2) (times_9_lt b3 l3)

inverse_row_1_lt : (b0 b1 b2 b3 : ℕ) → b0 < 256 → b1 < 256 → b2 < 256 → b3 < 256 → word_product_row inverse_mix_word 1 b0 b1 b2 b3 < 256
inverse_row_1_lt b0 b1 b2 b3 l0 l1 l2 l3 =
    xor4_lt (mul 9 b0) (mul 14 b1) (mul 11 b2) (mul 13 b3)
    (times_9_lt b0 l0) (times_14_lt b1 l1) (times_11_lt b2 l2) (times_13_lt b3 l3)

inverse_row_2_lt : (b0 b1 b2 b3 : ℕ) → b0 < 256 → b1 < 256 → b2 < 256 → b3 < 256 → word_product_row inverse_mix_word 2 b0 b1 b2 b3 < 256
inverse_row_2_lt b0 b1 b2 b3 l0 l1 l2 l3 =
    xor4_lt (mul 13 b0) (mul 9 b1) (mul 14 b2) (mul 11 b3)
    (times_13_lt b0 l0) (times_9_lt b1 l1) (times_14_lt b2 l2) (times_11_lt b3 l3)

inverse_row_3_lt : (b0 b1 b2 b3 : ℕ) → b0 < 256 → b1 < 256 → b2 < 256 → b3 < 256 → word_product_row inverse_mix_word 3 b0 b1 b2 b3 < 256
inverse_row_3_lt b0 b1 b2 b3 l0 l1 l2 l3 =
    xor4_lt (mul 11 b0) (mul 13 b1) (mul 9 b2) (mul 14 b3)
    (times_11_lt b0 l0) (times_13_lt b1 l1) (times_9_lt b2 l2) (times_14_lt b3 l3)

pub IsState-inverse_mix_columns : (s : List ℕ) → IsState s → IsState (inverse_mix_columns s)
unfolding inverse_mix_columns
IsState-inverse_mix_columns s is = record {
  size = refl;
  bytes = (
    inverse_row_0_lt _ _ _ _ (byte_lt s is.bytes 0) (byte_lt s is.bytes 1) (byte_lt s is.bytes 2) (byte_lt s is.bytes 3),
    (
      inverse_row_1_lt _ _ _ _ (byte_lt s is.bytes 0) (byte_lt s is.bytes 1) (byte_lt s is.bytes 2) (byte_lt s is.bytes 3),
      (
        inverse_row_2_lt _ _ _ _ (byte_lt s is.bytes 0) (byte_lt s is.bytes 1) (byte_lt s is.bytes 2) (byte_lt s is.bytes 3),
        (
          inverse_row_3_lt _ _ _ _ (byte_lt s is.bytes 0) (byte_lt s is.bytes 1) (byte_lt s is.bytes 2) (byte_lt s is.bytes 3),
          (
            inverse_row_0_lt _ _ _ _ (byte_lt s is.bytes 4) (byte_lt s is.bytes 5) (byte_lt s is.bytes 6) (byte_lt s is.bytes 7),
            (
              inverse_row_1_lt _ _ _ _ (byte_lt s is.bytes 4) (byte_lt s is.bytes 5) (byte_lt s is.bytes 6) (byte_lt s is.bytes 7),
              (
                inverse_row_2_lt _ _ _ _ (byte_lt s is.bytes 4) (byte_lt s is.bytes 5) (byte_lt s is.bytes 6) (byte_lt s is.bytes 7),
                (
                  inverse_row_3_lt _ _ _ _ (byte_lt s is.bytes 4) (byte_lt s is.bytes 5) (byte_lt s is.bytes 6) (byte_lt s is.bytes 7),
                  (
                    inverse_row_0_lt _ _ _ _ (byte_lt s is.bytes 8) (byte_lt s is.bytes 9) (byte_lt s is.bytes 10) (byte_lt s is.bytes 11),
                    (
                      inverse_row_1_lt _ _ _ _ (byte_lt s is.bytes 8) (byte_lt s is.bytes 9) (byte_lt s is.bytes 10) (byte_lt s is.bytes 11),
                      (
                        inverse_row_2_lt _ _ _ _ (byte_lt s is.bytes 8) (byte_lt s is.bytes 9) (byte_lt s is.bytes 10) (byte_lt s is.bytes 11),
                        (
                          inverse_row_3_lt _ _ _ _ (byte_lt s is.bytes 8) (byte_lt s is.bytes 9) (byte_lt s is.bytes 10) (byte_lt s is.bytes 11),
                          (
                            inverse_row_0_lt _ _ _ _ (byte_lt s is.bytes 12) (byte_lt s is.bytes 13) (byte_lt s is.bytes 14) (byte_lt s is.bytes 15),
                            (
                              inverse_row_1_lt _ _ _ _ (byte_lt s is.bytes 12) (byte_lt s is.bytes 13) (byte_lt s is.bytes 14) (byte_lt s is.bytes 15),
                              (
                                inverse_row_2_lt _ _ _ _ (byte_lt s is.bytes 12) (byte_lt s is.bytes 13) (byte_lt s is.bytes 14) (byte_lt s is.bytes 15),
                                (
                                  inverse_row_3_lt _ _ _ _ (byte_lt s is.bytes 12) (byte_lt s is.bytes 13) (byte_lt s is.bytes 14) (byte_lt s is.bytes 15),
                                  tt,
                                ),
                              ),
                            ),
                          ),
                        ),
                      ),
                    ),
                  ),
                ),
              ),
            ),
          ),
        ),
      ),
    ),
  );
}

pub mix_columns-inverse_mix_columns : (s : List ℕ) → IsState s → mix_columns (inverse_mix_columns s) ≡ s
unfolding mix_columns inverse_mix_columns
mix_columns-inverse_mix_columns s is =
    (λ i. redone_row_0 (get_or s 0 0) (get_or s 1 0) (get_or s 2 0) (get_or s 3 0) (byte_lt s is.bytes 0) (byte_lt s is.bytes 1) (byte_lt s is.bytes 2) (byte_lt s is.bytes 3) i ∷
    redone_row_1 (get_or s 0 0) (get_or s 1 0) (get_or s 2 0) (get_or s 3 0) (byte_lt s is.bytes 0) (byte_lt s is.bytes 1) (byte_lt s is.bytes 2) (byte_lt s is.bytes 3) i ∷
    redone_row_2 (get_or s 0 0) (get_or s 1 0) (get_or s 2 0) (get_or s 3 0) (byte_lt s is.bytes 0) (byte_lt s is.bytes 1) (byte_lt s is.bytes 2) (byte_lt s is.bytes 3) i ∷
    redone_row_3 (get_or s 0 0) (get_or s 1 0) (get_or s 2 0) (get_or s 3 0) (byte_lt s is.bytes 0) (byte_lt s is.bytes 1) (byte_lt s is.bytes 2) (byte_lt s is.bytes 3) i ∷
    redone_row_0 (get_or s 4 0) (get_or s 5 0) (get_or s 6 0) (get_or s 7 0) (byte_lt s is.bytes 4) (byte_lt s is.bytes 5) (byte_lt s is.bytes 6) (byte_lt s is.bytes 7) i ∷
    redone_row_1 (get_or s 4 0) (get_or s 5 0) (get_or s 6 0) (get_or s 7 0) (byte_lt s is.bytes 4) (byte_lt s is.bytes 5) (byte_lt s is.bytes 6) (byte_lt s is.bytes 7) i ∷
    redone_row_2 (get_or s 4 0) (get_or s 5 0) (get_or s 6 0) (get_or s 7 0) (byte_lt s is.bytes 4) (byte_lt s is.bytes 5) (byte_lt s is.bytes 6) (byte_lt s is.bytes 7) i ∷
    redone_row_3 (get_or s 4 0) (get_or s 5 0) (get_or s 6 0) (get_or s 7 0) (byte_lt s is.bytes 4) (byte_lt s is.bytes 5) (byte_lt s is.bytes 6) (byte_lt s is.bytes 7) i ∷
    redone_row_0 (get_or s 8 0) (get_or s 9 0) (get_or s 10 0) (get_or s 11 0) (byte_lt s is.bytes 8) (byte_lt s is.bytes 9) (byte_lt s is.bytes 10) (byte_lt s is.bytes 11) i ∷
    redone_row_1 (get_or s 8 0) (get_or s 9 0) (get_or s 10 0) (get_or s 11 0) (byte_lt s is.bytes 8) (byte_lt s is.bytes 9) (byte_lt s is.bytes 10) (byte_lt s is.bytes 11) i ∷
    redone_row_2 (get_or s 8 0) (get_or s 9 0) (get_or s 10 0) (get_or s 11 0) (byte_lt s is.bytes 8) (byte_lt s is.bytes 9) (byte_lt s is.bytes 10) (byte_lt s is.bytes 11) i ∷
    redone_row_3 (get_or s 8 0) (get_or s 9 0) (get_or s 10 0) (get_or s 11 0) (byte_lt s is.bytes 8) (byte_lt s is.bytes 9) (byte_lt s is.bytes 10) (byte_lt s is.bytes 11) i ∷
    redone_row_0 (get_or s 12 0) (get_or s 13 0) (get_or s 14 0) (get_or s 15 0) (byte_lt s is.bytes 12) (byte_lt s is.bytes 13) (byte_lt s is.bytes 14) (byte_lt s is.bytes 15) i ∷
    redone_row_1 (get_or s 12 0) (get_or s 13 0) (get_or s 14 0) (get_or s 15 0) (byte_lt s is.bytes 12) (byte_lt s is.bytes 13) (byte_lt s is.bytes 14) (byte_lt s is.bytes 15) i ∷
    redone_row_2 (get_or s 12 0) (get_or s 13 0) (get_or s 14 0) (get_or s 15 0) (byte_lt s is.bytes 12) (byte_lt s is.bytes 13) (byte_lt s is.bytes 14) (byte_lt s is.bytes 15) i ∷
    redone_row_3 (get_or s 12 0) (get_or s 13 0) (get_or s 14 0) (get_or s 15 0) (byte_lt s is.bytes 12) (byte_lt s is.bytes 13) (byte_lt s is.bytes 14) (byte_lt s is.bytes 15) i ∷ [])
    ∙ sym (cells s is.size)

xor_written_out : (s k : List ℕ) → inverse_mix_columns (xor_bytes (written_out s) (written_out k)) ≡ xor_bytes (inverse_mix_columns (written_out s)) (inverse_mix_columns (written_out k))
unfolding inverse_mix_columns xor_bytes
xor_written_out s k = λ i. word_product_row-xor inverse_mix_word 0 (get_or s 0 0) (get_or s 1 0) (get_or s 2 0) (get_or s 3 0) (get_or k 0 0) (get_or k 1 0) (get_or k 2 0) (get_or k 3 0) i ∷
    word_product_row-xor inverse_mix_word 1 (get_or s 0 0) (get_or s 1 0) (get_or s 2 0) (get_or s 3 0) (get_or k 0 0) (get_or k 1 0) (get_or k 2 0) (get_or k 3 0) i ∷
    word_product_row-xor inverse_mix_word 2 (get_or s 0 0) (get_or s 1 0) (get_or s 2 0) (get_or s 3 0) (get_or k 0 0) (get_or k 1 0) (get_or k 2 0) (get_or k 3 0) i ∷
    word_product_row-xor inverse_mix_word 3 (get_or s 0 0) (get_or s 1 0) (get_or s 2 0) (get_or s 3 0) (get_or k 0 0) (get_or k 1 0) (get_or k 2 0) (get_or k 3 0) i ∷
    word_product_row-xor inverse_mix_word 0 (get_or s 4 0) (get_or s 5 0) (get_or s 6 0) (get_or s 7 0) (get_or k 4 0) (get_or k 5 0) (get_or k 6 0) (get_or k 7 0) i ∷
    word_product_row-xor inverse_mix_word 1 (get_or s 4 0) (get_or s 5 0) (get_or s 6 0) (get_or s 7 0) (get_or k 4 0) (get_or k 5 0) (get_or k 6 0) (get_or k 7 0) i ∷
    word_product_row-xor inverse_mix_word 2 (get_or s 4 0) (get_or s 5 0) (get_or s 6 0) (get_or s 7 0) (get_or k 4 0) (get_or k 5 0) (get_or k 6 0) (get_or k 7 0) i ∷
    word_product_row-xor inverse_mix_word 3 (get_or s 4 0) (get_or s 5 0) (get_or s 6 0) (get_or s 7 0) (get_or k 4 0) (get_or k 5 0) (get_or k 6 0) (get_or k 7 0) i ∷
    word_product_row-xor inverse_mix_word 0 (get_or s 8 0) (get_or s 9 0) (get_or s 10 0) (get_or s 11 0) (get_or k 8 0) (get_or k 9 0) (get_or k 10 0) (get_or k 11 0) i ∷
    word_product_row-xor inverse_mix_word 1 (get_or s 8 0) (get_or s 9 0) (get_or s 10 0) (get_or s 11 0) (get_or k 8 0) (get_or k 9 0) (get_or k 10 0) (get_or k 11 0) i ∷
    word_product_row-xor inverse_mix_word 2 (get_or s 8 0) (get_or s 9 0) (get_or s 10 0) (get_or s 11 0) (get_or k 8 0) (get_or k 9 0) (get_or k 10 0) (get_or k 11 0) i ∷
    word_product_row-xor inverse_mix_word 3 (get_or s 8 0) (get_or s 9 0) (get_or s 10 0) (get_or s 11 0) (get_or k 8 0) (get_or k 9 0) (get_or k 10 0) (get_or k 11 0) i ∷
    word_product_row-xor inverse_mix_word 0 (get_or s 12 0) (get_or s 13 0) (get_or s 14 0) (get_or s 15 0) (get_or k 12 0) (get_or k 13 0) (get_or k 14 0) (get_or k 15 0) i ∷
    word_product_row-xor inverse_mix_word 1 (get_or s 12 0) (get_or s 13 0) (get_or s 14 0) (get_or s 15 0) (get_or k 12 0) (get_or k 13 0) (get_or k 14 0) (get_or k 15 0) i ∷
    word_product_row-xor inverse_mix_word 2 (get_or s 12 0) (get_or s 13 0) (get_or s 14 0) (get_or s 15 0) (get_or k 12 0) (get_or k 13 0) (get_or k 14 0) (get_or k 15 0) i ∷
    word_product_row-xor inverse_mix_word 3 (get_or s 12 0) (get_or s 13 0) (get_or s 14 0) (get_or s 15 0) (get_or k 12 0) (get_or k 13 0) (get_or k 14 0) (get_or k 15 0) i ∷ []

-- InvMixColumns() of a sum is the sum of the InvMixColumns() (5.3.5)
pub inverse_mix_columns-xor_bytes : (s k : List ℕ) → length s ≡ 16 → length k ≡ 16
    → inverse_mix_columns (xor_bytes s k) ≡ xor_bytes (inverse_mix_columns s) (inverse_mix_columns k)
inverse_mix_columns-xor_bytes s k ss sk =
    (λ i. inverse_mix_columns (xor_bytes (cells s ss i) (cells k sk i)))
    ∙ xor_written_out s k
    ∙ sym (λ i. xor_bytes (inverse_mix_columns (cells s ss i)) (inverse_mix_columns (cells k sk i)))
