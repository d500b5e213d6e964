-- The loop that expands a key: the words so far are those of the definition.
use Rattle.std.proofs.Common.{◌≡◌, ℕ, suc, ◌+◌, ◌-◌, ◌*◌, ◌/◌, ◌<◌, ◌≤◌, List, [], ◌∷◌, ◌++◌, length, map, take, set, get_or, sym, ap, ◌∙◌, arith}
use Rattle.std.proofs.lemmas.List.{take_more_set, map-append, get_or-map, get_or-take, length-take-le}
use Rattle.aes_block.specs.Aes.{key_words, expansion_step, next_word, expanded_words, key_expansion, xor_bytes}
use Rattle.aes_block.specs.inside.ColumnWords.{word_bytes}

-- word k of a prefix of the words
word_of_prefix : (ws : List ℕ) (i k : ℕ) → i ≤ length ws → k < i → get_or (map word_bytes (take i ws)) k [] ≡ word_bytes (get_or ws k 0)
word_of_prefix ws i k le lt =
    let shorter : k < length (take i ws) = omega (arith, length-take-le i ws le) in
    get_or-map word_bytes (take i ws) k 0 [] shorter ∙ ap word_bytes (get_or-take i ws k 0 lt)

-- one more word
expanded_words_more : (key : List ℕ) (i : ℕ) → length key ≡ 16 → 4 ≤ i
    → expanded_words key (i + 1 - 4) ≡ expanded_words key (i - 4) ++ next_word 4 (expanded_words key (i - 4)) i ∷ []
unfolding expanded_words
expanded_words_more key i size le =
    let nk : key_words key ≡ 4 = ap (λ (n : ℕ). n / 4) size in
    let next : i + 1 - 4 ≡ suc (i - 4) = omega arith in
    let at : 4 + (i - 4) ≡ i = omega arith in
    ap (expanded_words key) next
    ∙ ap (λ (n : ℕ). expanded_words key (i - 4) ++ next_word n (expanded_words key (i - 4)) (n + (i - 4)) ∷ []) nk
    ∙ ap (λ (n : ℕ). expanded_words key (i - 4) ++ next_word 4 (expanded_words key (i - 4)) n ∷ []) at

pub expansion_more : (key ws : List ℕ) (i v : ℕ) → length key ≡ 16 → 4 ≤ i → i < length ws
    → map word_bytes (take i ws) ≡ expanded_words key (i - 4)
    → word_bytes v ≡ xor_bytes (word_bytes (get_or ws (i - 4) 0)) (expansion_step 4 i (word_bytes (get_or ws (i - 1) 0)))
    → map word_bytes (take (i + 1) (set ws i v)) ≡ expanded_words key (i + 1 - 4)
expansion_more key ws i v size le lt before made =
    let f : List ℕ = take i ws in
    let far : get_or (map word_bytes f) (i - 4) [] ≡ word_bytes (get_or ws (i - 4) 0) = word_of_prefix ws i (i - 4) (omega arith) (omega arith) in
    let near : get_or (map word_bytes f) (i - 1) [] ≡ word_bytes (get_or ws (i - 1) 0) = word_of_prefix ws i (i - 1) (omega arith) (omega arith) in
    ap (map word_bytes) (take_more_set ws i v lt)
    ∙ map-append word_bytes f (v ∷ [])
    ∙ ap (λ (l : List ℕ). map word_bytes f ++ l ∷ []) (made ∙ sym (λ j. xor_bytes (far j) (expansion_step 4 i (near j))))
    ∙ ap (λ (l : List (List ℕ)). l ++ next_word 4 l i ∷ []) before
    ∙ sym (expanded_words_more key i size le)

-- at the end each word is that of the key's expansion
pub expansion_all : (key ws : List ℕ) → length key ≡ 16 → length ws ≡ 44
    → map word_bytes (take 44 ws) ≡ expanded_words key (44 - 4)
    → (k : ℕ) → k < 44 → word_bytes (get_or ws k 0) ≡ get_or (key_expansion key) k []
unfolding key_expansion
expansion_all key ws size long all k lt =
    let count : ℕ → ℕ = λ n. 4 * (n / 4 + 6 + 1) - n / 4 in
    sym (word_of_prefix ws 44 k (omega arith) lt)
    ∙ ap (λ (l : List (List ℕ)). get_or l k []) (all ∙ ap (λ (n : ℕ). expanded_words key (count n)) (sym size))
