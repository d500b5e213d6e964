-- Lemmas on the key's block and the pads.
use Rattle.std.proofs.Common.{◌≡◌, ℕ, ◌+◌, ◌<◌, ◌≤◌, List, [], ◌∷◌, ◌++◌, length, map, take, drop, replicate, set, get_or, bit_xor, refl, ap, arith, subst, ◌∙◌}
use Rattle.std.proofs.lemmas.List.{get_or_default, length-map}
use Rattle.std.proofs.lemmas.List.Edits.{map_over_more}
use Rattle.std.proofs.lemmas.Grind.{common_steps}
use Rattle.std.proofs.lemmas.Bool.Decides.{nat_tests}
use Rattle.sha2.specs.Sha256.{sha256}
use Rattle.hmac_tag.specs.Hmac.{block_key, exclusive_or, hmac, zero_filled_bytes}

-- the exclusive or with a repeated byte is that of each byte with this byte
exclusive_or-repeated : (xs : List ℕ) (b : ℕ) → exclusive_or xs (replicate (length xs) b) ≡ map (λ x. bit_xor x b) xs
exclusive_or-repeated [] b = refl
exclusive_or-repeated (x ∷ xs) b = ap (λ ys. bit_xor x b ∷ ys) (exclusive_or-repeated xs b)

exclusive_or-replicate : (xs : List ℕ) (n b : ℕ) → length xs ≡ n → exclusive_or xs (replicate n b) ≡ map (λ x. bit_xor x b) xs
exclusive_or-replicate xs n b e = subst (λ (k : ℕ). exclusive_or xs (replicate k b) ≡ map (λ x. bit_xor x b) xs) e (exclusive_or-repeated xs b)

-- one more byte of a loop over the bytes
pub exclusive_or-more : (xs ys : List ℕ) (i b : ℕ) → length xs ≡ 64 → i < 64
    → ys ≡ map (λ x. bit_xor x b) (take i xs) ++ drop i xs
    → set ys i (bit_xor (get_or ys i 0) b) ≡ map (λ x. bit_xor x b) (take (i + 1) xs) ++ drop (i + 1) xs
exclusive_or-more xs ys i b n h e =
    let within : i < length xs = omega (arith, n) in
    let same : length ys ≡ length xs =
    ap length e ∙ grind (arith, common_steps, length-map (take i xs) (λ x. bit_xor x b)) in
    let inside : i < length ys = omega arith in
    map_over_more (λ x. bit_xor x b) xs ys i (get_or ys i 0) within e (get_or_default ys i 0 (get_or ys i 0) inside)

-- the result of a loop over all bytes
pub exclusive_or-whole : (xs ys : List ℕ) (i b : ℕ) → length xs ≡ 64 → 64 ≤ i
    → ys ≡ map (λ x. bit_xor x b) (take i xs) ++ drop i xs → ys ≡ exclusive_or xs (replicate 64 b)
exclusive_or-whole xs ys i b n h e =
    let whole : take i xs ≡ xs = grind (arith, common_steps) in
    let none : drop i xs ≡ [] = grind (arith, common_steps) in
    let over : exclusive_or xs (replicate 64 b) ≡ map (λ x. bit_xor x b) xs = exclusive_or-replicate xs 64 b n in
    grind (arith, common_steps)

-- a key of at most one block is padded with zeros; a key of exactly one block gets none
pub block_key-short : (key : List ℕ) → length key ≤ 64 → block_key key ≡ zero_filled_bytes key
unfolding block_key
block_key-short key h = grind (arith, nat_tests, common_steps)

-- a longer key is replaced by its digest
pub block_key-long : (key : List ℕ) → 64 < length key → block_key key ≡ zero_filled_bytes (sha256 key)
unfolding block_key
block_key-long key h = grind (arith, nat_tests, common_steps)

pub ruleset block_keys = (block_key-short, block_key-long)

-- the tag, step by step
pub hmac-by_steps : (key text block inner digest outer tag : List ℕ) → block ≡ block_key key
    → inner ≡ exclusive_or block (replicate 64 0x36) → digest ≡ sha256 (inner ++ text)
    → outer ≡ exclusive_or block (replicate 64 0x5C) → tag ≡ sha256 (outer ++ digest) → tag ≡ hmac key text
unfolding hmac
hmac-by_steps key text block inner digest outer tag a b c d e = e ∙ ap sha256 (ap (λ x. x ++ digest) (d ∙ ap (λ x. exclusive_or x (replicate 64 0x5C)) a) ∙ ap (λ x. exclusive_or (block_key key) (replicate 64 0x5C) ++ x) (c ∙ ap sha256 (ap (λ x. x ++ text) (b ∙ ap (λ x. exclusive_or x (replicate 64 0x36)) a))))
