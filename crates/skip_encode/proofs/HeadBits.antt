-- The bits of a head, as the code appends them.
use Rattle.std.proofs.Common.{◌≡◌, ℕ, ◌-◌, Bool, true, List, [], ◌∷◌, ◌++◌, length, append_assoc, ap, sym, ◌∙◌}
use Rattle.acl_model.specs.StreamBits.{bits_of, bytes_of}
use Rattle.acl_model.specs.Width.{binary_length}
use Rattle.acl_model.specs.Stream.{rank, set_bits, head_bits}
use Rattle.acl_bits.specs.FilledBits.{bits_of as string_of, bytes_of as packed}
use Rattle.skip_encode.proofs.BitWords.{one_bit, bits_of-same, bytes_of-same}

-- The four parts of a head, appended in order, are its bits.
pub head_bits-put : (first second third all : List Bool) (members below : List ℕ) (w tag long digits number : ℕ)
    → first ≡ [] ++ string_of 1 1 → second ≡ first ++ string_of digits number → third ≡ second ++ set_bits members below → all ≡ third ++ string_of w long
    → digits ≡ binary_length (length members - 1) → number ≡ rank members tag → all ≡ head_bits members w tag below long
unfolding head_bits
head_bits-put first second third all members below w tag long digits number begun numbered set done many ranked =
    let prefix : first ≡ true ∷ [] = begun ∙ one_bit true in
    let own : second ≡ true ∷ bits_of (binary_length (length members - 1)) (rank members tag) =
    numbered ∙ ap (λ l. l ++ string_of digits number) prefix ∙ ap (λ l. true ∷ l) (sym (bits_of-same digits number))
    ∙ ap (λ n. true ∷ bits_of n number) many ∙ ap (λ n. true ∷ bits_of (binary_length (length members - 1)) n) ranked in
    done ∙ ap (λ l. l ++ string_of w long) (set ∙ ap (λ l. l ++ set_bits members below) own)
    ∙ ap (λ l. (true ∷ (bits_of (binary_length (length members - 1)) (rank members tag) ++ set_bits members below)) ++ l) (sym (bits_of-same w long))
    ∙ ap (λ l. true ∷ l) (append_assoc (bits_of (binary_length (length members - 1)) (rank members tag)) (set_bits members below) (bits_of w long))

-- Appending the bytes of these bits appends the bytes of the head.
pub head_bytes-put : (old new bytes : List ℕ) (all head : List Bool) → new ≡ old ++ bytes → bytes ≡ packed all → all ≡ head → new ≡ old ++ bytes_of head
head_bytes-put old new bytes all head grown made is =
    grown ∙ ap (λ l. old ++ l) (made ∙ sym (bytes_of-same all) ∙ ap bytes_of is)
