-- The elements of a list of `u8` are bytes.
use Rattle.std.proofs.Common.{◌≡◌, ℕ, ◌<◌, true, suc, List, [], ◌∷◌, length, get_or, refl, arith}
use Rattle.std.proofs.lemmas.Bool.{and_from, lt-ltb}
use Rattle.acl_model.specs.Ascii.{is_byte, are_bytes}

pub are_bytes-below : (bytes : List ℕ) → ((k : ℕ) → k < length bytes → get_or bytes k 0 < 256) → are_bytes bytes ≡ true
are_bytes-below [] low = refl
are_bytes-below (b ∷ bytes) low =
    and_from (is_byte b) (are_bytes bytes) (lt-ltb b 256 (low 0 (omega arith))) (are_bytes-below bytes (λ k within. low (suc k) (omega (arith, within))))

pub ruleset fitting = (are_bytes-below)
