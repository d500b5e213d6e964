-- A tag has 32 bytes.
use Rattle.std.proofs.Common.{◌≡◌, ℕ, List, [], ◌∷◌, length, true, refl, ◌∙◌, arith, zero, suc}
use Rattle.std.proofs.lemmas.Bool.{leb-true, lt-ltb}
use Rattle.std.proofs.lemmas.List.Folds.{list_all-append}
use Rattle.std.specs.Cmp.{first_so, second_so}
use Rattle.std.specs.Prelude.{slice_index}
use Rattle.std.specs.Int.{to_be_bytes, bytes_high_first, byte_at, w32}
use Rattle.sha2.specs.Sha256.{sha256, digest_bytes, final_hash, initial_hash_256}
use Rattle.sha2.proofs.Facts256.{length-sha256}
use Rattle.hex.specs.Hex.{IsBytes}
use Rattle.acl_model.specs.Ascii.{is_byte, are_bytes}
use Rattle.hmac_tag.specs.Hmac.{hmac}
use Rattle.licence.proofs.FormLaws.{both_true}

pub IsBytes-are_bytes : (bytes : List ℕ) → are_bytes bytes ≡ true → IsBytes bytes
IsBytes-are_bytes [] fit i = omega arith
IsBytes-are_bytes (b ∷ bytes) fit zero = leb-true (suc b) 256 (first_so (is_byte b) (are_bytes bytes) fit)
IsBytes-are_bytes (b ∷ bytes) fit (suc i) = IsBytes-are_bytes bytes (second_so (is_byte b) (are_bytes bytes) fit) i

byte_fits : (k n : ℕ) → is_byte (byte_at k n) ≡ true
byte_fits zero n = lt-ltb (byte_at 0 n) 256 (omega arith)
byte_fits (suc k) n = lt-ltb (byte_at (suc k) n) 256 (omega arith)

word_bytes : (k n : ℕ) → are_bytes (bytes_high_first k n) ≡ true
word_bytes zero n = refl
word_bytes (suc k) n = both_true (is_byte (byte_at k n)) (are_bytes (bytes_high_first k n)) (byte_fits k n) (word_bytes k n)

digest_fits : (h : List ℕ) (n : ℕ) → are_bytes (digest_bytes h n) ≡ true
unfolding digest_bytes
digest_fits h zero = refl
digest_fits h (suc n) =
    list_all-append is_byte (digest_bytes h n) (to_be_bytes w32 (slice_index h n))
    ∙ both_true (are_bytes (digest_bytes h n)) (are_bytes (to_be_bytes w32 (slice_index h n))) (digest_fits h n) (word_bytes 4 (slice_index h n))

sha256_fits : (m : List ℕ) → are_bytes (sha256 m) ≡ true
unfolding sha256
sha256_fits m = digest_fits (final_hash initial_hash_256 m) 8

pub hmac-size : (key body : List ℕ) → length (hmac key body) ≡ 32
unfolding hmac
hmac-size key body = length-sha256 _

pub hmac-bytes : (key body : List ℕ) → IsBytes (hmac key body)
unfolding hmac
hmac-bytes key body = IsBytes-are_bytes (hmac key body) (sha256_fits _)
