-- A sealed licence: the seal line, its line feed, and the body. The seal is the HMAC of the body's bytes under the
-- seal key. Defined by this project.
use Rattle.std.specs.Prelude.{◌≡◌, ◌≢◌, ℕ, nat_eq, List, ◌∷◌, ◌++◌, codes, Option, Some, None, Result, Ok, Err, if◌then◌else◌}
use Rattle.std.specs.Option.{option_map, option_and_then}
use Rattle.std.specs.Cmp.Lexicographic.{pointwise}
use Rattle.hex.specs.Hex.{encode_lower}
use Rattle.acl_model.specs.Ascii.{line_feed}
use Rattle.acl_model.specs.Lines.{cut_at, lines}
use Rattle.hmac_tag.specs.Hmac.{hmac}
use Rattle.licence.specs.Forms.{HasDigits, ◌>>=◌, bytes_after}
use Rattle.licence.specs.BodyText.{Says}
use Rattle.licence.specs.BodyRefusals.{IsRefused}
use Rattle.licence.specs.Body.{read_body_from, read_body_of}
use Rattle.licence.specs.declared.fault.LicenceFault.{LicenceFault}
use Rattle.licence.specs.declared.fault.LicenceFault.TheVariants.{BadSeal, BadLicence}
use Rattle.licence.specs.declared.terms.Licence.{Licence}

-- ---- whole texts

-- The seal line begins with `seal `, and 64 digits follow.
abbrev pub seal_word : List ℕ
seal_word = codes "seal "

-- The bytes are a seal line with this seal, a line feed, and this body.
pub record IsSealed (bytes seal body : List ℕ) : Type 0 where
  pub line : List ℕ
  pub digits : HasDigits seal_word 32 line seal
  pub text : bytes ≡ line ++ (line_feed ∷ body)

-- The bytes say this licence under the key: their seal is the HMAC of the body, and the body says the licence.
pub record SaysSealed (key bytes : List ℕ) (licence : Licence) : Type 0 where
  pub body : List ℕ
  pub is_sealed : IsSealed bytes (hmac key body) body
  pub says : Says body licence

-- The bytes are refused with this fault under the key: they have no seal line with a line feed, or the seal is not
-- the HMAC of the body, or it is and the body is refused. The first line of the body is line 2.
pub data IsRefusedSealed (key bytes : List ℕ) (fault : LicenceFault) : Type 0 where
  NoSeal : fault ≡ BadLicence 1 → ((seal body : List ℕ) → IsSealed bytes seal body → ⊥) → IsRefusedSealed key bytes fault
  OtherSeal : (seal : List ℕ) → (body : List ℕ) → fault ≡ BadSeal seal (hmac key body) → IsSealed bytes seal body
      → seal ≢ hmac key body → IsRefusedSealed key bytes fault
  BadBody : (body : List ℕ) → IsSealed bytes (hmac key body) body → IsRefused 2 (lines body) fault
      → IsRefusedSealed key bytes fault

-- ---- how they are read

-- the seal of a seal line and the body after it
abbrev pub seal_and_body : List ℕ → Option (List ℕ × List ℕ)
seal_and_body bytes =
    option_and_then (λ cut. option_map (λ seal. (seal, cut.1)) (bytes_after seal_word 32 cut.0)) (cut_at line_feed bytes)

-- The body is read only where the given seal is the one that is made of it. In a sealed licence `licence 1` is line 2.
abbrev pub read_under_seal : List ℕ → Option (List ℕ × List ℕ) → Result Licence LicenceFault
read_under_seal key None = Err (BadLicence 1)
read_under_seal key (Some parts) =
    if pointwise nat_eq parts.0 (hmac key parts.1) then read_body_from 2 parts.1 else Err (BadSeal parts.0 (hmac key parts.1))

-- The licence that sealed bytes say under a key, or their first fault.
unfoldable pub read_licence_of : List ℕ → List ℕ → Result Licence LicenceFault
read_licence_of bytes key = read_under_seal key (seal_and_body bytes)

-- ---- how they are written

-- The text of a sealed body: the seal line, with digits in lower case, and the body unchanged.
abbrev pub sealed_text : List ℕ → List ℕ → List ℕ
sealed_text body key = seal_word ++ (encode_lower (hmac key body) ++ (line_feed ∷ body))

-- The answer of sealing: the sealed text of a body that can be read, or the body's first fault.
unfoldable pub sealed_text_of : List ℕ → List ℕ → Result (List ℕ) LicenceFault
sealed_text_of body key = read_body_of body >>= λ licence. Ok (sealed_text body key)
