-- The faults that a text cannot have.
use Rattle.std.proofs.Common.{◌≡◌, ℕ, List, Err}
use Rattle.acl_model.specs.Lines.{lines}
use Rattle.licence.specs.Forms.{Lines}
use Rattle.licence.specs.BodyRefusals.{IsRefused}
use Rattle.licence.specs.BodyRefusals.IsRefused.{NoTitle, NoRoot, NoUser, After}
use Rattle.licence.specs.Body.{read_body_of}
use Rattle.licence.specs.Sealed.{IsRefusedSealed, read_licence_of, sealed_text_of}
use Rattle.licence.specs.Sealed.IsRefusedSealed.{NoSeal, OtherSeal, BadBody}
use Rattle.licence.specs.declared.fault.LicenceFault.TheVariants.{BadSeal, NoMemory}
use Rattle.licence.specs.Keys.{IsBadKeys, read_keys_of}
use Rattle.licence.specs.Keys.IsBadKeys.{NoDocument, NoSealKey, OneMore}
use Rattle.licence.specs.declared.keys.KeysError.{KeysError}
use Rattle.licence.proofs.KeyLaws.{read_keys_of-refused}
use Rattle.licence.proofs.BodyLaws.{read_body_from-refused}
use Rattle.licence.proofs.SealLaws.{read_licence_of-refused, sealed_text_of-fault}

seal_no_cause : (n : ℕ) (ls : Lines) (given made : List ℕ) → IsRefused n ls (BadSeal given made) → ⊥
seal_no_cause n ls given made (NoTitle is none) = cc
seal_no_cause n ls given made (NoRoot rest is text none) = cc
seal_no_cause n ls given made (NoUser line rest is text root none) = cc
seal_no_cause n ls given made (After root user rules rest begins cause) = cause

memory_no_cause : (n : ℕ) (ls : Lines) → IsRefused n ls NoMemory → ⊥
memory_no_cause n ls (NoTitle is none) = cc
memory_no_cause n ls (NoRoot rest is text none) = cc
memory_no_cause n ls (NoUser line rest is text root none) = cc
memory_no_cause n ls (After root user rules rest begins cause) = cause

memory_no_sealed_cause : (key bytes : List ℕ) → IsRefusedSealed key bytes NoMemory → ⊥
memory_no_sealed_cause key bytes (NoSeal is none) = cc
memory_no_sealed_cause key bytes (OtherSeal seal body is sealed other) = cc
memory_no_sealed_cause key bytes (BadBody body sealed refused) = memory_no_cause 2 (lines body) refused

pub no_seal : (bytes given made : List ℕ) → read_body_of bytes ≡ Err (BadSeal given made) → ⊥
no_seal bytes given made h = seal_no_cause 1 (lines bytes) given made (read_body_from-refused 1 bytes (BadSeal given made) h)

pub no_memory : (bytes : List ℕ) → read_body_of bytes ≡ Err NoMemory → ⊥
no_memory bytes h = memory_no_cause 1 (lines bytes) (read_body_from-refused 1 bytes NoMemory h)

pub no_memory_sealed : (key bytes : List ℕ) → read_licence_of bytes key ≡ Err NoMemory → ⊥
no_memory_sealed key bytes h = memory_no_sealed_cause key bytes (read_licence_of-refused key bytes NoMemory h)

pub no_seal_in_text : (key body given made : List ℕ) → sealed_text_of body key ≡ Err (BadSeal given made) → ⊥
no_seal_in_text key body given made h = no_seal body given made (sealed_text_of-fault key body (BadSeal given made) h)

pub no_memory_in_text : (key body : List ℕ) → sealed_text_of body key ≡ Err NoMemory → ⊥
no_memory_in_text key body h = no_memory body (sealed_text_of-fault key body NoMemory h)

keys_no_cause : (ls : Lines) → IsBadKeys ls KeysError.NoMemory → ⊥
keys_no_cause ls (NoDocument is none) = cc
keys_no_cause ls (NoSealKey first rest is text document none) = cc
keys_no_cause ls (OneMore first second third rest is text document seal) = cc

pub no_memory_in_keys : (bytes : List ℕ) → read_keys_of bytes ≡ Err KeysError.NoMemory → ⊥
no_memory_in_keys bytes h = keys_no_cause (lines bytes) (read_keys_of-refused bytes KeysError.NoMemory h)
