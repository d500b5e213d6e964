-- The keys of a publisher or a reader, a text of two lines. Defined by this project.
use Rattle.std.specs.Prelude.{◌≡◌, ℕ, List, [], ◌∷◌, codes, Result, Ok, Err}
use Rattle.acl_model.specs.Lines.{lines}
use Rattle.licence.specs.Forms.{Lines, HasDigits, NoneFirst, ◌>>=◌, bytes_after, line_of_form}
use Rattle.licence.specs.declared.keys.Keys.{Keys}
use Rattle.licence.specs.declared.keys.KeysError.{KeysError}
use Rattle.licence.specs.declared.keys.KeysError.TheVariants.{BadKeys, NoMemory}

-- ---- whole texts

-- The first line begins with `document `, and 32 digits follow.
abbrev pub document_word : List ℕ
document_word = codes "document "

-- The second begins with `seal `, and 64 digits follow.
abbrev pub seal_key_word : List ℕ
seal_key_word = codes "seal "

-- The line is `document ` and the digits of 16 bytes.
abbrev pub IsDocumentLine : List ℕ → Type 0
IsDocumentLine line = (key : List ℕ) × HasDigits document_word 16 line key

-- The line is `seal ` and the digits of 32 bytes.
abbrev pub IsSealKeyLine : List ℕ → Type 0
IsSealKeyLine line = (key : List ℕ) × HasDigits seal_key_word 32 line key

-- The bytes say these keys: a line for each, and nothing after them. The last line feed may be missing.
pub record SaysKeys (bytes : List ℕ) (keys : Keys) : Type 0 where
  pub first : List ℕ
  pub document : HasDigits document_word 16 first keys.document
  pub second : List ℕ
  pub seal : HasDigits seal_key_word 32 second keys.seal
  pub text : lines bytes ≡ first ∷ second ∷ []

-- The lines are no keys, for this cause: the first or the second line is missing or not of its form, or a third line
-- follows them.
pub data IsBadKeys (ls : Lines) (error : KeysError) : Type 0 where
  NoDocument : error ≡ BadKeys 1 → NoneFirst IsDocumentLine ls → IsBadKeys ls error
  NoSealKey : (first : List ℕ) → (rest : Lines) → error ≡ BadKeys 2 → ls ≡ first ∷ rest → IsDocumentLine first
      → NoneFirst IsSealKeyLine rest → IsBadKeys ls error
  OneMore : (first : List ℕ) → (second : List ℕ) → (third : List ℕ) → (rest : Lines) → error ≡ BadKeys 3
      → ls ≡ first ∷ second ∷ third ∷ rest → IsDocumentLine first → IsSealKeyLine second → IsBadKeys ls error

-- ---- how they are read

-- The keys, where no line follows them.
abbrev pub keys_at_end : Keys → Lines → Result Keys KeysError
keys_at_end keys [] = Ok keys
keys_at_end keys (line ∷ rest) = Err (BadKeys 3)

-- The keys that bytes say, or the first line that is not as it should be.
unfoldable pub read_keys_of : List ℕ → Result Keys KeysError
read_keys_of bytes =
    line_of_form (BadKeys 1) (bytes_after document_word 16) (lines bytes) >>= λ document.
    line_of_form (BadKeys 2) (bytes_after seal_key_word 32) document.1 >>= λ seal.
    keys_at_end (record { document = document.0; seal = seal.0 }) seal.1

-- The code may answer the wanted keys or fault, or NoMemory.
abbrev pub ReadsKeys : Result Keys KeysError → Result Keys KeysError → Type 0
ReadsKeys wanted (Ok keys) = wanted ≡ Ok keys
ReadsKeys wanted (Err (BadKeys line)) = wanted ≡ Err (BadKeys line)
ReadsKeys wanted (Err NoMemory) = Unit {0}
