-- What a store that holds a document's file gives. Defined by this project.
use Rattle.std.specs.Prelude.{◌≡◌, ℕ, ◌≤◌, Option, Some, Result, Ok, Err, List, [], length, slice_index_or}
use Rattle.sha2.specs.Sha256.{sha256}
use Rattle.acl_model.specs.declared.document.Doc.{Doc}
use Rattle.acl_outside.specs.declared.read_fault.ReadFault.{ReadFault}
use Rattle.acl_outside.specs.declared.read_fault.ReadFault.TheVariants.{BadFragment, BadHeader, BadIndex, StoreFault, StoreShort, WrongKey, WrongRoot}
use Rattle.merkle_chunks.specs.Strings.{absent_child}
use Rattle.merkle_chunks.specs.Table.{digests_at, strings_at}
use Rattle.merkle_chunks.specs.File.{cipher_fragments, file}
use Rattle.fragment_open.specs.Asks.{index_at, sibling_of}

-- A store holds the file of a document under a key, and the file has n fragments.
pub record HoldsFile (held : Option (List ℕ)) (n : ℕ) (d : Doc) (key : List ℕ) : Type 0 where
  pub holds : held ≡ Some (file d key)
  pub count : n ≡ length (cipher_fragments d key)

-- the digest of the file's string at a level and an index
abbrev pub digest_held : Doc → List ℕ → ℕ → ℕ → List ℕ
digest_held d key level index = sha256 (slice_index_or (strings_at sha256 (cipher_fragments d key) level) index [])

-- the digest of the sibling of an index at a level of the file's table, or zeros where it has none
abbrev pub sibling_held : Doc → List ℕ → ℕ → ℕ → List ℕ
sibling_held d key level index = slice_index_or (digests_at sha256 (cipher_fragments d key) level) (sibling_of index) absent_child

-- the fault is the store's own failure, and no other
abbrev pub IsStoreFault : ReadFault → Type 0
IsStoreFault StoreFault = Unit {0}
IsStoreFault BadHeader = ⊥
IsStoreFault (WrongRoot want made) = ⊥
IsStoreFault (WrongKey want made) = ⊥
IsStoreFault (StoreShort at) = ⊥
IsStoreFault (BadFragment index want made) = ⊥
IsStoreFault BadIndex = ⊥

-- Where the fault is not the store's own failure, the store's count of faults is as it was.
abbrev pub IsQuietElse : ReadFault → ℕ → ℕ → Type 0
IsQuietElse BadHeader before after = after ≡ before
IsQuietElse (WrongRoot want made) before after = after ≡ before
IsQuietElse (WrongKey want made) before after = after ≡ before
IsQuietElse (StoreShort at) before after = after ≡ before
IsQuietElse StoreFault before after = Unit {0}
IsQuietElse (BadFragment index want made) before after = after ≡ before
IsQuietElse BadIndex before after = after ≡ before

-- the result is the value, or the store failed
abbrev pub GivesOrFails : {A T : Type 0} → Result T ReadFault → (T → A) → A → Type 0
GivesOrFails (Ok value) part want = part value ≡ want
GivesOrFails (Err fault) part want = IsStoreFault fault

-- What an opening of fragment i gives is the file's: the enciphered bytes, the digest at the goal, and the chunk's
-- digest where the goal is not below level 4.
pub record IsOpenedHeld (d : Doc) (key : List ℕ) (i goal : ℕ) (cipher chunk digest : List ℕ) : Type 0 where
  pub bytes : cipher ≡ slice_index_or (cipher_fragments d key) i []
  pub folds : digest ≡ digest_held d key goal (index_at i goal)
  pub folds_chunk : 4 ≤ goal → chunk ≡ digest_held d key 4 (index_at i 4)
