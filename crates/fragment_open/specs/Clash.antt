-- A clash: under one name (`StringName`: a position in the tree of digests, or the root) each of two finite lists has a
-- string. The two strings differ and have one digest. Defined by this project.
use Rattle.std.specs.Prelude.{◌≡◌, ◌≢◌, ℕ, Bool, true, false, ◌&&◌, not, nat_eq, bytes_eq, List, Contains}
use Rattle.std.specs.List.{list_any}
use Rattle.sha2.specs.Sha256.{sha256}
use Rattle.acl_model.specs.declared.document.Doc.{Doc}
use Rattle.acl_outside.specs.Outside.{StoreRead}
use Rattle.merkle_chunks.specs.File.{file_strings}
use Rattle.merkle_chunks.specs.Strings.{StringName, root, spot}
use Rattle.fragment_open.specs.Hashed.{hashed}

-- Two lists of named strings clash: one name has a string in each of them, the strings differ, and their digests are
-- equal.
pub record IsClash (hash : List ℕ → List ℕ) (ours theirs : List (StringName × List ℕ)) : Type 0 where
  pub name : StringName
  pub one : List ℕ
  pub other : List ℕ
  pub here : Contains ours (name, one)
  pub there : Contains theirs (name, other)
  pub different : one ≢ other
  pub same_digest : hash one ≡ hash other

-- whether two names are the same
abbrev pub same_name : StringName → StringName → Bool
same_name root root = true
same_name root (spot level index) = false
same_name (spot level index) root = false
same_name (spot level index) (spot other place) = nat_eq level other && nat_eq index place

-- whether two named strings have one name and one digest, and are different
abbrev pub clashes_with : (List ℕ → List ℕ) → StringName × List ℕ → StringName × List ℕ → Bool
clashes_with hash one other = same_name one.0 other.0 && (bytes_eq (hash one.1) (hash other.1) && not (bytes_eq one.1 other.1))

-- whether lists of named strings clash: a test over the two lists
unfoldable pub has_clash : (List ℕ → List ℕ) → List (StringName × List ℕ) → List (StringName × List ℕ) → Bool
has_clash hash ours theirs = list_any (λ one. list_any (clashes_with hash one) theirs) ours

-- whether the strings that were hashed, according to the reads, clash with those of a document's file under a key
unfoldable pub reads_clash : List StoreRead → Doc → List ℕ → Bool
reads_clash reads d key = has_clash sha256 (hashed sha256 reads) (file_strings d key)
