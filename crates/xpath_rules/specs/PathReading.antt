-- Which bytes are a path, and at which byte offset the others have their fault. These definitions use
-- whole texts of the grammar and no reader. Defined by this project.
use Rattle.std.specs.Prelude.{◌≡◌, ℕ, ◌≤◌, min, Bool, true, List, ◌++◌, length, take}
use Rattle.acl_model.specs.Limits.{most_path_bytes}
use Rattle.acl_model.specs.declared.path.Path.{Path}
use Rattle.xpath_rules.specs.Grammar.{WrittenStep, path_text, is_path, path_of}

-- The bytes spell the path for the user: they are the text of a written path of the right form, which
-- means this path.
pub record Spells (user bytes : List ℕ) (path : Path) : Type 0 where
  pub written : List WrittenStep
  pub in_form : is_path written ≡ true
  pub text : bytes ≡ path_text written
  pub meaning : path ≡ path_of user written

-- Some text of the grammar begins with the bytes. That text may be longer than 1,024 bytes.
pub record IsBegun (bytes : List ℕ) : Type 0 where
  pub rest : List ℕ
  pub written : List WrittenStep
  pub in_form : is_path written ≡ true
  pub text : bytes ++ rest ≡ path_text written

-- The first n bytes are the longest prefix that some text of the grammar begins with.
pub record IsLongestPrefix (bytes : List ℕ) (n : ℕ) : Type 0 where
  pub within : n ≤ length bytes
  pub begun : IsBegun (take n bytes)
  pub longest : (m : ℕ) → m ≤ length bytes → IsBegun (take m bytes) → m ≤ n

-- The byte offset up to which the bytes can be a path: the length of the longest prefix that some text
-- of the grammar begins with, or 1,024 where that is more. It is also defined for bytes that are a
-- path. Where bytes are refused, it is the offset of the fault.
pub record IsPlace (bytes : List ℕ) (at : ℕ) : Type 0 where
  pub prefix : ℕ
  pub is_longest : IsLongestPrefix bytes prefix
  pub capped : at ≡ min most_path_bytes prefix
