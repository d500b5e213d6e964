-- The models of the adapters over the standard library. Defined by this project.
use Rattle.std.specs.Prelude.{ℕ, Bool, List, Option, None}
use Rattle.acl_outside.specs.Outside.{StoreRead}

-- the bytes of an object that doesn't tell them
abbrev pub unknown_bytes : Option (List ℕ)
unknown_bytes = None

-- the number of missed bytes of an object that doesn't tell it
abbrev pub unknown_count : Option ℕ
unknown_count = None

-- the good reads of an object that doesn't tell them
abbrev pub unknown_reads : Option (List StoreRead)
unknown_reads = None

-- a source over a reader: whether there is a reader, what that reader tells of its bytes to come, and
-- how many reads have failed
pub record ReaderSeen : Type 0 where
  pub is_there : Bool
  pub to_come : Option (List ℕ)
  pub faults : ℕ

-- a sink over a writer: what that writer tells of the bytes it holds, and how many writes have failed
pub record WriterSeen : Type 0 where
  pub holds : Option (List ℕ)
  pub faults : ℕ

-- a store over a file: whether there is a file, and how many reads have failed
pub record FileSeen : Type 0 where
  pub is_there : Bool
  pub faults : ℕ
