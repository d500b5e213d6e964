-- The models of the sources, sinks and stores in memory, and of the recorder. Defined by this project.
use Rattle.std.specs.Prelude.{ℕ, ◌+◌, ◌<◌, ◌≤◌, List, length, map}
use Rattle.std.specs.List.{concat}
use Rattle.acl_outside.specs.Outside.{StoreRead}

-- A source in memory: the bytes to come, the most that a read gives, and the numbers of the reads that fail. Then the
-- number of the next read (from 0), and how many reads have failed.
pub record MemSourceModel : Type 0 where
  pub left : List ℕ
  pub piece : ℕ
  pub fails : List ℕ
  pub calls : ℕ
  pub faults : ℕ

-- A sink in memory: the bytes taken, how many bytes it has room for in all, the numbers of the writes that fail, and
-- the number of the next write (from 0). Then how many bytes the last failed write did not take, the bytes taken up to
-- the last good write of an empty piece, and how many writes have failed.
pub record MemSinkModel : Type 0 where
  pub written : List ℕ
  pub room : ℕ
  pub fails : List ℕ
  pub calls : ℕ
  pub missed : ℕ
  pub settled : List ℕ
  pub faults : ℕ

-- a store in memory: the bytes held, the numbers of the reads that fail, the number of the next read (from 0), and how
-- many reads have failed
pub record MemStoreModel : Type 0 where
  pub holds : List ℕ
  pub fails : List ℕ
  pub calls : ℕ
  pub faults : ℕ

-- a recorder: the store whose good reads it notes, these reads, how many reads and how many of their bytes it has room
-- for in all, and how many reads have failed
pub record Recording (Inner : Type 0) : Type 0 where
  pub inner : Inner
  pub reads : List StoreRead
  pub read_room : ℕ
  pub byte_room : ℕ
  pub faults : ℕ

-- the bytes that the reads gave, one after the other
abbrev pub bytes_of : List StoreRead → List ℕ
bytes_of reads = concat (map (λ read. read.bytes) reads)

-- there is room to note one more read, and for `asked` more bytes
abbrev pub HasRoom : {Inner : Type 0} → Recording Inner → ℕ → Type 0
HasRoom recording asked =
    (length recording.reads < recording.read_room)
    × (length (bytes_of recording.reads) + asked ≤ recording.byte_room)
