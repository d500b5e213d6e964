-- Definitions that the clauses of `read_path` share. Defined by this project.
use Rattle.std.specs.Prelude.{◌≡◌, ℕ, ◌<◌, Result, Ok, Err, List, length}
use Rattle.acl_model.specs.Limits.{most_path_bytes}
use Rattle.acl_model.specs.declared.path.Path.{Path}
use Rattle.xpath_rules.specs.declared.path_error.PathError.{PathError}
use Rattle.xpath_rules.specs.declared.path_error.PathError.TheVariants.{Fault, NoMemory}
use Rattle.xpath_rules.specs.PathReading.{Spells}
use Rattle.xpath_rules.specs.PathMachine.{read_path_of}

-- The answer is the wanted one, or it is NoMemory.
abbrev pub ButForMemory : Result Path PathError → Result Path ℕ → Type 0
ButForMemory (Ok path) wanted = Ok path ≡ wanted
ButForMemory (Err (Fault at)) wanted = Err at ≡ wanted
ButForMemory (Err NoMemory) wanted = Unit {0}

-- Where the answer is a fault, the fact is true of its byte offset.
abbrev pub IfFault : Result Path PathError → (ℕ → Type 0) → Type 0
IfFault (Ok path) fact = Unit {0}
IfFault (Err (Fault at)) fact = fact at
IfFault (Err NoMemory) fact = Unit {0}

-- No path may be read from the bytes: they spell none for the user, or there are more than 1,024 of
-- them.
abbrev pub IsNoPath : List ℕ → List ℕ → Type 0
IsNoPath user bytes = (path : Path) → Spells user bytes path → most_path_bytes < length bytes

-- The path can be read for the user: some bytes are read as this path.
abbrev pub CanBeRead : List ℕ → Path → Type 0
CanBeRead user path = (bytes : List ℕ) × (read_path_of bytes user ≡ Ok path)
