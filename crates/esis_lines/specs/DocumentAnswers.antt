-- What `read_doc` answers for the bytes of a source, and what it takes from the source. In contracts a source either
-- shows its bytes to come (`Some`) or doesn't (`None`). Defined by this project.
use Rattle.std.specs.Prelude.{◌≡◌, ℕ, ◌<◌, nat_le, Bool, true, false, if◌then◌else◌, Option, Some, None, Result, Ok, Err, List, length, drop}
pub use Rattle.acl_model.specs.Limits.{most_document_bytes}
use Rattle.acl_model.specs.Lines.{lines}
use Rattle.acl_model.specs.declared.document.Doc.{Doc}
use Rattle.esis_lines.specs.declared.doc_fault.DocFault.{DocFault}
use Rattle.esis_lines.specs.declared.doc_fault.DocFault.TheVariants.{BadLine, Unsupported, Unbalanced, NoRoot, SecondRoot, TooDeep, NameTooLong, InputTooLong, SourceFault, TooManyAttributes, NoMemory}
use Rattle.esis_lines.specs.DocumentText.{IsDocumentText}
use Rattle.esis_lines.specs.LineMachine.{read_doc_of}
use Rattle.esis_lines.specs.LineRefusals.{IsRefused}

-- the answer for these bytes: what they are read as, or InputTooLong where there are more than the limit
abbrev pub answer_within : ℕ → List ℕ → Result Doc DocFault
answer_within most bytes = if nat_le (length bytes) most then read_doc_of bytes else Err (InputTooLong most)

-- The answer is the wanted one, or it is NoMemory.
abbrev pub ButForMemory : {A : Type 0} → Result A DocFault → Result A DocFault → Type 0
ButForMemory (Ok x) wanted = Ok x ≡ wanted
ButForMemory (Err (BadLine line)) wanted = Err (BadLine line) ≡ wanted
ButForMemory (Err (Unsupported line kind)) wanted = Err (Unsupported line kind) ≡ wanted
ButForMemory (Err (Unbalanced line)) wanted = Err (Unbalanced line) ≡ wanted
ButForMemory (Err NoRoot) wanted = Err NoRoot ≡ wanted
ButForMemory (Err (SecondRoot line)) wanted = Err (SecondRoot line) ≡ wanted
ButForMemory (Err (TooDeep line)) wanted = Err (TooDeep line) ≡ wanted
ButForMemory (Err (NameTooLong line)) wanted = Err (NameTooLong line) ≡ wanted
ButForMemory (Err (InputTooLong limit)) wanted = Err (InputTooLong limit) ≡ wanted
ButForMemory (Err SourceFault) wanted = Err SourceFault ≡ wanted
ButForMemory (Err (TooManyAttributes line)) wanted = Err (TooManyAttributes line) ≡ wanted
ButForMemory (Err NoMemory) wanted = Unit {0}

-- The fact is true where the answer is about the bytes: a document, or why they are none.
abbrev pub IfAboutBytes : Result Doc DocFault → Type 0 → Type 0
IfAboutBytes (Ok d) fact = fact
IfAboutBytes (Err (BadLine line)) fact = fact
IfAboutBytes (Err (Unsupported line kind)) fact = fact
IfAboutBytes (Err (Unbalanced line)) fact = fact
IfAboutBytes (Err NoRoot) fact = fact
IfAboutBytes (Err (SecondRoot line)) fact = fact
IfAboutBytes (Err (TooDeep line)) fact = fact
IfAboutBytes (Err (NameTooLong line)) fact = fact
IfAboutBytes (Err (InputTooLong limit)) fact = fact
IfAboutBytes (Err SourceFault) fact = Unit {0}
IfAboutBytes (Err (TooManyAttributes line)) fact = fact
IfAboutBytes (Err NoMemory) fact = Unit {0}

-- All bytes to come were taken, or the first `most` where there are more, if the source shows its bytes.
abbrev pub TakesUpTo : ℕ → Option (List ℕ) → Option (List ℕ) → Type 0
TakesUpTo most None new = Unit {0}
TakesUpTo most (Some before) None = ⊥
TakesUpTo most (Some before) (Some after) = after ≡ drop most before

-- The answer is true of the bytes: a document only for a text of it, a fault of the lines only where they are refused
-- with it, and a limit only where there are more bytes.
abbrev pub IsTrueAnswer : Result Doc DocFault → ℕ → List ℕ → Type 0
IsTrueAnswer (Ok d) most bytes = IsDocumentText d bytes
IsTrueAnswer (Err (BadLine line)) most bytes = IsRefused (BadLine line) (lines bytes)
IsTrueAnswer (Err (Unsupported line kind)) most bytes = IsRefused (Unsupported line kind) (lines bytes)
IsTrueAnswer (Err (Unbalanced line)) most bytes = IsRefused (Unbalanced line) (lines bytes)
IsTrueAnswer (Err NoRoot) most bytes = IsRefused NoRoot (lines bytes)
IsTrueAnswer (Err (SecondRoot line)) most bytes = IsRefused (SecondRoot line) (lines bytes)
IsTrueAnswer (Err (TooDeep line)) most bytes = IsRefused (TooDeep line) (lines bytes)
IsTrueAnswer (Err (NameTooLong line)) most bytes = IsRefused (NameTooLong line) (lines bytes)
IsTrueAnswer (Err (InputTooLong limit)) most bytes = (limit ≡ most) × (most < length bytes)
IsTrueAnswer (Err SourceFault) most bytes = Unit {0}
IsTrueAnswer (Err (TooManyAttributes line)) most bytes = IsRefused (TooManyAttributes line) (lines bytes)
IsTrueAnswer (Err NoMemory) most bytes = Unit {0}

-- The answer is that the source failed.
abbrev pub is_source_fault : Result Doc DocFault → Bool
is_source_fault (Ok d) = false
is_source_fault (Err (BadLine line)) = false
is_source_fault (Err (Unsupported line kind)) = false
is_source_fault (Err (Unbalanced line)) = false
is_source_fault (Err NoRoot) = false
is_source_fault (Err (SecondRoot line)) = false
is_source_fault (Err (TooDeep line)) = false
is_source_fault (Err (NameTooLong line)) = false
is_source_fault (Err (InputTooLong limit)) = false
is_source_fault (Err SourceFault) = true
is_source_fault (Err (TooManyAttributes line)) = false
is_source_fault (Err NoMemory) = false
