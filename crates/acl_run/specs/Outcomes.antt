-- The outcome of a run for each fault of what it reads. Defined by this project.
use Rattle.std.specs.Prelude.{Bool, true, false}
use Rattle.acl_outcome.specs.declared.outcome.Outcome.{Outcome}
use Rattle.esis_lines.specs.declared.doc_fault.DocFault.{DocFault}
use Rattle.licence.specs.declared.fault.LicenceFault.{LicenceFault}
use Rattle.licence.specs.declared.keys.KeysError.{KeysError}
use Rattle.skip_encode.specs.declared.fault.EncodeFault.{EncodeFault}
use Rattle.acl_outside.specs.declared.read_fault.ReadFault.{ReadFault}
use Rattle.file_reading.specs.declared.fault.FileFault.{FileFault}

-- the outcome where a source gives no document
abbrev pub outcome_of_fault : DocFault → Outcome
outcome_of_fault (DocFault.BadLine line) = Outcome.BadLine line
outcome_of_fault (DocFault.Unsupported line kind) = Outcome.Unsupported line kind
outcome_of_fault (DocFault.Unbalanced line) = Outcome.Unbalanced line
outcome_of_fault DocFault.NoRoot = Outcome.NoRoot
outcome_of_fault (DocFault.SecondRoot line) = Outcome.SecondRoot line
outcome_of_fault (DocFault.TooDeep line) = Outcome.TooDeep line
outcome_of_fault (DocFault.NameTooLong line) = Outcome.NameTooLong line
outcome_of_fault (DocFault.InputTooLong limit) = Outcome.InputTooLong limit
outcome_of_fault DocFault.SourceFault = Outcome.SourceFault
outcome_of_fault (DocFault.TooManyAttributes line) = Outcome.TooManyAttributes line
outcome_of_fault DocFault.NoMemory = Outcome.NoMemory

-- the outcome where bytes are no licence, or no body of one
abbrev pub outcome_of_licence_fault : LicenceFault → Outcome
outcome_of_licence_fault (LicenceFault.BadSeal given made) = Outcome.BadSeal given made
outcome_of_licence_fault (LicenceFault.BadRule line at) = Outcome.BadRule line at
outcome_of_licence_fault (LicenceFault.BadLicence line) = Outcome.BadLicence line
outcome_of_licence_fault LicenceFault.TooManyRules = Outcome.TooManyRules
outcome_of_licence_fault LicenceFault.TooManyStates = Outcome.TooManyStates
outcome_of_licence_fault LicenceFault.NoMemory = Outcome.NoMemory

-- the outcome where bytes are no keys
abbrev pub outcome_of_keys_error : KeysError → Outcome
outcome_of_keys_error (KeysError.BadKeys line) = Outcome.BadKeys line
outcome_of_keys_error KeysError.NoMemory = Outcome.NoMemory

-- the outcome where a document has no file
abbrev pub outcome_of_encode_fault : EncodeFault → Outcome
outcome_of_encode_fault EncodeFault.TooManyTags = Outcome.TooManyTags
outcome_of_encode_fault EncodeFault.TooLarge = Outcome.TooLarge
outcome_of_encode_fault EncodeFault.NoMemory = Outcome.NoMemory

-- the outcome where the reading of a store failed or its bytes are refused
abbrev pub outcome_of_read_fault : ReadFault → Outcome
outcome_of_read_fault ReadFault.BadHeader = Outcome.BadHeader
outcome_of_read_fault (ReadFault.WrongRoot want made) = Outcome.WrongRoot want made
outcome_of_read_fault (ReadFault.WrongKey want made) = Outcome.WrongKey want made
outcome_of_read_fault (ReadFault.StoreShort at) = Outcome.StoreShort at
outcome_of_read_fault ReadFault.StoreFault = Outcome.StoreFault
outcome_of_read_fault (ReadFault.BadFragment index want made) = Outcome.BadFragment index want made
outcome_of_read_fault ReadFault.BadIndex = Outcome.BadIndex

-- the outcome where a store gives no document
abbrev pub outcome_of_file_fault : FileFault → Outcome
outcome_of_file_fault (FileFault.Refused fault) = outcome_of_read_fault fault
outcome_of_file_fault FileFault.NoMemory = Outcome.NoMemory

-- whether the outcome is BadFragment
abbrev pub is_bad_fragment_outcome : Outcome → Bool
is_bad_fragment_outcome Outcome.Done = false
is_bad_fragment_outcome Outcome.NoMemory = false
is_bad_fragment_outcome Outcome.Usage = false
is_bad_fragment_outcome Outcome.KeysFault = false
is_bad_fragment_outcome Outcome.NoteFault = false
is_bad_fragment_outcome (Outcome.BadLine line) = false
is_bad_fragment_outcome (Outcome.Unsupported line kind) = false
is_bad_fragment_outcome (Outcome.Unbalanced line) = false
is_bad_fragment_outcome Outcome.NoRoot = false
is_bad_fragment_outcome (Outcome.SecondRoot line) = false
is_bad_fragment_outcome (Outcome.TooDeep line) = false
is_bad_fragment_outcome (Outcome.NameTooLong line) = false
is_bad_fragment_outcome (Outcome.InputTooLong limit) = false
is_bad_fragment_outcome Outcome.SourceFault = false
is_bad_fragment_outcome (Outcome.TooManyAttributes line) = false
is_bad_fragment_outcome (Outcome.BadSeal given made) = false
is_bad_fragment_outcome (Outcome.BadRule line at) = false
is_bad_fragment_outcome (Outcome.BadLicence line) = false
is_bad_fragment_outcome Outcome.TooManyRules = false
is_bad_fragment_outcome Outcome.TooManyStates = false
is_bad_fragment_outcome (Outcome.BadKeys line) = false
is_bad_fragment_outcome (Outcome.BadQuery at) = false
is_bad_fragment_outcome Outcome.BadHeader = false
is_bad_fragment_outcome (Outcome.WrongRoot want made) = false
is_bad_fragment_outcome (Outcome.WrongKey want made) = false
is_bad_fragment_outcome (Outcome.StoreShort at) = false
is_bad_fragment_outcome Outcome.StoreFault = false
is_bad_fragment_outcome (Outcome.BadFragment index want made) = true
is_bad_fragment_outcome Outcome.TooManyTags = false
is_bad_fragment_outcome Outcome.TooLarge = false
is_bad_fragment_outcome Outcome.BadIndex = false
is_bad_fragment_outcome Outcome.SinkFault = false
is_bad_fragment_outcome (Outcome.Stopped watcher line) = false

-- The outcome is BadIndex or NoMemory: no other may come over a file of no document.
abbrev pub IsOfNoDocument : Outcome → Type 0
IsOfNoDocument Outcome.Done = ⊥
IsOfNoDocument Outcome.NoMemory = Unit {0}
IsOfNoDocument Outcome.Usage = ⊥
IsOfNoDocument Outcome.KeysFault = ⊥
IsOfNoDocument Outcome.NoteFault = ⊥
IsOfNoDocument (Outcome.BadLine line) = ⊥
IsOfNoDocument (Outcome.Unsupported line kind) = ⊥
IsOfNoDocument (Outcome.Unbalanced line) = ⊥
IsOfNoDocument Outcome.NoRoot = ⊥
IsOfNoDocument (Outcome.SecondRoot line) = ⊥
IsOfNoDocument (Outcome.TooDeep line) = ⊥
IsOfNoDocument (Outcome.NameTooLong line) = ⊥
IsOfNoDocument (Outcome.InputTooLong limit) = ⊥
IsOfNoDocument Outcome.SourceFault = ⊥
IsOfNoDocument (Outcome.TooManyAttributes line) = ⊥
IsOfNoDocument (Outcome.BadSeal given made) = ⊥
IsOfNoDocument (Outcome.BadRule line at) = ⊥
IsOfNoDocument (Outcome.BadLicence line) = ⊥
IsOfNoDocument Outcome.TooManyRules = ⊥
IsOfNoDocument Outcome.TooManyStates = ⊥
IsOfNoDocument (Outcome.BadKeys line) = ⊥
IsOfNoDocument (Outcome.BadQuery at) = ⊥
IsOfNoDocument Outcome.BadHeader = ⊥
IsOfNoDocument (Outcome.WrongRoot want made) = ⊥
IsOfNoDocument (Outcome.WrongKey want made) = ⊥
IsOfNoDocument (Outcome.StoreShort at) = ⊥
IsOfNoDocument Outcome.StoreFault = ⊥
IsOfNoDocument (Outcome.BadFragment index want made) = ⊥
IsOfNoDocument Outcome.TooManyTags = ⊥
IsOfNoDocument Outcome.TooLarge = ⊥
IsOfNoDocument Outcome.BadIndex = Unit {0}
IsOfNoDocument Outcome.SinkFault = ⊥
IsOfNoDocument (Outcome.Stopped watcher line) = ⊥
