-- The number, the name, the fields and the line of each outcome. Defined by this project.
use Rattle.std.specs.Prelude.{ℕ, List, [], ◌∷◌, ◌++◌, map, codes, decimal}
use Rattle.std.specs.List.{concat}
use Rattle.hex.specs.Hex.{encode_lower}
use Rattle.acl_model.specs.Ascii.{line_feed}
use Rattle.acl_outcome.specs.Ends.{End, done, no_memory, usage, fault, stopped, refused, end_of}
use Rattle.acl_outcome.specs.declared.outcome.Outcome.{Outcome}
use Rattle.acl_outcome.specs.declared.outcome.Outcome.TheVariants.{Done, NoMemory, Usage, KeysFault, NoteFault, BadLine, Unsupported, Unbalanced, NoRoot, SecondRoot, TooDeep, NameTooLong, InputTooLong, SourceFault, TooManyAttributes, BadSeal, BadRule, BadLicence, TooManyRules, TooManyStates, BadKeys, BadQuery, BadHeader, WrongRoot, WrongKey, StoreShort, StoreFault, BadFragment, TooManyTags, TooLarge, BadIndex, SinkFault, Stopped}

-- the number of an outcome, which is the program's exit status
abbrev pub status_of : Outcome → ℕ
status_of Done = 0
status_of NoMemory = 1
status_of Usage = 2
status_of KeysFault = 3
status_of NoteFault = 4
status_of (BadLine line) = 10
status_of (Unsupported line kind) = 11
status_of (Unbalanced line) = 12
status_of NoRoot = 13
status_of (SecondRoot line) = 14
status_of (TooDeep line) = 15
status_of (NameTooLong line) = 16
status_of (InputTooLong limit) = 17
status_of SourceFault = 18
status_of (TooManyAttributes line) = 19
status_of (BadSeal given made) = 20
status_of (BadRule line at) = 21
status_of (BadLicence line) = 22
status_of TooManyRules = 23
status_of TooManyStates = 24
status_of (BadKeys line) = 25
status_of (BadQuery at) = 26
status_of BadHeader = 30
status_of (WrongRoot want made) = 31
status_of (WrongKey want made) = 32
status_of (StoreShort at) = 33
status_of StoreFault = 34
status_of (BadFragment index want made) = 35
status_of TooManyTags = 36
status_of TooLarge = 37
status_of BadIndex = 38
status_of SinkFault = 40
status_of (Stopped watcher line) = 41

-- the name of an outcome, as it is in the outcome's line
abbrev pub name_of : Outcome → List ℕ
name_of Done = codes "Done"
name_of NoMemory = codes "NoMemory"
name_of Usage = codes "Usage"
name_of KeysFault = codes "KeysFault"
name_of NoteFault = codes "NoteFault"
name_of (BadLine line) = codes "BadLine"
name_of (Unsupported line kind) = codes "Unsupported"
name_of (Unbalanced line) = codes "Unbalanced"
name_of NoRoot = codes "NoRoot"
name_of (SecondRoot line) = codes "SecondRoot"
name_of (TooDeep line) = codes "TooDeep"
name_of (NameTooLong line) = codes "NameTooLong"
name_of (InputTooLong limit) = codes "InputTooLong"
name_of SourceFault = codes "SourceFault"
name_of (TooManyAttributes line) = codes "TooManyAttributes"
name_of (BadSeal given made) = codes "BadSeal"
name_of (BadRule line at) = codes "BadRule"
name_of (BadLicence line) = codes "BadLicence"
name_of TooManyRules = codes "TooManyRules"
name_of TooManyStates = codes "TooManyStates"
name_of (BadKeys line) = codes "BadKeys"
name_of (BadQuery at) = codes "BadQuery"
name_of BadHeader = codes "BadHeader"
name_of (WrongRoot want made) = codes "WrongRoot"
name_of (WrongKey want made) = codes "WrongKey"
name_of (StoreShort at) = codes "StoreShort"
name_of StoreFault = codes "StoreFault"
name_of (BadFragment index want made) = codes "BadFragment"
name_of TooManyTags = codes "TooManyTags"
name_of TooLarge = codes "TooLarge"
name_of BadIndex = codes "BadIndex"
name_of SinkFault = codes "SinkFault"
name_of (Stopped watcher line) = codes "Stopped"

-- a field of an outcome: its name, and the text of its value
pub record Field : Type 0 where
  pub name : List ℕ
  pub text : List ℕ

-- a field whose value is a number, in decimal
abbrev pub number : List ℕ → ℕ → Field
number name n = record { name = name; text = decimal n }

-- a field whose value is a digest or a key check, in lower-case hexadecimal
abbrev pub digest : List ℕ → List ℕ → Field
digest name bytes = record { name = name; text = encode_lower bytes }

-- the fields of an outcome, in the order that they have in its line
abbrev pub fields_of : Outcome → List Field
fields_of Done = []
fields_of NoMemory = []
fields_of Usage = []
fields_of KeysFault = []
fields_of NoteFault = []
fields_of (BadLine line) = number (codes "line") line ∷ []
fields_of (Unsupported line kind) = number (codes "line") line ∷ number (codes "kind") kind ∷ []
fields_of (Unbalanced line) = number (codes "line") line ∷ []
fields_of NoRoot = []
fields_of (SecondRoot line) = number (codes "line") line ∷ []
fields_of (TooDeep line) = number (codes "line") line ∷ []
fields_of (NameTooLong line) = number (codes "line") line ∷ []
fields_of (InputTooLong limit) = number (codes "limit") limit ∷ []
fields_of SourceFault = []
fields_of (TooManyAttributes line) = number (codes "line") line ∷ []
fields_of (BadSeal given made) = digest (codes "given") given ∷ digest (codes "made") made ∷ []
fields_of (BadRule line at) = number (codes "line") line ∷ number (codes "at") at ∷ []
fields_of (BadLicence line) = number (codes "line") line ∷ []
fields_of TooManyRules = []
fields_of TooManyStates = []
fields_of (BadKeys line) = number (codes "line") line ∷ []
fields_of (BadQuery at) = number (codes "at") at ∷ []
fields_of BadHeader = []
fields_of (WrongRoot want made) = digest (codes "want") want ∷ digest (codes "made") made ∷ []
fields_of (WrongKey want made) = digest (codes "want") want ∷ digest (codes "made") made ∷ []
fields_of (StoreShort at) = number (codes "at") at ∷ []
fields_of StoreFault = []
fields_of (BadFragment index want made) = number (codes "index") index ∷ digest (codes "want") want ∷ digest (codes "made") made ∷ []
fields_of TooManyTags = []
fields_of TooLarge = []
fields_of BadIndex = []
fields_of SinkFault = []
fields_of (Stopped watcher line) = number (codes "watcher") watcher ∷ number (codes "line") line ∷ []

-- the text of a field: a space, the field's name, `=`, and its value
unfoldable pub field_text : Field → List ℕ
field_text field = codes " " ++ (field.name ++ (codes "=" ++ field.text))

-- the start of an outcome's line: `acl: `, the number of the outcome, a space, and its name
unfoldable pub head_of : Outcome → List ℕ
head_of outcome = codes "acl: " ++ (decimal (status_of outcome) ++ (codes " " ++ name_of outcome))

-- the line of an outcome other than `Done`: its start, its fields, and a line feed
abbrev pub line_of : Outcome → List ℕ
line_of outcome = head_of outcome ++ (concat (map field_text (fields_of outcome)) ++ (line_feed ∷ []))

-- the line of an outcome with this end, which is empty for the end `done`
abbrev pub line_at : End → Outcome → List ℕ
line_at done outcome = []
line_at no_memory outcome = line_of outcome
line_at usage outcome = line_of outcome
line_at (fault x) outcome = line_of outcome
line_at stopped outcome = line_of outcome
line_at (refused subject) outcome = line_of outcome

-- the line of an outcome, which is empty for `Done`
abbrev pub outcome_line : Outcome → List ℕ
outcome_line outcome = line_at (end_of outcome) outcome
