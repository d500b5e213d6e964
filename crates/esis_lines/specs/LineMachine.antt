-- How the bytes of a document are read: they are split into lines, and a state machine takes the lines one by one.
-- The code implements this machine. The laws in `laws.rt` say that it reads each text of a document as that document,
-- and refuses the first line that `LineRefusals` refuses, by its first cause. This project's profile of the ESIS line
-- form.
use Rattle.std.specs.Prelude.{ℕ, ◌+◌, Bool, true, false, nat_eq, nat_le, nat_lt, ◌||◌, if◌then◌else◌, Result, Ok, Err, List, [], ◌∷◌, ◌++◌, length}
use Rattle.std.specs.Cmp.Lexicographic.{pointwise}
use Rattle.acl_model.specs.Limits.{most_name_bytes, most_attributes, most_open_elements}
use Rattle.acl_model.specs.Ascii.{left_parenthesis, right_parenthesis, hyphen, capital_a}
use Rattle.acl_model.specs.Document.{is_type}
use Rattle.acl_model.specs.Lines.{lines}
use Rattle.acl_model.specs.Names.{is_spelled_as_name}
use Rattle.acl_model.specs.Values.{attribute_name, attribute_type}
use Rattle.acl_model.specs.declared.document.Doc.{Doc}
use Rattle.acl_model.specs.declared.document.Element.{Element}
use Rattle.acl_model.specs.declared.document.Item.{Item}
use Rattle.acl_model.specs.declared.document.Item.TheVariants.{Text, Child}
use Rattle.esis_lines.specs.declared.doc_fault.DocFault.{DocFault}
use Rattle.esis_lines.specs.declared.doc_fault.DocFault.TheVariants.{BadLine, Unsupported, Unbalanced, NoRoot, SecondRoot, TooDeep, NameTooLong, TooManyAttributes}
use Rattle.esis_lines.specs.LineForms.{capital_c, capital_l, number_sign, question_mark, is_closing, is_unsupported_kind}

-- The meaning of a line: an element of this name starts or ends, a text, an attribute, nothing that belongs to a
-- document, or the end of the lines. An attribute *waits* for the next start of an element.
pub data Line : Type 0 where
  Starts : List ℕ → Line
  Ends : List ℕ → Line
  Says : List ℕ → Line
  Waits : List ℕ → Line
  PassesBy : Line
  Closes : Line

-- The line says that all lines were written.
abbrev pub says_closing : Line → Bool
says_closing (Line.Starts name) = false
says_closing (Line.Ends name) = false
says_closing (Line.Says bytes) = false
says_closing (Line.Waits raw) = false
says_closing Line.PassesBy = false
says_closing Line.Closes = true

-- ---- one line by itself, with its number

-- The line, where its name is of the right form and has at most 255 bytes. The form is checked first.
abbrev pub with_name : ℕ → List ℕ → Line → Result Line DocFault
with_name number name said =
    if is_spelled_as_name name
    then (if nat_le (length name) most_name_bytes then Ok said else Err (NameTooLong number))
    else Err (BadLine number)

-- An attribute. Its type is checked first, and then its name.
abbrev pub with_attribute : ℕ → List ℕ → Result Line DocFault
with_attribute number raw =
    if is_type (attribute_type raw) then with_name number (attribute_name raw) (Line.Waits raw) else Err (BadLine number)

-- The line 'C' has no other byte.
abbrev pub with_nothing : ℕ → List ℕ → Result Line DocFault
with_nothing number [] = Ok Line.Closes
with_nothing number (b ∷ bs) = Err (BadLine number)

-- the fault of a line whose first byte is another one
abbrev pub fault_of_kind : ℕ → ℕ → DocFault
fault_of_kind number kind = if is_unsupported_kind kind then Unsupported number kind else BadLine number

-- the meaning of a line, by its first byte, or its fault
abbrev pub line_of : ℕ → List ℕ → Result Line DocFault
line_of number [] = Err (BadLine number)
line_of number (kind ∷ rest) =
    if nat_eq kind hyphen then Ok (Line.Says rest)
    else (if nat_eq kind left_parenthesis then with_name number rest (Line.Starts rest)
    else (if nat_eq kind right_parenthesis then with_name number rest (Line.Ends rest)
    else (if nat_eq kind capital_a then with_attribute number rest
    else (if nat_eq kind question_mark || nat_eq kind capital_l || nat_eq kind number_sign then Ok Line.PassesBy
    else (if nat_eq kind capital_c then with_nothing number rest else Err (fault_of_kind number kind))))))

-- ---- between two lines

-- An open element, which has started and not ended: its name, its attributes, and its items so far.
pub record OpenElement : Type 0 where
  pub name : List ℕ
  pub attributes : List (List ℕ)
  pub items : List Item

-- the element that an open one becomes where it ends
abbrev pub element_of_open : OpenElement → Element
element_of_open o = record { name = o.name; attributes = o.attributes; items = o.items }

-- the open element with one more item
abbrev pub with_item : Item → OpenElement → OpenElement
with_item item o = record { name = o.name; attributes = o.attributes; items = o.items ++ item ∷ [] }

-- The state between two lines. `Inside` has the waiting attributes, in order, and the open elements, the innermost
-- first. `After` has the root, which has ended.
pub data State : Type 0 where
  Inside : List (List ℕ) → List OpenElement → State
  After : Element → State

-- ---- one line that is not refused by itself

-- A whole element becomes an item of the innermost open element. Where none is open, it is the root.
abbrev pub state_with_element : Element → List OpenElement → State
state_with_element e [] = State.After e
state_with_element e (o ∷ around) = State.Inside [] (with_item (Child e) o ∷ around)

-- An element starts with the waiting attributes, where the root has not ended and fewer than 255 elements are open.
abbrev pub state_after_start : ℕ → List ℕ → State → Result State DocFault
state_after_start number name (State.Inside waiting opened) =
    if nat_lt (length opened) most_open_elements
    then Ok (State.Inside [] (record { name = name; attributes = waiting; items = [] } ∷ opened))
    else Err (TooDeep number)
state_after_start number name (State.After root) = Err (SecondRoot number)

-- The innermost open element ends, where the name is its name and no attribute waits.
abbrev pub state_after_end : ℕ → List ℕ → State → Result State DocFault
state_after_end number name (State.Inside [] []) = Err (Unbalanced number)
state_after_end number name (State.Inside [] (o ∷ around)) =
    if pointwise nat_eq o.name name then Ok (state_with_element (element_of_open o) around) else Err (Unbalanced number)
state_after_end number name (State.Inside (raw ∷ waiting) opened) = Err (Unbalanced number)
state_after_end number name (State.After root) = Err (Unbalanced number)

-- A text becomes an item of the innermost open element, where one is open and no attribute waits.
abbrev pub state_after_text : ℕ → List ℕ → State → Result State DocFault
state_after_text number bytes (State.Inside [] []) = Err (Unbalanced number)
state_after_text number bytes (State.Inside [] (o ∷ around)) = Ok (State.Inside [] (with_item (Text bytes) o ∷ around))
state_after_text number bytes (State.Inside (raw ∷ waiting) opened) = Err (Unbalanced number)
state_after_text number bytes (State.After root) = Err (Unbalanced number)

-- An attribute waits, where the root has not ended and fewer than 65,535 others wait.
abbrev pub state_after_attribute : ℕ → List ℕ → State → Result State DocFault
state_after_attribute number raw (State.Inside waiting opened) =
    if nat_lt (length waiting) most_attributes
    then Ok (State.Inside (waiting ++ raw ∷ []) opened) else Err (TooManyAttributes number)
state_after_attribute number raw (State.After root) = Err (SecondRoot number)

-- The closing line is accepted where no element is open and no attribute waits.
abbrev pub state_after_closing : ℕ → State → Result State DocFault
state_after_closing number (State.Inside [] []) = Ok (State.Inside [] [])
state_after_closing number (State.Inside [] (o ∷ around)) = Err (Unbalanced number)
state_after_closing number (State.Inside (raw ∷ waiting) opened) = Err (Unbalanced number)
state_after_closing number (State.After root) = Ok (State.After root)

-- the state after a line with this meaning
abbrev pub state_after : ℕ → State → Line → Result State DocFault
state_after number s (Line.Starts name) = state_after_start number name s
state_after number s (Line.Ends name) = state_after_end number name s
state_after number s (Line.Says bytes) = state_after_text number bytes s
state_after number s (Line.Waits raw) = state_after_attribute number raw s
state_after number s Line.PassesBy = Ok s
state_after number s Line.Closes = state_after_closing number s

-- the state after a line, if it is not refused by itself
abbrev pub state_after_line : ℕ → State → Result Line DocFault → Result State DocFault
state_after_line number s (Ok said) = state_after number s said
state_after_line number s (Err fault) = Err fault

-- A step takes one line, or refuses it.
abbrev pub step : ℕ → State → List ℕ → Result State DocFault
step number s l = state_after_line number s (line_of number l)

-- ---- all lines

-- The document after the last line, where the root has ended. Otherwise the answer is NoRoot where nothing was
-- started, or Unbalanced with this number, that of the missing line.
abbrev pub document_of_state : ℕ → State → Result Doc DocFault
document_of_state number (State.Inside [] []) = Err NoRoot
document_of_state number (State.Inside [] (o ∷ around)) = Err (Unbalanced number)
document_of_state number (State.Inside (raw ∷ waiting) opened) = Err (Unbalanced number)
document_of_state number (State.After root) = Ok (record { root = root })

-- the answer after a step: that of the remaining lines, or the fault of the step
abbrev pub answer_from_step : Result State DocFault → (State → Result Doc DocFault) → Result Doc DocFault
answer_from_step (Ok next) rest = rest next
answer_from_step (Err fault) rest = Err fault

-- A run takes the lines in order. The first has this number. After the line 'C' each line is refused.
abbrev pub run : ℕ → Bool → List (List ℕ) → State → Result Doc DocFault
run number closed [] s = document_of_state number s
run number closed (l ∷ ls) s =
    if closed then Err (BadLine number) else answer_from_step (step number s l) (run (number + 1) (is_closing l) ls)

-- The bytes are read by a run over their lines, from the state before the first one.
abbrev pub read_doc_of : List ℕ → Result Doc DocFault
read_doc_of bytes = run 1 false (lines bytes) (State.Inside [] [])
