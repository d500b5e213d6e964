-- The values in specs of the lines and states that the code has.
use Rattle.std.specs.Prelude.{ℕ, Option, Some, None, Result, Ok, Err, List, [], reverse}
use Rattle.acl_model.specs.declared.document.Element.{Element}
use Rattle.esis_lines.specs.LineMachine.{Line, State, OpenElement}
use Rattle.esis_lines.specs.declared.doc_fault.DocFault.{DocFault}
use Rattle.esis_lines.specs.declared.line.Line.{Line as HeldLine}
use Rattle.esis_lines.specs.declared.line.Line.TheVariants.{Start, End, Text, Attribute, PassedBy, Closing}

-- the line's value, without references
abbrev pub line_value : HeldLine → Line
line_value (Start name) = Line.Starts name.now
line_value (End name) = Line.Ends name.now
line_value (Text bytes) = Line.Says bytes.now
line_value (Attribute raw) = Line.Waits raw.now
line_value PassedBy = Line.PassesBy
line_value Closing = Line.Closes

-- the value of a line, or its fault
abbrev pub line_or_fault : Result HeldLine DocFault → Result Line DocFault
line_or_fault (Ok line) = Ok (line_value line)
line_or_fault (Err fault) = Err fault

-- The code's state: the waiting attributes, the open elements, the innermost last, and the root where it has ended.
abbrev pub state_of : List (List ℕ) → List OpenElement → Option Element → State
state_of waiting opened None = State.Inside waiting (reverse opened)
state_of waiting opened (Some root) = State.After root

-- the answer of a call that changes the state: the new state, or the fault
abbrev pub reached : {A : Type 0} → Result A DocFault → State → Result State DocFault
reached (Ok done) next = Ok next
reached (Err fault) next = Err fault

-- the state after an element was placed: inside the open elements, or after the root where the element is the root
abbrev pub placed : Result (Option Element) DocFault → List OpenElement → Result State DocFault
placed (Ok root) opened = Ok (state_of [] opened root)
placed (Err fault) opened = Err fault
