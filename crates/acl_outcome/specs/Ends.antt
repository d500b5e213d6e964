-- How a run can end: the end of each outcome, without the outcome's numbers and digests. Contracts on the order of
-- work use these ends. Defined by this project.
use Rattle.std.specs.Prelude.{Bool, true, false}
use Rattle.acl_outcome.specs.declared.outcome.Outcome.{Outcome}
use Rattle.acl_outcome.specs.declared.outcome.Outcome.TheVariants.{Done, NoMemory, Usage, KeysFault, NoteFault, BadLine, Unsupported, Unbalanced, NoRoot, SecondRoot, TooDeep, NameTooLong, InputTooLong, SourceFault, TooManyAttributes, BadSeal, BadRule, BadLicence, TooManyRules, TooManyStates, BadKeys, BadQuery, BadHeader, WrongRoot, WrongKey, StoreShort, StoreFault, BadFragment, TooManyTags, TooLarge, BadIndex, SinkFault, Stopped}

-- the objects that a run uses: the source of keys or rules, the input, the store, the output, and the sink of notes
pub data Object : Type 0 where
  keys : Object
  input : Object
  store : Object
  out : Object
  note : Object

-- what a refusal is about
pub data Subject : Type 0 where
  a_length : Subject  -- how many bytes a source gives
  a_document : Subject  -- the lines of a document
  a_seal : Subject  -- the seal of a licence
  a_licence : Subject  -- the lines of a licence, or of the body of one
  some_states : Subject  -- how many steps and predicates there are, in the rules of a licence or in a query
  a_query : Subject  -- the path of a query
  some_keys : Subject  -- the text of the keys
  a_size : Subject  -- how large the encoding of a document is
  a_file : Subject  -- the bytes of a store

-- how a run ended
pub data End : Type 0 where
  done : End  -- all of the output was written
  no_memory : End  -- memory ran out
  usage : End  -- the arguments are not a valid command line
  fault : Object → End  -- a call on this object failed
  stopped : End  -- a watcher stopped the writing
  refused : Subject → End  -- what was read is refused

-- the end of each outcome
abbrev pub end_of : Outcome → End
end_of Done = done
end_of NoMemory = no_memory
end_of Usage = usage
end_of KeysFault = fault keys
end_of NoteFault = fault note
end_of (BadLine line) = refused a_document
end_of (Unsupported line kind) = refused a_document
end_of (Unbalanced line) = refused a_document
end_of NoRoot = refused a_document
end_of (SecondRoot line) = refused a_document
end_of (TooDeep line) = refused a_document
end_of (NameTooLong line) = refused a_document
end_of (InputTooLong limit) = refused a_length
end_of SourceFault = fault input
end_of (TooManyAttributes line) = refused a_document
end_of (BadSeal given made) = refused a_seal
end_of (BadRule line at) = refused a_licence
end_of (BadLicence line) = refused a_licence
end_of TooManyRules = refused a_licence
end_of TooManyStates = refused some_states
end_of (BadKeys line) = refused some_keys
end_of (BadQuery at) = refused a_query
end_of BadHeader = refused a_file
end_of (WrongRoot want made) = refused a_file
end_of (WrongKey want made) = refused a_file
end_of (StoreShort at) = refused a_file
end_of StoreFault = fault store
end_of (BadFragment index want made) = refused a_file
end_of TooManyTags = refused a_size
end_of TooLarge = refused a_size
end_of BadIndex = refused a_file
end_of SinkFault = fault out
end_of (Stopped watcher line) = stopped

-- whether two objects are the same
abbrev pub is_same : Object → Object → Bool
is_same keys keys = true
is_same keys input = false
is_same keys store = false
is_same keys out = false
is_same keys note = false
is_same input keys = false
is_same input input = true
is_same input store = false
is_same input out = false
is_same input note = false
is_same store keys = false
is_same store input = false
is_same store store = true
is_same store out = false
is_same store note = false
is_same out keys = false
is_same out input = false
is_same out store = false
is_same out out = true
is_same out note = false
is_same note keys = false
is_same note input = false
is_same note store = false
is_same note out = false
is_same note note = true

-- whether the end is a fault of this object
abbrev pub is_fault_of : Object → End → Bool
is_fault_of x done = false
is_fault_of x no_memory = false
is_fault_of x usage = false
is_fault_of x (fault y) = is_same x y
is_fault_of x stopped = false
is_fault_of x (refused subject) = false
