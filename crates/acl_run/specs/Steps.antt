-- The steps of a command, and how a run may end at each of them. Defined by this project. `Ends` of `acl_outcome`
-- defines how a run can end.
use Rattle.std.specs.Prelude.{◌≡◌, ℕ, Bool, true, false, not, ◌&&◌, ◌||◌, Option, Some, None, Result, Ok, Err, List, [], ◌∷◌, if◌then◌else◌}
use Rattle.std.specs.Bool.{OnFalse}
use Rattle.std.specs.List.{list_any}
use Rattle.acl_outcome.specs.declared.outcome.Outcome.{Outcome}
use Rattle.acl_outcome.specs.Ends.{Object, store, is_same}
use Rattle.acl_outcome.specs.Ends.{Subject, a_length, a_document, a_seal, a_licence, some_states, a_query, some_keys, a_size, a_file}
use Rattle.acl_outcome.specs.Ends.{End, done, no_memory, usage, fault, stopped, refused, end_of}

-- ---- steps

-- a question about what was read
pub data Question : Type 0 where
  are_rules : Question  -- are the bytes of the keys the body of a licence?
  is_query : Question  -- are the bytes of the query a path within the limits?
  is_document : Question  -- are the bytes of the input the lines of a document?
  has_file : Question  -- is the document of the input small enough to have a file?
  are_keys : Question  -- are the bytes of the keys a document key and a seal key?
  is_body : Question  -- are the bytes of the input the body of a licence?
  is_licence : Question  -- are the bytes of the input a licence with the right seal?

-- the answer to a question
pub data Finding : Type 0 where
  good : Finding  -- yes, or there is nothing to ask
  bad : Outcome → Finding  -- no, and this outcome is the refusal
  unknown : Finding  -- unknown, since a source does not tell its bytes

-- a step of a command
pub data Step : Type 0 where
  reads : Object → Step  -- this source is read, to its end or one byte past its limit
  asks : Question → Finding → Step  -- this question is asked, and this is the answer
  opens : Step  -- the file in the store is read and checked, and the document in it is read
  makes : Step  -- the text that is due is made in memory
  writes : Object → Step  -- the text that is due on this sink is written

-- the finding for a reader's result: good for a value, and bad for a refusal
abbrev pub finding_in : {A : Type 0} → Result A Outcome → Finding
finding_in (Ok a) = good
finding_in (Err outcome) = bad outcome

-- what a reader finds in the bytes of a source: unknown where the source doesn't tell them
abbrev pub finding_of : {A : Type 0} → (List ℕ → Result A Outcome) → Option (List ℕ) → Finding
finding_of reader None = unknown
finding_of reader (Some bytes) = finding_in (reader bytes)

-- ---- how a run may end at a step

-- whether a refusal on this subject may be the answer to a question
abbrev pub may_refuse : Question → Subject → Bool
may_refuse are_rules a_length = true
may_refuse are_rules a_document = false
may_refuse are_rules a_seal = false
may_refuse are_rules a_licence = true
may_refuse are_rules some_states = true
may_refuse are_rules a_query = false
may_refuse are_rules some_keys = false
may_refuse are_rules a_size = false
may_refuse are_rules a_file = false
may_refuse is_query a_length = false
may_refuse is_query a_document = false
may_refuse is_query a_seal = false
may_refuse is_query a_licence = false
may_refuse is_query some_states = true
may_refuse is_query a_query = true
may_refuse is_query some_keys = false
may_refuse is_query a_size = false
may_refuse is_query a_file = false
may_refuse is_document a_length = true
may_refuse is_document a_document = true
may_refuse is_document a_seal = false
may_refuse is_document a_licence = false
may_refuse is_document some_states = false
may_refuse is_document a_query = false
may_refuse is_document some_keys = false
may_refuse is_document a_size = false
may_refuse is_document a_file = false
may_refuse has_file a_length = false
may_refuse has_file a_document = false
may_refuse has_file a_seal = false
may_refuse has_file a_licence = false
may_refuse has_file some_states = false
may_refuse has_file a_query = false
may_refuse has_file some_keys = false
may_refuse has_file a_size = true
may_refuse has_file a_file = false
may_refuse are_keys a_length = true
may_refuse are_keys a_document = false
may_refuse are_keys a_seal = false
may_refuse are_keys a_licence = false
may_refuse are_keys some_states = false
may_refuse are_keys a_query = false
may_refuse are_keys some_keys = true
may_refuse are_keys a_size = false
may_refuse are_keys a_file = false
may_refuse is_body a_length = true
may_refuse is_body a_document = false
may_refuse is_body a_seal = false
may_refuse is_body a_licence = true
may_refuse is_body some_states = true
may_refuse is_body a_query = false
may_refuse is_body some_keys = false
may_refuse is_body a_size = false
may_refuse is_body a_file = false
may_refuse is_licence a_length = true
may_refuse is_licence a_document = false
may_refuse is_licence a_seal = true
may_refuse is_licence a_licence = true
may_refuse is_licence some_states = true
may_refuse is_licence a_query = false
may_refuse is_licence some_keys = false
may_refuse is_licence a_size = false
may_refuse is_licence a_file = false

-- whether the subject of a refusal is the bytes of a store
abbrev pub is_of_store : Subject → Bool
is_of_store a_length = false
is_of_store a_document = false
is_of_store a_seal = false
is_of_store a_licence = false
is_of_store some_states = false
is_of_store a_query = false
is_of_store some_keys = false
is_of_store a_size = false
is_of_store a_file = true

-- whether a refusal may follow this finding: it is not good
abbrev pub is_open : Finding → Bool
is_open good = false
is_open (bad refusal) = true
is_open unknown = true

-- Whether a run may end so at this step. It may end by out of memory at each step but a writing, and by a fault of the
-- object that the step reads, opens or writes to. At a question whose answer is not good it may end by a refusal that
-- answers it, and at the opening of the store by a refusal of the store's bytes.
abbrev pub may_end_at : Step → End → Bool
may_end_at (reads x) done = false
may_end_at (reads x) no_memory = true
may_end_at (reads x) usage = false
may_end_at (reads x) (fault y) = is_same x y
may_end_at (reads x) stopped = false
may_end_at (reads x) (refused subject) = false
may_end_at (asks question finding) done = false
may_end_at (asks question finding) no_memory = true
may_end_at (asks question finding) usage = false
may_end_at (asks question finding) (fault y) = false
may_end_at (asks question finding) stopped = false
may_end_at (asks question finding) (refused subject) = may_refuse question subject && is_open finding
may_end_at opens done = false
may_end_at opens no_memory = true
may_end_at opens usage = false
may_end_at opens (fault y) = is_same store y
may_end_at opens stopped = false
may_end_at opens (refused subject) = is_of_store subject
may_end_at makes done = false
may_end_at makes no_memory = true
may_end_at makes usage = false
may_end_at makes (fault y) = false
may_end_at makes stopped = false
may_end_at makes (refused subject) = false
may_end_at (writes x) done = false
may_end_at (writes x) no_memory = false
may_end_at (writes x) usage = false
may_end_at (writes x) (fault y) = is_same x y
may_end_at (writes x) stopped = false
may_end_at (writes x) (refused subject) = false

-- whether a run may end so at one of these steps
abbrev pub may_end_in : List Step → End → Bool
may_end_in steps e = list_any (λ step. may_end_at step e) steps

-- whether the end is that all is done
abbrev pub is_done : End → Bool
is_done done = true
is_done no_memory = false
is_done usage = false
is_done (fault x) = false
is_done stopped = false
is_done (refused subject) = false

-- whether a run may end so at one of these steps, or is done after the last
abbrev pub may_end_from : List Step → End → Bool
may_end_from steps e = is_done e || may_end_in steps e

-- ---- before or after which step an end comes

-- whether the step reads this object
abbrev pub is_reading_of : Object → Step → Bool
is_reading_of x (reads y) = is_same x y
is_reading_of x (asks question finding) = false
is_reading_of x opens = false
is_reading_of x makes = false
is_reading_of x (writes y) = false

-- whether the step writes to this object
abbrev pub is_writing_to : Object → Step → Bool
is_writing_to x (reads y) = false
is_writing_to x (asks question finding) = false
is_writing_to x opens = false
is_writing_to x makes = false
is_writing_to x (writes y) = is_same x y

-- whether the step opens the store, and this object is the store
abbrev pub is_opening_of : Object → Step → Bool
is_opening_of x (reads y) = false
is_opening_of x (asks question finding) = false
is_opening_of x opens = is_same x store
is_opening_of x makes = false
is_opening_of x (writes y) = false

-- Whether no run ends so at the first step that passes the test, or later. It is true of each end where no step passes
-- the test.
abbrev pub is_before : (Step → Bool) → List Step → End → Bool
is_before test [] e = true
is_before test (step ∷ steps) e = if test step then not (may_end_from (step ∷ steps) e) else is_before test steps e

-- Whether a run may end so after the first step that passes the test, and may not end so at that step or before it. It
-- is false of each end where no step passes the test.
abbrev pub is_after : (Step → Bool) → List Step → End → Bool
is_after test [] e = false
is_after test (step ∷ steps) e = not (may_end_at step e) && (if test step then may_end_from steps e else is_after test steps e)

-- ---- how a run that goes by its steps ends

-- The run ended by out of memory, or the fact is true.
abbrev pub OrNoMemory : End → Type 0 → Type 0
OrNoMemory done fact = fact
OrNoMemory no_memory fact = Unit {0}
OrNoMemory usage fact = fact
OrNoMemory (fault x) fact = fact
OrNoMemory stopped fact = fact
OrNoMemory (refused subject) fact = fact

-- The run ended by a fault of this object, or the fact is true.
abbrev pub OrFaultOf : Object → End → Type 0 → Type 0
OrFaultOf x done fact = fact
OrFaultOf x no_memory fact = fact
OrFaultOf x usage fact = fact
OrFaultOf x (fault y) fact = OnFalse (is_same x y) fact
OrFaultOf x stopped fact = fact
OrFaultOf x (refused subject) fact = fact

-- The run ended by a refusal that may answer this question, or the fact is true.
abbrev pub OrRefusalOf : Question → End → Type 0 → Type 0
OrRefusalOf question done fact = fact
OrRefusalOf question no_memory fact = fact
OrRefusalOf question usage fact = fact
OrRefusalOf question (fault x) fact = fact
OrRefusalOf question stopped fact = fact
OrRefusalOf question (refused subject) fact = OnFalse (may_refuse question subject) fact

-- The run ended by a refusal of the store's bytes, or the fact is true.
abbrev pub OrStoreRefusal : End → Type 0 → Type 0
OrStoreRefusal done fact = fact
OrStoreRefusal no_memory fact = fact
OrStoreRefusal usage fact = fact
OrStoreRefusal (fault x) fact = fact
OrStoreRefusal stopped fact = fact
OrStoreRefusal (refused subject) fact = OnFalse (is_of_store subject) fact

-- The end is that all is done.
abbrev pub IsDone : End → Type 0
IsDone done = Unit {0}
IsDone no_memory = ⊥
IsDone usage = ⊥
IsDone (fault x) = ⊥
IsDone stopped = ⊥
IsDone (refused subject) = ⊥

-- The run ended at this step, or it passed the step and the fact about later steps is true. At a question with a bad
-- answer the run ends, by that refusal or by out of memory. At one with a good answer no refusal ends it. At one with
-- an unknown answer it may be refused or pass. The bytes of the store are unknown here, so its opening may end in a
-- refusal or pass.
abbrev pub EndsAtOr : Step → Outcome → End → Type 0 → Type 0
EndsAtOr (reads x) outcome e later = OrNoMemory e (OrFaultOf x e later)
EndsAtOr (asks question good) outcome e later = OrNoMemory e later
EndsAtOr (asks question (bad refusal)) outcome e later = OrNoMemory e (outcome ≡ refusal)
EndsAtOr (asks question unknown) outcome e later = OrNoMemory e (OrRefusalOf question e later)
EndsAtOr opens outcome e later = OrNoMemory e (OrFaultOf store e (OrStoreRefusal e later))
EndsAtOr makes outcome e later = OrNoMemory e later
EndsAtOr (writes x) outcome e later = OrFaultOf x e later

-- The run ended with this outcome at the first of these steps that it did not pass; or it passed all of them, and is
-- done.
abbrev pub Follows : List Step → Outcome → Type 0
Follows [] outcome = IsDone (end_of outcome)
Follows (step ∷ steps) outcome = EndsAtOr step outcome (end_of outcome) (Follows steps outcome)
