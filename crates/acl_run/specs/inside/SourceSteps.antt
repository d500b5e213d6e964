-- How one source is read in a run, and its bytes are checked. Defined by this project.
use Rattle.std.specs.Prelude.{◌≡◌, Bool, true, false, Result, Ok, Err, [], ◌∷◌}
use Rattle.acl_outcome.specs.declared.outcome.Outcome.{Outcome}
use Rattle.acl_outcome.specs.Ends.{Object, End, done, no_memory, usage, fault, stopped, refused, end_of, is_fault_of}
use Rattle.acl_run.specs.Steps.{Question, unknown, reads, asks, may_end_in, OrNoMemory, OrFaultOf}

-- whether the result is a fault of this object
abbrev pub is_fault_in : {A : Type 0} → Object → Result A Outcome → Bool
is_fault_in x (Ok a) = false
is_fault_in x (Err outcome) = is_fault_of x (end_of outcome)

-- whether the end is a refusal
abbrev pub is_refusal : End → Bool
is_refusal done = false
is_refusal no_memory = false
is_refusal usage = false
is_refusal (fault x) = false
is_refusal stopped = false
is_refusal (refused subject) = true

-- whether the result is about the bytes that were read: a value, or a refusal
abbrev pub is_about_bytes : {A : Type 0} → Result A Outcome → Bool
is_about_bytes (Ok a) = true
is_about_bytes (Err outcome) = is_refusal (end_of outcome)

-- whether a run may end so where it reads this object, and then asks this question with an unknown answer
abbrev pub ends_reading : Object → Question → End → Bool
ends_reading x question e = may_end_in (reads x ∷ asks question unknown ∷ []) e

-- whether a run may end so where it asks this question with an unknown answer
abbrev pub ends_asking : Question → End → Bool
ends_asking question e = may_end_in (asks question unknown ∷ []) e

-- The result is the wanted value or refusal, or out of memory, or a fault of the object that was read.
abbrev pub Answers : {A : Type 0} → Object → Result A Outcome → Result A Outcome → Type 0
Answers x wanted (Ok a) = wanted ≡ Ok a
Answers x wanted (Err outcome) = OrNoMemory (end_of outcome) (OrFaultOf x (end_of outcome) (wanted ≡ Err outcome))

-- The result is the wanted value or refusal, or out of memory. No object is used.
abbrev pub AnswersAlone : {A : Type 0} → Result A Outcome → Result A Outcome → Type 0
AnswersAlone wanted (Ok a) = wanted ≡ Ok a
AnswersAlone wanted (Err outcome) = OrNoMemory (end_of outcome) (wanted ≡ Err outcome)
