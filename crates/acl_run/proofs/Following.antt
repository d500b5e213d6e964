-- A run that ends at a step, or goes on after it, follows the steps of its command.
use Rattle.std.proofs.Common.{◌≡◌, ℕ, Option, Some, None, Result, Ok, Err, List, ◌∷◌, IsTrue, IfSome, ap, sym, subst, true≢false}
use Rattle.acl_outcome.specs.declared.outcome.Outcome.{Outcome}
use Rattle.acl_outcome.specs.Ends.{Object, out, note, End, done, no_memory, fault, refused, is_same, end_of}
use Rattle.acl_run.specs.inside.SourceSteps.{ends_reading, ends_asking}
use Rattle.acl_run.specs.Steps.{Question, Finding, good, bad, unknown, Step, reads, asks, makes, writes, may_end_from, finding_in, finding_of, may_refuse, OrNoMemory, OrFaultOf, EndsAtOr, Follows, IsDone}
use Rattle.acl_run.specs.inside.WritingSteps.{writing_steps, noting_steps}
use Rattle.acl_run.proofs.Facts.{on_false-true, or_false, and_true, or_no_memory, or_fault_of, or_refusal_of}

-- ---- at a question

-- where a source doesn't tell its bytes, a run may end at a question by each end of the question
untold_asking : (question : Question) (o : Outcome) (e : End) (later : Type 0) → IsTrue (ends_asking question e)
    → EndsAtOr (asks question unknown) o e later
untold_asking question o no_memory later h = tt
untold_asking question o (refused subject) later h = on_false-true (may_refuse question subject) _ (and_true _ (or_false _ h))
untold_asking question o e later h = absurd (true≢false (sym h))

-- out of memory ends a run at each question
asking_memory : (question : Question) (found : Finding) (o : Outcome) (later : Type 0) → EndsAtOr (asks question found) o no_memory later
asking_memory question good o later = tt
asking_memory question (bad refusal) o later = tt
asking_memory question unknown o later = tt

-- where a source tells its bytes, a run that ends at a question ends by their refusal or by out of memory
told_asking : {A : Type 0} (question : Question) (wanted : Result A Outcome) (o : Outcome) (e : End) (later : Type 0)
    → IsTrue (ends_asking question e) → OrNoMemory e (wanted ≡ Err o)
    → EndsAtOr (asks question (finding_in wanted)) o e later
told_asking question wanted o no_memory later h w = asking_memory question (finding_in wanted) o later
told_asking question (Ok a) o (refused subject) later h w = absurd (cc)
told_asking question (Err refusal) o (refused subject) later h w = cc
told_asking question wanted o e later h w = absurd (true≢false (sym h))

-- a run that goes on after a question
pub asking_passes : {A : Type 0} (question : Question) (reader : List ℕ → Result A Outcome) (left : Option (List ℕ)) (a : A) (o : Outcome) (steps : List Step)
    → IfSome left (λ bytes. reader bytes ≡ Ok a) → Follows steps o → Follows (asks question (finding_of reader left) ∷ steps) o
asking_passes question reader None a o steps h later = or_no_memory (end_of o) (or_refusal_of question (end_of o) later)
asking_passes question reader (Some bytes) a o steps h later =
    subst (λ found. Follows (asks question (finding_in found) ∷ steps) o) (sym h) (or_no_memory (end_of o) later)

-- a run that ends at a question
pub asking_ends : {A : Type 0} (question : Question) (reader : List ℕ → Result A Outcome) (left : Option (List ℕ)) (o : Outcome) (steps : List Step)
    → IsTrue (ends_asking question (end_of o)) → IfSome left (λ bytes. OrNoMemory (end_of o) (reader bytes ≡ Err o))
    → Follows (asks question (finding_of reader left) ∷ steps) o
asking_ends question reader None o steps h w = untold_asking question o (end_of o) _ h
asking_ends question reader (Some bytes) o steps h w = told_asking question (reader bytes) o (end_of o) _ h w

-- ---- at the reading of a source

-- where a source doesn't tell its bytes, a run may end at its reading by each end of the reading
untold_ends : (x : Object) (question : Question) (o : Outcome) (e : End) (later : Type 0) → IsTrue (ends_reading x question e)
    → EndsAtOr (reads x) o e (EndsAtOr (asks question unknown) o e later)
untold_ends x question o no_memory later h = tt
untold_ends x question o (fault y) later h = on_false-true (is_same x y) _ (or_false _ h)
untold_ends x question o (refused subject) later h = on_false-true (may_refuse question subject) _ (and_true _ (or_false _ h))
untold_ends x question o e later h = absurd (true≢false (sym h))

-- where a source tells its bytes, a run that ends at its reading ends by their refusal, out of memory or a fault
told_ends : {A : Type 0} (x : Object) (question : Question) (wanted : Result A Outcome) (o : Outcome) (e : End) (later : Type 0)
    → IsTrue (ends_reading x question e) → OrNoMemory e (OrFaultOf x e (wanted ≡ Err o))
    → EndsAtOr (reads x) o e (EndsAtOr (asks question (finding_in wanted)) o e later)
told_ends x question wanted o no_memory later h w = tt
told_ends x question wanted o (fault y) later h w = on_false-true (is_same x y) _ (or_false _ h)
told_ends x question (Ok a) o (refused subject) later h w = absurd (cc)
told_ends x question (Err refusal) o (refused subject) later h w = cc
told_ends x question wanted o e later h w = absurd (true≢false (sym h))

-- a run that ends at the reading of a source
pub reading_ends : {A : Type 0} (x : Object) (question : Question) (reader : List ℕ → Result A Outcome) (left : Option (List ℕ)) (o : Outcome) (steps : List Step)
    → IsTrue (ends_reading x question (end_of o)) → IfSome left (λ bytes. OrNoMemory (end_of o) (OrFaultOf x (end_of o) (reader bytes ≡ Err o)))
    → Follows (reads x ∷ asks question (finding_of reader left) ∷ steps) o
reading_ends x question reader None o steps h w = untold_ends x question o (end_of o) _ h
reading_ends x question reader (Some bytes) o steps h w = told_ends x question (reader bytes) o (end_of o) _ h w

-- ---- after a step

-- a run that goes on after good bytes
good_found : (x : Object) (question : Question) (found : Finding) (o : Outcome) (steps : List Step) → found ≡ good → Follows steps o
    → Follows (reads x ∷ asks question found ∷ steps) o
good_found x question found o steps h later =
    subst (λ found. Follows (reads x ∷ asks question found ∷ steps) o) (sym h)
    (or_no_memory (end_of o) (or_fault_of x (end_of o) (or_no_memory (end_of o) later)))

-- a run that goes on after the reading of a source, where its bytes are good
pub good_passes : {A : Type 0} (x : Object) (question : Question) (reader : List ℕ → Result A Outcome) (left : Option (List ℕ)) (o : Outcome) (steps : List Step)
    → IfSome left (λ bytes. finding_in (reader bytes) ≡ good) → Follows steps o
    → Follows (reads x ∷ asks question (finding_of reader left) ∷ steps) o
good_passes x question reader None o steps h later =
    or_no_memory (end_of o) (or_fault_of x (end_of o) (or_no_memory (end_of o) (or_refusal_of question (end_of o) later)))
good_passes x question reader (Some bytes) o steps h later = good_found x question (finding_in (reader bytes)) o steps h later

good_where_read : {A : Type 0} (reader : List ℕ → Result A Outcome) (left : Option (List ℕ)) (a : A)
    → IfSome left (λ bytes. reader bytes ≡ Ok a) → IfSome left (λ bytes. finding_in (reader bytes) ≡ good)
good_where_read reader None a h = tt
good_where_read reader (Some bytes) a h = ap finding_in h

-- a run that goes on after the reading of a source, where a value was read
pub reading_passes : {A : Type 0} (x : Object) (question : Question) (reader : List ℕ → Result A Outcome) (left : Option (List ℕ)) (a : A) (o : Outcome) (steps : List Step)
    → IfSome left (λ bytes. reader bytes ≡ Ok a) → Follows steps o
    → Follows (reads x ∷ asks question (finding_of reader left) ∷ steps) o
reading_passes x question reader left a o steps h later =
    good_passes x question reader left o steps (good_where_read reader left a h) later

-- ---- at the end

-- a run that ends where a text is made and written
pub writing_ends : (o : Outcome) (e : End) → IsTrue (may_end_from writing_steps e) → EndsAtOr makes o e (EndsAtOr (writes out) o e (IsDone e))
writing_ends o done h = tt
writing_ends o no_memory h = tt
writing_ends o (fault out) h = tt
writing_ends o e h = absurd (true≢false (sym h))

-- a run that ends where a text is made, and written before a note
pub noting_ends : (o : Outcome) (e : End) → IsTrue (may_end_from noting_steps e)
    → EndsAtOr makes o e (EndsAtOr (writes out) o e (EndsAtOr (writes note) o e (IsDone e)))
noting_ends o done h = tt
noting_ends o (fault out) h = tt
noting_ends o (fault note) h = tt
noting_ends o e h = absurd (true≢false (sym h))
