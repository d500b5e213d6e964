-- How the last steps of a command end: a text is written to the output, and for some commands then a note. Defined by
-- this project. A sink holds bytes back where it took them and has not settled them.
use Rattle.std.specs.Prelude.{◌≡◌, ℕ, IsTrue, Option, List, [], ◌∷◌}
use Rattle.std.specs.Bool.{OnTrue}
use Rattle.acl_outside.specs.Outside.{AreAllSettled}
use Rattle.acl_outcome.specs.declared.outcome.Outcome.{Outcome}
use Rattle.acl_outcome.specs.Ends.{out, note, end_of, is_fault_of}
use Rattle.acl_run.specs.Objects.{LeavesSink}
use Rattle.acl_run.specs.Steps.{Step, makes, writes, is_writing_to, may_end_from, is_before}
use Rattle.acl_run.specs.WrittenTexts.{WritesText, WritesNote, WhereWhole, WhereDone}

-- the steps: a text is made, and then written to the output
abbrev pub writing_steps : List Step
writing_steps = makes ∷ writes out ∷ []

-- The run ended at these steps or after them. If it is done, the whole text was written, and the output holds nothing
-- back. If it ran out of memory, the output is unchanged. If the output failed, a prefix of the text was written.
pub record EndsWriting {S : Type 0}
    (written : S → Option (List ℕ)) (missed : S → Option ℕ) (settled : S → Option (List ℕ)) (faults : S → ℕ)
    (outcome : Outcome) (old new : S) (due : List ℕ) : Type 0 where
  pub ends : IsTrue (may_end_from writing_steps (end_of outcome))
  pub text : WritesText (end_of outcome) (written old) (written new) due
  pub is_settled : WhereWhole (end_of outcome) (AreAllSettled (settled new) (written new))
  pub unwritten : OnTrue (is_before (is_writing_to out) writing_steps (end_of outcome)) (new ≡ old)
  pub sink : LeavesSink written missed settled faults (is_fault_of out (end_of outcome)) old new

-- the steps: a text is written to the output, and then a note
abbrev pub noting_steps : List Step
noting_steps = writes out ∷ writes note ∷ []

-- The run ended at these steps or after them. If it is done, the text and the note were written, and neither sink
-- holds anything back. If the note failed, the whole text and a prefix of the note were written. If the output failed,
-- a prefix of the text was written, and the sink of notes is unchanged.
pub record EndsNoting {S N : Type 0}
    (written : S → Option (List ℕ)) (missed : S → Option ℕ) (settled : S → Option (List ℕ)) (faults : S → ℕ)
    (note_written : N → Option (List ℕ)) (note_missed : N → Option ℕ) (note_settled : N → Option (List ℕ)) (note_faults : N → ℕ)
    (outcome : Outcome) (old new : S) (due : List ℕ) (old_note new_note : N) (due_note : List ℕ) : Type 0 where
  pub ends : IsTrue (may_end_from noting_steps (end_of outcome))
  pub text : WritesText (end_of outcome) (written old) (written new) due
  pub note_text : WritesNote (end_of outcome) (note_written old_note) (note_written new_note) due_note
  pub is_settled : WhereWhole (end_of outcome) (AreAllSettled (settled new) (written new))
  pub is_note_settled : WhereDone (end_of outcome) (AreAllSettled (note_settled new_note) (note_written new_note))
  pub unnoted : OnTrue (is_before (is_writing_to note) noting_steps (end_of outcome)) (new_note ≡ old_note)
  pub sink : LeavesSink written missed settled faults (is_fault_of out (end_of outcome)) old new
  pub note_sink : LeavesSink note_written note_missed note_settled note_faults (is_fault_of note (end_of outcome)) old_note new_note
