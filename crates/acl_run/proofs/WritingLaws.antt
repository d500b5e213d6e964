-- How the writing of a text ends.
use Rattle.std.proofs.Common.{ℕ, Option, Ok, Err, List, refl}
use Rattle.acl_outside.specs.Outside.{AreAllSettled}
use Rattle.acl_outside.specs.WrittenText.{Writes}
use Rattle.acl_outcome.specs.declared.outcome.Outcome.TheVariants.{Done, NoMemory, SinkFault, NoteFault}
use Rattle.acl_run.specs.inside.WritingSteps.{EndsWriting, EndsNoting}
use Rattle.acl_run.proofs.Objects.{sink-same}

module _ {S : Type 0} (written : S → Option (List ℕ)) (missed : S → Option ℕ) (settled : S → Option (List ℕ)) (faults : S → ℕ) where
  -- the whole text was written and settled
  pub ends_done : {T E : Type 0} (t : T) (old new : S) (text : List ℕ) → Writes {E = E} written missed settled faults (Ok t) old new text
      → AreAllSettled (settled new) (written new) → EndsWriting written missed settled faults Done old new text
  ends_done t old new text wrote all = record {
    ends = refl;
    text = wrote.whole;
    is_settled = all;
    unwritten = tt;
    sink = record { count = wrote.quiet; never_falls = wrote.never_falls; telling = wrote.telling; tells_missed = wrote.tells_missed; tells_settled = wrote.tells_settled };
  }

  -- a prefix of the text was written
  pub ends_failed : {T E : Type 0} (e : E) (old new : S) (text : List ℕ) → Writes {T = T} written missed settled faults (Err e) old new text
      → EndsWriting written missed settled faults SinkFault old new text
  ends_failed e old new text wrote = record {
    ends = refl;
    text = wrote.part;
    is_settled = tt;
    unwritten = tt;
    sink = record { count = wrote.cause; never_falls = wrote.never_falls; telling = wrote.telling; tells_missed = wrote.tells_missed; tells_settled = wrote.tells_settled };
  }

  -- nothing was written, since memory ran out
  pub ends_unwritten : (s : S) (text : List ℕ) → EndsWriting written missed settled faults NoMemory s s text
  ends_unwritten s text = record { ends = refl; text = tt; is_settled = tt; unwritten = refl; sink = sink-same written missed settled faults s }

-- for what is shown
pub ruleset writings = (ends_done, ends_failed, ends_unwritten)

module _ {S N : Type 0} (written : S → Option (List ℕ)) (missed : S → Option ℕ) (settled : S → Option (List ℕ)) (faults : S → ℕ)
    (note_written : N → Option (List ℕ)) (note_missed : N → Option ℕ) (note_settled : N → Option (List ℕ)) (note_faults : N → ℕ) where
  -- the whole text was written and settled, and so was the note
  pub noting_done : {T E F G : Type 0} (t : T) (f : F) (old new : S) (text : List ℕ) (old_note new_note : N) (note_text : List ℕ)
      → Writes {E = E} written missed settled faults (Ok t) old new text → AreAllSettled (settled new) (written new)
      → Writes {E = G} note_written note_missed note_settled note_faults (Ok f) old_note new_note note_text → AreAllSettled (note_settled new_note) (note_written new_note)
      → EndsNoting written missed settled faults note_written note_missed note_settled note_faults Done old new text old_note new_note note_text
  noting_done t f old new text old_note new_note note_text wrote all wrote_note all_note = record {
    ends = refl;
    text = wrote.whole;
    note_text = wrote_note.whole;
    is_settled = all;
    is_note_settled = all_note;
    unnoted = tt;
    sink = record { count = wrote.quiet; never_falls = wrote.never_falls; telling = wrote.telling; tells_missed = wrote.tells_missed; tells_settled = wrote.tells_settled };
    note_sink = record { count = wrote_note.quiet; never_falls = wrote_note.never_falls; telling = wrote_note.telling; tells_missed = wrote_note.tells_missed; tells_settled = wrote_note.tells_settled };
  }

  -- the whole text was written and settled, and a prefix of the note
  pub noting_failed : {T E F G : Type 0} (t : T) (g : G) (old new : S) (text : List ℕ) (old_note new_note : N) (note_text : List ℕ)
      → Writes {E = E} written missed settled faults (Ok t) old new text → AreAllSettled (settled new) (written new)
      → Writes {T = F} note_written note_missed note_settled note_faults (Err g) old_note new_note note_text
      → EndsNoting written missed settled faults note_written note_missed note_settled note_faults NoteFault old new text old_note new_note note_text
  noting_failed t g old new text old_note new_note note_text wrote all wrote_note = record {
    ends = refl;
    text = wrote.whole;
    note_text = wrote_note.part;
    is_settled = all;
    is_note_settled = tt;
    unnoted = tt;
    sink = record { count = wrote.quiet; never_falls = wrote.never_falls; telling = wrote.telling; tells_missed = wrote.tells_missed; tells_settled = wrote.tells_settled };
    note_sink = record { count = wrote_note.cause; never_falls = wrote_note.never_falls; telling = wrote_note.telling; tells_missed = wrote_note.tells_missed; tells_settled = wrote_note.tells_settled };
  }

  -- a prefix of the text was written, and no note
  pub noting_unwritten : {T E : Type 0} (e : E) (old new : S) (text : List ℕ) (s : N) (note_text : List ℕ)
      → Writes {T = T} written missed settled faults (Err e) old new text
      → EndsNoting written missed settled faults note_written note_missed note_settled note_faults SinkFault old new text s s note_text
  noting_unwritten e old new text s note_text wrote = record {
    ends = refl;
    text = wrote.part;
    note_text = tt;
    is_settled = tt;
    is_note_settled = tt;
    unnoted = refl;
    sink = record { count = wrote.cause; never_falls = wrote.never_falls; telling = wrote.telling; tells_missed = wrote.tells_missed; tells_settled = wrote.tells_settled };
    note_sink = sink-same note_written note_missed note_settled note_faults s;
  }

-- for a text and its note
pub ruleset notings = (noting_done, noting_failed, noting_unwritten)
