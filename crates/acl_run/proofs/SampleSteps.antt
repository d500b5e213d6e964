-- How `sample` keeps its contract, for each way in which it ends.
use Rattle.std.proofs.Common.{ℕ, IsTrue, refl}
use Rattle.std.specs.Bool.{OnTrue}
use Rattle.acl_outcome.specs.declared.outcome.Outcome.TheVariants.{Done, NoMemory, NoteFault, SinkFault}
use Rattle.acl_outcome.specs.Ends.{out, note, done, fault}
use Rattle.acl_words.specs.Command.{sample}
use Rattle.acl_run.specs.Work.{may_end, precedes_output, precedes_note}
use Rattle.acl_run.proofs.Facts.{on_true}
use Rattle.acl_run.proofs.Objects.{sink-same, sink-no_fault}

-- ---- the outcomes

pub sample-done : (n : ℕ) → IsTrue (may_end (sample n) Done)
unfolding may_end
sample-done n = refl

pub sample-no_memory : (n : ℕ) → IsTrue (may_end (sample n) NoMemory)
unfolding may_end
sample-no_memory n = refl

pub sample-sink_fault : (n : ℕ) → IsTrue (may_end (sample n) SinkFault)
unfolding may_end
sample-sink_fault n = refl

pub sample-note_fault : (n : ℕ) → IsTrue (may_end (sample n) NoteFault)
unfolding may_end
sample-note_fault n = refl

-- ---- after the first byte

pub done-unwritten : (n : ℕ) (P : Type 0) → OnTrue (precedes_output (sample n) done) P
unfolding precedes_output
done-unwritten n P = tt

pub out_fault-unwritten : (n : ℕ) (P : Type 0) → OnTrue (precedes_output (sample n) (fault out)) P
unfolding precedes_output
out_fault-unwritten n P = tt

pub note_fault-unwritten : (n : ℕ) (P : Type 0) → OnTrue (precedes_output (sample n) (fault note)) P
unfolding precedes_output
note_fault-unwritten n P = tt

pub done-unnoted : (n : ℕ) (P : Type 0) → OnTrue (precedes_note (sample n) done) P
unfolding precedes_note
done-unnoted n P = tt

pub note_fault-unnoted : (n : ℕ) (P : Type 0) → OnTrue (precedes_note (sample n) (fault note)) P
unfolding precedes_note
note_fault-unnoted n P = tt

-- for the command
pub ruleset steps = (on_true, sink-same, sink-no_fault, sample-done, sample-no_memory, sample-sink_fault, sample-note_fault, done-unwritten, out_fault-unwritten, note_fault-unwritten, done-unnoted, note_fault-unnoted)
