-- The texts that a run is to write, and how much of them it wrote, by how it ended. Defined by this project. A text is
-- *due* where the run is to write it.
use Rattle.std.specs.Prelude.{ℕ, Option, List, []}
use Rattle.std.specs.Io.KnownBytes.{Appends}
use Rattle.acl_outside.specs.Outside.{AppendsPart}
use Rattle.acl_outcome.specs.Ends.{keys, input, store, out, note, End, done, no_memory, usage, fault, stopped, refused}
use Rattle.acl_model.specs.Text.{text}
use Rattle.sample_maker.specs.Hospital.{hospital}
use Rattle.sample_maker.specs.Sample.{sample_line}
use Rattle.acl_words.specs.Command.{Command, preview, encode, seal, view, sample}
use Rattle.acl_run.specs.Encode.{encode_text, encode_note}
use Rattle.acl_run.specs.Preview.{preview_text}
use Rattle.acl_run.specs.Seal.{seal_text}

-- The text that is due on the output for these bytes of the keys and of the input. For `view` and `explain` it is
-- empty here, since their text depends on the store: it is `wanted_text` of a document, and `Headline` defines of
-- which.
abbrev pub due_out : Command → List ℕ → List ℕ → List ℕ
due_out (preview what) rules lines = preview_text what rules lines
due_out encode secret lines = encode_text secret lines
due_out seal secret body = seal_text secret body
due_out (view what) secret sealed = []
due_out (sample size) rules lines = text (hospital size)

-- the text that is due as a note for these bytes of the keys and of the input
abbrev pub due_note : Command → List ℕ → List ℕ → List ℕ
due_note (preview what) rules lines = []
due_note encode secret lines = encode_note secret lines
due_note seal secret body = []
due_note (view what) secret sealed = []
due_note (sample size) rules lines = sample_line size

-- If the whole output was written, the fact is true: all is done, or only the note failed.
abbrev pub WhereWhole : End → Type 0 → Type 0
WhereWhole done fact = fact
WhereWhole no_memory fact = Unit {0}
WhereWhole usage fact = Unit {0}
WhereWhole (fault keys) fact = Unit {0}
WhereWhole (fault input) fact = Unit {0}
WhereWhole (fault store) fact = Unit {0}
WhereWhole (fault out) fact = Unit {0}
WhereWhole (fault note) fact = fact
WhereWhole stopped fact = Unit {0}
WhereWhole (refused subject) fact = Unit {0}

-- If all is done, the fact is true.
abbrev pub WhereDone : End → Type 0 → Type 0
WhereDone done fact = fact
WhereDone no_memory fact = Unit {0}
WhereDone usage fact = Unit {0}
WhereDone (fault x) fact = Unit {0}
WhereDone stopped fact = Unit {0}
WhereDone (refused subject) fact = Unit {0}

-- How the output grew, for the text that is due on it: by the whole text where all is done or only the note failed,
-- and by a prefix of it where the output failed or a watcher stopped the writing. Nothing is claimed of other ends.
abbrev pub WritesText : End → Option (List ℕ) → Option (List ℕ) → List ℕ → Type 0
WritesText done before after text = Appends before after text
WritesText no_memory before after text = Unit {0}
WritesText usage before after text = Unit {0}
WritesText (fault keys) before after text = Unit {0}
WritesText (fault input) before after text = Unit {0}
WritesText (fault store) before after text = Unit {0}
WritesText (fault out) before after text = AppendsPart before after text
WritesText (fault note) before after text = Appends before after text
WritesText stopped before after text = AppendsPart before after text
WritesText (refused subject) before after text = Unit {0}

-- How the sink of notes grew, for the text that is due as a note: by the whole text where all is done, and by a prefix
-- of it where the note failed. Nothing is claimed of other ends.
abbrev pub WritesNote : End → Option (List ℕ) → Option (List ℕ) → List ℕ → Type 0
WritesNote done before after text = Appends before after text
WritesNote no_memory before after text = Unit {0}
WritesNote usage before after text = Unit {0}
WritesNote (fault keys) before after text = Unit {0}
WritesNote (fault input) before after text = Unit {0}
WritesNote (fault store) before after text = Unit {0}
WritesNote (fault out) before after text = Unit {0}
WritesNote (fault note) before after text = AppendsPart before after text
WritesNote stopped before after text = Unit {0}
WritesNote (refused subject) before after text = Unit {0}
