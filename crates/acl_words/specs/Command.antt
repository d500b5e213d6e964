-- The commands that a command line can ask for. A new command is one more variant. Defined by this project.
use Rattle.std.specs.Prelude.{ℕ, List}

-- what is shown of a document
pub data Shown : Type 0 where
  the_view : Shown  -- the authorised view
  an_answer : List ℕ → Shown  -- the answer to the query with these bytes
  an_explanation : Shown  -- which rule decides at each element that a rule selects

-- a command, with its options
pub data Command : Type 0 where
  preview : Shown → Command  -- shows a document in this form, under the rules of a licence body
  encode : Command  -- encrypts a document under the keys
  seal : Command  -- seals a licence body with the keys
  view : Shown → Command  -- shows the stored document in this form, under the keys and a sealed licence
  sample : ℕ → Command  -- writes the sample document with this many folders
