-- The files that a command line names, and what its command reads from standard input. In names, `words` are the
-- arguments of the command line without the program's name. Defined by this project.
use Rattle.std.specs.Prelude.{ℕ, Option, Some, None, List, [], ◌∷◌}
use Rattle.std.specs.Option.{option_map}
use Rattle.acl_words.specs.Command.{Command, preview, encode, seal, view, sample}
use Rattle.acl_words.specs.CommandLines.{words_of}

-- what a command reads from standard input
pub data Input : Type 0 where
  a_document : Input  -- the lines of a document
  a_body : Input  -- a licence body
  a_licence : Input  -- a sealed licence
  nothing : Input

-- the names of the files, by what is read from each, and what is read from standard input
pub record Files : Type 0 where
  pub rules : Option (List ℕ)  -- a licence body
  pub keys : Option (List ℕ)  -- the keys
  pub store : Option (List ℕ)  -- an encoded document
  pub input : Input

-- the argument after the command's name
abbrev pub first_operand : List (List ℕ) → Option (List ℕ)
first_operand [] = None
first_operand (name ∷ []) = None
first_operand (name ∷ first ∷ words) = Some first

-- the argument after the first operand
abbrev pub second_operand : List (List ℕ) → Option (List ℕ)
second_operand [] = None
second_operand (name ∷ []) = None
second_operand (name ∷ first ∷ []) = None
second_operand (name ∷ first ∷ second ∷ words) = Some second

-- the files that a command's arguments name
abbrev pub files_by : Command → List (List ℕ) → Files
files_by (preview shown) words = record { rules = first_operand words; keys = None; store = None; input = a_document }
files_by encode words = record { rules = None; keys = first_operand words; store = None; input = a_document }
files_by seal words = record { rules = None; keys = first_operand words; store = None; input = a_body }
files_by (view shown) words =
    record { rules = None; keys = first_operand words; store = second_operand words; input = a_licence }
files_by (sample size) words = record { rules = None; keys = None; store = None; input = nothing }

-- The files that these arguments name. `None` where they are no valid command line.
abbrev pub files_of : List (List ℕ) → Option Files
files_of words = option_map (λ command. files_by command words) (words_of words)
