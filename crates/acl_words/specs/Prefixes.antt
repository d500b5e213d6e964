-- How many of some arguments begin a valid command line. These definitions use only which command lines are valid, not
-- how they are read. In names, `words` are the arguments without the program's name. Defined by this project.
use Rattle.std.specs.Prelude.{◌≡◌, ℕ, ◌≤◌, Some, List, ◌++◌, length, take}
use Rattle.acl_words.specs.Command.{Command}
use Rattle.acl_words.specs.CommandLines.{words_of}

-- Some valid command line begins with these arguments: they are one with the further arguments `rest`.
pub record IsBegun (words : List (List ℕ)) : Type 0 where
  pub rest : List (List ℕ)
  pub command : Command
  pub line : words_of (words ++ rest) ≡ Some command

-- The first n arguments are the longest prefix that some valid command line begins with. If an argument follows them,
-- it is the first that is wrong; else an argument is missing.
pub record IsLongestPrefix (words : List (List ℕ)) (n : ℕ) : Type 0 where
  pub within : n ≤ length words
  pub begun : IsBegun (take n words)
  pub longest : (m : ℕ) → m ≤ length words → IsBegun (take m words) → m ≤ n
