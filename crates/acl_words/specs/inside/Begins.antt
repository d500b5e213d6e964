-- Whether some valid command line begins with these arguments, case by case, as the code checks it. The law
-- `IsBegun-decided` says that this is the same as `IsBegun`. Defined by this project.
use Rattle.std.specs.Prelude.{ℕ, nat_le, Bool, true, false, codes, Option, is_some, List, [], ◌∷◌, length, if◌then◌else◌}
use Rattle.std.specs.Option.{option_and_then}
use Rattle.acl_words.specs.Command.{Command}
use Rattle.acl_words.specs.Options.{Options, is_word, begun_options_of}
use Rattle.acl_words.specs.CommandLines.{preview_with, view_with, size_of}

-- Options of a command begin with these arguments. `make` gives the command with some options, if it takes them.
abbrev pub begins_options : (Options → Option Command) → List (List ℕ) → Bool
begins_options make words = is_some (option_and_then make (begun_options_of words))

-- RULES and options of `preview` begin with these arguments.
abbrev pub begins_preview : List (List ℕ) → Bool
begins_preview [] = true
begins_preview (rules ∷ options) = begins_options preview_with options

-- KEYS, STORE and options of `view` begin with these arguments.
abbrev pub begins_view : List (List ℕ) → Bool
begins_view [] = true
begins_view (keys ∷ []) = true
begins_view (keys ∷ store ∷ options) = begins_options view_with options

-- N of `sample` begins with these arguments: there is none, or a valid N alone.
abbrev pub begins_sample : List (List ℕ) → Bool
begins_sample [] = true
begins_sample (size ∷ []) = is_some (size_of size)
begins_sample (size ∷ word ∷ words) = false

-- Some command line begins with these arguments, by the command's name.
abbrev pub begins_line : List (List ℕ) → Bool
begins_line [] = true
begins_line (name ∷ words) =
    if is_word name (codes "preview") then begins_preview words
    else if is_word name (codes "encode") then nat_le (length words) 1
    else if is_word name (codes "seal") then nat_le (length words) 1
    else if is_word name (codes "view") then begins_view words
    else if is_word name (codes "explain") then nat_le (length words) 2
    else if is_word name (codes "sample") then begins_sample words
    else false
