-- The valid command lines, and the command that each asks for. The first argument is the command's name. Its operands
-- follow, and then its options. In names, `words` are the arguments without the program's name, and a `word` is one of
-- them. Defined by this project.
use Rattle.std.specs.Prelude.{ℕ, nat_eq, nat_le, nat_lt, Bool, true, false, not, ◌&&◌, codes, Option, Some, None, List, [], ◌∷◌, length, if◌then◌else◌}
use Rattle.std.specs.Option.{option_map, option_and_then}
use Rattle.std.specs.Char.{is_ascii_digit}
use Rattle.std.specs.List.{list_all}
use Rattle.std.specs.Str.Parse.{digits_value}
use Rattle.acl_words.specs.Command.{Command, Shown, the_view, an_answer, an_explanation, preview, encode, seal, view, sample}
use Rattle.acl_words.specs.Options.{Options, is_word, options_of}

-- ---- `preview RULES [--query P] [--explain]`

-- What the options `--query` and `--explain` ask to show. Only one of them may be given.
abbrev pub shown_by : Option (List ℕ) → Bool → Option Shown
shown_by None false = Some the_view
shown_by None true = Some an_explanation
shown_by (Some query) false = Some (an_answer query)
shown_by (Some query) true = None

-- the command `preview` with these options
abbrev pub preview_with : Options → Option Command
preview_with options = option_map preview (shown_by options.query options.explain)

-- What follows `preview`: RULES, then options. RULES may be any argument.
abbrev pub preview_of : List (List ℕ) → Option Command
preview_of [] = None
preview_of (rules ∷ options) = option_and_then preview_with (options_of options)

-- ---- `encode KEYS`

-- What follows `encode`: KEYS alone, which may be any argument.
abbrev pub encode_of : List (List ℕ) → Option Command
encode_of [] = None
encode_of (keys ∷ []) = Some encode
encode_of (keys ∷ word ∷ words) = None

-- ---- `seal KEYS`

-- What follows `seal`: KEYS alone, which may be any argument.
abbrev pub seal_of : List (List ℕ) → Option Command
seal_of [] = None
seal_of (keys ∷ []) = Some seal
seal_of (keys ∷ word ∷ words) = None

-- ---- `view KEYS STORE [--query P]`

-- What `view` shows: the answer to the query, or the view where no query is given.
abbrev pub viewed_by : Option (List ℕ) → Shown
viewed_by None = the_view
viewed_by (Some query) = an_answer query

-- The command `view` with these options. It doesn't take `--explain`.
abbrev pub view_with : Options → Option Command
view_with options = if options.explain then None else Some (view (viewed_by options.query))

-- What follows `view`: KEYS, STORE, then options. KEYS and STORE may be any arguments.
abbrev pub view_of : List (List ℕ) → Option Command
view_of [] = None
view_of (keys ∷ []) = None
view_of (keys ∷ store ∷ options) = option_and_then view_with (options_of options)

-- ---- `explain KEYS STORE`

-- What follows `explain`: KEYS and STORE alone, which may be any arguments.
abbrev pub explain_of : List (List ℕ) → Option Command
explain_of [] = None
explain_of (keys ∷ []) = None
explain_of (keys ∷ store ∷ []) = Some (view an_explanation)
explain_of (keys ∷ store ∷ word ∷ words) = None

-- ---- `sample N`

-- The first byte is the digit 0.
abbrev pub begins_with_zero : List ℕ → Bool
begins_with_zero [] = false
begins_with_zero (b ∷ bytes) = nat_eq b 48

-- 1 to 6 decimal digits without a leading zero
abbrev pub is_numeral : List ℕ → Bool
is_numeral word =
    nat_lt 0 (length word) && nat_le (length word) 6 && list_all is_ascii_digit word && not (begins_with_zero word)

-- A sample has 1 to 20,000 folders.
abbrev pub is_sample_size : ℕ → Bool
is_sample_size n = nat_le 1 n && nat_le n 20000

-- The number that N is in decimal. `None` where it is no numeral, or no size of a sample.
unfoldable pub size_of : List ℕ → Option ℕ
size_of word = if is_numeral word && is_sample_size (digits_value 10 word) then Some (digits_value 10 word) else None

-- What follows `sample`: N alone.
abbrev pub sample_of : List (List ℕ) → Option Command
sample_of [] = None
sample_of (size ∷ []) = option_map sample (size_of size)
sample_of (size ∷ word ∷ words) = None

-- ---- all commands

-- The command that these arguments ask for, by their first. `None` where they are no valid command line.
abbrev pub words_of : List (List ℕ) → Option Command
words_of [] = None
words_of (name ∷ words) =
    if is_word name (codes "preview") then preview_of words
    else if is_word name (codes "encode") then encode_of words
    else if is_word name (codes "seal") then seal_of words
    else if is_word name (codes "view") then view_of words
    else if is_word name (codes "explain") then explain_of words
    else if is_word name (codes "sample") then sample_of words
    else None
