-- The options of a command line, in any order and each at most once. They are read one argument after the other, in the
-- same way for all commands. A new option is one more case of `with_option`. In names, `words` are arguments, and a
-- `word` is one of them. Defined by this project.
use Rattle.std.specs.Prelude.{ℕ, nat_eq, Bool, true, false, not, ◌&&◌, codes, is_none, Option, Some, None, List, [], ◌∷◌, if◌then◌else◌}
use Rattle.std.specs.Option.{option_map, option_and_then}
use Rattle.std.specs.Cmp.Lexicographic.{pointwise}
use Rattle.acl_model.specs.Ascii.{hyphen}
use Rattle.acl_model.specs.Lists.{text_after}

-- the options of a command line
pub record Options : Type 0 where
  pub query : Option (List ℕ)  -- the bytes of P, where `--query P` is given
  pub explain : Bool  -- `--explain` is given

-- what the next argument is to be
pub data Awaited : Type 0 where
  an_option : Awaited
  a_query : Awaited  -- the value of `--query`

-- the options so far, and what the next argument is to be
pub record Reading : Type 0 where
  pub options : Options
  pub awaited : Awaited

-- no options
abbrev pub no_options : Options
no_options = record { query = None; explain = false }

-- whether two arguments are equal
abbrev pub is_word : List ℕ → List ℕ → Bool
is_word word other = pointwise nat_eq word other

-- A value is not empty and does not begin with `-`.
abbrev pub is_value : List ℕ → Bool
is_value [] = false
is_value (b ∷ bytes) = not (nat_eq b hyphen)

-- What is read after this value of `--query`. `None` where the option was given before, or the value is not valid.
abbrev pub with_query : Options → List ℕ → Option Reading
with_query options value =
    if is_none options.query && is_value value
    then Some (record { options = record options { query = Some value }; awaited = an_option })
    else None

-- What is read after `--explain`. `None` where it was given before.
abbrev pub with_explain : Options → Option Reading
with_explain options =
    if options.explain then None else Some (record { options = record options { explain = true }; awaited = an_option })

-- What is read after an argument that begins an option. The value of `--query` follows `=` or is the next argument.
unfoldable pub with_option : Options → List ℕ → Option Reading
with_option options word =
    if is_word word (codes "--explain") then with_explain options
    else if is_word word (codes "--query") then Some (record { options = options; awaited = a_query })
    else option_and_then (λ value. with_query options value) (text_after (codes "--query=") word)

-- what is read after one more argument, an option or a value
abbrev pub with_word : Awaited → Options → List ℕ → Option Reading
with_word an_option options word = with_option options word
with_word a_query options word = with_query options word

-- The options at the end of the arguments. `None` where a value is missing.
abbrev pub options_at_end : Awaited → Options → Option Options
options_at_end an_option options = Some options
options_at_end a_query options = None

-- The options so far. Where the value of `--query` is missing, `/` takes its place; `None` where `--query` was given
-- before.
abbrev pub options_begun : Awaited → Options → Option Options
options_begun an_option options = Some options
options_begun a_query options = option_map (λ reading. reading.options) (with_query options (codes "/"))

-- what is read after these arguments, from this reading on
abbrev pub reading_from : Option Reading → List (List ℕ) → Option Reading
reading_from None words = None
reading_from (Some reading) [] = Some reading
reading_from (Some reading) (word ∷ words) = reading_from (with_word reading.awaited reading.options word) words

-- What is read of these arguments. `None` where they don't begin valid options.
unfoldable pub reading_of : List (List ℕ) → Option Reading
reading_of words = reading_from (Some (record { options = no_options; awaited = an_option })) words

-- The options that these arguments give. `None` where they are not valid options.
unfoldable pub options_of : List (List ℕ) → Option Options
options_of words = option_and_then (λ reading. options_at_end reading.awaited reading.options) (reading_of words)

-- The options that these arguments give, where the value of the last may still be missing.
unfoldable pub begun_options_of : List (List ℕ) → Option Options
begun_options_of words = option_and_then (λ reading. options_begun reading.awaited reading.options) (reading_of words)
