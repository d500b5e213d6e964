-- The models of what the code reads: the values that it means in the definitions of specs/.
use Rattle.std.specs.Prelude.{◌≤◌}
use Rattle.std.specs.Option.{option_copied}
use Rattle.acl_words.specs.Command as word
use Rattle.acl_words.specs.Files as file
use Rattle.acl_words.specs.Options as option
use Rattle.acl_words.specs.declared.files.Files.{Files}
use Rattle.acl_words.specs.declared.files.Input.{Input}
use Rattle.acl_words.specs.declared.files.Input.TheVariants.{Document, Body, Licence, Nothing}
use Rattle.acl_words.specs.declared.options.Awaited.{Awaited}
use Rattle.acl_words.specs.declared.options.Awaited.TheVariants.{AnOption, Query}
use Rattle.acl_words.specs.declared.options.Options.{Options}
use Rattle.acl_words.specs.declared.options.Reading.{Reading}
use Rattle.acl_words.specs.declared.request.Shown.{Shown}
use Rattle.acl_words.specs.declared.request.Shown.TheVariants.{View, Answer, Explanation}
use Rattle.acl_words.specs.declared.request.Request.{Request}
use Rattle.acl_words.specs.declared.request.Request.TheVariants.{Preview, Encode, Seal, View as AView, Sample}

-- the model of what is to be shown
abbrev pub meant_shown : Shown → word.Shown
meant_shown View = word.Shown.the_view
meant_shown (Answer query) = word.Shown.an_answer query.now
meant_shown Explanation = word.Shown.an_explanation

-- the model of a request
abbrev pub command_of : Request → word.Command
command_of (Preview shown) = word.Command.preview (meant_shown shown)
command_of Encode = word.Command.encode
command_of Seal = word.Command.seal
command_of (AView shown) = word.Command.view (meant_shown shown)
command_of (Sample size) = word.Command.sample size

-- A request for a sample is for 1 to 20,000 folders. Any other request can be made.
abbrev pub CanBeMade : Request → Type 0
CanBeMade (Preview shown) = Unit {0}
CanBeMade Encode = Unit {0}
CanBeMade Seal = Unit {0}
CanBeMade (AView shown) = Unit {0}
CanBeMade (Sample size) = (1 ≤ size) × (size ≤ 20000)

-- the model of options
abbrev pub meant_options : Options → option.Options
meant_options options = record { query = option_copied options.query; explain = options.explain }

-- the model of what the next argument is to be
abbrev pub meant_awaited : Awaited → option.Awaited
meant_awaited AnOption = option.Awaited.an_option
meant_awaited Query = option.Awaited.a_query

-- the model of what is read so far
abbrev pub meant_reading : Reading → option.Reading
meant_reading reading = record { options = meant_options reading.options; awaited = meant_awaited reading.awaited }

-- the model of what is read from standard input
abbrev pub meant_input : Input → file.Input
meant_input Document = file.Input.a_document
meant_input Body = file.Input.a_body
meant_input Licence = file.Input.a_licence
meant_input Nothing = file.Input.nothing

-- the model of the files that are named
abbrev pub meant_files : Files → file.Files
meant_files files = record {
  rules = option_copied files.rules;
  keys = option_copied files.keys;
  store = option_copied files.store;
  input = meant_input files.input;
}
