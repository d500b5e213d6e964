-- What `preview`, `view` and `explain` write of a document: its view under the rules of a licence, the answer of a
-- query, or the explanation. Defined by this project.
use Rattle.std.specs.Prelude.{ℕ, Some, None, Result, Ok, Err, List, []}
use Rattle.std.specs.Result.{result_map_both}
use Rattle.acl_model.specs.Explain.{explain_text}
use Rattle.acl_model.specs.View.{out}
use Rattle.acl_model.specs.declared.document.Doc.{Doc}
use Rattle.acl_model.specs.declared.rule.Rule.{Rule}
use Rattle.licence.specs.declared.terms.Licence.{Licence}
use Rattle.acl_outcome.specs.declared.outcome.Outcome.{Outcome}
use Rattle.acl_run.specs.declared.preview.Wanted.{Wanted}
use Rattle.acl_run.specs.declared.preview.Wanted.TheVariants.{View, Answer, Explanation}
use Rattle.acl_words.specs.Command.{Shown, the_view, an_answer, an_explanation}
use Rattle.acl_run.specs.Readers.{licence_of, query_of, document_of}

-- What a user wants of a document. A query is read as a path for that user, or refused; the rest can't be refused.
abbrev pub wanted_by : List ℕ → Shown → Result Wanted Outcome
wanted_by user the_view = Ok View
wanted_by user (an_answer query) = result_map_both Answer (λ refusal. refusal) (query_of user query)
wanted_by user an_explanation = Ok Explanation

-- the text of what is wanted of a document under these rules: the lines of its view, of the query's answer or of the
-- explanation
abbrev pub wanted_text : Doc → List Rule → Wanted → List ℕ
wanted_text d rules View = out d rules None
wanted_text d rules (Answer path) = out d rules (Some path)
wanted_text d rules Explanation = explain_text d rules

-- the text of what is wanted, where it was read; else no text
abbrev pub text_of_wanted : Doc → List Rule → Result Wanted Outcome → List ℕ
text_of_wanted d rules (Ok wanted) = wanted_text d rules wanted
text_of_wanted d rules (Err refusal) = []

-- the text of what is to be shown, where the licence, the document and what is wanted were read; else no text
abbrev pub text_of_shown : Shown → Result Licence Outcome → Result Doc Outcome → List ℕ
text_of_shown what (Ok licence) (Ok d) = text_of_wanted d licence.rules (wanted_by licence.user what)
text_of_shown what (Ok licence) (Err refusal) = []
text_of_shown what (Err refusal) (Ok d) = []
text_of_shown what (Err refusal) (Err other) = []

-- the text that `preview` is to write for these bytes of rules and these bytes of a document
abbrev pub preview_text : Shown → List ℕ → List ℕ → List ℕ
preview_text what rules lines = text_of_shown what (licence_of rules) (document_of lines)
