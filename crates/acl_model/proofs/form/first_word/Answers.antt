-- One cut gives the bytes before the first space.
use Rattle.std.proofs.Common.{sym}
use Rattle.acl_model.proofs.FormLaws.{before_first-cut, before_first-whole}
use Rattle.acl_model.proofs.form.first_word.Goals as goal

pub returns-in-Some : goal.returns-in-Some
returns-in-Some c = sym (before_first-cut c.args.bytes.now c.in-Some.word.now c.in-Some.field-0-1.now c.in-Some.ensures.parts)

pub returns-in-None : goal.returns-in-None
returns-in-None c = sym (before_first-whole c.args.bytes.now c.in-None.ensures.parts)
