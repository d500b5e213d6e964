use Rattle.std.proofs.Common.{rules}
use Rattle.acl_words.proofs.Sizes.{not_refused}
use Rattle.acl_words.proofs.words.read_size.Goals as goal

pub returns-in-Err-clause-exact : goal.returns-in-Err-clause-exact
returns-in-Err-clause-exact c = absurd (not_refused c.args.word.now c.in-Err.field-0 c.in-Err.ensures.value.0 (search rules))
