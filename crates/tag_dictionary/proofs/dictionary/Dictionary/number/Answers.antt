use Rattle.std.proofs.Common.{◌≡◌, rules}
use Rattle.acl_model.specs.Dictionary.{name_number}
use Rattle.acl_model.proofs.DictionaryLaws.{name_number-none}
use Rattle.tag_dictionary.proofs.dictionary.Dictionary.number.Goals as goal

-- a name has no number exactly where the dictionary doesn't have it
pub returns-clause-none : goal.returns-clause-none
returns-clause-none c =
    let number : c.copied.result ≡ name_number c.args.self.now c.args.name.now = search rules in
    rw number (name_number-none c.args.self.now c.args.name.now)
