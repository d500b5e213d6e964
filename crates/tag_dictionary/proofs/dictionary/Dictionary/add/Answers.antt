use Rattle.std.proofs.Common.{◌≡◌, true, false, length-append, sym, arith}
use Rattle.acl_model.specs.Dictionary.{has_name}
use Rattle.acl_model.proofs.DictionaryLaws.{with_name-there, with_name-new}
use Rattle.tag_dictionary.proofs.Numbers.{number_in-is_some}
use Rattle.tag_dictionary.proofs.dictionary.Dictionary.add.Goals as goal

-- the name is there already
pub returns-then-contains_key-clause-joined : goal.returns-then-contains_key-clause-joined
returns-then-contains_key-clause-joined c =
    let had = number_in-is_some c.self.inside.numbers c.self.inside.names.items c.self.invariant c.args.name.now in
    let there : has_name c.args.self.now c.args.name.now ≡ true = cc in
    sym (with_name-there c.args.self.now c.args.name.now there)

-- the name is new, and there is no room
pub returns-then-len-ge-MOST_NAMES-clause-many : goal.returns-then-len-ge-MOST_NAMES-clause-many
returns-then-len-ge-MOST_NAMES-clause-many c = λ _.
    let had = number_in-is_some c.self.inside.numbers c.self.inside.names.items c.self.invariant c.args.name.now in
    let absent : has_name c.args.self.now c.args.name.now ≡ false = cc in
    let grown = with_name-new c.args.self.now c.args.name.now absent in
    grind (arith, length-append)

-- the name is new
pub push-requires-clause-new : goal.push-requires-clause-new
push-requires-clause-new c =
    let had = number_in-is_some c.self.inside.numbers c.self.inside.names.items c.self.invariant c.args.name.now in
    cc

-- and is added
pub returns-clause-joined : goal.returns-clause-joined
returns-clause-joined c =
    let had = number_in-is_some c.self.inside.numbers c.self.inside.names.items c.self.invariant c.args.name.now in
    let absent : has_name c.args.self.now c.args.name.now ≡ false = cc in
    let grown = with_name-new c.args.self.now c.args.name.now absent in
    grind arith
