use Rattle.std.proofs.Common.{◌≡◌, ◌≤◌, ◌-◌, [], Err, true, length, ap, sym, ◌∙◌, rules, arith}
use Rattle.std.specs.List.{list_all}
use Rattle.std.proofs.lemmas.Bool.Decides.{nat_tests}
use Rattle.acl_model.specs.Names.{is_name}
use Rattle.acl_model.specs.Dictionary.{are_new}
use Rattle.tag_dictionary.specs.inside.NameReading.{read_names}
use Rattle.tag_dictionary.specs.declared.fault.DictFault.TheVariants.{BadIndex}
use Rattle.tag_dictionary.proofs.Readings.{read_names-last, read_names-left, is_dictionary-made}
use Rattle.tag_dictionary.proofs.dictionary.Dictionary.read_names.Goals as goal

-- the next name isn't read
pub returns-in_err-rest-clause-bad : goal.returns-in_err-rest-clause-bad
returns-in_err-rest-clause-bad c = λ e.
    let same : c.read_name.result ≡ Err BadIndex = search rules in
    read_names-last c.args.count c.loop.counter c.loop.dictionary c.loop.rest.now (read_names c.args.count [] c.args.bytes.now) c.loop-test.true c.loop.invariant.reads (c.read_name.ensures.bad same)

-- bytes are left
pub returns-then-not-is_empty-clause-bad : goal.returns-then-not-is_empty-clause-bad
returns-then-not-is_empty-clause-bad c = λ _.
    let left : 1 ≤ length c.loop.rest.now = grind (arith, nat_tests) in
    let last : c.args.count - c.loop.counter ≡ 0 = omega arith in
    sym c.loop.invariant.reads ∙ ap (λ n. read_names n c.loop.dictionary c.loop.rest.now) last ∙ read_names-left c.loop.dictionary c.loop.rest.now left

-- the names are a dictionary
pub returns-clause-names : goal.returns-clause-names
returns-clause-names c =
    let long : length c.loop.dictionary ≡ c.args.count = omega arith in
    let apart : are_new [] c.loop.dictionary ≡ true = ap (are_new []) (sym c.dictionary-2.view_is) ∙ c.dictionary-2.invariant.apart in
    let named : list_all is_name c.loop.dictionary ≡ true = ap (list_all is_name) (sym c.dictionary-2.view_is) ∙ c.dictionary-2.invariant.named in
    is_dictionary-made c.loop.dictionary (omega arith) (omega arith) named apart
