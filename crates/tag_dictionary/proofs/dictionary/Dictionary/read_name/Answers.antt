use Rattle.std.proofs.Common.{◌++◌, not, map, ap, sym, ◌∙◌, append_assoc}
use Rattle.std.specs.Cmp.{first_so, second_so}
use Rattle.std.specs.List.{concat}
use Rattle.acl_model.specs.Names.{is_name}
use Rattle.acl_model.specs.Dictionary.{has_name, spelled_name}
use Rattle.tag_dictionary.specs.inside.NameReading.{read_names}
use Rattle.tag_dictionary.proofs.Readings.{read_names-no_name, read_names-no_joining, read_names-joining, spelled-cut_name, spelled-last, is_new}
use Rattle.tag_dictionary.proofs.dictionary.Dictionary.read_name.Goals as goal

-- there is no name
pub returns-in_default-clause-bad : goal.returns-in_default-clause-bad
returns-in_default-clause-bad c = λ _. read_names-no_name c.args.self.now c.args.bytes.now c.in_default.ensures

-- the name may not be added
pub returns-then-not-may_join-clause-bad : goal.returns-then-not-may_join-clause-bad
returns-then-not-may_join-clause-bad c = λ _.
    read_names-no_joining c.args.self.now c.args.bytes.now c.in-Some.name.now c.in-Some.rest.now c.in-Some.ensures (sym c.if-not-may_join.ensures)

-- the name may be added: it is new
pub push-requires-clause-new : goal.push-requires-clause-new
push-requires-clause-new c = is_new (has_name c.args.self.now c.in-Some.name.now) (second_so (is_name c.in-Some.name.now) (not (has_name c.args.self.now c.in-Some.name.now)) (sym c.if-not-may_join.ensures))

-- and well-formed
pub push-requires-clause-named : goal.push-requires-clause-named
push-requires-clause-named c = first_so (is_name c.in-Some.name.now) (not (has_name c.args.self.now c.in-Some.name.now)) (sym c.if-not-may_join.ensures)

-- its bytes are removed from the rest
pub returns-clause-bytes : goal.returns-clause-bytes
returns-clause-bytes c =
    let names = c.args.self.now in
    let name = c.in-Some.name.now in
    let rest = c.in-Some.rest.now in
    ap (λ l. concat (map spelled_name names) ++ l) (spelled-cut_name c.args.bytes.now name rest c.in-Some.ensures)
    ∙ sym (append_assoc (concat (map spelled_name names)) (spelled_name name) rest)
    ∙ ap (λ l. l ++ rest) (sym (spelled-last names name))
    ∙ ap (λ ns. concat (map spelled_name ns) ++ rest) (sym c.in_ok-push.ensures)

-- and the other names are read after it
pub returns-clause-rest : goal.returns-clause-rest
returns-clause-rest c = λ n.
    read_names-joining c.args.self.now c.args.bytes.now c.in-Some.name.now c.in-Some.rest.now c.in-Some.ensures (sym c.if-not-may_join.ensures) n
    ∙ ap (λ ns. read_names n ns c.in-Some.rest.now) (sym c.in_ok-push.ensures)
