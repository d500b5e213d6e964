use Rattle.std.proofs.Common.{not, ◌&&◌, ap, ◌∙◌}
use Rattle.acl_model.specs.Dictionary.{has_name}
use Rattle.tag_dictionary.proofs.Numbers.{number_in-is_some}
use Rattle.tag_dictionary.proofs.dictionary.Dictionary.may_join.Goals as goal

-- a name is new exactly where the map has no entry for it
pub returns-then-is_a_name : goal.returns-then-is_a_name
returns-then-is_a_name c =
    let had = number_in-is_some c.self.inside.numbers c.self.inside.names.items c.self.invariant c.args.name.now in
    ap not (c.contains_key.ensures ∙ had ∙ ap (λ ns. has_name ns c.args.name.now) c.self.view_is)
    ∙ ap (λ b. b && not (has_name c.args.self.now c.args.name.now)) c.if-is_a_name.ensures
