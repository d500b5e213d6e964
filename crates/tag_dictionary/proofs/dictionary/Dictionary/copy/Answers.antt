use Rattle.std.proofs.Common.{◌≡◌, true, [], ap, ◌∙◌}
use Rattle.std.specs.List.{list_all}
use Rattle.acl_model.specs.Names.{is_name}
use Rattle.acl_model.specs.Dictionary.{are_distinct, with_names}
use Rattle.acl_model.proofs.DictionaryLaws.{with_names-new}
use Rattle.tag_dictionary.proofs.dictionary.Dictionary.copy.Goals as goal

-- at first all names remain to be added
pub loop-name-init : goal.loop-name-init
loop-name-init c =
    let apart : are_distinct c.args.self.now ≡ true = cc (c.self.invariant.apart) in
    let named : list_all is_name c.args.self.now ≡ true = cc (c.self.invariant.named) in
    record { joins = ap (λ ns. with_names ns c.args.self.now) c.empty-copy.ensures ∙ with_names-new [] c.args.self.now apart; named = named }
