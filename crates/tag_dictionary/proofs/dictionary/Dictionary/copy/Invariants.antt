use Rattle.std.proofs.Common.{◌≡◌, drop, true}
use Rattle.std.specs.List.{list_all}
use Rattle.acl_model.specs.Names.{is_name}
use Rattle.acl_model.specs.Dictionary.{with_names}
use Rattle.tag_dictionary.proofs.dictionary.Dictionary.copy.Given as goal

abbrev pub invariant-loop-name : goal.invariant-loop-name
invariant-loop-name l = record {
  joins : with_names l.copy (drop l.name-index l.fn.self) ≡ l.fn.self;
  named : list_all is_name (drop l.name-index l.fn.self) ≡ true;
}
