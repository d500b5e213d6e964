use Rattle.std.proofs.Common.{◌≡◌, ◌++◌, drop, map, true}
use Rattle.std.specs.List.{list_all, concat}
use Rattle.acl_model.specs.Names.{is_name}
use Rattle.acl_model.specs.Dictionary.{spelled_name, dictionary_section}
use Rattle.tag_dictionary.proofs.dictionary.Dictionary.bytes.Given as goal

abbrev pub invariant-loop-name : goal.invariant-loop-name
invariant-loop-name l = record {
  written : l.bytes.items ++ concat (map spelled_name (drop l.name-index l.fn.self)) ≡ dictionary_section l.fn.self;
  named : list_all is_name (drop l.name-index l.fn.self) ≡ true;
}
