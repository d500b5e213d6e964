use Rattle.std.proofs.Common.{◌≡◌, ◌-◌, ◌++◌, [], length, map}
use Rattle.std.specs.List.{concat}
use Rattle.acl_model.specs.Dictionary.{spelled_name}
use Rattle.tag_dictionary.specs.inside.NameReading.{read_names}
use Rattle.tag_dictionary.proofs.dictionary.Dictionary.read_names.Given as goal

abbrev pub invariant-loop : goal.invariant-loop
invariant-loop l = record {
  count : length l.dictionary ≡ l.counter;
  spelled : concat (map spelled_name l.dictionary) ++ l.rest ≡ l.fn.bytes;
  reads : read_names (l.fn.count - l.counter) l.dictionary l.rest ≡ read_names l.fn.count [] l.fn.bytes;
}
