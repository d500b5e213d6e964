use Rattle.std.proofs.Common.{map, string_bytes, true}
use Rattle.acl_words.proofs.PrefixLaws.{same_as_begins, begins_none, begins_first}
use Rattle.acl_words.proofs.prefixes.is_begun.Goals as goal

pub returns-in-empty : goal.returns-in-empty
returns-in-empty c = same_as_begins true (map string_bytes c.args.words.now) (begins_none string_bytes c.args.words.now c.in-empty.len_below)

pub returns-in-len1-up : goal.returns-in-len1-up
returns-in-len1-up c = same_as_begins c.begins_command.result (map string_bytes c.args.words.now)
    (begins_first string_bytes c.args.words.now c.name-item.result c.as_str.result.now c.begins_command.result
    c.in-len1-up.len_at_least c.name-item.is c.as_str.ensures.value c.begins_command.ensures)
