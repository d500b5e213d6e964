use Rattle.std.proofs.Common.{take, map, string_bytes}
use Rattle.acl_words.specs.Prefixes.{IsBegun}
use Rattle.acl_words.proofs.prefixes.longest_prefix.Given as goal

abbrev pub invariant-loop-prefix : goal.invariant-loop-prefix
invariant-loop-prefix l = IsBegun (take l.prefix (map string_bytes l.words))
