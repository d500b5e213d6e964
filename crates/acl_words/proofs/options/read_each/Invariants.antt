use Rattle.std.proofs.Common.{◌≡◌, Some, drop, map, string_bytes}
use Rattle.acl_words.specs.inside.Request.{meant_reading}
use Rattle.acl_words.specs.Options.{reading_from, reading_of}
use Rattle.acl_words.proofs.options.read_each.Given as goal

abbrev pub invariant-loop-word : goal.invariant-loop-word
invariant-loop-word l = reading_from (Some (meant_reading l.reading)) (map string_bytes (drop l.word-index l.words)) ≡ reading_of (map string_bytes l.words)
