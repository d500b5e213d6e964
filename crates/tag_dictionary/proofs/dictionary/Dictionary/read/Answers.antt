use Rattle.tag_dictionary.proofs.Readings.{no_section}
use Rattle.tag_dictionary.proofs.dictionary.Dictionary.read.Goals as goal

-- no dictionary has these bytes
pub returns-clause-bad : goal.returns-clause-bad
returns-clause-bad c = λ e names good same.
    no_section c.from_be_bytes-count.result c.args.bytes.now c.from_be_bytes-count.ensures (c.read_names.ensures.bad e) names good same
