use Rattle.std.proofs.Common.{◌<◌, ◌∙◌, length, arith}
use Rattle.tag_dictionary.proofs.Readings.{next_name-fits}
use Rattle.tag_dictionary.proofs.dictionary.Dictionary.bytes.Goals as goal

-- a name has at most 255 bytes
pub overflow_cast-len-in-loop-name : goal.overflow_cast-len-in-loop-name
overflow_cast-len-in-loop-name c =
    let fits : length c.name-item.result < 256 =
    next_name-fits c.args.self.now c.as_slice-name-items.result.now c.loop-name.name-index c.name-item.result
    (c.as_slice-name-items.ensures.value ∙ c.self.view_is) c.loop-name-test.true c.name-item.is c.loop-name.invariant.named in
    omega (arith, fits)
