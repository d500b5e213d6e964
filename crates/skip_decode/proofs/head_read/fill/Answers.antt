-- What was written comes after what the buffer had.
use Rattle.std.proofs.Common.{◌≡◌, ◌-◌, ◌+◌, ℕ, ◌++◌, length, take, drop, ap, ◌∙◌, arith, length-take, length-drop}
use Rattle.skip_decode.proofs.WindowBytes.{filled}
use Rattle.skip_decode.proofs.head_read.fill.Goals as goal

pub returns-clause-bytes : goal.returns-clause-bytes
returns-clause-bytes g c = λ stream is.
    let part : length (take (c.args.to - c.args.from) (drop c.args.from c.args.buffer.now)) ≡ c.args.to - c.args.from = omega (arith, length-take {A = ℕ}, length-drop {A = ℕ}) in
    let bytes = c.in_ok-copy.ensures.bytes stream is in
    filled c.args.buffer.now c.copy.new.into _ c.args.from c.args.to c.requires.rises c.requires.room (c.copy.auto.into ∙ part)
    ∙ ap (λ l. take c.args.from c.args.buffer.now ++ l) bytes
    ∙ ap (λ n. take c.args.from c.args.buffer.now ++ take n (drop (c.args.place + c.args.from) stream)) part
