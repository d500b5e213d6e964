-- The bytes appended are the first of the fragment.
use Rattle.std.proofs.Common.{ℕ, ◌*◌, List, ◌++◌, take, drop, take-take, ap, ◌∙◌}
use Rattle.skip_decode.proofs.start.append.Goals as goal

pub returns-clause-bytes : goal.returns-clause-bytes
returns-clause-bytes g c = λ stream is.
    c.in_ok-extend_from_slice.ensures.items
    ∙ ap (λ (l : List ℕ). c.args.bytes.now.items ++ take c.args.long l) (c.in_ok-fetch.ensures.given stream is)
    ∙ ap (λ (l : List ℕ). c.args.bytes.now.items ++ l) (take-take c.args.long 256 (drop (256 * c.args.index) stream) c.requires.few)
