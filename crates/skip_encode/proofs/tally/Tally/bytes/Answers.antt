use Rattle.std.proofs.Common.{◌≡◌, ◌+◌, ◌-◌, ◌*◌, ◌/◌, ap, ◌∙◌, arith}
use Rattle.acl_model.specs.Width.{binary_length}
use Rattle.skip_encode.specs.inside.Tallies.{leaf_head, inner_head, laid_size}
use Rattle.skip_encode.proofs.tally.Tally.bytes.Goals as goal

-- The heads of leaves and of inner elements are each multiplied by their number.
pub returns : goal.returns
unfolding laid_size
returns c =
    let t = c.args.self.now in
    let m = c.args.members in
    let prefix : c.from-prefix.result ≡ binary_length (m - 1) = c.from-prefix.ensures ∙ c.requires.digits in
    let leaf : (1 + c.from-prefix.result + (1 + c.from.result) + 7) / 8 ≡ leaf_head m c.args.w = omega (arith, prefix, c.from.ensures) in
    let inner : (1 + c.from-prefix.result + (1 + c.from-2.result + c.from-3.result) + 7) / 8 ≡ inner_head m c.args.w = omega (arith, prefix, c.from-2.ensures, c.from-3.ensures) in
    ap (λ n. t.plain + (t.leaves * n + t.inners * ((1 + c.from-prefix.result + (1 + c.from-2.result + c.from-3.result) + 7) / 8))) leaf
    ∙ ap (λ n. t.plain + (t.leaves * leaf_head m c.args.w + t.inners * n)) inner
