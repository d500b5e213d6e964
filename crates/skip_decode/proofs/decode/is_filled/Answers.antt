use Rattle.std.proofs.Common.{ℕ, ◌<◌, List, length, nat_eq, ap, subst, sym, ◌∙◌}
use Rattle.std.specs.List.{list_all}
use Rattle.skip_decode.proofs.Fills.{filled-so, rest_is, zeros-filled}
use Rattle.skip_decode.proofs.decode.is_filled.Goals as goal

pub returns-then-fill : goal.returns-then-fill
returns-then-fill c =
    let plain = c.args.plain.now in
    let rest = rest_is plain c.args.count in
    let is = c.are_zero.ensures ∙ ap (list_all (λ b. nat_eq b 0)) rest in (
      λ zeros. filled-so plain c.args.count c.requires.whole c.requires.within
          (subst (λ (l : List ℕ). length l < 256) rest c.if-fill.true) (sym is ∙ zeros),
      λ filled. is ∙ zeros-filled plain c.args.count c.requires.whole c.requires.within filled,
    )
