use Rattle.std.proofs.Common.{◌≡◌, length, ap, sym, ◌∙◌, nat_eq}
use Rattle.acl_walk.proofs.LevelLaws.{length-open_elements}
use Rattle.acl_walk.proofs.levels.Levels.is_empty.Goals as goal

pub returns : goal.returns
returns c =
    let long : length c.args.self.now ≡ length c.self.inside.stack.items = ap length (sym c.self.view_is) ∙ length-open_elements c.self.inside.stack.items in
    c.is_empty.ensures ∙ ap (λ n. nat_eq n 0) (c.self.inside.stack.ok.0 ∙ sym long)
