use Rattle.std.proofs.Common.{◌∙◌, ◌+◌, ◌++◌, ◌∷◌, ap, sym, take, drop, add-one}
use Rattle.std.proofs.lemmas.List.{set_split}
use Rattle.tree_meaning.specs.inside.Shows.{with_show}
use Rattle.tree_meaning.proofs.shows.settle.Goals as goal

pub returns-in-Whole : goal.returns-in-Whole
returns-in-Whole c =
    set_split c.args.shows.now.items c.args.at c.args.show c.requires
    ∙ ap (λ n. take c.args.at c.args.shows.now.items ++ c.args.show ∷ drop n c.args.shows.now.items) (sym (add-one c.args.at))
    ∙ ap (λ s. take c.args.at c.args.shows.now.items ++ s ∷ drop (c.args.at + 1) c.args.shows.now.items) c.in-Whole.is
    ∙ ap (λ s. take c.args.at c.args.shows.now.items ++ with_show s (drop (c.args.at + 1) c.args.shows.now.items)) (sym c.in-Whole.is)

pub returns-in-Dummy : goal.returns-in-Dummy
returns-in-Dummy c =
    set_split c.args.shows.now.items c.args.at c.args.show c.requires
    ∙ ap (λ n. take c.args.at c.args.shows.now.items ++ c.args.show ∷ drop n c.args.shows.now.items) (sym (add-one c.args.at))
    ∙ ap (λ s. take c.args.at c.args.shows.now.items ++ s ∷ drop (c.args.at + 1) c.args.shows.now.items) c.in-Dummy.is
    ∙ ap (λ s. take c.args.at c.args.shows.now.items ++ with_show s (drop (c.args.at + 1) c.args.shows.now.items)) (sym c.in-Dummy.is)
