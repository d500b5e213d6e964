use Rattle.std.proofs.Common.{◌∷◌, ◌∙◌, decimal, map, ap, sym, subst, refl}
use Rattle.std.specs.List.{concat}
use Rattle.acl_model.specs.Ascii.{slash}
use Rattle.acl_outside.specs.WrittenText.{Writes}
use Rattle.acl_outside.proofs.Remaining.{Writes-then, Writes-cut, Writes-last}
use Rattle.tree_meaning.specs.inside.Decided.{place_of}
use Rattle.tree_meaning.proofs.DecidedLaws.{numbers_of_child}
use Rattle.tree_meaning.proofs.explanation_writer.+write_numbers_of.Goals as goal

pub returns-in_err-write_numbers_of-in-Child : goal.returns-in_err-write_numbers_of-in-Child
returns-in_err-write_numbers_of-in-Child g t c =
    subst (Writes _ _ _ _ _ _ _) (sym (ap (λ p. concat (map (λ number. slash ∷ decimal number) (place_of p))) c.in-Child.is ∙ numbers_of_child (place_of c.in-Child.parent.now) c.in-Child.number))
    (Writes-cut (slash ∷ decimal c.in-Child.number) c.from_residual.ensures.0 c.write_numbers_of.ensures c.branch-write_numbers_of.ensures c.in_err-write_numbers_of-in-Child.is refl)

pub returns-in_ok-write_numbers_of-in-Child : goal.returns-in_ok-write_numbers_of-in-Child
returns-in_ok-write_numbers_of-in-Child g t c =
    subst (Writes _ _ _ _ _ _ _) (sym (ap (λ p. concat (map (λ number. slash ∷ decimal number) (place_of p))) c.in-Child.is ∙ numbers_of_child (place_of c.in-Child.parent.now) c.in-Child.number))
    (Writes-then c.write_numbers_of.ensures c.branch-write_numbers_of.ensures c.in_ok-write_numbers_of-in-Child.is refl (Writes-last c.write_number.ensures.written refl))
