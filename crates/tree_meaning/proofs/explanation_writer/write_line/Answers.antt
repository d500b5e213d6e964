use Rattle.std.proofs.Common.{[], ◌∷◌, ◌++◌, ap, sym, subst, ◌∙◌, refl}
use Rattle.acl_model.specs.Ascii.{line_feed}
use Rattle.acl_model.specs.Explain.{rule_word, place_text}
use Rattle.acl_outside.specs.WrittenText.{Writes}
use Rattle.acl_outside.proofs.Remaining.{Writes-then, Writes-cut, Writes-last}
use Rattle.line_writer.specs.Parts.{explanation_head}
use Rattle.line_writer.proofs.ExplanationLaws.{explained_line-parts}
use Rattle.tree_meaning.specs.inside.Decided.{place_of}
use Rattle.tree_meaning.proofs.explanation_writer.write_line.Goals as goal

pub returns-in_err-write_explanation_head : goal.returns-in_err-write_explanation_head
returns-in_err-write_explanation_head g c =
    subst (Writes _ _ _ _ _ _ _) (sym (explained_line-parts c.args.decided.sign (rule_word c.args.rules.now c.args.decided.rule) (place_of c.args.position.now)))
    (Writes-cut (place_text (place_of c.args.position.now) ++ line_feed ∷ []) c.from_residual.ensures.0 c.write_explanation_head.ensures.written
    c.branch-write_explanation_head.ensures c.in_err-write_explanation_head.is (ap (explanation_head c.args.decided.sign) c.rule_word.ensures.word))

pub returns-in_err-write_position : goal.returns-in_err-write_position
returns-in_err-write_position g c =
    subst (Writes _ _ _ _ _ _ _) (sym (explained_line-parts c.args.decided.sign (rule_word c.args.rules.now c.args.decided.rule) (place_of c.args.position.now)))
    (Writes-then c.write_explanation_head.ensures.written c.branch-write_explanation_head.ensures c.in_ok-write_explanation_head.is (ap (explanation_head c.args.decided.sign) c.rule_word.ensures.word)
    (Writes-cut (line_feed ∷ []) c.from_residual-in_err-write_position.ensures.0 c.write_position.ensures c.branch-write_position.ensures c.in_err-write_position.is refl))

pub returns : goal.returns
returns g c =
    subst (Writes _ _ _ _ _ _ _) (sym (explained_line-parts c.args.decided.sign (rule_word c.args.rules.now c.args.decided.rule) (place_of c.args.position.now)))
    (Writes-then c.write_explanation_head.ensures.written c.branch-write_explanation_head.ensures c.in_ok-write_explanation_head.is (ap (explanation_head c.args.decided.sign) c.rule_word.ensures.word)
    (Writes-then c.write_position.ensures c.branch-write_position.ensures c.in_ok-write_position.is refl (Writes-last c.end_line.ensures.written refl)))
