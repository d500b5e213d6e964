use Rattle.std.proofs.Common.{[], ◌∷◌, ◌++◌, sym, subst, refl}
use Rattle.acl_model.specs.Ascii.{line_feed}
use Rattle.acl_model.specs.Explain.{place_text}
use Rattle.acl_outside.specs.WrittenText.{Writes}
use Rattle.acl_outside.proofs.Remaining.{Writes-then, Writes-cut, Writes-last}
use Rattle.line_writer.proofs.ExplanationLaws.{explained_line-parts}
use Rattle.line_writer.proofs.explanation_lines.write_explanation_line.Goals as goal

pub returns-in_err-write_explanation_head : goal.returns-in_err-write_explanation_head
returns-in_err-write_explanation_head g c = record {
  written = subst (Writes _ _ _ _ _ _ _) (sym (explained_line-parts c.args.sign c.args.word.now c.args.place.now))
      (Writes-cut (place_text c.args.place.now ++ line_feed ∷ []) c.from_residual.ensures.0
      c.write_explanation_head.ensures.written c.branch-write_explanation_head.ensures
      c.in_err-write_explanation_head.is refl);
}

pub returns-in_err-write_place : goal.returns-in_err-write_place
returns-in_err-write_place g c = record {
  written = subst (Writes _ _ _ _ _ _ _) (sym (explained_line-parts c.args.sign c.args.word.now c.args.place.now))
      (Writes-then c.write_explanation_head.ensures.written c.branch-write_explanation_head.ensures
      c.in_ok-write_explanation_head.is refl
      (Writes-cut (line_feed ∷ []) c.from_residual-in_err-write_place.ensures.0 c.write_place.ensures.written
      c.branch-write_place.ensures c.in_err-write_place.is refl));
}

pub returns : goal.returns
returns g c = record {
  written = subst (Writes _ _ _ _ _ _ _) (sym (explained_line-parts c.args.sign c.args.word.now c.args.place.now))
      (Writes-then c.write_explanation_head.ensures.written c.branch-write_explanation_head.ensures
      c.in_ok-write_explanation_head.is refl
      (Writes-then c.write_place.ensures.written c.branch-write_place.ensures c.in_ok-write_place.is refl
      (Writes-last c.end_line.ensures.written refl)));
}
