-- The form of a raw attribute, by its parts.
use Rattle.std.proofs.Common.{sym, ap, ◌∙◌}
use Rattle.acl_model.specs.Document.{is_type}
use Rattle.acl_model.proofs.FormLaws.{raw_attribute-cut, raw_attribute-none, and_no_first, and_no_second, and_both}
use Rattle.acl_model.proofs.form.is_raw_attribute.Goals as goal
use Rattle.acl_model.proofs.form.is_raw_attribute.Goals.{then-not-is_a_name-via-then-not-is_a_name, then-not-is_a_name-via-else-not-is_a_name+then-not-is_type}

pub returns-in_default : goal.returns-in_default
returns-in_default c = sym (raw_attribute-none c.args.raw.now c.in_default.ensures.parts)

pub returns-then-not-is_a_name : goal.returns-then-not-is_a_name
returns-then-not-is_a_name c =
    let is = raw_attribute-cut c.args.raw.now c.in-Some.name.now c.in-Some.after.now c.in-Some.ensures.parts in
    sym (is ∙ elim c.then-not-is_a_name.branch [
      | then-not-is_a_name-via-then-not-is_a_name w ↦ and_no_first _ _ _ (sym c.is_a_name.ensures ∙ w.if-not-is_a_name.true)
      | then-not-is_a_name-via-else-not-is_a_name+then-not-is_type w ↦
          and_no_second _ _ _ (ap is_type (sym w.first_word.ensures) ∙ sym w.is_type.ensures ∙ w.if-not-is_type.true)
    ])

pub returns : goal.returns
returns c =
    c.fits_a_line.ensures
    ∙ and_both _ _ _ (sym c.if-not-is_a_name.ensures) (ap is_type (sym c.first_word.ensures) ∙ sym c.if-not-is_type.ensures)
    ∙ sym (raw_attribute-cut c.args.raw.now c.in-Some.name.now c.in-Some.after.now c.in-Some.ensures.parts)
