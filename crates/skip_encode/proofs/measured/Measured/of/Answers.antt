use Rattle.std.proofs.Common.{◌≡◌, ◌++◌, Err, length, ap, ◌∙◌, rules, arith}
use Rattle.acl_model.specs.Stream.{element_part, branch_of}
use Rattle.skip_encode.specs.inside.Measures.{part_measures}
use Rattle.skip_encode.specs.declared.measure_fault.MeasureFault.TheVariants as measure
use Rattle.skip_encode.proofs.Documents.{measured-of, sections-size}
use Rattle.skip_encode.proofs.measured.Measured.of.Goals as goal

-- The two sections together are too large.
pub returns-in_err-tree-clause-too_large : goal.returns-in_err-tree-clause-too_large
returns-in_err-tree-clause-too_large c = λ e.
    let same : c.measure_tree.result ≡ Err measure.TooLarge = search rules in
    omega (
      arith,
      c.measure_tree.ensures.large same,
      ap length c.as_slice.ensures,
      sections-size c.args.doc.now c.in_ok-names.names c.in_ok-section.section c.in_ok-names.ensures.names c.in_ok-section.ensures,
    )

-- The result measures the document.
pub returns-clause-measured : goal.returns-clause-measured
returns-clause-measured c =
    measured-of c.args.doc.now
    (record {
      tree = c.from.result;
      dictionary = c.len.result;
      tags = length c.names-2.result.now;
      depth = c.height.result;
      names = c.in_ok-names.names;
      section = c.in_ok-section.section;
      measures = c.measure_tree.new.measures;
    })
    c.in_ok-names.ensures.names (omega (arith, ap length c.in_ok-names.ensures.names, c.in_ok-names.ensures.few)) c.in_ok-section.ensures
    (c.from.ensures ∙ c.in_ok-tree.ensures.length) (omega (arith, c.from.ensures, c.in_ok-tree.ensures.small, ap length c.as_slice.ensures))
    c.len.ensures (ap length c.names-2.ensures) c.height.ensures
    (c.in_ok-tree.ensures.measured ∙ ap (λ l. part_measures (element_part (branch_of c.in_ok-names.names c.args.doc.now.root)) ++ l) c.new-measures.ensures)
