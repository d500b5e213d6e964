use Rattle.std.proofs.Common.{◌≡◌, ◌≤◌, Err, length, ap, rules, arith}
use Rattle.acl_model.specs.Stream.{branch_of}
use Rattle.skip_encode.specs.declared.measure_fault.MeasureFault.TheVariants as fault
use Rattle.skip_encode.specs.declared.measures.Measure.{Measure}
use Rattle.skip_encode.specs.inside.Measures.{measure_of}
use Rattle.skip_encode.proofs.Tallying.{laid_length-small}
use Rattle.skip_encode.proofs.Contents.{branch_of-prefix, branch_of-tag, tag_of-small, same-first}
use Rattle.skip_encode.proofs.Trees.{tree-part, root-tally, tree-found}
use Rattle.skip_encode.proofs.measuring.measure_tree.Goals as goal

-- The root's content alone is too large.
pub returns-in_err-measure_element-clause-large : goal.returns-in_err-measure_element-clause-large
returns-in_err-measure_element-clause-large c = λ e.
    let same : c.measure_element.result ≡ Err fault.TooLarge = search rules in
    omega (arith, c.measure_element.ensures.large same, tree-part c.args.names.now c.args.root.now)

-- A content has at least two bytes.
pub add_element-requires-clause-counted : goal.add_element-requires-clause-counted
add_element-requires-clause-counted c =
    let own = same-first c.last.result.now (measure_of (branch_of c.args.names.now c.args.root.now)) _ _ c.measure_element.new.measures c.last.ensures c.in_ok-measure_element.ensures.measured in
    omega (arith, ap (λ (m : Measure). m.long) own, branch_of-prefix c.args.names.now c.args.root.now)

-- The number of a name is below 256.
pub add_element-requires-clause-tag : goal.add_element-requires-clause-tag
add_element-requires-clause-tag c =
    let own = same-first c.last.result.now (measure_of (branch_of c.args.names.now c.args.root.now)) _ _ c.measure_element.new.measures c.last.ensures c.in_ok-measure_element.ensures.measured in
    omega (arith, ap (λ (m : Measure). m.tag) own, branch_of-tag c.args.names.now c.args.root.now, tag_of-small c.args.names.now c.args.root.now.name c.requires)

-- The length that follows from a small tally is below 2^31.
pub overflow_add-section : goal.overflow_add-section
overflow_add-section c =
    let few : length c.names.result.now ≤ 256 = omega (arith, ap length c.names.ensures, c.requires) in
    let small = laid_length-small (length c.names.result.now) c.add_element.new.self c.in_ok-add_element.ensures.small few in
    omega (arith, small, c.length_within-tree.ensures)

pub returns-then-section-tree-gt-LIMIT-clause-large : goal.returns-then-section-tree-gt-LIMIT-clause-large
returns-then-section-tree-gt-LIMIT-clause-large c = λ _.
    let names = c.args.names.now in
    let root = c.args.root.now in
    let own = same-first c.last.result.now (measure_of (branch_of names root)) _ _ c.measure_element.new.measures c.last.ensures c.in_ok-measure_element.ensures.measured in
    let tally = root-tally names root c.last.result.now c.new-tally.result c.add_element.new.self own c.new-tally.ensures c.in_ok-add_element.ensures.added in
    let found = tree-found names root c.add_element.new.self (length c.names.result.now) c.length_within-tree.result c.requires tally (ap length c.names.ensures) c.length_within-tree.ensures in
    omega (arith, found, c.if-section-tree-gt-LIMIT.true)

-- The tree's length follows from the root's tally.
pub returns-clause-length : goal.returns-clause-length
returns-clause-length c =
    let names = c.args.names.now in
    let root = c.args.root.now in
    let own = same-first c.last.result.now (measure_of (branch_of names root)) _ _ c.measure_element.new.measures c.last.ensures c.in_ok-measure_element.ensures.measured in
    let tally = root-tally names root c.last.result.now c.new-tally.result c.add_element.new.self own c.new-tally.ensures c.in_ok-add_element.ensures.added in
    tree-found names root c.add_element.new.self (length c.names.result.now) c.length_within-tree.result c.requires tally (ap length c.names.ensures) c.length_within-tree.ensures
