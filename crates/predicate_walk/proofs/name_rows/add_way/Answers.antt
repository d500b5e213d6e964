use Rattle.std.proofs.Common.{take}
use Rattle.std.specs.List.{list_any}
use Rattle.predicate_walk.specs.inside.States.{does_name}
use Rattle.predicate_walk.specs.Truths.{preds_in}
use Rattle.predicate_walk.proofs.NameLaws.{adds_none, adds_more, rows_added, step_named, way_added}
use Rattle.predicate_walk.proofs.name_rows.add_way.Goals as goal

pub loop-step-init : goal.loop-step-init
loop-step-init c = record { are = c.requires; adds = adds_none (preds_in c.args.preds.now) c.args.rows.now }

pub loop-step-preserved : goal.loop-step-preserved
loop-step-preserved c = record {
  are = rows_added (preds_in c.args.preds.now) (λ n. does_name n c.step-item.result) c.loop-step.rows
      c.add_step.new.rows c.loop-step.invariant.are c.in_ok-add_step.ensures;
  adds =
      adds_more (preds_in c.args.preds.now) (λ n. list_any (does_name n) (take c.loop-step.step-index c.args.way.now))
      (λ n. does_name n c.step-item.result) _ c.args.rows.now c.loop-step.rows c.add_step.new.rows
      c.loop-step.invariant.adds c.in_ok-add_step.ensures
      (λ name. step_named name c.args.way.now c.loop-step.step-index c.step-item.result c.loop-step-test.true c.step-item.is);
}

pub returns : goal.returns
returns c =
    way_added (preds_in c.args.preds.now) c.args.way.now c.loop-step.step-index c.args.rows.now c.loop-step.rows
    c.loop-step-test.false c.loop-step.invariant.adds
