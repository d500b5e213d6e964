use Rattle.std.proofs.Common.{◌∙◌, ◌||◌, ap, sym, take}
use Rattle.std.specs.List.{list_any}
use Rattle.predicate_walk.specs.inside.States.{does_name, is_named_in}
use Rattle.predicate_walk.specs.Truths.{preds_in}
use Rattle.predicate_walk.proofs.NameLaws.{adds_none, adds_more, rows_added, none_are, ref_named, all_added}
use Rattle.predicate_walk.proofs.name_rows.find_name_rows.Goals as goal

pub loop-r-init : goal.loop-r-init
loop-r-init c = record { are = none_are (preds_in c.args.preds.now) c.new-rows.result c.new-rows.ensures.empty; adds = adds_none (preds_in c.args.preds.now) c.new-rows.result }

pub loop-r-preserved : goal.loop-r-preserved
loop-r-preserved c = record {
  are = rows_added (preds_in c.args.preds.now) _ c.loop-r.rows c.add_way.new.rows c.loop-r.invariant.are
      c.in_ok-add_way.ensures;
  adds =
      adds_more (preds_in c.args.preds.now) (λ n. is_named_in (preds_in (take c.loop-r.r-index c.args.preds.now)) n)
      (λ n. list_any (does_name n) c.as_slice.result.now) _ c.new-rows.result c.loop-r.rows c.add_way.new.rows
      c.loop-r.invariant.adds c.in_ok-add_way.ensures
      (λ name.
      ref_named name c.args.preds.now c.loop-r.r-index c.r-item.result c.loop-r-test.true c.r-item.is
      ∙ ap (λ w. is_named_in (preds_in (take c.loop-r.r-index c.args.preds.now)) name || list_any (does_name name) w) (sym c.as_slice.ensures));
}

pub returns : goal.returns
returns c =
    all_added c.args.preds.now c.loop-r.r-index c.new-rows.result c.loop-r.rows c.loop-r-test.false
    c.new-rows.ensures.empty c.loop-r.invariant.adds
