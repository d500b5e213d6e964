use Rattle.std.proofs.Common.{sym}
use Rattle.predicate_walk.specs.Truths.{preds_in}
use Rattle.predicate_walk.proofs.NameLaws.{adds_name, has_name}
use Rattle.predicate_walk.proofs.name_rows.add_name.Goals as goal

pub returns-then-contains_key : goal.returns-then-contains_key
returns-then-contains_key c =
    has_name (preds_in c.args.preds.now) c.args.rows.now c.args.name.now c.requires (sym c.if-contains_key.ensures)

pub returns-in-Ok : goal.returns-in-Ok
returns-in-Ok c =
    adds_name (preds_in c.args.preds.now) c.args.rows.now c.insert.new.self c.in_ok-key.key c.in_ok-row.row
    c.args.name.now c.in_ok-key.ensures.items c.in_ok-row.ensures c.in-Ok.ensures.updates
