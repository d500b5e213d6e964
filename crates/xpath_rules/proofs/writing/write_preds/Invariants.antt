use Rattle.std.proofs.Common.{◌≡◌, ◌++◌, drop, map, flat_map}
use Rattle.xpath_rules.specs.Grammar.{pred_text}
use Rattle.xpath_rules.specs.Canonical.{canonical_pred}
use Rattle.xpath_rules.proofs.writing.write_preds.Given as goal

abbrev pub invariant-loop-pred : goal.invariant-loop-pred
invariant-loop-pred l = l.out.items ++ flat_map pred_text (map canonical_pred (drop l.pred-index l.preds)) ≡ l.initial.out.items ++ flat_map pred_text (map canonical_pred l.preds)
