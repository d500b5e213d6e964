-- One more predicate: its bearing is appended, and then its suffixes.
use Rattle.std.proofs.Common.{◌≡◌, ℕ, ◌+◌, ◌<◌, List, [], ◌∷◌, ◌++◌, length, drop, ap, ◌∙◌, rules, arith}
use Rattle.acl_model.specs.declared.path.Pred.{Pred}
use Rattle.rule_automata.specs.declared.suffix.Suffix.{Suffix}
use Rattle.rule_automata.specs.Compile.{way_suffixes, suffixes_of, bearing_of, bearings_from, preds_at}
use Rattle.rule_automata.proofs.PredLists.{room_at, suffixes_at-next, bearings_at-next}
use Rattle.rule_automata.proofs.preds.add_preds.Goals as goal

pub overflow_cast-first : goal.overflow_cast-first
overflow_cast-first c =
    let room : length c.loop-pred.found.suffixes.items + length c.pred-item.result.way < 320 =
    room_at c.args.names.now c.loop-pred.found.suffixes.items c.args.found.now.suffixes.items c.args.step
    c.args.preds.now c.loop-pred.pred-index c.pred-item.result
    c.loop-pred-test.true c.pred-item.is c.loop-pred.invariant.suffixes c.requires.suffixes in
    let first : c.len-first.result ≡ length c.loop-pred.found.suffixes.items = search rules in
    omega (arith, room, first)

pub of_pred-requires : goal.of_pred-requires
of_pred-requires c =
    let room : length c.loop-pred.found.suffixes.items + length c.pred-item.result.way < 320 =
    room_at c.args.names.now c.loop-pred.found.suffixes.items c.args.found.now.suffixes.items c.args.step
    c.args.preds.now c.loop-pred.pred-index c.pred-item.result
    c.loop-pred-test.true c.pred-item.is c.loop-pred.invariant.suffixes c.requires.suffixes in
    let first : c.len-first.result ≡ length c.loop-pred.found.suffixes.items = search rules in
    omega (arith, room, first)

pub loop-pred-preserved : goal.loop-pred-preserved
loop-pred-preserved c =
    let k : ℕ = c.loop-pred.pred-index in
    let preds : List Pred = c.args.preds.now in
    let pred : Pred = c.pred-item.result in
    let names : List (List ℕ) = c.args.names.now in
    let now : List Suffix = c.loop-pred.found.suffixes.items in
    let first : c.len-first.result ≡ length now = search rules in
    let grown : c.add_suffixes.new.suffixes.items ≡ now ++ way_suffixes names pred.way = search rules in
    let borne : c.in_ok-of_pred.field-0 ≡ bearing_of (length now) (record { step = c.args.step; pred = pred }) =
    c.in_ok-of_pred.ensures ∙ ap (λ n. bearing_of n (record { step = c.args.step; pred = pred })) first in
    let pushed : c.push.new.self.items
    ≡ c.loop-pred.found.bearings.items ++ c.in_ok-of_pred.field-0 ∷ [] = search rules in
    record {
      suffixes =
          ap (λ t. t ++ suffixes_of names (preds_at c.args.step (drop (k + 1) preds))) grown
          ∙ suffixes_at-next names now _ c.args.step preds k pred
          c.loop-pred-test.true c.pred-item.is c.loop-pred.invariant.suffixes;
      bearings =
          ap (λ t. t ++ bearings_from (length c.add_suffixes.new.suffixes.items)
          (preds_at c.args.step (drop (k + 1) preds))) pushed
          ∙ ap (λ b. (c.loop-pred.found.bearings.items ++ b ∷ [])
          ++ bearings_from (length c.add_suffixes.new.suffixes.items)
          (preds_at c.args.step (drop (k + 1) preds))) borne
          ∙ ap (λ (t : List Suffix). (c.loop-pred.found.bearings.items ++ bearing_of (length now)
          (record { step = c.args.step; pred = pred }) ∷ [])
          ++ bearings_from (length t) (preds_at c.args.step (drop (k + 1) preds))) grown
          ∙ bearings_at-next names now c.loop-pred.found.bearings.items _ c.args.step preds k pred
          c.loop-pred-test.true c.pred-item.is c.loop-pred.invariant.bearings;
    }
