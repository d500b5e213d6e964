-- The tables of rules within the limits keep the invariant of tables.
use Rattle.std.proofs.Common.{◌≡◌, List, ◌++◌, subst, sym, ap, ◌∙◌}
use Rattle.std.proofs.lemmas.List.{append-nil}
use Rattle.rule_automata.specs.declared.state.State.{State}
use Rattle.rule_automata.specs.Compile.{AreTables, AreWithinLimits, automata_of, states_from}
use Rattle.rule_automata.proofs.StateLists.{states_from-drop_all}
use Rattle.rule_automata.proofs.TableLaws.{are_tables}
use Rattle.rule_automata.proofs.compiler.compile.Goals as goal

pub from_parts-requires : goal.from_parts-requires
from_parts-requires c =
    let now : List State = c.loop-number.states.items in
    let states : now ≡ states_from c.args.names.now 0 c.args.rules.now =
    sym (append-nil now)
    ∙ ap (λ t. now ++ t)
    (sym (states_from-drop_all c.args.names.now c.args.rules.now c.loop-number.number c.loop-number-test.false))
    ∙ c.loop-number.invariant in
    let limits : AreWithinLimits c.args.names.now c.args.rules.now = c.requires in
    let same : automata_of c.args.names.now c.args.rules.now
    ≡ record {
      states = now;
      suffixes = c.in_ok-preds.preds.suffixes.items;
      bearings = c.in_ok-preds.preds.bearings.items;
      grants = c.numbered.result;
      denies = c.numbered-2.result;
    } =
    λ i. record {
      states = (sym states) i;
      suffixes = (sym c.in_ok-preds.ensures.suffixes) i;
      bearings = (sym c.in_ok-preds.ensures.bearings) i;
      grants = (sym c.numbered.ensures) i;
      denies = (sym c.numbered-2.ensures) i;
    } in
    subst AreTables same (are_tables c.args.names.now c.args.rules.now limits)
