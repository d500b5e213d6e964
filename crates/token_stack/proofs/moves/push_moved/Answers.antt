-- Each turn adds the next of what is to be added.
use Rattle.std.proofs.Common.{◌≡◌, ◌<◌, ◌≤◌, ◌+◌, List, ◌++◌, None, refl, length, length-append, take, drop, option_to_list, vec_capacity, ap, sym, subst, ◌∙◌, arith}
use Rattle.std.specs.List.{slice_get}
use Rattle.token_stack.specs.declared.entry.Entry.{Entry}
use Rattle.token_stack.specs.Entries.{entries_below, next_state}
use Rattle.token_stack.proofs.MoveSteps.{turn_done, turn_room, prefix_kept}
use Rattle.token_stack.proofs.moves.push_moved.Goals as goal

pub put-requires-in-loop-i : goal.put-requires-in-loop-i
put-requires-in-loop-i c =
    let old : List Entry = c.args.entries.now.items in
    let inside : c.loop-i.i < length old = omega (arith, c.len-i-end.ensures) in
    let e : Entry = c.index-entry.result.now in
    let states = c.args.states.now in
    let below : List Entry = entries_below states c.args.tag None (drop c.args.from old) in
    let rest : List Entry = entries_below states c.args.tag (next_state (slice_get states e.state) c.args.tag e) (drop (c.loop-i.i + 1) old) in
    let way : (c.put.new.entries.items ++ option_to_list c.own.result) ++ rest ≡ old ++ below =
    turn_done states c.args.tag c.loop-i.next _ old c.loop-i.entries.items c.put.new.entries.items _ _ c.loop-i.i e _ c.own.result c.loop-i.invariant.kept
    inside c.index-entry.ensures c.passed.ensures c.put.ensures.entries c.own.ensures refl refl c.loop-i.invariant.way in
    let all : length (old ++ below) ≡ length old + length below = length-append old below in
    let fits : length (old ++ below) ≤ vec_capacity c.args.entries.now = omega (arith, c.requires.room) in
    subst (λ n. length c.put.new.entries.items + length (option_to_list c.own.result) ≤ n) (sym (c.put.ensures.capacity ∙ c.loop-i.invariant.capacity))
    (turn_room c.put.new.entries.items (option_to_list c.own.result) rest (old ++ below) (vec_capacity c.args.entries.now) way fits)

pub loop-i-preserved : goal.loop-i-preserved
loop-i-preserved c =
    let old : List Entry = c.args.entries.now.items in
    let inside : c.loop-i.i < length old = omega (arith, c.len-i-end.ensures) in
    let items : List Entry = c.loop-i.entries.items in
    let first : length c.put.new.entries.items ≡ length items + length (option_to_list c.passed.result) = ap length c.put.ensures.entries ∙ length-append items (option_to_list c.passed.result) in
    let second : length c.put-in-loop-i.new.entries.items ≡ length c.put.new.entries.items + length (option_to_list c.own.result) =
    ap length c.put-in-loop-i.ensures.entries ∙ length-append c.put.new.entries.items (option_to_list c.own.result) in
    let kept : take (length old) c.put.new.entries.items ≡ old =
    ap (take (length old)) c.put.ensures.entries ∙ prefix_kept old items (option_to_list c.passed.result) c.loop-i.invariant.longer c.loop-i.invariant.kept in
    record {
      longer = omega (arith, c.loop-i.invariant.longer);
      kept = ap (take (length old)) c.put-in-loop-i.ensures.entries
          ∙ prefix_kept old c.put.new.entries.items (option_to_list c.own.result) (omega (arith, c.loop-i.invariant.longer)) kept;
      way = turn_done c.args.states.now c.args.tag c.loop-i.next c.after-next.result old items c.put.new.entries.items c.put-in-loop-i.new.entries.items _ c.loop-i.i
          c.index-entry.result.now c.passed.result c.own.result c.loop-i.invariant.kept inside c.index-entry.ensures c.passed.ensures c.put.ensures.entries
          c.own.ensures c.put-in-loop-i.ensures.entries c.after-next.ensures c.loop-i.invariant.way;
      capacity = c.put-in-loop-i.ensures.capacity ∙ c.put.ensures.capacity ∙ c.loop-i.invariant.capacity;
    }
