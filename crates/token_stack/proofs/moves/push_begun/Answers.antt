-- There is room for one entry a state.
use Rattle.std.proofs.Common.{◌≤◌, ◌+◌, length, sym, subst, option_to_list, vec_capacity}
use Rattle.token_stack.proofs.MoveSteps.{begun-room}
use Rattle.token_stack.proofs.moves.push_begun.Goals as goal

pub put-requires : goal.put-requires
put-requires c =
    subst (λ n. length c.loop-number.entries.items + length (option_to_list c.made.result) ≤ n) (sym c.loop-number.invariant.capacity)
    (subst (λ o. length c.loop-number.entries.items + length (option_to_list o) ≤ vec_capacity c.args.entries.now) (sym c.made.ensures)
    (begun-room c.args.states.now c.loop-number.is_first c.args.entries.now.items c.loop-number.entries.items c.loop-number.number _ c.loop-number-test.true c.loop-number.invariant.way c.requires.room))
