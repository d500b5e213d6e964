-- The laws of BoundRows.
use Rattle.token_stack.proofs.BoundRows.{learned-more, learned-read, learned-no_more}
use Rattle.token_stack.proofs.BoundRows.{learned_sure, learned_may, stay_open}
use Rattle.token_stack.proofs.bound_laws.a_look_ahead_tells_more.Goals as goal

pub returns : goal.returns
returns c = record {
  more = learned-more;
  read = learned-read;
  no_more = learned-no_more;
  sure = learned_sure;
  may = learned_may;
  still_open = stay_open;
}
