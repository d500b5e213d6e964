use Rattle.std.proofs.Common.{◌∙◌, rules}
use Rattle.acl_outside.proofs.Consuming.{Consumes-after, Consumes-unread}
use Rattle.acl_outside.proofs.Trying.{Passed-given, Passed-cut_off, OneFailed-last}
use Rattle.acl_outside.specs.inside.Tries.{OneFailed}
use Rattle.acl_outside.proofs.reader_source.read_full.Goals as goal
use Rattle.acl_outside.proofs.reader_source.read_full.Goals.{in-Ok, in-Err}

pub returns-in-Err-2-clause-one_failed : goal.returns-in-Err-2-clause-one_failed
returns-in-Err-2-clause-one_failed g c =
    let failed : OneFailed (g.R.SomeRead.tries c.args.reader.now) (g.R.SomeRead.tries c.read_some.new.self) =
    OneFailed-last _ _ _ _ _ (λ signal. let same = c.kind.ensures ∙ signal in search rules) c.loop-turn.invariant.passed c.in-Err.ensures.counted in
    search rules

pub loop-turn-preserved : goal.loop-turn-preserved
loop-turn-preserved g c = elim c.match-read_some.branch [
  | in-Ok w ↦ rw w.filled-is (record {
    in_range = search rules;
    consumed = Consumes-after _ _ _ _ _ _ _ c.loop-turn.invariant.in_range w.in-Ok.ensures.within.0 c.loop-turn.invariant.consumed w.in-Ok.ensures.bytes.0;
    passed = Passed-given _ _ _ _ _ c.loop-turn.invariant.passed w.in-Ok.ensures.counted;
  })
  | in-Err w ↦ rw w.filled-is (record {
    in_range = search rules;
    consumed = Consumes-unread _ _ _ _ _ _ c.loop-turn.invariant.in_range c.loop-turn.invariant.consumed w.in-Err.ensures.bytes;
    passed = Passed-cut_off _ _ _ _ _ (search rules) c.loop-turn.invariant.passed w.in-Err.ensures.counted;
  })
]
