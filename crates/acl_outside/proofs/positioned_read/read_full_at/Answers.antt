use Rattle.std.proofs.Common.{◌≡◌, ◌+◌, ◌∙◌, rules}
use Rattle.acl_outside.proofs.Placing.{cut-after, part-after, part-kept}
use Rattle.acl_outside.proofs.Trying.{Passed-given, Passed-cut_off, OneFailed-last}
use Rattle.acl_outside.specs.inside.Tries.{OneFailed}
use Rattle.acl_outside.proofs.positioned_read.read_full_at.Goals as goal
use Rattle.acl_outside.proofs.positioned_read.read_full_at.Goals.{in-Ok, in-Err}

pub returns-in-Err-2-clause-one_failed : goal.returns-in-Err-2-clause-one_failed
returns-in-Err-2-clause-one_failed g c =
    let failed : OneFailed (g.F.PositionedRead.tries c.args.file.now) (g.F.PositionedRead.tries c.read_some_at.new.self) =
    OneFailed-last _ _ _ _ _ (λ signal. let same = c.kind.ensures ∙ signal in search rules) c.loop-turn.invariant.passed c.in-Err.ensures.counted in
    search rules

pub loop-turn-preserved : goal.loop-turn-preserved
loop-turn-preserved g c =
    let same = c.loop-turn.invariant.constant in
    let next : c.saturating_add-place.result ≡ c.args.at + c.loop-turn.filled = search rules in
    elim c.match-read_some_at.branch [
      | in-Ok w ↦ rw w.filled-is (record {
        in_range = search rules;
        constant = c.read_some_at.ensures.constant ∙ same;
        cut = cut-after _ _ _ _ _ next c.loop-turn.invariant.cut (rw same at w.in-Ok.ensures.cut);
        part = part-after _ _ _ _ _ _ _ next c.loop-turn.invariant.in_range (search rules) c.loop-turn.invariant.part (rw same at w.in-Ok.ensures.part);
        passed = Passed-given _ _ _ _ _ c.loop-turn.invariant.passed w.in-Ok.ensures.counted;
      })
      | in-Err w ↦ rw w.filled-is (record {
        in_range = search rules;
        constant = c.read_some_at.ensures.constant ∙ same;
        cut = c.loop-turn.invariant.cut;
        part = part-kept _ _ _ _ _ c.loop-turn.invariant.in_range c.loop-turn.invariant.part;
        passed = Passed-cut_off _ _ _ _ _ (search rules) c.loop-turn.invariant.passed w.in-Err.ensures.counted;
      })
    ]
