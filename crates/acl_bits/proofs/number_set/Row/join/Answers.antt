-- Each bit is written with its word.
use Rattle.std.proofs.Common.{ℕ, List, ap, ◌∙◌, arith, ◌||◌}
use Rattle.acl_bits.specs.Row.{is_member, members_of, row_of}
use Rattle.acl_bits.proofs.Words.{join_written, join_kept, AreWords-or, members_of-or}
use Rattle.acl_bits.proofs.number_set.Row.join.Goals as goal

pub loop-i-preserved : goal.loop-i-preserved
loop-i-preserved c = record {
  words = AreWords-or c.loop-i.self-inside.words c.loop-i.i _ c.loop-i.invariant.words c.loop-i-test.true (c.other.invariant.fit c.loop-i.i);
  written = join_written c.loop-i.self-inside.words c.self.inside.words c.other.inside.words c.loop-i.i c.loop-i.invariant.words
      c.loop-i-test.true c.loop-i.invariant.written c.loop-i.invariant.kept;
  kept = join_kept c.loop-i.self-inside.words c.self.inside.words c.loop-i.i _ c.loop-i.invariant.kept;
}

pub returns : goal.returns
returns c =
    members_of-or c.loop-i.self-inside.words c.self.inside.words c.other.inside.words (λ k l. c.loop-i.invariant.written k (omega arith))
    ∙ ap (λ (xs : List ℕ). row_of (λ m. is_member xs m || is_member (members_of c.other.inside.words) m)) c.self.view_is
    ∙ ap (λ (xs : List ℕ). row_of (λ m. is_member c.args.self.now m || is_member xs m)) c.other.view_is
