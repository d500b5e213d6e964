-- The entries are counted level by level.
use Rattle.std.proofs.Common.{◌≡◌, ◌+◌, ◌-◌, ◌*◌, ◌≤◌, length, ap, subst, arith}
use Rattle.token_stack.specs.Stack.{TokenStack, entry_count, open_elements, levels_cut}
use Rattle.token_stack.proofs.CutLaws.{count-cut}
use Rattle.token_stack.proofs.KeptLaws.{kept-bound, kept-small}
use Rattle.token_stack.proofs.tokens.Tokens.entries.Goals as goal

pub overflow_cast-result : goal.overflow_cast-result
overflow_cast-result c =
    let own = c.self.inside in
    omega (arith, c.len.ensures, kept-small own.states own.depth own.ends.items own.entries.items _ _ c.self.invariant)

pub returns-clause-count : goal.returns-clause-count
returns-clause-count c =
    let own = c.self.inside in
    let counted : entry_count (levels_cut 0 own.ends.items own.entries.items) + 0 ≡ length own.entries.items = count-cut 0 own.ends.items own.entries.items c.self.invariant.cut in
    let same : entry_count (levels_cut 0 own.ends.items own.entries.items) ≡ entry_count c.args.self.now.levels = ap (λ (t : TokenStack). entry_count t.levels) c.self.view_is in
    omega (arith, c.len.ensures)

pub returns-clause-bound : goal.returns-clause-bound
returns-clause-bound c =
    let own = c.self.inside in
    let long : length own.entries.items ≡ c.len.result = omega (arith, c.len.ensures) in
    subst (λ (t : TokenStack). c.len.result ≤ (open_elements t + 1) * t.states) c.self.view_is
    (subst (λ n. n ≤ (length (levels_cut 0 own.ends.items own.entries.items) - 1 + 1) * own.states) long
    (kept-bound own.states own.depth own.ends.items own.entries.items _ _ c.self.invariant))
