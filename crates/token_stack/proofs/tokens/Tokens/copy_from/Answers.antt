-- There is room for the other's entries, since it has no more levels and states.
use Rattle.std.proofs.Common.{◌≡◌, ◌+◌, ◌*◌, ◌≤◌, length, ap, sym, subst, ◌∙◌, arith}
use Rattle.token_stack.specs.Stack.{TokenStack}
use Rattle.token_stack.proofs.KeptLaws.{kept-most}
use Rattle.token_stack.proofs.tokens.Tokens.copy_from.Goals as goal

pub unwrap-requires-2 : goal.unwrap-requires-2
unwrap-requires-2 c =
    let own = c.self.inside in
    let other = c.other.inside in
    let states : other.states ≡ own.states = ap (λ (t : TokenStack). t.states) c.other.view_is ∙ sym c.requires.states ∙ sym (ap (λ (t : TokenStack). t.states) c.self.view_is) in
    let depth : other.depth ≡ own.depth = ap (λ (t : TokenStack). t.depth) c.other.view_is ∙ sym c.requires.depth ∙ sym (ap (λ (t : TokenStack). t.depth) c.self.view_is) in
    let most : length other.entries.items ≤ (other.depth + 1) * other.states = kept-most other.states other.depth other.ends.items other.entries.items _ _ c.other.invariant in
    let room : length other.entries.items ≤ (own.depth + 1) * own.states =
    subst (λ n. length other.entries.items ≤ (own.depth + 1) * n) states (subst (λ n. length other.entries.items ≤ (n + 1) * other.states) depth most) in
    c.extend_from_slice-2.ensures.succeeds (omega (arith, c.self.invariant.for_entries, c.clear-2.ensures.len, c.clear-2.ensures.capacity, c.as_slice-2.ensures.len))
