-- The last level goes, and its entries with it.
use Rattle.std.proofs.Common.{◌≡◌, ℕ, ◌-◌, ◌<◌, length, take, ap, sym, subst, ◌∙◌, arith}
use Rattle.token_stack.specs.Stack.{TokenStack, levels_cut, open_elements, start_of}
use Rattle.token_stack.proofs.CutLaws.{length-cut}
use Rattle.token_stack.proofs.KeptLaws.{finish-cut, kept-finish, kept-same}
use Rattle.token_stack.proofs.tokens.Tokens.finish.Goals as goal

pub invariant_of-self : goal.invariant_of-self
invariant_of-self c =
    let own = c.self.inside in
    let n : ℕ = c.len-levels.result - 1 in
    let opened : 0 < length (levels_cut 0 own.ends.items own.entries.items) - 1 = subst (λ (t : TokenStack). 0 < open_elements t) (sym c.self.view_is) c.requires.open in
    let some : 0 < n = omega (arith, c.len-levels.ensures, length-cut 0 own.ends.items own.entries.items) in
    let inside : n < length own.ends.items = omega (arith, c.len-levels.ensures) in
    let from : c.level_start.result ≡ start_of own.ends.items n = c.level_start.ensures ∙ ap (λ ends. start_of ends n) c.deref.ensures.value in
    kept-same own.states own.depth _ _ _ _ _ _ _ _
    (sym c.truncate-2.ensures.items) (sym (c.truncate.ensures.items ∙ ap (λ m. take m own.entries.items) from)) (sym c.truncate-2.ensures.capacity) (sym c.truncate.ensures.capacity)
    (kept-finish own.states own.depth own.ends.items own.entries.items _ _ n c.self.invariant inside some)

pub returns-clause-levels : goal.returns-clause-levels
returns-clause-levels c =
    let own = c.self.inside in
    let n : ℕ = c.len-levels.result - 1 in
    let levels = levels_cut 0 own.ends.items own.entries.items in
    let opened : 0 < length (levels_cut 0 own.ends.items own.entries.items) - 1 = subst (λ (t : TokenStack). 0 < open_elements t) (sym c.self.view_is) c.requires.open in
    let some : 0 < n = omega (arith, c.len-levels.ensures, length-cut 0 own.ends.items own.entries.items) in
    let inside : n < length own.ends.items = omega (arith, c.len-levels.ensures) in
    let last : n ≡ length (levels_cut 0 own.ends.items own.entries.items) - 1 = omega (arith, c.len-levels.ensures, length-cut 0 own.ends.items own.entries.items) in
    let from : c.level_start.result ≡ start_of own.ends.items n = c.level_start.ensures ∙ ap (λ ends. start_of ends n) c.deref.ensures.value in
    ap (λ l. record { states = own.states; depth = own.depth; levels = l })
    (ap (λ ends. levels_cut 0 ends c.truncate.new.self.items) c.truncate-2.ensures.items
    ∙ ap (levels_cut 0 (take n own.ends.items)) (c.truncate.ensures.items ∙ ap (λ m. take m own.entries.items) from)
    ∙ finish-cut own.states own.depth own.ends.items own.entries.items _ _ n c.self.invariant inside some
    ∙ ap (λ m. take m levels) last)
    ∙ ap (λ (t : TokenStack). record t { levels = take (length t.levels - 1) t.levels }) c.self.view_is

pub returns-clause-feeds : goal.returns-clause-feeds
returns-clause-feeds c tag = returns-clause-levels c
