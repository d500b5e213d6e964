-- The entries of a child are a level after the others.
use Rattle.std.proofs.Common.{◌≡◌, ℕ, suc, ◌+◌, ◌-◌, ◌<◌, ◌≤◌, None, List, [], ◌∷◌, ◌++◌, false, true, length, length-append, drop, ap, sym, subst, ◌∙◌, arith, vec_capacity}
use Rattle.rule_automata.specs.Compile.{is_closed}
use Rattle.token_stack.specs.declared.entry.Entry.{Entry}
use Rattle.token_stack.specs.Entries.{entries_below}
use Rattle.token_stack.specs.Stack.{TokenStack, innermost, levels_cut, open_elements, start_of}
use Rattle.token_stack.specs.inside.Kept.{AreTokens}
use Rattle.token_stack.proofs.CutLaws.{length-cut, push-cut}
use Rattle.token_stack.proofs.KeptLaws.{start-le_length, innermost-cut, moved-rising, moved-room, kept-push, kept-same, kept-small}
use Rattle.token_stack.proofs.tokens.Tokens.begin.Goals as goal

pub push_moved-requires-clause-from : goal.push_moved-requires-clause-from
push_moved-requires-clause-from c =
    let own = c.self.inside in
    let k : ℕ = c.len.result - 1 in
    let from : c.level_start-from.result ≡ start_of own.ends.items k = c.level_start-from.ensures ∙ ap (λ ends. start_of ends k) c.deref.ensures.value in
    subst (λ n. n ≤ length own.entries.items) (sym from)
    (start-le_length own.states own.depth own.ends.items own.entries.items _ _ k c.self.invariant (omega (arith, c.len.ensures, c.self.invariant.some)))

pub push_moved-requires-clause-room : goal.push_moved-requires-clause-room
push_moved-requires-clause-room c =
    let own = c.self.inside in
    let k : ℕ = c.len.result - 1 in
    let long : length own.ends.items ≡ suc k = omega (arith, c.len.ensures, c.self.invariant.some) in
    let from : c.level_start-from.result ≡ start_of own.ends.items k = c.level_start-from.ensures ∙ ap (λ ends. start_of ends k) c.deref.ensures.value in
    let same : length c.states.result.now ≡ own.states = ap length c.states.ensures.states ∙ c.requires.tables ∙ sym (ap (λ (t : TokenStack). t.states) c.self.view_is) in
    let closed : is_closed false c.states.result.now ≡ true = ap (is_closed false) c.states.ensures.states ∙ c.states.ensures.closed in
    let opened : length (levels_cut 0 own.ends.items own.entries.items) - 1 < own.depth = subst (λ (t : TokenStack). open_elements t < t.depth) (sym c.self.view_is) c.requires.room in
    let room : length own.ends.items ≤ own.depth = omega (arith, length-cut 0 own.ends.items own.entries.items) in
    subst (λ n. length own.entries.items + length (entries_below c.states.result.now c.args.tag None (drop n own.entries.items)) ≤ vec_capacity own.entries) (sym from)
    (moved-room c.states.result.now c.args.tag own.states own.depth own.ends.items own.entries.items _ _ k c.self.invariant long same closed room)

pub push_reserved-requires : goal.push_reserved-requires
push_reserved-requires c =
    let own = c.self.inside in
    let opened : length (levels_cut 0 own.ends.items own.entries.items) - 1 < own.depth = subst (λ (t : TokenStack). open_elements t < t.depth) (sym c.self.view_is) c.requires.room in
    omega (arith, length-cut 0 own.ends.items own.entries.items, c.self.invariant.for_ends, c.self.invariant.some)

pub overflow_cast-len : goal.overflow_cast-len
overflow_cast-len c =
    let own = c.self.inside in
    let k : ℕ = c.len.result - 1 in
    let long : length own.ends.items ≡ suc k = omega (arith, c.len.ensures, c.self.invariant.some) in
    let from : c.level_start-from.result ≡ start_of own.ends.items k = c.level_start-from.ensures ∙ ap (λ ends. start_of ends k) c.deref.ensures.value in
    let same : length c.states.result.now ≡ own.states = ap length c.states.ensures.states ∙ c.requires.tables ∙ sym (ap (λ (t : TokenStack). t.states) c.self.view_is) in
    let closed : is_closed false c.states.result.now ≡ true = ap (is_closed false) c.states.ensures.states ∙ c.states.ensures.closed in
    let opened : length (levels_cut 0 own.ends.items own.entries.items) - 1 < own.depth = subst (λ (t : TokenStack). open_elements t < t.depth) (sym c.self.view_is) c.requires.room in
    let room : length own.ends.items ≤ own.depth = omega (arith, length-cut 0 own.ends.items own.entries.items) in
    let new : List Entry = entries_below c.states.result.now c.args.tag None (drop (start_of own.ends.items k) own.entries.items) in
    let kept : AreTokens own.states own.depth (own.ends.items ++ ((length own.entries.items + length new) ∷ [])) (own.entries.items ++ new) (vec_capacity own.ends) (vec_capacity own.entries) =
    kept-push own.states own.depth own.ends.items own.entries.items _ _ new c.self.invariant room
    (moved-rising c.states.result.now c.args.tag own.states own.depth own.ends.items own.entries.items _ _ k c.self.invariant long same closed) in
    let entries : c.push_moved.new.entries.items ≡ own.entries.items ++ new =
    c.push_moved.ensures.entries ∙ ap (λ n. own.entries.items ++ entries_below c.states.result.now c.args.tag None (drop n own.entries.items)) from in
    omega (arith, c.len-2.ensures, ap length entries, kept-small own.states own.depth _ _ _ _ kept)

pub invariant_of-self : goal.invariant_of-self
invariant_of-self c =
    let own = c.self.inside in
    let k : ℕ = c.len.result - 1 in
    let long : length own.ends.items ≡ suc k = omega (arith, c.len.ensures, c.self.invariant.some) in
    let from : c.level_start-from.result ≡ start_of own.ends.items k = c.level_start-from.ensures ∙ ap (λ ends. start_of ends k) c.deref.ensures.value in
    let same : length c.states.result.now ≡ own.states = ap length c.states.ensures.states ∙ c.requires.tables ∙ sym (ap (λ (t : TokenStack). t.states) c.self.view_is) in
    let closed : is_closed false c.states.result.now ≡ true = ap (is_closed false) c.states.ensures.states ∙ c.states.ensures.closed in
    let opened : length (levels_cut 0 own.ends.items own.entries.items) - 1 < own.depth = subst (λ (t : TokenStack). open_elements t < t.depth) (sym c.self.view_is) c.requires.room in
    let room : length own.ends.items ≤ own.depth = omega (arith, length-cut 0 own.ends.items own.entries.items) in
    let new : List Entry = entries_below c.states.result.now c.args.tag None (drop (start_of own.ends.items k) own.entries.items) in
    let entries : c.push_moved.new.entries.items ≡ own.entries.items ++ new =
    c.push_moved.ensures.entries ∙ ap (λ n. own.entries.items ++ entries_below c.states.result.now c.args.tag None (drop n own.entries.items)) from in
    let total : c.len-2.result ≡ length own.entries.items + length new = omega (arith, c.len-2.ensures, ap length entries, length-append own.entries.items new) in
    kept-same own.states own.depth _ _ _ _ _ _ _ _
    (sym (c.push_reserved.ensures.items ∙ ap (λ n. own.ends.items ++ (n ∷ [])) total)) (sym entries) (sym c.push_reserved.ensures.capacity) (sym c.push_moved.ensures.capacity)
    (kept-push own.states own.depth own.ends.items own.entries.items _ _ new c.self.invariant room
    (moved-rising c.states.result.now c.args.tag own.states own.depth own.ends.items own.entries.items _ _ k c.self.invariant long same closed))

pub returns-clause-levels : goal.returns-clause-levels
returns-clause-levels c =
    let own = c.self.inside in
    let k : ℕ = c.len.result - 1 in
    let long : length own.ends.items ≡ suc k = omega (arith, c.len.ensures, c.self.invariant.some) in
    let from : c.level_start-from.result ≡ start_of own.ends.items k = c.level_start-from.ensures ∙ ap (λ ends. start_of ends k) c.deref.ensures.value in
    let new : List Entry = entries_below c.states.result.now c.args.tag None (drop (start_of own.ends.items k) own.entries.items) in
    let entries : c.push_moved.new.entries.items ≡ own.entries.items ++ new =
    c.push_moved.ensures.entries ∙ ap (λ n. own.entries.items ++ entries_below c.states.result.now c.args.tag None (drop n own.entries.items)) from in
    let total : c.len-2.result ≡ length own.entries.items + length new = omega (arith, c.len-2.ensures, ap length entries, length-append own.entries.items new) in
    let levels : levels_cut 0 c.push_reserved.new.self.items c.push_moved.new.entries.items ≡ levels_cut 0 own.ends.items own.entries.items ++ (new ∷ []) =
    ap (λ ends. levels_cut 0 ends c.push_moved.new.entries.items) (c.push_reserved.ensures.items ∙ ap (λ n. own.ends.items ++ (n ∷ [])) total)
    ∙ ap (levels_cut 0 (own.ends.items ++ ((length own.entries.items + length new) ∷ []))) entries
    ∙ push-cut own.ends.items own.entries.items new c.self.invariant.cut in
    let below : new ≡ entries_below c.args.tables.now.states c.args.tag None (innermost (levels_cut 0 own.ends.items own.entries.items)) =
    ap (λ states. entries_below states c.args.tag None (drop (start_of own.ends.items k) own.entries.items)) c.states.ensures.states
    ∙ ap (entries_below c.args.tables.now.states c.args.tag None) (innermost-cut own.states own.depth own.ends.items own.entries.items _ _ k c.self.invariant long) in
    ap (λ l. record { states = own.states; depth = own.depth; levels = l }) (levels ∙ ap (λ es. levels_cut 0 own.ends.items own.entries.items ++ (es ∷ [])) below)
    ∙ ap (λ (t : TokenStack). record t { levels = t.levels ++ (entries_below c.args.tables.now.states c.args.tag None (innermost t.levels) ∷ []) }) c.self.view_is

pub returns-clause-feeds : goal.returns-clause-feeds
returns-clause-feeds c below = returns-clause-levels c
