-- The entries of a level stand between its start and its end.
use Rattle.std.proofs.Common.{◌≡◌, ℕ, ◌<◌, ◌≤◌, [], length, get_or, ap, sym, ◌∙◌, arith}
use Rattle.std.specs.List.{slice_range}
use Rattle.std.proofs.lemmas.List.{get_or_read}
use Rattle.token_stack.specs.Entries.{rules_of}
use Rattle.token_stack.specs.Stack.{TokenStack, entries_at, levels_cut, start_of}
use Rattle.token_stack.proofs.RowLaws.{rules-none}
use Rattle.token_stack.proofs.KeptLaws.{entries_at-cut, entries_at-past, level-order, level-within}
use Rattle.token_stack.proofs.tokens.Tokens.sure.Goals as goal
use Rattle.token_stack.proofs.tokens.Tokens.sure.Goals.{then-level-eq0-via-then-level-eq0, then-level-eq0-via-else-level-eq0+then-level-len}

pub rules_between-requires : goal.rules_between-requires
rules_between-requires c =
    let own = c.self.inside in
    let level : ℕ = c.args.level in
    let inside : level < length own.ends.items = omega (arith, c.len.ensures, c.if-level-len.false) in
    let from : c.level_start-from.result ≡ start_of own.ends.items level = c.level_start-from.ensures ∙ ap (λ ends. start_of ends level) c.deref.ensures.value in
    let to : c.index.result.now ≡ get_or own.ends.items level 0 = get_or_read own.ends.items level c.index.result.now inside c.index.ensures 0 in
    let order : start_of own.ends.items level ≤ get_or own.ends.items level 0 = level-order own.states own.depth own.ends.items own.entries.items _ _ level c.self.invariant inside in
    let within : get_or own.ends.items level 0 ≤ length own.entries.items = level-within own.states own.depth own.ends.items own.entries.items _ _ level c.self.invariant inside in
    record { order = omega arith; within = omega (arith, c.deref-2.ensures.len) }

pub returns : goal.returns
returns c =
    let own = c.self.inside in
    let level : ℕ = c.args.level in
    let inside : level < length own.ends.items = omega (arith, c.len.ensures, c.if-level-len.false) in
    let some : 0 < level = omega (arith, c.if-level-eq0.false) in
    let from : c.level_start-from.result ≡ start_of own.ends.items level = c.level_start-from.ensures ∙ ap (λ ends. start_of ends level) c.deref.ensures.value in
    let to : c.index.result.now ≡ get_or own.ends.items level 0 = get_or_read own.ends.items level c.index.result.now inside c.index.ensures 0 in
    c.rules_between.ensures
    ∙ ap (λ es. rules_of (slice_range es c.level_start-from.result c.index.result.now)) c.deref-2.ensures.value
    ∙ ap (λ a. rules_of (slice_range own.entries.items a c.index.result.now)) from
    ∙ ap (λ b. rules_of (slice_range own.entries.items (start_of own.ends.items level) b)) to
    ∙ ap rules_of (sym (entries_at-cut own.ends.items own.entries.items level some inside))
    ∙ ap (λ (t : TokenStack). rules_of (entries_at t.levels level)) c.self.view_is

pub returns-then-level-eq0 : goal.returns-then-level-eq0
returns-then-level-eq0 c =
    let own = c.self.inside in
    let levels : entries_at (levels_cut 0 own.ends.items own.entries.items) c.args.level ≡ [] = elim c.then-level-eq0.branch [
      | then-level-eq0-via-then-level-eq0 w ↦ ap (entries_at (levels_cut 0 own.ends.items own.entries.items)) w.if-level-eq0.true
      | then-level-eq0-via-else-level-eq0+then-level-len w ↦ entries_at-past own.ends.items own.entries.items c.args.level (omega (arith, w.len.ensures, w.if-level-len.true))
    ] in
    c.none.ensures ∙ rules-none ∙ ap rules_of (sym levels) ∙ ap (λ (t : TokenStack). rules_of (entries_at t.levels c.args.level)) c.self.view_is
