-- One level stands at the virtual root.
use Rattle.std.proofs.Common.{◌≡◌, ◌≤◌, [], ◌∷◌, ◌++◌, true, length, ap, sym, subst, ◌∙◌, arith}
use Rattle.rule_automata.specs.Run.{begun}
use Rattle.token_stack.specs.Stand.{entries_from}
use Rattle.token_stack.proofs.KeptLaws.{kept-begun, kept-same}
use Rattle.token_stack.proofs.tokens.Tokens.new.Goals as goal

pub invariant_of-result : goal.invariant_of-result
invariant_of-result c =
    let states = c.states-states.result.now in
    let entries : c.push_begun.new.entries.items ≡ entries_from 0 (begun true states) = c.push_begun.ensures.entries ∙ ap (λ es. es ++ entries_from 0 (begun true states)) c.in_ok-entries.ensures.items in
    let total : c.len.result ≡ length (entries_from 0 (begun true states)) = omega (arith, c.len.ensures, ap length entries) in
    kept-same (length states) c.args.depth _ _ _ _ _ _ _ _
    (sym (c.push_reserved.ensures.items ∙ ap (λ es. es ++ (c.len.result ∷ [])) c.in_ok-ends.ensures.items ∙ ap (λ n. n ∷ []) total)) (sym entries)
    (sym (c.push_reserved.ensures.capacity ∙ c.in_ok-ends.ensures.exact)) (sym (c.push_begun.ensures.capacity ∙ c.in_ok-entries.ensures.exact))
    (kept-begun states c.args.depth (subst (λ xs. length xs ≤ 256) (sym c.states-states.ensures.states) c.states-states.ensures.few) (omega (arith, c.ranges.depth.fits)))
