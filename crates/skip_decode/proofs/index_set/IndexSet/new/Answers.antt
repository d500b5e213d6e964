-- No flag is set at first.
use Rattle.std.proofs.Common.{◌≡◌, Bool, false, List, [], ◌++◌, length, ap, sym, ◌∙◌, subst, arith}
use Rattle.std.specs.Prelude.{replicate}
use Rattle.std.proofs.lemmas.List.{length-replicate}
use Rattle.skip_decode.specs.inside.IndexSets.{AreFlagsOf, set_count}
use Rattle.skip_decode.proofs.FlagSets.{flags_of_none, set_count-replicate}
use Rattle.skip_decode.proofs.index_set.IndexSet.new.Goals as goal

pub invariant_of-result : goal.invariant_of-result
invariant_of-result c =
    let grown : c.grow.new.self ≡ replicate c.args.bound false =
    c.in_ok-grow.ensures ∙ ap (λ l. l ++ replicate c.args.bound false) c.new-flags.ensures in
    let long = ap (λ (l : List Bool). length l) grown ∙ length-replicate c.args.bound false in
    record {
      counted = sym (ap set_count grown ∙ set_count-replicate c.args.bound);
      bound = omega (arith, c.ranges.bound.fits, long);
    }

pub returns-clause-empty : goal.returns-clause-empty
returns-clause-empty c =
    let grown : c.grow.new.self ≡ replicate c.args.bound false =
    c.in_ok-grow.ensures ∙ ap (λ l. l ++ replicate c.args.bound false) c.new-flags.ensures in
    subst (AreFlagsOf []) (sym grown) (flags_of_none c.args.bound)
