-- One more flag is set, and counted.
use Rattle.std.proofs.Common.{◌≡◌, Bool, true, false, List, ◌∷◌, length, get_or, ap, sym, ◌∙◌, subst, arith}
use Rattle.skip_decode.specs.inside.IndexSets.{AreFlagsOf, set_count}
use Rattle.skip_decode.proofs.FlagSets.{flags_of_more, flags_of_same, length-with_flag, set_count-room, set_count-with_flag}
use Rattle.skip_decode.proofs.index_set.IndexSet.insert.Goals as goal

pub overflow_add-self : goal.overflow_add-self
overflow_add-self c =
    let flags : List Bool = c.args.self.now.flags in
    let clear : get_or flags c.args.index false ≡ false = sym c.has.ensures ∙ c.if-not-has.true in
    omega (arith, c.args.self.now.counted, c.args.self.now.bound, set_count-room c.args.index flags c.requires clear)

pub invariant_of-self : goal.invariant_of-self
invariant_of-self c =
    let flags : List Bool = c.args.self.now.flags in
    let clear : get_or flags c.args.index false ≡ false = sym c.has.ensures ∙ c.if-not-has.true in
    let long = ap (λ (l : List Bool). length l) c.put.ensures ∙ length-with_flag c.args.index flags c.requires in
    let more = ap set_count c.put.ensures ∙ set_count-with_flag c.args.index flags c.requires clear in
    record {
      counted = omega (arith, c.args.self.now.counted, more);
      bound = omega (arith, c.args.self.now.bound, long);
    }

pub returns-then-not-has-clause-member : goal.returns-then-not-has-clause-member
returns-then-not-has-clause-member c = λ members are.
    let flags : List Bool = c.args.self.now.flags in
    let clear : get_or flags c.args.index false ≡ false = sym c.has.ensures ∙ c.if-not-has.true in
    subst (AreFlagsOf (c.args.index ∷ members)) (sym c.put.ensures)
    (flags_of_more c.args.index members flags c.requires clear are)

pub returns-else-not-has-clause-member : goal.returns-else-not-has-clause-member
returns-else-not-has-clause-member c = λ members are.
    let flags : List Bool = c.args.self.now.flags in
    let set : get_or flags c.args.index false ≡ true = sym c.has.ensures ∙ c.if-not-has.false in
    flags_of_same c.args.index members flags set are
