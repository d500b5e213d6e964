-- Words that are zero are appended.
use Rattle.std.proofs.Common.{◌≡◌, ℕ, ◌+◌, ◌^◌, ◌<◌, Option, Some, None, arith}
use Rattle.std.specs.Option.{SomeIff}
use Rattle.acl_bits.proofs.FlagLists.{HoldFlags-grown, flags_of-grown}
use Rattle.acl_bits.proofs.flags.Flags.grow.Goals as goal

-- the result of a checked addition
given_sum : (o : Option ℕ) (P : Type 0) (v x : ℕ) → SomeIff o P v → o ≡ Some x → x ≡ v
given_sum None P v x h e = cc
given_sum (Some y) P v x h e = let same : y ≡ v = h.1 in cc

pub invariant_of-self-2 : goal.invariant_of-self-2
invariant_of-self-2 c =
    let got : c.checked_add.result ≡ Some c.in_ok-len.len = grind arith in
    let sum = given_sum c.checked_add.result (c.self.inside.len + c.args.count < 2 ^ 64) (c.self.inside.len + c.args.count)
    c.in_ok-len.len c.checked_add.ensures got in
    HoldFlags-grown c.self.inside.words.items c.resize.new.self.items c.self.inside.len c.in_ok-len.len c.div_ceil.result
    c.self.inside.words.len c.self.invariant (omega arith) (omega (arith, sum)) (omega arith) c.in_ok-resize.ensures.items

pub returns : goal.returns
returns c =
    let got : c.checked_add.result ≡ Some c.in_ok-len.len = grind arith in
    let sum = given_sum c.checked_add.result (c.self.inside.len + c.args.count < 2 ^ 64) (c.self.inside.len + c.args.count)
    c.in_ok-len.len c.checked_add.ensures got in
    flags_of-grown c.self.inside.words.items c.resize.new.self.items c.self.inside.len c.in_ok-len.len c.div_ceil.result
    c.self.inside.words.len c.args.count c.args.self.now c.self.view_is c.self.invariant (omega arith) sum (omega arith)
    c.in_ok-resize.ensures.items
