-- The number is some bits of the window, and the bits after them are left.
use Rattle.std.proofs.Common.{ℕ, List, Bool, ap, ◌∙◌, arith, sym, length, take, drop, refl, ◌+◌, ◌%◌, ◌/◌}
use Rattle.std.proofs.lemmas.Bool.{false≢true}
use Rattle.acl_bits.specs.FilledBits.{number_of, bits_of_bytes}
use Rattle.acl_bits.proofs.Windows.{number-taken, bits-cut, length-left, take-all_left}
use Rattle.acl_bits.proofs.bit_reader.BitIn.take.Goals as goal

pub returns-then-min-end-clause-short : goal.returns-then-min-end-clause-short
returns-then-min-end-clause-short c =
    let left = ap (λ (bits : List Bool). length bits) (sym c.self.view_is) ∙ length-left c.self.inside.rest.now c.self.inside.used in
    let near = c.min.ensures in
    let few = c.if-min-end.true in
    (λ _. omega (arith, left, near, few, c.self.invariant.0, c.self.invariant.1), λ _. refl)

pub returns-clause-short : goal.returns-clause-short
returns-clause-short c =
    let left = ap (λ (bits : List Bool). length bits) (sym c.self.view_is) ∙ length-left c.self.inside.rest.now c.self.inside.used in
    let near = c.min.ensures in
    let enough = c.if-min-end.false in
    (λ e. absurd (false≢true e), λ less. absurd (omega (arith, left, near, enough)))

pub returns-clause-value : goal.returns-clause-value
returns-clause-value c =
    number-taken c.self.inside.rest.now c.window_of.result c.self.inside.used c.args.n c.window_of.ensures c.self.invariant.0 c.requires
    (omega (arith, c.min.ensures, c.if-min-end.false)) ∙ ap (λ (bits : List Bool). number_of (take c.args.n bits)) c.self.view_is

pub returns-clause-rest : goal.returns-clause-rest
returns-clause-rest c =
    ap (λ (bytes : List ℕ). drop ((c.self.inside.used + c.args.n) % 8) (bits_of_bytes bytes)) (take-all_left c.self.inside.rest.now ((c.self.inside.used + c.args.n) / 8))
    ∙ bits-cut c.self.inside.rest.now c.self.inside.used c.args.n ∙ ap (λ (bits : List Bool). drop c.args.n bits) c.self.view_is
