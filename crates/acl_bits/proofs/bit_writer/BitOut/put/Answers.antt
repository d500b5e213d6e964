-- The value is written over the zeros after the string.
use Rattle.std.proofs.Common.{List, Bool, ap, ◌∙◌, ◌++◌, arith, sym, length, length-append}
use Rattle.acl_bits.proofs.BitStrings.{length-bits_of}
use Rattle.acl_bits.specs.FilledBits.{bits_of}
use Rattle.acl_bits.proofs.Windows.{HoldBits-put, bits-put, LaysOver-window, length-held}
use Rattle.acl_bits.proofs.bit_writer.BitOut.put.Goals as goal

pub invariant_of-self : goal.invariant_of-self
invariant_of-self c =
    let long = ap (λ (bits : List Bool). length bits) (sym c.self.view_is) ∙ length-held c.self.inside.bytes c.self.inside.len c.self.invariant in
    HoldBits-put c.self.inside.bytes c.lay_over.new.bytes c.self.inside.len c.args.value c.args.n c.self.invariant
    (LaysOver-window c.self.inside.bytes c.lay_over.new.bytes c.self.inside.len c.args.value _ c.args.n c.requires.fits c.requires.width c.from.ensures
    c.lay_over.ensures)
    c.requires.width (omega (arith, long, c.requires.room))

pub returns-clause-bits : goal.returns-clause-bits
returns-clause-bits c =
    let long = ap (λ (bits : List Bool). length bits) (sym c.self.view_is) ∙ length-held c.self.inside.bytes c.self.inside.len c.self.invariant in
    bits-put c.self.inside.bytes c.lay_over.new.bytes c.self.inside.len c.args.value c.args.n c.self.invariant
    (LaysOver-window c.self.inside.bytes c.lay_over.new.bytes c.self.inside.len c.args.value _ c.args.n c.requires.fits c.requires.width c.from.ensures
    c.lay_over.ensures)
    c.requires.fits c.requires.width (omega (arith, long, c.requires.room))
    ∙ ap (λ (bits : List Bool). bits ++ bits_of c.args.n c.args.value) c.self.view_is

pub returns-clause-length : goal.returns-clause-length
returns-clause-length c =
    let long = length-append c.args.self.now (bits_of c.args.n c.args.value) in
    ap (λ (bits : List Bool). length bits) (returns-clause-bits c) ∙ omega (arith, long, length-bits_of c.args.n c.args.value)
