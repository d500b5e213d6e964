-- All bits after the string are zero, so its bytes are the first of the forty.
use Rattle.std.proofs.Common.{ap, ◌∙◌, sym, List, Bool, take}
use Rattle.acl_bits.specs.FilledBits.{bytes_of}
use Rattle.acl_bits.proofs.BitStrings.{bytes_of-held}
use Rattle.acl_bits.proofs.Windows.{div_ceil-eighths}
use Rattle.acl_bits.proofs.bit_writer.BitOut.bytes.Goals as goal

pub returns : goal.returns
returns c =
    ap (λ k. take k c.self.inside.bytes) (c.div_ceil.ensures ∙ div_ceil-eighths c.self.inside.len)
    ∙ sym (bytes_of-held c.self.inside.bytes c.self.inside.len c.self.invariant) ∙ ap (λ (bits : List Bool). bytes_of bits) c.self.view_is
