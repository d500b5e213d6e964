use Rattle.std.proofs.Common.{◌-◌, ◌++◌, length, ap, ◌∙◌, arith}
use Rattle.acl_bits.specs.FilledBits.{bits_of}
use Rattle.acl_model.specs.Width.{binary_length}
use Rattle.skip_encode.proofs.Widths.{binary_length-few}
use Rattle.skip_encode.proofs.Members.{length-whole}
use Rattle.skip_encode.proofs.HeadBits.{head_bits-put, head_bytes-put}
use Rattle.skip_encode.proofs.heads.write_head.Goals as goal

-- An index among at most 256 members takes at most 8 bits.
pub put_set-requires-clause-room : goal.put_set-requires-clause-room
put_set-requires-clause-room c =
    let few = length-whole c.args.parent.now.members c.count.ensures.whole in
    let digits = binary_length-few c.saturating_sub.result 8 (omega arith) (omega (arith, c.count.ensures.number, c.from-members.ensures, c.saturating_sub.ensures)) in
    omega (arith, ap length c.new-bits.ensures, c.put.ensures.length, c.put-2.ensures.length, c.binary_length.ensures.digits)

-- The set takes at most 257 bits.
pub put-requires-3-clause-room : goal.put-requires-3-clause-room
put-requires-3-clause-room c =
    let few = length-whole c.args.parent.now.members c.count.ensures.whole in
    let digits = binary_length-few c.saturating_sub.result 8 (omega arith) (omega (arith, c.count.ensures.number, c.from-members.ensures, c.saturating_sub.ensures)) in
    omega (arith, ap length c.new-bits.ensures, c.put.ensures.length, c.put-2.ensures.length, c.binary_length.ensures.digits, c.put_set.ensures.length)

-- The bytes written are those of the head.
pub returns : goal.returns
returns c =
    head_bytes-put c.args.bytes.now.items c.extend_from_slice.new.self.items c.bytes.result.now c.put-3.new.self _
    c.in_ok-extend_from_slice.ensures.items c.bytes.ensures
    (head_bits-put c.put.new.self c.put-2.new.self c.put_set.new.bits c.put-3.new.self
    c.args.parent.now.members c.args.element.now.below c.args.parent.now.width c.args.element.now.tag c.args.element.now.long c.binary_length.result c.from-number.result
    (c.put.ensures.bits ∙ ap (λ l. l ++ bits_of 1 1) c.new-bits.ensures) c.put-2.ensures.bits c.put_set.ensures.bits c.put-3.ensures.bits
    (c.binary_length.ensures.digits ∙ ap binary_length (c.saturating_sub.ensures ∙ ap (λ n. n - 1) (c.from-members.ensures ∙ c.count.ensures.number)))
    (c.from-number.ensures ∙ c.rank.ensures))
