use Rattle.std.proofs.Common.{◌≡◌, ◌+◌, ◌-◌, ◌++◌, length, take, replicate, vec_len, ap, ◌∙◌, rules, arith}
use Rattle.skip_encode.proofs.Documents.{measured-fits, stream-written}
use Rattle.skip_encode.proofs.measured.Measured.write.Goals as goal

-- The root fits the virtual parent.
pub write_element-requires-clause-fits : goal.write_element-requires-clause-fits
write_element-requires-clause-fits c =
    measured-fits c.args.doc.now c.args.self c.full.result c.binary_length.result c.requires.measured c.full.ensures c.binary_length.ensures.digits

-- The dictionary section, the tree and zeros are appended.
pub returns : goal.returns
returns c =
    let written = c.write_element.new.bytes.items in
    let counted : vec_len c.write_element.new.bytes ≡ length written = search rules in
    let before : vec_len c.args.bytes.now ≡ length c.args.bytes.now.items = search rules in
    let end = c.len.result + c.stream_len.result in
    stream-written c.args.doc.now c.args.self c.full.result c.binary_length.result end c.args.bytes.now.items c.extend_from_slice.new.self.items written c.resize.new.self.items
    c.requires.measured c.full.ensures c.binary_length.ensures.digits
    (c.in_ok-extend_from_slice.ensures.items ∙ ap (λ l. c.args.bytes.now.items ++ l) c.as_slice.ensures)
    c.in_ok-write_element.ensures.written (omega (arith, before, c.stream_len.ensures))
    (c.in_ok-resize.ensures.items ∙ ap (λ n. take end written ++ replicate (end - n) 0) counted)
