use Rattle.std.proofs.Common.{◌≡◌, ◌+◌, ◌++◌, vec_len, length, length-append, refl, arith, rules, ap}
use Rattle.std.proofs.lemmas.List.{length-map}
use Rattle.acl_outside.specs.Fakes.{bytes_of}
use Rattle.acl_outside.specs.Noted.{reads_of, read_of}
use Rattle.acl_outside.proofs.Noting.{reads_of-more, AreWithin-more, bytes_of-noted}
use Rattle.acl_outside.proofs.recorder.Recorder.note.Goals as goal

pub invariant_of-self : goal.invariant_of-self
invariant_of-self g c =
    let notes = c.self.inside.notes.items in
    let bytes = c.self.inside.bytes.items in
    let more = c.args.bytes.now in
    let put = rw c.unwrap.ensures at c.extend_from_slice.ensures.items in
    let put_len = rw c.unwrap.ensures at c.extend_from_slice.ensures.len in
    let noted = rw c.unwrap-2.ensures at c.push.ensures.items in
    let noted_len = rw c.unwrap-2.ensures at c.push.ensures.len in
    let room = rw (← c.self.view_is) at c.requires.room in
    let read_count : length (reads_of notes bytes) ≡ length notes = length-map notes (read_of bytes) in
    let byte_count : length (bytes_of (reads_of notes bytes)) ≡ length bytes = ap length c.self.invariant.5 in
    let start : c.len-from.result ≡ length bytes = search rules in
    let note_len : vec_len c.self.inside.notes ≡ length notes = search rules in
    let longer : length (bytes ++ more) ≡ length bytes + length more = length-append bytes more in (
      omega arith,
      omega arith,
      omega arith,
      omega arith,
      rw (put, noted) (AreWithin-more notes _ (length bytes) _ c.self.invariant.4 (omega arith) (omega arith)),
      rw (put, noted) (bytes_of-noted notes bytes more _ c.self.invariant.4 c.self.invariant.5 start refl),
    )

pub returns-clause-noted : goal.returns-clause-noted
returns-clause-noted g c =
    let put = rw c.unwrap.ensures at c.extend_from_slice.ensures.items in
    let noted = rw c.unwrap-2.ensures at c.push.ensures.items in
    rw (put, noted, ← c.self.view_is)
    (reads_of-more c.self.inside.notes.items c.self.inside.bytes.items c.args.bytes.now _ c.self.invariant.4 (search rules) refl)
