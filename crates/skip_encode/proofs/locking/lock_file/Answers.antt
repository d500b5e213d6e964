use Rattle.std.proofs.Common.{◌≡◌, ◌+◌, ◌++◌, take, drop, ap, ◌∙◌, append_assoc, arith}
use Rattle.std.proofs.lemmas.List.{take-take, drop-take}
use Rattle.sha2.specs.Sha256.{sha256}
use Rattle.merkle_chunks.specs.Table.{fragments, table_bytes, table_levels, top_digest}
use Rattle.skip_encode.specs.EncodedFile.{locked_stream}
use Rattle.skip_encode.proofs.locking.lock_file.Goals as goal

-- The header is unchanged, the stream after it is enciphered, and the table follows.
pub returns-clause-file : goal.returns-clause-file
returns-clause-file c =
    let file = c.args.file.now in
    let cipher = locked_stream c.args.key.now (take c.args.stream_len (drop 64 file)) in
    let locked : c.lock_fragments.new.stream ≡ cipher =
    c.lock_fragments.ensures
    ∙ ap (locked_stream c.args.key.now) (c.split_at_mut-stream.ensures.back ∙ ap (drop 64) c.split_at_mut-prefix.ensures.front ∙ drop-take 64 c.args.stream_len file) in
    let header : c.split_at_mut-stream.result.0.now ≡ take 64 file =
    c.split_at_mut-stream.ensures.front ∙ ap (take 64) c.split_at_mut-prefix.ensures.front ∙ take-take 64 (64 + c.args.stream_len) file (omega arith) in
    let table : c.write_table.new.table ≡ table_bytes (table_levels sha256 (fragments cipher)) =
    c.write_table.ensures.table ∙ ap (λ l. table_bytes (table_levels sha256 (fragments l))) locked in
    (λ i. (header i ++ locked i) ++ table i)
    ∙ append_assoc (take 64 file) cipher (table_bytes (table_levels sha256 (fragments cipher)))

-- The top digest is that of the enciphered stream.
pub returns-clause-top : goal.returns-clause-top
returns-clause-top c =
    c.write_table.ensures.top
    ∙ ap (λ l. top_digest sha256 (fragments l))
    (c.lock_fragments.ensures
    ∙ ap (locked_stream c.args.key.now) (c.split_at_mut-stream.ensures.back ∙ ap (drop 64) c.split_at_mut-prefix.ensures.front ∙ drop-take 64 c.args.stream_len c.args.file.now))
