use Rattle.std.proofs.Common.{◌≡◌, ◌+◌, ◌-◌, ◌/◌, ◌++◌, List, ℕ, length, take, drop, replicate, vec_len, ap, sym, subst, ◌∙◌, rules, arith}
use Rattle.std.proofs.lemmas.List.{with_items_is}
use Rattle.acl_model.specs.Stream.{plain}
use Rattle.aes_block.specs.Aes.{AreBytes}
use Rattle.merkle_chunks.specs.HeaderBytes.{header_bytes}
use Rattle.merkle_chunks.specs.File.{cipher_stream, document_header}
use Rattle.skip_encode.specs.EncodedFile.{locked_stream}
use Rattle.skip_encode.proofs.Documents.{sections-small}
use Rattle.skip_encode.proofs.Files.{header-is, header-fits, table-short, length-stream, length-prefix, prefix-in, stream-in, cipher-is, file-made, root-made}
use Rattle.skip_encode.proofs.file.encode_file.Goals as goal

-- The numbers of the document are in the ranges of their types.
pub write-prefix-requires : goal.write-prefix-requires
write-prefix-requires c =
    header-fits c.args.doc.now c.args.key c.key_check.result c.in_ok-measured.measured c.requires c.in_ok-measured.ensures.measured c.key_check.ensures

-- The length of the file doesn't overflow.
pub overflow_add-end-2 : goal.overflow_add-end-2
overflow_add-end-2 c =
    omega (
      arith,
      sections-small c.args.doc.now c.in_ok-measured.measured c.in_ok-measured.ensures.measured,
      c.stream_len-stream.ensures,
      c.table_len.ensures,
      table-short (c.stream_len-stream.result / 256) (omega (arith, sections-small c.args.doc.now c.in_ok-measured.measured c.in_ok-measured.ensures.measured, c.stream_len-stream.ensures)),
    )

pub lock_file-top-requires-clause-few : goal.lock_file-top-requires-clause-few
lock_file-top-requires-clause-few c =
    omega (arith, sections-small c.args.doc.now c.in_ok-measured.measured c.in_ok-measured.ensures.measured, c.stream_len-stream.ensures)

-- The key has 16 bytes.
pub lock_file-top-requires-clause-key : goal.lock_file-top-requires-clause-key
lock_file-top-requires-clause-key c =
    let is_key : AreBytes 16 c.args.key = search rules in
    subst (AreBytes 16) (sym c.new.ensures) is_key

-- The bytes are the document's file, and the root is that file's.
pub returns-clause-file : goal.returns-clause-file
returns-clause-file c =
    let d = c.args.doc.now in
    let key = c.args.key in
    let is = c.in_ok-measured.ensures.measured in
    let measured = c.in_ok-measured.measured in
    let stream = c.stream_len-stream.result in
    let end = 64 + stream + c.table_len.result in
    let is_key : AreBytes 16 key = search rules in
    let prefix : c.write-prefix.result ≡ header_bytes (document_header d key) =
    c.write-prefix.ensures ∙ ap header_bytes (header-is d key c.key_check.result measured is c.key_check.ensures) in
    let written : c.write.new.bytes.items ≡ c.write-prefix.result ++ plain d =
    c.in_ok-write.ensures ∙ ap (λ l. l ++ plain d) (c.in_ok-extend_from_slice.ensures.items ∙ ap (λ l. l ++ c.write-prefix.result) c.in_ok-bytes.ensures.items) in
    let file : c.deref_mut.result.now ≡ take end (c.write-prefix.result ++ plain d) ++ replicate (end - vec_len c.write.new.bytes) 0 =
    c.deref_mut.ensures.value ∙ c.in_ok-resize.ensures.items ∙ ap (λ l. take end l ++ replicate (end - vec_len c.write.new.bytes) 0) written in
    let size = length-prefix d key c.write-prefix.result prefix in
    let wide = length-stream d key measured stream is c.stream_len-stream.ensures in
    let header_is : take 64 c.deref_mut.result.now ≡ header_bytes (document_header d key) =
    prefix-in c.write-prefix.result (plain d) c.deref_mut.result.now stream end (vec_len c.write.new.bytes) file size wide (omega arith) ∙ prefix in
    let cipher : List ℕ = locked_stream c.new.result (take stream (drop 64 c.deref_mut.result.now)) in
    let cipher_is : cipher ≡ cipher_stream d key =
    cipher-is d key is_key c.new.result (take stream (drop 64 c.deref_mut.result.now)) c.new.ensures
    (stream-in c.write-prefix.result (plain d) c.deref_mut.result.now stream end (vec_len c.write.new.bytes) file size wide (omega arith)) in
    let kept : length c.lock_file-top.new.file ≡ vec_len c.resize.new.self = search rules in
    record {
      defined = is.defined;
      bytes = c.from_vec.ensures ∙ with_items_is c.resize.new.self c.lock_file-top.new.file kept
          ∙ file-made d key is_key (take 64 c.deref_mut.result.now) cipher c.lock_file-top.new.file header_is cipher_is c.lock_file-top.ensures.file;
      root = root-made d key is_key c.write-prefix.result cipher c.lock_file-top.result c.root_of.result prefix cipher_is c.lock_file-top.ensures.top c.root_of.ensures;
    }
