-- A stream is enciphered fragment after fragment.
use Rattle.std.proofs.Common.{◌≡◌, ℕ, ◌+◌, ◌*◌, ◌/◌, ◌%◌, List, ◌++◌, length, take, drop, sym, ap, ◌∙◌, arith, append_assoc, append-nil}
use Rattle.std.proofs.lemmas.List.{take_at, drop_at, drop-drop, drop_all}
use borrow.Rule.Slice.PartMut.{put_mid}
use Rattle.aes_block.specs.Aes.{AreBytes}
use Rattle.position_cipher.specs.Fragments.{each_block, locked_block, locked_fragment}
use Rattle.merkle_chunks.proofs.CipherLemmas.{length-locked_block, length-each_block, each_block-split, each_block-prefix}
use Rattle.skip_encode.specs.EncodedFile.{locked_stream}

module _ (key : List ℕ) (is_key : AreBytes 16 key) where
  blocks : (number : ℕ) (block : List ℕ) → length (locked_block key number block) ≡ 16
  blocks number block = length-locked_block key block number is_key

  -- Enciphering keeps the length.
  pub length-locked_stream : (stream : List ℕ) → length stream % 256 ≡ 0 → length (locked_stream key stream) ≡ length stream
  length-locked_stream stream whole =
      length-each_block (locked_block key) blocks 0 (length stream / 16) stream ∙ omega arith

  -- After one more fragment is enciphered, the bytes after it are as before.
  pub locked-more : (old now piece : List ℕ) (i w : ℕ) → w ≡ 256
      → now ≡ each_block (locked_block key) 0 (16 * i) old ++ drop (256 * i) old
      → piece ≡ locked_fragment key i (take w (drop (256 * i) now))
      → put_mid (256 * i) w now piece ≡ each_block (locked_block key) 0 (16 * (i + 1)) old ++ drop (256 * (i + 1)) old
  locked-more old now piece i w wide before made =
      let f : ℕ → List ℕ → List ℕ = locked_block key in
      let a : ℕ = 256 * i in
      let prefix : List ℕ = each_block f 0 (16 * i) old in
      let rest : List ℕ = drop a old in
      let long : length prefix ≡ a = length-each_block f blocks 0 (16 * i) old ∙ omega arith in
      let done : take a now ≡ prefix = ap (take a) before ∙ take_at prefix rest a long in
      let left : drop a now ≡ rest = ap (drop a) before ∙ drop_at prefix rest a long in
      let piece_is : piece ≡ each_block f (16 * i) 16 rest =
      made
      ∙ (λ j. locked_fragment key i (take (wide j) (left j)))
      ∙ each_block-prefix f blocks (16 * i) 16 256 rest (omega arith) in
      let after : drop w (drop a now) ≡ drop (256 * (i + 1)) old =
      (λ j. drop (wide j) (left j))
      ∙ drop-drop 256 a old
      ∙ ap (λ (n : ℕ). drop n old) (omega arith) in
      let more : 16 * i + 16 ≡ 16 * (i + 1) = omega arith in
      let place : 16 * (16 * i) ≡ a = omega arith in
      let here : 0 + 16 * i ≡ 16 * i = omega arith in
      let next : prefix ++ each_block f (16 * i) 16 rest ≡ each_block f 0 (16 * (i + 1)) old =
      (λ j. prefix ++ each_block f (sym here j) 16 (drop (sym place j) old))
      ∙ sym (each_block-split f blocks 0 (16 * i) 16 old)
      ∙ ap (λ (n : ℕ). each_block f 0 n old) more in
      (λ j. done j ++ (piece_is j ++ after j))
      ∙ sym (append_assoc prefix (each_block f (16 * i) 16 rest) (drop (256 * (i + 1)) old))
      ∙ ap (λ (l : List ℕ). l ++ drop (256 * (i + 1)) old) next

-- After the last fragment, the whole stream is enciphered.
pub locked-all : (key old now : List ℕ) (i : ℕ) → i ≡ length old / 256 → length old % 256 ≡ 0
    → now ≡ each_block (locked_block key) 0 (16 * i) old ++ drop (256 * i) old → now ≡ locked_stream key old
locked-all key old now i end whole state =
    let blocks_all : 16 * i ≡ length old / 16 = omega arith in
    state
    ∙ ap (λ (l : List ℕ). each_block (locked_block key) 0 (16 * i) old ++ l) (drop_all (256 * i) old (omega arith))
    ∙ append-nil (each_block (locked_block key) 0 (16 * i) old)
    ∙ ap (λ (n : ℕ). each_block (locked_block key) 0 n old) blocks_all
