-- A table is written level by level, and each level digest by digest.
use Rattle.std.proofs.Common.{◌≡◌, ◌≢◌, ℕ, suc, ◌+◌, ◌*◌, ◌/◌, ◌%◌, ◌<◌, ◌≤◌, List, [], ◌++◌, length, map, take, drop, get_or, sym, ap, ◌∙◌, arith}
use Rattle.std.specs.List.{concat}
use Rattle.std.proofs.lemmas.List.{length-map, get_or-map, take_all, nil_from_length}
use borrow.Rule.Slice.PartMut.{put_mid}
use Rattle.sha2.specs.Sha256.{sha256}
use Rattle.sha2.proofs.Facts256.{length-sha256}
use Rattle.merkle_chunks.specs.Strings.{leaf_string, leaf_strings, node_string, node_strings, absent_child}
use Rattle.merkle_chunks.specs.Table.{top_level, digest_count, fragments, table_bytes, strings_at, digests_at, table_levels, top_digest}
use Rattle.merkle_chunks.specs.inside.LevelBytes.{digests_in, parents, level_above, levels_above, levels_in, width}
use Rattle.merkle_chunks.proofs.CountLemmas.{top_level-few, top_level-many, digest_count-one, digest_count-many}
use Rattle.merkle_chunks.proofs.PieceLemmas.{length-first_chunks, get_or-first_chunks, width-concat, digests_in-concat, written_more}
use Rattle.merkle_chunks.proofs.TableLemmas.{length-leaf_strings, get_or-leaf_strings, length-parents, get_or-parents, table_levels-is, top_digest-is, sized-digests, sized-levels, length-digests_at}
use Rattle.merkle_chunks.proofs.LevelLemmas.{levels_in-table}

-- ---- one level

-- the digests of all fragments of a cipher
abbrev pub leaf_digests : List ℕ → List (List ℕ)
leaf_digests cipher = map sha256 (leaf_strings 0 (fragments cipher))

pub length-leaf_digests : (cipher : List ℕ) → length (leaf_digests cipher) ≡ length cipher / 256
length-leaf_digests cipher =
    length-map (leaf_strings 0 (fragments cipher)) sha256
    ∙ length-leaf_strings 0 (fragments cipher)
    ∙ length-first_chunks 256 (length cipher / 256) cipher

-- the digest of one more fragment is written
pub leaf_written : (cipher level piece : List ℕ) (chunks : List (List ℕ)) (k n : ℕ) → n ≡ 32 → chunks ≡ fragments cipher → k < length chunks
    → length level ≡ 32 * (length cipher / 256) → piece ≡ sha256 (leaf_string k (get_or chunks k []))
    → take (32 * k) level ≡ concat (take k (leaf_digests cipher))
    → take (32 * (k + 1)) (put_mid (32 * k) n level piece) ≡ concat (take (k + 1) (leaf_digests cipher))
leaf_written cipher level piece chunks k n wide same lt long made before =
    let within : k < length (fragments cipher) = omega (arith, ap length same) in
    let here : 0 + k ≡ k = omega arith in
    let found : sha256 (leaf_string k (get_or (fragments cipher) k [])) ≡ get_or (leaf_digests cipher) k [] =
    sym (get_or-map sha256 (leaf_strings 0 (fragments cipher)) k [] [] (omega (arith, length-leaf_strings 0 (fragments cipher)))
    ∙ ap sha256 (get_or-leaf_strings 0 k (fragments cipher) within)
    ∙ ap (λ (i : ℕ). sha256 (leaf_string i (get_or (fragments cipher) k []))) here) in
    let long_piece : length piece ≡ 32 = ap length made ∙ length-sha256 (leaf_string k (get_or chunks k [])) in
    written_more 32 k n (leaf_digests cipher) level piece wide
    (omega (arith, length-leaf_digests cipher, length-first_chunks 256 (length cipher / 256) cipher)) long_piece
    (omega (arith, length-first_chunks 256 (length cipher / 256) cipher))
    (made ∙ ap (λ (l : List (List ℕ)). sha256 (leaf_string k (get_or l k []))) same ∙ found) before

-- the digest of one more node is written
pub node_written : (below level piece : List ℕ) (digests : List (List ℕ)) (k n : ℕ) → n ≡ 32 → digests ≡ digests_in below → k < (length digests + 1) / 2
    → length level ≡ 32 * ((length below / 32 + 1) / 2)
    → piece ≡ sha256 (node_string (get_or digests (2 * k) []) (get_or digests (2 * k + 1) absent_child))
    → take (32 * k) level ≡ concat (take k (parents sha256 (digests_in below)))
    → take (32 * (k + 1)) (put_mid (32 * k) n level piece) ≡ concat (take (k + 1) (parents sha256 (digests_in below)))
node_written below level piece digests k n wide same lt long made before =
    let many : length digests ≡ length below / 32 = ap length same ∙ length-first_chunks 32 (length below / 32) below in
    let within : 2 * k < length (digests_in below) = omega (arith, ap length same) in
    let long_piece : length piece ≡ 32 = ap length made ∙ length-sha256 (node_string (get_or digests (2 * k) []) (get_or digests (2 * k + 1) absent_child)) in
    written_more 32 k n (parents sha256 (digests_in below)) level piece wide
    (omega (arith, length-parents sha256 (digests_in below), ap length same)) long_piece
    (omega (arith, many))
    (made ∙ ap (λ (l : List (List ℕ)). sha256 (node_string (get_or l (2 * k) []) (get_or l (2 * k + 1) absent_child))) same ∙ sym (get_or-parents sha256 (digests_in below) k within)) before

-- all digests are written
pub all_written : (pieces : List (List ℕ)) (level : List ℕ) (k : ℕ) → length level ≡ 32 * length pieces → length pieces ≤ k
    → take (32 * k) level ≡ concat (take k pieces) → level ≡ concat pieces
all_written pieces level k long all before =
    sym (take_all (32 * k) level (omega arith)) ∙ before ∙ ap concat (take_all k pieces all)

-- ---- all levels

module _ (level : List ℕ) (whole : length level % 32 ≡ 0) where
  -- ---- a single digest is the top, and nothing is above it

  module _ (one : length level ≡ 32) where
    single : width level ≡ 1
    single = omega arith

    no_levels : top_level (width level) ≡ 0
    no_levels = ap top_level single ∙ top_level-few 1 (omega arith)

    pub none_above : (above : List ℕ) → length above + length level ≡ 32 * digest_count (width level)
        → above ≡ table_bytes (levels_above sha256 (top_level (width level)) (digests_in level))
    unfolding levels_above
    none_above above room =
        let empty : above ≡ [] = nil_from_length above (omega (arith, ap digest_count single, digest_count-one)) in
        empty ∙ ap (λ (m : ℕ). table_bytes (levels_above sha256 m (digests_in level))) (sym no_levels)

    pub single_is_top : level ≡ get_or (level_above sha256 (top_level (width level)) (digests_in level)) 0 []
    unfolding level_above
    single_is_top =
        sym (take_all 32 level (omega arith))
        ∙ sym (get_or-first_chunks 32 (width level) 0 level (omega (arith, single)))
        ∙ ap (λ (m : ℕ). get_or (level_above sha256 m (digests_in level)) 0 []) (sym no_levels)

  -- ---- more digests have a level above them, and what is above that

  module _ (some : 32 ≤ length level) (many : length level ≢ 32) where
    pub room_above : (above : List ℕ) → length above + length level ≡ 32 * digest_count (width level) → length above ≡ 32 * digest_count ((width level + 1) / 2)
    room_above above room = omega (arith, digest_count-many (width level) (omega arith))

    module _ (next : List ℕ) (is : next ≡ concat (parents sha256 (digests_in level))) where
      next_digests : digests_in next ≡ parents sha256 (digests_in level)
      next_digests = ap digests_in is ∙ digests_in-concat (parents sha256 (digests_in level)) (sized-digests sha256 length-sha256 (node_strings (digests_in level)))

      next_width : width next ≡ (width level + 1) / 2
      next_width =
          ap width is
          ∙ width-concat (parents sha256 (digests_in level)) (sized-digests sha256 length-sha256 (node_strings (digests_in level)))
          ∙ length-parents sha256 (digests_in level)
          ∙ ap (λ (k : ℕ). (k + 1) / 2) (length-first_chunks 32 (width level) level)

      levels_next : top_level (width level) ≡ suc (top_level (width next))
      levels_next = top_level-many (width level) (omega arith) ∙ ap (λ (k : ℕ). suc (top_level k)) (sym next_width)

      pub more_above : (rest : List ℕ) → rest ≡ table_bytes (levels_above sha256 (top_level (width next)) (digests_in next))
          → next ++ rest ≡ table_bytes (levels_above sha256 (top_level (width level)) (digests_in level))
      unfolding levels_above
      more_above rest same =
          (λ i. is i ++ (same ∙ ap (λ (digests : List (List ℕ)). table_bytes (levels_above sha256 (top_level (width next)) digests)) next_digests) i)
          ∙ ap (λ (m : ℕ). table_bytes (levels_above sha256 m (digests_in level))) (sym levels_next)

      pub same_top : (top : List ℕ) → top ≡ get_or (level_above sha256 (top_level (width next)) (digests_in next)) 0 []
          → top ≡ get_or (level_above sha256 (top_level (width level)) (digests_in level)) 0 []
      unfolding level_above
      same_top top found =
          found
          ∙ ap (λ (digests : List (List ℕ)). get_or (level_above sha256 (top_level (width next)) digests) 0 []) next_digests
          ∙ ap (λ (m : ℕ). get_or (level_above sha256 m (digests_in level)) 0 []) (sym levels_next)

-- ---- the table of a cipher

module _ (cipher leaves : List ℕ) (is : leaves ≡ concat (leaf_digests cipher)) where
  leaves_in : digests_in leaves ≡ leaf_digests cipher
  leaves_in = ap digests_in is ∙ digests_in-concat (leaf_digests cipher) (sized-digests sha256 length-sha256 (leaf_strings 0 (fragments cipher)))

  pub leaves_width : width leaves ≡ length (fragments cipher)
  leaves_width =
      ap width is
      ∙ width-concat (leaf_digests cipher) (sized-digests sha256 length-sha256 (leaf_strings 0 (fragments cipher)))
      ∙ length-leaf_digests cipher
      ∙ sym (length-first_chunks 256 (length cipher / 256) cipher)

  pub whole_table : (above : List ℕ) → above ≡ table_bytes (levels_above sha256 (top_level (width leaves)) (digests_in leaves))
      → leaves ++ above ≡ table_bytes (table_levels sha256 (fragments cipher))
  unfolding strings_at
  whole_table above same =
      (λ i. is i ++ (same ∙ (λ j. table_bytes (levels_above sha256 (top_level (leaves_width j)) (leaves_in j)))) i)
      ∙ ap table_bytes (sym (table_levels-is sha256 (fragments cipher)))

  pub table_top : (top : List ℕ) → top ≡ get_or (level_above sha256 (top_level (width leaves)) (digests_in leaves)) 0 []
      → top ≡ top_digest sha256 (fragments cipher)
  unfolding strings_at
  table_top top found =
      found
      ∙ (λ j. get_or (level_above sha256 (top_level (leaves_width j)) (leaves_in j)) 0 [])
      ∙ sym (top_digest-is sha256 (fragments cipher))

-- the bytes of a table are cut into its levels
pub table_cut : (hash : List ℕ → List ℕ) (chunks : List (List ℕ)) → ((string : List ℕ) → length (hash string) ≡ 32)
    → levels_in (length chunks) (table_bytes (table_levels hash chunks)) ≡ table_levels hash chunks
unfolding table_levels
table_cut hash chunks wide =
    levels_in-table (length chunks) (digests_at hash chunks) (length-digests_at hash chunks) (sized-levels hash wide chunks 0 (top_level (length chunks) + 1))

-- and so is that of a cipher
pub built : (cipher bytes : List ℕ) → bytes ≡ table_bytes (table_levels sha256 (fragments cipher)) → levels_in (length cipher / 256) bytes ≡ table_levels sha256 (fragments cipher)
built cipher bytes is =
    ap (levels_in (length cipher / 256)) is
    ∙ ap (λ (n : ℕ). levels_in n (table_bytes (table_levels sha256 (fragments cipher)))) (sym (length-first_chunks 256 (length cipher / 256) cipher))
    ∙ table_cut sha256 (fragments cipher) length-sha256

-- a part of 32 bytes
pub part_is : (a b n : ℕ) (bytes other : List ℕ) → n ≡ 32 → a ≡ b → other ≡ bytes → take n (drop a other) ≡ take 32 (drop b bytes)
part_is a b n bytes other wide here same = λ i. take (wide i) (drop (here i) (same i))
