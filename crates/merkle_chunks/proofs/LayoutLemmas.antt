-- The offsets of the parts of a file.
use Rattle.std.proofs.Common.{◌≡◌, ℕ, suc, ◌+◌, ◌*◌, ◌<◌, List, [], ◌++◌, length, take, drop, get_or, sym, ap, ◌∙◌, arith, length-append, length-drop}
use Rattle.std.specs.Prelude.{Some}
use Rattle.std.specs.List.{concat, slice_get}
use Rattle.std.specs.Option.{option_and_then}
use Rattle.std.proofs.Math.Seq.{drop-append-add}
use Rattle.std.proofs.lemmas.List.{take_at, take-append-le, drop-append-le}
use Rattle.merkle_chunks.specs.Table.{count_below, top_level, digest_count, IsNode, node_place, table_bytes, node_of, digests_at, table_levels, file_bytes}
use Rattle.merkle_chunks.proofs.PieceLemmas.{AreSized, length-concat, piece_at}
use Rattle.merkle_chunks.proofs.TableLemmas.{length-digests_at, sized-levels}
use Rattle.merkle_chunks.proofs.LevelLemmas.{slice_get-map-range, slice_get-is, digests_below, length-digests_below, digest_at, table_bytes-each_level, count_below-le}

module _ (hash : List ℕ → List ℕ) (wide : (string : List ℕ) → length (hash string) ≡ 32) (header : List ℕ) (fragments : List (List ℕ)) (long : length header ≡ 64) (sized : AreSized 256 fragments) where
  n : ℕ
  n = length fragments

  -- all digests of the table
  all : List (List ℕ)
  all = digests_below (digests_at hash fragments) (top_level n + 1)

  table_is : table_bytes (table_levels hash fragments) ≡ concat all
  unfolding table_levels all n
  table_is = table_bytes-each_level (length fragments) (digests_at hash fragments)

  sized_all : AreSized 32 all
  unfolding all n
  sized_all = sized-levels hash wide fragments 0 (top_level (length fragments) + 1)

  count_all : length all ≡ digest_count n
  unfolding all n
  count_all =
      let one : top_level (length fragments) + 1 ≡ suc (top_level (length fragments)) = omega arith in
      length-digests_below (length fragments) (digests_at hash fragments) (length-digests_at hash fragments) (top_level (length fragments) + 1)
      ∙ ap (count_below (length fragments)) one

  -- the file without its header
  body : List ℕ
  body = concat fragments ++ table_bytes (table_levels hash fragments)

  -- what follows the header
  after_header : (m : ℕ) → drop (64 + m) (file_bytes hash header fragments) ≡ drop m body
  unfolding file_bytes body
  after_header m =
      ap (λ (k : ℕ). drop (k + m) (header ++ (concat fragments ++ table_bytes (table_levels hash fragments)))) (sym long)
      ∙ drop-append-add header (concat fragments ++ table_bytes (table_levels hash fragments)) m

  -- what follows the fragments
  after_fragments : (m : ℕ) → drop (256 * n + m) body ≡ drop m (concat all)
  unfolding body n
  after_fragments m =
      ap (λ (k : ℕ). drop (k + m) (concat fragments ++ table_bytes (table_levels hash fragments))) (sym (length-concat 256 fragments sized))
      ∙ drop-append-add (concat fragments) (table_bytes (table_levels hash fragments)) m
      ∙ ap (drop m) table_is

  pub header_in_file : take 64 (file_bytes hash header fragments) ≡ header
  unfolding file_bytes
  header_in_file = take_at header (concat fragments ++ table_bytes (table_levels hash fragments)) 64 long

  pub length-file_bytes : length (file_bytes hash header fragments) ≡ 64 + 256 * length fragments + 32 * digest_count (length fragments)
  unfolding file_bytes n
  length-file_bytes =
      length-append header (concat fragments ++ table_bytes (table_levels hash fragments))
      ∙ omega (
        arith,
        long,
        length-append (concat fragments) (table_bytes (table_levels hash fragments)),
        length-concat 256 fragments sized,
        ap length table_is,
        length-concat 32 all sized_all,
        count_all,
      )

  pub fragment_in_file : (i : ℕ) → i < length fragments → take 256 (drop (64 + 256 * i) (file_bytes hash header fragments)) ≡ get_or fragments i []
  unfolding body
  fragment_in_file i lt =
      ap (take 256) (after_header (256 * i) ∙ drop-append-le (256 * i) (concat fragments) (table_bytes (table_levels hash fragments)) (omega (arith, length-concat 256 fragments sized)))
      ∙ take-append-le 256 (drop (256 * i) (concat fragments)) (table_bytes (table_levels hash fragments))
      (omega (arith, length-drop (256 * i) (concat fragments), length-concat 256 fragments sized))
      ∙ piece_at 256 i fragments sized lt

  -- the digest at the offset of a node
  pub digest_in_file : (l k : ℕ) → IsNode (length fragments) l k
      → take 32 (drop (node_place (length fragments) l k) (file_bytes hash header fragments)) ≡ get_or (digests_at hash fragments l) k []
  unfolding n all
  digest_in_file l k node =
      let place : node_place (length fragments) l k ≡ 64 + (256 * length fragments + 32 * (count_below (length fragments) l + k)) = omega arith in
      let low : l < top_level (length fragments) + 1 = omega (arith, node.on_level) in
      let within : count_below (length fragments) l + k < length all =
      omega (arith, count_all, node.within, count_below-le (length fragments) (suc l) (suc (top_level (length fragments))) (omega arith)) in
      ap (λ (m : ℕ). take 32 (drop m (file_bytes hash header fragments))) place
      ∙ ap (take 32) (after_header (256 * length fragments + 32 * (count_below (length fragments) l + k)) ∙ after_fragments (32 * (count_below (length fragments) l + k)))
      ∙ piece_at 32 (count_below (length fragments) l + k) all sized_all within
      ∙ digest_at (length fragments) (digests_at hash fragments) (length-digests_at hash fragments) l (top_level (length fragments) + 1) k low node.within

  -- the digest of a node in the table
  pub digest_in_table : (l k : ℕ) → IsNode (length fragments) l k → node_of (table_levels hash fragments) l k ≡ Some (get_or (digests_at hash fragments l) k [])
  unfolding table_levels
  digest_in_table l k node =
      let there : 0 + l ≡ l = omega arith in
      ap (option_and_then (λ digests. slice_get digests k))
      (slice_get-map-range (digests_at hash fragments) 0 (top_level (length fragments) + 1) l (omega (arith, node.on_level)) ∙ ap (λ (m : ℕ). Some (digests_at hash fragments m)) there)
      ∙ slice_get-is (digests_at hash fragments l) k [] (omega (arith, length-digests_at hash fragments l, node.within))

  pub node_in_file : (l k : ℕ) → IsNode (length fragments) l k
      → node_of (table_levels hash fragments) l k ≡ Some (take 32 (drop (node_place (length fragments) l k) (file_bytes hash header fragments)))
  node_in_file l k node = digest_in_table l k node ∙ ap (λ (digest : List ℕ). Some digest) (sym (digest_in_file l k node))
