-- The numbers at the offsets of a header's fields are those of the header.
use Rattle.std.proofs.Common.{◌≡◌, ℕ, List, [], ◌∷◌, ◌++◌, take, drop, get_or, replicate, ap, sym, subst, ◌∙◌, refl, arith}
use Rattle.std.specs.Int.{w16, w32, w64, from_be_bytes}
use Rattle.std.proofs.Math.Seq.{take-append_seam}
use Rattle.std.proofs.lemmas.Nat.{from_be_bytes-to_be_bytes_2, from_be_bytes-to_be_bytes_4, from_be_bytes-to_be_bytes_8}
use Rattle.merkle_chunks.specs.HeaderBytes.{IsInRange, header_bytes}
use Rattle.merkle_chunks.specs.declared.header.Header.{Header}

-- the numbers at the offsets of a header's fields
abbrev pub tree_in : List ℕ → ℕ
tree_in bytes = from_be_bytes w64 (get_or bytes 8 0 ∷ get_or bytes 9 0 ∷ get_or bytes 10 0 ∷ get_or bytes 11 0 ∷ get_or bytes 12 0 ∷ get_or bytes 13 0 ∷ get_or bytes 14 0 ∷ get_or bytes 15 0 ∷ [])

abbrev pub dictionary_in : List ℕ → ℕ
dictionary_in bytes = from_be_bytes w32 (get_or bytes 16 0 ∷ get_or bytes 17 0 ∷ get_or bytes 18 0 ∷ get_or bytes 19 0 ∷ [])

abbrev pub tags_in : List ℕ → ℕ
tags_in bytes = from_be_bytes w16 (get_or bytes 20 0 ∷ get_or bytes 21 0 ∷ [])

abbrev pub depth_in : List ℕ → ℕ
depth_in bytes = from_be_bytes w16 (get_or bytes 22 0 ∷ get_or bytes 23 0 ∷ [])

abbrev pub check_in : List ℕ → List ℕ
check_in bytes = take 16 (drop 24 bytes)

-- in the bytes of a header they are those of the header
pub tree_in-header : (h : Header) (bytes : List ℕ) → IsInRange h → header_bytes h ≡ bytes → tree_in bytes ≡ h.tree
tree_in-header h bytes range same = ap tree_in (sym same) ∙ from_be_bytes-to_be_bytes_8 h.tree (omega (arith, range.together))

pub dictionary_in-header : (h : Header) (bytes : List ℕ) → IsInRange h → header_bytes h ≡ bytes → dictionary_in bytes ≡ h.dictionary
dictionary_in-header h bytes range same = ap dictionary_in (sym same) ∙ from_be_bytes-to_be_bytes_4 h.dictionary (omega (arith, range.together))

pub tags_in-header : (h : Header) (bytes : List ℕ) → IsInRange h → header_bytes h ≡ bytes → tags_in bytes ≡ h.tags
tags_in-header h bytes range same = ap tags_in (sym same) ∙ from_be_bytes-to_be_bytes_2 h.tags (omega (arith, range.few_tags))

pub depth_in-header : (h : Header) (bytes : List ℕ) → IsInRange h → header_bytes h ≡ bytes → depth_in bytes ≡ h.depth
depth_in-header h bytes range same = ap depth_in (sym same) ∙ from_be_bytes-to_be_bytes_2 h.depth (omega (arith, range.low_depth))

pub check_in-header : (h : Header) (bytes : List ℕ) → IsInRange h → header_bytes h ≡ bytes → check_in bytes ≡ h.check
check_in-header h bytes range same =
    ap check_in (sym same) ∙ subst (λ n. take n (h.check ++ replicate 24 0) ≡ h.check) range.check (take-append_seam h.check (replicate 24 0))

-- headers of the same numbers are the same
pub same_header : (h : Header) (tree dictionary tags depth : ℕ) (check : List ℕ) → tree ≡ h.tree → dictionary ≡ h.dictionary → tags ≡ h.tags → depth ≡ h.depth → check ≡ h.check
    → ◌≡◌ {A = Header} (record { tree = tree; dictionary = dictionary; tags = tags; depth = depth; check = check }) h
same_header h tree dictionary tags depth check a b c d e = λ i. record { tree = a i; dictionary = b i; tags = c i; depth = d i; check = e i }

-- headers of the same bytes are the same
pub one_header : (one other : Header) → IsInRange one → IsInRange other → header_bytes one ≡ header_bytes other → one ≡ other
one_header one other range good same = same_header other one.tree one.dictionary one.tags one.depth one.check
    (sym (tree_in-header one (header_bytes one) range refl) ∙ tree_in-header other (header_bytes one) good (sym same))
    (sym (dictionary_in-header one (header_bytes one) range refl) ∙ dictionary_in-header other (header_bytes one) good (sym same))
    (sym (tags_in-header one (header_bytes one) range refl) ∙ tags_in-header other (header_bytes one) good (sym same))
    (sym (depth_in-header one (header_bytes one) range refl) ∙ depth_in-header other (header_bytes one) good (sym same))
    (sym (check_in-header one (header_bytes one) range refl) ∙ check_in-header other (header_bytes one) good (sym same))
