-- The header served is the one with the bytes served, exactly where a header has these bytes.
use Rattle.std.proofs.Common.{◌≡◌, ℕ, ◌+◌, ◌*◌, Bool, true, false, ◌&&◌, List, length, refl, sym, ap, ◌∙◌, subst, true≢false}
use Rattle.std.specs.Prelude.{bytes_eq, if◌then◌else◌, Option, Some, None, is_some, option_and_then}
use Rattle.std.specs.List.{slice_get}
use Rattle.std.proofs.lemmas.Bool.{eqb-true, eq-eqb, leb-true, le-leb}
use Rattle.std.proofs.lemmas.Slice.Eq.{bytes_eq-Decides}
use Rattle.acl_model.specs.Limits.{most_names, most_open_elements, most_stream_bytes}
use Rattle.merkle_chunks.specs.HeaderBytes.{IsInRange, header_bytes}
use Rattle.merkle_chunks.specs.declared.header.Header.{Header}
use Rattle.merkle_chunks.proofs.Places.{same_header, tree_in-header, dictionary_in-header, tags_in-header, depth_in-header, check_in-header}
use Rattle.acl_outside.specs.Outside.{StoreRead}
use Rattle.fragment_open.specs.Served.{header_at, header_in, header_served, is_in_range, whole}
use Rattle.fragment_open.proofs.ClashLemmas.{both_true, and_true}
use Rattle.fragment_open.proofs.TreeLemmas.{if_true}
use Rattle.fragment_open.proofs.PathLemmas.{chained, same_value}

range_tested : (h : Header) → IsInRange h → is_in_range h ≡ true
range_tested h r =
    and_true _ _ (le-leb 1 h.tree r.tree) (and_true _ _ (le-leb 1 h.tags r.some_tags) (and_true _ _ (le-leb h.tags most_names r.few_tags)
    (and_true _ _ (le-leb (2 + 2 * h.tags) h.dictionary r.dictionary) (and_true _ _ (le-leb 1 h.depth r.some_depth) (and_true _ _ (le-leb h.depth most_open_elements r.low_depth)
    (and_true _ _ (le-leb (h.tree + h.dictionary) most_stream_bytes r.together) (eq-eqb (length h.check) 16 r.check)))))))

tested_range : (h : Header) → is_in_range h ≡ true → IsInRange h
tested_range h t =
    let a = both_true _ _ t in
    let b = both_true _ _ a.1 in
    let c = both_true _ _ b.1 in
    let d = both_true _ _ c.1 in
    let e = both_true _ _ d.1 in
    let f = both_true _ _ e.1 in
    let g = both_true _ _ f.1 in
    record {
      tree = leb-true 1 h.tree a.0;
      some_tags = leb-true 1 h.tags b.0;
      few_tags = leb-true h.tags most_names c.0;
      dictionary = leb-true (2 + 2 * h.tags) h.dictionary d.0;
      some_depth = leb-true 1 h.depth e.0;
      low_depth = leb-true h.depth most_open_elements f.0;
      together = leb-true (h.tree + h.dictionary) most_stream_bytes g.0;
      check = eqb-true (length h.check) 16 g.1;
    }

pub header_in-is : (h : Header) (bytes : List ℕ) → IsInRange h → header_bytes h ≡ bytes → header_in bytes ≡ Some h
unfolding header_in
header_in-is h bytes range same =
    let here : header_at bytes ≡ h = same_header h _ _ _ _ _ (tree_in-header h bytes range same) (dictionary_in-header h bytes range same) (tags_in-header h bytes range same)
    (depth_in-header h bytes range same) (check_in-header h bytes range same) in
    let tested : is_in_range (header_at bytes) && bytes_eq (header_bytes (header_at bytes)) bytes ≡ true =
    and_true _ _ (ap is_in_range here ∙ range_tested h range) ((bytes_eq-Decides (header_bytes (header_at bytes)) bytes).1 (ap header_bytes here ∙ same)) in
    if_true _ (Some (header_at bytes)) None tested ∙ ap (λ (x : Header). Some x) here

pub header_in-of : (h : Header) (bytes : List ℕ) → header_in bytes ≡ Some h → IsInRange h × (header_bytes h ≡ bytes)
unfolding header_in
header_in-of h bytes found =
    let P : Bool → Type 0 = λ v. (is_in_range (header_at bytes) && bytes_eq (header_bytes (header_at bytes)) bytes ≡ v) → ◌≡◌ {A = Option Header} (if v then Some (header_at bytes) else None) (Some h)
    → IsInRange h × (header_bytes h ≡ bytes) in
    elim (is_in_range (header_at bytes) && bytes_eq (header_bytes (header_at bytes)) bytes) as (λ (v : Bool). P v) [
      | true ↦ λ test e.
          let here : header_at bytes ≡ h = same_value (header_at bytes) h e in
          let parts = both_true (is_in_range (header_at bytes)) (bytes_eq (header_bytes (header_at bytes)) bytes) test in
          (subst IsInRange here (tested_range (header_at bytes) parts.0), ap header_bytes (sym here) ∙ (bytes_eq-Decides (header_bytes (header_at bytes)) bytes).0 parts.1)
      | false ↦ λ test e. absurd (true≢false (sym (ap is_some e)))
    ] refl found

-- the header served is in its ranges
pub served_range : (h : Header) (reads : List StoreRead) → header_served reads ≡ Some h → IsInRange h
served_range h reads found =
    let bytes = chained header_in (option_and_then (whole 64) (slice_get reads 0)) h found in
    (header_in-of h bytes.0 bytes.2).0
