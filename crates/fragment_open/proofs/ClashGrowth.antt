-- Longer reads hash what shorter ones hashed, and more. So where there is no clash in the end, there was none before.
use Rattle.std.proofs.Common.{◌≡◌, ℕ, zero, suc, false, List, [], ◌∷◌, ◌++◌, length, drop, ◌≤◌, refl, sym, ap, ◌∙◌, subst, inl, inr, arith, true≢false}
use Rattle.std.specs.Prelude.{nat_eq, fold, Option, Some, None, option_map, option_and_then, option_to_list, Contains}
use Rattle.std.specs.Option.{option_map_or}
use Rattle.std.proofs.lemmas.List.Elements.{Contains-append_cases, Contains-append_left, Contains-append_right}
use Rattle.sha2.specs.Sha256.{sha256}
use Rattle.acl_model.specs.declared.document.Doc.{Doc}
use Rattle.acl_outside.specs.Outside.{StoreRead}
use Rattle.merkle_chunks.specs.HeaderBytes.{fragment_count, header_bytes}
use Rattle.merkle_chunks.specs.File.{file_strings}
use Rattle.merkle_chunks.specs.Strings.{StringName, root, root_string, spot}
use Rattle.merkle_chunks.specs.declared.header.Header.{Header}
use Rattle.fragment_open.specs.Asks.{index_at}
use Rattle.fragment_open.specs.Clash.{has_clash, reads_clash}
use Rattle.fragment_open.specs.Hashed.{goal_after, hashed, hashed_in, is_stopped, named_at, named_up_to, string_at}
use Rattle.fragment_open.specs.Openings.{Opening, index_of, opening_at, openings, with_next, with_read, with_sibling}
use Rattle.fragment_open.specs.Served.{fragments_served, header_served, root_served, top_served}
use Rattle.fragment_open.proofs.ClashLemmas.{clash_found, found_clash}
use Rattle.fragment_open.proofs.ClimbLemmas.{string_at-more}
use Rattle.fragment_open.proofs.KeyLemmas.{either}
use Rattle.fragment_open.proofs.SinceLemmas.{drop_two, fold-append, header_served-more, top_served-more, two_reads}
use Rattle.fragment_open.proofs.TreeLemmas.{if_true, if_false}

-- ---- one more read of a sibling

module _ (n : ℕ) (o : Opening) (r : StoreRead) where
  -- a string that an opening names on a level stays the same
  named_at-more : (l : ℕ) (s : StringName × List ℕ) → Contains (named_at sha256 n o l) s → Contains (named_at sha256 n (with_sibling o r) l) s
  named_at-more l s has = by (string_at sha256 n o l) refl has
    where
      by : (found : Option (List ℕ)) → string_at sha256 n o l ≡ found
          → Contains (option_to_list (option_map (λ string. (spot l (index_at (index_of o) l), string)) found)) s → Contains (named_at sha256 n (with_sibling o r) l) s
      by None e has = absurd (omega (arith, has.1))
      by (Some x) e has =
          let P : List (StringName × List ℕ) → Type 0 = λ l. Contains l s in
          let here : named_at sha256 n (with_sibling o r) l ≡ (spot l (index_at (index_of o) l), x) ∷ [] =
          ap (λ (q : Option (List ℕ)). option_to_list (option_map (λ string. (spot l (index_at (index_of o) l), string)) q)) (string_at-more n o (r ∷ []) l x e) in
          subst P (sym here) has

  -- and so do those up to a level
  named_up_to-more : (g : ℕ) (s : StringName × List ℕ) → Contains (named_up_to sha256 n o g) s → Contains (named_up_to sha256 n (with_sibling o r) g) s
  named_up_to-more zero s has = named_at-more 0 s has
  named_up_to-more (suc g) s has =
      elim (Contains-append_cases (named_up_to sha256 n o g) (named_at sha256 n o (suc g)) s has) [
        | inl h ↦ Contains-append_left (named_up_to sha256 n (with_sibling o r) g) (named_at sha256 n (with_sibling o r) (suc g)) s (named_up_to-more g s h)
        | inr h ↦ Contains-append_right (named_up_to sha256 n (with_sibling o r) g) (named_at sha256 n (with_sibling o r) (suc g)) s (named_at-more (suc g) s h)
      ]

-- ---- one more read

-- what was hashed stays hashed with one more opening
opened-more : (n : ℕ) (o : Opening) (os : List Opening) (s : StringName × List ℕ) → Contains (hashed_in sha256 n os) s → Contains (hashed_in sha256 n (o ∷ os)) s
unfolding hashed_in
opened-more n o os s has =
    let P : List (StringName × List ℕ) → Type 0 = λ l. Contains l s in
    let more : List (StringName × List ℕ) = named_up_to sha256 n o (goal_after sha256 n o os) in
    elim (either (is_stopped sha256 n os)) [
      | inl e ↦ subst P (sym (if_true (is_stopped sha256 n os) (hashed_in sha256 n os) (hashed_in sha256 n os ++ more) e)) has
      | inr e ↦ subst P (sym (if_false (is_stopped sha256 n os) (hashed_in sha256 n os) (hashed_in sha256 n os ++ more) e)) (Contains-append_left (hashed_in sha256 n os) more s has)
    ]

-- and with one more sibling of the newest opening
sibling-more : (n : ℕ) (os : List Opening) (r : StoreRead) (s : StringName × List ℕ) → Contains (hashed_in sha256 n os) s → Contains (hashed_in sha256 n (with_next os r)) s
unfolding hashed_in
sibling-more n [] r s has = has
sibling-more n (o ∷ os) r s has =
    let P : List (StringName × List ℕ) → Type 0 = λ l. Contains l s in
    let before : List (StringName × List ℕ) = hashed_in sha256 n os in
    let goal : ℕ = goal_after sha256 n o os in
    let more : List (StringName × List ℕ) = named_up_to sha256 n o goal in
    let grown : List (StringName × List ℕ) = named_up_to sha256 n (with_sibling o r) goal in
    elim (either (is_stopped sha256 n os)) [
      | inl e ↦ subst P (sym (if_true (is_stopped sha256 n os) before (before ++ grown) e)) (subst P (if_true (is_stopped sha256 n os) before (before ++ more) e) has)
      | inr e ↦ subst P (sym (if_false (is_stopped sha256 n os) before (before ++ grown) e))
          (elim (Contains-append_cases before more s (subst P (if_false (is_stopped sha256 n os) before (before ++ more) e) has)) [
            | inl h ↦ Contains-append_left before grown s h
            | inr h ↦ Contains-append_right before grown s (named_up_to-more n o r goal s h)
          ])
    ]

read-more : (n : ℕ) (os : List Opening) (r : StoreRead) (s : StringName × List ℕ) → Contains (hashed_in sha256 n os) s → Contains (hashed_in sha256 n (with_read os r)) s
read-more n os r s has =
    let P : List Opening → Type 0 = λ q. Contains (hashed_in sha256 n q) s in
    elim (either (nat_eq r.asked 256)) [
      | inl e ↦ subst P (sym (if_true (nat_eq r.asked 256) (opening_at r ∷ os) (with_next os r) e)) (opened-more n (opening_at r) os s has)
      | inr e ↦ subst P (sym (if_false (nat_eq r.asked 256) (opening_at r ∷ os) (with_next os r) e)) (sibling-more n os r s has)
    ]

-- ---- more reads

reads-more : (n : ℕ) (os : List Opening) (t : List StoreRead) (s : StringName × List ℕ) → Contains (hashed_in sha256 n os) s → Contains (hashed_in sha256 n (fold with_read os t)) s
reads-more n os [] s has = has
reads-more n os (r ∷ t) s has = reads-more n (with_read os r) t s (read-more n os r s has)

openings-after : (a t : List StoreRead) → 2 ≤ length a → openings (a ++ t) ≡ fold with_read (openings a) t
unfolding openings
openings-after a t two = ap (fold with_read []) (drop_two a t two) ∙ fold-append [] (drop 2 a) t

-- what reads hash, by the header and the top digest served
hashed-by : (h : Header) (top : List ℕ) (reads : List StoreRead) → header_served reads ≡ Some h → top_served reads ≡ Some top
    → hashed sha256 reads ≡ (root, root_string (header_bytes h) top) ∷ hashed_in sha256 (fragment_count h) (openings reads)
unfolding hashed
hashed-by h top reads header_is top_is =
    let made : root_served reads ≡ Some (root_string (header_bytes h) top) =
    ap (option_and_then (λ (g : Header). option_map (root_string (header_bytes g)) (top_served reads))) header_is ∙ ap (option_map (root_string (header_bytes h))) top_is in
    let count : fragments_served reads ≡ fragment_count h = ap (λ (g : Option Header). option_map_or fragment_count g 0) header_is in
    ap (λ (q : Option (List ℕ)). option_to_list (option_map (λ string. (root, string)) q) ++ hashed_in sha256 (fragments_served reads) (openings reads)) made
    ∙ ap (λ (m : ℕ). (root, root_string (header_bytes h) top) ∷ hashed_in sha256 m (openings reads)) count

module _ (h : Header) (top : List ℕ) (a t : List StoreRead) (header_is : header_served a ≡ Some h) (top_is : top_served a ≡ Some top) where
  hashed-more : (s : StringName × List ℕ) → Contains (hashed sha256 a) s → Contains (hashed sha256 (a ++ t)) s
  hashed-more s has =
      let P : List (StringName × List ℕ) → Type 0 = λ l. Contains l s in
      let first : List (StringName × List ℕ) = (root, root_string (header_bytes h) top) ∷ [] in
      let n : ℕ = fragment_count h in
      let before : hashed sha256 a ≡ first ++ hashed_in sha256 n (openings a) = hashed-by h top a header_is top_is in
      let after : hashed sha256 (a ++ t) ≡ first ++ hashed_in sha256 n (fold with_read (openings a) t) =
      hashed-by h top (a ++ t) (header_served-more a t h header_is) (top_served-more a t top top_is)
      ∙ ap (λ (os : List Opening). (root, root_string (header_bytes h) top) ∷ hashed_in sha256 n os) (openings-after a t (two_reads a top top_is)) in
      subst P (sym after)
      (elim (Contains-append_cases first (hashed_in sha256 n (openings a)) s (subst P before has)) [
        | inl e ↦ Contains-append_left first (hashed_in sha256 n (fold with_read (openings a) t)) s e
        | inr e ↦ Contains-append_right first (hashed_in sha256 n (fold with_read (openings a) t)) s (reads-more n (openings a) t s e)
      ])

  -- where the longer reads give no clash, the shorter ones give none
  pub clash-before : (d : Doc) (key : List ℕ) → reads_clash (a ++ t) d key ≡ false → reads_clash a d key ≡ false
  unfolding reads_clash
  clash-before d key none =
      elim (either (has_clash sha256 (hashed sha256 a) (file_strings d key))) [
        | inl e ↦
            let c = found_clash sha256 (hashed sha256 a) (file_strings d key) e in
            absurd (true≢false (sym (clash_found sha256 (hashed sha256 (a ++ t)) (file_strings d key) (record {
              name = c.name;
              one = c.one;
              other = c.other;
              here = hashed-more (c.name, c.one) c.here;
              there = c.there;
              different = c.different;
              same_digest = c.same_digest;
            })) ∙ none))
        | inr e ↦ e
      ]
