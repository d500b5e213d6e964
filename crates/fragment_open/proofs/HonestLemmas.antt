-- Regular reads of a store that holds a document's file hash the file's own strings, so nothing clashes.
use Rattle.std.proofs.Common.{◌≡◌, ℕ, zero, suc, ◌+◌, ◌<◌, ◌≤◌, true, false, List, [], ◌∷◌, ◌++◌, length, take, drop, map, get_or, refl, sym, ap, ◌∙◌, subst, inl, inr, arith, true≢false}
use Rattle.std.specs.Prelude.{nat_lt, fold, Option, Some, None, is_some, option_map, option_and_then, option_to_list, Contains}
use Rattle.std.specs.List.{list_all, slice_get}
use Rattle.std.specs.Option.{option_map_or}
use Rattle.std.proofs.lemmas.Bool.{ltb-true}
use Rattle.std.proofs.lemmas.List.{get_or_default}
use Rattle.std.proofs.lemmas.List.Elements.{Contains-append_cases}
use Rattle.sha2.specs.Sha256.{sha256}
use Rattle.sha2.proofs.Facts256.{length-sha256}
use Rattle.acl_model.specs.Document.{is_document}
use Rattle.acl_model.specs.Stream.{has_stream}
use Rattle.acl_model.specs.declared.document.Doc.{Doc}
use Rattle.aes_block.specs.Aes.{AreBytes}
use Rattle.acl_outside.specs.Outside.{StoreRead}
use Rattle.merkle_chunks.specs.HeaderBytes.{IsInRange, fragment_count, header_bytes}
use Rattle.merkle_chunks.specs.File.{cipher_fragments, document_header, file, file_strings}
use Rattle.merkle_chunks.specs.Strings.{StringName, absent_child, leaf_string, root, root_string, spot}
use Rattle.merkle_chunks.specs.Table.{IsNode, count_below, digests_at, level_count, node_place, strings_at, top_digest, top_level}
use Rattle.merkle_chunks.specs.declared.header.Header.{Header}
use Rattle.merkle_chunks.proofs.CountLemmas.{top_level-is}
use Rattle.merkle_chunks.proofs.FileLemmas.{digest_of_file, fragment_of_file, header_of_file, length-cipher_fragments, one_name, string_of_name, string_of_root}
use Rattle.merkle_chunks.proofs.LevelLemmas.{slice_get-is}
use Rattle.merkle_chunks.proofs.Places.{one_header}
use Rattle.merkle_chunks.proofs.RangeLemmas.{document_header-in_range}
use Rattle.merkle_chunks.proofs.TableLemmas.{get_or-leaf_strings, length-digests_at}
use Rattle.fragment_open.specs.Openings.{Opening, index_of, indexes, openings, with_read}
use Rattle.fragment_open.specs.Asks.{ask_of, goal_level, has_sibling, header_ask, index_at, leaf_ask, opening_asks, sibling_ask, sibling_asks, sibling_of, siblings_below, top_ask}
use Rattle.fragment_open.specs.Served.{IsRegular, asks_by, fragments_served, header_in, header_served, root_served, top_served, whole}
use Rattle.fragment_open.specs.Hashed.{goal_after, hashed, hashed_in, is_stopped, named_at, named_up_to, parent_string, sibling_digest, string_at}
use Rattle.fragment_open.specs.Clash.{reads_clash}
use Rattle.fragment_open.specs.Checked.{AreReadsOf}
use Rattle.fragment_open.proofs.ClashLemmas.{both_true, no_clash}
use Rattle.fragment_open.proofs.TreeLemmas.{digest_in, if_true, if_false, index_at-lt, sibling_absent, sibling_in, string_above, string_in}
use Rattle.fragment_open.proofs.PathLemmas.{chained, mapped, same_value, string_at-above, whole-length}
use Rattle.fragment_open.proofs.KeyLemmas.{either, goal_level-le, top_digest-is}
use Rattle.fragment_open.proofs.ClimbLemmas.{length-sibling_asks, slice_get-after, slice_get-longer}
use Rattle.fragment_open.proofs.FetchLemmas.{sibling_asks-prefix}
use Rattle.fragment_open.proofs.HeaderLemmas.{header_in-of}
use Rattle.fragment_open.proofs.RegularLemmas.{AreAsked, reads_in, regular-asked, same_head, same_tail}

-- ---- parts of lists

slice_get-take : {X : Type 0} (xs : List X) (m j : ℕ) (x : X) → slice_get (take m xs) j ≡ Some x → slice_get xs j ≡ Some x
slice_get-take xs zero j x h = absurd (true≢false (sym (ap is_some h)))
slice_get-take [] (suc m) j x h = absurd (true≢false (sym (ap is_some h)))
slice_get-take (y ∷ xs) (suc m) zero x h = h
slice_get-take (y ∷ xs) (suc m) (suc j) x h = slice_get-take xs m j x h

slice_get-ask : (reads : List StoreRead) (j : ℕ) (r : StoreRead) → slice_get reads j ≡ Some r → slice_get (map ask_of reads) j ≡ Some (ask_of r)
slice_get-ask [] j r h = absurd (true≢false (sym (ap is_some h)))
slice_get-ask (x ∷ reads) zero r h = ap (option_map ask_of) h
slice_get-ask (x ∷ reads) (suc j) r h = slice_get-ask reads j r h

reads_of-append : (all : List ℕ) (xs ys : List StoreRead) → AreReadsOf all (xs ++ ys) → AreReadsOf all xs × AreReadsOf all ys
reads_of-append all [] ys h = (tt, h)
reads_of-append all (x ∷ xs) ys h = let rest = reads_of-append all xs ys h.1 in ((h.0, rest.0), rest.1)

reads_of-at : (all : List ℕ) (reads : List StoreRead) (j : ℕ) (r : StoreRead) → AreReadsOf all reads → slice_get reads j ≡ Some r → r.bytes ≡ take r.asked (drop r.at all)
reads_of-at all [] j r h found = absurd (true≢false (sym (ap is_some found)))
reads_of-at all (x ∷ reads) zero r h found = let same : x ≡ r = same_value x r found in let P : StoreRead → Type 0 = λ q. q.bytes ≡ take q.asked (drop q.at all) in subst P same h.0
reads_of-at all (x ∷ reads) (suc j) r h found = reads_of-at all reads j r h.1 found

-- ---- the sibling's ask among those of an opening

sibling_there : (n i l goal : ℕ) → l < goal → has_sibling n i l ≡ true → slice_get (sibling_asks n i goal) (siblings_below n i l) ≡ Some (node_place n l (sibling_of (index_at i l)), 32)
sibling_there n i l goal lt has =
    let rest = sibling_asks-prefix n i (suc l) goal (omega (arith, lt)) in
    let one : sibling_ask n i l ≡ (node_place n l (sibling_of (index_at i l)), 32) ∷ [] = if_true (has_sibling n i l) ((node_place n l (sibling_of (index_at i l)), 32) ∷ []) [] has in
    ap (λ (asks : List (ℕ × ℕ)). slice_get asks (siblings_below n i l)) rest.1
    ∙ slice_get-longer (sibling_asks n i l ++ sibling_ask n i l) rest.0 (siblings_below n i l) (node_place n l (sibling_of (index_at i l)), 32)
    (slice_get-after (sibling_asks n i l) (sibling_ask n i l) (siblings_below n i l) (sym (length-sibling_asks n i l)) ∙ ap (λ (asks : List (ℕ × ℕ)). slice_get asks 0) one)

-- the root string with its name, where there is one
abbrev pub named_root : Option (List ℕ) → List (StringName × List ℕ)
named_root o = option_to_list (option_map (λ s. (root, s)) o)

module _ (d : Doc) (key : List ℕ) where
  c : List (List ℕ)
  c = cipher_fragments d key

  -- ---- the strings of one opening

  module _ (o : Opening) (before : List ℕ) (lt : index_of o < length (cipher_fragments d key))
      (leaf : ask_of o.leaf ≡ leaf_ask (index_of o))
      (siblings : map ask_of o.siblings ≡ take (length o.siblings) (sibling_asks (length (cipher_fragments d key)) (index_of o) (goal_level (length (cipher_fragments d key)) (index_of o) before)))
      (leaf_of : o.leaf.bytes ≡ take o.leaf.asked (drop o.leaf.at (file d key))) (siblings_of : AreReadsOf (file d key) o.siblings) where
    own_sibling : (l : ℕ) (s : List ℕ) → l < goal_level (length (cipher_fragments d key)) (index_of o) before → sibling_digest (length (cipher_fragments d key)) o l ≡ Some s
        → s ≡ sibling_in sha256 (cipher_fragments d key) l (index_at (index_of o) l)
    own_sibling l s low found =
        let n : ℕ = length (cipher_fragments d key) in
        let i : ℕ = index_of o in
        let k : ℕ = sibling_of (index_at i l) in
        elim (either (has_sibling n i l)) [
          | inl e ↦
              let read = chained (whole 32) (slice_get o.siblings (siblings_below n i l)) s (sym (if_true (has_sibling n i l) _ (Some absent_child) e) ∙ found) in
              let bytes = whole-length 32 read.0 s read.2 in
              let asked : slice_get (sibling_asks n i (goal_level n i before)) (siblings_below n i l) ≡ Some (ask_of read.0) =
              slice_get-take (sibling_asks n i (goal_level n i before)) (length o.siblings) (siblings_below n i l) (ask_of read.0)
              (ap (λ (asks : List (ℕ × ℕ)). slice_get asks (siblings_below n i l)) (sym siblings) ∙ slice_get-ask o.siblings (siblings_below n i l) read.0 read.1) in
              let is : ask_of read.0 ≡ (node_place n l k, 32) = same_value (ask_of read.0) (node_place n l k, 32) (sym asked ∙ sibling_there n i l (goal_level n i before) low e) in
              let there : k < level_count n l = ltb-true k (level_count n l) e in
              let bound : goal_level n i before ≤ top_level n = goal_level-le n i before in
              sym bytes.1 ∙ reads_of-at (file d key) o.siblings (siblings_below n i l) read.0 siblings_of read.1
              ∙ (λ j. take (is j).1 (drop (is j).0 (file d key)))
              ∙ digest_of_file d key l k (record { on_level = omega (arith, low, bound); within = there })
              ∙ get_or_default (digests_at sha256 (cipher_fragments d key) l) k [] absent_child (omega (arith, there, length-digests_at sha256 (cipher_fragments d key) l))
          | inr e ↦
              sym (same_value absent_child s (sym (if_false (has_sibling n i l) (option_and_then (whole 32) (slice_get o.siblings (siblings_below n i l))) (Some absent_child) e) ∙ found))
              ∙ sym (sibling_absent sha256 (cipher_fragments d key) i l e)
        ]

    pub own_string : (l : ℕ) (x : List ℕ) → l ≤ goal_level (length (cipher_fragments d key)) (index_of o) before → string_at sha256 (length (cipher_fragments d key)) o l ≡ Some x
        → x ≡ string_in sha256 (cipher_fragments d key) l (index_at (index_of o) l)
    unfolding string_at strings_at
    own_string zero x low found =
        let i : ℕ = index_of o in
        let bytes = mapped (leaf_string i) (whole 256 o.leaf) x found in
        let zero_more : 0 + i ≡ i = omega arith in
        sym bytes.2
        ∙ ap (leaf_string i) (sym (whole-length 256 o.leaf bytes.0 bytes.1).1 ∙ leaf_of ∙ (λ j. take (leaf j).1 (drop (leaf j).0 (file d key))) ∙ fragment_of_file d key i lt)
        ∙ ap (λ (m : ℕ). leaf_string m (get_or (cipher_fragments d key) i [])) (sym zero_more)
        ∙ sym (get_or-leaf_strings 0 i (cipher_fragments d key) lt)
    own_string (suc l) x low found =
        let n : ℕ = length (cipher_fragments d key) in
        let i : ℕ = index_of o in
        let below = string_at-above sha256 length-sha256 n o l x found in
        sym below.4
        ∙ (λ j. parent_string (index_at i l) (sha256 (own_string l below.0 (omega (arith, low)) below.2 j)) (own_sibling l below.1 (omega (arith, low)) below.3 j))
        ∙ sym (string_above sha256 (cipher_fragments d key) l (index_at i l) (index_at-lt n i l lt))

  -- ---- all strings

  -- a named string is the file's own, on a level
  abbrev pub IsOwn : StringName × List ℕ → Type 0
  IsOwn (root, x) = ⊥
  IsOwn (spot l k, x) = IsNode (length (cipher_fragments d key)) l k × (x ≡ string_in sha256 (cipher_fragments d key) l k)

  own_named : (o : Opening) (l : ℕ) (s : StringName × List ℕ) → ((x : List ℕ) → string_at sha256 (length (cipher_fragments d key)) o l ≡ Some x → IsOwn (spot l (index_at (index_of o) l), x))
      → Contains (named_at sha256 (length (cipher_fragments d key)) o l) s → IsOwn s
  own_named o l s own has = by (string_at sha256 (length (cipher_fragments d key)) o l) own has
    where
      by : (found : Option (List ℕ)) → ((x : List ℕ) → found ≡ Some x → IsOwn (spot l (index_at (index_of o) l), x))
          → Contains (option_to_list (option_map (λ string. (spot l (index_at (index_of o) l), string)) found)) s → IsOwn s
      by None own has = absurd (omega (arith, has.1))
      by (Some x) own has =
          let first : has.0 ≡ 0 = omega (arith, has.1) in
          let is : (spot l (index_at (index_of o) l), x) ≡ s = ap (λ (k : ℕ). get_or ((spot l (index_at (index_of o) l), x) ∷ []) k s) (sym first) ∙ has.2 in
          subst IsOwn is (own x refl)

  own_up_to : (o : Opening) (goal : ℕ) (s : StringName × List ℕ) → ((l : ℕ) (x : List ℕ) → l ≤ goal → string_at sha256 (length (cipher_fragments d key)) o l ≡ Some x → IsOwn (spot l (index_at (index_of o) l), x))
      → Contains (named_up_to sha256 (length (cipher_fragments d key)) o goal) s → IsOwn s
  own_up_to o zero s own has = own_named o 0 s (λ x found. own 0 x (omega arith) found) has
  own_up_to o (suc goal) s own has =
      elim (Contains-append_cases (named_up_to sha256 (length (cipher_fragments d key)) o goal) (named_at sha256 (length (cipher_fragments d key)) o (suc goal)) s has) [
        | inl h ↦ own_up_to o goal s (λ l x le found. own l x (omega (arith, le)) found) h
        | inr h ↦ own_named o (suc goal) s (λ x found. own (suc goal) x (omega arith) found) h
      ]

  own_opening : (o : Opening) (before : List Opening) (s : StringName × List ℕ) → AreAsked (length (cipher_fragments d key)) (o ∷ before) → AreReadsOf (file d key) (o.leaf ∷ o.siblings) → index_of o < length (cipher_fragments d key)
      → Contains (named_up_to sha256 (length (cipher_fragments d key)) o (goal_after sha256 (length (cipher_fragments d key)) o before)) s → IsOwn s
  own_opening o before s asked of lt has =
      let n : ℕ = length (cipher_fragments d key) in
      own_up_to o (goal_after sha256 n o before) s
      (λ l x le found.
      let bound : goal_level n (index_of o) (map index_of before) ≤ top_level n = goal_level-le n (index_of o) (map index_of before) in (
        record { on_level = omega (arith, le, bound); within = index_at-lt n (index_of o) l lt },
        own_string o (map index_of before) lt asked.0 asked.1 of.0 of.1 l x le found,
      ))
      has

  pub own_openings : (os : List Opening) (s : StringName × List ℕ) → AreAsked (length (cipher_fragments d key)) os → AreReadsOf (file d key) (reads_in os)
      → list_all (λ i. nat_lt i (length (cipher_fragments d key))) (map index_of os) ≡ true → Contains (hashed_in sha256 (length (cipher_fragments d key)) os) s → IsOwn s
  unfolding hashed_in
  own_openings [] s asked of within has = absurd (omega (arith, has.1))
  own_openings (o ∷ before) s asked of within has =
      let n : ℕ = length (cipher_fragments d key) in
      let parts = reads_of-append (file d key) (reads_in before) (o.leaf ∷ o.siblings) of in
      let bounds = both_true (nat_lt (index_of o) n) (list_all (λ i. nat_lt i n) (map index_of before)) within in
      let earlier : Contains (hashed_in sha256 n before) s → IsOwn s = own_openings before s asked.2 parts.0 bounds.1 in
      let P : List (StringName × List ℕ) → Type 0 = λ l. Contains l s in
      let more : List (StringName × List ℕ) = named_up_to sha256 n o (goal_after sha256 n o before) in
      elim (either (is_stopped sha256 n before)) [
        | inl e ↦ earlier (subst P (if_true (is_stopped sha256 n before) (hashed_in sha256 n before) (hashed_in sha256 n before ++ more) e) has)
        | inr e ↦
            elim (Contains-append_cases (hashed_in sha256 n before) more s (subst P (if_false (is_stopped sha256 n before) (hashed_in sha256 n before) (hashed_in sha256 n before ++ more) e) has)) [
              | inl h ↦ earlier h
              | inr h ↦ own_opening o before s asked parts.1 (ltb-true (index_of o) n bounds.0) h
            ]
      ]

  -- the file has one string under each name
  pub theirs_is : (l k : ℕ) (other : List ℕ) → IsNode (length (cipher_fragments d key)) l k → Contains (file_strings d key) (spot l k, other) → other ≡ string_in sha256 (cipher_fragments d key) l k
  theirs_is l k other node has =
      let own = string_of_name d key l k node in
      let at : slice_get (file_strings d key) has.0 ≡ Some (spot l k, other) = slice_get-is (file_strings d key) has.0 (spot l k, other) has.1 ∙ ap (λ (s : StringName × List ℕ). Some s) has.2 in
      let place = one_name d key has.0 (1 + (count_below (length (cipher_fragments d key)) l + k)) (spot l k, other) (spot l k, string_in sha256 (cipher_fragments d key) l k) at own refl in
      let same : (spot l k, other) ≡ (spot l k, string_in sha256 (cipher_fragments d key) l k) =
      same_value (spot l k, other) (spot l k, string_in sha256 (cipher_fragments d key) l k) (sym at ∙ ap (slice_get (file_strings d key)) place ∙ own) in
      ap (λ (s : StringName × List ℕ). s.1) same

  pub their_root : (other : List ℕ) → Contains (file_strings d key) (root, other) → other ≡ root_string (header_bytes (document_header d key)) (top_digest sha256 (cipher_fragments d key))
  their_root other has =
      let own = string_of_root d key in
      let at : slice_get (file_strings d key) has.0 ≡ Some (root, other) = slice_get-is (file_strings d key) has.0 (root, other) has.1 ∙ ap (λ (s : StringName × List ℕ). Some s) has.2 in
      let string : List ℕ = root_string (header_bytes (document_header d key)) (top_digest sha256 (cipher_fragments d key)) in
      let place = one_name d key has.0 0 (root, other) (root, string) at own refl in
      let same : (root, other) ≡ (root, string) = same_value (root, other) (root, string) (sym at ∙ ap (slice_get (file_strings d key)) place ∙ own) in
      ap (λ (s : StringName × List ℕ). s.1) same

  -- ---- regular reads of a store that holds the file

  module _ (document : is_document d ≡ true) (stream : has_stream d ≡ true) (key_bytes : AreBytes 16 key) where
    theirs : IsInRange (document_header d key)
    theirs = document_header-in_range d document stream key

    some : 1 ≤ length (cipher_fragments d key)
    some = omega (arith, length-cipher_fragments d key key_bytes, theirs.tree)

    -- the header that such a read served
    header_theirs : (a : StoreRead) (h : Header) → ask_of a ≡ header_ask → a.bytes ≡ take a.asked (drop a.at (file d key)) → option_and_then header_in (whole 64 a) ≡ Some h → h ≡ document_header d key
    header_theirs a h asked of found =
        let bytes = chained header_in (whole 64 a) h found in
        let is = header_in-of h bytes.0 bytes.2 in
        one_header h (document_header d key) is.0 theirs
        (is.1 ∙ sym (whole-length 64 a bytes.0 bytes.1).1 ∙ of ∙ (λ j. take (asked j).1 (drop (asked j).0 (file d key))) ∙ header_of_file d key)

    top_theirs : (b : StoreRead) (n : ℕ) (top : List ℕ) → n ≡ length (cipher_fragments d key) → ask_of b ≡ top_ask n → b.bytes ≡ take b.asked (drop b.at (file d key)) → whole 32 b ≡ Some top → top ≡ top_digest sha256 (cipher_fragments d key)
    top_theirs b n top count asked of found =
        let m : ℕ = length (cipher_fragments d key) in
        let single : level_count m (top_level m) ≡ 1 = (top_level-is m some).single in
        sym (whole-length 32 b top found).1 ∙ of ∙ (λ j. take (asked j).1 (drop (asked j).0 (file d key)))
        ∙ ap (λ (k : ℕ). take 32 (drop (node_place k (top_level k) 0) (file d key))) count
        ∙ digest_of_file d key (top_level m) 0 (record { on_level = omega arith; within = omega (arith, single) })
        ∙ digest_in sha256 (cipher_fragments d key) (top_level m) 0 (omega (arith, single))
        ∙ sym (top_digest-is sha256 length-sha256 (cipher_fragments d key) some)

    same_string : (reads : List StoreRead) → IsRegular reads → AreReadsOf (file d key) reads → (name : StringName) (one other : List ℕ) → Contains (hashed sha256 reads) (name, one) → Contains (file_strings d key) (name, other) → one ≡ other
    unfolding hashed hashed_in openings
    same_string [] regular of name one other here there = absurd (omega (arith, here.1))
    same_string (a ∷ []) regular of name one other here there =
        let none : root_served (a ∷ []) ≡ None = no_top (header_served (a ∷ [])) in
        let P : Option (List ℕ) → Type 0 = λ o. Contains (named_root o ++ []) (name, one) in
        let has : Contains (named_root None ++ []) (name, one) = subst P none here in
        absurd (omega (arith, has.1))
      where
        no_top : (o : Option Header) → option_and_then (λ h. option_map (root_string (header_bytes h)) (top_served (a ∷ []))) o ≡ None
        no_top None = refl
        no_top (Some h) = refl
    same_string (a ∷ b ∷ reads) regular of name one other here there =
        by (header_served (a ∷ b ∷ reads)) refl
      where
        all : List StoreRead
        all = a ∷ b ∷ reads

        by : (o : Option Header) → header_served (a ∷ b ∷ reads) ≡ o → one ≡ other
        by None found =
            let asked : map ask_of (a ∷ b ∷ reads) ≡ take (length (a ∷ b ∷ reads)) (header_ask ∷ []) = regular.follows ∙ ap (λ (o : Option Header). take (length (a ∷ b ∷ reads)) (asks_by o (indexes (a ∷ b ∷ reads)))) found in
            absurd (omega (arith, ap length (same_tail (ask_of a) header_ask (ask_of b ∷ map ask_of reads) [] asked)))
        by (Some h) found =
            let n : ℕ = fragment_count h in
            let idx : List ℕ = indexes (a ∷ b ∷ reads) in
            let asked : map ask_of (a ∷ b ∷ reads) ≡ take (length (a ∷ b ∷ reads)) (asks_by (Some h) idx) = regular.follows ∙ ap (λ (o : Option Header). take (length (a ∷ b ∷ reads)) (asks_by o idx)) found in
            let rest = same_tail (ask_of a) header_ask (ask_of b ∷ map ask_of reads) (top_ask n ∷ take (length reads) (opening_asks n idx)) asked in
            let last = same_tail (ask_of b) (top_ask n) (map ask_of reads) (take (length reads) (opening_asks n idx)) rest in
            let header : h ≡ document_header d key = header_theirs a h (same_head (ask_of a) header_ask (ask_of b ∷ map ask_of reads) (top_ask n ∷ take (length reads) (opening_asks n idx)) asked) of.0 found in
            let count : n ≡ length (cipher_fragments d key) = ap fragment_count header ∙ sym (length-cipher_fragments d key key_bytes) in
            let served : fragments_served (a ∷ b ∷ reads) ≡ length (cipher_fragments d key) = ap (λ (o : Option Header). option_map_or fragment_count o 0) found ∙ count in
            let opened = regular-asked n reads (length reads) last in
            let P : ℕ → Type 0 = λ m. AreAsked m (fold with_read [] reads) in
            let Q : List StoreRead → Type 0 = AreReadsOf (file d key) in
            let R : ℕ → Type 0 = λ m. list_all (λ i. nat_lt i m) idx ≡ true in
            let S : ℕ → Type 0 = λ m. Contains {X = StringName × List ℕ} (hashed_in sha256 m (fold with_read [] reads)) (name, one) in
            elim (Contains-append_cases (option_to_list (option_map (λ s. (root, s)) (root_served (a ∷ b ∷ reads)))) (hashed_in sha256 (fragments_served (a ∷ b ∷ reads)) (fold with_read [] reads)) (name, one) here) [
              | inl at ↦ from_root h n header count found (same_head (ask_of b) (top_ask n) (map ask_of reads) (take (length reads) (opening_asks n idx)) rest) (root_served (a ∷ b ∷ reads)) refl at
              | inr at ↦ from_openings name one there
                  (own_openings (fold with_read [] reads) (name, one) (subst P count opened.0) (subst Q (sym opened.1) of.1.1) (subst R served regular.within) (subst S served at))
            ]
          where
            from_openings : (name : StringName) (one : List ℕ) → Contains (file_strings d key) (name, other) → IsOwn (name, one) → one ≡ other
            from_openings root one there own = absurd own
            from_openings (spot l k) one there own = own.1 ∙ sym (theirs_is l k other own.0 there)

            from_root : (h : Header) (n : ℕ) → h ≡ document_header d key → n ≡ length (cipher_fragments d key) → header_served (a ∷ b ∷ reads) ≡ Some h → ask_of b ≡ top_ask n → (served : Option (List ℕ)) → root_served (a ∷ b ∷ reads) ≡ served
                → Contains (named_root served) (name, one) → one ≡ other
            from_root h n header count found asked None is at = absurd (omega (arith, at.1))
            from_root h n header count found asked (Some string) is at =
                let first : at.0 ≡ 0 = omega (arith, at.1) in
                let pair : StringName × List ℕ = (root, string) in
                let want : StringName × List ℕ = (name, one) in
                let same : pair ≡ want = ap (λ (k : ℕ). get_or (pair ∷ []) k want) (sym first) ∙ at.2 in
                let parts = chained (λ x. option_map (root_string (header_bytes x)) (top_served (a ∷ b ∷ reads))) (header_served (a ∷ b ∷ reads)) string is in
                let top = mapped (root_string (header_bytes parts.0)) (top_served (a ∷ b ∷ reads)) string parts.2 in
                let own : parts.0 ≡ document_header d key = same_value parts.0 h (sym parts.1 ∙ found) ∙ header in
                let digest : top.0 ≡ top_digest sha256 (cipher_fragments d key) = top_theirs b n top.0 count asked of.1.0 top.1 in
                let S : StringName → Type 0 = λ m. Contains {X = StringName × List ℕ} (file_strings d key) (m, other) in
                sym (ap (λ (s : StringName × List ℕ). s.1) same) ∙ sym top.2 ∙ (λ j. root_string (header_bytes (own j)) (digest j))
                ∙ sym (their_root other (subst S (sym (ap (λ (s : StringName × List ℕ). s.0) same)) there))

    pub honest-no_clash : (reads : List StoreRead) → IsRegular reads → AreReadsOf (file d key) reads → reads_clash reads d key ≡ false
    unfolding reads_clash
    honest-no_clash reads regular of = no_clash sha256 (hashed sha256 reads) (file_strings d key) (same_string reads regular of)
