-- What a store that holds a document's file gives at the offsets of its parts.
use Rattle.std.proofs.Common.{◌≡◌, ℕ, suc, ◌+◌, ◌*◌, ◌<◌, ◌≤◌, List, [], length, take, drop, get_or, sym, ap, ◌∙◌, subst, arith, add-one}
use Rattle.std.specs.Prelude.{Option, IfSome, Ok, Err}
use Rattle.std.proofs.lemmas.List.{get_or_default, get_or_past}
use Rattle.sha2.specs.Sha256.{sha256}
use Rattle.acl_model.specs.declared.document.Doc.{Doc}
use Rattle.acl_outside.specs.declared.read_fault.ReadFault.{ReadFault}
use Rattle.acl_outside.specs.declared.read_fault.ReadFault.TheVariants.{StoreFault, StoreShort}
use Rattle.merkle_chunks.specs.Strings.{absent_child, leaf_string}
use Rattle.merkle_chunks.specs.Table.{count_below, digest_count, digests_at, level_count, node_place, strings_at, top_level, IsNode}
use Rattle.merkle_chunks.specs.File.{cipher_fragments, file}
use Rattle.merkle_chunks.proofs.FileLemmas.{digest_of_file, fragment_of_file, length-file}
use Rattle.merkle_chunks.proofs.LevelLemmas.{count_below-le}
use Rattle.merkle_chunks.proofs.TableLemmas.{get_or-leaf_strings, length-digests_at}
use Rattle.fragment_open.specs.Asks.{index_at, sibling_of}
use Rattle.fragment_open.specs.Hashed.{parent_string}
use Rattle.fragment_open.specs.CallReads.{GivesWhole}
use Rattle.fragment_open.specs.Held.{HoldsFile, IsStoreFault, digest_held, sibling_held}
use Rattle.fragment_open.proofs.TreeLemmas.{index_at-lt, string_above}

-- a read within the bytes fails only by the store's failure
pub fault_within : (fault : ReadFault) (place : ℕ) (into all : List ℕ) → place + length into ≤ length all → GivesWhole {T = Unit {0}} (Err fault) place into all → IsStoreFault fault
fault_within (StoreShort to) place into all fits h = absurd (omega (arith, fits, h))
fault_within StoreFault place into all fits h = tt
fault_within _ place into all fits h = absurd h

module _ (d : Doc) (key : List ℕ) (n : ℕ) (held : Option (List ℕ)) (is : HoldsFile held n d key) where
  -- a statement about the bytes held is one about the file
  pub of_file : (P : List ℕ → Type 0) → IfSome held P → P (file d key)
  of_file P h = let Q : Option (List ℕ) → Type 0 = λ o. IfSome o P in subst Q is.holds h

  pub node_fits : (l k : ℕ) → l ≤ top_level n → k < level_count n l → node_place n l k + 32 ≤ length (file d key)
  node_fits l k low lt =
      let c : ℕ = length (cipher_fragments d key) in
      let below : count_below n (suc l) ≤ digest_count n = count_below-le n (suc l) (suc (top_level n)) (omega (arith, low)) in
      omega (arith, length-file d key, is.count, below, lt, ap digest_count is.count)

  pub node_given : (l k place : ℕ) (into : List ℕ) → l ≤ top_level n → k < level_count n l → place ≡ node_place n l k → length into ≡ 32
      → IfSome held (GivesWhole {T = Unit {0}} (Ok tt) place into) → into ≡ get_or (digests_at sha256 (cipher_fragments d key) l) k []
  node_given l k place into low lt at size h =
      let given : into ≡ take (length into) (drop place (file d key)) = of_file (GivesWhole {T = Unit {0}} (Ok tt) place into) h in
      let P : ℕ → Type 0 = λ m. IsNode m l k in
      let Q : ℕ → Type 0 = λ m. place ≡ node_place m l k in
      given ∙ ap (λ (m : ℕ). take m (drop place (file d key))) size
      ∙ ap (λ (m : ℕ). take 32 (drop m (file d key))) (subst Q is.count at)
      ∙ digest_of_file d key l k (subst P is.count (record { on_level = low; within = lt }))

  pub node_fault : (l k place : ℕ) (into : List ℕ) (fault : ReadFault) → l ≤ top_level n → k < level_count n l → place ≡ node_place n l k → length into ≡ 32
      → IfSome held (GivesWhole {T = Unit {0}} (Err fault) place into) → IsStoreFault fault
  node_fault l k place into fault low lt at size h =
      fault_within fault place into (file d key) (omega (arith, node_fits l k low lt, at, size)) (of_file (GivesWhole {T = Unit {0}} (Err fault) place into) h)

  pub sibling_given : (l k place : ℕ) (into : List ℕ) → l ≤ top_level n → sibling_of k < level_count n l → place ≡ node_place n l (sibling_of k) → length into ≡ 32
      → IfSome held (GivesWhole {T = Unit {0}} (Ok tt) place into) → into ≡ sibling_held d key l k
  sibling_given l k place into low lt at size h =
      let P : ℕ → Type 0 = λ m. sibling_of k < level_count m l in
      let there : sibling_of k < level_count (length (cipher_fragments d key)) l = subst P is.count lt in
      node_given l (sibling_of k) place into low lt at size h
      ∙ get_or_default (digests_at sha256 (cipher_fragments d key) l) (sibling_of k) [] absent_child (omega (arith, there, length-digests_at sha256 (cipher_fragments d key) l))

  pub sibling_none : (l k : ℕ) → level_count n l ≤ sibling_of k → absent_child ≡ sibling_held d key l k
  sibling_none l k past =
      let P : ℕ → Type 0 = λ m. level_count m l ≤ sibling_of k in
      let there : level_count (length (cipher_fragments d key)) l ≤ sibling_of k = subst P is.count past in
      sym (get_or_past (digests_at sha256 (cipher_fragments d key) l) (sibling_of k) absent_child (omega (arith, there, length-digests_at sha256 (cipher_fragments d key) l)))

  pub leaf_given : (i place : ℕ) (into : List ℕ) → i < n → place ≡ 64 + 256 * i → length into ≡ 256
      → IfSome held (GivesWhole {T = Unit {0}} (Ok tt) place into) → into ≡ get_or (cipher_fragments d key) i []
  leaf_given i place into lt at size h =
      let given : into ≡ take (length into) (drop place (file d key)) = of_file (GivesWhole {T = Unit {0}} (Ok tt) place into) h in
      given ∙ ap (λ (m : ℕ). take m (drop place (file d key))) size
      ∙ ap (λ (m : ℕ). take 256 (drop m (file d key))) at
      ∙ fragment_of_file d key i (omega (arith, lt, is.count))

  pub leaf_fault : (i place : ℕ) (into : List ℕ) (fault : ReadFault) → i < n → place ≡ 64 + 256 * i → length into ≡ 256
      → IfSome held (GivesWhole {T = Unit {0}} (Err fault) place into) → IsStoreFault fault
  leaf_fault i place into fault lt at size h =
      fault_within fault place into (file d key) (omega (arith, length-file d key, is.count, lt, at, size)) (of_file (GivesWhole {T = Unit {0}} (Err fault) place into) h)

  -- the digest above is that of the parent, from the sibling's or that of an absent child
  pub above_held : (i l at : ℕ) (digest sibling above : List ℕ) → i < n → at ≡ index_at i l → digest ≡ digest_held d key l (index_at i l) → sibling ≡ sibling_held d key l at
      → above ≡ sha256 (parent_string (index_at i l) digest sibling) → above ≡ digest_held d key (l + 1) (index_at i (l + 1))
  above_held i l at digest sibling above lt is_at here there up =
      let on_level : index_at i l < level_count (length (cipher_fragments d key)) l = index_at-lt (length (cipher_fragments d key)) i l (omega (arith, lt, is.count)) in
      up
      ∙ (λ j. sha256 (parent_string (index_at i l) (here j) ((there ∙ ap (λ (k : ℕ). sibling_held d key l k) is_at) j)))
      ∙ ap sha256 (sym (string_above sha256 (cipher_fragments d key) l (index_at i l) on_level))
      ∙ ap (λ (m : ℕ). digest_held d key m (index_at i m)) (sym (add-one l))

-- the same store holds the same file
pub still_holds : (held later : Option (List ℕ)) (n m : ℕ) (d : Doc) (key : List ℕ) → later ≡ held → m ≡ n → HoldsFile held n d key → HoldsFile later m d key
still_holds held later n m d key same count is = record { holds = same ∙ is.holds; count = count ∙ is.count }

-- the digest of a fragment's bytes is that of the file's leaf string
pub leaf_held : (d : Doc) (key : List ℕ) (n i j l : ℕ) (held : Option (List ℕ)) (bytes digest : List ℕ) → HoldsFile held n d key → i < n → bytes ≡ get_or (cipher_fragments d key) i []
    → digest ≡ sha256 (leaf_string i bytes) → j ≡ i → l ≡ 0 → digest ≡ digest_held d key l (index_at j l)
unfolding strings_at
leaf_held d key n i j l held bytes digest is lt here up same_i same_l =
    let none : 0 + i ≡ i = omega arith in
    let P : ℕ → Type 0 = λ k. digest ≡ digest_held d key k (index_at j k) in
    let Q : ℕ → Type 0 = λ k. digest ≡ digest_held d key 0 (index_at k 0) in
    subst P (sym same_l) (subst Q (sym same_i)
    (up ∙ ap (λ (b : List ℕ). sha256 (leaf_string i b)) here
    ∙ ap (λ (k : ℕ). sha256 (leaf_string k (get_or (cipher_fragments d key) i []))) (sym none)
    ∙ ap sha256 (sym (get_or-leaf_strings 0 i (cipher_fragments d key) (omega (arith, lt, is.count))))))
