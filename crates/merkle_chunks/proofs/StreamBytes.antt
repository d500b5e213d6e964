-- The plain stream of a document consists of bytes, and so do its fragments.
use Rattle.std.proofs.Common.{◌≡◌, ℕ, zero, suc, ◌+◌, ◌-◌, ◌*◌, ◌/◌, ◌%◌, ◌^◌, ◌<◌, ◌≤◌, Bool, true, false, ◌&&◌, nat_le, nat_lt, List, [], ◌∷◌, ◌++◌, map, length, take, drop, get_or, replicate, refl, ap, sym, ◌∙◌, subst, arith, lit<}
use Rattle.std.specs.Cmp.{first_so, second_so}
use Rattle.std.specs.Int.{byte_at, bytes_high_first, w16, w32, to_be_bytes}
use Rattle.std.specs.List.{list_all, flat_map, concat}
use Rattle.std.proofs.Math.Nat.{pow-suc, pow-le-pow_right}
use Rattle.std.proofs.lemmas.Bool.Decides.{nat_tests}
use Rattle.std.proofs.lemmas.List.{length-take}
use Rattle.acl_model.specs.Ascii.{is_byte, are_bytes}
use Rattle.acl_model.specs.Names.{is_name}
use Rattle.acl_model.specs.Lines.{lacks, is_within_line}
use Rattle.acl_model.specs.Ascii.{line_feed}
use Rattle.acl_model.specs.Document.{is_raw_attribute, is_well_formed, item_well_formed, height, is_document}
use Rattle.acl_model.specs.StreamBits.{number_after, filled_bits, first_bytes, bytes_of}
use Rattle.acl_model.specs.Width.{least_width}
use Rattle.acl_model.specs.Dictionary.{dictionary, dictionary_section, spelled_name}
use Rattle.acl_model.specs.Stream.{Segment, attribute, head_end, finish, measured_bytes, bytes_of_segments, size, head_bits, Part, Branch, text_part, element_part, part_segments, content_at, content_width, numbers_in, numbers_with, tag_of, branch_of, part_of, tree_at, tree_segments, tree_section, plain}
use Rattle.acl_model.proofs.ByteLaws.{are_bytes-append, is_name-bytes}
use Rattle.acl_model.proofs.FormEquations.{well_formed_is, item_well_formed-Text, item_well_formed-Child}
use Rattle.acl_model.proofs.StreamEquations.{branch_of_is, part_of-Text, part_of-Child}
use Rattle.acl_model.proofs.SizeLaws.{bytes_of_segments-append}
use Rattle.acl_model.specs.declared.document.Doc.{Doc}
use Rattle.acl_model.specs.declared.document.Item.{Item, roll-Item}
use Rattle.acl_model.specs.declared.document.Element.{Element, roll-Element}
use Rattle.acl_model.specs.declared.document.Item.TheVariants.{rolls-Text, rolls-Child}
use Rattle.acl_model.specs.declared.document.Item.TheOpen.{Item-F}
use Rattle.acl_model.specs.declared.document.Item.TheFolds.{ind-Element, map-Item, map-Element}
use Rattle.aes_block.specs.Aes.{AreBytes}
use Rattle.position_cipher.specs.Fragments.{unlocked_fragment}
use Rattle.position_cipher.proofs.FragmentLemmas.{unlocked-locked_fragment}
use Rattle.merkle_chunks.specs.Table.{fragments}
use Rattle.merkle_chunks.specs.File.{cipher_fragments}
use Rattle.merkle_chunks.proofs.PieceLemmas.{sized_at, get_or-first_chunks}
use Rattle.merkle_chunks.proofs.FileLemmas.{length-fragments, sized-fragments, length-plain, length-cipher_fragments, fragment_is_locked}
use Rattle.merkle_chunks.proofs.RangeLemmas.{names_of_document}

-- ---- numbers and bits in bytes

byte_so : (n : ℕ) → n < 256 → is_byte n ≡ true
byte_so n lt = grind (arith, nat_tests)

below_256 : (n : ℕ) → is_byte n ≡ true → n < 256
below_256 n is = grind (arith, nat_tests)

length_fits : (n : ℕ) → nat_le n 255 ≡ true → n < 256
length_fits n le = grind (arith, nat_tests)

byte_at-byte : (k n : ℕ) → is_byte (byte_at k n) ≡ true
byte_at-byte zero n = byte_so (n % 256) (omega arith)
byte_at-byte (suc k) n = byte_so (n / 256 ^ suc k % 256) (omega arith)

number-bytes : (k n : ℕ) → are_bytes (bytes_high_first k n) ≡ true
number-bytes zero n = refl
number-bytes (suc k) n = rw (byte_at-byte k n, number-bytes k n) refl

zeros-bytes : (n : ℕ) → are_bytes (replicate n 0) ≡ true
zeros-bytes zero = refl
zeros-bytes (suc n) = zeros-bytes n

number_after-lt : (high : ℕ) (bits : List Bool) → number_after high bits < (high + 1) * 2 ^ length bits
unfolding number_after
number_after-lt high [] = omega arith
number_after-lt high (false ∷ bits) =
    omega (arith, number_after-lt (2 * high + 0) bits, ap (λ (p : ℕ). (high + 1) * p) (pow-suc 2 (length bits)))
number_after-lt high (true ∷ bits) =
    omega (arith, number_after-lt (2 * high + 1) bits, ap (λ (p : ℕ). (high + 1) * p) (pow-suc 2 (length bits)))

first_bytes-bytes : (n : ℕ) (bits : List Bool) → are_bytes (first_bytes n bits) ≡ true
unfolding first_bytes
first_bytes-bytes zero bits = refl
first_bytes-bytes (suc n) bits =
    let few : length (take 8 bits) ≤ 8 = omega (arith, length-take 8 bits) in
    let small : 2 ^ length (take 8 bits) ≤ 2 ^ 8 = pow-le-pow_right (omega arith) few in
    rw (byte_so (number_after 0 (take 8 bits)) (omega (arith, number_after-lt 0 (take 8 bits), small)), first_bytes-bytes n (drop 8 bits)) refl

bits-bytes : (bits : List Bool) → are_bytes (bytes_of bits) ≡ true
unfolding bytes_of
bits-bytes bits = first_bytes-bytes (length (filled_bits bits) / 8) (filled_bits bits)

measured-bytes : (bytes : List ℕ) → are_bytes bytes ≡ true → are_bytes (measured_bytes bytes) ≡ true
measured-bytes bytes are = are_bytes-append (to_be_bytes w32 (length bytes)) bytes (number-bytes 4 (length bytes)) are

-- ---- segments

-- segments one after the other
segments-append : (xs ys : List Segment) → are_bytes (bytes_of_segments xs) ≡ true → are_bytes (bytes_of_segments ys) ≡ true → are_bytes (bytes_of_segments (xs ++ ys)) ≡ true
segments-append xs ys one two = ap are_bytes (bytes_of_segments-append xs ys) ∙ are_bytes-append (bytes_of_segments xs) (bytes_of_segments ys) one two

-- A part of a content consists of bytes.
abbrev part_is_bytes : Part → Bool
part_is_bytes (text_part bytes) = are_bytes bytes
part_is_bytes (element_part b) = are_bytes (bytes_of_segments b.content)

part-bytes : (members : List ℕ) (w : ℕ) (part : Part) → part_is_bytes part ≡ true → are_bytes (bytes_of_segments (part_segments members w part)) ≡ true
part-bytes members w (text_part bytes) are = are_bytes-append (measured_bytes bytes) [] (measured-bytes bytes are) refl
part-bytes members w (element_part b) are =
    are_bytes-append (bytes_of (head_bits members w b.tag b.below (size b.content))) (bytes_of_segments (b.content ++ (finish b.tag ∷ [])))
    (bits-bytes (head_bits members w b.tag b.below (size b.content))) (segments-append b.content (finish b.tag ∷ []) are refl)

parts-bytes : (members : List ℕ) (w : ℕ) (parts : List Part) → list_all part_is_bytes parts ≡ true → are_bytes (bytes_of_segments (flat_map (part_segments members w) parts)) ≡ true
parts-bytes members w [] are = refl
parts-bytes members w (part ∷ parts) are =
    segments-append (part_segments members w part) (flat_map (part_segments members w) parts)
    (part-bytes members w part (first_so (part_is_bytes part) (list_all part_is_bytes parts) are))
    (parts-bytes members w parts (second_so (part_is_bytes part) (list_all part_is_bytes parts) are))

attributes-bytes : (attributes : List (List ℕ)) → list_all is_raw_attribute attributes ≡ true → are_bytes (bytes_of_segments (map attribute attributes)) ≡ true
attributes-bytes [] good = refl
attributes-bytes (raw ∷ attributes) good =
    let within = first_so (are_bytes raw) (lacks line_feed raw) (second_so _ (is_within_line raw) (first_so (is_raw_attribute raw) (list_all is_raw_attribute attributes) good)) in
    are_bytes-append (measured_bytes raw) (bytes_of_segments (map attribute attributes)) (measured-bytes raw within)
    (attributes-bytes attributes (second_so (is_raw_attribute raw) (list_all is_raw_attribute attributes) good))

content-bytes : (tag : ℕ) (members : List ℕ) (attributes : List (List ℕ)) (parts : List Part) (w : ℕ) → list_all is_raw_attribute attributes ≡ true → list_all part_is_bytes parts ≡ true
    → are_bytes (bytes_of_segments (content_at tag members attributes parts w)) ≡ true
content-bytes tag members attributes parts w good are =
    are_bytes-append (to_be_bytes w16 (length attributes)) (bytes_of_segments (map attribute attributes ++ (head_end tag ∷ flat_map (part_segments members w) parts))) (number-bytes 2 (length attributes))
    (segments-append (map attribute attributes) (head_end tag ∷ flat_map (part_segments members w) parts) (attributes-bytes attributes good) (parts-bytes members w parts are))

-- ---- elements, by what is inside them

module _ (names : List (List ℕ)) where
  abbrev ElementIsBytes : Element → Type 0
  ElementIsBytes e = is_well_formed is_name e ≡ true → are_bytes (bytes_of_segments (branch_of names e).content) ≡ true

  abbrev ItemIsBytes : Item → Type 0
  ItemIsBytes item = item_well_formed is_name item ≡ true → part_is_bytes (part_of names item) ≡ true

  items-bytes : (pairs : List ((item : Item) × ItemIsBytes item)) → list_all (λ b. b) (map (item_well_formed is_name) (map (λ p. p.0) pairs)) ≡ true
      → list_all part_is_bytes (map (part_of names) (map (λ p. p.0) pairs)) ≡ true
  items-bytes [] good = refl
  items-bytes (pair ∷ pairs) good =
      let items : List Item = map (λ p. p.0) pairs in
      let own = first_so (item_well_formed is_name pair.0) (list_all (λ b. b) (map (item_well_formed is_name) items)) good in
      let others = second_so (item_well_formed is_name pair.0) (list_all (λ b. b) (map (item_well_formed is_name) items)) good in
      rw (pair.1 own, items-bytes pairs others) refl

  element-bytes : (e : Element) → (list_all (λ b. b) (map (item_well_formed is_name) e.items) ≡ true → list_all part_is_bytes (map (part_of names) e.items) ≡ true) → ElementIsBytes e
  element-bytes e inside good =
      let form = sym (well_formed_is is_name e) ∙ good in
      let own = is_name e.name in
      let few = nat_le (length e.attributes) 65535 in
      let raw = list_all is_raw_attribute e.attributes in
      let items = list_all (λ b. b) (map (item_well_formed is_name) e.items) in
      let prefix = first_so (own && few && raw) items form in
      ap (λ (b : Branch). are_bytes (bytes_of_segments b.content)) (branch_of_is names e)
      ∙ content-bytes (tag_of names e.name) (numbers_in (map (part_of names) e.items)) e.attributes (map (part_of names) e.items)
      (content_width (tag_of names e.name) (numbers_in (map (part_of names) e.items)) e.attributes (map (part_of names) e.items))
      (second_so (own && few) raw prefix) (inside (second_so (own && few && raw) items form))

  item-bytes : (y : Item-F ((item : Item) × ItemIsBytes item) ((e : Element) × ElementIsBytes e))
      → ItemIsBytes (roll-Item (map-Item ((item : Item) × ItemIsBytes item) ((e : Element) × ElementIsBytes e) Item Element (λ p. p.0) (λ p. p.0) y))
  item-bytes (Item-F.Text bytes) = subst ItemIsBytes (sym (rolls-Text bytes)) (λ good.
      ap part_is_bytes (part_of-Text names bytes) ∙ first_so (are_bytes bytes) (lacks line_feed bytes) (sym (item_well_formed-Text is_name bytes) ∙ good))
  item-bytes (Item-F.Child pair) = subst ItemIsBytes (sym (rolls-Child pair.0)) (λ good.
      ap part_is_bytes (part_of-Child names pair.0) ∙ pair.1 (sym (item_well_formed-Child is_name pair.0) ∙ good))

  branch-bytes : (e : Element) → ElementIsBytes e
  branch-bytes = ind-Element ItemIsBytes ElementIsBytes
      (λ x y is. subst (λ z. ItemIsBytes (roll-Item z)) is (item-bytes y))
      (λ x y is. subst (λ z. ElementIsBytes (roll-Element z)) is (element-bytes (roll-Element (map-Element ((item : Item) × ItemIsBytes item) ((e : Element) × ElementIsBytes e) Item Element (λ p. p.0) (λ p. p.0) y)) (items-bytes y.items)))

-- ---- the stream

section-bytes : (names : List (List ℕ)) → list_all is_name names ≡ true → are_bytes (concat (map spelled_name names)) ≡ true
section-bytes [] good = refl
section-bytes (name ∷ names) good =
    let own : is_name name ≡ true = first_so (is_name name) (list_all is_name names) good in
    let short : nat_le (length name) 255 ≡ true = second_so _ (nat_le (length name) 255) own in
    are_bytes-append (spelled_name name) (concat (map spelled_name names))
    (rw (byte_so (length name) (length_fits (length name) short), is_name-bytes name own) refl)
    (section-bytes names (second_so (is_name name) (list_all is_name names) good))

tree-bytes : (d : Doc) → is_document d ≡ true → are_bytes (tree_section d) ≡ true
unfolding tree_segments
tree-bytes d good =
    let names : ℕ = length (dictionary d) in
    let root : Branch = branch_of (dictionary d) d.root in
    part-bytes (numbers_with (λ n. nat_lt n names)) (least_width (λ w. size (tree_at names root w))) (element_part root)
    (branch-bytes (dictionary d) d.root (first_so (is_well_formed is_name d.root) (nat_le (height d.root) 255) good))

pub plain-bytes : (d : Doc) → is_document d ≡ true → are_bytes (plain d) ≡ true
plain-bytes d good =
    let bytes : List ℕ = dictionary_section (dictionary d) ++ tree_section d in
    are_bytes-append bytes (replicate ((256 - length bytes % 256) % 256) 0)
    (are_bytes-append (dictionary_section (dictionary d)) (tree_section d)
    (are_bytes-append (to_be_bytes w16 (length (dictionary d))) (concat (map spelled_name (dictionary d))) (number-bytes 2 (length (dictionary d)))
    (section-bytes (dictionary d) (names_of_document d good)))
    (tree-bytes d good))
    (zeros-bytes ((256 - length bytes % 256) % 256))

-- ---- a fragment of it

bytes-take : (n : ℕ) (bytes : List ℕ) → are_bytes bytes ≡ true → are_bytes (take n bytes) ≡ true
bytes-take zero bytes are = refl
bytes-take (suc n) [] are = refl
bytes-take (suc n) (b ∷ bytes) are =
    rw (first_so (is_byte b) (are_bytes bytes) are, bytes-take n bytes (second_so (is_byte b) (are_bytes bytes) are)) refl

bytes-drop : (n : ℕ) (bytes : List ℕ) → are_bytes bytes ≡ true → are_bytes (drop n bytes) ≡ true
bytes-drop zero bytes are = are
bytes-drop (suc n) [] are = refl
bytes-drop (suc n) (b ∷ bytes) are = bytes-drop n bytes (second_so (is_byte b) (are_bytes bytes) are)

each_fits : (bytes : List ℕ) → are_bytes bytes ≡ true → (k : ℕ) → get_or bytes k 0 < 256
each_fits [] are k = lit< tt
each_fits (b ∷ bytes) are zero = below_256 b (first_so (is_byte b) (are_bytes bytes) are)
each_fits (b ∷ bytes) are (suc k) = each_fits bytes (second_so (is_byte b) (are_bytes bytes) are) k

-- a fragment of bytes is 256 of them
pub fragment-bytes : (bytes : List ℕ) (i : ℕ) → are_bytes bytes ≡ true → i < length (fragments bytes) → AreBytes 256 (get_or (fragments bytes) i [])
fragment-bytes bytes i are lt =
    let here : get_or (fragments bytes) i [] ≡ take 256 (drop (256 * i) bytes) =
    get_or-first_chunks 256 (length bytes / 256) i bytes (omega (arith, length-fragments bytes)) in
    record {
      count = sized_at 256 (fragments bytes) i (sized-fragments bytes) lt;
      fit = each_fits (get_or (fragments bytes) i []) (ap are_bytes here ∙ bytes-take 256 (drop (256 * i) bytes) (bytes-drop (256 * i) bytes are));
    }

-- so deciphering a fragment of a document's file gives that of its plain stream
pub fragment_unlocks : (d : Doc) (key : List ℕ) (i : ℕ) → is_document d ≡ true → AreBytes 16 key → i < length (cipher_fragments d key)
    → unlocked_fragment key i (get_or (cipher_fragments d key) i []) ≡ get_or (fragments (plain d)) i []
fragment_unlocks d key i good is_key lt =
    let within : i < length (fragments (plain d)) = omega (arith, length-fragments (plain d), length-cipher_fragments d key is_key, length-plain d key) in
    ap (unlocked_fragment key i) (fragment_is_locked d key is_key i lt)
    ∙ unlocked-locked_fragment key (get_or (fragments (plain d)) i []) i is_key (fragment-bytes (plain d) i (plain-bytes d good) within)
