-- The plain stream of a document: its dictionary, its tree, and zeros. The tree is a list of segments, and its bytes
-- are their concatenation, so the byte offset of each part is a sum of lengths. The format is defined by this project
-- (VLDB 2004: the Skip index has tags, descendant tag sets and sizes relative to the parent).
use Rattle.std.specs.Prelude.{ℕ, ◌+◌, ◌-◌, ◌%◌, Bool, true, false, nat_eq, nat_lt, nat_le, ◌&&◌, ◌||◌, List, [], ◌∷◌, ◌++◌, length, map, take, replicate, filter, count_by, unwrap_or}
use Rattle.std.specs.Int.{w16, w32, to_be_bytes}
use Rattle.std.specs.List.{list_any, flat_map, range_with_len}
use Rattle.acl_model.specs.Limits.{most_names, most_stream_bytes}
use Rattle.acl_model.specs.StreamBits.{bits_of, bytes_of}
use Rattle.acl_model.specs.Width.{least_width, binary_length}
use Rattle.acl_model.specs.Document.{height}
use Rattle.acl_model.specs.Dictionary.{name_number, dictionary, dictionary_section}
use Rattle.acl_model.specs.declared.document.Doc.{Doc}
use Rattle.acl_model.specs.declared.document.Item.{Item}
use Rattle.acl_model.specs.declared.document.Element.{Element}
use Rattle.acl_model.specs.declared.document.Item.TheOpen.{Item-F, Element-F}
use Rattle.acl_model.specs.declared.document.Item.TheFolds.{fold-Item, fold-Element}

-- ---- segments

-- A segment of a tree: the head of an element, the number of its attributes, an attribute, the end of the attributes, a
-- text, or the end of an element. A head has the number of the element's name, its tag set, and the length of its
-- content. The two ends have no bytes.
pub data Segment : Type 0 where
  head : (tag : ℕ) → (below : List ℕ) → (long : ℕ) → (bits : List Bool) → Segment
  count : ℕ → Segment
  attribute : List ℕ → Segment
  head_end : ℕ → Segment
  words : List ℕ → Segment
  finish : ℕ → Segment

-- the bytes, preceded by their number in four bytes, big-endian
abbrev pub measured_bytes : List ℕ → List ℕ
measured_bytes bytes = to_be_bytes w32 (length bytes) ++ bytes

-- the bytes of a segment
abbrev pub segment_bytes : Segment → List ℕ
segment_bytes (head tag below long bits) = bytes_of bits
segment_bytes (count n) = to_be_bytes w16 n
segment_bytes (attribute raw) = measured_bytes raw
segment_bytes (head_end tag) = []
segment_bytes (words bytes) = measured_bytes bytes
segment_bytes (finish tag) = []

-- the bytes of the segments, concatenated
abbrev pub bytes_of_segments : List Segment → List ℕ
bytes_of_segments segments = flat_map segment_bytes segments

-- the number of bytes of the segments
unfoldable pub size : List Segment → ℕ
size segments = length (bytes_of_segments segments)

-- the byte offset at which segment k begins, counted from 0
abbrev pub place : List Segment → ℕ → ℕ
place segments k = size (take k segments)

-- ---- heads

-- The number is one of the members.
abbrev pub has_member : List ℕ → ℕ → Bool
has_member members n = list_any (λ m. nat_eq m n) members

-- the numbers below 256 that pass a test, in order; each name has such a number
unfoldable pub numbers_with : (ℕ → Bool) → List ℕ
numbers_with test = filter test (range_with_len 0 most_names)

-- how many members are less than the number
abbrev pub rank : List ℕ → ℕ → ℕ
rank members n = count_by (λ m. nat_lt m n) members

-- the bits of an element's tag set: 0 where it has no element children. Else 1, followed by a bit for each member of
-- the parent's set, which is 1 where the member is in the element's set too.
abbrev pub set_bits : List ℕ → List ℕ → List Bool
set_bits members [] = false ∷ []
set_bits members (n ∷ below) = true ∷ map (has_member (n ∷ below)) members

-- The bits of a head are the bit 1, the rank of the element's number in its parent's set, the bits of its own set, and
-- the content's length in w bits. The rank takes as many bits as the greatest rank in the parent's set has.
unfoldable pub head_bits : List ℕ → ℕ → ℕ → List ℕ → ℕ → List Bool
head_bits members w tag below long =
    true ∷ (bits_of (binary_length (length members - 1)) (rank members tag) ++ (set_bits members below ++ bits_of w long))

-- ---- the tree

-- The part of an element's encoding that doesn't depend on its parent: the number of its name, its tag set, and its
-- content.
pub record Branch : Type 0 where
  pub tag : ℕ
  pub below : List ℕ
  pub content : List Segment

-- A part of a content is a text or an element.
pub data Part : Type 0 where
  text_part : List ℕ → Part
  element_part : Branch → Part

-- The number is that of the element's name, or is in its tag set. A text has no number.
abbrev pub holds_number : ℕ → Part → Bool
holds_number n (text_part bytes) = false
holds_number n (element_part b) = nat_eq b.tag n || has_member b.below n

-- the numbers of the names in the parts, in order
unfoldable pub numbers_in : List Part → List ℕ
numbers_in parts = numbers_with (λ n. list_any (holds_number n) parts)

-- the segments of a part, whose parent has the tag set `members` and the width w for lengths
abbrev pub part_segments : List ℕ → ℕ → Part → List Segment
part_segments members w (text_part bytes) = words bytes ∷ []
part_segments members w (element_part b) =
    head b.tag b.below (size b.content) (head_bits members w b.tag b.below (size b.content)) ∷ (b.content ++ (finish b.tag ∷ []))

-- a content with lengths in w bits: the number of attributes, each attribute, the end of the attributes, and the parts
abbrev pub content_at : ℕ → List ℕ → List (List ℕ) → List Part → ℕ → List Segment
content_at tag members attributes parts w =
    count (length attributes) ∷ (map attribute attributes ++ (head_end tag ∷ flat_map (part_segments members w) parts))

-- the width of a content: the least w such that the content, with lengths in w bits, has less than 2^w bytes
abbrev pub content_width : ℕ → List ℕ → List (List ℕ) → List Part → ℕ
content_width tag members attributes parts = least_width (λ w. size (content_at tag members attributes parts w))

-- the number of a name in the dictionary, and 0 where it isn't there
abbrev pub tag_of : List (List ℕ) → List ℕ → ℕ
tag_of names name = unwrap_or (name_number names name) 0

-- the part of an item
abbrev pub item_part : Item-F Part Branch → Part
item_part (Item-F.Text bytes) = text_part bytes
item_part (Item-F.Child b) = element_part b

-- The tag set of an element contains the numbers of the names in its parts, and its content has its own width.
abbrev pub element_branch : List (List ℕ) → Element-F Part Branch → Branch
element_branch names e = record {
  tag = tag_of names e.name;
  below = numbers_in e.items;
  content = content_at (tag_of names e.name) (numbers_in e.items) e.attributes e.items
      (content_width (tag_of names e.name) (numbers_in e.items) e.attributes e.items);
}

-- the encoding of an element with the names of a dictionary
unfoldable pub branch_of : List (List ℕ) → Element → Branch
branch_of names = fold-Element Part Branch item_part (element_branch names)

-- the same of an item
unfoldable pub part_of : List (List ℕ) → Item → Part
part_of names = fold-Item Part Branch item_part (element_branch names)

-- ---- the stream

-- the segments of a tree, as the only part of a virtual parent. Its tag set is the whole dictionary, and it has the
-- width w for lengths.
abbrev pub tree_at : ℕ → Branch → ℕ → List Segment
tree_at names root w = part_segments (numbers_with (λ n. nat_lt n names)) w (element_part root)

-- the segments of a document's tree, where the virtual parent has the least possible width
unfoldable pub tree_segments : Doc → List Segment
tree_segments d =
    let names = dictionary d in
    let root = branch_of names d.root in
    tree_at (length names) root (least_width (λ w. size (tree_at (length names) root w)))

-- the tree section: the bytes of these segments
abbrev pub tree_section : Doc → List ℕ
tree_section d = bytes_of_segments (tree_segments d)

-- A fragment has 256 bytes.
abbrev pub fragment_len : ℕ
fragment_len = 256

-- the bytes, padded at the end with zeros to a whole number of fragments
abbrev pub filled_fragments : List ℕ → List ℕ
filled_fragments bytes = bytes ++ replicate ((fragment_len - length bytes % fragment_len) % fragment_len) 0

-- the plain stream: the dictionary section and the tree section, padded to a whole number of fragments
abbrev pub plain : Doc → List ℕ
plain d = filled_fragments (dictionary_section (dictionary d) ++ tree_section d)

-- A document has a stream if it has at most 256 names and its two sections have at most 33,554,432 bytes together.
abbrev pub has_stream : Doc → Bool
has_stream d =
    nat_le (length (dictionary d)) most_names
    && nat_le (length (dictionary_section (dictionary d)) + length (tree_section d)) most_stream_bytes

-- the greatest number of elements that are open at once
abbrev pub depth : Doc → ℕ
depth d = height d.root
