-- A tally counts the parts of a content. The content's length follows from it for each width. Defined by this project.
use Rattle.std.specs.Prelude.{ℕ, ◌+◌, ◌-◌, ◌*◌, ◌/◌, ◌≤◌, nat_eq, ◌||◌, List, [], ◌∷◌, length, sum_by}
use Rattle.acl_model.specs.Width.{least_width, binary_length}
use Rattle.acl_model.specs.Stream.{Part, text_part, element_part, has_member, numbers_with}
use Rattle.skip_encode.specs.inside.Measures.{measure_of}
use Rattle.skip_encode.specs.declared.measures.Measure.{Measure}
use Rattle.skip_encode.specs.declared.tally.Tally.{Tally}

-- ---- a content's parts, counted

-- an element counts as a leaf where its tag set is empty
abbrev pub leaf_count : List ℕ → ℕ
leaf_count [] = 1
leaf_count (n ∷ below) = 0

-- an element counts as an inner element where its tag set is not empty
abbrev pub inner_count : List ℕ → ℕ
inner_count [] = 0
inner_count (n ∷ below) = 1

-- a tally with one more element: its content's bytes, one more leaf or inner element, and the numbers of its name and
-- of the names inside it.
abbrev pub with_element : Measure → Tally → Tally
with_element m t = record {
  plain = t.plain + m.long;
  leaves = t.leaves + leaf_count m.below;
  inners = t.inners + inner_count m.below;
  members = numbers_with (λ n. (nat_eq m.tag n || has_member m.below n) || has_member t.members n);
}

-- a tally with one more text: its length in four bytes, and its bytes
abbrev pub with_text : ℕ → Tally → Tally
with_text long t = record { plain = t.plain + (4 + long); leaves = t.leaves; inners = t.inners; members = t.members }

-- a tally with one more part
abbrev pub with_part : Part → Tally → Tally
with_part (text_part bytes) t = with_text (length bytes) t
with_part (element_part b) t = with_element (measure_of b) t

-- the tally of parts that come after `plain` bytes of the content
abbrev pub tally_of : ℕ → List Part → Tally
tally_of plain [] = record { plain = plain; leaves = 0; inners = 0; members = [] }
tally_of plain (p ∷ parts) = with_part p (tally_of plain parts)

-- the size of what comes before the parts: the number of attributes in two bytes, and each attribute after its length
-- in four
abbrev pub prefix_size : List (List ℕ) → ℕ
prefix_size attributes = 2 + sum_by (λ raw. 4 + length raw) attributes

-- ---- the bytes that follow from a tally

-- the size in bytes of the head of a leaf, in a parent with this many members and this width
abbrev pub leaf_head : ℕ → ℕ → ℕ
leaf_head members w = (1 + (binary_length (members - 1) + (1 + w)) + 7) / 8

-- the size in bytes of the head of an inner element, in the same parent
abbrev pub inner_head : ℕ → ℕ → ℕ
inner_head members w = (1 + (binary_length (members - 1) + (1 + members + w)) + 7) / 8

-- the size in bytes of all that was counted, with heads of this width
unfoldable pub laid_size : ℕ → Tally → ℕ → ℕ
laid_size members t w = t.plain + (t.leaves * leaf_head members w + t.inners * inner_head members w)

-- the same with the least width that fits
abbrev pub laid_length : ℕ → Tally → ℕ
laid_length members t = laid_size members t (least_width (laid_size members t))

-- A tally is small where its bytes without heads are within the limit, and are at least two for each element.
pub record IsSmall (t : Tally) : Type 0 where
  pub within : t.plain ≤ 33554432
  pub counted : 2 * (t.leaves + t.inners) ≤ t.plain
