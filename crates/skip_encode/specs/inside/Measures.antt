-- A measure is what the encoder keeps of an element between its two passes: the number of its name, its tag set, and
-- the size of its content in bytes. Defined by this project.
use Rattle.std.specs.Prelude.{◌≡◌, ℕ, ◌-◌, ◌^◌, ◌<◌, ◌≤◌, List, [], ◌∷◌, ◌++◌, length, drop}
use Rattle.std.specs.List.{flat_map}
use Rattle.acl_model.specs.Width.{binary_length}
use Rattle.acl_model.specs.Stream.{Segment, head, count, attribute, head_end, words, finish, Part, text_part, element_part, Branch, size, rank}
use Rattle.skip_encode.specs.declared.measures.Measure.{Measure}

-- the measure of an element: its branch without the content itself
abbrev pub measure_of : Branch → Measure
measure_of b = record { tag = b.tag; below = b.below; long = size b.content }

-- The head of an element has its measure, and no other segment has one.
abbrev pub head_measures : Segment → List Measure
head_measures (head tag below long bits) = record { tag = tag; below = below; long = long } ∷ []
head_measures (count n) = []
head_measures (attribute raw) = []
head_measures (head_end tag) = []
head_measures (words bytes) = []
head_measures (finish tag) = []

-- the measures of the elements in a content, in the order in which they start
abbrev pub measures_in : List Segment → List Measure
measures_in content = flat_map head_measures content

-- A text has no measures, and an element has its own and then those of the elements inside it.
abbrev pub part_measures : Part → List Measure
part_measures (text_part bytes) = []
part_measures (element_part b) = measure_of b ∷ measures_in b.content

-- The list begins with `prefix`.
abbrev pub BeginsWith : List Measure → List Measure → Type 0
BeginsWith list prefix = list ≡ prefix ++ drop (length prefix) list

-- An element can be written within a parent with these members and this width: its number and the length of its content
-- fit their bits.
pub record Fits (members : List ℕ) (w : ℕ) (b : Branch) : Type 0 where
  pub number : rank members b.tag < 2 ^ binary_length (length members - 1)
  pub long : size b.content < 2 ^ w
  pub small : size b.content ≤ 33554432

-- A text can be written where its length fits four bytes, and an element where it fits its parent.
abbrev pub PartFits : List ℕ → ℕ → Part → Type 0
PartFits members w (text_part bytes) = length bytes < 2 ^ 32
PartFits members w (element_part b) = Fits members w b
