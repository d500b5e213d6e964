-- A position in the stream of a document: where the next event is read, which elements are open there, and what comes
-- next. The format is defined by this project, after the Skip index (VLDB 2004).
use Rattle.std.specs.Prelude.{ℕ, ◌+◌, ◌-◌, ◌^◌, List, [], ◌∷◌, map}
use Rattle.std.specs.List.{range_with_len}
use Rattle.acl_model.specs.Width.{binary_length}
use Rattle.skip_decode.specs.declared.position.Level.{Level}
pub use Rattle.skip_decode.specs.declared.position.Numbers.{Numbers}
use Rattle.skip_decode.specs.declared.position.Next.{Next}
use Rattle.skip_decode.specs.declared.position.Next.TheVariants.{Root, Finish}

-- A position: the open elements, the innermost first; what comes next; and the byte offset in the stream of the next
-- byte that is needed.
pub record Position : Type 0 where
  pub levels : List Level
  pub next : Next
  pub place : ℕ

-- the byte offset at which the tree section ends
abbrev pub tree_end : Numbers → ℕ
tree_end k = k.dictionary + k.tree

-- by how many bytes a content of this length may shrink before its length has fewer binary digits
abbrev pub spare_of : ℕ → ℕ
spare_of long = long - 2 ^ (binary_length long - 1)

-- The virtual parent of the root. Its content is the tree section, and its tag set is the whole dictionary. It has no
-- tag: 0 stands there.
abbrev pub above_root : Numbers → Level
above_root k = record {
  below = range_with_len 0 k.names;
  met = [];
  end = tree_end k;
  spare = spare_of k.tree;
  width = binary_length k.tree;
  tag = 0;
}

-- the position before the first event: at the head of the root, after the dictionary section
abbrev pub first_position : Numbers → Position
first_position k = record { levels = []; next = Root; place = k.dictionary }

-- the tags of the open elements, the innermost first
abbrev pub tags_of : Position → List ℕ
tags_of position = map (λ (level : Level). level.tag) position.levels

-- the position after a pass: at the end of the innermost open element; unchanged where none is open
abbrev pub passed_in : List Level → Position → Position
passed_in [] position = position
passed_in (level ∷ up) position = record { levels = level ∷ up; next = Finish; place = level.end }

-- the same, among the position's own open elements
abbrev pub passed : Position → Position
passed position = passed_in position.levels position
