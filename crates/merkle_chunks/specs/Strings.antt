-- The strings that are hashed for a file, and their names. Defined by this project.
use Rattle.std.specs.Prelude.{ℕ, ◌+◌, List, [], ◌∷◌, ◌++◌, replicate}
use Rattle.std.specs.Int.{w64, to_be_bytes}
use Rattle.merkle_chunks.specs.Layout.{digest_len}

-- The name of a string: its level in the table and its index on that level, both from 0, or that it is the root string.
-- Level 0 has the leaf strings of the fragments, and the levels above it have the node strings.
pub data StringName : Type 0 where
  spot : (level : ℕ) → (index : ℕ) → StringName
  root : StringName

-- the name of a fragment's leaf string
abbrev pub leaf : ℕ → StringName
leaf index = spot 0 index

-- the leaf string of a fragment: the byte 0, its index in eight bytes (big-endian), and its enciphered bytes
abbrev pub leaf_string : ℕ → List ℕ → List ℕ
leaf_string index cipher = 0 ∷ (to_be_bytes w64 index ++ cipher)

-- the string of a node: the byte 1 and the digests of its children, the left one first
abbrev pub node_string : List ℕ → List ℕ → List ℕ
node_string left right = 1 ∷ (left ++ right)

-- the root string: the byte 2, the header and the top digest
abbrev pub root_string : List ℕ → List ℕ → List ℕ
root_string header top = 2 ∷ (header ++ top)

-- the digest used for a right child that is absent: 32 zeros
abbrev pub absent_child : List ℕ
absent_child = replicate digest_len 0

-- the leaf strings of fragments, the first of which has the index i
abbrev pub leaf_strings : ℕ → List (List ℕ) → List (List ℕ)
leaf_strings i [] = []
leaf_strings i (fragment ∷ fragments) = leaf_string i fragment ∷ leaf_strings (i + 1) fragments

-- the node strings over a level of digests: one for each two neighbours, and one with an absent child for a last digest
-- without a right neighbour
abbrev pub node_strings : List (List ℕ) → List (List ℕ)
node_strings [] = []
node_strings (last ∷ []) = node_string last absent_child ∷ []
node_strings (left ∷ right ∷ digests) = node_string left right ∷ node_strings digests
