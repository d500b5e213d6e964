-- The encoder's answer: the plain stream of a document, and the numbers that a file's header contains. Defined by this
-- project.
use Rattle.std.specs.Prelude.{◌≡◌, ℕ, ◌+◌, true, List, length}
use Rattle.acl_model.specs.Width.{least_width}
use Rattle.acl_model.specs.Dictionary.{dictionary, dictionary_section}
use Rattle.acl_model.specs.Stream.{Segment, size, branch_of, tree_at, tree_section, plain, has_stream, depth}
use Rattle.acl_model.specs.declared.document.Doc.{Doc}
use Rattle.acl_model.specs.declared.document.Element.{Element}
use Rattle.skip_encode.specs.declared.plain.Plain.{Plain}

-- The document has a stream, and the answer contains its bytes, the lengths of its tree and dictionary sections, the
-- number of its names, and its depth.
pub record IsPlainOf (d : Doc) (p : Plain) : Type 0 where
  pub defined : has_stream d ≡ true
  pub bytes : p.bytes ≡ plain d
  pub tree_length : p.tree ≡ length (tree_section d)
  pub dictionary_length : p.dictionary ≡ length (dictionary_section (dictionary d))
  pub names : p.tags ≡ length (dictionary d)
  pub levels : p.depth ≡ depth d

-- the length of a document's dictionary section and tree section together, in bytes
abbrev pub sections_size : Doc → ℕ
sections_size d = length (dictionary_section (dictionary d)) + length (tree_section d)

-- the segments of a tree under a dictionary, with the least width that the tree's length fits
unfoldable pub tree_under : List (List ℕ) → Element → List Segment
tree_under names root = tree_at (length names) (branch_of names root) (least_width (λ w. size (tree_at (length names) (branch_of names root) w)))
