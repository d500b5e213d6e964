-- The result of the encoder's first pass over a document. Defined by this project.
use Rattle.std.specs.Prelude.{◌≡◌, true, length}
use Rattle.acl_model.specs.Dictionary.{dictionary, dictionary_section}
use Rattle.acl_model.specs.Stream.{element_part, branch_of, tree_section, has_stream, depth}
use Rattle.acl_model.specs.declared.document.Doc.{Doc}
use Rattle.skip_encode.specs.inside.Measures.{part_measures}
use Rattle.skip_encode.specs.declared.measured.Measured.{Measured}

-- The document has a stream, and the result contains the lengths of its tree and dictionary sections, the number of its
-- names and its depth. It also contains the names, the dictionary section and the measures of the elements.
pub record IsMeasured (d : Doc) (m : Measured) : Type 0 where
  pub defined : has_stream d ≡ true
  pub tree_length : m.tree ≡ length (tree_section d)
  pub dictionary_length : m.dictionary ≡ length (dictionary_section (dictionary d))
  pub count : m.tags ≡ length (dictionary d)
  pub levels : m.depth ≡ depth d
  pub names : m.names ≡ dictionary d
  pub section : m.section ≡ dictionary_section (dictionary d)
  pub measures : m.measures ≡ part_measures (element_part (branch_of (dictionary d) d.root))
