use Rattle.acl_model.proofs.StreamRows.{one_text-tree, one_text-section, one_child-tree, one_child-section, two_children-tree, two_children-section}
use Rattle.acl_model.proofs.laws.streams_of_small_documents.Goals as goal

pub returns : goal.returns
returns c = record {
  text_names = one_text-section;
  text = one_text-tree;
  child_names = one_child-section;
  child = one_child-tree;
  children_names = two_children-section;
  children = two_children-tree;
}
