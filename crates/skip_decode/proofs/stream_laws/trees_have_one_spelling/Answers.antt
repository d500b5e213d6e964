use Rattle.skip_decode.proofs.ReadRoots.{tree_read}
use Rattle.skip_decode.proofs.stream_laws.trees_have_one_spelling.Goals as goal

pub returns : goal.returns
returns c = record {
  spelled = λ k names stream events are formed named fit whole small ends.
      let tree = tree_read k stream fit names are.few formed are.distinct named whole small events ends in
      (tree.root, tree.spells, tree.bytes, tree.low);
}
