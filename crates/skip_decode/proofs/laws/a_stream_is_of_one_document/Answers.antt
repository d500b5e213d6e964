-- Both theorems follow from `one_document` of proofs/Depths.antt.
use Rattle.std.proofs.Common.{sym, ◌∙◌}
use Rattle.skip_decode.proofs.Depths.{one_document}
use Rattle.skip_decode.proofs.laws.a_stream_is_of_one_document.Goals as goal

pub returns : goal.returns
returns c = record {
  numbers = λ d e stream header one other.
      one_document d e one.document other.document one.within other.within (sym one.bytes ∙ other.bytes)
      (sym one.dictionary ∙ other.dictionary) (sym one.tree ∙ other.tree);
  lengths = λ d e good fine within inside first second same. one_document d e good fine within inside same first second;
}
