use Rattle.std.proofs.Common.{◌∙◌, sym}
use Rattle.merkle_chunks.specs.File.{HasRoot}
use Rattle.fragment_open.specs.Settled.{root_by}
use Rattle.fragment_open.proofs.HeaderLemmas.{served_range}
use Rattle.fragment_open.proofs.DocumentLemmas.{header-agrees, newest-agrees}
use Rattle.fragment_open.proofs.laws.good_reads_are_of_the_file_or_clash.Goals as goal

pub returns : goal.returns
returns c = record {
  header = λ d key root h top reads document key_bytes has checked none.
      let right : HasRoot d key (root_by h top) = record { defined = has.defined; same = has.same ∙ sym checked.root_is } in
      header-agrees d key h top reads document key_bytes (served_range h reads checked.header_is) checked.header_is checked.top_is right none;
  fragment = λ d key root h top reads newest before document key_bytes has checked opened none.
      let right : HasRoot d key (root_by h top) = record { defined = has.defined; same = has.same ∙ sym checked.root_is } in
      newest-agrees d key h top reads document key_bytes (served_range h reads checked.header_is) checked.header_is checked.top_is right none newest before opened checked.good;
}
