use Rattle.std.proofs.Common.{◌∙◌}
use Rattle.merkle_chunks.proofs.Places.{same_header, tree_in-header, dictionary_in-header, tags_in-header, depth_in-header, check_in-header}
use Rattle.merkle_chunks.proofs.header.Header.at_its_places.Goals as goal

-- each number is that of the header
pub returns : goal.returns
returns c = λ h range same. same_header h c.from_be_bytes.result c.from_be_bytes-2.result c.from_be_bytes-3.result c.from_be_bytes-4.result c.copy_from_slice.new.self
    (c.from_be_bytes.ensures ∙ tree_in-header h c.args.bytes.now range same)
    (c.from_be_bytes-2.ensures ∙ dictionary_in-header h c.args.bytes.now range same)
    (c.from_be_bytes-3.ensures ∙ tags_in-header h c.args.bytes.now range same)
    (c.from_be_bytes-4.ensures ∙ depth_in-header h c.args.bytes.now range same)
    (c.copy_from_slice.ensures.after ∙ check_in-header h c.args.bytes.now range same)
