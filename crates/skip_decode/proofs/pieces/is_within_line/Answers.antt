-- The elements of a slice of u8 are bytes.
use Rattle.std.proofs.Common.{◌∙◌, arith}
use Rattle.acl_model.proofs.FormLaws.{within_line-bytes}
use Rattle.skip_decode.proofs.pieces.is_within_line.Goals as goal

pub returns : goal.returns
returns c = c.lacks_line_feed.ensures ∙ within_line-bytes c.args.bytes.now (λ k. let fits = c.type_inv.bytes k in omega (arith, fits))
