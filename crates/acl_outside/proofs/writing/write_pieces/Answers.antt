use Rattle.acl_outside.proofs.Remaining.{loop}
use Rattle.acl_outside.proofs.writing.write_pieces.Goals as goal

pub returns-in_err-write_piece : goal.returns-in_err-write_piece
returns-in_err-write_piece g c = search loop
