-- The laws of specs/inside/RowLaws.antt.
use Rattle.acl_bits.specs.inside.RowLaws.{is_member-row_of, is_member-row_of_past}
use Rattle.acl_bits.proofs.Members.{IsRow-row_of}
use Rattle.acl_bits.proofs.number_set.sets_have_what_passes.Goals as goal

pub returns : goal.returns
returns c = record { member = is_member-row_of; past = is_member-row_of_past; row = IsRow-row_of }
