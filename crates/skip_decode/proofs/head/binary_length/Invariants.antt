-- No smaller width is enough, so the search from this width finds what the whole search finds.
use Rattle.std.proofs.Common.{◌≡◌, ◌-◌, ◌^◌, nat_lt}
use Rattle.acl_model.specs.Width.{first_from, binary_length}
use Rattle.skip_decode.proofs.head.binary_length.Given as goal

abbrev pub invariant-loop-width : goal.invariant-loop-width
invariant-loop-width l = first_from (λ w. nat_lt l.n (2 ^ w)) (32 - l.width) l.width ≡ binary_length l.n
