use Rattle.std.proofs.Common.{length}
use Rattle.tree_meaning.proofs.sign.+sign_below.Given as goal

abbrev pub decreases-sign_below : goal.decreases-sign_below
decreases-sign_below l = length l.place.now
