-- The laws of proofs/FragmentLemmas.antt.
use Rattle.position_cipher.proofs.FragmentLemmas.{unlocked-locked_fragment, locked-unlocked_fragment, AreBytes-locked_fragment, AreBytes-unlocked_fragment}
use Rattle.position_cipher.proofs.laws.unlocking_undoes_locking.Goals as goal

pub returns : goal.returns
returns c = record {
  unlocked = unlocked-locked_fragment;
  locked = locked-unlocked_fragment;
  locked_bytes = AreBytes-locked_fragment;
  unlocked_bytes = AreBytes-unlocked_fragment;
}
