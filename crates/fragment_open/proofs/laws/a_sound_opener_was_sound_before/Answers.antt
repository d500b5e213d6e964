use Rattle.fragment_open.proofs.ClashGrowth.{clash-before}
use Rattle.fragment_open.proofs.SoundLemmas.{sound-before}
use Rattle.fragment_open.proofs.laws.a_sound_opener_was_sound_before.Goals as goal

pub returns : goal.returns
returns c = record {
  reads = λ h top before more d key header_is top_is none. clash-before h top before more header_is top_is d key none;
  opener = λ h top kept before after held d key. sound-before h top kept held d key before after;
}
