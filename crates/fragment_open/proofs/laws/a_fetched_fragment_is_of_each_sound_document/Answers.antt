use Rattle.fragment_open.proofs.SoundLemmas.{fetched-is}
use Rattle.fragment_open.proofs.laws.a_fetched_fragment_is_of_each_sound_document.Goals as goal

pub returns : goal.returns
returns c = λ h top key bytes index served held d key_bytes fetched of_held document has sound.
    fetched-is h top key key_bytes d document has index bytes served held fetched of_held sound
