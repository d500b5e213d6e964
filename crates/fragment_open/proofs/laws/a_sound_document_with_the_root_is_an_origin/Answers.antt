use Rattle.fragment_open.proofs.SoundLemmas.{is-origin}
use Rattle.fragment_open.proofs.laws.a_sound_document_with_the_root_is_an_origin.Goals as goal

pub returns : goal.returns
returns c = λ h top key kept served held d range key_bytes settled are_held document has sound.
    is-origin h top key key_bytes d document has range kept served held settled are_held sound
