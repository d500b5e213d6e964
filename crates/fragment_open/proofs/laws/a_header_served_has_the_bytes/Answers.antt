use Rattle.fragment_open.proofs.HeaderLemmas.{header_in-is, header_in-of}
use Rattle.fragment_open.proofs.laws.a_header_served_has_the_bytes.Goals as goal

pub returns : goal.returns
returns c = λ bytes h. (λ found. header_in-of h bytes found, λ is. header_in-is h bytes is.0 is.1)
