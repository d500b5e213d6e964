use Rattle.xpath_rules.proofs.RoundTrip.{canonical_spells, canonical_shorter, canonical_read}
use Rattle.xpath_rules.proofs.laws.the_canonical_spelling_is_shortest.Goals as goal

pub returns : goal.returns
returns c = record { spelled = canonical_spells; shortest = canonical_shorter; read_again = canonical_read }
