use Rattle.xpath_rules.proofs.Places.{place_begun, place_longest, place_within, place_capped}
use Rattle.xpath_rules.proofs.laws.a_place_is_of_whole_texts.Goals as goal

pub returns : goal.returns
returns c = record { begun = place_begun; longest = place_longest; within = place_within; capped = place_capped }
