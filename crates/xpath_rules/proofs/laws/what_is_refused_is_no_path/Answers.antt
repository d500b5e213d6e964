use Rattle.xpath_rules.proofs.Places.{refused_read, refused_place}
use Rattle.xpath_rules.proofs.laws.what_is_refused_is_no_path.Goals as goal

pub returns : goal.returns
returns c = record { refused = refused_read; place = refused_place }
