use Rattle.std.proofs.Common.{◌≡◌, rules}
use Rattle.xpath_rules.specs.Canonical.{canonical_text}
use Rattle.xpath_rules.proofs.RoundTrip.{written_read, written_spells}
use Rattle.xpath_rules.proofs.writing.write_path.Goals as goal

pub returns-clause-read_again : goal.returns-clause-read_again
returns-clause-read_again c =
    let is : c.from_vec.result ≡ canonical_text c.args.path.now = search rules in written_read c.from_vec.result c.args.path.now is

pub returns-clause-spells : goal.returns-clause-spells
returns-clause-spells c =
    let is : c.from_vec.result ≡ canonical_text c.args.path.now = search rules in written_spells c.from_vec.result c.args.path.now is
