use Rattle.xpath_rules.proofs.Places.{answer_spelled, answer_within, answer_refused, answer_place}
use Rattle.xpath_rules.proofs.reading.read_path.Goals as goal

pub returns : goal.returns
returns c = record {
  exact = c.path_of.ensures;
  spelled = answer_spelled c.path_of.result c.args.user.now c.args.bytes.now c.path_of.ensures;
  within = answer_within c.path_of.result c.args.user.now c.args.bytes.now c.path_of.ensures;
  refused = answer_refused c.path_of.result c.args.user.now c.args.bytes.now c.path_of.ensures;
  place = answer_place c.path_of.result c.args.user.now c.args.bytes.now c.path_of.ensures;
}
