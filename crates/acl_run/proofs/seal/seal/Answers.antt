use Rattle.acl_outcome.specs.declared.outcome.Outcome.TheVariants.{Done, SinkFault}
use Rattle.std.proofs.Common.{refl}
use Rattle.acl_outcome.specs.Ends.{end_of}
use Rattle.acl_run.specs.Readers.{most_key_bytes}
use Rattle.acl_run.proofs.Lengths.{ends_at_input, keys_end, keys_not_long, long_anyway, within_anyway}
use Rattle.acl_run.proofs.SealSteps.{ends_at_body, ends_after}
use Rattle.acl_run.proofs.seal.seal.Goals as goal

pub returns-in-Err-read_sealed-clause-order : goal.returns-in-Err-read_sealed-clause-order
returns-in-Err-read_sealed-clause-order g c =
    ends_at_body (g.K.Source.left c.args.keys.now) (g.Q.Source.left c.args.input.now) c.in-Ok.secret c.in-Err-read_sealed.outcome
    c.in-Ok.ensures.answer c.in-Err-read_sealed.ensures.ends c.in-Err-read_sealed.ensures.answer

pub returns-in-Ok-write_text-clause-order : goal.returns-in-Ok-write_text-clause-order
returns-in-Ok-write_text-clause-order g c =
    ends_after (g.K.Source.left c.args.keys.now) (g.Q.Source.left c.args.input.now) c.in-Ok.secret c.in-Ok-read_sealed.text Done
    c.in-Ok.ensures.answer c.in-Ok-read_sealed.ensures.answer refl

pub returns-clause-order : goal.returns-clause-order
returns-clause-order g c =
    ends_after (g.K.Source.left c.args.keys.now) (g.Q.Source.left c.args.input.now) c.in-Ok.secret c.in-Ok-read_sealed.text SinkFault
    c.in-Ok.ensures.answer c.in-Ok-read_sealed.ensures.answer refl

-- ---- lengths

pub returns-in-Err-clause-long_keys : goal.returns-in-Err-clause-long_keys
returns-in-Err-clause-long_keys g c =
    long_anyway most_key_bytes (g.K.Source.left c.args.keys.now) _ (refl, refl)

pub returns-in-Err-clause-long_input : goal.returns-in-Err-clause-long_input
returns-in-Err-clause-long_input g c =
    keys_end (g.K.Source.left c.args.keys.now) c.in-Err.outcome _ c.in-Err.ensures.answer

pub returns-in-Err-read_sealed-clause-long_keys : goal.returns-in-Err-read_sealed-clause-long_keys
returns-in-Err-read_sealed-clause-long_keys g c =
    keys_not_long (g.K.Source.left c.args.keys.now) c.in-Ok.secret _ c.in-Ok.ensures.answer

pub returns-in-Err-read_sealed-clause-long_input : goal.returns-in-Err-read_sealed-clause-long_input
returns-in-Err-read_sealed-clause-long_input g c =
    ends_at_input most_key_bytes (g.K.Source.left c.args.keys.now) (end_of c.in-Err-read_sealed.outcome) _ _
    c.in-Ok.ensures.to_the_end c.in-Err-read_sealed.ensures.read

pub returns-in-Ok-write_text-clause-long_keys : goal.returns-in-Ok-write_text-clause-long_keys
returns-in-Ok-write_text-clause-long_keys g c =
    keys_not_long (g.K.Source.left c.args.keys.now) c.in-Ok.secret _ c.in-Ok.ensures.answer

pub returns-in-Ok-write_text-clause-long_input : goal.returns-in-Ok-write_text-clause-long_input
returns-in-Ok-write_text-clause-long_input g c =
    within_anyway most_key_bytes (g.K.Source.left c.args.keys.now) (Unit {0}) tt

pub returns-clause-long_keys : goal.returns-clause-long_keys
returns-clause-long_keys g c =
    keys_not_long (g.K.Source.left c.args.keys.now) c.in-Ok.secret _ c.in-Ok.ensures.answer

pub returns-clause-long_input : goal.returns-clause-long_input
returns-clause-long_input g c =
    within_anyway most_key_bytes (g.K.Source.left c.args.keys.now) (Unit {0}) tt
