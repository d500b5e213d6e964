use Rattle.std.proofs.Common.{sym, ◌∙◌}
use Rattle.skip_decode.proofs.Built.{built-spelled}
use Rattle.skip_decode.proofs.laws.events_build_their_document.Goals as goal

pub returns : goal.returns
returns c = record {
  built = built-spelled;
  one = λ names shown other events few spells spelled.
      sym (built-spelled names shown events few spells) ∙ built-spelled names other events few spelled;
}
