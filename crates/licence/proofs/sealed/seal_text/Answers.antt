use Rattle.std.proofs.Common.{◌∙◌, ap, sym, List, ◌∷◌, ◌++◌, ℕ, Ok}
use Rattle.std.proofs.lemmas.Result.{err_from_is_err_and}
use Rattle.hex.specs.Hex.{encode_lower}
use Rattle.acl_model.specs.Ascii.{line_feed}
use Rattle.licence.specs.Sealed.{seal_word}
use Rattle.licence.specs.Body.{read_body_of}
use Rattle.licence.proofs.Steps.{Reads-refused}
use Rattle.licence.proofs.SealLaws.{sealed_text_of-refused, sealed_text_of-read}
use Rattle.licence.proofs.sealed.seal_text.Goals as goal

pub returns-in_err-read_body : goal.returns-in_err-read_body
returns-in_err-read_body c =
    let p = err_from_is_err_and c.from_residual.result c.from_residual.ensures.1 in
    record {
      exact = rw (p.1, p.2) (Reads-refused (read_body_of c.args.body.now) _ _ (λ fault refused. sealed_text_of-refused c.args.seal_key.now c.args.body.now fault refused) c.in_err-read_body.ensures.exact);
    }

pub returns : goal.returns
returns c = record {
  exact =
      sealed_text_of-read c.args.seal_key.now c.args.body.now _ c.in_ok-read_body.ensures.exact
      ∙ ap (λ (t : List ℕ). Ok t) (sym (c.in_ok-sealed_text.ensures
      ∙ ap (λ (s : List ℕ). seal_word ++ (encode_lower s ++ (line_feed ∷ c.args.body.now))) c.hmac.ensures));
}
