use Rattle.std.proofs.Common.{◌∙◌, ap}
use Rattle.std.proofs.lemmas.Result.{err_from_is_err_and}
use Rattle.licence.specs.Forms.{Lines}
use Rattle.licence.specs.Keys.{keys_at_end}
use Rattle.licence.proofs.KeyLaws.{ReadsKeys-error, read_keys_of-document, read_keys_of-seal, read_keys_of-end, read_keys_of-says}
use Rattle.licence.proofs.keys.read_keys.Goals as goal

pub returns-in_err-document-clause-exact : goal.returns-in_err-document-clause-exact
returns-in_err-document-clause-exact c =
    let p = err_from_is_err_and c.from_residual.result c.from_residual.ensures.1 in
    rw (p.1, p.2) (ReadsKeys-error _ _ (read_keys_of-document _ _ c.in_err-document.ensures))

pub returns-in_err-seal-clause-exact : goal.returns-in_err-seal-clause-exact
returns-in_err-seal-clause-exact c =
    let p = err_from_is_err_and c.from_residual-in_err-seal.result c.from_residual-in_err-seal.ensures.1 in
    rw (p.1, p.2) (ReadsKeys-error _ _ (read_keys_of-seal _ _ _ _ c.in_ok-document.ensures c.in_err-seal.ensures))

pub returns-in-None-clause-exact : goal.returns-in-None-clause-exact
returns-in-None-clause-exact c =
    read_keys_of-end _ _ _ _ _ c.in_ok-document.ensures c.in_ok-seal.ensures
    ∙ ap (λ (ls : Lines). keys_at_end (record { document = c.in_ok-document.document; seal = c.in_ok-seal.seal }) ls) c.in-None.ensures.lines

pub returns-in-None-clause-said : goal.returns-in-None-clause-said
returns-in-None-clause-said c =
    read_keys_of-says _ _ (read_keys_of-end _ _ _ _ _ c.in_ok-document.ensures c.in_ok-seal.ensures
    ∙ ap (λ (ls : Lines). keys_at_end (record { document = c.in_ok-document.document; seal = c.in_ok-seal.seal }) ls) c.in-None.ensures.lines)

pub returns-in-Some-clause-exact : goal.returns-in-Some-clause-exact
returns-in-Some-clause-exact c =
    read_keys_of-end _ _ _ _ _ c.in_ok-document.ensures c.in_ok-seal.ensures
    ∙ ap (λ (ls : Lines). keys_at_end (record { document = c.in_ok-document.document; seal = c.in_ok-seal.seal }) ls) c.in-Some.ensures.lines
