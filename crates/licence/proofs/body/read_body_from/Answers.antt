use Rattle.std.proofs.Common.{List, ◌+◌, [], ap, ◌∙◌, Ok, Result}
use Rattle.std.proofs.lemmas.Result.{err_from_is_err_and}
use Rattle.acl_model.specs.Lines.{lines}
use Rattle.acl_model.specs.declared.rule.Rule.{Rule}
use Rattle.licence.specs.declared.fault.LicenceFault.{LicenceFault}
use Rattle.licence.specs.declared.terms.Licence.{Licence}
use Rattle.licence.specs.Forms.{◌>>=◌}
use Rattle.licence.specs.Body.{rules_from}
use Rattle.licence.proofs.Steps.{Reads-fault, Reads-refused, read_body_from-title, read_body_from-root, read_body_from-user, read_body_from-rules}
use Rattle.licence.proofs.body.read_body_from.Goals as goal

pub returns-in_err-rest : goal.returns-in_err-rest
returns-in_err-rest c =
    let p = err_from_is_err_and c.from_residual.result c.from_residual.ensures.1 in
    rw (p.1, p.2) (Reads-fault _ _ (read_body_from-title _ _ _ c.in_err-rest.ensures))

pub returns-in_err-root : goal.returns-in_err-root
returns-in_err-root c =
    let p = err_from_is_err_and c.from_residual-in_err-root.result c.from_residual-in_err-root.ensures.1 in
    rw (p.1, p.2) (Reads-fault _ _ (read_body_from-root _ _ _ _ c.in_ok-rest.ensures c.in_err-root.ensures))

pub returns-in_err-user : goal.returns-in_err-user
returns-in_err-user c =
    let p = err_from_is_err_and c.from_residual-in_err-user.result c.from_residual-in_err-user.ensures.1 in
    rw (p.1, p.2) (Reads-fault _ _ (read_body_from-user _ _ _ _ _ _ c.in_ok-rest.ensures c.in_ok-root.ensures c.in_err-user.ensures))

pub returns-in_err-rules : goal.returns-in_err-rules
returns-in_err-rules c =
    let p = err_from_is_err_and c.from_residual-in_err-rules.result c.from_residual-in_err-rules.ensures.1 in
    let rest : Result (List Rule) LicenceFault → Result Licence LicenceFault = λ r. r >>= λ rules. Ok (record { root = c.in_ok-root.root; user = c.in_ok-user.user.now; rules = rules }) in
    rw (p.1, p.2)
    (Reads-refused (rules_from c.in_ok-user.user.now (c.args.first + 3) [] (lines c.in_ok-user.rest.now)) _ _
    (λ fault refused. read_body_from-rules _ _ _ _ _ _ _ c.in_ok-rest.ensures c.in_ok-root.ensures c.in_ok-user.ensures ∙ ap rest refused) c.in_err-rules.ensures)

pub returns : goal.returns
returns c =
    let rest : Result (List Rule) LicenceFault → Result Licence LicenceFault = λ r. r >>= λ rules. Ok (record { root = c.in_ok-root.root; user = c.in_ok-user.user.now; rules = rules }) in
    rw c.in_ok-user-2.ensures
    (read_body_from-rules _ _ _ _ _ _ _ c.in_ok-rest.ensures c.in_ok-root.ensures c.in_ok-user.ensures ∙ ap rest c.in_ok-rules.ensures)
