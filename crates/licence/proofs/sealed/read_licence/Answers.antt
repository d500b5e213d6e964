use Rattle.std.proofs.Common.{◌∙◌, sym, List, ℕ, Result, Ok, Err}
use Rattle.std.specs.Result.{IfOk}
use Rattle.licence.specs.Body.{Reads}
use Rattle.licence.specs.Sealed.{SaysSealed, read_licence_of}
use Rattle.licence.specs.declared.fault.LicenceFault.{LicenceFault}
use Rattle.licence.specs.declared.terms.Licence.{Licence}
use Rattle.licence.proofs.Steps.{Reads-along}
use Rattle.licence.proofs.SealLaws.{read_licence_of-no_line, read_licence_of-no_seal, read_licence_of-other_seal, read_licence_of-right_seal, read_licence_of-says, seals_differ, seals_agree}
use Rattle.licence.proofs.sealed.read_licence.Goals as goal

said : (key bytes : List ℕ) (answer : Result Licence LicenceFault) → Reads (read_licence_of bytes key) answer → IfOk answer (λ licence. SaysSealed key bytes licence)
said key bytes (Ok licence) reads = read_licence_of-says key bytes licence reads
said key bytes (Err fault) reads = tt

pub returns-in_default-clause-exact : goal.returns-in_default-clause-exact
returns-in_default-clause-exact c = read_licence_of-no_line _ _ c.in_default.ensures.parts

pub returns-in_default-read_32_bytes-clause-exact : goal.returns-in_default-read_32_bytes-clause-exact
returns-in_default-read_32_bytes-clause-exact c =
    read_licence_of-no_seal _ _ _ _ c.in-Some.ensures.parts (sym c.read_32_bytes.ensures ∙ c.in_default-read_32_bytes.is)

pub returns-then-ne-clause-exact : goal.returns-then-ne-clause-exact
returns-then-ne-clause-exact c =
    read_licence_of-other_seal _ _ _ _ _ _ c.in-Some.ensures.parts (sym c.read_32_bytes.ensures ∙ c.in-Some-read_32_bytes.is) c.hmac-made.ensures
    (seals_differ _ _ _ c.ne.ensures c.if-ne.true)

pub returns-clause-exact : goal.returns-clause-exact
returns-clause-exact c =
    Reads-along _ _ _
    (read_licence_of-right_seal _ _ _ _ _ _ c.in-Some.ensures.parts (sym c.read_32_bytes.ensures ∙ c.in-Some-read_32_bytes.is) c.hmac-made.ensures
    (seals_agree _ _ _ c.ne.ensures c.if-ne.false)) c.read_body_from.ensures

pub returns-clause-said : goal.returns-clause-said
returns-clause-said c =
    said c.args.seal_key.now c.args.bytes.now c.read_body_from.result
    (Reads-along _ _ _
    (read_licence_of-right_seal _ _ _ _ _ _ c.in-Some.ensures.parts (sym c.read_32_bytes.ensures ∙ c.in-Some-read_32_bytes.is) c.hmac-made.ensures
    (seals_agree _ _ _ c.ne.ensures c.if-ne.false)) c.read_body_from.ensures)
