use Rattle.std.proofs.Common.{List, ℕ, Result, Ok, Err}
use Rattle.std.specs.Result.{IfOk}
use Rattle.licence.specs.BodyText.{Says}
use Rattle.licence.specs.Body.{read_body_of, Reads}
use Rattle.licence.specs.declared.fault.LicenceFault.{LicenceFault}
use Rattle.licence.specs.declared.terms.Licence.{Licence}
use Rattle.licence.proofs.BodyLaws.{read_body_from-says}
use Rattle.licence.proofs.body.read_body.Goals as goal

said : (bytes : List ℕ) (answer : Result Licence LicenceFault) → Reads (read_body_of bytes) answer → IfOk answer (λ licence. Says bytes licence)
said bytes (Ok licence) reads = read_body_from-says 1 bytes licence reads
said bytes (Err fault) reads = tt

pub returns-clause-said : goal.returns-clause-said
returns-clause-said c = said c.args.bytes.now c.read_body_from.result c.read_body_from.ensures
