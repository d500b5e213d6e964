-- A fragment that is held isn't opened, and another one is.
use Rattle.std.proofs.Common.{◌≡◌, Some, inr, rules}
use Rattle.skip_decode.proofs.Touches.{fetched-touched, held-touched, refused-touched}
use Rattle.skip_decode.proofs.window.Window.open.Goals as goal

pub returns-then-eq-clause-opens : goal.returns-then-eq-clause-opens
returns-then-eq-clause-opens g c = λ newest.
    let same : c.args.self.now.at ≡ Some c.args.index = search rules in
    held-touched c.args.index _ (rw same at newest)

pub returns-in_err-fetch-clause-some : goal.returns-in_err-fetch-clause-some
returns-in_err-fetch-clause-some g c = λ newest.
    let other : c.args.self.now.at ≡ Some c.args.index → ⊥ = search rules in
    refused-touched c.args.self.now.at c.args.index c.in_err-fetch.field-0.0 _ _ newest other c.in_err-fetch.ensures.opens

pub returns-clause-opens : goal.returns-clause-opens
returns-clause-opens g c = λ newest.
    let other : c.args.self.now.at ≡ Some c.args.index → ⊥ = search rules in
    fetched-touched c.args.self.now.at c.args.index _ _ newest other c.in_ok-fetch.ensures.opens

pub returns-clause-some : goal.returns-clause-some
returns-clause-some g c = λ newest.
    let other : c.args.self.now.at ≡ Some c.args.index → ⊥ = search rules in
    inr (fetched-touched c.args.self.now.at c.args.index _ _ newest other c.in_ok-fetch.ensures.opens)
