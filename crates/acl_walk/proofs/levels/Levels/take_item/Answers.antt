use Rattle.std.proofs.Common.{◌≡◌, ◌-◌, suc, ℕ, length, ap, ◌∙◌, arith, refl}
use Rattle.std.specs.Vec.{vec_len}
use Rattle.acl_walk.specs.inside.LevelsInMemory.{open_elements}
use Rattle.acl_walk.proofs.LevelLaws.{left-none, left-last, same-last, takes-first}
use Rattle.acl_walk.proofs.levels.Levels.take_item.Goals as goal

pub returns-in_default : goal.returns-in_default
returns-in_default c =
    let kept = c.self.inside.stack.ok.0 in
    (left-none _ c.self.inside.stack.items c.self.view_is (grind (arith, kept, c.in_default.ensures.variant)), c.self.view_is)

pub returns-in_err-first : goal.returns-in_err-first
returns-in_err-first c =
    let items = c.self.inside.stack.items in
    let n : ℕ = vec_len c.self.inside.stack - 1 in
    let level = c.in-Some.level.now in
    let kept = c.self.inside.stack.ok.0 in
    let long : length items ≡ suc n = omega (arith, kept, c.in-Some.ensures.variant.0 refl) in
    rw c.from_residual.ensures (left-last _ items n level c.self.view_is long c.in-Some.ensures.value c.in_err-first.ensures.cases, ap open_elements (same-last items n level c.in-Some.ensures.value) ∙ c.self.view_is)

pub returns : goal.returns
returns c =
    let items = c.self.inside.stack.items in
    let n : ℕ = vec_len c.self.inside.stack - 1 in
    let level = c.in-Some.level.now in
    let kept = c.self.inside.stack.ok.0 in
    let long : length items ≡ suc n = omega (arith, kept, c.in-Some.ensures.variant.0 refl) in
    takes-first _ items n level (record { tag = level.tag; items = c.in_ok-first.rest }) c.in_ok-first.first.now c.self.view_is long c.in-Some.ensures.value c.in_ok-first.ensures.cases.0 refl
