use Rattle.std.proofs.Common.{◌≡◌, ◌<◌, ◌+◌, ◌-◌, ◌++◌, ◌∷◌, [], ◌∙◌, ap, map, reverse, take, length, arith}
use Rattle.std.proofs.lemmas.List.{take_all}
use Rattle.predicate_walk.specs.inside.States.{does_answer}
use Rattle.predicate_walk.proofs.RowLaws.{push_step, push_end}
use Rattle.predicate_walk.proofs.rows.push_answers.Goals as goal

pub loop-left-init : goal.loop-left-init
loop-left-init c = record {
  within = omega arith;
  so_far = ap (λ w. c.args.flags.now ++ map (does_answer c.args.question) (reverse w))
      (take_all (length c.args.way.now) c.args.way.now (omega arith));
}

pub loop-left-preserved : goal.loop-left-preserved
loop-left-preserved c =
    let within : c.loop-left.left - 1 < length c.args.way.now = omega arith in
    let next : (c.loop-left.left - 1) + 1 ≡ c.loop-left.left = omega arith in
    record {
      within = omega arith;
      so_far =
          push_step (does_answer c.args.question) c.args.way.now (c.loop-left.left - 1) c.index-way-left.result
          c.loop-left.flags c.push_flag.new.flags _
          within c.index-way-left.is
          (c.in_ok-push_flag.ensures ∙ ap (λ b. c.loop-left.flags ++ (b ∷ [])) c.does_answer.ensures)
          (ap (λ n. c.loop-left.flags ++ map (does_answer c.args.question) (reverse (take n c.args.way.now))) next ∙ c.loop-left.invariant.so_far);
    }

pub returns : goal.returns
returns c =
    let none : c.loop-left.left ≡ 0 = omega arith in
    push_end (does_answer c.args.question) c.args.way.now c.loop-left.left c.loop-left.flags _ none
    c.loop-left.invariant.so_far
