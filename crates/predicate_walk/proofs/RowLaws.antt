-- The rows that loops make.
use Rattle.std.proofs.Common.{◌≡◌, ℕ, ◌+◌, ◌<◌, ◌≤◌, suc, Bool, false, List, [], ◌∷◌, ◌++◌, map, reverse, length, get_or, take, drop, drop-cons, replicate, refl, ap, sym, ◌∙◌, append_assoc, append-nil, length-append, length-drop, add-one, add-zero, arith}
use Rattle.std.proofs.lemmas.List.{take_more, take-append-drop, length-replicate, reverse-append, length-map, length-reverse, length-take-le, drop-drop, drop_at, take_at, take_all, drop_all, get_or-drop, get_or_append_left}
use Rattle.acl_model.specs.Predicates.{holds}
use Rattle.acl_model.specs.declared.document.Element.{Element}
use Rattle.acl_model.specs.declared.path.Pred.{Pred}
use Rattle.acl_model.specs.declared.path.PredStep.{PredStep}
use Rattle.predicate_walk.specs.declared.truths.PredRef.{PredRef}
use Rattle.predicate_walk.specs.inside.Met.{is_enough_at}
use Rattle.predicate_walk.specs.inside.States.{answers, number_of_states, later_states, states_at, row_at, inner_row_at, last_states, patched}
use Rattle.predicate_walk.specs.Truths.{truths_at, preds_in}
use Rattle.predicate_walk.proofs.StateLaws.{length-later_states, last_holds}

-- one more step of a path, from its end
pub push_step : (f : PredStep → Bool) (way : List PredStep) (n : ℕ) (s : PredStep) (flags next all : List Bool)
    → n < length way → s ≡ get_or way n s → next ≡ flags ++ (f s ∷ [])
    → flags ++ map f (reverse (take (n + 1) way)) ≡ all → next ++ map f (reverse (take n way)) ≡ all
push_step f way n s flags next all within is more so_far =
    ap (λ r. r ++ map f (reverse (take n way))) more
    ∙ append_assoc flags (f s ∷ []) (map f (reverse (take n way)))
    ∙ ap (λ x. flags ++ map f (x ∷ reverse (take n way))) is
    ∙ ap (λ r. flags ++ map f r) (sym (reverse-append (take n way) (get_or way n s ∷ [])))
    ∙ ap (λ r. flags ++ map f (reverse r)) (sym (take_more way n s within))
    ∙ so_far

pub push_end : (f : PredStep → Bool) (way : List PredStep) (n : ℕ) (flags all : List Bool) → n ≡ 0
    → flags ++ map f (reverse (take n way)) ≡ all → flags ≡ all
push_end f way n flags all none so_far =
    sym (append-nil flags) ∙ ap (λ k. flags ++ map f (reverse (take k way))) (sym none) ∙ so_far

pub length-answers : (ask : PredStep → Bool) (preds : List Pred) → length (answers ask preds) ≡ number_of_states preds
unfolding answers
length-answers ask [] = refl
length-answers ask (pred ∷ preds) =
    let steps : length (map ask (reverse pred.way)) ≡ length pred.way = length-map (reverse pred.way) ask ∙ length-reverse pred.way in
    let rest : length (answers ask preds) ≡ number_of_states preds = length-answers ask preds in
    let all : length (map ask (reverse pred.way) ++ answers ask preds) ≡ length (map ask (reverse pred.way)) + length (answers ask preds) = length-append (map ask (reverse pred.way)) (answers ask preds) in
    omega (arith, steps, rest, all)

clear_steps : (ask : PredStep → Bool) (way : List PredStep) (rest clear : List Bool) → replicate (length rest) false
    ≡ clear → replicate (length (map ask way ++ rest)) false ≡ map (λ s. false) way ++ clear
clear_steps ask [] rest clear same = same
clear_steps ask (s ∷ way) rest clear same = ap (λ r. false ∷ r) (clear_steps ask way rest clear same)

-- a row of that many flags, none of them set
pub clear_is : (ask : PredStep → Bool) (preds : List Pred) → replicate (length (answers ask preds)) false
    ≡ answers (λ s. false) preds
unfolding answers
clear_is ask [] = refl
clear_is ask (pred ∷ preds) =
    ap (λ r. false ∷ r)
    (clear_steps ask (reverse pred.way) (answers ask preds) (answers (λ s. false) preds) (clear_is ask preds))

-- one more predicate
pub answers-cons : (ask : PredStep → Bool) (pred : Pred) (preds : List Pred) → answers ask (pred ∷ preds)
    ≡ false ∷ (map ask (reverse pred.way) ++ answers ask preds)
unfolding answers
answers-cons ask pred preds = refl

pub answers-nil : (ask : PredStep → Bool) → answers ask [] ≡ []
unfolding answers
answers-nil ask = refl

pub refs_next : (refs : List PredRef) (i : ℕ) (r : PredRef) → i < length refs → r ≡ get_or refs i r
    → preds_in (drop i refs) ≡ r.pred.now ∷ preds_in (drop (i + 1) refs)
refs_next refs i r within is =
    ap preds_in (drop-cons refs i r within)
    ∙ ap (λ x. x.pred.now ∷ preds_in (drop (suc i) refs)) (sym is)
    ∙ ap (λ n. r.pred.now ∷ preds_in (drop n refs)) (sym (add-one i))

-- one more predicate's flags
pub answer_step : (ask : PredStep → Bool) (refs : List PredRef) (i : ℕ) (r : PredRef) (flags begun next all : List Bool) → i < length refs → r ≡ get_or refs i r
    → begun ≡ flags ++ (false ∷ []) → next ≡ begun ++ map ask (reverse r.pred.now.way)
    → flags ++ answers ask (preds_in (drop i refs)) ≡ all → next ++ answers ask (preds_in (drop (i + 1) refs)) ≡ all
answer_step ask refs i r flags begun next all within is begins more so_far =
    let rest : List Bool = answers ask (preds_in (drop (i + 1) refs)) in
    ap (λ s. s ++ rest) (more ∙ ap (λ b. b ++ map ask (reverse r.pred.now.way)) begins)
    ∙ append_assoc (flags ++ (false ∷ [])) (map ask (reverse r.pred.now.way)) rest
    ∙ append_assoc flags (false ∷ []) (map ask (reverse r.pred.now.way) ++ rest)
    ∙ ap (λ s. flags ++ s)
    (sym (answers-cons ask r.pred.now (preds_in (drop (i + 1) refs))) ∙ ap (answers ask) (sym (refs_next refs i r within is)))
    ∙ so_far

pub answer_end : (ask : PredStep → Bool) (refs : List PredRef) (i : ℕ) (flags all : List Bool) → length refs ≤ i
    → flags ++ answers ask (preds_in (drop i refs)) ≡ all → flags ≡ all
answer_end ask refs i flags all past so_far =
    sym (append-nil flags)
    ∙ ap (λ s. flags ++ s) (sym (ap (λ s. answers ask (preds_in s)) (drop_all i refs past) ∙ answers-nil ask))
    ∙ so_far

-- ---- a row at the end of its element

-- one more predicate's first state
pub targets_step : (pred : Pred) (rest : List Pred) (e : Element) (start : ℕ) (row next all : List Bool) (v : Bool)
    → start + number_of_states (pred ∷ rest) ≡ length row → drop start row ≡ inner_row_at (pred ∷ rest) e
    → take start row ++ row_at (pred ∷ rest) e ≡ all
    → v ≡ is_enough_at pred e → next ≡ take start row ++ (v ∷ drop (start + 1) row)
    → (drop (start + (length pred.way + 1)) next ≡ inner_row_at rest e)
    × (take (start + (length pred.way + 1)) next ++ row_at rest e ≡ all) × (length next ≡ length row)
unfolding inner_row_at row_at
targets_step pred rest e start row next all v long left made is put =
    let prefix : List Bool = take start row in
    let later : List Bool = later_states pred e in
    let others : List Bool = inner_row_at rest e in
    let prefix_long : length prefix ≡ start = length-take-le start row (omega (arith, long)) in
    let later_long : length later ≡ length pred.way = length-later_states pred e in
    let after : drop (start + 1) row ≡ later ++ others = sym (drop-drop 1 start row) ∙ ap (drop 1) left in
    let whole : next ≡ (prefix ++ (v ∷ later)) ++ others = put ∙ ap (λ s. prefix ++ (v ∷ s)) after ∙ sym (append_assoc prefix (v ∷ later) others) in
    let place : length (prefix ++ (v ∷ later)) ≡ start + (length pred.way + 1) = omega (arith, prefix_long, later_long, length-append prefix (v ∷ later)) in (
      ap (drop (start + (length pred.way + 1))) whole
          ∙ drop_at (prefix ++ (v ∷ later)) others (start + (length pred.way + 1)) place,
      ap (λ s. take (start + (length pred.way + 1)) s ++ row_at rest e) whole
          ∙ ap (λ s. s ++ row_at rest e) (take_at (prefix ++ (v ∷ later)) others (start + (length pred.way + 1)) place)
          ∙ append_assoc prefix (v ∷ later) (row_at rest e)
          ∙ ap (λ b. prefix ++ (b ∷ (later ++ row_at rest e))) is
          ∙ made,
      ap length put ∙ length-append prefix (v ∷ drop (start + 1) row) ∙ same_length row start (omega (arith, long)),
    )
  where
    same_length : (row : List Bool) (n : ℕ) → n < length row → length (take n row) + suc (length (drop (n + 1) row))
        ≡ length row
    same_length row n within = omega (arith, length-take-le n row (omega arith), length-drop (n + 1) row)

pub targets_end : (e : Element) (start : ℕ) (row all : List Bool) → start + 0 ≡ length row
    → take start row ++ row_at [] e ≡ all → row ≡ all
unfolding row_at
targets_end e start row all long made =
    sym (take_all start row (omega (arith, long))) ∙ sym (append-nil (take start row)) ∙ made

-- the first state of the next predicate isn't set yet
pub target_clear : (pred : Pred) (rest : List Pred) (e : Element) (start : ℕ) (row : List Bool) → drop start row
    ≡ inner_row_at (pred ∷ rest) e → get_or row start false ≡ false
unfolding inner_row_at
target_clear pred rest e start row left =
    ap (λ n. get_or row n false) (sym (add-zero start)) ∙ sym (get_or-drop start row 0 false)
    ∙ ap (λ s. get_or s 0 false) left

pub length-inner_row_at : (preds : List Pred) (e : Element) → length (inner_row_at preds e) ≡ number_of_states preds
unfolding inner_row_at
length-inner_row_at [] e = refl
length-inner_row_at (pred ∷ preds) e =
    omega (arith, length-later_states pred e, length-inner_row_at preds e, length-append (later_states pred e) (inner_row_at preds e))

pub length-row_at : (preds : List Pred) (e : Element) → length (row_at preds e) ≡ number_of_states preds
unfolding row_at
length-row_at [] e = refl
length-row_at (pred ∷ preds) e =
    omega (arith, length-later_states pred e, length-row_at preds e, length-append (later_states pred e) (row_at preds e))

-- ---- flags

patched_is : (prefix tail vs : List Bool) (at : ℕ) → length prefix ≡ at → patched at vs (prefix ++ tail)
    ≡ prefix ++ (vs ++ drop (length vs) tail)
patched_is prefix tail vs at long =
    ap (λ s. s ++ (vs ++ drop (at + length vs) (prefix ++ tail))) (take_at prefix tail at long)
    ∙ ap (λ s. prefix ++ (vs ++ s))
    (sym (drop-drop (length vs) at (prefix ++ tail)) ∙ ap (drop (length vs)) (drop_at prefix tail at long))

-- one more flag gets its value
pub patched-more : (flags next vs : List Bool) (at : ℕ) (v : Bool) → at < length flags → next
    ≡ take at flags ++ (v ∷ drop (at + 1) flags) → patched (at + 1) vs next ≡ patched at (v ∷ vs) flags
patched-more flags next vs at v within put =
    let prefix : List Bool = take at flags in
    let tail : List Bool = drop (at + 1) flags in
    let long : length prefix ≡ at = length-take-le at flags (omega arith) in
    let longer : length (prefix ++ (v ∷ [])) ≡ at + 1 = omega (arith, long, length-append prefix (v ∷ [])) in
    ap (patched (at + 1) vs) (put ∙ sym (append_assoc prefix (v ∷ []) tail))
    ∙ patched_is (prefix ++ (v ∷ [])) tail vs (at + 1) longer
    ∙ append_assoc prefix (v ∷ []) (vs ++ drop (length vs) tail)
    ∙ ap (λ s. prefix ++ (v ∷ (vs ++ s))) (drop-drop (length vs) (at + 1) flags ∙ ap (λ n. drop n flags) (omega arith))

-- the last state of one more predicate is read
pub last_states-more : (pred : Pred) (rest : List Pred) (start : ℕ) (row : List Bool)
    → last_states (pred ∷ rest) (drop start row)
    ≡ get_or row (start + length pred.way) false ∷ last_states rest (drop (start + length pred.way + 1) row)
last_states-more pred rest start row =
    ap (λ b. b ∷ last_states rest (drop (length pred.way + 1) (drop start row)))
    (get_or-drop start row (length pred.way) false)
    ∙ ap (λ s. get_or row (start + length pred.way) false ∷ last_states rest s)
    (drop-drop (length pred.way + 1) start row ∙ ap (λ n. drop n row) (omega arith))

length-last_states : (preds : List Pred) (row : List Bool) → length (last_states preds row) ≡ length preds
length-last_states [] row = refl
length-last_states (pred ∷ preds) row = ap (λ n. suc n) (length-last_states preds (drop (length pred.way + 1) row))

-- The last states are whether the predicates hold.
pub last_states-held : (preds : List Pred) (e : Element) → last_states preds (row_at preds e) ≡ truths_at preds e
unfolding row_at
last_states-held [] e = refl
last_states-held (pred ∷ preds) e =
    let long : length (states_at e pred) ≡ length pred.way + 1 = omega (arith, length-later_states pred e) in
    ap (λ s. get_or (states_at e pred ++ row_at preds e) (length pred.way) false ∷ last_states preds s)
    (drop_at (states_at e pred) (row_at preds e) (length pred.way + 1) long)
    ∙ ap (λ b. b ∷ last_states preds (row_at preds e))
    (get_or_append_left (states_at e pred) (row_at preds e) false (length pred.way) (omega (arith, long)) ∙ last_holds pred e)
    ∙ ap (λ s. holds pred e ∷ s) (last_states-held preds e)

-- ---- the loops at the end of an element

-- one more predicate's first state
pub put_targets_step : (refs : List PredRef) (i : ℕ) (r : PredRef) (e : Element) (start n : ℕ) (row next all : List Bool) (v : Bool)
    → i < length refs → r ≡ get_or refs i r → n ≡ length r.pred.now.way
    → start + number_of_states (preds_in (drop i refs)) ≡ length row → drop start row
    ≡ inner_row_at (preds_in (drop i refs)) e → take start row ++ row_at (preds_in (drop i refs)) e ≡ all
    → v ≡ is_enough_at r.pred.now e → next ≡ take start row ++ (v ∷ drop (start + 1) row)
    → (drop (start + (n + 1)) next ≡ inner_row_at (preds_in (drop (i + 1) refs)) e)
    × (take (start + (n + 1)) next ++ row_at (preds_in (drop (i + 1) refs)) e ≡ all) × (length next ≡ length row)
    × (start + (n + 1) + number_of_states (preds_in (drop (i + 1) refs)) ≡ length next)
put_targets_step refs i r e start n row next all v within is count long left made value put =
    let rest : List Pred = preds_in (drop (i + 1) refs) in
    let one : preds_in (drop i refs) ≡ r.pred.now ∷ rest = refs_next refs i r within is in
    let long_now : start + number_of_states (r.pred.now ∷ rest) ≡ length row = ap (λ ps. start + number_of_states ps) (sym one) ∙ long in
    let step = targets_step r.pred.now rest e start row next all v long_now (left ∙ ap (λ ps. inner_row_at ps e) one) (ap (λ ps. take start row ++ row_at ps e) (sym one) ∙ made) value put in
    let same : length next ≡ length row = step.2 in (
      ap (λ k. drop (start + (k + 1)) next) count ∙ step.0,
      ap (λ k. take (start + (k + 1)) next ++ row_at rest e) count ∙ step.1,
      same,
      omega (arith, count, long_now, same),
    )

-- the first state of the next predicate isn't set yet
pub put_targets_clear : (refs : List PredRef) (i : ℕ) (r : PredRef) (e : Element) (start : ℕ) (row : List Bool)
    → i < length refs → r ≡ get_or refs i r
    → drop start row ≡ inner_row_at (preds_in (drop i refs)) e → get_or row start false ≡ false
put_targets_clear refs i r e start row within is left =
    target_clear r.pred.now (preds_in (drop (i + 1) refs)) e start row
    (left ∙ ap (λ ps. inner_row_at ps e) (refs_next refs i r within is))

pub put_targets_end : (refs : List PredRef) (i : ℕ) (e : Element) (start : ℕ) (row all : List Bool) → length refs ≤ i
    → start + number_of_states (preds_in (drop i refs)) ≡ length row
    → take start row ++ row_at (preds_in (drop i refs)) e ≡ all → row ≡ all
put_targets_end refs i e start row all past long made =
    targets_end e start row all
    (ap (λ rs. start + number_of_states (preds_in rs)) (sym (drop_all i refs past)) ∙ long)
    (ap (λ rs. take start row ++ row_at (preds_in rs) e) (sym (drop_all i refs past)) ∙ made)

refs_left : (refs : List PredRef) (i : ℕ) (r : PredRef) → i < length refs → length (drop i refs)
    ≡ suc (length (drop (i + 1) refs))
refs_left refs i r within = omega (arith, length-drop i refs, length-drop (i + 1) refs)

flag_next : (flags : List Bool) (at : ℕ) → at < length flags → drop at flags
    ≡ get_or flags at false ∷ drop (at + 1) flags
flag_next flags at within =
    drop-cons flags at false within ∙ ap (λ n. get_or flags at false ∷ drop n flags) (sym (add-one at))

clear_next : (flags : List Bool) (at m : ℕ) → at < length flags → take (suc m) (drop at flags)
    ≡ false ∷ replicate m false
    → (get_or flags at false ≡ false) × (take m (drop (at + 1) flags) ≡ replicate m false)
clear_next flags at m within clear =
    let one : get_or flags at false ∷ take m (drop (at + 1) flags) ≡ false ∷ replicate m false = ap (take (suc m)) (sym (flag_next flags at within)) ∙ clear in
    (ap (λ s. get_or s 0 false) one, ap (drop 1) one)

put_next : (flags next : List Bool) (at : ℕ) (v : Bool) → at < length flags → next
    ≡ take at flags ++ (v ∷ drop (at + 1) flags)
    → (drop (at + 1) next ≡ drop (at + 1) flags) × (length next ≡ length flags)
put_next flags next at v within put =
    let prefix : List Bool = take at flags in
    let long : length prefix ≡ at = length-take-le at flags (omega arith) in
    let longer : length (prefix ++ (v ∷ [])) ≡ at + 1 = omega (arith, long, length-append prefix (v ∷ [])) in (
      ap (drop (at + 1)) (put ∙ sym (append_assoc prefix (v ∷ []) (drop (at + 1) flags)))
          ∙ drop_at (prefix ++ (v ∷ [])) (drop (at + 1) flags) (at + 1) longer,
      omega (arith, ap length put, length-append prefix (v ∷ drop (at + 1) flags), long, length-drop (at + 1) flags),
    )

-- one more predicate's flag
pub put_truths_step : (refs : List PredRef) (i : ℕ) (r : PredRef) (start n place : ℕ) (row flags next all : List Bool) (v : Bool)
    → i < length refs → r ≡ get_or refs i r → n ≡ length r.pred.now.way
    → start + number_of_states (preds_in (drop i refs)) ≡ length row → place + length (drop i refs) ≤ length flags
    → take (length (drop i refs)) (drop place flags) ≡ replicate (length (drop i refs)) false
    → patched place (last_states (preds_in (drop i refs)) (drop start row)) flags ≡ all
    → v ≡ get_or row (start + n) false → next ≡ take place flags ++ (v ∷ drop (place + 1) flags)
    → (start + n + 1 + number_of_states (preds_in (drop (i + 1) refs)) ≡ length row)
    × (place + 1 + length (drop (i + 1) refs) ≤ length next) × (length next ≡ length flags)
    × (take (length (drop (i + 1) refs)) (drop (place + 1) next) ≡ replicate (length (drop (i + 1) refs)) false)
    × (patched (place + 1) (last_states (preds_in (drop (i + 1) refs)) (drop (start + n + 1) row)) next ≡ all)
put_truths_step refs i r start n place row flags next all v within is count long room clear told value put =
    let rest : List Pred = preds_in (drop (i + 1) refs) in
    let m : ℕ = length (drop (i + 1) refs) in
    let one : preds_in (drop i refs) ≡ r.pred.now ∷ rest = refs_next refs i r within is in
    let some : length (drop i refs) ≡ suc m = refs_left refs i r within in
    let inside : place < length flags = omega (arith, some, room) in
    let long_now : start + number_of_states (r.pred.now ∷ rest) ≡ length row = ap (λ ps. start + number_of_states ps) (sym one) ∙ long in
    let clears = clear_next flags place m inside (ap (λ k. take k (drop place flags)) (sym some) ∙ clear ∙ ap (λ k. replicate k false) some) in
    let puts = put_next flags next place v inside put in
    let same : length next ≡ length flags = puts.1 in (
      omega (arith, count, long_now),
      omega (arith, some, room, same),
      same,
      ap (take m) puts.0 ∙ clears.1,
      patched-more flags next (last_states rest (drop (start + n + 1) row)) place v inside put
          ∙ ap (λ b. patched place (b ∷ last_states rest (drop (start + n + 1) row)) flags) value
          ∙ ap (λ k. patched place (get_or row (start + k) false ∷ last_states rest (drop (start + k + 1) row)) flags)
          count
          ∙ ap (λ vs. patched place vs flags)
          (sym (last_states-more r.pred.now rest start row) ∙ ap (λ ps. last_states ps (drop start row)) (sym one))
          ∙ told,
    )

-- the flag of the next predicate isn't set yet
pub put_truths_clear : (refs : List PredRef) (i : ℕ) (r : PredRef) (place : ℕ) (flags : List Bool) → i < length refs
    → place + length (drop i refs) ≤ length flags
    → take (length (drop i refs)) (drop place flags) ≡ replicate (length (drop i refs)) false
    → get_or flags place false ≡ false
put_truths_clear refs i r place flags within room clear =
    let some : length (drop i refs) ≡ suc (length (drop (i + 1) refs)) = refs_left refs i r within in
    (clear_next flags place (length (drop (i + 1) refs)) (omega (arith, some, room)) (ap (λ k. take k (drop place flags)) (sym some) ∙ clear ∙ ap (λ k. replicate k false) some)).0

pub put_truths_end : (refs : List PredRef) (i place : ℕ) (row flags all : List Bool) → length refs ≤ i
    → patched place (last_states (preds_in (drop i refs)) row) flags ≡ all → flags ≡ all
put_truths_end refs i place row flags all past told =
    sym (take-append-drop place flags)
    ∙ ap (λ n. take place flags ++ drop n flags) (sym (add-zero place))
    ∙ ap (λ rs. patched place (last_states (preds_in rs) row) flags) (sym (drop_all i refs past))
    ∙ told

-- The flags begin after those before them.
pub truths_put : (before inside values flags next : List Bool) (at n : ℕ) → at ≡ length before → length values ≡ n
    → flags ≡ (before ++ replicate n false) ++ inside → next ≡ patched at values flags
    → next ≡ before ++ (values ++ inside)
truths_put before inside values flags next at n place count is put =
    let whole : flags ≡ before ++ (replicate n false ++ inside) = is ∙ append_assoc before (replicate n false) inside in
    put ∙ ap (patched at values) whole
    ∙ patched_is before (replicate n false ++ inside) values at (sym place)
    ∙ ap (λ s. before ++ (values ++ s))
    (drop_at (replicate n false) inside (length values) (length-replicate n false ∙ sym count))

pub truths_room : (before inside flags : List Bool) (at n : ℕ) → at ≡ length before → flags
    ≡ (before ++ replicate n false) ++ inside → at + n ≤ length flags
truths_room before inside flags at n place is =
    omega (arith, place, ap length is, length-append (before ++ replicate n false) inside, length-append before (replicate n false), length-replicate n false)

pub truths_clear : (before inside flags : List Bool) (at n : ℕ) → at ≡ length before → flags
    ≡ (before ++ replicate n false) ++ inside → take n (drop at flags) ≡ replicate n false
truths_clear before inside flags at n place is =
    ap (λ s. take n (drop at s)) (is ∙ append_assoc before (replicate n false) inside)
    ∙ ap (take n) (drop_at before (replicate n false ++ inside) at (sym place))
    ∙ take_at (replicate n false) inside n (length-replicate n false)

pub length-truths : (preds : List Pred) (e : Element) → length (truths_at preds e) ≡ length preds
length-truths [] e = refl
length-truths (pred ∷ preds) e = ap (λ n. suc n) (length-truths preds e)
