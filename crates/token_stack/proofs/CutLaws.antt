-- Levels that stand one after another in one piece of memory.
use Rattle.std.proofs.Common.{◌≡◌, ℕ, zero, suc, ◌+◌, ◌-◌, ◌*◌, ◌<◌, ◌≤◌, Bool, true, ◌&&◌, Some, None, List, [], ◌∷◌, ◌++◌, length, length-drop, get_or, take, drop, refl, ap, sym, subst, ◌∙◌, arith, eq-eqb, nat_eq, nat_le, nat_lt}
use Rattle.std.specs.Cmp.{first_so, second_so}
use Rattle.std.specs.List.{slice_get, slice_range}
use Rattle.std.specs.Option.{MatchOption}
use Rattle.std.proofs.Math.Seq.{take-length, take-append_seam, drop-append_seam}
use Rattle.std.proofs.lemmas.Option.{same_Some}
use Rattle.std.proofs.lemmas.Bool.{eqb-true, leb-true, ltb-true, le-leb}
use Rattle.std.proofs.lemmas.List.{length-take, take-take, drop-take}
use Rattle.std.proofs.lemmas.List.Folds.{list_all-append}
use Rattle.token_stack.specs.declared.entry.Entry.{Entry}
use Rattle.token_stack.specs.Entries.{are_states_from}
use Rattle.token_stack.specs.Stack.{entry_count, are_levels, levels_cut, are_ends}

pub none_is_not_some : {A : Type 0} (x : A) → None ≡ Some x → ⊥
none_is_not_some x h = subst (λ o. MatchOption o (Unit {0}) (λ _. ⊥)) h tt

pub both : (a b : Bool) → a ≡ true → b ≡ true → (a && b) ≡ true
both a b x y = ap (λ v. v && b) x ∙ y

-- ---- ends

-- where the levels begin is not after where all end
pub start-le : (start : ℕ) (ends : List ℕ) (total : ℕ) → are_ends start ends total ≡ true → start ≤ total
start-le start [] total cut = omega (arith, eqb-true start total cut)
start-le start (e ∷ ends) total cut =
    omega (arith, leb-true start e (first_so (nat_le start e) (are_ends e ends total) cut), start-le e ends total (second_so (nat_le start e) (are_ends e ends total) cut))

-- one level more
pub ends-push : (start : ℕ) (ends : List ℕ) (total more : ℕ) → are_ends start ends total ≡ true → total ≤ more → are_ends start (ends ++ (more ∷ [])) more ≡ true
ends-push start [] total more cut longer = both (nat_le start more) (nat_eq more more) (le-leb start more (omega (arith, eqb-true start total cut))) (eq-eqb more more refl)
ends-push start (e ∷ ends) total more cut longer =
    both (nat_le start e) (are_ends e (ends ++ (more ∷ [])) more) (first_so (nat_le start e) (are_ends e ends total) cut)
    (ends-push e ends total more (second_so (nat_le start e) (are_ends e ends total) cut) longer)

-- the first k + 1 levels
pub ends-take : (start : ℕ) (ends : List ℕ) (total k : ℕ) → are_ends start ends total ≡ true → k < length ends → are_ends start (take (suc k) ends) (get_or ends k 0) ≡ true
ends-take start [] total k cut inside = absurd (omega arith)
ends-take start (e ∷ ends) total zero cut inside = both (nat_le start e) (nat_eq e e) (first_so (nat_le start e) (are_ends e ends total) cut) (eq-eqb e e refl)
ends-take start (e ∷ ends) total (suc k) cut inside =
    both (nat_le start e) (are_ends e (take (suc k) ends) (get_or ends k 0)) (first_so (nat_le start e) (are_ends e ends total) cut)
    (ends-take e ends total k (second_so (nat_le start e) (are_ends e ends total) cut) (omega arith))

-- where a level begins
abbrev pub level_start : ℕ → List ℕ → ℕ → ℕ
level_start start ends zero = start
level_start start ends (suc k) = get_or ends k 0

-- a level begins before it ends
pub level-le : (start : ℕ) (ends : List ℕ) (total k : ℕ) → are_ends start ends total ≡ true → k < length ends → level_start start ends k ≤ get_or ends k 0
level-le start [] total k cut inside = absurd (omega arith)
level-le start (e ∷ ends) total zero cut inside = leb-true start e (first_so (nat_le start e) (are_ends e ends total) cut)
level-le start (e ∷ ends) total (suc zero) cut inside = level-le e ends total zero (second_so (nat_le start e) (are_ends e ends total) cut) (omega arith)
level-le start (e ∷ ends) total (suc (suc k)) cut inside = level-le e ends total (suc k) (second_so (nat_le start e) (are_ends e ends total) cut) (omega arith)

-- and ends before all end
pub end-le : (start : ℕ) (ends : List ℕ) (total k : ℕ) → are_ends start ends total ≡ true → k < length ends → get_or ends k 0 ≤ total
end-le start [] total k cut inside = absurd (omega arith)
end-le start (e ∷ ends) total zero cut inside = start-le e ends total (second_so (nat_le start e) (are_ends e ends total) cut)
end-le start (e ∷ ends) total (suc k) cut inside = end-le e ends total k (second_so (nat_le start e) (are_ends e ends total) cut) (omega arith)

-- the last level ends where all end
pub last-end : (start : ℕ) (ends : List ℕ) (total k : ℕ) → are_ends start ends total ≡ true → length ends ≡ suc k → get_or ends k 0 ≡ total
last-end start [] total k cut last = absurd (omega arith)
last-end start (e ∷ []) total zero cut last = eqb-true e total (second_so (nat_le start e) (nat_eq e total) cut)
last-end start (e ∷ []) total (suc k) cut last = absurd (omega arith)
last-end start (e ∷ f ∷ ends) total zero cut last = absurd (omega arith)
last-end start (e ∷ f ∷ ends) total (suc k) cut last = last-end e (f ∷ ends) total k (second_so (nat_le start e) (are_ends e (f ∷ ends) total) cut) (omega arith)

-- ---- levels

pub length-cut : (start : ℕ) (ends : List ℕ) (es : List Entry) → length (levels_cut start ends es) ≡ length ends
length-cut start [] es = refl
length-cut start (e ∷ ends) es = ap suc (length-cut e ends es)

pub take-cut : (start : ℕ) (ends : List ℕ) (es : List Entry) (k : ℕ) → levels_cut start (take k ends) es ≡ take k (levels_cut start ends es)
take-cut start [] es zero = refl
take-cut start [] es (suc k) = refl
take-cut start (e ∷ ends) es zero = refl
take-cut start (e ∷ ends) es (suc k) = ap (λ levels. slice_range es start e ∷ levels) (take-cut e ends es k)

-- a part of a prefix is a part of the whole
prefix_range : (es : List Entry) (a b n : ℕ) → a ≤ b → b ≤ n → slice_range (take n es) a b ≡ slice_range es a b
prefix_range es a b n order within =
    let split : n ≡ a + (n - a) = omega arith in
    let less : b - a ≤ n - a = omega arith in
    ap (λ m. take (b - a) (drop a (take m es))) split ∙ ap (take (b - a)) (drop-take a (n - a) es) ∙ take-take (b - a) (n - a) (drop a es) less

-- the levels of a prefix that has them all
pub cut-prefix : (start : ℕ) (ends : List ℕ) (es : List Entry) (total : ℕ) → are_ends start ends total ≡ true → levels_cut start ends (take total es) ≡ levels_cut start ends es
cut-prefix start [] es total cut = refl
cut-prefix start (e ∷ ends) es total cut =
    let rest : are_ends e ends total ≡ true = second_so (nat_le start e) (are_ends e ends total) cut in
    ap (λ level. level ∷ levels_cut e ends (take total es)) (prefix_range es start e total (leb-true start e (first_so (nat_le start e) (are_ends e ends total) cut)) (start-le e ends total rest))
    ∙ ap (λ levels. slice_range es start e ∷ levels) (cut-prefix e ends es total rest)

-- what is added is a level of its own
snoc_cut : (start : ℕ) (ends : List ℕ) (es : List Entry) (total more : ℕ) → are_ends start ends total ≡ true
    → levels_cut start (ends ++ (more ∷ [])) es ≡ levels_cut start ends es ++ (slice_range es total more ∷ [])
snoc_cut start [] es total more cut = ap (λ s. slice_range es s more ∷ []) (eqb-true start total cut)
snoc_cut start (e ∷ ends) es total more cut = ap (λ levels. slice_range es start e ∷ levels) (snoc_cut e ends es total more (second_so (nat_le start e) (are_ends e ends total) cut))

after_range : (es new : List Entry) → slice_range (es ++ new) (length es) (length es + length new) ≡ new
after_range es new =
    let exact : length es + length new - length es ≡ length new = omega arith in
    ap (λ n. take n (drop (length es) (es ++ new))) exact ∙ ap (take (length new)) (drop-append_seam es new) ∙ take-length new

pub push-cut : (ends : List ℕ) (es new : List Entry) → are_ends 0 ends (length es) ≡ true
    → levels_cut 0 (ends ++ ((length es + length new) ∷ [])) (es ++ new) ≡ levels_cut 0 ends es ++ (new ∷ [])
push-cut ends es new cut =
    snoc_cut 0 ends (es ++ new) (length es) (length es + length new) cut
    ∙ ap (λ levels. levels ++ (slice_range (es ++ new) (length es) (length es + length new) ∷ []))
    (sym (cut-prefix 0 ends (es ++ new) (length es) cut) ∙ ap (levels_cut 0 ends) (take-append_seam es new))
    ∙ ap (λ level. levels_cut 0 ends es ++ (level ∷ [])) (after_range es new)

-- the entries of a level
pub get-cut : (start : ℕ) (ends : List ℕ) (es : List Entry) (k : ℕ) → k < length ends → slice_get (levels_cut start ends es) k ≡ Some (slice_range es (level_start start ends k) (get_or ends k 0))
get-cut start [] es k inside = absurd (omega arith)
get-cut start (e ∷ ends) es zero inside = refl
get-cut start (e ∷ ends) es (suc zero) inside = get-cut e ends es zero (omega arith)
get-cut start (e ∷ ends) es (suc (suc k)) inside = get-cut e ends es (suc k) (omega arith)

pub get-cut_past : (start : ℕ) (ends : List ℕ) (es : List Entry) (k : ℕ) → length ends ≤ k → slice_get (levels_cut start ends es) k ≡ None
get-cut_past start [] es k past = refl
get-cut_past start (e ∷ ends) es zero past = absurd (omega arith)
get-cut_past start (e ∷ ends) es (suc k) past = get-cut_past e ends es k (omega arith)

-- ---- numbers

length_range : (es : List Entry) (a b : ℕ) → a ≤ b → b ≤ length es → length (slice_range es a b) ≡ b - a
length_range es a b order within =
    length-take (b - a) (drop a es) ∙ omega (arith, length-drop a es)

-- rising states are no more than there are
pub rising-length : (low top : ℕ) (es : List Entry) → are_states_from low top es ≡ true → low ≤ top → length es + low ≤ top
rising-length low top [] rising order = omega arith
rising-length low top (e ∷ es) rising order =
    let prefix : (nat_le low e.state && nat_lt e.state top) ≡ true = first_so (nat_le low e.state && nat_lt e.state top) (are_states_from (e.state + 1) top es) rising in
    let from : low ≤ e.state = leb-true low e.state (first_so (nat_le low e.state) (nat_lt e.state top) prefix) in
    let below : e.state < top = ltb-true e.state top (second_so (nat_le low e.state) (nat_lt e.state top) prefix) in
    let rest : length es + (e.state + 1) ≤ top = rising-length (e.state + 1) top es (second_so (nat_le low e.state && nat_lt e.state top) (are_states_from (e.state + 1) top es) rising) (omega arith) in
    omega arith

-- at most so many entries for each level
pub cut-bound : (states start : ℕ) (ends : List ℕ) (es : List Entry) → are_ends start ends (length es) ≡ true → are_levels states (levels_cut start ends es) ≡ true
    → length es ≤ start + length ends * states
cut-bound states start [] es cut rising = omega (arith, eqb-true start (length es) cut)
cut-bound states start (e ∷ ends) es cut rising =
    let order : start ≤ e = leb-true start e (first_so (nat_le start e) (are_ends e ends (length es)) cut) in
    let rest : are_ends e ends (length es) ≡ true = second_so (nat_le start e) (are_ends e ends (length es)) cut in
    let long : length (slice_range es start e) ≡ e - start = length_range es start e order (start-le e ends (length es) rest) in
    let level : length (slice_range es start e) + 0 ≤ states =
    rising-length 0 states (slice_range es start e) (first_so (are_states_from 0 states (slice_range es start e)) (are_levels states (levels_cut e ends es)) rising) (omega arith) in
    let others : length es ≤ e + length ends * states = cut-bound states e ends es rest (second_so (are_states_from 0 states (slice_range es start e)) (are_levels states (levels_cut e ends es)) rising) in
    let times : suc (length ends) * states ≡ states + length ends * states = omega arith in
    omega arith

pub count-cut : (start : ℕ) (ends : List ℕ) (es : List Entry) → are_ends start ends (length es) ≡ true → entry_count (levels_cut start ends es) + start ≡ length es
count-cut start [] es cut = omega (arith, eqb-true start (length es) cut)
count-cut start (e ∷ ends) es cut =
    let order : start ≤ e = leb-true start e (first_so (nat_le start e) (are_ends e ends (length es)) cut) in
    let rest : are_ends e ends (length es) ≡ true = second_so (nat_le start e) (are_ends e ends (length es)) cut in
    let long : length (slice_range es start e) ≡ e - start = length_range es start e order (start-le e ends (length es) rest) in
    let others : entry_count (levels_cut e ends es) + e ≡ length es = count-cut e ends es rest in
    omega arith

-- ---- rising levels

pub levels-push : (states : ℕ) (levels : List (List Entry)) (es : List Entry) → are_levels states levels ≡ true → are_states_from 0 states es ≡ true → are_levels states (levels ++ (es ∷ [])) ≡ true
levels-push states levels es rising one =
    list_all-append (are_states_from 0 states) levels (es ∷ []) ∙ both (are_levels states levels) (are_states_from 0 states es && true) rising (both (are_states_from 0 states es) true one refl)

pub levels-take : (states : ℕ) (levels : List (List Entry)) (k : ℕ) → are_levels states levels ≡ true → are_levels states (take k levels) ≡ true
levels-take states [] zero rising = refl
levels-take states [] (suc k) rising = refl
levels-take states (es ∷ levels) zero rising = refl
levels-take states (es ∷ levels) (suc k) rising =
    both (are_states_from 0 states es) (are_levels states (take k levels)) (first_so (are_states_from 0 states es) (are_levels states levels) rising)
    (levels-take states levels k (second_so (are_states_from 0 states es) (are_levels states levels) rising))

pub levels-get : (states : ℕ) (levels : List (List Entry)) (k : ℕ) (es : List Entry) → are_levels states levels ≡ true → slice_get levels k ≡ Some es → are_states_from 0 states es ≡ true
levels-get states [] k es rising found = absurd (none_is_not_some es found)
levels-get states (xs ∷ levels) zero es rising found =
    ap (are_states_from 0 states) (sym (same_Some xs es found)) ∙ first_so (are_states_from 0 states xs) (are_levels states levels) rising
levels-get states (xs ∷ levels) (suc k) es rising found = levels-get states levels k es (second_so (are_states_from 0 states xs) (are_levels states levels) rising) found
