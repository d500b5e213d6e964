-- What tokens keep as an element opens or closes, and where the entries of a level stand.
use Rattle.std.proofs.Common.{◌≡◌, ℕ, zero, suc, ◌+◌, ◌-◌, ◌*◌, ◌^◌, ◌<◌, ◌≤◌, Bool, true, false, Some, None, List, [], ◌∷◌, ◌++◌, length, length-append, length-drop, get_or, take, drop, refl, ap, sym, subst, ◌∙◌, arith, unwrap_or, eq-eqb, nat_eq, nat_le, ◌&&◌}
use Rattle.std.specs.List.{slice_get, slice_range}
use Rattle.std.proofs.Math.Nat.{mul-le-mul_left}
use Rattle.std.proofs.lemmas.Bool.{le-leb}
use Rattle.std.proofs.lemmas.List.{length-take, take_all}
use Rattle.rule_automata.specs.declared.state.State.{State}
use Rattle.rule_automata.specs.Compile.{is_closed}
use Rattle.token_stack.specs.declared.entry.Entry.{Entry}
use Rattle.token_stack.specs.Entries.{are_states_from, entries_below}
use Rattle.token_stack.specs.Stack.{are_levels, are_ends, levels_cut, entries_at, innermost, start_of}
use Rattle.token_stack.specs.inside.Kept.{AreTokens}
use Rattle.rule_automata.specs.Run.{begun}
use Rattle.std.specs.Option.{is_some}
use Rattle.token_stack.specs.Stand.{entries_from}
use Rattle.token_stack.proofs.CutLaws.{both, level_start, level-le, end-le, last-end, ends-push, ends-take, length-cut, take-cut, cut-prefix, push-cut, get-cut, get-cut_past, rising-length, cut-bound, levels-push, levels-take, levels-get}
use Rattle.token_stack.proofs.RiseLaws.{rising-below, lower, put_before}

-- ---- numbers

-- entries are no more than one of each state for each level
pub kept-length : (s d : ℕ) (ends : List ℕ) (es : List Entry) (er nr : ℕ) → AreTokens s d ends es er nr → length es ≤ length ends * s
kept-length s d ends es er nr kept = let most : length es ≤ 0 + length ends * s = cut-bound s 0 ends es kept.cut kept.rising in omega arith

pub kept-most : (s d : ℕ) (ends : List ℕ) (es : List Entry) (er nr : ℕ) → AreTokens s d ends es er nr → length es ≤ (d + 1) * s
kept-most s d ends es er nr kept =
    let most : length es ≤ length ends * s = kept-length s d ends es er nr kept in
    let wider : s * length ends ≤ s * (d + 1) = mul-le-mul_left s kept.within in
    omega arith

pub kept-small : (s d : ℕ) (ends : List ℕ) (es : List Entry) (er nr : ℕ) → AreTokens s d ends es er nr → length es < 2 ^ 32
kept-small s d ends es er nr kept =
    let most : length es ≤ (d + 1) * s = kept-most s d ends es er nr kept in
    let wider : (d + 1) * s ≤ (d + 1) * 256 = mul-le-mul_left (d + 1) kept.few in
    omega (arith, kept.short)

pub kept-bound : (s d : ℕ) (ends : List ℕ) (es : List Entry) (er nr : ℕ) → AreTokens s d ends es er nr → length es ≤ (length (levels_cut 0 ends es) - 1 + 1) * s
kept-bound s d ends es er nr kept =
    let same : length ends ≡ length (levels_cut 0 ends es) - 1 + 1 = omega (arith, length-cut 0 ends es, kept.some) in
    subst (λ n. length es ≤ n * s) same (kept-length s d ends es er nr kept)

-- the same memory, told otherwise
pub kept-same : (s d : ℕ) (ends ends' : List ℕ) (es es' : List Entry) (er er' nr nr' : ℕ) → ends ≡ ends' → es ≡ es' → er ≡ er' → nr ≡ nr' → AreTokens s d ends es er nr → AreTokens s d ends' es' er' nr'
kept-same s d ends ends' es es' er er' nr nr' a b x y kept =
    subst (λ n. AreTokens s d ends' es' er' n) y (subst (λ n. AreTokens s d ends' es' n nr) x (subst (λ l. AreTokens s d ends' l er nr) b (subst (λ l. AreTokens s d l es er nr) a kept)))

-- ---- one element opens

pub kept-push : (s d : ℕ) (ends : List ℕ) (es : List Entry) (er nr : ℕ) (new : List Entry) → AreTokens s d ends es er nr → length ends ≤ d → are_states_from 0 s new ≡ true
    → AreTokens s d (ends ++ ((length es + length new) ∷ [])) (es ++ new) er nr
kept-push s d ends es er nr new kept room rising =
    let longer : length (es ++ new) ≡ length es + length new = length-append es new in
    let one : length (ends ++ ((length es + length new) ∷ [])) ≡ length ends + 1 = length-append ends ((length es + length new) ∷ []) in
    record {
      few = kept.few;
      short = kept.short;
      some = omega arith;
      within = omega arith;
      cut = subst (λ n. are_ends 0 (ends ++ ((length es + length new) ∷ [])) n ≡ true) (sym longer) (ends-push 0 ends (length es) (length es + length new) kept.cut (omega arith));
      rising = ap (are_levels s) (push-cut ends es new kept.cut) ∙ levels-push s (levels_cut 0 ends es) new kept.rising rising;
      for_ends = kept.for_ends;
      for_entries = kept.for_entries;
    }

-- the innermost level stands last
pub innermost-cut : (s d : ℕ) (ends : List ℕ) (es : List Entry) (er nr : ℕ) (k : ℕ) → AreTokens s d ends es er nr → length ends ≡ suc k → drop (start_of ends k) es ≡ innermost (levels_cut 0 ends es)
innermost-cut s d ends es er nr k kept long =
    let levels : List (List Entry) = levels_cut 0 ends es in
    let number : length levels - 1 ≡ k = omega (arith, length-cut 0 ends es) in
    let from : ℕ = level_start 0 ends k in
    let last : get_or ends k 0 ≡ length es = last-end 0 ends (length es) k kept.cut long in
    let exact : length (drop from es) ≡ length es - from = length-drop from es in
    sym (
    ap (λ n. unwrap_or (slice_get levels n) []) number
    ∙ ap (λ o. unwrap_or o []) (get-cut 0 ends es k (omega arith))
    ∙ ap (λ n. take (n - from) (drop from es)) last
    ∙ take_all (length es - from) (drop from es) (omega arith)
    ∙ ap (λ n. drop n es) (same_start k))
  where
    same_start : (k : ℕ) → level_start 0 ends k ≡ start_of ends k
    same_start zero = refl
    same_start (suc k) = refl

innermost-rising : (s d : ℕ) (ends : List ℕ) (es : List Entry) (er nr : ℕ) (k : ℕ) → AreTokens s d ends es er nr → length ends ≡ suc k → are_states_from 0 s (drop (start_of ends k) es) ≡ true
innermost-rising s d ends es er nr k kept long =
    let levels : List (List Entry) = levels_cut 0 ends es in
    let number : length levels - 1 ≡ k = omega (arith, length-cut 0 ends es) in
    let found : slice_get levels k ≡ Some (slice_range es (level_start 0 ends k) (get_or ends k 0)) = get-cut 0 ends es k (omega arith) in
    ap (are_states_from 0 s) (innermost-cut s d ends es er nr k kept long)
    ∙ ap (λ n. are_states_from 0 s (unwrap_or (slice_get levels n) [])) number
    ∙ ap (λ o. are_states_from 0 s (unwrap_or o [])) found
    ∙ levels-get s levels k (slice_range es (level_start 0 ends k) (get_or ends k 0)) kept.rising found

-- the entries of a child have rising states
pub moved-rising : (states : List State) (tag : ℕ) (s d : ℕ) (ends : List ℕ) (es : List Entry) (er nr : ℕ) (k : ℕ) → AreTokens s d ends es er nr → length ends ≡ suc k → length states ≡ s → is_closed false states ≡ true
    → are_states_from 0 s (entries_below states tag None (drop (start_of ends k) es)) ≡ true
moved-rising states tag s d ends es er nr k kept long same closed =
    subst (λ n. are_states_from 0 n (entries_below states tag None (drop (start_of ends k) es)) ≡ true) same
    (rising-below states tag (drop (start_of ends k) es) None 0 closed tt
    (subst (λ n. are_states_from 0 n (drop (start_of ends k) es) ≡ true) (sym same) (innermost-rising s d ends es er nr k kept long)))

-- and there is room for them
pub moved-room : (states : List State) (tag : ℕ) (s d : ℕ) (ends : List ℕ) (es : List Entry) (er nr : ℕ) (k : ℕ) → AreTokens s d ends es er nr → length ends ≡ suc k → length states ≡ s → is_closed false states ≡ true → length ends ≤ d
    → length es + length (entries_below states tag None (drop (start_of ends k) es)) ≤ nr
moved-room states tag s d ends es er nr k kept long same closed room =
    let new : List Entry = entries_below states tag None (drop (start_of ends k) es) in
    let more : length new + 0 ≤ s = rising-length 0 s new (moved-rising states tag s d ends es er nr k kept long same closed) (omega arith) in
    let old : length es ≤ length ends * s = kept-length s d ends es er nr kept in
    let wider : s * (length ends + 1) ≤ s * (d + 1) = mul-le-mul_left s (omega arith) in
    omega (arith, kept.for_entries)

-- ---- one element closes

pub start-le_length : (s d : ℕ) (ends : List ℕ) (es : List Entry) (er nr k : ℕ) → AreTokens s d ends es er nr → k < length ends → start_of ends k ≤ length es
start-le_length s d ends es er nr zero kept inside = omega arith
start-le_length s d ends es er nr (suc k) kept inside = end-le 0 ends (length es) k kept.cut (omega arith)

pub finish-cut : (s d : ℕ) (ends : List ℕ) (es : List Entry) (er nr n : ℕ) → AreTokens s d ends es er nr → n < length ends → 0 < n
    → levels_cut 0 (take n ends) (take (start_of ends n) es) ≡ take n (levels_cut 0 ends es)
finish-cut s d ends es er nr zero kept inside some = absurd (omega arith)
finish-cut s d ends es er nr (suc k) kept inside some =
    cut-prefix 0 (take (suc k) ends) es (get_or ends k 0) (ends-take 0 ends (length es) k kept.cut (omega arith)) ∙ take-cut 0 ends es (suc k)

pub kept-finish : (s d : ℕ) (ends : List ℕ) (es : List Entry) (er nr n : ℕ) → AreTokens s d ends es er nr → n < length ends → 0 < n
    → AreTokens s d (take n ends) (take (start_of ends n) es) er nr
kept-finish s d ends es er nr zero kept inside some = absurd (omega arith)
kept-finish s d ends es er nr (suc k) kept inside some =
    let levels : length (take (suc k) ends) ≡ suc k = length-take (suc k) ends ∙ omega arith in
    let end : get_or ends k 0 ≤ length es = end-le 0 ends (length es) k kept.cut (omega arith) in
    let entries : length (take (get_or ends k 0) es) ≡ get_or ends k 0 = length-take (get_or ends k 0) es ∙ omega arith in
    record {
      few = kept.few;
      short = kept.short;
      some = omega arith;
      within = omega (arith, kept.within);
      cut = subst (λ t. are_ends 0 (take (suc k) ends) t ≡ true) (sym entries) (ends-take 0 ends (length es) k kept.cut (omega arith));
      rising = ap (are_levels s) (finish-cut s d ends es er nr (suc k) kept inside some) ∙ levels-take s (levels_cut 0 ends es) (suc k) kept.rising;
      for_ends = kept.for_ends;
      for_entries = kept.for_entries;
    }

-- ---- the entries of a level

pub level-order : (s d : ℕ) (ends : List ℕ) (es : List Entry) (er nr k : ℕ) → AreTokens s d ends es er nr → k < length ends → start_of ends k ≤ get_or ends k 0
level-order s d ends es er nr zero kept inside = omega arith
level-order s d ends es er nr (suc k) kept inside = level-le 0 ends (length es) (suc k) kept.cut inside

pub level-within : (s d : ℕ) (ends : List ℕ) (es : List Entry) (er nr k : ℕ) → AreTokens s d ends es er nr → k < length ends → get_or ends k 0 ≤ length es
level-within s d ends es er nr k kept inside = end-le 0 ends (length es) k kept.cut inside

pub entries_at-cut : (ends : List ℕ) (es : List Entry) (level : ℕ) → 0 < level → level < length ends → entries_at (levels_cut 0 ends es) level ≡ slice_range es (start_of ends level) (get_or ends level 0)
entries_at-cut ends es zero some inside = absurd (omega arith)
entries_at-cut ends es (suc k) some inside = ap (λ o. unwrap_or o []) (get-cut 0 ends es (suc k) inside)

pub entries_at-past : (ends : List ℕ) (es : List Entry) (level : ℕ) → length ends ≤ level → entries_at (levels_cut 0 ends es) level ≡ []
entries_at-past ends es zero past = refl
entries_at-past ends es (suc k) past = ap (λ o. unwrap_or o []) (get-cut_past 0 ends es (suc k) past)

-- ---- no element is open

begun-rising : (is_first : Bool) (states : List State) (n top : ℕ) → n + length states ≡ top → are_states_from n top (entries_from n (begun is_first states)) ≡ true
begun-rising is_first [] n top all = refl
begun-rising true (s ∷ states) n top all =
    put_before n top (record { state = n; waits = true; selects = None }) (entries_from (n + 1) (begun (is_some s.ends) states)) (omega arith) (omega arith) (begun-rising (is_some s.ends) states (n + 1) top (omega arith))
begun-rising false (s ∷ states) n top all =
    lower (n + 1) n top (entries_from (n + 1) (begun (is_some s.ends) states)) (omega arith) (begun-rising (is_some s.ends) states (n + 1) top (omega arith))

pub kept-begun : (states : List State) (d : ℕ) → length states ≤ 256 → d < 2 ^ 16
    → AreTokens (length states) d (length (entries_from 0 (begun true states)) ∷ []) (entries_from 0 (begun true states)) (d + 1) ((d + 1) * length states)
kept-begun states d few short =
    let es : List Entry = entries_from 0 (begun true states) in
    let rising : are_states_from 0 (length states) es ≡ true = begun-rising true states 0 (length states) (omega arith) in
    let whole : slice_range es 0 (length es) ≡ es = take_all (length es - 0) es (omega arith) in
    record {
      few = few;
      short = short;
      some = omega arith;
      within = omega arith;
      cut = both (nat_le 0 (length es)) (nat_eq (length es) (length es)) (le-leb 0 (length es) (omega arith)) (eq-eqb (length es) (length es) refl);
      rising = ap (λ level. are_states_from 0 (length states) level && true) whole ∙ both (are_states_from 0 (length states) es) true rising refl;
      for_ends = omega arith;
      for_entries = omega arith;
    }
