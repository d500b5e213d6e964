-- Tokens that stand at a place of a list stand at the next one after the call that takes the event.
use Rattle.std.proofs.Common.{◌≡◌, ℕ, suc, ◌+◌, ◌-◌, ◌≤◌, true, false, Option, Some, List, [], ◌∷◌, ◌++◌, length, take, drop, refl, ap, sym, subst, ◌∙◌, arith}
use Rattle.std.specs.List.{slice_get}
use Rattle.std.specs.Option.{option_map_or}
use Rattle.acl_bits.specs.Row.{row_of}
use Rattle.acl_model.specs.Dictionary.{are_distinct}
use Rattle.acl_model.specs.Select.{select}
use Rattle.acl_model.specs.declared.document.Doc.{Doc}
use Rattle.acl_model.specs.declared.rule.Rule.{Rule}
use Rattle.acl_walk.specs.Nesting.{tags_after}
use Rattle.acl_walk.specs.Spelling.{Spells}
use Rattle.acl_walk.specs.SpotMoves.{StandsAt}
use Rattle.acl_walk.specs.declared.event.Event.{Event}
use Rattle.acl_walk.specs.declared.event.Event.TheVariants.{Begin, Attr, HeadEnd, Text, Finish, End}
use Rattle.rule_automata.specs.Compile.{automata_of, states_from, have_no_predicates, is_closed}
use Rattle.rule_automata.specs.declared.state.State.{State}
use Rattle.token_stack.specs.Entries.{rules_of}
use Rattle.acl_walk.specs.Open.{OpenPlace, open_at, tags_of, tags_at}
use Rattle.acl_walk.specs.inside.OpenLaws.{tags_at-step}
use Rattle.token_stack.specs.Stack.{TokenStack, entries_at, open_elements}
use Rattle.token_stack.specs.Stand.{levels_after}
use Rattle.token_stack.specs.TokensStand.{TokensStandAt, levels_fed, fed}
use Rattle.token_stack.proofs.StandLaws.{levels_begin, levels_finish, length-levels, rules_at_place}
use Rattle.token_stack.proofs.OpenLaws.{Fits, stands_at_place, fits_at}

-- ---- levels

abbrev NotNil : List ℕ → Type 0
NotNil [] = ⊥
NotNil (t ∷ ts) = Unit {0}

finish_levels : (states : List State) (tags : List ℕ) (tag : ℕ) → take 1 tags ≡ tag ∷ [] → take (length (levels_after states tags) - 1) (levels_after states tags) ≡ levels_after states (drop 1 tags)
finish_levels states [] tag is = absurd (subst NotNil (sym is) tt)
finish_levels states (t ∷ up) tag is = levels_finish states up t

levels_move : (states : List State) (elements : List OpenPlace) (event : Event) → is_closed false states ≡ true → Fits elements event
    → levels_fed states event (levels_after states (tags_of elements)) ≡ levels_after states (tags_after (tags_of elements) event)
levels_move states elements (Begin tag below) closed fits = levels_begin states (tags_of elements) tag closed
levels_move states elements (Attr piece) closed fits = refl
levels_move states elements HeadEnd closed fits = refl
levels_move states elements (Text piece) closed fits = refl
levels_move states elements (Finish tag) closed fits = finish_levels states (tags_of elements) tag fits
levels_move states elements End closed fits = refl

-- Tokens that were fed the event at their place stand at the place after it.
pub fed_stand : (names : List (List ℕ)) (o : Option Doc) (list : List Event) (states : List State) (place : ℕ) (event : Event) (next : ℕ) (tokens : TokenStack) → length names ≤ 256
    → Spells names o list → is_closed false states ≡ true → TokensStandAt states list place tokens → StandsAt list place event next
    → TokensStandAt states list next (fed states event tokens)
fed_stand names o list states place event next tokens few spells closed stand at = record {
  size = stand.size;
  after = ap (levels_fed states event) stand.after
      ∙ levels_move states (open_at list place) event closed (fits_at names o list place event (drop (place + 1) list) few spells at.there)
      ∙ ap (levels_after states) (sym (tags_at-step list place event next at));
}

-- ---- what standing tokens say

length-tags : (elements : List OpenPlace) → length (tags_of elements) ≡ length elements
length-tags [] = refl
length-tags (element ∷ up) = ap suc (length-tags up)

pub open_elements-standing : (states : List State) (list : List Event) (place : ℕ) (tokens : TokenStack) → TokensStandAt states list place tokens
    → open_elements tokens ≡ length (open_at list place)
open_elements-standing states list place tokens stand =
    let levels : length tokens.levels ≡ suc (length (tags_at list place)) = ap length stand.after ∙ length-levels states (tags_at list place) in
    let tags : length (tags_at list place) ≡ length (open_at list place) = length-tags (open_at list place) in
    omega (arith, levels, tags)

tags-append : (inner : List OpenPlace) (elements : List OpenPlace) → tags_of (inner ++ elements) ≡ tags_of inner ++ tags_of elements
tags-append [] elements = refl
tags-append (i ∷ inner) elements = ap (λ ts. i.tag ∷ ts) (tags-append inner elements)

-- The row of each open element has just the rules that select its place.
pub standing_rows : (names : List (List ℕ)) (rules : List Rule) (d : Doc) (list : List Event) (place : ℕ) (tokens : TokenStack) (inner : List OpenPlace) (element : OpenPlace) (up : List OpenPlace)
    → are_distinct names ≡ true → length names ≤ 256 → have_no_predicates rules ≡ true → Spells names (Some d) list
    → TokensStandAt (automata_of names rules).states list place tokens → open_at list place ≡ inner ++ (element ∷ up)
    → rules_of (entries_at tokens.levels (length (element ∷ up))) ≡ row_of (λ n. option_map_or (λ r. select d r.path element.place) (slice_get rules n) false)
standing_rows names rules d list place tokens inner element up distinct few plain spells stand is =
    let here = stands_at_place names d list place inner element up few spells is in
    ap (λ levels. rules_of (entries_at levels (length (element ∷ up)))) (stand.after ∙ ap (levels_after (states_from names 0 rules)) (ap tags_of is ∙ tags-append inner (element ∷ up)))
    ∙ ap (λ n. rules_of (entries_at (levels_after (states_from names 0 rules) (tags_of inner ++ (element.tag ∷ tags_of up))) (suc n))) (sym (length-tags up))
    ∙ rules_at_place names rules (tags_of inner) element.tag (tags_of up) d element.place here.e here.above distinct few plain here.tagged here.there
