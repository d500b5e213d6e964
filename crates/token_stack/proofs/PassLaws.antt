-- Tokens that stand at a place of a list stand also where a pass leads from it.
use Rattle.std.proofs.Common.{◌≡◌, ℕ, ◌≤◌, Some, List, [], ◌∷◌, length, refl, ap, sym, ◌∙◌}
use Rattle.acl_model.specs.declared.document.Doc.{Doc}
use Rattle.acl_walk.specs.Open.{OpenPlace, open_at, tags_of, tags_at}
use Rattle.acl_walk.specs.inside.PassLaws.{is_pass}
use Rattle.acl_walk.specs.Spelling.{Spells}
use Rattle.acl_walk.specs.SpotMoves.{PassesTo}
use Rattle.acl_walk.specs.declared.event.Event.{Event}
use Rattle.rule_automata.specs.declared.state.State.{State}
use Rattle.token_stack.specs.Stack.{TokenStack}
use Rattle.token_stack.specs.Stand.{levels_after}
use Rattle.token_stack.specs.TokensStand.{TokensStandAt}

-- a pass keeps the tags of the open elements, be there one or none
same_tags_by : (names : List (List ℕ)) (d : Doc) (list : List Event) (old new : ℕ) (elements : List OpenPlace) → length names ≤ 256 → Spells names (Some d) list
    → open_at list old ≡ elements → PassesTo (tags_of elements) list old new → tags_at list new ≡ tags_at list old
same_tags_by names d list old new [] few spells is passes = ap (tags_at list) passes
same_tags_by names d list old new (element ∷ up) few spells is passes = (is_pass names d list old new element up few spells is passes).same_tags

-- A pass leaves tokens standing.
pub pass_stand : (names : List (List ℕ)) (d : Doc) (list : List Event) (states : List State) (old new : ℕ) (tokens : TokenStack) → length names ≤ 256
    → Spells names (Some d) list → TokensStandAt states list old tokens → PassesTo (tags_at list old) list old new → TokensStandAt states list new tokens
pass_stand names d list states old new tokens few spells stand passes = record {
  size = stand.size;
  after = stand.after ∙ ap (levels_after states) (sym (same_tags_by names d list old new (open_at list old) few spells refl passes));
}
