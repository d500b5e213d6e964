-- When tokens stand at an index of a list of events. Defined by this project.
use Rattle.std.specs.Prelude.{◌≡◌, ℕ, ◌-◌, Some, None, List, [], ◌∷◌, ◌++◌, length, take}
use Rattle.acl_model.specs.Chain.{Chain, chain_at}
use Rattle.acl_model.specs.declared.document.Doc.{Doc}
use Rattle.acl_model.specs.declared.document.Element.{Element}
use Rattle.acl_walk.specs.declared.event.Event.{Event}
use Rattle.acl_walk.specs.declared.event.Event.TheVariants.{Begin, Attr, HeadEnd, Text, Finish, End}
use Rattle.rule_automata.specs.Meaning.{AreTagsOf}
use Rattle.rule_automata.specs.declared.state.State.{State}
use Rattle.token_stack.specs.declared.entry.Entry.{Entry}
use Rattle.token_stack.specs.Entries.{entries_below}
use Rattle.acl_walk.specs.Open.{OpenPlace, tags_at, tags_of}
use Rattle.token_stack.specs.Stack.{TokenStack, innermost}
use Rattle.token_stack.specs.Stand.{levels_after}

-- Tokens stand at an index of a list: they are of these states, and their levels are those after
-- the tags of the elements that are open there.
pub record TokensStandAt (states : List State) (list : List Event) (place : ℕ)
    (tokens : TokenStack) : Type 0 where
  pub size : tokens.states ≡ length states
  pub after : tokens.levels ≡ levels_after states (tags_at list place)

-- what the levels become by the call that takes an event: `begin` adds one, `finish` takes one away,
-- and the others change nothing
abbrev pub levels_fed : List State → Event → List (List Entry) → List (List Entry)
levels_fed states (Begin tag below) levels =
    levels ++ (entries_below states tag None (innermost levels) ∷ [])
levels_fed states (Attr piece) levels = levels
levels_fed states HeadEnd levels = levels
levels_fed states (Text piece) levels = levels
levels_fed states (Finish tag) levels = take (length levels - 1) levels
levels_fed states End levels = levels

-- tokens that were fed an event
abbrev pub fed : List State → Event → TokenStack → TokenStack
fed states event tokens = record tokens { levels = levels_fed states event tokens.levels }

-- The innermost of these elements is the document's element at its place. Their tags are those of
-- its name, its parent's name, and so on to the root's.
pub record StandsInDocument (names : List (List ℕ)) (d : Doc) (element : OpenPlace)
    (up : List OpenPlace) : Type 0 where
  pub e : Element
  pub above : Chain
  pub there : chain_at d.root [] element.place ≡ Some (e ∷ above)
  pub tagged : AreTagsOf names (element.tag ∷ tags_of up) (e ∷ above)

-- Each of the open elements is in the document.
abbrev pub StandInDocument : List (List ℕ) → Doc → List OpenPlace → Type 0
StandInDocument names d [] = Unit {0}
StandInDocument names d (element ∷ up) =
    StandsInDocument names d element up × StandInDocument names d up
