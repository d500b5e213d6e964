-- The laws of a walk over a tree.
use Rattle.std.specs.Prelude.{◌≡◌, ℕ, ◌^◌, ◌<◌, ◌≤◌, true, nat_le, Some, None, List, [], ◌∷◌, ◌++◌, length, refl}
use Rattle.std.proofs.Common.{ap, ◌∙◌, arith, length-append}
use Rattle.std.specs.Cmp.{second_so}
use Rattle.std.proofs.lemmas.List.{length-map}
use Rattle.std.proofs.lemmas.Bool.Decides.{nat_tests}
use Rattle.acl_model.specs.Limits.{most_open_elements}
use Rattle.acl_model.specs.declared.document.Doc.{Doc}
use Rattle.acl_walk.specs.Following.{Goes}
use Rattle.acl_walk.specs.Listed.{AreNames, IsListOf}
use Rattle.acl_walk.specs.Nesting.{Stage, first_stage}
use Rattle.acl_walk.specs.Open.{tags_at}
use Rattle.acl_walk.specs.inside.OpenElements.{OpenElement, items_events, content_to_come, finish_to_come, tags_of}
use Rattle.acl_walk.specs.TreeEvents.{text_events, attribute_events, element_events}
use Rattle.acl_walk.specs.TreeState.{Tree, TreeState}
use Rattle.acl_walk.specs.inside.TreeSpots.{IsSpotOf, spot_to_come, spot_place, spot_stage, tree_depth, tree_events}
use Rattle.acl_walk.specs.inside.TreeSteps.{to_come, head_to_come}
use Rattle.acl_walk.specs.declared.event.Event.{Event}
use Rattle.acl_walk.specs.declared.event.Event.TheVariants.{HeadEnd, Finish}
use Rattle.acl_walk.specs.declared.tree_step.Now.{Now}
use Rattle.acl_walk.specs.declared.tree_step.Now.TheVariants as now
use Rattle.acl_walk.specs.declared.tree_spot.TreeSpot.{TreeSpot}
use Rattle.acl_walk.specs.inside.SpellLaws.{document_events-spell}

-- ---- something is always to come

-- in a content there is something to come
pub some-content : (names : List (List ℕ)) (levels : List OpenElement) → 0 < length (content_to_come names levels)
some-content names [] = omega arith
some-content names (level ∷ levels) = omega (arith, length-append (items_events names level.items) (Finish level.tag ∷ content_to_come names levels))

-- a list is not empty where its second part isn't
some-after : (prefix back : List Event) → 0 < length back → 0 < length (prefix ++ back)
some-after prefix back some = omega (arith, length-append prefix back)

-- in a head there is something to come
some-head : (names raws : List (List ℕ)) (levels : List OpenElement) → 0 < length (head_to_come names raws levels)
some-head names raws levels = some-after _ (HeadEnd ∷ content_to_come names levels) (omega arith)

-- at a Finish there is something to come
some-finish : (names : List (List ℕ)) (levels : List OpenElement) → 0 < length (finish_to_come names levels)
some-finish names [] = omega arith
some-finish names (level ∷ levels) = omega arith

-- at each position there is something to come
pub some-to_come : (names : List (List ℕ)) (place : Now) (levels : List OpenElement) → 0 < length (to_come names place levels)
some-to_come names (now.Root e) levels = some-after (element_events names e.now) (content_to_come names levels) (some-content names levels)
some-to_come names (now.Head raws) levels = some-head names raws.now levels
some-to_come names (now.Attribute bytes raws) levels = some-after (attribute_events bytes.now) (head_to_come names raws.now levels) (some-head names raws.now levels)
some-to_come names now.Content levels = some-content names levels
some-to_come names (now.Text bytes) levels = some-after (text_events bytes.now) (content_to_come names levels) (some-content names levels)
some-to_come names now.Finish levels = some-finish names levels

-- ---- the laws

-- Its list spells its document.
pub tree_listed : (k : Tree) (s : TreeSpot) (d : Doc) → IsSpotOf k s → d ≡ k.doc → IsListOf k.names (Some k.doc) (tree_events k)
tree_listed k s d made origin = record { spelled = document_events-spell k.names k.doc made.walked.known; formed = made.walked.formed }

-- The index of a spot is less than the length of the list.
pub tree_within : (k : Tree) (s : TreeSpot) (d : Doc) → IsSpotOf k s → d ≡ k.doc → Unit {0} → spot_place k s < length (tree_events k)
tree_within k s d made origin place = omega (arith, made.rest.shorter, some-to_come k.names s.now s.levels)

-- A spot before the first event is at index 0.
pub tree_fresh : (k : Tree) (s : TreeSpot) (d : Doc) → IsSpotOf k s → spot_stage s ≡ first_stage → d ≡ k.doc → Unit {0} → spot_place k s ≡ 0
tree_fresh k s d made first origin place = omega (arith, ap length (made.fresh (ap (λ (stage : Stage). stage.phase) first)))

-- The open elements at a spot are those that are open at its index.
pub tree_open_tags : (k : Tree) (s : TreeSpot) (d : Doc) → IsSpotOf k s → d ≡ k.doc → Unit {0}
    → tags_of s.levels ≡ tags_at (tree_events k) (spot_place k s)
tree_open_tags k s d made origin place = made.open_tags

-- The events to come are fewer than 2^64.
pub tree_few : (k : Tree) (s : TreeSpot) → IsSpotOf k s → length (spot_to_come k s) < 2 ^ 64
tree_few k s made = omega (arith, made.rest.shorter, made.walked.short)

-- At most as many elements are open as the document is high.
pub tree_few_open : (k : Tree) (s : TreeSpot) → IsSpotOf k s → length (tags_of s.levels) ≤ tree_depth k
tree_few_open k s made = omega (arith, made.few_open, length-map s.levels (λ (level : OpenElement). level.tag))

-- A document is at most 255 elements high.
pub tree_shallow : (k : Tree) (s : TreeSpot) → IsSpotOf k s → tree_depth k ≤ most_open_elements
tree_shallow k s made =
    let low : nat_le (tree_depth k) 255 ≡ true = second_so _ (nat_le (tree_depth k) 255) made.walked.formed in
    grind (arith, nat_tests, low)

-- There are at most 256 names, and they are distinct.
pub tree_named : (k : Tree) (s : TreeSpot) → IsSpotOf k s → AreNames k.names
tree_named k s made = made.walked.names

-- The laws of `went`, which says of this walk that the tree is the same.
pub tree_going : Goes {Walk = TreeState} {Fixed = Tree} (λ w o ps v. v.tree ≡ w.tree) (λ w. w.tree) (λ w d. true) (λ w. None)
tree_going = record {
  nowhere = λ w o ps. refl;
  onward = λ u v w o ps first second. second ∙ first;
  wider = λ w v o ps qs within went. went;
  unsound = λ w v d ps unsound went. went;
  same = λ w v o ps went. went;
  was_sound = λ w v d ps went sound. refl;
  stays_broken = λ w v o ps f went was. was;
}
