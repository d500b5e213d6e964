-- The positions (spots) of a walk over a tree: a new one, one after a step, and one after a pass.
use Rattle.std.proofs.Common.{◌≡◌, ℕ, Bool, true, false, ◌<◌, ◌≤◌, List, [], ◌∷◌, ◌++◌, length, drop, ap, sym, subst, ◌∙◌, arith, Bor}
use Rattle.std.proofs.lemmas.List.{length-map}
use Rattle.acl_model.specs.declared.document.Element.{Element}
use Rattle.acl_walk.specs.Nesting.{Nest, at_start, at_finish, tags_after, content_phase, phase_after_attr, phase_after_text, phase_after}
use Rattle.acl_walk.specs.Open.{OpenPlace, open_at, tags_at}
use Rattle.acl_walk.specs.inside.OpenElements.{OpenElement, tags_of, content_to_come, finish_to_come}
use Rattle.acl_walk.specs.SpotMoves.{StandsAt, PassesTo, from_finish}
use Rattle.acl_walk.specs.TreeEvents.{element_events}
use Rattle.acl_walk.specs.TreeState.{Tree, CanBeWalked}
use Rattle.acl_walk.specs.inside.TreeSteps.{to_come, phase_of, Steps}
use Rattle.acl_walk.specs.inside.TreeSpots.{EndsWith, IsSpotOf, spot_to_come, spot_place, tree_depth, tree_events}
use Rattle.acl_walk.specs.inside.OpenLaws.{tags_at-step}
use Rattle.acl_walk.specs.inside.PassLaws.{pass_where_open}
use Rattle.acl_walk.specs.inside.SpellLaws.{document_events-spell}
use Rattle.acl_walk.specs.declared.event.Event.{Event}
use Rattle.acl_walk.specs.declared.event.Event.TheVariants.{Begin, Attr, HeadEnd, Text, Finish, End}
use Rattle.acl_walk.specs.declared.tree_step.Now.{Now}
use Rattle.acl_walk.specs.declared.tree_step.Now.TheVariants as now
use Rattle.acl_walk.specs.declared.tree_spot.TreeSpot.{TreeSpot}
use Rattle.acl_walk.proofs.FinishLaws.{from_finish-to_come}
use Rattle.acl_walk.proofs.NestLaws.{nest-document, nest-from_finish}
use Rattle.acl_walk.proofs.PlaceLaws.{ends-whole, ends-step, stands-step, nest-step, few-step, ends-from_finish, shorter-from_finish}

-- the position at the root, with no open element, is a spot
pub new-is_spot : (k : Tree) (levels : List OpenElement) (root : Bor Element) → CanBeWalked k → levels ≡ [] → root.now ≡ k.doc.root
    → IsSpotOf k (record { levels = levels; now = now.Root root })
new-is_spot k levels root walked none same =
    let whole : spot_to_come k (record { levels = levels; now = now.Root root }) ≡ tree_events k =
    ap (λ e. element_events k.names e ++ content_to_come k.names levels) same ∙ ap (λ ls. element_events k.names k.doc.root ++ content_to_come k.names ls) none in
    let nests : Nest (length k.names) (tree_depth k) [] at_start (tree_events k) =
    nest-document k.names k.doc (tree_events k) (document_events-spell k.names k.doc walked.known) walked.formed in
    let first : spot_place k (record { levels = levels; now = now.Root root }) ≡ 0 = omega (arith, ap length whole) in
    record {
      walked = walked;
      rest = subst (EndsWith (tree_events k)) (sym whole) (ends-whole (tree_events k));
      nests = subst (λ tags. Nest (length k.names) (tree_depth k) tags at_start (spot_to_come k (record { levels = levels; now = now.Root root }))) (ap tags_of (sym none))
          (subst (Nest (length k.names) (tree_depth k) [] at_start) (sym whole) nests);
      fresh = λ start. whole;
      few_open = omega (arith, ap length none);
      open_tags = ap tags_of none ∙ ap (tags_at (tree_events k)) (sym first);
      inside = tt;
    }

-- the same for an equal tree
pub new-is_spot_of : (tree k : Tree) (levels : List OpenElement) (root : Bor Element) → CanBeWalked tree → tree ≡ k → levels ≡ [] → root.now ≡ tree.doc.root
    → IsSpotOf k (record { levels = levels; now = now.Root root })
new-is_spot_of tree k levels root walked is none same =
    subst (λ t. IsSpotOf t (record { levels = levels; now = now.Root root })) is (new-is_spot tree levels root walked none same)

content-not_start : (tags : List ℕ) → content_phase tags ≡ at_start → ⊥
content-not_start [] start = cc
content-not_start (tag ∷ tags) start = cc

attr-not_start : (last : Bool) → phase_after_attr last ≡ at_start → ⊥
attr-not_start true start = cc
attr-not_start false start = cc

text-not_start : (last : Bool) → phase_after_text last ≡ at_start → ⊥
text-not_start true start = cc
text-not_start false start = cc

-- after an event a spot isn't before the first event
after-not_start : (tags : List ℕ) (event : Event) → phase_after tags event ≡ at_start → ⊥
after-not_start tags (Begin tag below) start = cc
after-not_start tags (Attr piece) start = attr-not_start piece.last start
after-not_start tags HeadEnd start = cc
after-not_start tags (Text piece) start = text-not_start piece.last start
after-not_start tags (Finish tag) start = content-not_start (drop 1 tags) start
after-not_start tags End start = cc

-- the event of a step is the list's at the spot's index
pub step-stands : (k : Tree) (old new : TreeSpot) (event : Event) → IsSpotOf k old
    → Steps k.names event (spot_to_come k old) (tags_of old.levels) new.now new.levels
    → StandsAt (tree_events k) (spot_place k old) event (spot_place k new)
step-stands k old new event made steps =
    stands-step (tree_events k) event (spot_to_come k old) (spot_to_come k new) steps.comes made.rest

-- the position after a step is a spot
pub step-is_spot : (k : Tree) (old new : TreeSpot) (event : Event) → IsSpotOf k old
    → Steps k.names event (spot_to_come k old) (tags_of old.levels) new.now new.levels → IsSpotOf k new
step-is_spot k old new event made steps =
    let tags : List ℕ = tags_of old.levels in
    let N : ℕ = length k.names in
    let deep : ℕ = tree_depth k in
    let next = nest-step N deep tags (phase_of old.now tags) event (spot_to_come k old) (spot_to_come k new) steps.comes made.nests in
    let before : length tags ≡ length old.levels = length-map old.levels (λ (level : OpenElement). level.tag) in
    let after : length (tags_of new.levels) ≡ length new.levels = length-map new.levels (λ (level : OpenElement). level.tag) in
    let few : length (tags_after tags event) ≤ deep = few-step N deep tags (phase_of old.now tags) event next.0 (omega (arith, made.few_open)) in
    record {
      walked = made.walked;
      rest = ends-step (tree_events k) event (spot_to_come k old) (spot_to_come k new) steps.comes made.rest;
      nests = subst (λ p. Nest N deep (tags_of new.levels) p (spot_to_come k new)) (sym steps.phase)
          (subst (λ t. Nest N deep t (phase_after tags event) (spot_to_come k new)) (sym steps.open_tags) next.1);
      fresh = λ start. absurd (after-not_start tags event (sym steps.phase ∙ start));
      few_open = omega (arith, after, few, ap length steps.open_tags);
      open_tags = steps.open_tags ∙ ap (λ ts. tags_after ts event) made.open_tags
          ∙ sym (tags_at-step (tree_events k) (spot_place k old) event (spot_place k new)
          (step-stands k old new event made steps));
      inside = steps.inside;
    }

finish_not_start : at_finish ≡ at_start → ⊥
finish_not_start start = cc

-- after a pass of the innermost open element the events to come are a suffix of the list
pass-rest : (k : Tree) (level : OpenElement) (levels : List OpenElement) (place : Now)
    → IsSpotOf k (record { levels = level ∷ levels; now = place })
    → EndsWith (tree_events k) (finish_to_come k.names (level ∷ levels))
pass-rest k level levels place made =
    subst (EndsWith (tree_events k)) (from_finish-to_come k.names place level levels)
    (ends-from_finish (tree_events k) 0 (to_come k.names place (level ∷ levels)) made.rest)

-- after a pass the spot is at the Finish of that element
pub pass-to_finish : (k : Tree) (levels : List OpenElement) (place : Now) → 0 < length levels
    → IsSpotOf k (record { levels = levels; now = place })
    → PassesTo (tags_of levels) (tree_events k) (spot_place k (record { levels = levels; now = place }))
    (spot_place k (record { levels = levels; now = now.Finish }))
pass-to_finish k [] place some made = absurd (omega (arith, some))
pass-to_finish k (level ∷ levels) place some made =
    let after = pass-rest k level levels place made in
    after.same ∙ sym (ap (from_finish 0) made.rest.same ∙ from_finish-to_come k.names place level levels)

-- after a pass the same elements are open at the spot's index
pass-tags : (k : Tree) (levels : List OpenElement) (place : Now) → 0 < length levels
    → IsSpotOf k (record { levels = levels; now = place })
    → tags_of levels ≡ tags_at (tree_events k) (spot_place k (record { levels = levels; now = now.Finish }))
pass-tags k levels place some made =
    let list : List Event = tree_events k in
    let old : ℕ = spot_place k (record { levels = levels; now = place }) in
    let new : ℕ = spot_place k (record { levels = levels; now = now.Finish }) in
    let here : length (tags_of levels) ≡ length levels = length-map levels (λ (level : OpenElement). level.tag) in
    let there : length (tags_at list old) ≡ length (open_at list old) =
    length-map (open_at list old) (λ (element : OpenPlace). element.tag) in
    let passes : PassesTo (tags_at list old) list old new =
    subst (λ ts. PassesTo ts list old new) made.open_tags (pass-to_finish k levels place some made) in
    let spells = document_events-spell k.names k.doc made.walked.known in
    let pass = pass_where_open k.names k.doc list old new made.walked.names.few spells
    (omega (arith, some, here, there, ap length made.open_tags)) passes in
    made.open_tags ∙ sym pass.same_tags

-- after a pass of the innermost open element a spot is still a spot
pub pass-is_spot : (k : Tree) (levels : List OpenElement) (place : Now) → 0 < length levels
    → IsSpotOf k (record { levels = levels; now = place }) → IsSpotOf k (record { levels = levels; now = now.Finish })
pass-is_spot k [] place some made = absurd (omega (arith, some))
pass-is_spot k (level ∷ levels) place some made =
    let at : from_finish 0 (to_come k.names place (level ∷ levels)) ≡ finish_to_come k.names (level ∷ levels) = from_finish-to_come k.names place level levels in
    record {
      walked = made.walked;
      rest = pass-rest k level levels place made;
      nests = subst (Nest (length k.names) (tree_depth k) (tags_of (level ∷ levels)) at_finish) at
          (nest-from_finish (length k.names) (tree_depth k) [] level.tag (tags_of levels) (phase_of place (tags_of (level ∷ levels))) (to_come k.names place (level ∷ levels)) made.nests);
      fresh = λ start. absurd (finish_not_start start);
      few_open = made.few_open;
      open_tags = pass-tags k (level ∷ levels) place some made;
      inside = tt;
    }

-- after a pass at most as many events are to come as before
pub pass-no_more : (k : Tree) (levels : List OpenElement) (place : Now) → 0 < length levels
    → length (finish_to_come k.names levels) ≤ length (to_come k.names place levels)
pass-no_more k [] place some = absurd (omega (arith, some))
pass-no_more k (level ∷ levels) place some =
    subst (λ events. length events ≤ length (to_come k.names place (level ∷ levels))) (from_finish-to_come k.names place level levels)
    (shorter-from_finish 0 (to_come k.names place (level ∷ levels)))
