use Rattle.std.proofs.Common.{◌≡◌, ◌||◌, ◌+◌, ◌*◌, ◌++◌, drop, length}
use Rattle.std.specs.List.{list_any}
use Rattle.acl_model.specs.Document.{height, height_of_item}
use Rattle.tree_meaning.specs.inside.Known.{preds_of, flags_within, flags_of_items}
use Rattle.tree_meaning.specs.inside.StepMarks.{marked_steps}
use Rattle.tree_meaning.specs.inside.Shows.{is_shown}
use Rattle.tree_meaning.proofs.ShowLaws.{shows_of_items}
use Rattle.tree_meaning.proofs.shows.+shows.Given as goal

-- an item is lower than its element, and a child element is as high as its item
abbrev pub decreases-find_shows : goal.decreases-find_shows
decreases-find_shows l = 2 * height l.element.now

abbrev pub decreases-find_shows_in_item : goal.decreases-find_shows_in_item
decreases-find_shows_in_item l = 2 * height_of_item l.item.now + 1

abbrev pub invariant-find_shows-loop-item : goal.invariant-find_shows-loop-item
invariant-find_shows-loop-item l =
    (l.shows.items ++ shows_of_items (marked_steps l.row.items) l.own (drop l.item-index l.item-items) ≡ l.initial.shows.items ++ shows_of_items (marked_steps l.row.items) l.own l.item-items)
    × ((l.inside || list_any is_shown (shows_of_items (marked_steps l.row.items) l.own (drop l.item-index l.item-items))) ≡ list_any is_shown (shows_of_items (marked_steps l.row.items) l.own l.item-items))
    × (l.known ≡ flags_of_items (preds_of (marked_steps l.row.items)) (drop l.item-index l.item-items) ++ drop (length (flags_within (preds_of (marked_steps l.fn.row)) l.element)) l.fn.known)
