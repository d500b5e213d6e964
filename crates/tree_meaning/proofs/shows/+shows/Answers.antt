use Rattle.std.proofs.Common.{rules, ◌≡◌, ◌∙◌, ◌++◌, ap, sym, refl, subst, arith, length, drop}
use Rattle.acl_model.specs.Document.{height, height_of_item}
use Rattle.acl_model.proofs.FormEquations.{height_of_item-Child}
use Rattle.tree_meaning.specs.inside.Known.{StartsWith, preds_of, flags_within, flags_of_item}
use Rattle.tree_meaning.proofs.Heights.{height_of_item-lower}
use Rattle.tree_meaning.proofs.KnownLaws.{item_first, item_passed, items_next, items_end, flags_of_item-Child}
use Rattle.std.specs.List.{list_any}
use Rattle.tree_meaning.specs.inside.StepMarks.{marked_steps, sign_here}
use Rattle.tree_meaning.specs.inside.Shows.{is_shown, shows_of_item}
use Rattle.tree_meaning.proofs.ShowLaws.{shows_of_items, shows_step, shown_step, told_is, shows_before, place_within, settled, with_show-shown}
use Rattle.tree_meaning.proofs.shows.+shows.Goals as goal

pub find_shows-loop-item-init : goal.find_shows-loop-item-init
find_shows-loop-item-init t c = (
  refl,
  refl,
  items_next (marked_steps c.args.row.now) (marked_steps c.in_ok-row.row.items) c.args.element.now c.as_slice-item-items.result.now c.args.known.now c.all_below.new.known
      c.in_ok-row.ensures.row c.as_slice-item-items.ensures c.requires c.in_ok-row.ensures.known,
)

pub find_shows-find_shows_in_item-requires : goal.find_shows-find_shows_in_item-requires
find_shows-find_shows_in_item-requires t c =
    let lower = height_of_item-lower c.args.element.now c.loop-item.item-index c.item-item.result c.as_slice-item-items.result.now c.as_slice-item-items.ensures c.loop-item-test.true c.item-item.is in (
      omega (arith, lower),
      subst (λ row. StartsWith (flags_of_item (preds_of (marked_steps row)) c.item-item.result) c.loop-item.known) (sym c.as_slice-in-loop-item.ensures.value)
          (item_first (preds_of (marked_steps c.in_ok-row.row.items)) c.as_slice-item-items.result.now c.loop-item.item-index c.item-item.result c.loop-item.known _ c.loop-item-test.true c.item-item.is c.loop-item.invariant.2),
    )

pub find_shows_in_item-find_shows-requires : goal.find_shows_in_item-find_shows-requires
find_shows_in_item-find_shows-requires t c =
    let preds = preds_of (marked_steps c.args.row.now) in
    let same : height_of_item c.args.item.now ≡ height c.get.result.now = ap height_of_item c.in-Child.is ∙ height_of_item-Child c.in-Child.element ∙ ap height (sym c.get.ensures) in (
      omega (arith, same),
      subst (λ flags. StartsWith flags c.args.known.now)
          (ap (flags_of_item preds) c.in-Child.is ∙ flags_of_item-Child preds c.in-Child.element ∙ ap (flags_within preds) (sym c.get.ensures)) c.requires,
    )

pub find_shows-loop-item-preserved : goal.find_shows-loop-item-preserved
find_shows-loop-item-preserved t c =
    let item = c.item-item.result in
    let here = marked_steps c.in_ok-row.row.items in
    let told = ap (λ row. shows_of_item c.item-item.result (marked_steps row) c.sign_of-own.result) c.as_slice-in-loop-item.ensures.value in (
      shows_step c.as_slice-item-items.result.now c.loop-item.item-index item here c.sign_of-own.result c.loop-item.shows.items _ _ c.loop-item-test.true c.item-item.is
          (c.in_ok-shown.ensures.shows ∙ ap (λ s. c.loop-item.shows.items ++ s) told) c.loop-item.invariant.0,
      shown_step c.as_slice-item-items.result.now c.loop-item.item-index item here c.sign_of-own.result c.loop-item.inside c.in_ok-shown.shown _ _ c.loop-item-test.true c.item-item.is
          c.either-inside.ensures (c.in_ok-shown.ensures.shown ∙ ap (list_any is_shown) told) c.loop-item.invariant.1,
      item_passed (preds_of here) c.as_slice-item-items.result.now c.loop-item.item-index item c.loop-item.known _ _ c.loop-item-test.true c.item-item.is c.loop-item.invariant.2
          (c.in_ok-shown.ensures.known ∙ ap (λ row. drop (length (flags_of_item (preds_of (marked_steps row)) c.item-item.result)) c.loop-item.known) c.as_slice-in-loop-item.ensures.value),
    )

pub find_shows-settle-requires : goal.find_shows-settle-requires
find_shows-settle-requires t c =
    place_within c.args.shows.now.items (shows_of_items (marked_steps c.in_ok-row.row.items) c.sign_of-own.result c.as_slice-item-items.result.now) c.loop-item.shows.items c.len-at.result
    (search rules)
    (shows_before (marked_steps c.in_ok-row.row.items) c.sign_of-own.result c.as_slice-item-items.result.now c.loop-item.item-index c.args.shows.now.items c.push.new.self.items c.loop-item.shows.items
    c.loop-item-test.false c.in_ok-push.ensures.items c.loop-item.invariant.0)

pub find_shows-returns : goal.find_shows-returns
find_shows-returns t c =
    let here = marked_steps c.in_ok-row.row.items in
    let inside = shows_of_items here c.sign_of-own.result c.as_slice-item-items.result.now in
    let own = c.sign_of-own.ensures ∙ ap (λ row. sign_here (marked_steps row) c.args.above) c.as_slice.ensures.value in
    let told = told_is (marked_steps c.args.row.now) here c.args.above c.sign_of-own.result c.args.element.now c.as_slice-item-items.result.now c.loop-item.item-index c.loop-item.inside c.show_of-show.result
    c.in_ok-row.ensures.row own c.as_slice-item-items.ensures c.loop-item-test.false c.loop-item.invariant.1 c.show_of-show.ensures in
    record {
      shows =
          c.settle.ensures
          ∙ settled c.args.shows.now.items inside c.show_of-show.result c.len-at.result c.loop-item.shows.items
          (search rules)
          (shows_before here c.sign_of-own.result c.as_slice-item-items.result.now c.loop-item.item-index c.args.shows.now.items c.push.new.self.items c.loop-item.shows.items
          c.loop-item-test.false c.in_ok-push.ensures.items c.loop-item.invariant.0)
          ∙ ap (λ s. c.args.shows.now.items ++ s) told;
      shown = c.does_show.ensures ∙ sym (with_show-shown c.show_of-show.result inside) ∙ ap (list_any is_shown) told;
      known = items_end (preds_of here) c.as_slice-item-items.result.now c.loop-item.item-index c.loop-item.known _ c.loop-item-test.false c.loop-item.invariant.2;
    }
