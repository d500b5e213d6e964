-- After the attributes, three events and those of the attributes are counted; after the items, all
-- events are.
use Rattle.std.proofs.Common.{◌≡◌, [], length, min, drop, ap, sym, ◌∙◌, ◌-◌, ◌^◌, arith}
use Rattle.std.specs.List.{flat_map}
use Rattle.std.proofs.lemmas.List.{drop_all, length-map}
use Rattle.acl_model.specs.declared.document.Item.TheVariants.{Child}
use Rattle.acl_walk.specs.inside.EventEquations.{item_events-Text, item_events-Child}
use Rattle.acl_walk.specs.inside.OpenElements.{items_events}
use Rattle.acl_walk.specs.Pieces.{pieces}
use Rattle.acl_walk.specs.TreeEvents.{attribute_events, item_events}
use Rattle.acl_walk.specs.declared.event.Event.TheVariants.{Text}
use Rattle.acl_walk.proofs.BoundLaws.{length-element_events}
use Rattle.acl_walk.proofs.counting.+count.Goals as goal

pub element_count-loop-item-init : goal.element_count-loop-item-init
element_count-loop-item-init t c =
    let element = c.args.element.now in
    let raws : drop c.loop-raw.raw-index element.attributes ≡ [] = drop_all c.loop-raw.raw-index element.attributes (rw c.as_slice-raw-items.ensures at c.loop-raw-test.false) in
    let none : length (flat_map attribute_events (drop c.loop-raw.raw-index element.attributes)) ≡ 0 = ap (λ l. length (flat_map attribute_events l)) raws in record {
      all = λ names. omega (arith, none, c.loop-raw.invariant.all, length-element_events names element);
      fits = c.loop-raw.invariant.fits;
    }

pub element_count-returns : goal.element_count-returns
element_count-returns t c = λ names.
    let element = c.args.element.now in
    let items : drop c.loop-item.item-index element.items ≡ [] = drop_all c.loop-item.item-index element.items (rw c.as_slice-item-items.ensures at c.loop-item-test.false) in
    let none : length (items_events names (drop c.loop-item.item-index element.items)) ≡ 0 = ap (λ l. length (items_events names l)) items in
    let all = c.loop-item.invariant.all names in
    omega (arith, none, all, c.loop-item.invariant.fits)

pub item_count-returns-in-Text : goal.item_count-returns-in-Text
item_count-returns-in-Text t c = λ names.
    let parts : length (item_events names c.args.item.now) ≡ length (pieces c.as_slice.result.now) =
    ap (λ i. length (item_events names i)) c.in-Text.is ∙ ap length (item_events-Text names c.in-Text.bytes) ∙ length-map (pieces c.in-Text.bytes) Text ∙ ap (λ b. length (pieces b)) (sym c.as_slice.ensures) in
    omega (arith, parts, c.piece_count.ensures, c.piece_count.type_inv)

pub item_count-returns-in-Child : goal.item_count-returns-in-Child
item_count-returns-in-Child t c = λ names.
    let is : c.args.item.now ≡ Child c.get.result.now = c.in-Child.is ∙ ap Child (sym c.get.ensures) in
    c.element_count.ensures names ∙ ap (λ l. min (length l) (2 ^ 64 - 1)) (sym (ap (item_events names) is ∙ item_events-Child names c.get.result.now))
