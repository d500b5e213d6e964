-- One unknown name decides, and after the last item no name is left.
use Rattle.std.proofs.Common.{◌≡◌, ◌&&◌, true, false, [], drop, ap, sym, ◌∙◌}
use Rattle.std.specs.List.{list_all}
use Rattle.std.proofs.lemmas.List.{drop_all}
use Rattle.acl_walk.specs.TreeState.{is_known}
use Rattle.acl_walk.proofs.WalkableLaws.{names_of_items, known-element, unknown-item, and_no}
use Rattle.acl_walk.proofs.walkable.+known.Goals as goal

pub knows_element-returns-then-not-is_known : goal.knows_element-returns-then-not-is_known
knows_element-returns-then-not-is_known t c =
    let names = c.args.names.now in
    let element = c.args.element.now in
    let own : is_known names element.name ≡ false = ap (is_known names) (sym c.as_slice.ensures) ∙ sym c.if-not-is_known.ensures in
    sym (known-element names element ∙ ap (λ b. b && list_all (is_known names) (names_of_items element.items)) own)

pub knows_element-returns-then-not-knows_item : goal.knows_element-returns-then-not-knows_item
knows_element-returns-then-not-knows_item t c =
    let names = c.args.names.now in
    let element = c.args.element.now in
    let left : list_all (is_known names) (names_of_items (drop c.loop-item.item-index element.items)) ≡ false =
    unknown-item names element.items c.loop-item.item-index c.item-item.result (rw c.as_slice-item-items.ensures at c.loop-item-test.true)
    (rw c.as_slice-item-items.ensures at c.item-item.is) (sym c.if-not-knows_item.ensures) in
    sym (known-element names element ∙ and_no (is_known names element.name) (list_all (is_known names) (names_of_items element.items)) (sym c.loop-item.invariant ∙ left))

pub knows_element-returns : goal.knows_element-returns
knows_element-returns t c =
    let names = c.args.names.now in
    let element = c.args.element.now in
    let own : is_known names element.name ≡ true = ap (is_known names) (sym c.as_slice.ensures) ∙ sym c.if-not-is_known.ensures in
    let items : drop c.loop-item.item-index element.items ≡ [] = drop_all c.loop-item.item-index element.items (rw c.as_slice-item-items.ensures at c.loop-item-test.false) in
    let all : list_all (is_known names) (names_of_items element.items) ≡ true = sym c.loop-item.invariant ∙ ap (λ l. list_all (is_known names) (names_of_items l)) items in
    sym (known-element names element ∙ ap (λ b. b && list_all (is_known names) (names_of_items element.items)) own ∙ all)
