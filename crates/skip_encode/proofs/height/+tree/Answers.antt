use Rattle.std.proofs.Common.{◌≡◌, ◌+◌, ◌<◌, map, drop, ap, sym, ◌∙◌, arith}
use Rattle.std.specs.Prelude.{max}
use Rattle.acl_model.specs.Document.{greatest, height, height_of_item}
use Rattle.acl_model.specs.declared.document.Item.TheVariants.{Child}
use Rattle.acl_model.proofs.FormEquations.{height_is, height_of_item-Child}
use Rattle.tag_dictionary.proofs.Forms.{height_of_item-lower}
use Rattle.skip_encode.proofs.Heights.{ord_max-max, greatest-next, greatest-is}
use Rattle.skip_encode.proofs.height.+tree.Goals as goal

pub height-loop-item-init : goal.height-loop-item-init
height-loop-item-init t c = omega arith

-- An item is lower than the element that contains it.
pub height-height_of_item-requires : goal.height-height_of_item-requires
height-height_of_item-requires t c =
    let within = rw c.as_slice-item-items.ensures at c.loop-item-test.true in
    let is = rw c.as_slice-item-items.ensures at c.item-item.is in
    let lower : height_of_item c.item-item.result < height c.args.element.now = height_of_item-lower c.args.element.now c.loop-item.item-index c.item-item.result within is in
    (omega (arith, lower), omega (arith, lower, c.requires))

pub height-loop-item-preserved : goal.height-loop-item-preserved
height-loop-item-preserved t c =
    let within = rw c.as_slice-item-items.ensures at c.loop-item-test.true in
    let is = rw c.as_slice-item-items.ensures at c.item-item.is in
    let items = c.args.element.now.items in
    let high : c.max-greatest.result ≡ max c.loop-item.greatest (height_of_item c.item-item.result) =
    c.max-greatest.ensures ∙ ord_max-max c.loop-item.greatest c.height_of_item.result ∙ ap (max c.loop-item.greatest) c.height_of_item.ensures in
    ap (λ n. max n (greatest (map height_of_item (drop (c.loop-item.item-index + 1) items)))) high
    ∙ greatest-next items c.loop-item.item-index c.loop-item.greatest (greatest (map height_of_item items)) c.item-item.result within is c.loop-item.invariant

-- All items were passed.
pub height-overflow_add-result : goal.height-overflow_add-result
height-overflow_add-result t c =
    let past = rw c.as_slice-item-items.ensures at c.loop-item-test.false in
    let items = c.args.element.now.items in
    let all = greatest-is items c.loop-item.item-index c.loop-item.greatest (greatest (map height_of_item items)) past c.loop-item.invariant in
    omega (arith, all, height_is c.args.element.now, c.requires)

pub height-returns : goal.height-returns
height-returns t c =
    let past = rw c.as_slice-item-items.ensures at c.loop-item-test.false in
    let items = c.args.element.now.items in
    let all = greatest-is items c.loop-item.item-index c.loop-item.greatest (greatest (map height_of_item items)) past c.loop-item.invariant in
    ap (λ n. n + 1) all ∙ sym (height_is c.args.element.now)

-- A child element is no higher than its item.
pub height_of_item-height-requires : goal.height_of_item-height-requires
height_of_item-height-requires t c =
    let is : c.args.item.now ≡ Child c.get.result.now = c.in-Child.is ∙ ap Child (sym c.get.ensures) in
    let same : height_of_item c.args.item.now ≡ height c.get.result.now = ap height_of_item is ∙ height_of_item-Child c.get.result.now in
    (omega (arith, same), omega (arith, same, c.requires))
