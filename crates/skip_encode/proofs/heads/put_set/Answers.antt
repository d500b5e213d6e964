use Rattle.std.proofs.Common.{◌≡◌, suc, ◌≤◌, ◌++◌, true, false, [], ◌∷◌, length, map, append_assoc, append-nil, ap, sym, ◌∙◌, arith}
use Rattle.acl_model.specs.Stream.{has_member}
use Rattle.skip_encode.proofs.BitWords.{one_bit}
use Rattle.skip_encode.proofs.Members.{length-whole, set_bits-put, set_bits-some, set_bits-none}
use Rattle.skip_encode.proofs.heads.put_set.Goals as goal

-- The bits of the empty set are 0.
pub returns-then-count-eq0-clause-bits : goal.returns-then-count-eq0-clause-bits
returns-then-count-eq0-clause-bits c =
    let none : length c.args.below.now ≡ 0 = sym c.count.ensures.number ∙ c.if-count-eq0.true in
    c.put.ensures.bits ∙ ap (λ l. c.args.bits.now ++ l) (one_bit false ∙ sym (set_bits-none c.args.members.now c.args.below.now none))

-- At the start all members are left.
pub loop-n-init : goal.loop-n-init
loop-n-init c = record {
  put = ap (λ l. l ++ map (has_member c.args.below.now) c.args.members.now) (c.put-2.ensures.bits ∙ ap (λ l. c.args.bits.now ++ l) (one_bit true));
  few = omega (arith, c.put-2.ensures.length);
}

pub put-requires-in-Some-clause-room : goal.put-requires-in-Some-clause-room
put-requires-in-Some-clause-room c =
    let long : length c.loop-n.left ≡ suc (length c.take_first.new.self) = ap length c.in-Some.ensures.first in
    omega (arith, c.loop-n.invariant.few, c.requires.room, length-whole c.args.members.now c.requires.row, long)

-- The bit of the next member is appended.
pub loop-n-preserved : goal.loop-n-preserved
loop-n-preserved c =
    let long : length c.loop-n.left ≡ suc (length c.take_first.new.self) = ap length c.in-Some.ensures.first in record {
      put = set_bits-put c.loop-n.bits _ _ c.loop-n.left c.take_first.new.self c.args.below.now c.in-Some.n c.from.result c.has.result
          c.put-in-Some.ensures.bits c.from.ensures c.has.ensures c.in-Some.ensures.first c.loop-n.invariant.put;
      few = omega (arith, c.loop-n.invariant.few, c.put-in-Some.ensures.length, long);
    }

-- At the end no member is left.
pub returns-clause-bits : goal.returns-clause-bits
returns-clause-bits c =
    let some : 1 ≤ length c.args.below.now = omega (arith, c.count.ensures.number) in
    sym (append-nil c.loop-n.bits)
    ∙ ap (λ l. c.loop-n.bits ++ map (has_member c.args.below.now) l) (sym c.in_default.ensures.first)
    ∙ c.loop-n.invariant.put
    ∙ append_assoc c.args.bits.now (true ∷ []) (map (has_member c.args.below.now) c.args.members.now)
    ∙ ap (λ l. c.args.bits.now ++ l) (sym (set_bits-some c.args.members.now c.args.below.now some))

pub returns-clause-length : goal.returns-clause-length
returns-clause-length c = omega (arith, c.loop-n.invariant.few, length-whole c.args.members.now c.requires.row)
