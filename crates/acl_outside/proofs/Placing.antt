-- How the reads at offsets of one loop are one read.
use Rattle.std.proofs.Common.{◌≡◌, ℕ, ◌+◌, ◌-◌, ◌≤◌, List, length, take, drop, Option, Some, None, IfSome, sym, ◌∙◌, arith}
use Rattle.std.proofs.Math.Seq.{take-add}
use Rattle.std.proofs.lemmas.List.{drop-drop}
use Rattle.std.proofs.lemmas.Slice.{take-put_mid_below}
use Rattle.acl_outside.proofs.Consuming.{take-after}
use borrow.Rule.Slice.PartMut.{put_mid}

-- a read after the first bytes gives no more than there are
pub cut-after : (told : Option (List ℕ)) (at filled place n : ℕ) → place ≡ at + filled
    → IfSome told (λ all. filled ≤ length all - at) → IfSome told (λ all. n ≤ length all - place)
    → IfSome told (λ all. filled + n ≤ length all - at)
cut-after None at filled place n next first more = tt
cut-after (Some all) at filled place n next first more = omega (arith, first, more)

-- a read into the part of the buffer after the first bytes gives the bytes that follow them
pub part-after : (told : Option (List ℕ)) (room part : List ℕ) (at filled place n : ℕ) → place ≡ at + filled
    → filled ≤ length room → n ≤ length part
    → IfSome told (λ all. take filled room ≡ take filled (drop at all)) → IfSome told (λ all. take n part ≡ take n (drop place all))
    → IfSome told (λ all. take (filled + n) (put_mid filled (length room - filled) room part) ≡ take (filled + n) (drop at all))
part-after None room part at filled place n next within fits first more = tt
part-after (Some all) room part at filled place n next within fits first more =
    take-after room part filled n within fits
    ∙ rw (first, more, next, ← drop-drop filled at all) (sym (take-add filled n (drop at all)))

-- a read into that part which gave nothing
pub part-kept : (told : Option (List ℕ)) (room part : List ℕ) (at filled : ℕ) → filled ≤ length room
    → IfSome told (λ all. take filled room ≡ take filled (drop at all))
    → IfSome told (λ all. take filled (put_mid filled (length room - filled) room part) ≡ take filled (drop at all))
part-kept None room part at filled within first = tt
part-kept (Some all) room part at filled within first =
    take-put_mid_below filled (length room - filled) room part filled (omega arith) within ∙ first
