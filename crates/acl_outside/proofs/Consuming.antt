-- How the reads of one loop are one read.
use Rattle.std.proofs.Common.{◌≡◌, List, ℕ, ◌++◌, ◌+◌, ◌-◌, ◌≤◌, length, take, Option, Some, None, append_assoc, ap, sym, rules}
use Rattle.std.proofs.lemmas.Slice.{overwrites}
use Rattle.std.proofs.lemmas.List.{take-append-le, length-take-le}
use Rattle.std.proofs.Math.Seq.{take-append-add}
use Rattle.std.specs.Io.KnownBytes.{Consumes, Keeps}
use borrow.Rule.Slice.PartMut.{put_mid}

-- what two reads gave is what one read could have given
pub Consumes-more : (a b c : Option (List ℕ)) (xs ys zs : List ℕ) → Consumes a b xs → Consumes b c ys → zs ≡ xs ++ ys → Consumes a c zs
Consumes-more None b c xs ys zs first next whole = tt
Consumes-more (Some al) None c xs ys zs first next whole = absurd first
Consumes-more (Some al) (Some bl) None xs ys zs first next whole = absurd next
Consumes-more (Some al) (Some bl) (Some cl) xs ys zs first next whole = rw (first, next, whole, append_assoc)

-- a read that took nothing away changes nothing of what was given
pub Consumes-kept : (a b c : Option (List ℕ)) (xs zs : List ℕ) → Consumes a b xs → Keeps b c → zs ≡ xs → Consumes a c zs
Consumes-kept None b c xs zs first kept same = tt
Consumes-kept (Some al) None c xs zs first kept same = absurd first
Consumes-kept (Some al) (Some bl) None xs zs first kept same = absurd kept
Consumes-kept (Some al) (Some bl) (Some cl) xs zs first kept same = rw (first, kept, same)

-- the first bytes, after a part that follows them was overwritten
pub take-after : (room part : List ℕ) (at n : ℕ) → at ≤ length room → n ≤ length part
    → take (at + n) (put_mid at (length room - at) room part) ≡ take at room ++ take n part
take-after room part at n within fits =
    let prefix : length (take at room) ≡ at = length-take-le at room within in
    rw (ap (λ k. take (k + n) (put_mid at (length room - at) room part)) (sym prefix))
    (rw (take-append-add (take at room) _ n, take-append-le n part _ fits))

-- a read into the part of the buffer after the first bytes
pub Consumes-after : (a b c : Option (List ℕ)) (room part : List ℕ) (at n : ℕ) → at ≤ length room → n ≤ length part
    → Consumes a b (take at room) → Consumes b c (take n part)
    → Consumes a c (take (at + n) (put_mid at (length room - at) room part))
Consumes-after a b c room part at n within fits first next =
    Consumes-more a b c _ _ _ first next (take-after room part at n within fits)

-- a read into that part which failed
pub Consumes-unread : (a b c : Option (List ℕ)) (room part : List ℕ) (at : ℕ) → at ≤ length room
    → Consumes a b (take at room) → Keeps b c → Consumes a c (take at (put_mid at (length room - at) room part))
Consumes-unread a b c room part at within first kept =
    Consumes-kept a b c _ _ first kept (search (rules, overwrites))
