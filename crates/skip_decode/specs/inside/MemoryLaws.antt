-- The fragments of bytes in memory. Defined by this project.
use Rattle.std.proofs.Common.{◌≡◌, ℕ, ◌*◌, ◌/◌, ◌%◌, ◌≤◌, List, length, ap, arith}

-- the bytes of the longest stream make so many fragments
pub few_fragments : (n : ℕ) → n ≤ 33554432 → n / 256 ≤ 131072
few_fragments n few = omega arith

-- bytes without a part of a fragment at their end have as many bytes as their fragments
pub whole_fragments : (bytes stream : List ℕ) → length bytes % 256 ≡ 0 → stream ≡ bytes
    → length stream ≡ 256 * (length bytes / 256)
whole_fragments bytes stream whole is =
    let same = ap (λ (l : List ℕ). length l) is in omega (arith, whole, same)
