-- Counts as the code keeps them. Defined by this project.
use Rattle.std.specs.Prelude.{ℕ, min}

-- a count as a `usize`: the count itself, or the greatest `usize` where it is above that
abbrev pub in_usize : ℕ → ℕ
in_usize n = min n 18446744073709551615
