-- The words before i have the bits of both sets, and those from i on are unchanged.
use Rattle.std.proofs.Common.{◌≡◌, ℕ, ◌<◌, ◌≤◌, get_or, bit_or}
use Rattle.acl_bits.specs.Row.{AreWords}
use Rattle.acl_bits.proofs.number_set.Row.join.Given as goal

abbrev pub invariant-loop-i : goal.invariant-loop-i
invariant-loop-i l = record {
  words : AreWords l.self-inside.words;
  written : (k : ℕ) → k < l.i → get_or l.self-inside.words k 0 ≡ bit_or (get_or l.initial.self-inside.words k 0) (get_or l.other-inside.words k 0);
  kept : (k : ℕ) → l.i ≤ k → get_or l.self-inside.words k 0 ≡ get_or l.initial.self-inside.words k 0;
}
