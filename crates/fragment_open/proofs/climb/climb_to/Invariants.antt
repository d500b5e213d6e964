use Rattle.std.proofs.Common.{◌≡◌, ◌-◌, ◌≤◌, ℕ, List}
use Rattle.acl_model.specs.declared.document.Doc.{Doc}
use Rattle.acl_outside.specs.Outside.{NotFallen}
use Rattle.fragment_open.specs.Asks.{index_at}
use Rattle.fragment_open.specs.CallReads.{Told}
use Rattle.fragment_open.specs.inside.Climbing.{Climbs, IsNext}
use Rattle.fragment_open.specs.Held.{HoldsFile, digest_held}
use Rattle.fragment_open.proofs.climb.climb_to.Given as goal

abbrev pub invariant-up : goal.invariant-up
invariant-up g l = record {
  low : l.climb.level ≤ l.goal;
  same : IsNext l.fn.from.fragments l.fn.from.index l.climb.level l.climb.fragments l.climb.index l.climb.level;
  told : Told (g.S.Store.served l.fn.store) (g.S.Store.served l.store) (Climbs l.fn.from.fragments l.fn.from.index l.fn.from.level l.fn.from.digest l.climb.level l.climb.digest);
  constant : g.S.Store.holds l.store ≡ g.S.Store.holds l.fn.store;
  never_falls : NotFallen (g.S.Store.faults l.fn.store) (g.S.Store.faults l.store);
  quiet : g.S.Store.faults l.store ≡ g.S.Store.faults l.fn.store;
  held : (d : Doc) (key : List ℕ) → HoldsFile (g.S.Store.holds l.fn.store) l.fn.from.fragments d key → l.fn.from.digest ≡ digest_held d key l.fn.from.level (index_at l.fn.from.index l.fn.from.level)
      → l.climb.digest ≡ digest_held d key l.climb.level (index_at l.fn.from.index l.climb.level);
}

abbrev pub decreases-up : goal.decreases-up
decreases-up g l = l.goal - l.climb.level
