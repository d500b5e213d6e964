use Rattle.std.proofs.Common.{◌≡◌, ◌*◌, ◌<◌, ◌≤◌, take}
use Rattle.skip_decode.specs.Fragments.{ForEach, Leads, Narrows}
use Rattle.skip_decode.specs.Starting.{OpenedFirst}
use Rattle.skip_decode.specs.inside.Windows.{IsHeld, IsNewest}
use Rattle.skip_decode.proofs.start.front.Given as goal

-- The bytes are the fragments so far, and nothing was refused.
abbrev pub invariant-loop-index : goal.invariant-loop-index
invariant-loop-index g l = record {
  count : l.count ≡ l.fn.count;
  whole : 256 * l.whole ≤ l.count;
  same_count : g.F.Fragments.count l.window.source ≡ g.F.Fragments.count l.fn.window.source;
  refused : g.F.Fragments.refused l.window.source ≡ g.F.Fragments.refused l.fn.window.source;
  held : IsHeld (g.F.Fragments.may_be l.window.source) l.window.held l.window.at;
  narrows : Narrows (g.F.Fragments.may_be l.fn.window.source) (g.F.Fragments.may_be l.window.source);
  went : Leads g.F.Fragments.went l.fn.window.source l.window.source;
  opened : OpenedFirst l.index (g.F.Fragments.opened l.fn.window.source) (g.F.Fragments.opened l.window.source);
  newest : 0 < l.index → IsNewest l.window.at (g.F.Fragments.opened l.window.source);
  bytes : ForEach (g.F.Fragments.may_be l.window.source) (λ stream. l.bytes.items ≡ take (256 * l.index) stream);
}
