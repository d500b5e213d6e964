use Rattle.std.proofs.Common.{◌≡◌, ◌*◌, false, take}
use Rattle.std.specs.Prelude.{IfSome, None}
use Rattle.std.specs.List.{list_any}
use Rattle.acl_model.specs.Stream.{plain}
use Rattle.acl_outside.specs.Outside.{NotFallen}
use Rattle.merkle_chunks.specs.HeaderBytes.{fragment_count}
use Rattle.fragment_open.specs.CallReads.{Told}
use Rattle.fragment_open.specs.Settled.{is_start, root_by, since}
use Rattle.file_reading.specs.FileEnds.{AreFirst, OfHeldDocument}
use Rattle.file_reading.proofs.OrderLemmas.{AreFirstAfter}
use Rattle.file_reading.proofs.ReadingLemmas.{HasPlain}
use Rattle.file_reading.proofs.stream.fetch_all.Given as goal

-- The stream is the fragments so far, and the opener has refused none.
abbrev pub invariant-loop-index : goal.invariant-loop-index
invariant-loop-index g l = record {
  head : l.opener.head ≡ l.fn.opener.head;
  fault : l.opener.fault ≡ None;
  name : l.opener.store.ghost_name ≡ l.fn.opener.store.ghost_name;
  count : l.count ≡ fragment_count l.fn.opener.head.header;
  told : Told (g.S.Store.served l.fn.opener.store.now) (g.S.Store.served l.opener.store.now) (λ more. list_any is_start more ≡ false);
  constant : g.S.Store.holds l.opener.store.now ≡ g.S.Store.holds l.fn.opener.store.now;
  never_falls : NotFallen (g.S.Store.faults l.fn.opener.store.now) (g.S.Store.faults l.opener.store.now);
  quiet : g.S.Store.faults l.opener.store.now ≡ g.S.Store.faults l.fn.opener.store.now;
  first : IfSome (g.S.Store.served l.opener.store.now) (λ all. AreFirst (root_by l.fn.opener.head.header l.fn.opener.head.top) l.fn.opener.head.key l.index l.stream.items (since all));
  order : AreFirstAfter l.index (g.S.Store.served l.fn.opener.store.now) (g.S.Store.served l.opener.store.now);
  plain_bytes : HasPlain l.fn.opener.head.key l.stream.items (g.S.Store.served l.fn.opener.store.now) (g.S.Store.served l.opener.store.now);
  held : OfHeldDocument (g.S.Store.holds l.fn.opener.store.now) (root_by l.fn.opener.head.header l.fn.opener.head.top) l.fn.opener.head.key (λ d. l.stream.items ≡ take (256 * l.index) (plain d));
}
