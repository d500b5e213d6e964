use Rattle.std.proofs.Common.{Ok, Err, sym, subst}
use Rattle.acl_model.specs.declared.document.Doc.{Doc}
use Rattle.acl_outside.specs.Outside.{CountsWhere}
use Rattle.fragment_open.proofs.ClimbLemmas.{Told-weaker}
use Rattle.fragment_open.specs.Checked.{AllFoldUnlessRefused}
use Rattle.file_reading.specs.FileEnds.{FileEnds, IsRefusedWhereShown, IsRefusedWithoutDocument, is_bad_fragment}
use Rattle.acl_outcome.specs.declared.outcome.Outcome.{Outcome}
use Rattle.acl_outcome.specs.Ends.{store, end_of, is_fault_of}
use Rattle.acl_run.specs.inside.Opening.{IsHonestEnd, IsStoreRefused, IsStoreWithoutDocument}
use Rattle.acl_run.specs.Outcomes.{is_bad_fragment_outcome}
use Rattle.acl_run.proofs.StoreEnds.{document_refused, fault_checked, fault_without, fault_counts, fault_refused, honest_ends, still_told}
use Rattle.acl_run.proofs.readers.read_store.Goals as goal

pub returns-in-Err-clause-held : goal.returns-in-Err-clause-held
returns-in-Err-clause-held g c = λ d is root.
    subst (λ (outcome : Outcome). IsHonestEnd (end_of outcome)) (sym c.store_outcome.ensures) (honest_ends c.in-Err.fault (c.in-Err.ensures.held d is root))

pub returns-in-Err-clause-store : goal.returns-in-Err-clause-store
returns-in-Err-clause-store g c =
    let P : Outcome → Type 0 = λ outcome. CountsWhere (is_fault_of store (end_of outcome)) (g.S.Store.faults c.args.store.now) (g.S.Store.faults c.read_file.new.store) in
    record {
      count = subst P (sym c.store_outcome.ensures)
          (fault_counts Doc c.in-Err.fault (g.S.Store.faults c.args.store.now) (g.S.Store.faults c.read_file.new.store) c.in-Err.ensures.cause c.in-Err.ensures.quiet_else);
      never_falls = c.in-Err.ensures.never_falls;
      constant = c.in-Err.ensures.constant;
      telling = still_told (g.S.Store.served c.args.store.now) (g.S.Store.served c.read_file.new.store) (FileEnds (Err c.in-Err.fault) c.args.root c.args.key) c.in-Err.ensures.told;
    }

pub returns-in-Ok-clause-store : goal.returns-in-Ok-clause-store
returns-in-Ok-clause-store g c = record {
  count = c.in-Ok.ensures.quiet;
  never_falls = c.in-Ok.ensures.never_falls;
  constant = c.in-Ok.ensures.constant;
  telling = still_told (g.S.Store.served c.args.store.now) (g.S.Store.served c.read_file.new.store) (FileEnds (Ok c.in-Ok.doc) c.args.root c.args.key) c.in-Ok.ensures.told;
}

pub returns-in-Err-clause-exact : goal.returns-in-Err-clause-exact
returns-in-Err-clause-exact g c =
    Told-weaker (g.S.Store.served c.args.store.now) (g.S.Store.served c.read_file.new.store) (IsRefusedWhereShown {T = Doc} (Err c.in-Err.fault) c.args.root c.args.key)
    (IsStoreRefused (Err c.store_outcome.result) c.args.root c.args.key) c.in-Err.ensures.exact
    (λ reads exact. fault_refused c.in-Err.fault c.store_outcome.result c.args.root c.args.key reads c.store_outcome.ensures exact)

pub returns-in-Ok-clause-exact : goal.returns-in-Ok-clause-exact
returns-in-Ok-clause-exact g c =
    Told-weaker (g.S.Store.served c.args.store.now) (g.S.Store.served c.read_file.new.store) (IsRefusedWhereShown (Ok c.in-Ok.doc) c.args.root c.args.key)
    (IsStoreRefused (Ok c.in-Ok.doc) c.args.root c.args.key) c.in-Ok.ensures.exact
    (λ reads exact. document_refused c.in-Ok.doc c.args.root c.args.key reads exact)

pub returns-in-Err-clause-checked : goal.returns-in-Err-clause-checked
returns-in-Err-clause-checked g c =
    Told-weaker (g.S.Store.served c.args.store.now) (g.S.Store.served c.read_file.new.store) (λ reads. AllFoldUnlessRefused (is_bad_fragment {T = Doc} (Err c.in-Err.fault)) reads)
    (λ reads. AllFoldUnlessRefused (is_bad_fragment_outcome c.store_outcome.result) reads) c.in-Err.ensures.checked
    (λ reads checked. fault_checked c.in-Err.fault c.store_outcome.result reads c.store_outcome.ensures checked)

pub returns-in-Err-clause-shown_index : goal.returns-in-Err-clause-shown_index
returns-in-Err-clause-shown_index g c =
    Told-weaker (g.S.Store.served c.args.store.now) (g.S.Store.served c.read_file.new.store) (IsRefusedWithoutDocument {T = Doc} (Err c.in-Err.fault) c.args.root c.args.key)
    (IsStoreWithoutDocument (Err c.store_outcome.result) c.args.root c.args.key) c.in-Err.ensures.shown_index
    (λ reads without shows. fault_without c.in-Err.fault c.store_outcome.result c.store_outcome.ensures (without shows))

pub returns-in-Ok-clause-shown_index : goal.returns-in-Ok-clause-shown_index
returns-in-Ok-clause-shown_index g c =
    Told-weaker (g.S.Store.served c.args.store.now) (g.S.Store.served c.read_file.new.store) (IsRefusedWithoutDocument (Ok c.in-Ok.doc) c.args.root c.args.key)
    (IsStoreWithoutDocument (Ok c.in-Ok.doc) c.args.root c.args.key) c.in-Ok.ensures.shown_index
    (λ reads without shows. without shows)
