use Rattle.std.proofs.Common.{ℕ, ap}
use Rattle.std.proofs.lemmas.Result.{err_from_is_err_and}
use Rattle.std.specs.Prelude.{Ok, Err, Vec}
use Rattle.std.specs.declared.alloc.Global.{Global}
use Rattle.acl_model.specs.declared.document.Doc.{Doc}
use Rattle.fragment_open.specs.Checked.{AllFoldUnlessRefused}
use Rattle.file_reading.specs.declared.fault.FileFault.TheVariants.{Refused}
use Rattle.file_reading.specs.FileEnds.{FileEnds, IsRefusedWhereShown, OpensInOrder, is_bad_fragment}
use Rattle.file_reading.specs.inside.FileFaults.{fault_of_index}
use Rattle.file_reading.proofs.FileLemmas.{decoded_checked, document_held, document_told, holds_so, index_told, not_started-ends, root_so, stream_fault_told, told-since}
use Rattle.file_reading.proofs.OrderLemmas.{err_order, not_started_order, ok_order}
use Rattle.file_reading.proofs.ShownLemmas.{err_exact, not_started_exact, ok_exact}
use Rattle.file_reading.proofs.WholeLemmas.{given_told, no_document_told, not_started_checked}
use Rattle.file_reading.proofs.file.read_file.Goals as goal

pub returns-in_err-head-clause-told : goal.returns-in_err-head-clause-told
returns-in_err-head-clause-told g c =
    let p = err_from_is_err_and c.from_residual.result c.from_residual.ensures.1 in
    rw (p.1, p.2) (not_started-ends c.args.root c.args.key c.in_err-head.field-0.0 (g.S.Store.served c.args.store.now) (g.S.Store.served c.begin.new.store) c.in_err-head.ensures.told)

pub returns-in_err-stream-clause-told : goal.returns-in_err-stream-clause-told
returns-in_err-stream-clause-told g c =
    let p = err_from_is_err_and c.from_residual-in_err-stream.result c.from_residual-in_err-stream.ensures.1 in
    let head = c.in_ok-head.head in
    rw (p.1, p.2) (told-since head.header head.top (g.S.Store.served c.args.store.now) (g.S.Store.served c.begin.new.store) (g.S.Store.served c.read_stream.new.store)
    (FileEnds (Err c.in_err-stream.field-0.0) c.args.root c.args.key) c.in_ok-head.ensures.told c.in_err-stream.ensures.grown
    (stream_fault_told c.args.root c.args.key c.in_err-stream.field-0.0 head.header head.top head.key (g.S.Store.served c.read_stream.new.store) c.in_err-stream.ensures.ends c.in_err-stream.ensures.shown))

pub returns-in_err-decode_all-clause-told : goal.returns-in_err-decode_all-clause-told
returns-in_err-decode_all-clause-told g c =
    let p = err_from_is_err_and c.from_residual-in_err-decode_all.result c.from_residual-in_err-decode_all.ensures.1 in
    let head = c.in_ok-head.head in
    rw (p.1, p.2) (told-since head.header head.top (g.S.Store.served c.args.store.now) (g.S.Store.served c.begin.new.store) (g.S.Store.served c.read_stream.new.store)
    (FileEnds (Err (fault_of_index c.in_err-decode_all.field-0.0)) c.args.root c.args.key) c.in_ok-head.ensures.told c.in_ok-stream.ensures.grown
    (index_told c.args.root c.args.key head.header head.top head.key c.in_ok-head.ensures.right c.in_ok-stream.stream.items c.as_slice.result.now c.header.result.now c.as_slice.ensures.value c.header.ensures
    (g.S.Store.served c.read_stream.new.store) c.in_ok-stream.ensures.ends c.in_ok-stream.ensures.shown c.in_err-decode_all.field-0.0 (λ same. c.in_err-decode_all.ensures.bad (ap Err same))))

pub returns-clause-told : goal.returns-clause-told
returns-clause-told g c =
    let head = c.in_ok-head.head in
    told-since head.header head.top (g.S.Store.served c.args.store.now) (g.S.Store.served c.begin.new.store) (g.S.Store.served c.read_stream.new.store)
    (FileEnds (Ok c.in_ok-decode_all.field-0) c.args.root c.args.key) c.in_ok-head.ensures.told c.in_ok-stream.ensures.grown
    (document_told c.args.root c.args.key head.header head.top head.key c.in_ok-head.ensures.right c.in_ok-stream.stream.items c.as_slice.result.now c.header.result.now c.as_slice.ensures.value c.header.ensures
    (g.S.Store.served c.read_stream.new.store) c.in_ok-stream.ensures.ends c.in_ok-stream.ensures.shown c.in_ok-decode_all.field-0 c.in_ok-decode_all.ensures.document)

pub returns-clause-held : goal.returns-clause-held
returns-clause-held g c = λ d is root.
    let head = c.in_ok-head.head in
    let a = g.S.Store.holds c.args.store.now in
    let b = g.S.Store.holds c.begin.new.store in
    let under = c.in_ok-head.ensures.right in
    document_held c.args.root c.args.key head.header head.top head.key under a b c.in_ok-head.ensures.constant d is root
    c.in_ok-stream.stream.items c.as_slice.result.now c.header.result.now c.in_ok-decode_all.field-0 c.as_slice.ensures.value c.header.ensures
    ((c.in_ok-head.ensures.held d is root).header_is)
    (c.in_ok-stream.ensures.held d (holds_so c.args.root c.args.key head.header head.top head.key under a b c.in_ok-head.ensures.constant d is root)
    (root_so c.args.root c.args.key head.header head.top head.key under a b c.in_ok-head.ensures.constant d is root))
    c.in_ok-decode_all.ensures.document

-- ---- the answer is the refusal that the reads show

pub returns-in_err-head-clause-exact : goal.returns-in_err-head-clause-exact
returns-in_err-head-clause-exact g c =
    let p = err_from_is_err_and c.from_residual.result c.from_residual.ensures.1 in
    rw (p.1, p.2) (not_started_exact Doc c.args.root c.args.key c.in_err-head.field-0.0 (g.S.Store.served c.args.store.now) (g.S.Store.served c.begin.new.store) c.in_err-head.ensures.told)

pub returns-in_err-stream-clause-exact : goal.returns-in_err-stream-clause-exact
returns-in_err-stream-clause-exact g c =
    let p = err_from_is_err_and c.from_residual-in_err-stream.result c.from_residual-in_err-stream.ensures.1 in
    let head = c.in_ok-head.head in
    rw (p.1, p.2) (told-since head.header head.top (g.S.Store.served c.args.store.now) (g.S.Store.served c.begin.new.store) (g.S.Store.served c.read_stream.new.store)
    (λ reads. IsRefusedWhereShown (Err c.in_err-stream.field-0.0) c.args.root c.args.key reads) c.in_ok-head.ensures.told c.in_err-stream.ensures.grown
    (err_exact c.args.root c.args.key head.header head.top head.key c.in_ok-head.ensures.right (g.S.Store.served c.read_stream.new.store) (Vec ℕ Global) Doc c.in_err-stream.field-0.0 c.in_err-stream.ensures.exact))

pub returns-in_err-decode_all-clause-exact : goal.returns-in_err-decode_all-clause-exact
returns-in_err-decode_all-clause-exact g c =
    let head = c.in_ok-head.head in
    told-since head.header head.top (g.S.Store.served c.args.store.now) (g.S.Store.served c.begin.new.store) (g.S.Store.served c.read_stream.new.store)
    (λ reads. IsRefusedWhereShown c.from_residual-in_err-decode_all.result c.args.root c.args.key reads) c.in_ok-head.ensures.told c.in_ok-stream.ensures.grown
    (ok_exact c.args.root c.args.key head.header head.top head.key c.in_ok-head.ensures.right (g.S.Store.served c.read_stream.new.store) c.in_ok-stream.stream c.from_residual-in_err-decode_all.result c.in_ok-stream.ensures.exact)

pub returns-clause-exact : goal.returns-clause-exact
returns-clause-exact g c =
    let head = c.in_ok-head.head in
    told-since head.header head.top (g.S.Store.served c.args.store.now) (g.S.Store.served c.begin.new.store) (g.S.Store.served c.read_stream.new.store)
    (λ reads. IsRefusedWhereShown (Ok c.in_ok-decode_all.field-0) c.args.root c.args.key reads) c.in_ok-head.ensures.told c.in_ok-stream.ensures.grown
    (ok_exact c.args.root c.args.key head.header head.top head.key c.in_ok-head.ensures.right (g.S.Store.served c.read_stream.new.store) c.in_ok-stream.stream (Ok c.in_ok-decode_all.field-0) c.in_ok-stream.ensures.exact)

-- ---- the fragments are opened in order

pub returns-in_err-head-clause-in_order : goal.returns-in_err-head-clause-in_order
returns-in_err-head-clause-in_order g c =
    let p = err_from_is_err_and c.from_residual.result c.from_residual.ensures.1 in
    rw (p.1, p.2) (not_started_order Doc c.args.root c.args.key c.in_err-head.field-0.0 (g.S.Store.served c.args.store.now) (g.S.Store.served c.begin.new.store) c.in_err-head.ensures.told)

pub returns-in_err-stream-clause-in_order : goal.returns-in_err-stream-clause-in_order
returns-in_err-stream-clause-in_order g c =
    let p = err_from_is_err_and c.from_residual-in_err-stream.result c.from_residual-in_err-stream.ensures.1 in
    let head = c.in_ok-head.head in
    rw (p.1, p.2) (told-since head.header head.top (g.S.Store.served c.args.store.now) (g.S.Store.served c.begin.new.store) (g.S.Store.served c.read_stream.new.store)
    (OpensInOrder {T = Doc} (Err c.in_err-stream.field-0.0)) c.in_ok-head.ensures.told c.in_err-stream.ensures.grown
    (err_order (Vec ℕ Global) Doc c.in_err-stream.field-0.0 c.in_err-stream.field-0.0 (g.S.Store.served c.read_stream.new.store) c.in_err-stream.ensures.in_order))

pub returns-in_err-decode_all-clause-in_order : goal.returns-in_err-decode_all-clause-in_order
returns-in_err-decode_all-clause-in_order g c =
    let head = c.in_ok-head.head in
    told-since head.header head.top (g.S.Store.served c.args.store.now) (g.S.Store.served c.begin.new.store) (g.S.Store.served c.read_stream.new.store)
    (OpensInOrder c.from_residual-in_err-decode_all.result) c.in_ok-head.ensures.told c.in_ok-stream.ensures.grown
    (ok_order (Vec ℕ Global) c.in_ok-stream.stream Doc c.from_residual-in_err-decode_all.result (g.S.Store.served c.read_stream.new.store) c.in_ok-stream.ensures.in_order)

pub returns-clause-in_order : goal.returns-clause-in_order
returns-clause-in_order g c =
    let head = c.in_ok-head.head in
    told-since head.header head.top (g.S.Store.served c.args.store.now) (g.S.Store.served c.begin.new.store) (g.S.Store.served c.read_stream.new.store)
    (OpensInOrder (Ok c.in_ok-decode_all.field-0)) c.in_ok-head.ensures.told c.in_ok-stream.ensures.grown
    (ok_order (Vec ℕ Global) c.in_ok-stream.stream Doc (Ok c.in_ok-decode_all.field-0) (g.S.Store.served c.read_stream.new.store) c.in_ok-stream.ensures.in_order)

-- ---- the answer is what the reads show of the document

pub returns-in_err-head-clause-shown_index : goal.returns-in_err-head-clause-shown_index
returns-in_err-head-clause-shown_index g c =
    let p = err_from_is_err_and c.from_residual.result c.from_residual.ensures.1 in
    rw (p.1, p.2) (no_document_told c.args.root c.args.key (Err (Refused c.in_err-head.field-0.0)) (g.S.Store.served c.args.store.now) (g.S.Store.served c.begin.new.store)
    (not_started-ends c.args.root c.args.key c.in_err-head.field-0.0 (g.S.Store.served c.args.store.now) (g.S.Store.served c.begin.new.store) c.in_err-head.ensures.told))

pub returns-in_err-stream-clause-shown_index : goal.returns-in_err-stream-clause-shown_index
returns-in_err-stream-clause-shown_index g c =
    no_document_told c.args.root c.args.key c.from_residual-in_err-stream.result (g.S.Store.served c.args.store.now) (g.S.Store.served c.read_stream.new.store) (returns-in_err-stream-clause-told g c)

pub returns-in_err-decode_all-clause-shown_index : goal.returns-in_err-decode_all-clause-shown_index
returns-in_err-decode_all-clause-shown_index g c =
    no_document_told c.args.root c.args.key c.from_residual-in_err-decode_all.result (g.S.Store.served c.args.store.now) (g.S.Store.served c.read_stream.new.store) (returns-in_err-decode_all-clause-told g c)

pub returns-clause-shown_index : goal.returns-clause-shown_index
returns-clause-shown_index g c =
    no_document_told c.args.root c.args.key (Ok c.in_ok-decode_all.field-0) (g.S.Store.served c.args.store.now) (g.S.Store.served c.read_stream.new.store) (returns-clause-told g c)

pub returns-in_err-head-clause-decoded : goal.returns-in_err-head-clause-decoded
returns-in_err-head-clause-decoded g c =
    let p = err_from_is_err_and c.from_residual.result c.from_residual.ensures.1 in
    rw (p.1, p.2) (given_told c.args.root c.args.key (Err (Refused c.in_err-head.field-0.0)) (g.S.Store.served c.args.store.now) (g.S.Store.served c.begin.new.store)
    (not_started-ends c.args.root c.args.key c.in_err-head.field-0.0 (g.S.Store.served c.args.store.now) (g.S.Store.served c.begin.new.store) c.in_err-head.ensures.told))

pub returns-in_err-stream-clause-decoded : goal.returns-in_err-stream-clause-decoded
returns-in_err-stream-clause-decoded g c =
    given_told c.args.root c.args.key c.from_residual-in_err-stream.result (g.S.Store.served c.args.store.now) (g.S.Store.served c.read_stream.new.store) (returns-in_err-stream-clause-told g c)

pub returns-in_err-decode_all-clause-decoded : goal.returns-in_err-decode_all-clause-decoded
returns-in_err-decode_all-clause-decoded g c =
    given_told c.args.root c.args.key c.from_residual-in_err-decode_all.result (g.S.Store.served c.args.store.now) (g.S.Store.served c.read_stream.new.store) (returns-in_err-decode_all-clause-told g c)

pub returns-clause-decoded : goal.returns-clause-decoded
returns-clause-decoded g c =
    given_told c.args.root c.args.key (Ok c.in_ok-decode_all.field-0) (g.S.Store.served c.args.store.now) (g.S.Store.served c.read_stream.new.store) (returns-clause-told g c)

-- ---- each opening was checked

pub returns-in_err-head-clause-checked : goal.returns-in_err-head-clause-checked
returns-in_err-head-clause-checked g c =
    not_started_checked c.args.root c.args.key c.in_err-head.field-0.0 (g.S.Store.served c.args.store.now) (g.S.Store.served c.begin.new.store) c.in_err-head.ensures.told c.from_residual.result

pub returns-in_err-stream-clause-checked : goal.returns-in_err-stream-clause-checked
returns-in_err-stream-clause-checked g c =
    let p = err_from_is_err_and c.from_residual-in_err-stream.result c.from_residual-in_err-stream.ensures.1 in
    let head = c.in_ok-head.head in
    rw (p.1, p.2) (told-since head.header head.top (g.S.Store.served c.args.store.now) (g.S.Store.served c.begin.new.store) (g.S.Store.served c.read_stream.new.store)
    (λ reads. AllFoldUnlessRefused (is_bad_fragment {T = Doc} (Err c.in_err-stream.field-0.0)) reads) c.in_ok-head.ensures.told c.in_err-stream.ensures.grown c.in_err-stream.ensures.checked)

pub returns-in_err-decode_all-clause-checked : goal.returns-in_err-decode_all-clause-checked
returns-in_err-decode_all-clause-checked g c =
    let head = c.in_ok-head.head in
    told-since head.header head.top (g.S.Store.served c.args.store.now) (g.S.Store.served c.begin.new.store) (g.S.Store.served c.read_stream.new.store)
    (λ reads. AllFoldUnlessRefused (is_bad_fragment c.from_residual-in_err-decode_all.result) reads) c.in_ok-head.ensures.told c.in_ok-stream.ensures.grown
    (decoded_checked (g.S.Store.served c.read_stream.new.store) (is_bad_fragment c.from_residual-in_err-decode_all.result) c.in_ok-stream.ensures.checked)

pub returns-clause-checked : goal.returns-clause-checked
returns-clause-checked g c =
    let head = c.in_ok-head.head in
    told-since head.header head.top (g.S.Store.served c.args.store.now) (g.S.Store.served c.begin.new.store) (g.S.Store.served c.read_stream.new.store)
    (λ reads. AllFoldUnlessRefused (is_bad_fragment (Ok c.in_ok-decode_all.field-0)) reads) c.in_ok-head.ensures.told c.in_ok-stream.ensures.grown
    (decoded_checked (g.S.Store.served c.read_stream.new.store) (is_bad_fragment (Ok c.in_ok-decode_all.field-0)) c.in_ok-stream.ensures.checked)
