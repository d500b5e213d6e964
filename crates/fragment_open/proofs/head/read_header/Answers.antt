use Rattle.std.proofs.Common.{refl}
use Rattle.std.proofs.lemmas.Result.{err_from_is_err_and}
use Rattle.fragment_open.proofs.ClimbLemmas.{Told-weaker}
use Rattle.fragment_open.proofs.StartLemmas.{header_bad, header_fault, header_given, header_read, header_theirs, header_there}
use Rattle.fragment_open.proofs.head.read_header.Goals as goal

pub returns-in_err-read_whole-clause-held : goal.returns-in_err-read_whole-clause-held
returns-in_err-read_whole-clause-held g c = λ d key is.
    let p = err_from_is_err_and c.from_residual.result c.from_residual.ensures.1 in
    rw (p.1, p.2) (header_fault d key (g.S.Store.holds c.args.store.now) is c.read_whole.new.into _ c.read_whole.auto.into c.in_err-read_whole.ensures.given)

pub returns-in-Ok-clause-told : goal.returns-in-Ok-clause-told
returns-in-Ok-clause-told g c =
    Told-weaker _ _ _ _ c.in_ok-read_whole.ensures.told
    (λ t h. header_read c.read_whole.new.into c.in_ok-read_whole.field-0 t c.read_whole.auto.into h c.in-Ok.header c.in-Ok.ensures.range c.in-Ok.ensures.bytes)

pub returns-in-Ok-clause-held : goal.returns-in-Ok-clause-held
returns-in-Ok-clause-held g c = λ d key is.
    header_theirs d key (g.S.Store.holds c.args.store.now) is c.in-Ok.header c.read_whole.new.into c.in-Ok.ensures.range c.in-Ok.ensures.bytes
    (header_given d key (g.S.Store.holds c.args.store.now) is c.read_whole.new.into c.in_ok-read_whole.field-0 c.read_whole.auto.into c.in_ok-read_whole.ensures.given)

pub returns-in-Err-clause-told : goal.returns-in-Err-clause-told
returns-in-Err-clause-told g c =
    Told-weaker _ _ _ _ c.in_ok-read_whole.ensures.told
    (λ t h. header_bad c.read_whole.new.into c.in_ok-read_whole.field-0 t c.read_whole.auto.into h (c.in-Err.ensures.bad refl))

pub returns-in-Err-clause-held : goal.returns-in-Err-clause-held
returns-in-Err-clause-held g c = λ d key is.
    header_there d key (g.S.Store.holds c.args.store.now) is c.read_whole.new.into
    (header_given d key (g.S.Store.holds c.args.store.now) is c.read_whole.new.into c.in_ok-read_whole.field-0 c.read_whole.auto.into c.in_ok-read_whole.ensures.given)
    (c.in-Err.ensures.bad refl)
