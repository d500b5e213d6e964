use Rattle.std.proofs.Common.{◌≡◌, ◌∙◌, ℕ, List, ap, sym, subst, refl, false}
use Rattle.std.specs.Prelude.{Option, None, IfSome, Ok, if◌then◌else◌}
use Rattle.std.specs.List.{list_any}
use Rattle.acl_model.specs.declared.document.Doc.{Doc}
use Rattle.acl_outside.specs.Outside.{StoreRead}
use Rattle.acl_outside.specs.declared.read_fault.ReadFault.{ReadFault}
use Rattle.acl_outside.specs.declared.read_fault.ReadFault.TheVariants.{BadFragment}
use Rattle.merkle_chunks.specs.HeaderBytes.{fragment_count}
use Rattle.merkle_chunks.specs.File.{document_header}
use Rattle.merkle_chunks.specs.Table.{top_level}
use Rattle.position_cipher.specs.Fragments.{unlocked_fragment}
use Rattle.fragment_open.specs.declared.head.Head.{Head}
use Rattle.fragment_open.specs.declared.kept.Kept.{Kept}
use Rattle.fragment_open.specs.CallReads.{Told}
use Rattle.fragment_open.specs.inside.Climbing.{IsNotOpened, IsOpened}
use Rattle.fragment_open.specs.Held.{HoldsFile}
use Rattle.fragment_open.specs.Starting.{HoldsDocument}
use Rattle.fragment_open.specs.Settled.{AddsPlain, FetchEnds, Opens, Settled, goes_to_chunk, is_start, since, want_by}
use Rattle.fragment_open.specs.Checked.{AllFoldUnlessRefused}
use Rattle.fragment_open.proofs.ClashLemmas.{bytes_differ, bytes_same}
use Rattle.fragment_open.proofs.HeldLemmas.{still_holds}
use Rattle.fragment_open.proofs.StartLemmas.{holds_file}
use Rattle.fragment_open.proofs.FetchLemmas.{bytes_held, kept_held, want_held}
use Rattle.fragment_open.proofs.TellLemmas.{grown-ended, grown-opened, opens-bad, opens-ended, opens-fetched, settled-fetched, told-bad, told-ended, told-fetched}
use Rattle.fragment_open.proofs.CheckedLemmas.{checked-bad, checked-ended, checked-fetched, none-ended, plain-fetched}
use Rattle.fragment_open.proofs.opener.Opener.open_next.Goals as goal

level_is : (head : Head) → head.top_level ≡ top_level (fragment_count head.header)
level_is head = head.levels ∙ ap top_level head.count

aim_is : (head : Head) (i goal : ℕ) (kept : Option Kept) → goal ≡ (if goes_to_chunk head.top_level i kept then 4 else head.top_level)
    → goal ≡ (if goes_to_chunk (top_level (fragment_count head.header)) i kept then 4 else top_level (fragment_count head.header))
aim_is head i goal kept by = by ∙ ap (λ (t : ℕ). if goes_to_chunk t i kept then 4 else t) (level_is head)

want_is : (head : Head) (i : ℕ) (kept : Option Kept) (want : List ℕ) → want ≡ want_by head.top_level i kept head.top → want ≡ want_by (top_level (fragment_count head.header)) i kept head.top
want_is head i kept want by = by ∙ ap (λ (t : ℕ). want_by t i kept head.top) (level_is head)

told_ended : (head : Head) (i goal : ℕ) (fault : ReadFault) (a b : Option (List StoreRead)) → Told a b (IsNotOpened head.fragments i goal fault) → Told a b (IsNotOpened (fragment_count head.header) i goal fault)
told_ended head i goal fault a b t = let P : ℕ → Type 0 = λ n. Told a b (IsNotOpened n i goal fault) in subst P head.count t

told_opened : (head : Head) (i goal : ℕ) (cipher chunk digest : List ℕ) (a b : Option (List StoreRead)) → Told a b (IsOpened head.fragments i goal cipher chunk digest) → Told a b (IsOpened (fragment_count head.header) i goal cipher chunk digest)
told_opened head i goal cipher chunk digest a b t = let P : ℕ → Type 0 = λ n. Told a b (IsOpened n i goal cipher chunk digest) in subst P head.count t

quiet_is : (served : Option (List StoreRead)) (head : Head) (kept : Option Kept) (fault : Option ReadFault) → fault ≡ None → Settled served head.header head.top kept fault → Settled served head.header head.top kept None
quiet_is served head kept fault quiet is = subst (Settled served head.header head.top kept) quiet is

file_is : (d : Doc) (head : Head) (held : Option (List ℕ)) (is : HoldsDocument held d head.key) → head.header ≡ document_header d head.key → HoldsFile held head.fragments d head.key
file_is d head held is same = still_holds held held (fragment_count head.header) head.fragments d head.key refl head.count (holds_file d head.key held is head.header same)

pub returns-in-Err-clause-ends : goal.returns-in-Err-clause-ends
returns-in-Err-clause-ends g c =
    let self = c.args.self.now in
    let head = self.head in
    let i : ℕ = c.args.index in
    let aim = c.aim_of-aim.result in
    told-ended head.header head.top self.kept (g.S.Store.served c.args.self.now.store.now) (g.S.Store.served c.open_to.new.store) (quiet_is (g.S.Store.served c.args.self.now.store.now) head self.kept self.fault c.requires.quiet self.settled) i c.requires.within aim.goal (aim_is head i aim.goal self.kept c.aim_of-aim.ensures.goal) c.in-Err.fault (told_ended head i aim.goal c.in-Err.fault (g.S.Store.served c.args.self.now.store.now) (g.S.Store.served c.open_to.new.store) c.in-Err.ensures.told) head.key c.args.into.now

pub returns-in-Err-clause-grown : goal.returns-in-Err-clause-grown
returns-in-Err-clause-grown g c =
    let self = c.args.self.now in
    let head = self.head in
    let i : ℕ = c.args.index in
    let aim = c.aim_of-aim.result in
    grown-ended head.header head.top self.kept (g.S.Store.served c.args.self.now.store.now) (g.S.Store.served c.open_to.new.store) (quiet_is (g.S.Store.served c.args.self.now.store.now) head self.kept self.fault c.requires.quiet self.settled) i c.requires.within aim.goal (aim_is head i aim.goal self.kept c.aim_of-aim.ensures.goal) c.in-Err.fault (told_ended head i aim.goal c.in-Err.fault (g.S.Store.served c.args.self.now.store.now) (g.S.Store.served c.open_to.new.store) c.in-Err.ensures.told)

pub returns-in-Err-clause-opens : goal.returns-in-Err-clause-opens
returns-in-Err-clause-opens g c =
    let self = c.args.self.now in
    let head = self.head in
    let i : ℕ = c.args.index in
    let aim = c.aim_of-aim.result in
    opens-ended head.header head.top self.kept (g.S.Store.served c.args.self.now.store.now) (g.S.Store.served c.open_to.new.store) (quiet_is (g.S.Store.served c.args.self.now.store.now) head self.kept self.fault c.requires.quiet self.settled) i c.requires.within aim.goal (aim_is head i aim.goal self.kept c.aim_of-aim.ensures.goal) c.in-Err.fault (told_ended head i aim.goal c.in-Err.fault (g.S.Store.served c.args.self.now.store.now) (g.S.Store.served c.open_to.new.store) c.in-Err.ensures.told)

pub returns-in-Err-clause-checked : goal.returns-in-Err-clause-checked
returns-in-Err-clause-checked g c =
    let self = c.args.self.now in
    let head = self.head in
    let i : ℕ = c.args.index in
    let aim = c.aim_of-aim.result in
    checked-ended head.header head.top self.kept (g.S.Store.served c.args.self.now.store.now) (g.S.Store.served c.open_to.new.store) (quiet_is (g.S.Store.served c.args.self.now.store.now) head self.kept self.fault c.requires.quiet self.settled) i c.requires.within aim.goal (aim_is head i aim.goal self.kept c.aim_of-aim.ensures.goal) c.in-Err.fault (told_ended head i aim.goal c.in-Err.fault (g.S.Store.served c.args.self.now.store.now) (g.S.Store.served c.open_to.new.store) c.in-Err.ensures.told)

pub returns-in-Err-clause-unopened : goal.returns-in-Err-clause-unopened
returns-in-Err-clause-unopened g c = λ failed.
    let self = c.args.self.now in
    let head = self.head in
    let i : ℕ = c.args.index in
    let aim = c.aim_of-aim.result in
    none-ended head.header head.top self.kept (g.S.Store.served c.args.self.now.store.now) (g.S.Store.served c.open_to.new.store) (quiet_is (g.S.Store.served c.args.self.now.store.now) head self.kept self.fault c.requires.quiet self.settled) i c.requires.within aim.goal (aim_is head i aim.goal self.kept c.aim_of-aim.ensures.goal) c.in-Err.fault (told_ended head i aim.goal c.in-Err.fault (g.S.Store.served c.args.self.now.store.now) (g.S.Store.served c.open_to.new.store) c.in-Err.ensures.told) failed

pub returns-in-Err-clause-held : goal.returns-in-Err-clause-held
returns-in-Err-clause-held g c = λ d is has.
    let self = c.args.self.now in
    let head = self.head in
    let theirs = self.held d is has in
    c.in-Err.ensures.held d head.key (file_is d head (g.S.Store.holds c.args.self.now.store.now) is theirs.0.header_is)

pub returns-then-ne-clause-ends : goal.returns-then-ne-clause-ends
returns-then-ne-clause-ends g c =
    let self = c.args.self.now in
    let head = self.head in
    let i : ℕ = c.args.index in
    let aim = c.aim_of-aim.result in
    let o = c.in-Ok.opened in
    told-bad head.header head.top self.kept (g.S.Store.served c.args.self.now.store.now) (g.S.Store.served c.open_to.new.store) (quiet_is (g.S.Store.served c.args.self.now.store.now) head self.kept self.fault c.requires.quiet self.settled) i c.requires.within aim.goal (aim_is head i aim.goal self.kept c.aim_of-aim.ensures.goal) o.cipher o.chunk o.digest aim.want (told_opened head i aim.goal o.cipher o.chunk o.digest (g.S.Store.served c.args.self.now.store.now) (g.S.Store.served c.open_to.new.store) c.in-Ok.ensures.told) (want_is head i self.kept aim.want c.aim_of-aim.ensures.want) head.key c.args.into.now (λ same. bytes_differ o.digest aim.want c.if-ne.ensures (sym same))

pub returns-then-ne-clause-grown : goal.returns-then-ne-clause-grown
returns-then-ne-clause-grown g c =
    let self = c.args.self.now in
    let head = self.head in
    let i : ℕ = c.args.index in
    let aim = c.aim_of-aim.result in
    let o = c.in-Ok.opened in
    grown-opened head.header head.top self.kept (g.S.Store.served c.args.self.now.store.now) (g.S.Store.served c.open_to.new.store) (quiet_is (g.S.Store.served c.args.self.now.store.now) head self.kept self.fault c.requires.quiet self.settled) i c.requires.within aim.goal (aim_is head i aim.goal self.kept c.aim_of-aim.ensures.goal) o.cipher o.chunk o.digest aim.want (told_opened head i aim.goal o.cipher o.chunk o.digest (g.S.Store.served c.args.self.now.store.now) (g.S.Store.served c.open_to.new.store) c.in-Ok.ensures.told) (want_is head i self.kept aim.want c.aim_of-aim.ensures.want)

pub returns-then-ne-clause-opens : goal.returns-then-ne-clause-opens
returns-then-ne-clause-opens g c =
    let self = c.args.self.now in
    let head = self.head in
    let i : ℕ = c.args.index in
    let aim = c.aim_of-aim.result in
    let o = c.in-Ok.opened in
    opens-bad head.header head.top self.kept (g.S.Store.served c.args.self.now.store.now) (g.S.Store.served c.open_to.new.store) (quiet_is (g.S.Store.served c.args.self.now.store.now) head self.kept self.fault c.requires.quiet self.settled) i c.requires.within aim.goal (aim_is head i aim.goal self.kept c.aim_of-aim.ensures.goal) o.cipher o.chunk o.digest aim.want (told_opened head i aim.goal o.cipher o.chunk o.digest (g.S.Store.served c.args.self.now.store.now) (g.S.Store.served c.open_to.new.store) c.in-Ok.ensures.told) (want_is head i self.kept aim.want c.aim_of-aim.ensures.want) (BadFragment i aim.want o.digest)

pub returns-then-ne-clause-checked : goal.returns-then-ne-clause-checked
returns-then-ne-clause-checked g c =
    let self = c.args.self.now in
    let head = self.head in
    let i : ℕ = c.args.index in
    let aim = c.aim_of-aim.result in
    let o = c.in-Ok.opened in
    checked-bad head.header head.top self.kept (g.S.Store.served c.args.self.now.store.now) (g.S.Store.served c.open_to.new.store) (quiet_is (g.S.Store.served c.args.self.now.store.now) head self.kept self.fault c.requires.quiet self.settled) i c.requires.within aim.goal (aim_is head i aim.goal self.kept c.aim_of-aim.ensures.goal) o.cipher o.chunk o.digest aim.want (told_opened head i aim.goal o.cipher o.chunk o.digest (g.S.Store.served c.args.self.now.store.now) (g.S.Store.served c.open_to.new.store) c.in-Ok.ensures.told) (want_is head i self.kept aim.want c.aim_of-aim.ensures.want)

pub returns-then-ne-clause-held : goal.returns-then-ne-clause-held
returns-then-ne-clause-held g c = λ d is has.
    let self = c.args.self.now in
    let head = self.head in
    let i : ℕ = c.args.index in
    let aim = c.aim_of-aim.result in
    let o = c.in-Ok.opened in
    let theirs = self.held d is has in
    let gives = c.in-Ok.ensures.held d head.key (file_is d head (g.S.Store.holds c.args.self.now.store.now) is theirs.0.header_is) in
    bytes_differ o.digest aim.want c.if-ne.ensures
    (gives.folds ∙ sym (want_is head i self.kept aim.want c.aim_of-aim.ensures.want
    ∙ want_held d head.key head.header head.top self.kept theirs.0 theirs.1 i c.requires.within aim.goal (aim_is head i aim.goal self.kept c.aim_of-aim.ensures.goal)))

pub keep-requires-clause-settled : goal.keep-requires-clause-settled
keep-requires-clause-settled g c =
    let self = c.args.self.now in
    let head = self.head in
    let i : ℕ = c.args.index in
    let aim = c.aim_of-aim.result in
    let o = c.in-Ok.opened in
    settled-fetched head.header head.top self.kept (g.S.Store.served c.args.self.now.store.now) (g.S.Store.served c.open_to.new.store) (quiet_is (g.S.Store.served c.args.self.now.store.now) head self.kept self.fault c.requires.quiet self.settled) i c.requires.within aim.goal (aim_is head i aim.goal self.kept c.aim_of-aim.ensures.goal) o.cipher o.chunk o.digest aim.want (told_opened head i aim.goal o.cipher o.chunk o.digest (g.S.Store.served c.args.self.now.store.now) (g.S.Store.served c.open_to.new.store) c.in-Ok.ensures.told) (want_is head i self.kept aim.want c.aim_of-aim.ensures.want) (bytes_same o.digest aim.want c.if-ne.ensures)

pub keep-requires-clause-held : goal.keep-requires-clause-held
keep-requires-clause-held g c = λ d is has.
    let self = c.args.self.now in
    let head = self.head in
    let i : ℕ = c.args.index in
    let aim = c.aim_of-aim.result in
    let o = c.in-Ok.opened in
    let before : HoldsDocument (g.S.Store.holds c.args.self.now.store.now) d head.key = record { holds = sym c.in-Ok.ensures.constant ∙ is.holds; document = is.document; stream = is.stream; key_bytes = is.key_bytes } in
    let theirs = self.held d before has in
    let gives = c.in-Ok.ensures.held d head.key (file_is d head (g.S.Store.holds c.args.self.now.store.now) before theirs.0.header_is) in
    (theirs.0, kept_held d head.key head.header head.top self.kept theirs.0 theirs.1 i c.requires.within aim.goal o.cipher o.chunk o.digest (aim_is head i aim.goal self.kept c.aim_of-aim.ensures.goal) gives)

pub returns-clause-ends : goal.returns-clause-ends
returns-clause-ends g c =
    let self = c.args.self.now in
    let head = self.head in
    let i : ℕ = c.args.index in
    let aim = c.aim_of-aim.result in
    let o = c.in-Ok.opened in
    subst (λ store. IfSome (g.S.Store.served store) (λ all. FetchEnds {T = Unit {0}} (Ok tt) i head.header head.top head.key c.unlock_fragment.new.bytes (since all))) (sym c.keep.ensures.same_now)
    (told-fetched head.header head.top self.kept (g.S.Store.served c.args.self.now.store.now) (g.S.Store.served c.open_to.new.store) (quiet_is (g.S.Store.served c.args.self.now.store.now) head self.kept self.fault c.requires.quiet self.settled) i c.requires.within aim.goal (aim_is head i aim.goal self.kept c.aim_of-aim.ensures.goal) o.cipher o.chunk o.digest aim.want (told_opened head i aim.goal o.cipher o.chunk o.digest (g.S.Store.served c.args.self.now.store.now) (g.S.Store.served c.open_to.new.store) c.in-Ok.ensures.told) (want_is head i self.kept aim.want c.aim_of-aim.ensures.want) head.key c.unlock_fragment.new.bytes tt (bytes_same o.digest aim.want c.if-ne.ensures) head.key_bytes head.range
    (c.unlock_fragment.ensures.unlocked
    ∙ (λ j. unlocked_fragment (c.keep.ensures.same_head j).key i (c.copy_from_slice.ensures.after j))))

pub returns-clause-grown : goal.returns-clause-grown
returns-clause-grown g c =
    let self = c.args.self.now in
    let head = self.head in
    let i : ℕ = c.args.index in
    let aim = c.aim_of-aim.result in
    let o = c.in-Ok.opened in
    subst (λ store. Told (g.S.Store.served c.args.self.now.store.now) (g.S.Store.served store) (λ more. list_any is_start more ≡ false)) (sym c.keep.ensures.same_now)
    (grown-opened head.header head.top self.kept (g.S.Store.served c.args.self.now.store.now) (g.S.Store.served c.open_to.new.store) (quiet_is (g.S.Store.served c.args.self.now.store.now) head self.kept self.fault c.requires.quiet self.settled) i c.requires.within aim.goal (aim_is head i aim.goal self.kept c.aim_of-aim.ensures.goal) o.cipher o.chunk o.digest aim.want (told_opened head i aim.goal o.cipher o.chunk o.digest (g.S.Store.served c.args.self.now.store.now) (g.S.Store.served c.open_to.new.store) c.in-Ok.ensures.told) (want_is head i self.kept aim.want c.aim_of-aim.ensures.want))

pub returns-clause-opens : goal.returns-clause-opens
returns-clause-opens g c =
    let self = c.args.self.now in
    let head = self.head in
    let i : ℕ = c.args.index in
    let aim = c.aim_of-aim.result in
    let o = c.in-Ok.opened in
    subst (λ store. Opens {T = Unit {0}} (Ok tt) i (g.S.Store.served c.args.self.now.store.now) (g.S.Store.served store)) (sym c.keep.ensures.same_now)
    (opens-fetched head.header head.top self.kept (g.S.Store.served c.args.self.now.store.now) (g.S.Store.served c.open_to.new.store) (quiet_is (g.S.Store.served c.args.self.now.store.now) head self.kept self.fault c.requires.quiet self.settled) i c.requires.within aim.goal (aim_is head i aim.goal self.kept c.aim_of-aim.ensures.goal) o.cipher o.chunk o.digest aim.want (told_opened head i aim.goal o.cipher o.chunk o.digest (g.S.Store.served c.args.self.now.store.now) (g.S.Store.served c.open_to.new.store) c.in-Ok.ensures.told) (want_is head i self.kept aim.want c.aim_of-aim.ensures.want) tt)

pub returns-clause-checked : goal.returns-clause-checked
returns-clause-checked g c =
    let self = c.args.self.now in
    let head = self.head in
    let i : ℕ = c.args.index in
    let aim = c.aim_of-aim.result in
    let o = c.in-Ok.opened in
    subst (λ store. IfSome (g.S.Store.served store) (λ all. AllFoldUnlessRefused false (since all))) (sym c.keep.ensures.same_now)
    (checked-fetched head.header head.top self.kept (g.S.Store.served c.args.self.now.store.now) (g.S.Store.served c.open_to.new.store) (quiet_is (g.S.Store.served c.args.self.now.store.now) head self.kept self.fault c.requires.quiet self.settled) i c.requires.within aim.goal (aim_is head i aim.goal self.kept c.aim_of-aim.ensures.goal) o.cipher o.chunk o.digest aim.want (told_opened head i aim.goal o.cipher o.chunk o.digest (g.S.Store.served c.args.self.now.store.now) (g.S.Store.served c.open_to.new.store) c.in-Ok.ensures.told) (want_is head i self.kept aim.want c.aim_of-aim.ensures.want) (bytes_same o.digest aim.want c.if-ne.ensures))

pub returns-clause-plain : goal.returns-clause-plain
returns-clause-plain g c =
    let self = c.args.self.now in
    let head = self.head in
    let i : ℕ = c.args.index in
    let aim = c.aim_of-aim.result in
    let o = c.in-Ok.opened in
    subst (λ store. AddsPlain {T = Unit {0}} (Ok tt) head.key c.unlock_fragment.new.bytes (g.S.Store.served c.args.self.now.store.now) (g.S.Store.served store)) (sym c.keep.ensures.same_now)
    (plain-fetched head.header head.top self.kept (g.S.Store.served c.args.self.now.store.now) (g.S.Store.served c.open_to.new.store) (quiet_is (g.S.Store.served c.args.self.now.store.now) head self.kept self.fault c.requires.quiet self.settled) i c.requires.within aim.goal (aim_is head i aim.goal self.kept c.aim_of-aim.ensures.goal) o.cipher o.chunk o.digest aim.want (told_opened head i aim.goal o.cipher o.chunk o.digest (g.S.Store.served c.args.self.now.store.now) (g.S.Store.served c.open_to.new.store) c.in-Ok.ensures.told) (want_is head i self.kept aim.want c.aim_of-aim.ensures.want) tt head.key c.unlock_fragment.new.bytes (bytes_same o.digest aim.want c.if-ne.ensures)
    (c.unlock_fragment.ensures.unlocked
    ∙ (λ j. unlocked_fragment (c.keep.ensures.same_head j).key i (c.copy_from_slice.ensures.after j))))

pub returns-clause-held : goal.returns-clause-held
returns-clause-held g c = λ d is has.
    let self = c.args.self.now in
    let head = self.head in
    let i : ℕ = c.args.index in
    let aim = c.aim_of-aim.result in
    let o = c.in-Ok.opened in
    let theirs = self.held d is has in
    let file = file_is d head (g.S.Store.holds c.args.self.now.store.now) is theirs.0.header_is in
    let gives = c.in-Ok.ensures.held d head.key file in
    bytes_held d head.key head.header head.top self.kept theirs.0 theirs.1 i c.requires.within aim.goal o.cipher o.chunk o.digest c.unlock_fragment.new.bytes is.document is.key_bytes (sym file.count ∙ head.count) gives
    (c.unlock_fragment.ensures.unlocked
    ∙ (λ j. unlocked_fragment (c.keep.ensures.same_head j).key i (c.copy_from_slice.ensures.after j)))

pub invariant_of-self-clause-quiet : goal.invariant_of-self-clause-quiet
invariant_of-self-clause-quiet g c = λ d is has.
    let self = c.args.self.now in
    let head = self.head in
    let before : HoldsDocument (g.S.Store.holds c.args.self.now.store.now) d head.key = record { holds = sym c.in-Err.ensures.constant ∙ is.holds; document = is.document; stream = is.stream; key_bytes = is.key_bytes } in
    let theirs = self.held d before has in
    c.in-Err.ensures.held d head.key (file_is d head (g.S.Store.holds c.args.self.now.store.now) before theirs.0.header_is)

pub invariant_of-self-then-ne-clause-quiet : goal.invariant_of-self-then-ne-clause-quiet
invariant_of-self-then-ne-clause-quiet g c = λ d is has.
    let self = c.args.self.now in
    let head = self.head in
    let i : ℕ = c.args.index in
    let aim = c.aim_of-aim.result in
    let o = c.in-Ok.opened in
    let before : HoldsDocument (g.S.Store.holds c.args.self.now.store.now) d head.key = record { holds = sym c.in-Ok.ensures.constant ∙ is.holds; document = is.document; stream = is.stream; key_bytes = is.key_bytes } in
    let theirs = self.held d before has in
    let gives = c.in-Ok.ensures.held d head.key (file_is d head (g.S.Store.holds c.args.self.now.store.now) before theirs.0.header_is) in
    absurd (bytes_differ o.digest aim.want c.if-ne.ensures
    (gives.folds ∙ sym (want_is head i self.kept aim.want c.aim_of-aim.ensures.want
    ∙ want_held d head.key head.header head.top self.kept theirs.0 theirs.1 i c.requires.within aim.goal (aim_is head i aim.goal self.kept c.aim_of-aim.ensures.goal))))

pub invariant_of-self-else-ne-clause-quiet : goal.invariant_of-self-else-ne-clause-quiet
invariant_of-self-else-ne-clause-quiet g c = λ d is has. tt
