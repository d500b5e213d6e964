use Rattle.std.proofs.Common.{◌≡◌, ◌+◌, ◌*◌, ℕ, ap, sym, ◌∙◌, arith}
use Rattle.std.proofs.lemmas.Result.{err_from_is_err_and}
use Rattle.sha2.specs.Sha256.{sha256}
use Rattle.merkle_chunks.specs.Strings.{leaf_string}
use Rattle.fragment_open.specs.Asks.{index_at}
use Rattle.fragment_open.specs.Held.{digest_held}
use Rattle.fragment_open.proofs.HeldLemmas.{leaf_fault, leaf_given, leaf_held, still_holds}
use Rattle.fragment_open.proofs.OpenedLemmas.{told_end_fails, told_leaf_fails, told_low, told_low_fails, told_opened}
use Rattle.fragment_open.proofs.opened.open_to.Goals as goal

pub returns-in_err-read_whole-clause-told : goal.returns-in_err-read_whole-clause-told
returns-in_err-read_whole-clause-told g c =
    let p = err_from_is_err_and c.from_residual.result c.from_residual.ensures.1 in
    rw (p.1, p.2) (told_leaf_fails c.args.fragments c.args.index (g.S.Store.served c.args.store.now) (g.S.Store.served c.read_whole.new.store) (g.S.Store.served c.args.store.now)
    (64 + 256 * c.from.result) c.read_whole.new.into tt (omega (arith, c.from.ensures)) c.read_whole.auto.into c.args.goal _ c.in_err-read_whole.ensures.told)

pub returns-in_err-read_whole-clause-held : goal.returns-in_err-read_whole-clause-held
returns-in_err-read_whole-clause-held g c = λ d key is.
    let p = err_from_is_err_and c.from_residual.result c.from_residual.ensures.1 in
    rw (p.1, p.2) (leaf_fault d key c.args.fragments (g.S.Store.holds c.args.store.now) is c.args.index (64 + 256 * c.from.result) c.read_whole.new.into _
    c.requires.within (omega (arith, c.from.ensures)) c.read_whole.auto.into c.in_err-read_whole.ensures.given)

pub returns-in_err-low-clause-told : goal.returns-in_err-low-clause-told
returns-in_err-low-clause-told g c =
    let p = err_from_is_err_and c.from_residual-in_err-low.result c.from_residual-in_err-low.ensures.1 in
    let leaf = c.at_leaf-from.result in
    rw (p.1, p.2) (told_low_fails c.args.fragments c.args.index (g.S.Store.served c.args.store.now) (g.S.Store.served c.read_whole.new.store) (g.S.Store.served c.climb_to.new.store)
    (64 + 256 * c.from.result) c.read_whole.new.into c.in_ok-read_whole.field-0 (omega (arith, c.from.ensures)) c.read_whole.auto.into
    leaf.fragments leaf.index leaf.level c.min.result c.args.goal leaf.digest _ c.at_leaf-from.ensures.fragments c.at_leaf-from.ensures.index c.at_leaf-from.ensures.level
    (c.at_leaf-from.ensures.digest ∙ c.leaf_digest-leaf.ensures ∙ ap (λ (k : ℕ). sha256 (leaf_string k c.read_whole.new.into)) c.from-2.ensures)
    (omega (arith, c.min.ensures)) c.in_ok-read_whole.ensures.told c.in_err-low.ensures.told)

pub returns-in_err-low-clause-held : goal.returns-in_err-low-clause-held
returns-in_err-low-clause-held g c = λ d key is.
    let p = err_from_is_err_and c.from_residual-in_err-low.result c.from_residual-in_err-low.ensures.1 in
    let leaf = c.at_leaf-from.result in
    rw (p.1, p.2) (c.in_err-low.ensures.held d key (still_holds (g.S.Store.holds c.args.store.now) (g.S.Store.holds c.read_whole.new.store) c.args.fragments leaf.fragments d key c.in_ok-read_whole.ensures.constant c.at_leaf-from.ensures.fragments is)
    (leaf_held d key c.args.fragments c.args.index leaf.index leaf.level (g.S.Store.holds c.args.store.now) c.read_whole.new.into leaf.digest is c.requires.within
    (leaf_given d key c.args.fragments (g.S.Store.holds c.args.store.now) is c.args.index (64 + 256 * c.from.result) c.read_whole.new.into c.requires.within (omega (arith, c.from.ensures)) c.read_whole.auto.into c.in_ok-read_whole.ensures.given)
    (c.at_leaf-from.ensures.digest ∙ c.leaf_digest-leaf.ensures ∙ ap (λ (k : ℕ). sha256 (leaf_string k c.read_whole.new.into)) c.from-2.ensures)
    c.at_leaf-from.ensures.index c.at_leaf-from.ensures.level))

pub returns-in_err-end-clause-told : goal.returns-in_err-end-clause-told
returns-in_err-end-clause-told g c =
    let p = err_from_is_err_and c.from_residual-in_err-end.result c.from_residual-in_err-end.ensures.1 in
    let leaf = c.at_leaf-from.result in
    let low = c.in_ok-low.low in
    let is = c.in_ok-low.ensures.end in
    rw (p.1, p.2) (told_end_fails c.args.fragments c.args.index (g.S.Store.served c.args.store.now) (g.S.Store.served c.climb_to.new.store) (g.S.Store.served c.climb_to-2.new.store) c.min.result low.digest c.read_whole.new.into
    (told_low c.args.fragments c.args.index (g.S.Store.served c.args.store.now) (g.S.Store.served c.read_whole.new.store) (g.S.Store.served c.climb_to.new.store)
    (64 + 256 * c.from.result) c.read_whole.new.into c.in_ok-read_whole.field-0 (omega (arith, c.from.ensures)) c.read_whole.auto.into
    leaf.fragments leaf.index leaf.level c.min.result leaf.digest low.digest c.at_leaf-from.ensures.fragments c.at_leaf-from.ensures.index c.at_leaf-from.ensures.level
    (c.at_leaf-from.ensures.digest ∙ c.leaf_digest-leaf.ensures ∙ ap (λ (k : ℕ). sha256 (leaf_string k c.read_whole.new.into)) c.from-2.ensures)
    c.in_ok-read_whole.ensures.told c.in_ok-low.ensures.told)
    low.fragments low.index low.level c.args.goal _ (is.0 ∙ c.at_leaf-from.ensures.fragments) (is.1 ∙ c.at_leaf-from.ensures.index) is.2 c.in_err-end.ensures.told)

pub returns-in_err-end-clause-held : goal.returns-in_err-end-clause-held
returns-in_err-end-clause-held g c = λ d key is.
    let p = err_from_is_err_and c.from_residual-in_err-end.result c.from_residual-in_err-end.ensures.1 in
    let leaf = c.at_leaf-from.result in
    let low = c.in_ok-low.low in
    let end = c.in_ok-low.ensures.end in
    rw (p.1, p.2) (c.in_err-end.ensures.held d key (still_holds (g.S.Store.holds c.args.store.now) (g.S.Store.holds c.climb_to.new.store) c.args.fragments low.fragments d key (c.in_ok-low.ensures.constant ∙ c.in_ok-read_whole.ensures.constant) (end.0 ∙ c.at_leaf-from.ensures.fragments) is)
    (c.in_ok-low.ensures.held d key (still_holds (g.S.Store.holds c.args.store.now) (g.S.Store.holds c.read_whole.new.store) c.args.fragments leaf.fragments d key c.in_ok-read_whole.ensures.constant c.at_leaf-from.ensures.fragments is)
    (leaf_held d key c.args.fragments c.args.index leaf.index leaf.level (g.S.Store.holds c.args.store.now) c.read_whole.new.into leaf.digest is c.requires.within
    (leaf_given d key c.args.fragments (g.S.Store.holds c.args.store.now) is c.args.index (64 + 256 * c.from.result) c.read_whole.new.into c.requires.within (omega (arith, c.from.ensures)) c.read_whole.auto.into c.in_ok-read_whole.ensures.given)
    (c.at_leaf-from.ensures.digest ∙ c.leaf_digest-leaf.ensures ∙ ap (λ (k : ℕ). sha256 (leaf_string k c.read_whole.new.into)) c.from-2.ensures)
    c.at_leaf-from.ensures.index c.at_leaf-from.ensures.level)
    ∙ (λ j. digest_held d key (sym end.2 j) (index_at (sym end.1 j) (sym end.2 j)))))

pub returns-clause-told : goal.returns-clause-told
returns-clause-told g c =
    let leaf = c.at_leaf-from.result in
    let low = c.in_ok-low.low in
    let is = c.in_ok-low.ensures.end in
    rw (c.digest.ensures, c.digest-2.ensures) (told_opened c.args.fragments c.args.index (g.S.Store.served c.args.store.now) (g.S.Store.served c.climb_to.new.store) (g.S.Store.served c.climb_to-2.new.store) c.min.result low.digest c.read_whole.new.into
    (told_low c.args.fragments c.args.index (g.S.Store.served c.args.store.now) (g.S.Store.served c.read_whole.new.store) (g.S.Store.served c.climb_to.new.store)
    (64 + 256 * c.from.result) c.read_whole.new.into c.in_ok-read_whole.field-0 (omega (arith, c.from.ensures)) c.read_whole.auto.into
    leaf.fragments leaf.index leaf.level c.min.result leaf.digest low.digest c.at_leaf-from.ensures.fragments c.at_leaf-from.ensures.index c.at_leaf-from.ensures.level
    (c.at_leaf-from.ensures.digest ∙ c.leaf_digest-leaf.ensures ∙ ap (λ (k : ℕ). sha256 (leaf_string k c.read_whole.new.into)) c.from-2.ensures)
    c.in_ok-read_whole.ensures.told c.in_ok-low.ensures.told)
    low.fragments low.index low.level c.args.goal c.in_ok-end.end.digest (is.0 ∙ c.at_leaf-from.ensures.fragments) (is.1 ∙ c.at_leaf-from.ensures.index) is.2 (λ high. omega (arith, high, c.min.ensures)) c.in_ok-end.ensures.told)

pub returns-clause-held : goal.returns-clause-held
returns-clause-held g c = λ d key is.
    let leaf = c.at_leaf-from.result in
    let low = c.in_ok-low.low in
    let end = c.in_ok-low.ensures.end in
    let lowest = c.in_ok-low.ensures.held d key (still_holds (g.S.Store.holds c.args.store.now) (g.S.Store.holds c.read_whole.new.store) c.args.fragments leaf.fragments d key c.in_ok-read_whole.ensures.constant c.at_leaf-from.ensures.fragments is)
    (leaf_held d key c.args.fragments c.args.index leaf.index leaf.level (g.S.Store.holds c.args.store.now) c.read_whole.new.into leaf.digest is c.requires.within
    (leaf_given d key c.args.fragments (g.S.Store.holds c.args.store.now) is c.args.index (64 + 256 * c.from.result) c.read_whole.new.into c.requires.within (omega (arith, c.from.ensures)) c.read_whole.auto.into c.in_ok-read_whole.ensures.given)
    (c.at_leaf-from.ensures.digest ∙ c.leaf_digest-leaf.ensures ∙ ap (λ (k : ℕ). sha256 (leaf_string k c.read_whole.new.into)) c.from-2.ensures)
    c.at_leaf-from.ensures.index c.at_leaf-from.ensures.level) in
    record {
      bytes = leaf_given d key c.args.fragments (g.S.Store.holds c.args.store.now) is c.args.index (64 + 256 * c.from.result) c.read_whole.new.into c.requires.within (omega (arith, c.from.ensures)) c.read_whole.auto.into c.in_ok-read_whole.ensures.given;
      folds = c.digest-2.ensures ∙ c.in_ok-end.ensures.held d key (still_holds (g.S.Store.holds c.args.store.now) (g.S.Store.holds c.climb_to.new.store) c.args.fragments low.fragments d key (c.in_ok-low.ensures.constant ∙ c.in_ok-read_whole.ensures.constant) (end.0 ∙ c.at_leaf-from.ensures.fragments) is)
          (c.in_ok-low.ensures.held d key (still_holds (g.S.Store.holds c.args.store.now) (g.S.Store.holds c.read_whole.new.store) c.args.fragments leaf.fragments d key c.in_ok-read_whole.ensures.constant c.at_leaf-from.ensures.fragments is)
          (leaf_held d key c.args.fragments c.args.index leaf.index leaf.level (g.S.Store.holds c.args.store.now) c.read_whole.new.into leaf.digest is c.requires.within
          (leaf_given d key c.args.fragments (g.S.Store.holds c.args.store.now) is c.args.index (64 + 256 * c.from.result) c.read_whole.new.into c.requires.within (omega (arith, c.from.ensures)) c.read_whole.auto.into c.in_ok-read_whole.ensures.given)
          (c.at_leaf-from.ensures.digest ∙ c.leaf_digest-leaf.ensures ∙ ap (λ (k : ℕ). sha256 (leaf_string k c.read_whole.new.into)) c.from-2.ensures)
          c.at_leaf-from.ensures.index c.at_leaf-from.ensures.level)
          ∙ (λ j. digest_held d key (sym end.2 j) (index_at (sym end.1 j) (sym end.2 j))))
          ∙ ap (λ (k : ℕ). digest_held d key c.args.goal (index_at k c.args.goal)) (end.1 ∙ c.at_leaf-from.ensures.index);
      folds_chunk = λ high.
          let four : c.min.result ≡ 4 = omega (arith, high, c.min.ensures) in
          c.digest.ensures ∙ lowest ∙ (λ j. digest_held d key (four j) (index_at (c.at_leaf-from.ensures.index j) (four j)));
    }
