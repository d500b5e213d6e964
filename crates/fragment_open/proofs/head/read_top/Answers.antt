use Rattle.std.proofs.Common.{◌∙◌, ap, sym, subst, ℕ}
use Rattle.std.proofs.lemmas.Result.{err_from_is_err_and}
use Rattle.merkle_chunks.specs.Table.{IsNode, node_place}
use Rattle.fragment_open.proofs.StartLemmas.{top_fault, top_fits, top_given, top_node}
use Rattle.fragment_open.proofs.head.read_top.Goals as goal

pub node_place-requires : goal.node_place-requires
node_place-requires g c = let P : ℕ → Type 0 = λ l. IsNode c.args.fragments l 0 in subst P (sym c.top_level.ensures) (top_node c.args.fragments c.requires.some)

pub read_whole-requires : goal.read_whole-requires
read_whole-requires g c = top_fits c.args.fragments c.node_place.result c.requires.few (c.node_place.ensures ∙ ap (λ (l : ℕ). node_place c.args.fragments l 0) c.top_level.ensures)

pub returns-in_err-read_whole-clause-held : goal.returns-in_err-read_whole-clause-held
returns-in_err-read_whole-clause-held g c = λ d key is.
    let p = err_from_is_err_and c.from_residual.result c.from_residual.ensures.1 in
    rw (p.1, p.2) (top_fault d key c.args.fragments (g.S.Store.holds c.args.store.now) is c.requires.some c.node_place.result c.read_whole.new.into _
    (c.node_place.ensures ∙ ap (λ (l : ℕ). node_place c.args.fragments l 0) c.top_level.ensures) c.read_whole.auto.into c.in_err-read_whole.ensures.given)

pub returns-clause-held : goal.returns-clause-held
returns-clause-held g c = λ d key is.
    top_given d key c.args.fragments (g.S.Store.holds c.args.store.now) is c.requires.some c.node_place.result c.read_whole.new.into
    (c.node_place.ensures ∙ ap (λ (l : ℕ). node_place c.args.fragments l 0) c.top_level.ensures) c.read_whole.auto.into c.in_ok-read_whole.ensures.given
