use Rattle.std.proofs.Common.{◌≡◌, Err, true, false, List, ℕ, ◌<◌, length, ap, sym, subst, ◌∙◌, arith, rules}
use Rattle.std.proofs.lemmas.List.Elements.{All-from_get_or}
use Rattle.std.proofs.lemmas.Option.{none-some, same_Some}
use Rattle.acl_model.specs.declared.document.Doc.{Doc}
use Rattle.tag_dictionary.specs.declared.fault.DictFault.TheVariants.{BadIndex}
use Rattle.skip_decode.specs.inside.Reading.{IsOfDictionary}
use Rattle.skip_decode.proofs.ReadDocuments.{document-made, document-of, document-there, names-counted}
use Rattle.skip_decode.proofs.StreamForms.{form_is, section_there}
use Rattle.skip_decode.proofs.decode.decode_all.Goals as goal

pub returns-then-not-is_formed-clause-bad : goal.returns-then-not-is_formed-clause-bad
returns-then-not-is_formed-clause-bad c = λ e d of.
    let yes = c.is_formed.ensures.1 (form_is d c.args.plain.now c.args.header.now of) in
    let clash : true ≡ false = sym yes ∙ c.if-not-is_formed.true in cc

pub returns-in_err-names-clause-bad : goal.returns-in_err-names-clause-bad
returns-in_err-names-clause-bad c = λ e d of.
    let same : c.read.result ≡ Err BadIndex = search rules in
    let there = section_there d c.args.plain.now c.args.header.now of in
    c.read.ensures.bad same _ there.0 there.1

pub returns-then-names-from-clause-bad : goal.returns-then-names-from-clause-bad
returns-then-names-from-clause-bad c = λ e d of.
    let counted = names-counted d c.args.plain.now c.args.header.now of c.in_ok-names.names c.in_ok-names.ensures.names
    c.in_ok-names.ensures.bytes in
    c.if-names-from.true
    (ap (λ (l : List (List ℕ)). length l) c.names-2.ensures ∙ counted ∙ sym c.from.ensures)

pub returns-in_err-doc-clause-bad : goal.returns-in_err-doc-clause-bad
returns-in_err-doc-clause-bad c = λ e d of.
    let same : c.read_events.result ≡ Err BadIndex = search rules in
    none-some d (sym (c.read_events.ensures.bad same)
    ∙ document-there d c.args.plain.now c.args.header.now of c.in_ok-names.names c.in_ok-names.ensures.names
    c.in_ok-names.ensures.bytes)

pub returns-then-not-branch-clause-bad : goal.returns-then-not-branch-clause-bad
returns-then-not-branch-clause-bad c = λ e d of.
    let there = document-there d c.args.plain.now c.args.header.now of c.in_ok-names.names c.in_ok-names.ensures.names
    c.in_ok-names.ensures.bytes in
    let same = same_Some d c.in_ok-doc.doc (sym there ∙ c.in_ok-doc.ensures.document) in
    let passes = document-of d c.args.plain.now c.args.header.now of c.in_ok-names.names c.in_ok-names.ensures.names
    c.in_ok-names.ensures.bytes in
    let yes = c.in_ok-is_of_dictionary.ensures.1
    (subst (λ (x : Doc). IsOfDictionary x c.in_ok-names.names c.args.header.now.depth) same passes) in
    let clash : true ≡ false = sym yes ∙ c.if-not-branch.true in cc

pub returns-clause-document : goal.returns-clause-document
returns-clause-document c =
    document-made c.args.plain.now c.args.header.now c.in_ok-names.names c.in_ok-doc.doc
    (All-from_get_or (λ b. b < 256) c.args.plain.now 0
    (λ i within. let fits = c.type_inv.plain i in omega (arith, fits)))
    (c.is_formed.ensures.0 c.if-not-is_formed.false) c.in_ok-names.ensures.names
    (ap (λ (l : List (List ℕ)). length l) (sym c.names-2.ensures) ∙ c.if-names-from.false ∙ c.from.ensures)
    c.in_ok-names.ensures.bytes c.in_ok-doc.ensures.document
    (c.in_ok-is_of_dictionary.ensures.0 c.if-not-branch.false)
