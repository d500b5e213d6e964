-- The four lists have one length, so they have the same number of words, and the new words hold `risen`.
use Rattle.std.proofs.Common.{List, ℕ, ap, sym, ◌∙◌, subst}
use Rattle.acl_bits.specs.Flags.{flags_of, HoldFlags}
use Rattle.acl_bits.proofs.FlagLists.{same_len, same_words, words_left, HoldFlags-risen, flags_of-rise}
use Rattle.acl_bits.proofs.flags.Flags.rise.Goals as goal

pub rise_words-requires-clause-tests : goal.rise_words-requires-clause-tests
rise_words-requires-clause-tests c =
    same_words c.self.inside.words.items c.tests.inside.words.items c.deref_mut.result.now c.deref.result.now c.self.inside.len
    c.tests.inside.len c.self.invariant c.tests.invariant
    (same_len c.self.inside.words.items c.tests.inside.words.items c.self.inside.len c.tests.inside.len c.args.self.now c.args.tests.now
    c.self.view_is c.tests.view_is c.requires.tests)
    c.deref.ensures.value c.deref_mut.ensures.value

pub rise_words-requires-clause-deep : goal.rise_words-requires-clause-deep
rise_words-requires-clause-deep c =
    same_words c.self.inside.words.items c.deep.inside.words.items c.deref_mut.result.now c.deref-2.result.now c.self.inside.len
    c.deep.inside.len c.self.invariant c.deep.invariant
    (same_len c.self.inside.words.items c.deep.inside.words.items c.self.inside.len c.deep.inside.len c.args.self.now c.args.deep.now
    c.self.view_is c.deep.view_is c.requires.deep)
    c.deref-2.ensures.value c.deref_mut.ensures.value

pub rise_words-requires-clause-below : goal.rise_words-requires-clause-below
rise_words-requires-clause-below c =
    same_words c.self.inside.words.items c.below.inside.words.items c.deref_mut.result.now c.deref-3.result.now c.self.inside.len
    c.below.inside.len c.self.invariant c.below.invariant
    (same_len c.self.inside.words.items c.below.inside.words.items c.self.inside.len c.below.inside.len c.args.self.now c.args.below.now
    c.self.view_is c.below.view_is c.requires.below)
    c.deref-3.ensures.value c.deref_mut.ensures.value

pub invariant_of-self : goal.invariant_of-self
invariant_of-self c =
    let up = rw (c.deref_mut.ensures.value, c.deref.ensures.value, c.deref-2.ensures.value, c.deref-3.ensures.value) at c.rise_words.ensures in
    let tests = same_len c.self.inside.words.items c.tests.inside.words.items c.self.inside.len c.tests.inside.len c.args.self.now
    c.args.tests.now c.self.view_is c.tests.view_is c.requires.tests in
    let deep = same_len c.self.inside.words.items c.deep.inside.words.items c.self.inside.len c.deep.inside.len c.args.self.now
    c.args.deep.now c.self.view_is c.deep.view_is c.requires.deep in
    subst (λ (xs : List ℕ). HoldFlags xs c.self.inside.len)
    (sym (words_left c.self.inside.words.items c.rise_words.new.own c.deref_mut.result.now c.self.inside.words.len
    c.deref_mut.ensures.value up.long c.deref_mut.ensures.len))
    (HoldFlags-risen c.self.inside.words.items c.rise_words.new.own c.tests.inside.words.items c.deep.inside.words.items
    c.below.inside.words.items c.self.inside.len up c.self.invariant
    (subst (λ (k : ℕ). HoldFlags c.tests.inside.words.items k) tests c.tests.invariant)
    (subst (λ (k : ℕ). HoldFlags c.deep.inside.words.items k) deep c.deep.invariant))

pub returns : goal.returns
returns c =
    let up = rw (c.deref_mut.ensures.value, c.deref.ensures.value, c.deref-2.ensures.value, c.deref-3.ensures.value) at c.rise_words.ensures in
    ap (λ (xs : List ℕ). flags_of xs c.self.inside.len)
    (words_left c.self.inside.words.items c.rise_words.new.own c.deref_mut.result.now c.self.inside.words.len
    c.deref_mut.ensures.value up.long c.deref_mut.ensures.len)
    ∙ flags_of-rise c.self.inside.words.items c.rise_words.new.own c.tests.inside.words.items c.deep.inside.words.items
    c.below.inside.words.items c.self.inside.len c.tests.inside.len c.deep.inside.len c.below.inside.len c.args.self.now
    c.args.tests.now c.args.deep.now c.args.below.now up c.self.invariant c.self.view_is c.tests.view_is c.deep.view_is
    c.below.view_is
    (same_len c.self.inside.words.items c.tests.inside.words.items c.self.inside.len c.tests.inside.len c.args.self.now c.args.tests.now
    c.self.view_is c.tests.view_is c.requires.tests)
    (same_len c.self.inside.words.items c.deep.inside.words.items c.self.inside.len c.deep.inside.len c.args.self.now c.args.deep.now
    c.self.view_is c.deep.view_is c.requires.deep)
    (same_len c.self.inside.words.items c.below.inside.words.items c.self.inside.len c.below.inside.len c.args.self.now c.args.below.now
    c.self.view_is c.below.view_is c.requires.below)
