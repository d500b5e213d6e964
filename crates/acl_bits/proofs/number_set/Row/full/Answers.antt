-- The lowest bits of each word are ones, as many as the count leaves for it.
use Rattle.std.proofs.Common.{ap, ◌∙◌}
use Rattle.acl_bits.proofs.Words.{members_of-full, full_words-from, low_word}
use Rattle.acl_bits.proofs.number_set.Row.full.Goals as goal

pub returns : goal.returns
returns c =
    members_of-full _ c.args.count c.requires
    (full_words-from c.args.count _ _ _ _ c.low_ones.ensures (c.low_ones-2.ensures ∙ ap low_word c.saturating_sub.ensures)
    (c.low_ones-3.ensures ∙ ap low_word c.saturating_sub-2.ensures) (c.low_ones-4.ensures ∙ ap low_word c.saturating_sub-3.ensures))
