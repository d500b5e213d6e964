use Rattle.std.proofs.Common.{◌∙◌, ℕ, List, ap, sym, refl}
use Rattle.sha2.specs.Sha256.{sha256}
use Rattle.merkle_chunks.specs.Strings.{root_string}
use Rattle.fragment_open.proofs.ClashLemmas.{bytes_differ, bytes_same}
use Rattle.fragment_open.proofs.head.Head.checked.Goals as goal

pub returns-then-ne : goal.returns-then-ne
returns-then-ne c =
    let made = c.root_of-made.ensures ∙ ap (λ (b : List ℕ). sha256 (root_string b c.args.top)) c.write.ensures in
    (refl, made, λ same. bytes_differ c.root_of-made.result c.args.root c.if-ne.ensures (sym same))

pub returns-then-ne-2 : goal.returns-then-ne-2
returns-then-ne-2 c =
    let made = c.root_of-made.ensures ∙ ap (λ (b : List ℕ). sha256 (root_string b c.args.top)) c.write.ensures in (
      sym made ∙ bytes_same c.root_of-made.result c.args.root c.if-ne.ensures,
      refl,
      c.key_check-check.ensures,
      bytes_differ c.args.header.check c.key_check-check.result c.if-ne-2.ensures,
    )

pub returns : goal.returns
returns c =
    let made = c.root_of-made.ensures ∙ ap (λ (b : List ℕ). sha256 (root_string b c.args.top)) c.write.ensures in
    record {
      header_is = refl;
      top_is = refl;
      key_is = c.new.ensures;
      root_is = sym made ∙ bytes_same c.root_of-made.result c.args.root c.if-ne.ensures;
      check_is = sym c.key_check-check.ensures ∙ sym (bytes_same c.args.header.check c.key_check-check.result c.if-ne-2.ensures);
    }
