use Rattle.std.proofs.Common.{◌≡◌, ℕ, ◌+◌, true, length, take, map, string_bytes, sym, subst, arith, rules}
use Rattle.std.proofs.lemmas.List.{take-map, length-map}
use Rattle.acl_words.specs.Prefixes.{IsBegun}
use Rattle.acl_words.proofs.PrefixLaws.{none_begun, longest_before, longest_all}
use Rattle.acl_words.proofs.prefixes.longest_prefix.Goals as goal

pub loop-prefix-init : goal.loop-prefix-init
loop-prefix-init c = none_begun (map string_bytes c.args.words.now)

pub loop-prefix-preserved : goal.loop-prefix-preserved
loop-prefix-preserved c =
    subst IsBegun (sym (take-map string_bytes (c.loop-prefix.prefix + 1) c.args.words.now)) (c.is_begun.ensures.0 (search rules))

pub returns-then-not-is_begun : goal.returns-then-not-is_begun
returns-then-not-is_begun c =
    longest_before (map string_bytes c.args.words.now) c.loop-prefix.prefix (omega (arith, length-map c.args.words.now string_bytes)) c.loop-prefix.invariant
    (λ begun. let is : c.is_begun.result ≡ true = c.is_begun.ensures.1 (subst IsBegun (take-map string_bytes (c.loop-prefix.prefix + 1) c.args.words.now) begun) in absurd (cc))

pub returns : goal.returns
returns c =
    let end : c.loop-prefix.prefix ≡ length c.args.words.now = omega arith in
    longest_all (map string_bytes c.args.words.now) (length c.args.words.now) (length-map c.args.words.now string_bytes)
    (subst (λ (n : ℕ). IsBegun (take n (map string_bytes c.args.words.now))) end c.loop-prefix.invariant)
