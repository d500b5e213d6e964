-- The lines of an explanation, as they are written one after another.
use Rattle.std.proofs.Common.{◌≡◌, ◌≤◌, ℕ, List, [], Option, Ok, length, drop, map, refl, subst}
use Rattle.std.proofs.lemmas.List.{drop_all}
use Rattle.std.specs.List.{concat}
use Rattle.acl_model.specs.Explain.{rule_word, explanation_line}
use Rattle.acl_model.specs.declared.rule.Rule.{Rule}
use Rattle.acl_outside.specs.WrittenText.{Writes}
use Rattle.acl_outside.proofs.Remaining.{Remains, Writes-all}
use Rattle.line_writer.specs.Parts.{explained_line}
use Rattle.tree_meaning.specs.inside.ExplainWalk.{explanation_in}
use Rattle.tree_meaning.specs.declared.explain.Told.{Told}

-- The line of an explanation is that of its sign, the id of its rule or `closed`, and its place.
pub line_told : (rules : List Rule) (told : Told) (word place : List ℕ) → word ≡ rule_word rules told.rule → place ≡ told.place
    → explained_line told.sign word place ≡ explanation_line rules (explanation_in told)
line_told rules told word place is stands = rw (is, stands) refl

-- After the last part the whole text is written, also where it is stated in another form.
pub Writes-parts : {S T E X : Type 0} {written : S → Option (List ℕ)} {missed : S → Option ℕ} {settled : S → Option (List ℕ)} {faults : S → ℕ} {old new : S} {t : T}
    (text : X → List ℕ) (parts : List X) (i : ℕ) (all : List ℕ) → length parts ≤ i → concat (map text parts) ≡ all
    → Remains written missed settled faults old new (concat (map text (drop i parts))) (concat (map text parts)) → Writes {E = E} written missed settled faults (Ok t) old new all
Writes-parts {written = written} {missed = missed} {settled = settled} {faults = faults} {old = old} {new = new} {t = t} text parts i all past same before =
    subst (Writes written missed settled faults (Ok t) old new) same
    (Writes-all (subst (λ rest. Remains written missed settled faults old new (concat (map text rest)) (concat (map text parts))) (drop_all i parts past) before))
