-- An element is written in three parts, one after another: what comes before its items, its items, and its end.
use Rattle.std.proofs.Common.{◌≡◌, ℕ, List, ◌++◌, map, append_assoc, Option, Result, Ok, Err, IsErr, refl, sym, ◌∙◌}
use Rattle.std.specs.List.{concat}
use Rattle.acl_model.specs.Ascii.{capital_a, left_parenthesis, right_parenthesis}
use Rattle.acl_model.specs.Text.{line, element_text, item_text}
use Rattle.acl_model.specs.declared.document.Element.{Element}
use Rattle.acl_model.proofs.TextEquations.{element_text_is}
use Rattle.acl_outside.specs.WrittenText.{Writes}
use Rattle.acl_outside.proofs.Remaining.{Remains-all, Remains-next, Writes-failed, Writes-rest}
use Rattle.line_writer.specs.Parts.{start_text}

abbrev start_of : Element → List ℕ
start_of e = start_text e.attributes e.name

abbrev items_of : Element → List ℕ
items_of e = concat (map item_text e.items)

abbrev end_of : Element → List ℕ
end_of e = line right_parenthesis e.name

-- the text of an element, in the parts in which it is written
parts_are : (e : Element) → element_text e ≡ start_of e ++ (items_of e ++ end_of e)
parts_are e = element_text_is e ∙ sym (append_assoc (concat (map (line capital_a) e.attributes)) (line left_parenthesis e.name) (items_of e ++ end_of e))

module _ {S T E : Type 0} {written : S → Option (List ℕ)} {missed : S → Option ℕ} {settled : S → Option (List ℕ)} {faults : S → ℕ} where
  -- a part is written, and then what becomes of the others
  part_then : {t : T} {r : Result T E} {a b c : S} (part more : List ℕ) → Writes {E = E} written missed settled faults (Ok t) a b part
      → Writes written missed settled faults r b c more → Writes written missed settled faults r a c (part ++ more)
  part_then part more first others = Writes-rest (Remains-next more refl Remains-all first) others

  -- a part fails, and nothing is written after it
  part_fails : {x : E} {r : Result T E} {a b : S} (part more : List ℕ) → IsErr r → Writes {T = T} written missed settled faults (Err x) a b part
      → Writes written missed settled faults r a b (part ++ more)
  part_fails part more err first = Writes-failed more err refl Remains-all first

module _ {S T E : Type 0} {written : S → Option (List ℕ)} {missed : S → Option ℕ} {settled : S → Option (List ℕ)} {faults : S → ℕ} (e : Element) where
  -- all three are written
  pub Writes-element : {t u : T} {r : Result T E} {a b c d : S} → Writes {E = E} written missed settled faults (Ok t) a b (start_of e)
      → Writes {E = E} written missed settled faults (Ok u) b c (items_of e) → Writes written missed settled faults r c d (end_of e) → Writes written missed settled faults r a d (element_text e)
  Writes-element first second last = rw parts_are
      (part_then (start_of e) (items_of e ++ end_of e) first (part_then (items_of e) (end_of e) second last))

  -- the start fails
  pub Writes-start : {x : E} {r : Result T E} {a b : S} → IsErr r → Writes {T = T} written missed settled faults (Err x) a b (start_of e) → Writes written missed settled faults r a b (element_text e)
  Writes-start err first = rw parts_are (part_fails (start_of e) (items_of e ++ end_of e) err first)

  -- the items fail
  pub Writes-items : {t : T} {x : E} {r : Result T E} {a b c : S} → IsErr r → Writes {E = E} written missed settled faults (Ok t) a b (start_of e)
      → Writes {T = T} written missed settled faults (Err x) b c (items_of e) → Writes written missed settled faults r a c (element_text e)
  Writes-items err first second = rw parts_are
      (part_then (start_of e) (items_of e ++ end_of e) first (part_fails (items_of e) (end_of e) err second))
