-- How the elements of a document appear in its view, as a list of entries in document order. Each element has an entry,
-- but for those inside an absent one. One walk finds the list, and a second walk writes by it. `StepMarks` says what a
-- row is. Defined by this project. `ShowLaws` proves that what is written is the text of the view.
use Rattle.std.specs.Prelude.{◌≡◌, ℕ, Option, Bool, true, false, Result, Ok, Err, List, [], ◌∷◌, ◌++◌, map, if◌then◌else◌}
use Rattle.std.specs.List.{flat_map, list_any}
use Rattle.acl_model.specs.Ascii.{left_parenthesis, right_parenthesis, hyphen}
use Rattle.acl_model.specs.Text.{line}
use Rattle.acl_outside.specs.WrittenText.{Writes}
use Rattle.line_writer.specs.Parts.{start_text}
use Rattle.acl_model.specs.declared.document.Element.{Element}
use Rattle.acl_model.specs.declared.document.Item.{Item}
use Rattle.acl_model.specs.declared.document.Item.TheOpen.{Item-F, Element-F}
use Rattle.acl_model.specs.declared.document.Item.TheFolds.{fold-Item, fold-Element, para-Item, para-Element}
use Rattle.acl_model.specs.declared.rule.Sign.{Sign}
use Rattle.acl_model.specs.declared.rule.Sign.TheVariants.{Grant, Deny}
use Rattle.tree_meaning.specs.declared.shows.Show.{Show}
use Rattle.tree_meaning.specs.declared.shows.Show.TheVariants.{Whole, Dummy, Absent}
use Rattle.tree_meaning.specs.declared.view_writer.WriteViewFault.{WriteViewFault}
use Rattle.tree_meaning.specs.declared.view_writer.WriteViewFault.TheVariants.{NoMemory, Failed}
use Rattle.tree_meaning.specs.inside.StepMarks.{MarkedStep, row_below, sign_here}

-- ---- the sink after a call that writes a view

-- After Ok the text was written whole. After Failed the sink failed, and a prefix of the text was written. After
-- NoMemory the sink is as it was before the call.
abbrev pub WritesView : {S T : Type 0} → (S → Option (List ℕ)) → (S → Option ℕ) → (S → Option (List ℕ)) → (S → ℕ)
    → Result T WriteViewFault → S → S → List ℕ → Type 0
WritesView written missed settled faults (Ok done) old new text = Writes {E = WriteViewFault} written missed settled faults (Ok done) old new text
WritesView {T = T} written missed settled faults (Err Failed) old new text = Writes {T = T} written missed settled faults (Err Failed) old new text
WritesView written missed settled faults (Err NoMemory) old new text = new ≡ old

-- ---- the list

-- Something of the element is in the view.
abbrev pub is_shown : Show → Bool
is_shown Whole = true
is_shown Dummy = true
is_shown Absent = false

-- A granted element is whole. A denied one is a dummy if something inside it is shown, and otherwise absent.
abbrev pub show_by_sign : Sign → Bool → Show
show_by_sign Grant inside = Whole
show_by_sign Deny true = Dummy
show_by_sign Deny false = Absent

-- the entry of an element, followed by those of the elements inside it; an absent element has its own entry alone
abbrev pub with_show : Show → List Show → List Show
with_show Whole inside = Whole ∷ inside
with_show Dummy inside = Dummy ∷ inside
with_show Absent inside = Absent ∷ []

-- the entries of an element of this sign, from those of the elements inside it
abbrev pub shows_by_sign : Sign → List Show → List Show
shows_by_sign own inside = with_show (show_by_sign own (list_any is_shown inside)) inside

-- the entries of an element or an item, by the row and the sign of the element around it
abbrev pub Shows : Type 0
Shows = List MarkedStep → Sign → List Show

-- A text has no entry, and a child element has those of its own.
abbrev pub shows_in_layer : Item-F (Item × Shows) (Element × Shows) → Shows
shows_in_layer (Item-F.Text bytes) here own = []
shows_in_layer (Item-F.Child c) here own = c.1 here own

-- An element has its sign by the row at it. The entries of its items follow one after another, by this row and this
-- sign.
abbrev pub shows_in_element : Element-F (Item × Shows) (Element × Shows) → Shows
shows_in_element e row above =
    let here : List MarkedStep = row_below (record { name = e.name; attributes = e.attributes; items = map (λ item. item.0) e.items }) row in
    shows_by_sign (sign_here here above) (flat_map {X = Item × Shows} (λ item. item.1 here (sign_here here above)) e.items)

-- the entries of an element and of those inside it, in document order
unfoldable pub shows_from : Element → Shows
shows_from = para-Element Shows Shows shows_in_layer shows_in_element

-- the entries of an item
unfoldable pub shows_of_item : Item → Shows
shows_of_item = para-Item Shows Shows shows_in_layer shows_in_element

-- ---- the text by the list

-- the text of an element or an item, and the rest of the list after its entries
pub record Written : Type 0 where
  pub text : List ℕ
  pub rest : List Show

-- A text is written if its element is whole, and uses no entry. A child element uses the entries at the start of the
-- list.
abbrev pub written_in_layer : Item-F (Bool → List Show → Written) (List Show → Written) → Bool → List Show → Written
written_in_layer (Item-F.Text bytes) whole shows = record { text = if whole then line hyphen bytes else []; rest = shows }
written_in_layer (Item-F.Child child) whole shows = child shows

-- items one after another, each by the rest of the list that the item before it left
abbrev pub in_turn : List (Bool → List Show → Written) → Bool → List Show → Written
in_turn [] whole shows = record { text = []; rest = shows }
in_turn (item ∷ items) whole shows = record {
  text = (item whole shows).text ++ (in_turn items whole (item whole shows).rest).text;
  rest = (in_turn items whole (item whole shows).rest).rest;
}

-- The start of a whole element has its attributes and its name. That of a dummy has no attributes and the name `-`.
abbrev pub shown_start : Bool → List (List ℕ) → List ℕ → List ℕ
shown_start true attributes name = start_text attributes name
shown_start false attributes name = line left_parenthesis (hyphen ∷ [])

-- The end of a whole element has its name, and that of a dummy the name `-`.
abbrev pub shown_end : Bool → List ℕ → List ℕ
shown_end true name = line right_parenthesis name
shown_end false name = line right_parenthesis (hyphen ∷ [])

-- the start of an element, what is inside it, and its end
abbrev pub around : Bool → List (List ℕ) → List ℕ → Written → Written
around whole attributes name inside = record { text = shown_start whole attributes name ++ (inside.text ++ shown_end whole name); rest = inside.rest }

-- An element is written by the first entry of the list: whole, as a dummy, or not at all. After the end of the list
-- nothing is written.
abbrev pub written_by : List (List ℕ) → List ℕ → List (Bool → List Show → Written) → List Show → Written
written_by attributes name items [] = record { text = []; rest = [] }
written_by attributes name items (Whole ∷ shows) = around true attributes name (in_turn items true shows)
written_by attributes name items (Dummy ∷ shows) = around false attributes name (in_turn items false shows)
written_by attributes name items (Absent ∷ shows) = record { text = []; rest = shows }

-- the same for an element in whose layer each item is replaced by the function that writes it
abbrev pub written_in_element : Element-F (Bool → List Show → Written) (List Show → Written) → List Show → Written
written_in_element e shows = written_by e.attributes e.name e.items shows

-- the text of an element by a list, and the rest of the list
unfoldable pub written_of : Element → List Show → Written
written_of = fold-Element (Bool → List Show → Written) (List Show → Written) written_in_layer written_in_element

-- the same for an item of an element that is whole or a dummy
unfoldable pub written_of_item : Item → Bool → List Show → Written
written_of_item = fold-Item (Bool → List Show → Written) (List Show → Written) written_in_layer written_in_element
