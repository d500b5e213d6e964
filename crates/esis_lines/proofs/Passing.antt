-- Every document's lines are taken, whatever lines of no document are between them.
use Rattle.std.proofs.Common.{◌≡◌, ℕ, ◌+◌, ◌<◌, ◌≤◌, suc, Bool, true, false, not, Ok, List, [], ◌∷◌, ◌++◌, length, map, nat_eq, nat_le, ◌&&◌, refl, sym, ap, subst, ◌∙◌, arith, append_assoc, append-nil, length-append}
use Rattle.std.specs.Cmp.{first_so, second_so}
use Rattle.std.specs.List.{list_all, concat}
use Rattle.std.proofs.lemmas.Bool.{and_from, lt-ltb}
use Rattle.std.proofs.lemmas.Slice.Eq.{bytes_eq-Decides}
use borrow.Author.Tests.{leb-true}
use Rattle.acl_model.specs.Ascii.{are_bytes, line_feed, left_parenthesis, right_parenthesis, hyphen, capital_a}
use Rattle.acl_model.specs.Document.{greatest, is_document, is_raw_attribute, is_type, is_well_formed, item_well_formed, height, height_of_item}
use Rattle.acl_model.specs.Lines.{is_line_feed, is_within_line, lacks, lines}
use Rattle.acl_model.specs.Names.{is_name}
use Rattle.acl_model.specs.Text.{line, text, element_text, item_text}
use Rattle.acl_model.specs.Values.{attribute_name, attribute_type}
use Rattle.acl_model.proofs.ByteLaws.{is_name-lacks}
use Rattle.acl_model.proofs.FormEquations.{well_formed_is, item_well_formed-Text, item_well_formed-Child, height_is, height_of_item-Child}
use Rattle.acl_model.proofs.LineLaws.{lines-as_line}
use Rattle.acl_model.proofs.TextEquations.{element_text_is, item_text-Text, item_text-Child}
use Rattle.acl_model.specs.declared.document.Doc.{Doc}
use Rattle.acl_model.specs.declared.document.Item.{Item}
use Rattle.acl_model.specs.declared.document.Element.{Element}
use Rattle.acl_model.specs.declared.document.Item.TheVariants.{Text, Child, rolls-Text, rolls-Child}
use Rattle.acl_model.specs.declared.document.Item.TheOpen.{Item-F, Element-F}
use Rattle.acl_model.specs.declared.document.Item.TheViews.{roll-Item, roll-Element}
use Rattle.acl_model.specs.declared.document.Item.TheFolds.{ind-Element}
use Rattle.esis_lines.specs.LineMachine.{Line, State, OpenElement, run, state_after, says_closing, element_of_open, state_with_element}
use Rattle.esis_lines.proofs.Kept.{is_kept}
use Rattle.esis_lines.proofs.LineReadings.{LineIs, line_said}
use Rattle.esis_lines.proofs.Running.{run_taken}

-- ---- what is read from a state on

-- From s on the bytes are read as the rest of the document, whatever the number of their first line, and each of
-- their lines is of it.
pub record Reads (bytes : List ℕ) (s : State) (d : Doc) : Type 0 where
  pub run_is : (number : ℕ) → run number false (lines bytes) s ≡ Ok d
  pub kept : list_all is_kept (lines bytes) ≡ true

-- From s on the bytes lead to next: where what follows them is the rest from next on, all is the rest from s on.
pub Passes : State → List ℕ → State → Type 0
Passes s bytes next = (rest : List ℕ) (d : Doc) → Reads rest next d → Reads (bytes ++ rest) s d

passes_none : (s : State) → Passes s [] s
unfolding Passes
passes_none s rest d h = h

passes_both : (s mid next : State) (a b : List ℕ) → Passes s a mid → Passes mid b next → Passes s (a ++ b) next
unfolding Passes
passes_both s mid next a b p q rest d h = rw append_assoc (p (b ++ rest) d (q rest d h))

-- the line leads from s to next
record Takes (s : State) (l : List ℕ) (next : State) : Type 0 where
  said : Line
  is : LineIs l said
  took : (number : ℕ) → state_after number s said ≡ Ok next
  open_yet : says_closing said ≡ false
  kept : is_kept l ≡ true

passes_line : (s next : State) (kind : ℕ) (argument : List ℕ) → lacks line_feed (kind ∷ argument) ≡ true → Takes s (kind ∷ argument) next → Passes s (line kind argument) next
unfolding Passes
passes_line s next kind argument within t rest d h =
    let l : List ℕ = kind ∷ argument in
    let cut : lines (line kind argument ++ rest) ≡ l ∷ lines rest = ap (λ bs. lines (kind ∷ bs)) (append_assoc argument (line_feed ∷ []) rest) ∙ lines-as_line l rest within in
    record {
      run_is = λ number.
          ap (λ ls. run number false ls s) cut
          ∙ run_taken number l (lines rest) s next t.said (line_said number l t.said t.is) (t.took number)
          ∙ ap (λ (closed : Bool). run (number + 1) closed (lines rest) next) t.open_yet
          ∙ h.run_is (number + 1);
      kept = ap (list_all is_kept) cut ∙ and_from (is_kept l) (list_all is_kept (lines rest)) t.kept h.kept;
    }

-- ---- the four kinds of line

lacks-kind : (kind : ℕ) (argument : List ℕ) → is_line_feed kind ≡ false → lacks line_feed argument ≡ true → lacks line_feed (kind ∷ argument) ≡ true
lacks-kind kind argument is h = and_from (not (nat_eq kind line_feed)) (lacks line_feed argument) (ap not is) h

abbrev pub opened : List ℕ → List (List ℕ) → List Item → OpenElement
opened name attributes items = record { name = name; attributes = attributes; items = items }

abbrev pub inside : List ℕ → List (List ℕ) → List Item → List OpenElement → State
inside name attributes items around = State.Inside [] (opened name attributes items ∷ around)

start_takes : (name : List ℕ) (waiting : List (List ℕ)) (around : List OpenElement) → is_name name ≡ true → length around < 255 → Takes (State.Inside waiting around) (left_parenthesis ∷ name) (inside name waiting [] around)
unfolding LineIs
start_takes name waiting around is fits = record {
  said = Line.Starts name;
  is = (refl, is);
  took = λ number. (let lt = lt-ltb (length around) 255 fits in rw lt refl);
  open_yet = refl;
  kept = refl;
}

end_takes : (name : List ℕ) (attributes : List (List ℕ)) (items : List Item) (around : List OpenElement) → is_name name ≡ true → Takes (inside name attributes items around) (right_parenthesis ∷ name) (state_with_element (element_of_open (opened name attributes items)) around)
unfolding LineIs
end_takes name attributes items around is = record {
  said = Line.Ends name;
  is = (refl, is);
  took = λ number. (let same = (bytes_eq-Decides name name).1 refl in rw same refl);
  open_yet = refl;
  kept = refl;
}

text_takes : (bytes name : List ℕ) (attributes : List (List ℕ)) (items : List Item) (around : List OpenElement) → Takes (inside name attributes items around) (hyphen ∷ bytes) (inside name attributes (items ++ Text bytes ∷ []) around)
unfolding LineIs
text_takes bytes name attributes items around = record {
  said = Line.Says bytes;
  is = refl;
  took = λ number. refl;
  open_yet = refl;
  kept = refl;
}

attribute_takes : (raw : List ℕ) (waiting : List (List ℕ)) (around : List OpenElement) → is_name (attribute_name raw) ≡ true → is_type (attribute_type raw) ≡ true → length waiting < 65535 → Takes (State.Inside waiting around) (capital_a ∷ raw) (State.Inside (waiting ++ raw ∷ []) around)
unfolding LineIs
attribute_takes raw waiting around named typed fits = record {
  said = Line.Waits raw;
  is = (refl, named, typed);
  took = λ number. (let lt = lt-ltb (length waiting) 65535 fits in rw lt refl);
  open_yet = refl;
  kept = refl;
}

passes_start : (name : List ℕ) (waiting : List (List ℕ)) (around : List OpenElement) → is_name name ≡ true → length around < 255 → Passes (State.Inside waiting around) (line left_parenthesis name) (inside name waiting [] around)
passes_start name waiting around is fits = passes_line (State.Inside waiting around) (inside name waiting [] around) left_parenthesis name (lacks-kind left_parenthesis name refl (is_name-lacks line_feed refl name is)) (start_takes name waiting around is fits)

passes_end : (name : List ℕ) (attributes : List (List ℕ)) (items : List Item) (around : List OpenElement) → is_name name ≡ true → Passes (inside name attributes items around) (line right_parenthesis name) (state_with_element (element_of_open (opened name attributes items)) around)
passes_end name attributes items around is = passes_line (inside name attributes items around) (state_with_element (element_of_open (opened name attributes items)) around) right_parenthesis name (lacks-kind right_parenthesis name refl (is_name-lacks line_feed refl name is)) (end_takes name attributes items around is)

passes_text : (bytes name : List ℕ) (attributes : List (List ℕ)) (items : List Item) (around : List OpenElement) → lacks line_feed bytes ≡ true → Passes (inside name attributes items around) (line hyphen bytes) (inside name attributes (items ++ Text bytes ∷ []) around)
passes_text bytes name attributes items around h = passes_line (inside name attributes items around) (inside name attributes (items ++ Text bytes ∷ []) around) hyphen bytes (lacks-kind hyphen bytes refl h) (text_takes bytes name attributes items around)

passes_attribute : (raw : List ℕ) (waiting : List (List ℕ)) (around : List OpenElement) → is_raw_attribute raw ≡ true → length waiting < 65535 → Passes (State.Inside waiting around) (line capital_a raw) (State.Inside (waiting ++ raw ∷ []) around)
passes_attribute raw waiting around is fits =
    let both : (is_name (attribute_name raw) && is_type (attribute_type raw)) ≡ true = first_so (is_name (attribute_name raw) && is_type (attribute_type raw)) (is_within_line raw) is in
    let within : is_within_line raw ≡ true = second_so (is_name (attribute_name raw) && is_type (attribute_type raw)) (is_within_line raw) is in
    passes_line (State.Inside waiting around) (State.Inside (waiting ++ raw ∷ []) around) capital_a raw (lacks-kind capital_a raw refl (second_so (are_bytes raw) (lacks line_feed raw) within))
    (attribute_takes raw waiting around (first_so (is_name (attribute_name raw)) (is_type (attribute_type raw)) both) (second_so (is_name (attribute_name raw)) (is_type (attribute_type raw)) both) fits)

-- attributes wait one after the other
passes_attributes : (raws waiting : List (List ℕ)) (around : List OpenElement) → list_all is_raw_attribute raws ≡ true → length waiting + length raws ≤ 65535 → Passes (State.Inside waiting around) (concat (map (line capital_a) raws)) (State.Inside (waiting ++ raws) around)
passes_attributes [] waiting around all few = let same = append-nil waiting in rw same (passes_none (State.Inside waiting around))
passes_attributes (raw ∷ raws) waiting around all few =
    let more : List (List ℕ) = waiting ++ raw ∷ [] in
    let long : length more ≡ length waiting + 1 = length-append waiting (raw ∷ []) in
    let on = passes_attributes raws more around (second_so (is_raw_attribute raw) (list_all is_raw_attribute raws) all) (omega (arith, long, few)) in
    let P : List (List ℕ) → Type 0 = λ w. Passes (State.Inside more around) (concat (map (line capital_a) raws)) (State.Inside w around) in
    passes_both (State.Inside waiting around) (State.Inside more around) (State.Inside (waiting ++ raw ∷ raws) around) (line capital_a raw) (concat (map (line capital_a) raws))
    (passes_attribute raw waiting around (first_so (is_raw_attribute raw) (list_all is_raw_attribute raws) all) (omega (arith, few)))
    (subst P (append_assoc waiting (raw ∷ []) raws) on)

-- ---- trees

-- an item comes after those before it
pub ItemPasses : Item → Type 0
ItemPasses i = (name : List ℕ) (attributes : List (List ℕ)) (before : List Item) (around : List OpenElement) → item_well_formed is_name i ≡ true → height_of_item i + suc (length around) ≤ 255
    → Passes (inside name attributes before around) (item_text i) (inside name attributes (before ++ i ∷ []) around)

-- an element's attributes, its start and all its items
unfoldable pub content : Element → List ℕ
content e = concat (map (line capital_a) e.attributes) ++ (line left_parenthesis e.name ++ concat (map item_text e.items))

pub ElementPasses : Element → Type 0
ElementPasses e = (around : List OpenElement) → is_well_formed is_name e ≡ true → height e + length around ≤ 255 → Passes (State.Inside [] around) (content e) (inside e.name e.attributes e.items around)

items_pass : (ys : List ((i : Item) × ItemPasses i)) (name : List ℕ) (attributes : List (List ℕ)) (before : List Item) (around : List OpenElement) → list_all (λ b. b) (map (item_well_formed is_name) (map (λ y. y.0) ys)) ≡ true → greatest (map height_of_item (map (λ y. y.0) ys)) + suc (length around) ≤ 255
    → Passes (inside name attributes before around) (concat (map item_text (map (λ y. y.0) ys))) (inside name attributes (before ++ map (λ y. y.0) ys) around)
unfolding ItemPasses
items_pass [] name attributes before around well low = let same = append-nil before in rw same (passes_none (inside name attributes before around))
items_pass (y ∷ ys) name attributes before around well low =
    let rest : List Item = map (λ z. z.0) ys in
    let well_here = first_so (item_well_formed is_name y.0) (list_all (λ b. b) (map (item_well_formed is_name) rest)) well in
    let well_on = second_so (item_well_formed is_name y.0) (list_all (λ b. b) (map (item_well_formed is_name) rest)) well in
    let low_here : height_of_item y.0 + suc (length around) ≤ 255 = omega (arith, low) in
    let low_on : greatest (map height_of_item rest) + suc (length around) ≤ 255 = omega (arith, low) in
    let more : List Item = before ++ y.0 ∷ [] in
    let on = items_pass ys name attributes more around well_on low_on in
    let P : List Item → Type 0 = λ its. Passes (inside name attributes more around) (concat (map item_text rest)) (inside name attributes its around) in
    passes_both (inside name attributes before around) (inside name attributes more around) (inside name attributes (before ++ y.0 ∷ rest) around) (item_text y.0) (concat (map item_text rest))
    (y.1 name attributes before around well_here low_here)
    (subst P (append_assoc before (y.0 ∷ []) rest) on)

-- what the form of an element says
pub record IsFormed (e : Element) : Type 0 where
  pub name : is_name e.name ≡ true
  pub few : length e.attributes ≤ 65535
  pub raw : list_all is_raw_attribute e.attributes ≡ true
  pub items : list_all (λ b. b) (map (item_well_formed is_name) e.items) ≡ true

pub formed : (e : Element) → is_well_formed is_name e ≡ true → IsFormed e
formed e well =
    let all = sym (well_formed_is is_name e) ∙ well in
    let a : Bool = nat_le (length e.attributes) 65535 in
    let b : Bool = list_all is_raw_attribute e.attributes in
    let c : Bool = list_all (λ b. b) (map (item_well_formed is_name) e.items) in
    let prefix = first_so (is_name e.name && a && b) c all in
    let named = first_so (is_name e.name && a) b prefix in
    record {
      name = first_so (is_name e.name) a named;
      few = leb-true (length e.attributes) 65535 (second_so (is_name e.name) a named);
      raw = second_so (is_name e.name && a) b prefix;
      items = second_so (is_name e.name && a && b) c all;
    }

-- an element's text ends with its end
pub text_is_content : (e : Element) → element_text e ≡ content e ++ line right_parenthesis e.name
unfolding content
text_is_content e =
    let attributes : List ℕ = concat (map (line capital_a) e.attributes) in
    let start : List ℕ = line left_parenthesis e.name in
    let items : List ℕ = concat (map item_text e.items) in
    let end : List ℕ = line right_parenthesis e.name in
    element_text_is e ∙ ap (λ t. attributes ++ t) (sym (append_assoc start items end)) ∙ sym (append_assoc attributes (start ++ items) end)

text_passes : (bytes : List ℕ) → ItemPasses (Text bytes)
unfolding ItemPasses
text_passes bytes name attributes before around well low = rw item_text-Text (passes_text bytes name attributes before around (second_so (are_bytes bytes) (lacks line_feed bytes) (sym (item_well_formed-Text is_name bytes) ∙ well)))

child_passes : (e : Element) → ElementPasses e → ItemPasses (Child e)
unfolding ItemPasses ElementPasses
child_passes e h name attributes before around well low =
    let well_e = sym (item_well_formed-Child is_name e) ∙ well in
    let low_e : height e + length (opened name attributes before ∷ around) ≤ 255 = let is = height_of_item-Child e in omega (arith, low, is) in
    let o : List OpenElement = opened name attributes before ∷ around in
    let whole = passes_both (State.Inside [] o) (inside e.name e.attributes e.items o) (state_with_element e o) (content e) (line right_parenthesis e.name)
    (h o well_e low_e) (passes_end e.name e.attributes e.items o (formed e well_e).name) in
    let Q : List ℕ → Type 0 = λ bs. Passes (State.Inside [] o) bs (state_with_element e o) in
    subst Q (sym (item_text-Child e ∙ text_is_content e)) whole

abbrev firsts : Item-F ((i : Item) × ItemPasses i) ((e : Element) × ElementPasses e) → Item-F Item Element
firsts (Item-F.Text bytes) = Item-F.Text bytes
firsts (Item-F.Child y) = Item-F.Child y.0

item_made : (y : Item-F ((i : Item) × ItemPasses i) ((e : Element) × ElementPasses e)) → ItemPasses (roll-Item (firsts y))
item_made (Item-F.Text bytes) = subst ItemPasses (sym (rolls-Text bytes)) (text_passes bytes)
item_made (Item-F.Child y) = subst ItemPasses (sym (rolls-Child y.0)) (child_passes y.0 y.1)

abbrev made : List ℕ → List (List ℕ) → List Item → Element
made name attributes items = roll-Element (record { name = name; attributes = attributes; items = items })

element_made : (y : Element-F ((i : Item) × ItemPasses i) ((e : Element) × ElementPasses e)) → ElementPasses (made y.name y.attributes (map (λ p. p.0) y.items))
unfolding ElementPasses content
element_made y around well low =
    let e : Element = made y.name y.attributes (map (λ p. p.0) y.items) in
    let f = formed e well in
    let few : 0 + length e.attributes ≤ 65535 = omega (arith, f.few) in
    let low_here : length around < 255 = let is = height_is e in omega (arith, low, is) in
    let low_items : greatest (map height_of_item e.items) + suc (length around) ≤ 255 = let is = height_is e in omega (arith, low, is) in
    passes_both (State.Inside [] around) (State.Inside e.attributes around) (inside e.name e.attributes e.items around) (concat (map (line capital_a) e.attributes)) (line left_parenthesis e.name ++ concat (map item_text e.items))
    (passes_attributes e.attributes [] around f.raw few)
    (passes_both (State.Inside e.attributes around) (inside e.name e.attributes [] around) (inside e.name e.attributes e.items around) (line left_parenthesis e.name) (concat (map item_text e.items))
    (passes_start e.name e.attributes around f.name low_here)
    (items_pass y.items e.name e.attributes [] around f.items low_items))

pub elements_pass : (e : Element) → ElementPasses e
elements_pass = ind-Element ItemPasses ElementPasses
    (λ x y is. subst (λ z. ItemPasses (roll-Item z)) is (item_made y))
    (λ x y is. subst (λ z. ElementPasses (roll-Element z)) is (element_made y))

-- ---- whole documents

-- The text of a document is read as that document, and each of its lines is of it.
pub text_reads : (d : Doc) → is_document d ≡ true → Reads (text d) (State.Inside [] []) d
unfolding ElementPasses Passes
text_reads d is =
    let e : Element = d.root in
    let well = first_so (is_well_formed is_name e) (nat_le (height e) 255) is in
    let low : height e + 0 ≤ 255 = let h = leb-true (height e) 255 (second_so (is_well_formed is_name e) (nat_le (height e) 255) is) in omega (arith, h) in
    let done : Reads [] (State.After e) d = record { run_is = λ number. refl; kept = refl } in
    let end : Reads (line right_parenthesis e.name) (inside e.name e.attributes e.items []) d =
    subst (λ (bs : List ℕ). Reads bs (inside e.name e.attributes e.items []) d) (append-nil (line right_parenthesis e.name)) (passes_end e.name e.attributes e.items [] (formed e well).name [] d done) in
    subst (λ (bs : List ℕ). Reads bs (State.Inside [] []) d) (sym (text_is_content e)) (elements_pass e [] well low (line right_parenthesis e.name) d end)
