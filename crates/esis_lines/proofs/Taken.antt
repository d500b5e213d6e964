-- What is taken is a document's text: between two lines, the lines so far that are of a document are those of the
-- open elements and of the attributes that wait.
use Rattle.std.proofs.Common.{◌≡◌, ℕ, ◌+◌, ◌-◌, ◌<◌, ◌≤◌, suc, Bool, true, false, not, Result, Ok, Err, List, [], ◌∷◌, ◌++◌, length, map, nat_eq, nat_le, nat_lt, ◌&&◌, if◌then◌else◌, refl, sym, ap, subst, ◌∙◌, inl, inr, arith, append_assoc, append-nil, length-append}
use Rattle.std.specs.Cmp.{first_so, second_so}
use Rattle.std.specs.List.{list_all, concat, filter}
use Rattle.std.specs.Cmp.Lexicographic.{pointwise}
use Rattle.std.proofs.lemmas.Bool.{and_from, ltb-true}
use Rattle.std.proofs.lemmas.List.Folds.{list_all-append}
use Rattle.std.proofs.lemmas.Slice.Eq.{bytes_eq-Decides}
use borrow.Author.Tests.{le-leb}
use Rattle.acl_model.specs.Ascii.{are_bytes, line_feed, left_parenthesis, right_parenthesis, hyphen, capital_a}
use Rattle.acl_model.specs.Document.{greatest, is_raw_attribute, is_type, is_well_formed, item_well_formed, height, height_of_item}
use Rattle.acl_model.specs.Lines.{as_line, is_within_line, lacks, lines}
use Rattle.acl_model.specs.Names.{is_name}
use Rattle.acl_model.specs.Text.{line, text, element_text, item_text}
use Rattle.acl_model.specs.Values.{attribute_name, attribute_type}
use Rattle.acl_model.proofs.FormEquations.{well_formed_is, item_well_formed-Text, item_well_formed-Child, height_is, height_of_item-Text, height_of_item-Child}
use Rattle.acl_model.proofs.LineLaws.{lines-are_bytes, lines-lack, lines-written}
use Rattle.acl_model.proofs.TextEquations.{item_text-Text, item_text-Child}
use Rattle.acl_model.specs.declared.document.Doc.{Doc}
use Rattle.acl_model.specs.declared.document.Item.{Item}
use Rattle.acl_model.specs.declared.document.Element.{Element}
use Rattle.acl_model.specs.declared.document.Item.TheVariants.{Text, Child}
use Rattle.esis_lines.specs.declared.doc_fault.DocFault.{DocFault}
use Rattle.esis_lines.specs.declared.doc_fault.DocFault.TheVariants.{BadLine, NoRoot, SecondRoot, TooDeep, TooManyAttributes, Unbalanced}
use Rattle.esis_lines.specs.DocumentText.{IsDocumentText, document_lines, without_closing}
use Rattle.esis_lines.specs.LineForms.{is_closing, is_passed_by}
use Rattle.esis_lines.specs.LineMachine.{State, Line, OpenElement, state_after, run, element_of_open, state_with_element, with_item, document_of_state, says_closing, read_doc_of}
use Rattle.esis_lines.proofs.Kept.{is_kept, kept_closing, document_lines-passed, document_lines-kept, document_lines-closing}
use Rattle.esis_lines.proofs.LineReadings.{LineIs, line_is, chosen, ok_same, not_ok, closing_is, passed_by-closing}
use Rattle.esis_lines.proofs.Running.{Goes, goes}
use Rattle.esis_lines.proofs.Passing.{content, text_is_content, opened}

-- ---- the lines of bytes

-- Each line of bytes fits a line.
all_within : (ls : List (List ℕ)) → list_all are_bytes ls ≡ true → list_all (lacks line_feed) ls ≡ true → list_all is_within_line ls ≡ true
all_within [] are lack = refl
all_within (l ∷ ls) are lack = and_from (is_within_line l) (list_all is_within_line ls)
    (and_from (are_bytes l) (lacks line_feed l) (first_so (are_bytes l) (list_all are_bytes ls) are) (first_so (lacks line_feed l) (list_all (lacks line_feed) ls) lack))
    (all_within ls (second_so (are_bytes l) (list_all are_bytes ls) are) (second_so (lacks line_feed l) (list_all (lacks line_feed) ls) lack))

lines-within : (bytes : List ℕ) → are_bytes bytes ≡ true → list_all is_within_line (lines bytes) ≡ true
lines-within bytes are = all_within (lines bytes) (lines-are_bytes bytes are) (lines-lack bytes)

-- ---- between two lines

-- an open element of the right form, with so many open elements, itself among them
record IsSoundOpen (o : OpenElement) (depth : ℕ) : Type 0 where
  name : is_name o.name ≡ true
  few : length o.attributes ≤ 65535
  raw : list_all is_raw_attribute o.attributes ≡ true
  well : list_all (λ b. b) (map (item_well_formed is_name) o.items) ≡ true
  low : greatest (map height_of_item o.items) + depth ≤ 255

abbrev AreSound : List OpenElement → Type 0
AreSound [] = Unit {0}
AreSound (o ∷ around) = IsSoundOpen o (suc (length around)) × AreSound around

record AreWaiting (waiting : List (List ℕ)) : Type 0 where
  few : length waiting ≤ 65535
  raw : list_all is_raw_attribute waiting ≡ true

record IsSoundElement (e : Element) : Type 0 where
  well : is_well_formed is_name e ≡ true
  low : height e ≤ 255

abbrev IsSound : State → Type 0
IsSound (State.Inside waiting opened) = AreWaiting waiting × AreSound opened
IsSound (State.After root) = IsSoundElement root

attribute_text : List (List ℕ) → List ℕ
attribute_text raws = concat (map (line capital_a) raws)

-- the attributes and the start of an open element and its items so far
unended : OpenElement → List ℕ
unended o = attribute_text o.attributes ++ (line left_parenthesis o.name ++ concat (map item_text o.items))

abbrev opened_text : List OpenElement → List ℕ
opened_text [] = []
opened_text (o ∷ around) = opened_text around ++ unended o

-- the lines so far
abbrev so_far : State → List ℕ
so_far (State.Inside waiting opened) = opened_text opened ++ attribute_text waiting
so_far (State.After root) = element_text root

-- the state after a line is sound, and the lines so far have one more
abbrev Follows : State → List ℕ → State → Type 0
Follows s l next = IsSound next × (so_far next ≡ so_far s ++ as_line l)

concat-push : {A : Type 0} (f : A → List ℕ) (xs : List A) (x : A) → concat (map f (xs ++ x ∷ [])) ≡ concat (map f xs) ++ f x
concat-push f [] x = append-nil (f x)
concat-push f (y ∷ ys) x = ap (λ t. f y ++ t) (concat-push f ys x) ∙ sym (append_assoc (f y) (concat (map f ys)) (f x))

unended_more : (i : Item) (o : OpenElement) → unended (with_item i o) ≡ unended o ++ item_text i
unfolding unended
unended_more i o =
    let prefix : List ℕ = attribute_text o.attributes in
    let start : List ℕ = line left_parenthesis o.name in
    let items : List ℕ = concat (map item_text o.items) in
    ap (λ t. prefix ++ (start ++ t)) (concat-push item_text o.items i)
    ∙ ap (λ t. prefix ++ t) (sym (append_assoc start items (item_text i)))
    ∙ sym (append_assoc prefix (start ++ items) (item_text i))

all_push : (f : Item → Bool) (is : List Item) (i : Item) → list_all (λ b. b) (map f is) ≡ true → f i ≡ true → list_all (λ b. b) (map f (is ++ i ∷ [])) ≡ true
all_push f [] i h g = rw g refl
all_push f (j ∷ js) i h g = and_from (f j) (list_all (λ b. b) (map f (js ++ i ∷ []))) (first_so (f j) (list_all (λ b. b) (map f js)) h) (all_push f js i (second_so (f j) (list_all (λ b. b) (map f js)) h) g)

greatest_push : (f : Item → ℕ) (is : List Item) (i : Item) (most : ℕ) → greatest (map f is) ≤ most → f i ≤ most → greatest (map f (is ++ i ∷ [])) ≤ most
greatest_push f [] i most h g = omega arith
greatest_push f (j ∷ js) i most h g = let on = greatest_push f js i most (omega (arith, h)) g in omega (arith, on, h)

sound_push : (i : Item) (o : OpenElement) (depth : ℕ) → IsSoundOpen o depth → item_well_formed is_name i ≡ true → height_of_item i + depth ≤ 255 → IsSoundOpen (with_item i o) depth
sound_push i o depth s w l = record {
  name = s.name;
  few = s.few;
  raw = s.raw;
  well = all_push (item_well_formed is_name) o.items i s.well w;
  low = let p = greatest_push height_of_item o.items i (255 - depth) (omega (arith, s.low)) (omega (arith, l)) in omega (arith, p, l);
}

none_wait : AreWaiting []
none_wait = record { few = omega arith; raw = refl }

-- ---- one line more

says_follows : (bytes : List ℕ) (o : OpenElement) (around : List OpenElement) → is_within_line bytes ≡ true → AreSound (o ∷ around) → Follows (State.Inside [] (o ∷ around)) (hyphen ∷ bytes) (State.Inside [] (with_item (Text bytes) o ∷ around))
unfolding attribute_text
says_follows bytes o around within s = (
  (none_wait, (sound_push (Text bytes) o (suc (length around)) s.0 (item_well_formed-Text is_name bytes ∙ within) (let h = height_of_item-Text bytes in let low = s.0.low in omega (arith, h, low)), s.1)),
  append-nil (opened_text around ++ unended (with_item (Text bytes) o))
      ∙ ap (λ t. opened_text around ++ t) (unended_more (Text bytes) o ∙ ap (λ t. unended o ++ t) (item_text-Text bytes))
      ∙ sym (append_assoc (opened_text around) (unended o) (line hyphen bytes))
      ∙ ap (λ t. t ++ line hyphen bytes) (sym (append-nil (opened_text around ++ unended o))),
)

starts_follows : (name : List ℕ) (waiting : List (List ℕ)) (around : List OpenElement) → is_name name ≡ true → length around < 255 → AreWaiting waiting → AreSound around → Follows (State.Inside waiting around) (left_parenthesis ∷ name) (State.Inside [] (opened name waiting [] ∷ around))
unfolding unended attribute_text
starts_follows name waiting around is low w s = (
  (none_wait, (record { name = is; few = w.few; raw = w.raw; well = refl; low = omega (arith, low) }, s)),
  append-nil (opened_text around ++ unended (opened name waiting []))
      ∙ ap (λ t. opened_text around ++ (attribute_text waiting ++ t)) (append-nil (line left_parenthesis name))
      ∙ sym (append_assoc (opened_text around) (attribute_text waiting) (line left_parenthesis name)),
)

waits_follows : (raw : List ℕ) (waiting : List (List ℕ)) (around : List OpenElement) → is_raw_attribute raw ≡ true → length waiting < 65535 → AreWaiting waiting → AreSound around → Follows (State.Inside waiting around) (capital_a ∷ raw) (State.Inside (waiting ++ raw ∷ []) around)
unfolding attribute_text
waits_follows raw waiting around is few w s = (
  (
    record {
      few = (let long = length-append waiting (raw ∷ []) in omega (arith, long, few));
      raw = list_all-append is_raw_attribute waiting (raw ∷ []) ∙ (let own = is in let before = w.raw in rw (before, own) refl);
    },
    s,
  ),
  ap (λ t. opened_text around ++ t) (concat-push (line capital_a) waiting raw)
      ∙ sym (append_assoc (opened_text around) (attribute_text waiting) (line capital_a raw)),
)

closed_sound : (o : OpenElement) (depth : ℕ) → IsSoundOpen o (suc depth) → (is_well_formed is_name (element_of_open o) ≡ true) × (height (element_of_open o) + depth ≤ 255)
closed_sound o depth s =
    let named = is_name o.name in
    let few = nat_le (length o.attributes) 65535 in
    let raw = list_all is_raw_attribute o.attributes in
    let items = list_all (λ b. b) (map (item_well_formed is_name) o.items) in (
      well_formed_is is_name (element_of_open o) ∙ and_from (named && few && raw) items (and_from (named && few) raw (and_from named few s.name (le-leb (length o.attributes) 65535 s.few)) s.raw) s.well,
      (let h = height_is (element_of_open o) in let low = s.low in omega (arith, h, low)),
    )

closed_text : (o : OpenElement) → element_text (element_of_open o) ≡ unended o ++ line right_parenthesis o.name
unfolding content unended attribute_text
closed_text o = text_is_content (element_of_open o)

ends_follows : (o : OpenElement) (around : List OpenElement) → AreSound (o ∷ around) → Follows (State.Inside [] (o ∷ around)) (right_parenthesis ∷ o.name) (state_with_element (element_of_open o) around)
unfolding attribute_text
ends_follows o [] s = let c = closed_sound o 0 s.0 in (
  record { well = c.0; low = (let l = c.1 in omega (arith, l)) },
  closed_text o ∙ ap (λ t. t ++ line right_parenthesis o.name) (sym (append-nil (unended o))),
)
ends_follows o (p ∷ around) s = let c = closed_sound o (suc (length around)) s.0 in (
  (none_wait, (sound_push (Child (element_of_open o)) p (suc (length around)) s.1.0 (item_well_formed-Child is_name (element_of_open o) ∙ c.0) (let h = height_of_item-Child (element_of_open o) in let l = c.1 in omega (arith, h, l)), s.1.1)),
  append-nil (opened_text around ++ unended (with_item (Child (element_of_open o)) p))
      ∙ ap (λ t. opened_text around ++ t) (unended_more (Child (element_of_open o)) p ∙ ap (λ t. unended p ++ t) (item_text-Child (element_of_open o) ∙ closed_text o))
      ∙ sym (append_assoc (opened_text around) (unended p) (unended o ++ line right_parenthesis o.name))
      ∙ sym (append_assoc (opened_text around ++ unended p) (unended o) (line right_parenthesis o.name))
      ∙ ap (λ t. t ++ line right_parenthesis o.name) (sym (append-nil (opened_text around ++ unended p ++ unended o))),
)

-- ---- any line that is of a document

raw_is : (raw : List ℕ) → is_within_line (capital_a ∷ raw) ≡ true → is_name (attribute_name raw) ≡ true → is_type (attribute_type raw) ≡ true → is_raw_attribute raw ≡ true
raw_is raw within named typed = and_from (is_name (attribute_name raw) && is_type (attribute_type raw)) (is_within_line raw) (and_from (is_name (attribute_name raw)) (is_type (attribute_type raw)) named typed) within

ends_or_not : (number : ℕ) (o : OpenElement) (around : List OpenElement) (next : State) (l name : List ℕ) → l ≡ right_parenthesis ∷ name
    → ◌≡◌ {A = Result State DocFault} (if pointwise nat_eq o.name name then Ok (state_with_element (element_of_open o) around) else Err (Unbalanced number)) (Ok next) → AreSound (o ∷ around) → Follows (State.Inside [] (o ∷ around)) l next
ends_or_not number o around next l name is h s = elim (chosen (pointwise nat_eq o.name name) (Ok (state_with_element (element_of_open o) around)) (Err (Unbalanced number)) (Ok next) h) [
  | inl same ↦
      let e : right_parenthesis ∷ o.name ≡ l = ap (λ n. right_parenthesis ∷ n) ((bytes_eq-Decides o.name name).0 same.0) ∙ sym is in
      subst (λ (n : State). Follows (State.Inside [] (o ∷ around)) l n) (ok_same (state_with_element (element_of_open o) around) next same.1)
      (subst (λ (m : List ℕ). Follows (State.Inside [] (o ∷ around)) m (state_with_element (element_of_open o) around)) e (ends_follows o around s))
  | inr other ↦ not_ok next (Unbalanced number) other.1
]

starts_or_not : (number : ℕ) (waiting : List (List ℕ)) (around : List OpenElement) (next : State) (l name : List ℕ) → l ≡ left_parenthesis ∷ name → is_name name ≡ true
    → ◌≡◌ {A = Result State DocFault} (if nat_lt (length around) 255 then Ok (State.Inside [] (opened name waiting [] ∷ around)) else Err (TooDeep number)) (Ok next) → AreWaiting waiting → AreSound around → Follows (State.Inside waiting around) l next
starts_or_not number waiting around next l name is name_is h w s = elim (chosen (nat_lt (length around) 255) (Ok (State.Inside [] (opened name waiting [] ∷ around))) (Err (TooDeep number)) (Ok next) h) [
  | inl fits ↦
      subst (λ (n : State). Follows (State.Inside waiting around) l n) (ok_same (State.Inside [] (opened name waiting [] ∷ around)) next fits.1)
      (subst (λ (m : List ℕ). Follows (State.Inside waiting around) m (State.Inside [] (opened name waiting [] ∷ around))) (sym is) (starts_follows name waiting around name_is (ltb-true (length around) 255 fits.0) w s))
  | inr other ↦ not_ok next (TooDeep number) other.1
]

waits_or_not : (number : ℕ) (waiting : List (List ℕ)) (around : List OpenElement) (next : State) (l raw : List ℕ) → l ≡ capital_a ∷ raw → is_raw_attribute raw ≡ true
    → ◌≡◌ {A = Result State DocFault} (if nat_lt (length waiting) 65535 then Ok (State.Inside (waiting ++ raw ∷ []) around) else Err (TooManyAttributes number)) (Ok next) → AreWaiting waiting → AreSound around → Follows (State.Inside waiting around) l next
waits_or_not number waiting around next l raw is raw_ok h w s = elim (chosen (nat_lt (length waiting) 65535) (Ok (State.Inside (waiting ++ raw ∷ []) around)) (Err (TooManyAttributes number)) (Ok next) h) [
  | inl fits ↦
      subst (λ (n : State). Follows (State.Inside waiting around) l n) (ok_same (State.Inside (waiting ++ raw ∷ []) around) next fits.1)
      (subst (λ (m : List ℕ). Follows (State.Inside waiting around) m (State.Inside (waiting ++ raw ∷ []) around)) (sym is) (waits_follows raw waiting around raw_ok (ltb-true (length waiting) 65535 fits.0) w s))
  | inr other ↦ not_ok next (TooManyAttributes number) other.1
]

says_it : (o : OpenElement) (around : List OpenElement) (next : State) (l bytes : List ℕ) → is_within_line l ≡ true → l ≡ hyphen ∷ bytes → State.Inside [] (with_item (Text bytes) o ∷ around) ≡ next → AreSound (o ∷ around) → Follows (State.Inside [] (o ∷ around)) l next
says_it o around next l bytes within is h s =
    let w : is_within_line (hyphen ∷ bytes) ≡ true = subst (λ (m : List ℕ). is_within_line m ≡ true) is within in
    subst (λ (n : State). Follows (State.Inside [] (o ∷ around)) l n) h
    (subst (λ (m : List ℕ). Follows (State.Inside [] (o ∷ around)) m (State.Inside [] (with_item (Text bytes) o ∷ around))) (sym is) (says_follows bytes o around w s))

-- What a line does to the lines that are of a document: it is one more of them, or it is passed by, or it closes them.
data Comes (s : State) (l : List ℕ) (next : State) (said : Line) : Type 0 where
  More : is_kept l ≡ true → Follows s l next → Comes s l next said
  Passes : is_passed_by l ≡ true → s ≡ next → Comes s l next said
  Ends : says_closing said ≡ true → s ≡ next → Comes s l next said

kept_is : (l m : List ℕ) → l ≡ m → is_kept m ≡ true → is_kept l ≡ true
kept_is l m is h = ap is_kept is ∙ h

comes : (number : ℕ) (s next : State) (l : List ℕ) (x : Line) → is_within_line l ≡ true → LineIs l x → state_after number s x ≡ Ok next → IsSound s → Comes s l next x
unfolding LineIs
comes number s next l Line.PassesBy within is h sound = Comes.Passes is (ok_same s next h)
comes number (State.Inside waiting opened) next l (Line.Starts name) within is h sound = Comes.More (kept_is l (left_parenthesis ∷ name) is.0 refl) (starts_or_not number waiting opened next l name is.0 is.1 h sound.0 sound.1)
comes number (State.Inside waiting opened) next l (Line.Waits raw) within is h sound =
    let w : is_within_line (capital_a ∷ raw) ≡ true = subst (λ (m : List ℕ). is_within_line m ≡ true) is.0 within in
    Comes.More (kept_is l (capital_a ∷ raw) is.0 refl) (waits_or_not number waiting opened next l raw is.0 (raw_is raw w is.1 is.2) h sound.0 sound.1)
comes number (State.Inside [] []) next l (Line.Ends name) within is h sound = not_ok next (Unbalanced number) h
comes number (State.Inside [] (o ∷ around)) next l (Line.Ends name) within is h sound = Comes.More (kept_is l (right_parenthesis ∷ name) is.0 refl) (ends_or_not number o around next l name is.0 h sound.1)
comes number (State.Inside (raw ∷ waiting) opened) next l (Line.Ends name) within is h sound = not_ok next (Unbalanced number) h
comes number (State.Inside [] []) next l (Line.Says bytes) within is h sound = not_ok next (Unbalanced number) h
comes number (State.Inside [] (o ∷ around)) next l (Line.Says bytes) within is h sound = Comes.More (kept_is l (hyphen ∷ bytes) is refl) (says_it o around next l bytes within is (ok_same (State.Inside [] (with_item (Text bytes) o ∷ around)) next h) sound.1)
comes number (State.Inside (raw ∷ waiting) opened) next l (Line.Says bytes) within is h sound = not_ok next (Unbalanced number) h
comes number (State.Inside [] []) next l Line.Closes within is h sound = Comes.Ends refl (ok_same (State.Inside [] []) next h)
comes number (State.Inside [] (o ∷ around)) next l Line.Closes within is h sound = not_ok next (Unbalanced number) h
comes number (State.Inside (raw ∷ waiting) opened) next l Line.Closes within is h sound = not_ok next (Unbalanced number) h
comes number (State.After root) next l (Line.Starts name) within is h sound = not_ok next (SecondRoot number) h
comes number (State.After root) next l (Line.Waits raw) within is h sound = not_ok next (SecondRoot number) h
comes number (State.After root) next l (Line.Ends name) within is h sound = not_ok next (Unbalanced number) h
comes number (State.After root) next l (Line.Says bytes) within is h sound = not_ok next (Unbalanced number) h
comes number (State.After root) next l Line.Closes within is h sound = Comes.Ends refl (ok_same (State.After root) next h)

-- ---- all lines

abbrev IsRead : Doc → List ℕ → Type 0
IsRead d bytes = IsSoundElement d.root × (text d ≡ bytes)

RunFollows : List (List ℕ) → Type 0
RunFollows ls = (number : ℕ) (s : State) (d : Doc) → list_all is_within_line ls ≡ true → run number false ls s ≡ Ok d → IsSound s → IsRead d (so_far s ++ concat (map as_line (document_lines ls)))

run_ends : (number : ℕ) (s : State) (d : Doc) → document_of_state number s ≡ Ok d → IsSound s → IsRead d (so_far s ++ [])
run_ends number (State.Inside [] []) d h sound = not_ok d NoRoot h
run_ends number (State.Inside [] (o ∷ around)) d h sound = not_ok d (Unbalanced number) h
run_ends number (State.Inside (raw ∷ waiting) opened) d h sound = not_ok d (Unbalanced number) h
run_ends number (State.After root) d h sound =
    let same : Doc = record { root = root } in
    subst (λ (e : Doc). IsRead e (element_text root ++ [])) (ok_same same d h) (sound, sym (append-nil (element_text root)))

-- after a closing line there is none
run_closed : (number : ℕ) (l : List ℕ) (ls : List (List ℕ)) (s : State) (d : Doc) → is_closing l ≡ true → run number true ls s ≡ Ok d → IsSound s → IsRead d (so_far s ++ concat (map as_line (document_lines (l ∷ ls))))
run_closed number l [] s d is h sound = let same = document_lines-closing l is in rw same (run_ends number s d h sound)
run_closed number l (k ∷ ks) s d is h sound = not_ok d (BadLine number) h

run_on : (number : ℕ) (l : List ℕ) (ls : List (List ℕ)) (s : State) (d : Doc) (g : Goes number l ls s d) → RunFollows ls → list_all is_within_line (l ∷ ls) ≡ true → IsSound s → IsRead d (so_far s ++ concat (map as_line (document_lines (l ∷ ls))))
unfolding RunFollows
run_on number l ls s d g on within sound =
    let within_on = second_so (is_within_line l) (list_all is_within_line ls) within in
    let closing = closing_is number l g.said g.is in
    let P : List (List ℕ) → Type 0 = λ ks. IsRead d (so_far s ++ concat (map as_line ks)) in
    elim (comes number s g.next l g.said (first_so (is_within_line l) (list_all is_within_line ls) within) (line_is number l g.said g.is) g.took sound) [
      | More kept follows ↦
          let yet : says_closing g.said ≡ false = sym closing ∙ kept_closing l kept in
          let r = on (number + 1) g.next d within_on (sym (ap (λ (c : Bool). run (number + 1) c ls g.next) yet) ∙ g.on) follows.0 in
          subst P (sym (document_lines-kept l ls kept))
          (r.0, r.1 ∙ ap (λ t. t ++ concat (map as_line (document_lines ls))) follows.1 ∙ append_assoc (so_far s) (as_line l) (concat (map as_line (document_lines ls))))
      | Passes passed same ↦
          let yet : says_closing g.said ≡ false = sym closing ∙ passed_by-closing l passed in
          let next_on : run (number + 1) false ls s ≡ Ok d = ap (λ (n : State). run (number + 1) false ls n) same ∙ sym (ap (λ (c : Bool). run (number + 1) c ls g.next) yet) ∙ g.on in
          subst P (sym (document_lines-passed l ls passed)) (on (number + 1) s d within_on next_on sound)
      | Ends ends same ↦
          run_closed (number + 1) l ls s d (closing ∙ ends) (ap (λ (n : State). run (number + 1) true ls n) same ∙ sym (ap (λ (c : Bool). run (number + 1) c ls g.next) ends) ∙ g.on) sound
    ]

run_follows : (ls : List (List ℕ)) → RunFollows ls
unfolding RunFollows
run_follows [] number s d within h sound = run_ends number s d h sound
run_follows (l ∷ ls) number s d within h sound = run_on number l ls s d (goes number l ls s d h) (run_follows ls) within sound

lacks_kept : (p : List ℕ → Bool) (ls : List (List ℕ)) → list_all (lacks line_feed) ls ≡ true → list_all (lacks line_feed) (filter p ls) ≡ true
lacks_kept p [] h = refl
lacks_kept p (l ∷ ls) h =
    let on = lacks_kept p ls (second_so (lacks line_feed l) (list_all (lacks line_feed) ls) h) in
    elim (p l) as (λ (v : Bool). list_all (lacks line_feed) (if v then l ∷ filter p ls else filter p ls) ≡ true)
    [ true ↦ and_from (lacks line_feed l) (list_all (lacks line_feed) (filter p ls)) (first_so (lacks line_feed l) (list_all (lacks line_feed) ls) h) on | false ↦ on ]

lacks_closing : (ls : List (List ℕ)) → list_all (lacks line_feed) ls ≡ true → list_all (lacks line_feed) (without_closing ls) ≡ true
lacks_closing [] h = refl
lacks_closing (l ∷ []) h = elim (is_closing l) as (λ (v : Bool). list_all (lacks line_feed) (if v then [] else l ∷ []) ≡ true) [ true ↦ refl | false ↦ h ]
lacks_closing (l ∷ k ∷ ks) h = and_from (lacks line_feed l) (list_all (lacks line_feed) (without_closing (k ∷ ks))) (first_so (lacks line_feed l) (list_all (lacks line_feed) (k ∷ ks)) h) (lacks_closing (k ∷ ks) (second_so (lacks line_feed l) (list_all (lacks line_feed) (k ∷ ks)) h))

-- of bytes, what is read as a document is its text
pub document_read : (d : Doc) (bytes : List ℕ) → are_bytes bytes ≡ true → read_doc_of bytes ≡ Ok d → IsDocumentText d bytes
unfolding RunFollows attribute_text
document_read d bytes are h =
    let r = run_follows (lines bytes) 1 (State.Inside [] []) d (lines-within bytes are) h (none_wait, tt) in
    let lack : list_all (lacks line_feed) (document_lines (lines bytes)) ≡ true = lacks_kept (λ l. not (is_passed_by l)) (without_closing (lines bytes)) (lacks_closing (lines bytes) (lines-lack bytes)) in (
      and_from (is_well_formed is_name d.root) (nat_le (height d.root) 255) r.0.well (le-leb (height d.root) 255 r.0.low),
      sym (lines-written (document_lines (lines bytes)) lack) ∙ ap lines (sym r.1),
    )
