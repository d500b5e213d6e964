-- The machine refuses by the table: between two lines its state is the one that the lines before it leave.
use Rattle.std.proofs.Common.{◌≡◌, ℕ, ◌+◌, Bool, true, false, not, Option, Some, None, Result, Ok, Err, List, [], ◌∷◌, ◌++◌, length, map, nat_eq, nat_le, nat_lt, ◌&&◌, ◌||◌, if◌then◌else◌, refl, sym, ap, subst, ◌∙◌, inl, inr, arith, length-append}
use Rattle.std.proofs.lemmas.List.{length-map}
use Rattle.std.proofs.lemmas.Bool.{lt-ltb, lt-leb, le-leb, ltb-true, ltb-false}
use Rattle.std.specs.List.{list_any}
use Rattle.std.specs.Cmp.Lexicographic.{pointwise}
use Rattle.acl_model.specs.Ascii.{left_parenthesis, right_parenthesis, hyphen, capital_a}
use Rattle.acl_model.specs.declared.document.Element.{Element}
use Rattle.acl_model.specs.declared.document.Item.TheVariants.{Text, Child}
use Rattle.esis_lines.specs.declared.doc_fault.DocFault.{DocFault}
use Rattle.esis_lines.specs.declared.doc_fault.DocFault.TheVariants.{BadLine, Unsupported, Unbalanced, NoRoot, SecondRoot, TooDeep, NameTooLong, TooManyAttributes}
use Rattle.esis_lines.specs.LineForms.{capital_c, argument, first_byte, is_start, is_end, is_text, is_attribute, is_closing, is_passed_by, is_unsupported, is_of_form, has_long_name}
use Rattle.esis_lines.specs.LineMachine.{Line, State, OpenElement, line_of, state_after, state_after_line, answer_from_step, document_of_state, run, element_of_open, state_with_element, with_item}
use Rattle.esis_lines.specs.LineRefusals.{open_names, waiting_count, has_started, is_innermost, without_first, causes_at_end, first_that_fits, refusal}
use Rattle.esis_lines.proofs.LineReadings.{LineIs, line_is, chosen, ok_same, not_ok, passed_kind}
use Rattle.esis_lines.proofs.OwnFaults.{fault_in, own_by, own_fault, own_faults}

-- the first, where there is one, or the other
abbrev pub or_else : Option DocFault → Option DocFault → Option DocFault
or_else None other = other
or_else (Some fault) other = Some fault

-- ---- the rows of the table about the lines before, by what they check

abbrev unbalanced_by : Bool → Bool → Bool → Bool → Bool → Bool → Bool
unbalanced_by end text closing innermost inside wait = (end && not innermost) || (text && not inside) || ((end || text || closing) && wait) || (closing && inside)

abbrev later_by : ℕ → Bool → Bool → Bool → Bool → Bool → Bool → Option DocFault
later_by n start attribute ended unbalanced deep many =
    if (start || attribute) && ended then Some (SecondRoot n)
    else (if unbalanced then Some (Unbalanced n)
    else (if start && deep then Some (TooDeep n)
    else (if attribute && many then Some (TooManyAttributes n) else None)))

-- the same, for names that are open, a number of attributes that wait, and whether an element has started
later_at : ℕ → List (List ℕ) → ℕ → Bool → List ℕ → Option DocFault
later_at n names wait started l =
    later_by n (is_start l) (is_attribute l) (started && not (nat_lt 0 (length names)))
    (unbalanced_by (is_end l) (is_text l) (is_closing l) (is_innermost (argument l) names) (nat_lt 0 (length names)) (nat_lt 0 wait))
    (nat_le 255 (length names)) (nat_le 65535 wait)

own_then : (n kind : ℕ) (u f g : Bool) (rest : Option DocFault) → (if u then Some (Unsupported n kind) else (if not f then Some (BadLine n) else (if g then Some (NameTooLong n) else rest))) ≡ or_else (own_by n u kind f g) rest
own_then n kind true f g rest = refl
own_then n kind false false g rest = refl
own_then n kind false true true rest = refl
own_then n kind false true false rest = refl

-- A line is refused by itself, or else by the lines before it.
refusal_is : (before : List (List ℕ)) (l : List ℕ) → list_any is_closing before ≡ false → refusal before l ≡ or_else (own_fault (length before + 1) l) (later_at (length before + 1) (open_names before) (waiting_count before) (has_started before) l)
unfolding own_fault later_at
refusal_is before l yet = rw yet (own_then (length before + 1) (first_byte l) (is_unsupported l) (is_of_form l) (has_long_name l) (later_at (length before + 1) (open_names before) (waiting_count before) (has_started before) l))

-- ---- the state of the machine

abbrev name_of : OpenElement → List ℕ
name_of o = o.name

-- the open names and the number of waiting attributes are those of the machine, and it is past the root or before it
-- as an element has started
abbrev pub Stands : State → List (List ℕ) → Type 0
Stands (State.Inside waiting opened) before = (open_names before ≡ map name_of opened) × (waiting_count before ≡ length waiting) × (has_started before ≡ nat_lt 0 (length opened))
Stands (State.After root) before = (open_names before ≡ []) × (waiting_count before ≡ 0) × (has_started before ≡ true)

some_are : {A : Type 0} (x : A) (xs : List A) → nat_lt 0 (length (x ∷ xs)) ≡ true
some_are x xs = lt-ltb 0 (length (x ∷ xs)) (omega arith)

deep_is : (n k : ℕ) → nat_le n k ≡ not (nat_lt k n)
deep_is n k = elim (nat_lt k n) as (λ (v : Bool). nat_lt k n ≡ v → nat_le n k ≡ not v) [
  | true ↦ λ is. lt-leb n k (ltb-true k n is)
  | false ↦ λ is. le-leb n k (ltb-false k n is)
] refl

-- ---- the lines before a line refuse it as the machine does

choice_fault : (b : Bool) (next : State) (fault : DocFault) → fault_in (if b then Ok next else Err fault) ≡ (if not b then Some fault else None)
choice_fault true next fault = refl
choice_fault false next fault = refl

and_not : (b : Bool) → (b && not b) ≡ false
and_not true = refl
and_not false = refl

-- while an element is open, or none was started, the root has not ended
not_ended : (opened : List OpenElement) → (nat_lt 0 (length opened) && not (nat_lt 0 (length (map name_of opened)))) ≡ false
not_ended opened = ap (λ (k : ℕ). nat_lt 0 (length opened) && not (nat_lt 0 k)) (length-map opened name_of) ∙ and_not (nat_lt 0 (length opened))

start_later : (n wait : ℕ) (name : List ℕ) (names : List (List ℕ)) (started : Bool) → (started && not (nat_lt 0 (length names))) ≡ false → later_at n names wait started (left_parenthesis ∷ name) ≡ (if nat_le 255 (length names) then Some (TooDeep n) else None)
unfolding later_at
start_later n wait name names started h = rw h refl

attribute_later : (n wait : ℕ) (raw : List ℕ) (names : List (List ℕ)) (started : Bool) → (started && not (nat_lt 0 (length names))) ≡ false → later_at n names wait started (capital_a ∷ raw) ≡ (if nat_le 65535 wait then Some (TooManyAttributes n) else None)
unfolding later_at
attribute_later n wait raw names started h = rw h refl

starts_fault : (n : ℕ) (waiting : List (List ℕ)) (opened : List OpenElement) (name : List ℕ) → later_at n (map name_of opened) (length waiting) (nat_lt 0 (length opened)) (left_parenthesis ∷ name) ≡ fault_in (state_after n (State.Inside waiting opened) (Line.Starts name))
starts_fault n waiting opened name =
    start_later n (length waiting) name (map name_of opened) (nat_lt 0 (length opened)) (not_ended opened)
    ∙ ap (λ (k : ℕ). if nat_le 255 k then Some (TooDeep n) else None) (length-map opened name_of)
    ∙ ap (λ (v : Bool). if v then Some (TooDeep n) else None) (deep_is 255 (length opened))
    ∙ sym (choice_fault (nat_lt (length opened) 255) (State.Inside [] (record { name = name; attributes = waiting; items = [] } ∷ opened)) (TooDeep n))

waits_fault : (n : ℕ) (waiting : List (List ℕ)) (opened : List OpenElement) (raw : List ℕ) → later_at n (map name_of opened) (length waiting) (nat_lt 0 (length opened)) (capital_a ∷ raw) ≡ fault_in (state_after n (State.Inside waiting opened) (Line.Waits raw))
waits_fault n waiting opened raw =
    attribute_later n (length waiting) raw (map name_of opened) (nat_lt 0 (length opened)) (not_ended opened)
    ∙ ap (λ (v : Bool). if v then Some (TooManyAttributes n) else None) (deep_is 65535 (length waiting))
    ∙ sym (choice_fault (nat_lt (length waiting) 65535) (State.Inside (waiting ++ raw ∷ []) opened) (TooManyAttributes n))

unbalanced_if : ℕ → Bool → Option DocFault
unbalanced_if n v = if v then Some (Unbalanced n) else None

end_later : (n wait : ℕ) (name : List ℕ) (names : List (List ℕ)) (started : Bool) → later_at n names wait started (right_parenthesis ∷ name) ≡ unbalanced_if n (not (is_innermost name names) || false || nat_lt 0 wait || false)
unfolding later_at unbalanced_if
end_later n wait name names started = refl

text_later : (n wait : ℕ) (bytes : List ℕ) (names : List (List ℕ)) (started : Bool) → later_at n names wait started (hyphen ∷ bytes) ≡ unbalanced_if n (not (nat_lt 0 (length names)) || nat_lt 0 wait || false)
unfolding later_at unbalanced_if
text_later n wait bytes names started = refl

closing_later : (n wait : ℕ) (names : List (List ℕ)) (started : Bool) → later_at n names wait started (capital_c ∷ []) ≡ unbalanced_if n (nat_lt 0 wait || nat_lt 0 (length names))
unfolding later_at unbalanced_if
closing_later n wait names started = refl

passed_later : (n wait : ℕ) (names : List (List ℕ)) (started : Bool) (l : List ℕ) → is_passed_by l ≡ true → later_at n names wait started l ≡ None
unfolding later_at
passed_later n wait names started = passed_kind (λ l. later_at n names wait started l ≡ None) (λ rest. refl) (λ rest. refl) (λ rest. refl)

or_true : (b : Bool) → (b || true) ≡ true
or_true true = refl
or_true false = refl

-- where an attribute waits
waits_yet : (n : ℕ) (a : Bool) (raw : List ℕ) (waiting : List (List ℕ)) → unbalanced_if n (a || nat_lt 0 (length (raw ∷ waiting)) || false) ≡ Some (Unbalanced n)
unfolding unbalanced_if
waits_yet n a raw waiting = let some = some_are raw waiting in let all = or_true a in rw some (rw all refl)

ends_fault : (n : ℕ) (waiting : List (List ℕ)) (opened : List OpenElement) (name : List ℕ) → unbalanced_if n (not (is_innermost name (map name_of opened)) || false || nat_lt 0 (length waiting) || false) ≡ fault_in (state_after n (State.Inside waiting opened) (Line.Ends name))
unfolding unbalanced_if
ends_fault n [] [] name = refl
ends_fault n [] (o ∷ around) name = elim (pointwise nat_eq o.name name) as (λ (v : Bool). (if not v || false || false || false then Some (Unbalanced n) else None) ≡ fault_in (if v then Ok (state_with_element (element_of_open o) around) else Err (Unbalanced n))) [ true ↦ refl | false ↦ refl ]
ends_fault n (raw ∷ waiting) opened name = waits_yet n (not (is_innermost name (map name_of opened)) || false) raw waiting

says_fault : (n : ℕ) (waiting : List (List ℕ)) (opened : List OpenElement) (bytes : List ℕ) → unbalanced_if n (not (nat_lt 0 (length (map name_of opened))) || nat_lt 0 (length waiting) || false) ≡ fault_in (state_after n (State.Inside waiting opened) (Line.Says bytes))
unfolding unbalanced_if
says_fault n [] [] bytes = refl
says_fault n [] (o ∷ around) bytes = let some = some_are o.name (map name_of around) in rw some refl
says_fault n (raw ∷ waiting) opened bytes = waits_yet n (not (nat_lt 0 (length (map name_of opened)))) raw waiting

closes_fault : (n : ℕ) (waiting : List (List ℕ)) (opened : List OpenElement) → unbalanced_if n (nat_lt 0 (length waiting) || nat_lt 0 (length (map name_of opened))) ≡ fault_in (state_after n (State.Inside waiting opened) Line.Closes)
unfolding unbalanced_if
closes_fault n [] [] = refl
closes_fault n [] (o ∷ around) = let some = some_are o.name (map name_of around) in rw some refl
closes_fault n (raw ∷ waiting) opened = let some = some_are raw waiting in rw some refl

-- inside elements, or before the root
inside_fault : (n : ℕ) (waiting : List (List ℕ)) (opened : List OpenElement) (l : List ℕ) (x : Line) → LineIs l x → later_at n (map name_of opened) (length waiting) (nat_lt 0 (length opened)) l ≡ fault_in (state_after n (State.Inside waiting opened) x)
unfolding LineIs
inside_fault n waiting opened l (Line.Starts name) is = ap (later_at n (map name_of opened) (length waiting) (nat_lt 0 (length opened))) is.0 ∙ starts_fault n waiting opened name
inside_fault n waiting opened l (Line.Waits raw) is = ap (later_at n (map name_of opened) (length waiting) (nat_lt 0 (length opened))) is.0 ∙ waits_fault n waiting opened raw
inside_fault n waiting opened l (Line.Ends name) is = ap (later_at n (map name_of opened) (length waiting) (nat_lt 0 (length opened))) is.0 ∙ end_later n (length waiting) name (map name_of opened) (nat_lt 0 (length opened)) ∙ ends_fault n waiting opened name
inside_fault n waiting opened l (Line.Says bytes) is = ap (later_at n (map name_of opened) (length waiting) (nat_lt 0 (length opened))) is ∙ text_later n (length waiting) bytes (map name_of opened) (nat_lt 0 (length opened)) ∙ says_fault n waiting opened bytes
inside_fault n waiting opened l Line.PassesBy is = passed_later n (length waiting) (map name_of opened) (nat_lt 0 (length opened)) l is
inside_fault n waiting opened l Line.Closes is = ap (later_at n (map name_of opened) (length waiting) (nat_lt 0 (length opened))) is ∙ closing_later n (length waiting) (map name_of opened) (nat_lt 0 (length opened)) ∙ closes_fault n waiting opened

-- after the root
after_fault : (n : ℕ) (root : Element) (l : List ℕ) (x : Line) → LineIs l x → later_at n [] 0 true l ≡ fault_in (state_after n (State.After root) x)
unfolding LineIs later_at
after_fault n root l (Line.Starts name) is = ap (later_at n [] 0 true) is.0
after_fault n root l (Line.Waits raw) is = ap (later_at n [] 0 true) is.0
after_fault n root l (Line.Ends name) is = ap (later_at n [] 0 true) is.0
after_fault n root l (Line.Says bytes) is = ap (later_at n [] 0 true) is
after_fault n root l Line.PassesBy is = passed_later n 0 [] true l is
after_fault n root l Line.Closes is = ap (later_at n [] 0 true) is

same_place : (n : ℕ) (l : List ℕ) (names other : List (List ℕ)) (wait many : ℕ) (started begun : Bool) → names ≡ other → wait ≡ many → started ≡ begun → later_at n names wait started l ≡ later_at n other many begun l
same_place n l names other wait many started begun a b c =
    ap (λ (k : List (List ℕ)). later_at n k wait started l) a ∙ ap (λ (k : ℕ). later_at n other k started l) b ∙ ap (λ (k : Bool). later_at n other many k l) c

-- A line that has a meaning is refused by the lines before it as by the machine.
later_faults : (n : ℕ) (s : State) (before : List (List ℕ)) (l : List ℕ) (x : Line) → Stands s before → LineIs l x → later_at n (open_names before) (waiting_count before) (has_started before) l ≡ fault_in (state_after n s x)
later_faults n (State.Inside waiting opened) before l x stands is =
    same_place n l (open_names before) (map name_of opened) (waiting_count before) (length waiting) (has_started before) (nat_lt 0 (length opened)) stands.0 stands.1 stands.2
    ∙ inside_fault n waiting opened l x is
later_faults n (State.After root) before l x stands is =
    same_place n l (open_names before) [] (waiting_count before) 0 (has_started before) true stands.0 stands.1 stands.2
    ∙ after_fault n root l x is

-- ---- a line that is taken changes the machine's state as it changes what the lines before it leave

passed_stands : (s : State) (before : List (List ℕ)) (l : List ℕ) → is_passed_by l ≡ true → Stands s before → Stands s (l ∷ before)
passed_stands (State.Inside waiting opened) before l is stands = passed_kind (λ k. Stands (State.Inside waiting opened) (k ∷ before)) (λ rest. stands) (λ rest. stands) (λ rest. stands) l is
passed_stands (State.After root) before l is stands = passed_kind (λ k. Stands (State.After root) (k ∷ before)) (λ rest. stands) (λ rest. stands) (λ rest. stands) l is

closing_stands : (s : State) (before : List (List ℕ)) → Stands s before → Stands s ((capital_c ∷ []) ∷ before)
closing_stands (State.Inside waiting opened) before stands = stands
closing_stands (State.After root) before stands = stands

start_stands : (name : List ℕ) (waiting : List (List ℕ)) (opened : List OpenElement) (before : List (List ℕ)) → Stands (State.Inside waiting opened) before → Stands (State.Inside [] (record { name = name; attributes = waiting; items = [] } ∷ opened)) ((left_parenthesis ∷ name) ∷ before)
start_stands name waiting opened before stands = let o : OpenElement = record { name = name; attributes = waiting; items = [] } in (ap (λ (names : List (List ℕ)). name ∷ names) stands.0, refl, sym (some_are o opened))

attribute_stands : (raw : List ℕ) (waiting : List (List ℕ)) (opened : List OpenElement) (before : List (List ℕ)) → Stands (State.Inside waiting opened) before → Stands (State.Inside (waiting ++ raw ∷ []) opened) ((capital_a ∷ raw) ∷ before)
attribute_stands raw waiting opened before stands = (stands.0, (let long = length-append waiting (raw ∷ []) in let same = stands.1 in omega (arith, long, same)), stands.2)

end_stands : (name : List ℕ) (o : OpenElement) (around : List OpenElement) (before : List (List ℕ)) → Stands (State.Inside [] (o ∷ around)) before → Stands (state_with_element (element_of_open o) around) ((right_parenthesis ∷ name) ∷ before)
end_stands name o [] before stands = (ap without_first stands.0, stands.1, stands.2 ∙ some_are o [])
end_stands name o (p ∷ around) before stands = (ap without_first stands.0, stands.1, stands.2 ∙ some_are o (p ∷ around) ∙ sym (some_are (with_item (Child (element_of_open o)) p) around))

text_stands : (bytes : List ℕ) (o : OpenElement) (around : List OpenElement) (before : List (List ℕ)) → Stands (State.Inside [] (o ∷ around)) before → Stands (State.Inside [] (with_item (Text bytes) o ∷ around)) ((hyphen ∷ bytes) ∷ before)
text_stands bytes o around before stands = (stands.0, stands.1, stands.2 ∙ some_are o around ∙ sym (some_are (with_item (Text bytes) o) around))

-- the state where a choice is good
taken_choice : (P : State → Type 0) (b : Bool) (x next : State) (fault : DocFault) → ◌≡◌ {A = Result State DocFault} (if b then Ok x else Err fault) (Ok next) → P x → P next
taken_choice P b x next fault h p = elim (chosen b (Ok x) (Err fault) (Ok next) h) [
  | inl good ↦ subst P (ok_same x next good.1) p
  | inr bad ↦ not_ok next fault bad.1
]

stands_after : (n : ℕ) (s next : State) (before : List (List ℕ)) (l : List ℕ) (x : Line) → LineIs l x → state_after n s x ≡ Ok next → Stands s before → Stands next (l ∷ before)
unfolding LineIs
stands_after n s next before l Line.PassesBy is took stands = subst (λ (t : State). Stands t (l ∷ before)) (ok_same s next took) (passed_stands s before l is stands)
stands_after n (State.Inside waiting opened) next before l (Line.Starts name) is took stands =
    subst (λ (k : List ℕ). Stands next (k ∷ before)) (sym is.0)
    (taken_choice (λ t. Stands t ((left_parenthesis ∷ name) ∷ before)) (nat_lt (length opened) 255) (State.Inside [] (record { name = name; attributes = waiting; items = [] } ∷ opened)) next (TooDeep n) took (start_stands name waiting opened before stands))
stands_after n (State.Inside waiting opened) next before l (Line.Waits raw) is took stands =
    subst (λ (k : List ℕ). Stands next (k ∷ before)) (sym is.0)
    (taken_choice (λ t. Stands t ((capital_a ∷ raw) ∷ before)) (nat_lt (length waiting) 65535) (State.Inside (waiting ++ raw ∷ []) opened) next (TooManyAttributes n) took (attribute_stands raw waiting opened before stands))
stands_after n (State.Inside [] []) next before l (Line.Ends name) is took stands = not_ok next (Unbalanced n) took
stands_after n (State.Inside [] (o ∷ around)) next before l (Line.Ends name) is took stands =
    subst (λ (k : List ℕ). Stands next (k ∷ before)) (sym is.0)
    (taken_choice (λ t. Stands t ((right_parenthesis ∷ name) ∷ before)) (pointwise nat_eq o.name name) (state_with_element (element_of_open o) around) next (Unbalanced n) took (end_stands name o around before stands))
stands_after n (State.Inside (raw ∷ waiting) opened) next before l (Line.Ends name) is took stands = not_ok next (Unbalanced n) took
stands_after n (State.Inside [] []) next before l (Line.Says bytes) is took stands = not_ok next (Unbalanced n) took
stands_after n (State.Inside [] (o ∷ around)) next before l (Line.Says bytes) is took stands =
    subst (λ (k : List ℕ). Stands next (k ∷ before)) (sym is)
    (subst (λ (t : State). Stands t ((hyphen ∷ bytes) ∷ before)) (ok_same (State.Inside [] (with_item (Text bytes) o ∷ around)) next took) (text_stands bytes o around before stands))
stands_after n (State.Inside (raw ∷ waiting) opened) next before l (Line.Says bytes) is took stands = not_ok next (Unbalanced n) took
stands_after n (State.Inside [] []) next before l Line.Closes is took stands =
    subst (λ (k : List ℕ). Stands next (k ∷ before)) (sym is)
    (subst (λ (t : State). Stands t ((capital_c ∷ []) ∷ before)) (ok_same (State.Inside [] []) next took) (closing_stands (State.Inside [] []) before stands))
stands_after n (State.Inside [] (o ∷ around)) next before l Line.Closes is took stands = not_ok next (Unbalanced n) took
stands_after n (State.Inside (raw ∷ waiting) opened) next before l Line.Closes is took stands = not_ok next (Unbalanced n) took
stands_after n (State.After root) next before l (Line.Starts name) is took stands = not_ok next (SecondRoot n) took
stands_after n (State.After root) next before l (Line.Waits raw) is took stands = not_ok next (SecondRoot n) took
stands_after n (State.After root) next before l (Line.Ends name) is took stands = not_ok next (Unbalanced n) took
stands_after n (State.After root) next before l (Line.Says bytes) is took stands = not_ok next (Unbalanced n) took
stands_after n (State.After root) next before l Line.Closes is took stands =
    subst (λ (k : List ℕ). Stands next (k ∷ before)) (sym is)
    (subst (λ (t : State). Stands t ((capital_c ∷ []) ∷ before)) (ok_same (State.After root) next took) (closing_stands (State.After root) before stands))

-- ---- after the last line

at_end_by : ℕ → Bool → Bool → Bool → Option DocFault
at_end_by n inside wait started = if inside || wait then Some (Unbalanced n) else (if not started then Some NoRoot else None)

end_is : (n : ℕ) (names other : List (List ℕ)) (wait many : ℕ) (started begun : Bool) → names ≡ other → wait ≡ many → started ≡ begun → at_end_by n (nat_lt 0 (length names)) (nat_lt 0 wait) started ≡ at_end_by n (nat_lt 0 (length other)) (nat_lt 0 many) begun
end_is n names other wait many started begun a b c =
    ap (λ (k : List (List ℕ)). at_end_by n (nat_lt 0 (length k)) (nat_lt 0 wait) started) a
    ∙ ap (λ (k : ℕ). at_end_by n (nat_lt 0 (length other)) (nat_lt 0 k) started) b
    ∙ ap (λ (k : Bool). at_end_by n (nat_lt 0 (length other)) (nat_lt 0 many) k) c

inside_end : (n : ℕ) (waiting : List (List ℕ)) (opened : List OpenElement) → at_end_by n (nat_lt 0 (length (map name_of opened))) (nat_lt 0 (length waiting)) (nat_lt 0 (length opened)) ≡ fault_in (document_of_state n (State.Inside waiting opened))
unfolding at_end_by
inside_end n [] [] = refl
inside_end n [] (o ∷ around) = let some = some_are o.name (map name_of around) in rw some refl
inside_end n (raw ∷ waiting) opened = let some = some_are raw waiting in let all = or_true (nat_lt 0 (length (map name_of opened))) in rw some (rw all refl)

end_faults : (s : State) (before : List (List ℕ)) → Stands s before → first_that_fits (causes_at_end before) ≡ fault_in (document_of_state (length before + 1) s)
unfolding at_end_by
end_faults (State.Inside waiting opened) before stands =
    end_is (length before + 1) (open_names before) (map name_of opened) (waiting_count before) (length waiting) (has_started before) (nat_lt 0 (length opened)) stands.0 stands.1 stands.2
    ∙ inside_end (length before + 1) waiting opened
end_faults (State.After root) before stands = end_is (length before + 1) (open_names before) [] (waiting_count before) 0 (has_started before) true stands.0 stands.1 stands.2

-- ---- all lines

-- the first refusal of these lines after those before them
abbrev pub first_refusal : List (List ℕ) → List (List ℕ) → Option DocFault
first_refusal before [] = first_that_fits (causes_at_end before)
first_refusal before (l ∷ ls) = or_else (refusal before l) (first_refusal (l ∷ before) ls)

Refuses : List (List ℕ) → Type 0
Refuses ls = (before : List (List ℕ)) (closed : Bool) (s : State) → Stands s before → list_any is_closing before ≡ closed → first_refusal before ls ≡ fault_in (run (length before + 1) closed ls s)

closed_on : (l : List ℕ) (before : List (List ℕ)) → list_any is_closing before ≡ false → list_any is_closing (l ∷ before) ≡ is_closing l
closed_on l before none = elim (is_closing l) as (λ (v : Bool). (v || list_any is_closing before) ≡ v) [ true ↦ refl | false ↦ none ]

refused_state : (l : List ℕ) (ls before : List (List ℕ)) (s : State) (x : Line) (r : Result State DocFault) → Refuses ls → Stands s before → list_any is_closing before ≡ false → LineIs l x → state_after (length before + 1) s x ≡ r
    → or_else (fault_in r) (first_refusal (l ∷ before) ls) ≡ fault_in (answer_from_step r (run (length before + 1 + 1) (is_closing l) ls))
unfolding Refuses
refused_state l ls before s x (Err fault) on stands yet is took = refl
refused_state l ls before s x (Ok next) on stands yet is took =
    let count : length (l ∷ before) + 1 ≡ length before + 1 + 1 = omega arith in
    on (l ∷ before) (is_closing l) next (stands_after (length before + 1) s next before l x is took stands) (closed_on l before yet)
    ∙ ap (λ (n : ℕ). fault_in (run n (is_closing l) ls next)) count

refused_line : (l : List ℕ) (ls before : List (List ℕ)) (s : State) (r : Result Line DocFault) → Refuses ls → Stands s before → list_any is_closing before ≡ false → line_of (length before + 1) l ≡ r
    → or_else (or_else (fault_in r) (later_at (length before + 1) (open_names before) (waiting_count before) (has_started before) l)) (first_refusal (l ∷ before) ls)
    ≡ fault_in (answer_from_step (state_after_line (length before + 1) s r) (run (length before + 1 + 1) (is_closing l) ls))
refused_line l ls before s (Err fault) on stands yet is = refl
refused_line l ls before s (Ok x) on stands yet is =
    let form : LineIs l x = line_is (length before + 1) l x is in
    ap (λ (o : Option DocFault). or_else o (first_refusal (l ∷ before) ls)) (later_faults (length before + 1) s before l x stands form)
    ∙ refused_state l ls before s x (state_after (length before + 1) s x) on stands yet form refl

refused_on : (l : List ℕ) (ls before : List (List ℕ)) (closed : Bool) (s : State) → Refuses ls → Stands s before → list_any is_closing before ≡ closed → first_refusal before (l ∷ ls) ≡ fault_in (run (length before + 1) closed (l ∷ ls) s)
refused_on l ls before true s on stands is = rw is refl
refused_on l ls before false s on stands is =
    ap (λ (o : Option DocFault). or_else o (first_refusal (l ∷ before) ls))
    (refusal_is before l is ∙ ap (λ (o : Option DocFault). or_else o (later_at (length before + 1) (open_names before) (waiting_count before) (has_started before) l)) (sym (own_faults (length before + 1) l)))
    ∙ refused_line l ls before s (line_of (length before + 1) l) on stands is refl

refuses : (ls : List (List ℕ)) → Refuses ls
unfolding Refuses
refuses [] before closed s stands is = end_faults s before stands
refuses (l ∷ ls) before closed s stands is = refused_on l ls before closed s (refuses ls) stands is

-- The first refusal by the table is the machine's.
pub refuses_first : (ls : List (List ℕ)) → first_refusal [] ls ≡ fault_in (run 1 false ls (State.Inside [] []))
unfolding Refuses
refuses_first ls = refuses ls [] false (State.Inside [] []) (refl, refl, refl) refl
