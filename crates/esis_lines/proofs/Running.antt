-- One line more: how the answer to what is left follows from the step.
use Rattle.std.proofs.Common.{◌≡◌, ℕ, ◌+◌, Bool, true, false, Result, Ok, Err, List, [], ◌∷◌, length, nat_eq, nat_lt, refl, sym, ap, ◌∙◌, if◌then◌else◌}
use Rattle.std.specs.Cmp.Lexicographic.{pointwise}
use Rattle.acl_model.specs.declared.document.Doc.{Doc}
use Rattle.esis_lines.specs.declared.doc_fault.DocFault.{DocFault}
use Rattle.esis_lines.specs.declared.doc_fault.DocFault.TheVariants.{Unbalanced, TooDeep, TooManyAttributes}
use Rattle.esis_lines.specs.LineForms.{is_closing}
use Rattle.esis_lines.specs.LineMachine.{State, Line, line_of, run, state_after, state_after_line, answer_from_step, says_closing}
use Rattle.esis_lines.proofs.LineReadings.{not_ok, closing_is, line_is, line_said}

-- the run over a line that says something, from the state that it leaves
on_said : (number : ℕ) (l : List ℕ) (ls : List (List ℕ)) (s : State) (r : Result State DocFault) → state_after_line number s (line_of number l) ≡ r → run number false (l ∷ ls) s ≡ answer_from_step r (run (number + 1) (is_closing l) ls)
on_said number l ls s r is = ap (λ (q : Result State DocFault). answer_from_step q (run (number + 1) (is_closing l) ls)) is

-- A line is taken.
pub run_taken : (number : ℕ) (l : List ℕ) (ls : List (List ℕ)) (s next : State) (x : Line) → line_of number l ≡ Ok x → state_after number s x ≡ Ok next → run number false (l ∷ ls) s ≡ run (number + 1) (says_closing x) ls next
run_taken number l ls s next x said took =
    on_said number l ls s (Ok next) (ap (state_after_line number s) said ∙ took)
    ∙ ap (λ (c : Bool). run (number + 1) c ls next) (closing_is number l x said)

-- ---- the number of a line changes no state

same_choice : (b : Bool) (x next : State) (e f : DocFault) → ◌≡◌ {A = Result State DocFault} (if b then Ok x else Err e) (Ok next) → ◌≡◌ {A = Result State DocFault} (if b then Ok x else Err f) (Ok next)
same_choice true x next e f h = h
same_choice false x next e f h = cc

state_after-number : (n m : ℕ) (s next : State) (x : Line) → state_after n s x ≡ Ok next → state_after m s x ≡ Ok next
state_after-number n m (State.Inside waiting opened) next (Line.Starts name) h = same_choice (nat_lt (length opened) 255) _ next (TooDeep n) (TooDeep m) h
state_after-number n m (State.Inside [] []) next (Line.Ends name) h = cc
state_after-number n m (State.Inside [] (o ∷ around)) next (Line.Ends name) h = same_choice (pointwise nat_eq o.name name) _ next (Unbalanced n) (Unbalanced m) h
state_after-number n m (State.Inside (raw ∷ waiting) opened) next (Line.Ends name) h = cc
state_after-number n m (State.Inside [] []) next (Line.Says bytes) h = cc
state_after-number n m (State.Inside [] (o ∷ around)) next (Line.Says bytes) h = h
state_after-number n m (State.Inside (raw ∷ waiting) opened) next (Line.Says bytes) h = cc
state_after-number n m (State.Inside waiting opened) next (Line.Waits raw) h = same_choice (nat_lt (length waiting) 65535) _ next (TooManyAttributes n) (TooManyAttributes m) h
state_after-number n m (State.Inside waiting opened) next Line.PassesBy h = h
state_after-number n m (State.Inside [] []) next Line.Closes h = h
state_after-number n m (State.Inside [] (o ∷ around)) next Line.Closes h = cc
state_after-number n m (State.Inside (raw ∷ waiting) opened) next Line.Closes h = cc
state_after-number n m (State.After root) next (Line.Starts name) h = cc
state_after-number n m (State.After root) next (Line.Ends name) h = cc
state_after-number n m (State.After root) next (Line.Says bytes) h = cc
state_after-number n m (State.After root) next (Line.Waits raw) h = cc
state_after-number n m (State.After root) next Line.PassesBy h = h
state_after-number n m (State.After root) next Line.Closes h = h

-- ---- what a run that gives a document does with its first line

-- the line says something, and leads to a state from which the others give the document
pub record Goes (number : ℕ) (l : List ℕ) (ls : List (List ℕ)) (s : State) (d : Doc) : Type 0 where
  pub said : Line
  pub next : State
  pub is : line_of number l ≡ Ok said
  pub took : state_after number s said ≡ Ok next
  pub on : run (number + 1) (says_closing said) ls next ≡ Ok d

goes_took : (number : ℕ) (l : List ℕ) (ls : List (List ℕ)) (s : State) (d : Doc) (x : Line) (r : Result State DocFault) → line_of number l ≡ Ok x → state_after number s x ≡ r
    → answer_from_step r (run (number + 1) (says_closing x) ls) ≡ Ok d → Goes number l ls s d
goes_took number l ls s d x (Ok next) is took h = record { said = x; next = next; is = is; took = took; on = h }
goes_took number l ls s d x (Err fault) is took h = not_ok d fault h

goes_said : (number : ℕ) (l : List ℕ) (ls : List (List ℕ)) (s : State) (d : Doc) (r : Result Line DocFault) → line_of number l ≡ r
    → answer_from_step (state_after_line number s r) (run (number + 1) (is_closing l) ls) ≡ Ok d → Goes number l ls s d
goes_said number l ls s d (Ok x) is h = goes_took number l ls s d x (state_after number s x) is refl
    (ap (λ (c : Bool). answer_from_step (state_after number s x) (run (number + 1) c ls)) (sym (closing_is number l x is)) ∙ h)
goes_said number l ls s d (Err fault) is h = not_ok d fault h

pub goes : (number : ℕ) (l : List ℕ) (ls : List (List ℕ)) (s : State) (d : Doc) → run number false (l ∷ ls) s ≡ Ok d → Goes number l ls s d
goes number l ls s d h = goes_said number l ls s d (line_of number l) refl h

-- Such a line, under any other number, leads to the same state.
pub goes_again : (number m : ℕ) (l : List ℕ) (ls more : List (List ℕ)) (s : State) (d : Doc) (g : Goes number l ls s d) → run m false (l ∷ more) s ≡ run (m + 1) (says_closing g.said) more g.next
goes_again number m l ls more s d g = run_taken m l more s g.next g.said (line_said m l g.said (line_is number l g.said g.is)) (state_after-number number m s g.next g.said g.took)
