-- Lines that are of no document change nothing, wherever they are.
use Rattle.std.proofs.Common.{◌≡◌, ℕ, ◌+◌, Bool, true, false, not, Ok, List, [], ◌∷◌, length, nat_eq, refl, sym, ap, ◌∙◌, arith}
use Rattle.std.proofs.lemmas.Bool.{and_from, true≢false}
use Rattle.std.specs.Cmp.{first_so, second_so}
use Rattle.std.specs.List.{list_all}
use borrow.Author.Tests.{eqb-true}
use Rattle.acl_model.specs.Lines.{lines}
use Rattle.acl_model.specs.Text.{text}
use Rattle.acl_model.specs.declared.document.Doc.{Doc}
use Rattle.esis_lines.specs.declared.doc_fault.DocFault.TheVariants.{BadLine, NoRoot, Unbalanced}
use Rattle.esis_lines.specs.DocumentText.{IsDocumentText, document_lines}
use Rattle.esis_lines.specs.LineForms.{capital_c, is_closing, is_passed_by}
use Rattle.esis_lines.specs.LineMachine.{Line, State, run, says_closing, document_of_state, read_doc_of}
use Rattle.esis_lines.proofs.Kept.{is_kept, kept_closing, document_lines-passed, document_lines-kept, document_lines-within, document_lines-closing}
use Rattle.esis_lines.proofs.LineReadings.{LineIs, line_said, closing_is, ok_same, not_ok}
use Rattle.esis_lines.proofs.Running.{run_taken, goes, goes_again}
use Rattle.esis_lines.proofs.Passing.{text_reads}

-- The document at the end has no number.
end_number : (n m : ℕ) (s : State) (d : Doc) → document_of_state n s ≡ Ok d → document_of_state m s ≡ Ok d
end_number n m (State.Inside [] []) d h = not_ok d NoRoot h
end_number n m (State.Inside [] (o ∷ around)) d h = not_ok d (Unbalanced n) h
end_number n m (State.Inside (raw ∷ waiting) opened) d h = not_ok d (Unbalanced n) h
end_number n m (State.After root) d h = h

-- A document is read whatever number the first line has.
pub run_number : (ls : List (List ℕ)) (n m : ℕ) (closed : Bool) (s : State) (d : Doc) → run n closed ls s ≡ Ok d → run m closed ls s ≡ Ok d
run_number [] n m closed s d h = end_number n m s d h
run_number (l ∷ ls) n m true s d h = not_ok d (BadLine n) h
run_number (l ∷ ls) n m false s d h =
    let g = goes n l ls s d h in
    goes_again n m l ls ls s d g ∙ run_number ls (n + 1) (m + 1) (says_closing g.said) g.next d g.on

-- a line that is passed by
pub run_passed : (number : ℕ) (l : List ℕ) (ls : List (List ℕ)) (s : State) → is_passed_by l ≡ true → run number false (l ∷ ls) s ≡ run (number + 1) false ls s
unfolding LineIs
run_passed number l ls s is = run_taken number l ls s s Line.PassesBy (line_said number l Line.PassesBy is) refl

empty_is : (bytes : List ℕ) → nat_eq (length bytes) 0 ≡ true → bytes ≡ []
empty_is [] h = refl
empty_is (b ∷ bytes) h = absurd (let is = eqb-true (length (b ∷ bytes)) 0 h in omega arith)

-- The closing line is 'C' alone.
pub closing_alone : (l : List ℕ) → is_closing l ≡ true → l ≡ capital_c ∷ []
closing_alone [] h = cc
closing_alone (kind ∷ rest) h =
    let first : kind ≡ capital_c = eqb-true kind capital_c (first_so (nat_eq kind capital_c) (nat_eq (length rest) 0) h) in
    let none : rest ≡ [] = empty_is rest (second_so (nat_eq kind capital_c) (nat_eq (length rest) 0) h) in
    ap (λ (k : ℕ). k ∷ rest) first ∙ ap (λ (bs : List ℕ). capital_c ∷ bs) none

-- the closing line at the end
run_closing : (number n : ℕ) (l : List ℕ) (s : State) (d : Doc) → is_closing l ≡ true → document_of_state n s ≡ Ok d → run number false (l ∷ []) s ≡ Ok d
unfolding LineIs
run_closing number n l (State.Inside [] []) d is h = not_ok d NoRoot h
run_closing number n l (State.Inside [] (o ∷ around)) d is h = not_ok d (Unbalanced n) h
run_closing number n l (State.Inside (raw ∷ waiting) opened) d is h = not_ok d (Unbalanced n) h
run_closing number n l (State.After root) d is h = run_taken number l [] (State.After root) (State.After root) Line.Closes (line_said number l Line.Closes (closing_alone l is)) refl ∙ h

-- a closing line is no kept one within others
closing_within : {A : Type 0} (l m : List ℕ) (ls : List (List ℕ)) → is_passed_by l ≡ false → is_closing l ≡ true → list_all is_kept (document_lines (l ∷ m ∷ ls)) ≡ true → A
closing_within l m ls part closing kept =
    let all : list_all is_kept (l ∷ document_lines (m ∷ ls)) ≡ true = sym (ap (list_all is_kept) (document_lines-within l m ls part)) ∙ kept in
    absurd (true≢false (sym closing ∙ kept_closing l (first_so (is_kept l) (list_all is_kept (document_lines (m ∷ ls))) all)))

last_closing : (n m : ℕ) (l : List ℕ) (ls : List (List ℕ)) (s : State) (d : Doc) → is_passed_by l ≡ false → is_closing l ≡ true → list_all is_kept (document_lines (l ∷ ls)) ≡ true → run n false (document_lines (l ∷ ls)) s ≡ Ok d → run m false (l ∷ ls) s ≡ Ok d
last_closing n m l [] s d part closing kept h = run_closing m n l s d closing (sym (ap (λ (ls : List (List ℕ)). run n false ls s) (document_lines-closing l closing)) ∙ h)
last_closing n m l (k ∷ ks) s d part closing kept h = closing_within l k ks part closing kept

-- What is read of the lines that are of a document is read of all.
pub dropped : (ls : List (List ℕ)) (n m : ℕ) (s : State) (d : Doc) → list_all is_kept (document_lines ls) ≡ true → run n false (document_lines ls) s ≡ Ok d → run m false ls s ≡ Ok d
dropped [] n m s d kept h = run_number [] n m false s d h
dropped (l ∷ ls) n m s d kept h = elim (is_passed_by l) as (λ (v : Bool). is_passed_by l ≡ v → run m false (l ∷ ls) s ≡ Ok d) [
  | true ↦ λ passed.
      let same = document_lines-passed l ls passed in
      run_passed m l ls s passed ∙ dropped ls n (m + 1) s d (sym (ap (list_all is_kept) same) ∙ kept) (sym (ap (λ (k : List (List ℕ)). run n false k s) same) ∙ h)
  | false ↦ λ part. elim (is_closing l) as (λ (v : Bool). is_closing l ≡ v → run m false (l ∷ ls) s ≡ Ok d) [
    | true ↦ λ closing. last_closing n m l ls s d part closing kept h
    | false ↦ λ other.
        let own : is_kept l ≡ true = and_from (not (is_passed_by l)) (not (is_closing l)) (ap not part) (ap not other) in
        let same = document_lines-kept l ls own in
        let g = goes n l (document_lines ls) s d (sym (ap (λ (k : List (List ℕ)). run n false k s) same) ∙ h) in
        let yet : says_closing g.said ≡ false = sym (closing_is n l g.said g.is) ∙ other in
        goes_again n m l (document_lines ls) ls s d g
        ∙ ap (λ (c : Bool). run (m + 1) c ls g.next) yet
        ∙ dropped ls (n + 1) (m + 1) g.next d
        (second_so (is_kept l) (list_all is_kept (document_lines ls)) (sym (ap (list_all is_kept) same) ∙ kept))
        (sym (ap (λ (c : Bool). run (n + 1) c (document_lines ls) g.next) yet) ∙ g.on)
  ] refl
] refl

-- What is a document's text is read as that document.
pub read_document : (d : Doc) (bytes : List ℕ) → IsDocumentText d bytes → read_doc_of bytes ≡ Ok d
read_document d bytes is =
    let r = text_reads d is.0 in
    dropped (lines bytes) 1 1 (State.Inside [] []) d (ap (list_all is_kept) is.1 ∙ r.kept) (ap (λ (ls : List (List ℕ)). run 1 false ls (State.Inside [] [])) is.1 ∙ r.run_is 1)

-- And so the lines that are of a document are those of one document.
pub one_document : (d e : Doc) (a b : List ℕ) → IsDocumentText d a → IsDocumentText e b → document_lines (lines a) ≡ document_lines (lines b) → d ≡ e
one_document d e a b p q same =
    let first = text_reads d p.0 in
    let second = text_reads e q.0 in
    let lines_same : lines (text d) ≡ lines (text e) = sym p.1 ∙ same ∙ q.1 in
    ok_same d e (sym (first.run_is 1) ∙ ap (λ (ls : List (List ℕ)). run 1 false ls (State.Inside [] [])) lines_same ∙ second.run_is 1)
