-- The first refusal, one line after another, is that of the definition on all lines.
use Rattle.std.proofs.Common.{◌≡◌, ℕ, Bool, true, false, Option, Some, None, Result, Ok, Err, List, [], ◌∷◌, ◌++◌, reverse, if◌then◌else◌, refl, sym, ap, subst, ◌∙◌, inl, inr, append_assoc, append-nil}
use Rattle.std.specs.Cmp.{first_so, second_so}
use Rattle.std.specs.List.{list_all}
use Rattle.std.proofs.lemmas.Grind.{reverse_onto}
use Rattle.std.proofs.lemmas.List.{reverse-reverse}
use Rattle.acl_model.specs.Lines.{lines}
use Rattle.acl_model.specs.declared.document.Doc.{Doc}
use Rattle.esis_lines.specs.declared.doc_fault.DocFault.{DocFault}
use Rattle.esis_lines.specs.DocumentText.{IsDocumentText}
use Rattle.esis_lines.specs.LineMachine.{read_doc_of}
use Rattle.esis_lines.specs.LineRefusals.{AreTaken, IsRefused, refusal, first_that_fits, causes, causes_at_end, is_of_lines}
use Rattle.esis_lines.proofs.OwnFaults.{fault_in}
use Rattle.esis_lines.proofs.Refusing.{first_refusal, or_else, refuses_first}
use Rattle.esis_lines.proofs.Dropping.{read_document}

some_same : {A : Type 0} (x y : A) → Some x ≡ Some y → x ≡ y
some_same x y h = cc

-- one line more before others
turned : (l : List ℕ) (before rest : List (List ℕ)) → reverse (l ∷ before) ++ rest ≡ reverse before ++ (l ∷ rest)
turned l before rest = ap (λ (ls : List (List ℕ)). ls ++ rest) (reverse_onto before l []) ∙ append_assoc (reverse before) (l ∷ []) rest

-- After lines that are taken the first refusal is that of the others.
after_taken : (before rest : List (List ℕ)) → AreTaken before → first_refusal [] (reverse before ++ rest) ≡ first_refusal before rest
after_taken [] rest taken = refl
after_taken (l ∷ before) rest taken =
    ap (first_refusal []) (turned l before rest)
    ∙ after_taken before (l ∷ rest) taken.1
    ∙ ap (λ (o : Option DocFault). or_else o (first_refusal (l ∷ before) rest)) taken.0

pub refused_first : (fault : DocFault) (ls : List (List ℕ)) → IsRefused fault ls → first_refusal [] ls ≡ Some fault
refused_first fault ls is = elim is [
  | inl r ↦
      ap (first_refusal []) r.3
      ∙ after_taken r.0 (r.1 ∷ r.2) r.4
      ∙ ap (λ (o : Option DocFault). or_else o (first_refusal (r.1 ∷ r.0) r.2)) r.5
  | inr r ↦
      ap (first_refusal []) (sym (append-nil (reverse (reverse ls)) ∙ reverse-reverse ls))
      ∙ after_taken (reverse ls) [] r.0
      ∙ r.1
]

refused_here : (fault : DocFault) (before : List (List ℕ)) (l : List ℕ) (ls : List (List ℕ)) (o : Option DocFault) → refusal before l ≡ o → AreTaken before
    → (refusal before l ≡ None → first_refusal (l ∷ before) ls ≡ Some fault → IsRefused fault (reverse (l ∷ before) ++ ls))
    → or_else o (first_refusal (l ∷ before) ls) ≡ Some fault → IsRefused fault (reverse before ++ (l ∷ ls))
refused_here fault before l ls (Some own) is taken on h = inl (before, l, ls, refl, taken, is ∙ h)
refused_here fault before l ls None is taken on h = subst (IsRefused fault) (turned l before ls) (on is h)

refused_by : (ls : List (List ℕ)) (fault : DocFault) (before : List (List ℕ)) → AreTaken before → first_refusal before ls ≡ Some fault → IsRefused fault (reverse before ++ ls)
refused_by [] fault before taken h =
    let all : before ≡ reverse (reverse before ++ []) = sym (ap reverse (append-nil (reverse before)) ∙ reverse-reverse before) in
    inr (subst AreTaken all taken, subst (λ (bs : List (List ℕ)). first_that_fits (causes_at_end bs) ≡ Some fault) all h)
refused_by (l ∷ ls) fault before taken h =
    refused_here fault before l ls (refusal before l) refl taken (λ is more. refused_by ls fault (l ∷ before) (is, taken) more) h

fault_same : (r : Result Doc DocFault) (fault : DocFault) → fault_in r ≡ Some fault → r ≡ Err fault
fault_same (Ok d) fault h = cc
fault_same (Err own) fault h = let wrap : DocFault → Result Doc DocFault = λ f. Err f in ap wrap (some_same own fault h)

-- What is refused by the machine is refused by that answer.
pub machine_refuses : (bytes : List ℕ) (fault : DocFault) → read_doc_of bytes ≡ Err fault → IsRefused fault (lines bytes)
machine_refuses bytes fault h = refused_by (lines bytes) fault [] tt (refuses_first (lines bytes) ∙ ap (fault_in {A = Doc}) h)

-- What is to be refused is refused by the machine.
pub refused_by_machine : (bytes : List ℕ) (fault : DocFault) → IsRefused fault (lines bytes) → read_doc_of bytes ≡ Err fault
refused_by_machine bytes fault is = fault_same (read_doc_of bytes) fault (sym (refuses_first (lines bytes)) ∙ refused_first fault (lines bytes) is)

-- What is refused is no document's text.
pub refused_alone : (d : Doc) (bytes : List ℕ) (fault : DocFault) → IsRefused fault (lines bytes) → IsDocumentText d bytes → ⊥
refused_alone d bytes fault is document = let r = refused_by_machine bytes fault is in let e = read_document d bytes document in cc

-- ---- the answers that the table has

rows_of_lines : (rows : List (Bool × DocFault)) (fault : DocFault) → list_all (λ (row : Bool × DocFault). is_of_lines row.1) rows ≡ true → first_that_fits rows ≡ Some fault → is_of_lines fault ≡ true
rows_of_lines [] fault all h = cc
rows_of_lines (row ∷ rows) fault all h = elim (row.0) as (λ (v : Bool). (if v then Some row.1 else first_that_fits rows) ≡ Some fault → is_of_lines fault ≡ true) [
  | true ↦ λ here. subst (λ (f : DocFault). is_of_lines f ≡ true) (some_same row.1 fault here) (first_so (is_of_lines row.1) (list_all (λ (row : Bool × DocFault). is_of_lines row.1) rows) all)
  | false ↦ λ later. rows_of_lines rows fault (second_so (is_of_lines row.1) (list_all (λ (row : Bool × DocFault). is_of_lines row.1) rows) all) later
] h

refused_of_lines : (fault : DocFault) (ls : List (List ℕ)) → IsRefused fault ls → is_of_lines fault ≡ true
refused_of_lines fault ls is = elim is [
  | inl r ↦ rows_of_lines (causes r.0 r.1) fault refl r.5
  | inr r ↦ rows_of_lines (causes_at_end (reverse ls)) fault refl r.1
]

-- The machine refuses by answers about lines alone.
pub refuses_lines : (bytes : List ℕ) (fault : DocFault) → read_doc_of bytes ≡ Err fault → is_of_lines fault ≡ true
refuses_lines bytes fault h = refused_of_lines fault (lines bytes) (machine_refuses bytes fault h)
