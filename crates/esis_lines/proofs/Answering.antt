-- From what was taken of a source to what is answered.
use Rattle.std.proofs.Common.{◌≡◌, ℕ, ◌+◌, ◌≤◌, Bool, true, false, Option, Some, None, Result, Ok, Err, List, [], ◌++◌, length, drop, refl, sym, ap, subst, ◌∙◌, arith, append-nil, IfSome, IfOk}
use Rattle.std.proofs.lemmas.Bool.{true≢false}
use Rattle.std.proofs.lemmas.Grind.{common_steps}
use Rattle.std.specs.Io.KnownBytes.{Consumes, IsAtEnd}
use Rattle.acl_model.specs.Ascii.{are_bytes}
use Rattle.acl_model.specs.Document.{is_document}
use Rattle.acl_model.specs.declared.document.Doc.{Doc}
use Rattle.acl_outside.specs.Outside.{CountsWhere}
use Rattle.esis_lines.specs.declared.doc_fault.DocFault.{DocFault}
use Rattle.esis_lines.specs.declared.doc_fault.DocFault.TheVariants.{BadLine, Unsupported, Unbalanced, NoRoot, SecondRoot, TooDeep, NameTooLong, InputTooLong, SourceFault, TooManyAttributes, NoMemory}
use Rattle.esis_lines.specs.LineMachine.{read_doc_of}
use Rattle.esis_lines.specs.DocumentAnswers.{ButForMemory, IfAboutBytes, IsTrueAnswer, TakesUpTo, is_source_fault}
use Rattle.esis_lines.specs.LineRefusals.{is_of_lines}
use Rattle.esis_lines.proofs.FirstRefused.{machine_refuses, refuses_lines}
use Rattle.esis_lines.proofs.Taken.{document_read}

-- The machine never says this.
not_of_lines : {A : Type 0} (bytes : List ℕ) (fault : DocFault) → is_of_lines fault ≡ false → ◌≡◌ {A = Result Doc DocFault} (Err fault) (read_doc_of bytes) → A
not_of_lines bytes fault is h = absurd (true≢false (sym (refuses_lines bytes fault (sym h)) ∙ is))

true_answer : (r : Result Doc DocFault) (most : ℕ) (bytes : List ℕ) → are_bytes bytes ≡ true → ButForMemory r (read_doc_of bytes) → IsTrueAnswer r most bytes
true_answer (Ok d) most bytes are h = document_read d bytes are (sym h)
true_answer (Err (BadLine line)) most bytes are h = machine_refuses bytes (BadLine line) (sym h)
true_answer (Err (Unsupported line kind)) most bytes are h = machine_refuses bytes (Unsupported line kind) (sym h)
true_answer (Err (Unbalanced line)) most bytes are h = machine_refuses bytes (Unbalanced line) (sym h)
true_answer (Err NoRoot) most bytes are h = machine_refuses bytes NoRoot (sym h)
true_answer (Err (SecondRoot line)) most bytes are h = machine_refuses bytes (SecondRoot line) (sym h)
true_answer (Err (TooDeep line)) most bytes are h = machine_refuses bytes (TooDeep line) (sym h)
true_answer (Err (NameTooLong line)) most bytes are h = machine_refuses bytes (NameTooLong line) (sym h)
true_answer (Err (InputTooLong limit)) most bytes are h = not_of_lines bytes (InputTooLong limit) refl h
true_answer (Err SourceFault) most bytes are h = tt
true_answer (Err (TooManyAttributes line)) most bytes are h = machine_refuses bytes (TooManyAttributes line) (sym h)
true_answer (Err NoMemory) most bytes are h = tt

-- the bytes of a source that was read to its end
pub whole_answer : (old new : Option (List ℕ)) (bytes : List ℕ) (r : Result Doc DocFault) (most : ℕ) → Consumes old new bytes → IsAtEnd new → are_bytes bytes ≡ true → ButForMemory r (read_doc_of bytes) → IfSome old (λ bs. IsTrueAnswer r most bs)
whole_answer None new bytes r most took ended are h = tt
whole_answer (Some all) None bytes r most took ended are h = absurd took
whole_answer (Some all) (Some left) bytes r most took ended are h =
    let same : bytes ≡ all = sym (took ∙ ap (λ bs. bytes ++ bs) ended ∙ append-nil bytes) in
    subst (λ (bs : List ℕ). IsTrueAnswer r most bs) same (true_answer r most bytes are h)

-- what is read of bytes is a document
pub whole_form : (r : Result Doc DocFault) (bytes : List ℕ) → are_bytes bytes ≡ true → ButForMemory r (read_doc_of bytes) → IfOk r (λ d. is_document d ≡ true)
whole_form (Ok d) bytes are h = (document_read d bytes are (sym h)).0
whole_form (Err fault) bytes are h = tt

no_source_fault : (r : Result Doc DocFault) (bytes : List ℕ) → ButForMemory r (read_doc_of bytes) → is_source_fault r ≡ false
no_source_fault (Ok d) bytes h = refl
no_source_fault (Err (BadLine line)) bytes h = refl
no_source_fault (Err (Unsupported line kind)) bytes h = refl
no_source_fault (Err (Unbalanced line)) bytes h = refl
no_source_fault (Err NoRoot) bytes h = refl
no_source_fault (Err (SecondRoot line)) bytes h = refl
no_source_fault (Err (TooDeep line)) bytes h = refl
no_source_fault (Err (NameTooLong line)) bytes h = refl
no_source_fault (Err (InputTooLong limit)) bytes h = refl
no_source_fault (Err SourceFault) bytes h = not_of_lines bytes SourceFault refl h
no_source_fault (Err (TooManyAttributes line)) bytes h = refl
no_source_fault (Err NoMemory) bytes h = refl

-- and its count, where the bytes are answered
pub whole_count : (r : Result Doc DocFault) (bytes : List ℕ) (old new : ℕ) → ButForMemory r (read_doc_of bytes) → CountsWhere false old new → CountsWhere (is_source_fault r) old new
whole_count r bytes old new h quiet = subst (λ (b : Bool). CountsWhere b old new) (sym (no_source_fault r bytes h)) quiet

drop_past : (n : ℕ) (bs : List ℕ) → length bs ≤ n → drop n bs ≡ []
drop_past n bs h = grind (arith, common_steps)

if_about_bytes : (r : Result Doc DocFault) (fact : Type 0) → fact → IfAboutBytes r fact
if_about_bytes (Ok d) fact h = h
if_about_bytes (Err (BadLine line)) fact h = h
if_about_bytes (Err (Unsupported line kind)) fact h = h
if_about_bytes (Err (Unbalanced line)) fact h = h
if_about_bytes (Err NoRoot) fact h = h
if_about_bytes (Err (SecondRoot line)) fact h = h
if_about_bytes (Err (TooDeep line)) fact h = h
if_about_bytes (Err (NameTooLong line)) fact h = h
if_about_bytes (Err (InputTooLong limit)) fact h = h
if_about_bytes (Err SourceFault) fact h = tt
if_about_bytes (Err (TooManyAttributes line)) fact h = h
if_about_bytes (Err NoMemory) fact h = tt

takes_all : (old new : Option (List ℕ)) (bytes : List ℕ) (most : ℕ) → Consumes old new bytes → IsAtEnd new → length bytes ≤ most → TakesUpTo (most + 1) old new
takes_all None new bytes most took ended fits = tt
takes_all (Some all) None bytes most took ended fits = absurd took
takes_all (Some all) (Some left) bytes most took ended fits =
    let same : bytes ≡ all = sym (took ∙ ap (λ bs. bytes ++ bs) ended ∙ append-nil bytes) in
    ended ∙ sym (drop_past (most + 1) all (let e = ap (length {A = ℕ}) same in omega (arith, e, fits)))

pub whole_taken : (r : Result Doc DocFault) (old new : Option (List ℕ)) (bytes : List ℕ) (most : ℕ) → Consumes old new bytes → IsAtEnd new → length bytes ≤ most → IfAboutBytes r (TakesUpTo (most + 1) old new)
whole_taken r old new bytes most took ended fits = if_about_bytes r (TakesUpTo (most + 1) old new) (takes_all old new bytes most took ended fits)
