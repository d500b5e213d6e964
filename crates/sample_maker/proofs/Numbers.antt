-- The numbers of the sample line are the counts of items.
use Rattle.std.proofs.Common.{◌≡◌, ℕ, ◌≤◌, ◌<◌, ◌^◌, true, Some, None, List, [], ◌∷◌, length, ap, sym, subst, ◌∙◌, arith}
use Rattle.acl_model.specs.Document.{is_document}
use Rattle.acl_model.specs.Lines.{lines}
use Rattle.acl_model.specs.Text.{text_of_view}
use Rattle.acl_model.specs.View.{view}
use Rattle.acl_model.proofs.NameForms.{document_form}
use Rattle.acl_model.proofs.ViewForms.{view_form}
use Rattle.acl_model.specs.declared.document.Doc.{Doc}
use Rattle.sample_maker.specs.Sample.{sample_rule, element_number, line_number, view_line_number, line_of_numbers, sample_line}
use Rattle.sample_maker.specs.inside.Counts.{element_count, line_count}
use Rattle.sample_maker.proofs.LineCounts.{lines_of_document, lines_of_view_document, places_of_document}
use Rattle.sample_maker.specs.Hospital.{hospital}
use Rattle.sample_maker.proofs.HospitalForm.{hospital_is_document, hospital_elements, hospital_lines}
use Rattle.sample_maker.proofs.ViewCounts.{view_has_no_more_lines}

-- the number of elements of a document
pub element_number_is : (d : Doc) → element_number d ≡ element_count d.root
unfolding element_number
element_number_is d = places_of_document d

-- the number of lines of a document
pub line_number_is : (d : Doc) → is_document d ≡ true → line_number d ≡ line_count d.root
unfolding line_number
line_number_is d good = lines_of_document d good

-- the number of lines of a view that shows something
pub view_line_number-Some : (d v : Doc) → is_document d ≡ true → view d (sample_rule ∷ []) ≡ Some v → view_line_number d ≡ line_count v.root
unfolding view_line_number
view_line_number-Some d v good shown = ap (λ o. length (lines (text_of_view o))) shown ∙ lines_of_view_document v (view_form d (sample_rule ∷ []) v (document_form d good) shown)

-- A view that shows nothing has no lines.
pub view_line_number-None : (d : Doc) → view d (sample_rule ∷ []) ≡ None → view_line_number d ≡ 0
unfolding view_line_number
view_line_number-None d shown = ap (λ o. length (lines (text_of_view o))) shown

-- A view has no more lines than the document.
pub view_lines_within : (d v : Doc) → view d (sample_rule ∷ []) ≡ Some v → line_count v.root ≤ line_count d.root
view_lines_within d v shown = view_has_no_more_lines d (sample_rule ∷ []) v shown

-- The numbers of a hospital fit u32.
pub sample_elements_fit : (d : Doc) (n : ℕ) → d ≡ hospital n → n ≤ 20000 → element_count d.root < 2 ^ 32
sample_elements_fit d n is few = subst (λ d. element_count d.root < 2 ^ 32) (sym is) (omega (arith, hospital_elements n few))

pub sample_lines_fit : (d : Doc) (n : ℕ) → d ≡ hospital n → n ≤ 20000 → line_count d.root < 2 ^ 32
sample_lines_fit d n is few = subst (λ d. line_count d.root < 2 ^ 32) (sym is) (omega (arith, hospital_lines n few))

pub sample_is_document : (d : Doc) (n : ℕ) → d ≡ hospital n → n ≤ 20000 → is_document d ≡ true
sample_is_document d n is few = subst (λ d. is_document d ≡ true) (sym is) (hospital_is_document n few)

-- The line made of the counts is the sample line.
pub line_is : (line : List ℕ) (d : Doc) (n e l v : ℕ) → d ≡ hospital n → n ≤ 20000 → line ≡ line_of_numbers e l v → e ≡ element_count d.root → l ≡ line_count d.root → v ≡ view_line_number d
    → line ≡ sample_line n
unfolding sample_line
line_is line d n e l v is few made elements lines view =
    made
    ∙ ap (λ k. line_of_numbers k l v) (elements ∙ sym (element_number_is d) ∙ ap element_number is)
    ∙ ap (λ k. line_of_numbers (element_number (hospital n)) k v) (lines ∙ sym (line_number_is d (sample_is_document d n is few)) ∙ ap line_number is)
    ∙ ap (line_of_numbers (element_number (hospital n)) (line_number (hospital n))) (view ∙ ap view_line_number is)

pub ruleset numbers_by_counts = (element_number_is, line_number_is, view_line_number-Some, view_line_number-None, view_lines_within)
