-- Which lines are of a document, one line after another.
use Rattle.std.proofs.Common.{◌≡◌, ℕ, Bool, true, false, not, ◌&&◌, List, [], ◌∷◌, if◌then◌else◌, refl, sym, ap, ◌∙◌}
use Rattle.std.specs.Cmp.{first_so, second_so}
use Rattle.std.specs.List.{filter, list_all}
use Rattle.esis_lines.specs.DocumentText.{document_lines, without_closing}
use Rattle.esis_lines.specs.LineForms.{is_closing, is_passed_by}
use Rattle.esis_lines.proofs.LineReadings.{passed_by-closing}

-- The line is of a document wherever it is.
abbrev pub is_kept : List ℕ → Bool
is_kept l = not (is_passed_by l) && not (is_closing l)

is_part : List ℕ → Bool
is_part l = not (is_passed_by l)

not_closing_last : (l : List ℕ) (ls : List (List ℕ)) → is_closing l ≡ false → without_closing (l ∷ ls) ≡ l ∷ without_closing ls
not_closing_last l [] is = rw is refl
not_closing_last l (m ∷ ls) is = refl

filter_passed : (l : List ℕ) (ls : List (List ℕ)) → is_passed_by l ≡ true → filter (λ k. not (is_passed_by k)) (l ∷ ls) ≡ filter (λ k. not (is_passed_by k)) ls
filter_passed l ls is = rw is refl

filter_part : (l : List ℕ) (ls : List (List ℕ)) → is_passed_by l ≡ false → filter (λ k. not (is_passed_by k)) (l ∷ ls) ≡ l ∷ filter (λ k. not (is_passed_by k)) ls
filter_part l ls is = rw is refl

pub document_lines-passed : (l : List ℕ) (ls : List (List ℕ)) → is_passed_by l ≡ true → document_lines (l ∷ ls) ≡ document_lines ls
document_lines-passed l ls is =
    ap (λ (ms : List (List ℕ)). filter (λ k. not (is_passed_by k)) ms) (not_closing_last l ls (passed_by-closing l is)) ∙ filter_passed l (without_closing ls) is

is_false : (b : Bool) → not b ≡ true → b ≡ false
is_false true h = sym h
is_false false h = refl

pub kept_passed : (l : List ℕ) → is_kept l ≡ true → is_passed_by l ≡ false
kept_passed l is = is_false (is_passed_by l) (first_so (not (is_passed_by l)) (not (is_closing l)) is)

pub kept_closing : (l : List ℕ) → is_kept l ≡ true → is_closing l ≡ false
kept_closing l is = is_false (is_closing l) (second_so (not (is_passed_by l)) (not (is_closing l)) is)

pub document_lines-kept : (l : List ℕ) (ls : List (List ℕ)) → is_kept l ≡ true → document_lines (l ∷ ls) ≡ l ∷ document_lines ls
document_lines-kept l ls is =
    ap (λ (ms : List (List ℕ)). filter (λ k. not (is_passed_by k)) ms) (not_closing_last l ls (kept_closing l is)) ∙ filter_part l (without_closing ls) (kept_passed l is)

-- a line between others, which is not passed by
pub document_lines-within : (l m : List ℕ) (ls : List (List ℕ)) → is_passed_by l ≡ false → document_lines (l ∷ m ∷ ls) ≡ l ∷ document_lines (m ∷ ls)
document_lines-within l m ls is = filter_part l (without_closing (m ∷ ls)) is

pub document_lines-closing : (l : List ℕ) → is_closing l ≡ true → document_lines (l ∷ []) ≡ []
document_lines-closing l is = ap (λ (v : Bool). filter (λ k. not (is_passed_by k)) (if v then [] else l ∷ [])) is

-- Lines that are all of a document are its lines.
pub document_lines-all : (ls : List (List ℕ)) → list_all is_kept ls ≡ true → document_lines ls ≡ ls
document_lines-all [] all = refl
document_lines-all (l ∷ ls) all =
    document_lines-kept l ls (first_so (is_kept l) (list_all is_kept ls) all) ∙ ap (λ (ms : List (List ℕ)). l ∷ ms) (document_lines-all ls (second_so (is_kept l) (list_all is_kept ls) all))
