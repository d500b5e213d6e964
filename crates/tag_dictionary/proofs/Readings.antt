-- Names are read one after the other, and the section of a dictionary is read as its names.
use Rattle.std.proofs.Common.{◌≡◌, ℕ, ◌+◌, ◌≤◌, Bool, true, false, cond, not, ◌&&◌, nat_le, Option, None, Some, List, [], ◌∷◌, ◌++◌, length, length-append, take, drop, map, ap, refl, sym, ◌∙◌, subst, add-one, append-nil, append_assoc, get_or, ◌<◌, ◌*◌, ◌^◌, ◌/◌, ◌%◌, ◌-◌, ⊎_elim, length-take-le, length-drop, arith}
use Rattle.std.specs.Cmp.{first_so, second_so}
use Rattle.std.specs.List.{list_all, concat}
use Rattle.std.specs.Option.{option_and_then}
use Rattle.std.proofs.Math.Seq.{take-append_seam, drop-append_seam}
use Rattle.std.proofs.lemmas.Bool.{cases_Bool}
use Rattle.std.proofs.lemmas.Bool.Decides.{nat_tests}
use Rattle.std.proofs.lemmas.List.{take-append-drop, take_all}
use Rattle.acl_model.specs.Names.{is_name, is_spelled_as_name}
use Rattle.acl_model.specs.Dictionary.{has_name, are_new, is_dictionary, spelled_name, dictionary_section}
use Rattle.tag_dictionary.proofs.Forms.{drop-next}
use Rattle.tag_dictionary.specs.inside.NameReading.{cut_name, may_join, read_names}

-- where no name can be cut, no names are read
pub read_names-no_name : (names : List (List ℕ)) (bytes : List ℕ) → cut_name bytes ≡ None → (n : ℕ) → read_names (n + 1) names bytes ≡ None
unfolding read_names
read_names-no_name names bytes none n = rw (add-one n) (ap (option_and_then (λ p. cond (may_join names p.0) (read_names n (names ++ (p.0 ∷ [])) p.1) None)) none)

-- nor where the name may not be added
pub read_names-no_joining : (names : List (List ℕ)) (bytes name rest : List ℕ) → cut_name bytes ≡ Some (name, rest) → may_join names name ≡ false → (n : ℕ) → read_names (n + 1) names bytes ≡ None
unfolding read_names
read_names-no_joining names bytes name rest cut not_one n =
    rw (add-one n) (ap (option_and_then (λ p. cond (may_join names p.0) (read_names n (names ++ (p.0 ∷ [])) p.1) None)) cut
    ∙ ap (λ b. cond b (read_names n (names ++ (name ∷ [])) rest) None) not_one)

-- and where it may, the other names are read after it
pub read_names-joining : (names : List (List ℕ)) (bytes name rest : List ℕ) → cut_name bytes ≡ Some (name, rest) → may_join names name ≡ true
    → (n : ℕ) → read_names (n + 1) names bytes ≡ read_names n (names ++ (name ∷ [])) rest
unfolding read_names
read_names-joining names bytes name rest cut one n =
    rw (add-one n) (ap (option_and_then (λ p. cond (may_join names p.0) (read_names n (names ++ (p.0 ∷ [])) p.1) None)) cut
    ∙ ap (λ b. cond b (read_names n (names ++ (name ∷ [])) rest) None) one)

-- no names are read from no bytes, and with bytes left there are none
pub read_names-end : (names : List (List ℕ)) → read_names 0 names [] ≡ Some names
unfolding read_names
read_names-end names = refl

pub read_names-left : (names : List (List ℕ)) (bytes : List ℕ) → 1 ≤ length bytes → read_names 0 names bytes ≡ None
unfolding read_names
read_names-left names [] some = absurd (omega arith)
read_names-left names (b ∷ bytes) some = refl

-- a spelled name is cut off again
pub cut_name-spelled : (name rest : List ℕ) → cut_name (spelled_name name ++ rest) ≡ Some (name, rest)
cut_name-spelled name rest =
    let fits : nat_le (length name) (length (name ++ rest)) ≡ true = grind (arith, nat_tests, length-append) in
    ap (λ b. cond b (Some (take (length name) (name ++ rest), drop (length name) (name ++ rest))) None) fits
    ∙ ap (λ t. Some (t, drop (length name) (name ++ rest))) (take-append_seam name rest)
    ∙ ap (λ t. Some (name, t)) (drop-append_seam name rest)

-- the same parts spell the same
parts-same : (a b name rest : List ℕ) → ◌≡◌ {A = Option (List ℕ × List ℕ)} (Some (a, b)) (Some (name, rest)) → spelled_name a ++ b ≡ spelled_name name ++ rest
parts-same a b name rest same =
    let pair : ◌≡◌ {A = List ℕ × List ℕ} (a, b) (name, rest) = cc in
    ap (λ p. spelled_name p.0 ++ p.1) pair

-- and a name that is cut off was spelled
pub spelled-cut_name : (bytes name rest : List ℕ) → cut_name bytes ≡ Some (name, rest) → bytes ≡ spelled_name name ++ rest
spelled-cut_name [] name rest cut = cc
spelled-cut_name (count ∷ bytes) name rest cut = ⊎_elim
    (λ fits.
    let same : ◌≡◌ {A = Option (List ℕ × List ℕ)} (Some (take count bytes, drop count bytes)) (Some (name, rest)) = sym (ap (λ b. cond b (Some (take count bytes, drop count bytes)) None) fits) ∙ cut in
    let within : count ≤ length bytes = grind (arith, nat_tests) in
    let long : length (take count bytes) ≡ count = length-take-le count bytes within in
    ap (λ n. n ∷ bytes) (sym long) ∙ ap (λ l. length (take count bytes) ∷ l) (sym (take-append-drop count bytes)) ∙ parts-same (take count bytes) (drop count bytes) name rest same)
    (λ short. let none : ◌≡◌ {A = Option (List ℕ × List ℕ)} None (Some (name, rest)) = sym (ap (λ b. cond b (Some (take count bytes, drop count bytes)) None) short) ∙ cut in cc)
    (cases_Bool (nat_le count (length bytes)))

-- the bytes of names with one more appended
pub spelled-last : (names : List (List ℕ)) (name : List ℕ) → concat (map spelled_name (names ++ (name ∷ []))) ≡ concat (map spelled_name names) ++ spelled_name name
spelled-last [] name = append-nil (spelled_name name)
spelled-last (first ∷ names) name = ap (λ l. spelled_name first ++ l) (spelled-last names name) ∙ sym (append_assoc (spelled_name first) (concat (map spelled_name names)) (spelled_name name))

-- new, well-formed names are read from their bytes
pub read_names-spelled : (before more : List (List ℕ)) → are_new before more ≡ true → list_all is_name more ≡ true
    → read_names (length more) before (concat (map spelled_name more)) ≡ Some (before ++ more)
unfolding read_names
read_names-spelled before [] new named = ap Some (sym (append-nil before))
read_names-spelled before (name ∷ more) new named =
    let first : not (has_name before name) ≡ true = first_so (not (has_name before name)) (are_new (before ++ (name ∷ [])) more) new in
    let later : are_new (before ++ (name ∷ [])) more ≡ true = second_so (not (has_name before name)) (are_new (before ++ (name ∷ [])) more) new in
    let form : is_name name ≡ true = first_so (is_name name) (list_all is_name more) named in
    let forms : list_all is_name more ≡ true = second_so (is_name name) (list_all is_name more) named in
    let rest : List ℕ = concat (map spelled_name more) in
    ap (option_and_then (λ p. cond (may_join before p.0) (read_names (length more) (before ++ (p.0 ∷ [])) p.1) None)) (cut_name-spelled name rest)
    ∙ ap (λ b. cond (b && not (has_name before name)) (read_names (length more) (before ++ (name ∷ [])) rest) None) form
    ∙ ap (λ b. cond b (read_names (length more) (before ++ (name ∷ [])) rest) None) first
    ∙ read_names-spelled (before ++ (name ∷ [])) more later forms
    ∙ ap Some (append_assoc before (name ∷ []) more)

-- the conditions under which names are a dictionary
pub is_dictionary-made : (names : List (List ℕ)) → 1 ≤ length names → length names ≤ 256 → list_all is_name names ≡ true → are_new [] names ≡ true → is_dictionary names ≡ true
is_dictionary-made names some few named new =
    let least : nat_le 1 (length names) ≡ true = grind (arith, nat_tests) in
    let most : nat_le (length names) 256 ≡ true = grind (arith, nat_tests) in
    ap (λ b. b && nat_le (length names) 256 && list_all is_name names && are_new [] names) least
    ∙ ap (λ b. b && list_all is_name names && are_new [] names) most
    ∙ ap (λ b. b && are_new [] names) named
    ∙ new

-- taking as many items as a list has takes all of it
take-past : (n : ℕ) (bytes : List ℕ) → length bytes ≤ n → take n bytes ≡ bytes
take-past n bytes all = take_all n bytes all

-- the names of a dictionary are read from its bytes
names_read : (names : List (List ℕ)) → is_dictionary names ≡ true → read_names (length names) [] (concat (map spelled_name names)) ≡ Some names
names_read names good =
    let few = nat_le 1 (length names) && nat_le (length names) 256 in
    let formed : (few && list_all is_name names) ≡ true = first_so (few && list_all is_name names) (are_new [] names) good in
    read_names-spelled [] names (second_so (few && list_all is_name names) (are_new [] names) good) (second_so few (list_all is_name names) formed)

-- and the number of names fits two bytes
names_fit : (names : List (List ℕ)) → is_dictionary names ≡ true → length names ≤ 256
names_fit names good =
    let few = nat_le 1 (length names) && nat_le (length names) 256 in
    let formed : (few && list_all is_name names) ≡ true = first_so (few && list_all is_name names) (are_new [] names) good in
    let bounded : nat_le (length names) 256 ≡ true = second_so (nat_le 1 (length names)) (nat_le (length names) 256) (first_so few (list_all is_name names) formed) in
    grind (arith, nat_tests)

-- bytes from which no names are read are the section of no dictionary
pub no_section : (count : ℕ) (bytes : List ℕ) → count ≡ get_or bytes 0 0 * 2 ^ 8 + get_or bytes 1 0 → read_names count [] (take (length bytes - 2) (drop 2 bytes)) ≡ None
    → (names : List (List ℕ)) → is_dictionary names ≡ true → dictionary_section names ≡ bytes → ⊥
no_section count bytes counted unread names good same =
    let none : read_names count [] (drop 2 bytes) ≡ None = ap (read_names count []) (sym (take-past (length bytes - 2) (drop 2 bytes) (omega (arith, length-drop 2 bytes)))) ∙ unread in
    let most = names_fit names good in
    let high : length names / 256 % 256 ≡ get_or bytes 0 0 = ap (λ l. get_or l 0 0) same in
    let low : length names % 256 ≡ get_or bytes 1 0 = ap (λ l. get_or l 1 0) same in
    let number : count ≡ length names = omega arith in
    let rest : drop 2 bytes ≡ concat (map spelled_name names) = ap (λ l. drop 2 l) (sym same) in
    let all = names_read names good in
    let nothing : read_names (length names) [] (concat (map spelled_name names)) ≡ None = ap (λ l. read_names (length names) [] l) (sym rest) ∙ ap (λ n. read_names n [] (drop 2 bytes)) (sym number) ∙ none in
    cc

-- the length of the next name fits one byte
pub next_name-fits : (names items : List (List ℕ)) (i : ℕ) (name : List ℕ) → items ≡ names → i < length items → name ≡ get_or items i name
    → list_all is_name (drop i names) ≡ true → length name < 256
next_name-fits names items i name same within is named =
    let cut : drop i names ≡ name ∷ drop (i + 1) names = subst (λ l. drop i l ≡ name ∷ drop (i + 1) l) same (drop-next items i name within is) in
    let one : is_name name ≡ true = first_so (is_name name) (list_all is_name (drop (i + 1) names)) (ap (list_all is_name) (sym cut) ∙ named) in
    let short : nat_le (length name) 255 ≡ true = second_so (is_spelled_as_name name) (nat_le (length name) 255) one in
    grind (arith, nat_tests)

-- the last step of a loop that counts up
pub read_names-last : (count at : ℕ) (names : List (List ℕ)) (bytes : List ℕ) (all : Option (List (List ℕ))) → at < count → read_names (count - at) names bytes ≡ all
    → ((n : ℕ) → read_names (n + 1) names bytes ≡ None) → all ≡ None
read_names-last count at names bytes all within reads none =
    let step : count - at ≡ (count - at - 1) + 1 = omega arith in
    sym reads ∙ ap (λ n. read_names n names bytes) step ∙ none (count - at - 1)

-- a Bool that isn't true is false
pub is_new : (b : Bool) → not b ≡ true → b ≡ false
is_new true h = sym h
is_new false h = refl

-- dictionaries of the same bytes are the same
pub one_dictionary : (one other : List (List ℕ)) → is_dictionary one ≡ true → is_dictionary other ≡ true → dictionary_section one ≡ dictionary_section other → one ≡ other
one_dictionary one other good fine same =
    let fits = names_fit one good in
    let fit = names_fit other fine in
    let high : length one / 256 % 256 ≡ length other / 256 % 256 = ap (λ l. get_or l 0 0) same in
    let low : length one % 256 ≡ length other % 256 = ap (λ l. get_or l 1 0) same in
    let long : length one ≡ length other = omega arith in
    let rest : concat (map spelled_name one) ≡ concat (map spelled_name other) = ap (λ l. drop 2 l) same in
    let first = names_read one good in
    let second = names_read other fine in
    let both : Some one ≡ Some other = sym first ∙ ap (λ n. read_names n [] (concat (map spelled_name one))) long ∙ ap (read_names (length other) []) rest ∙ second in
    cc
