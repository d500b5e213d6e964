-- A hospital is a document. Each of its folders has at most 14 elements and 38 lines.
use Rattle.std.proofs.Common.{◌≡◌, ℕ, zero, suc, ◌+◌, ◌*◌, ◌%◌, ◌==◌, ◌≤◌, ◌<◌, ◌^◌, Bool, true, false, nat_le, List, [], ◌∷◌, map, length, refl, ◌∙◌, arith, codes, if◌then◌else◌}
use Rattle.std.proofs.lemmas.Bool.Decides.{nat_tests}
use Rattle.std.proofs.lemmas.Fmt.{decimal_by_steps}
use Rattle.std.specs.Fmt.{decimal}
use Rattle.std.specs.Cmp.{first_so, second_so}
use Rattle.std.specs.List.{list_all, concat, range_with_len}
use Rattle.acl_model.specs.Lines.{is_within_line}
use Rattle.acl_model.specs.Names.{is_name}
use Rattle.acl_model.specs.Document.{is_raw_attribute, is_well_formed, item_well_formed, greatest, height, height_of_item, is_document}
use Rattle.acl_model.proofs.ByteLaws.{is_within_line-append}
use Rattle.acl_model.proofs.FormEquations.{well_formed_is, item_well_formed-Text, item_well_formed-Child, height_is, height_of_item-Text, height_of_item-Child}
use Rattle.acl_model.specs.declared.document.Element.{Element}
use Rattle.acl_model.specs.declared.document.Item.{Item}
use Rattle.acl_model.specs.declared.document.Item.TheVariants.{Text, Child}
use Rattle.sample_maker.specs.Hospital.{one_to, plain, field, admin, physician, act, identifier, folder, hospital}
use Rattle.sample_maker.specs.inside.Counts.{total, element_count, item_element_count, line_count, item_line_count}
use Rattle.sample_maker.proofs.CountEquations.{element_count_is, item_element_count-Text, item_element_count-Child, line_count_is, item_line_count-Text, item_line_count-Child}

-- ---- texts

digit_within : (n : ℕ) → n < 10 → is_within_line ((48 + n) ∷ []) ≡ true
digit_within n small = grind (arith, nat_tests)

mod_below : (n : ℕ) → n % 10 < 10
mod_below n = omega arith

-- The digits of a number fit a line.
digits_within : (n : ℕ) → n < 2 ^ 64 → is_within_line (decimal n) ≡ true
digits_within = decimal_by_steps (λ n ds. is_within_line ds ≡ true) digit_within
    (λ n ds large before. is_within_line-append ds ((48 + n % 10) ∷ []) before (digit_within (n % 10) (mod_below n)))

-- Where each part fits a line, the parts one after another fit a line.
concat_within : (parts : List (List ℕ)) → list_all is_within_line parts ≡ true → is_within_line (concat parts) ≡ true
concat_within [] good = refl
concat_within (part ∷ parts) good =
    is_within_line-append part (concat parts) (first_so (is_within_line part) (list_all is_within_line parts) good)
    (concat_within parts (second_so (is_within_line part) (list_all is_within_line parts) good))

-- ---- items

-- An item is well formed, has at most height h, and has at most e elements and l lines.
record Fits (item : Item) (h e l : ℕ) : Type 0 where
  form : item_well_formed is_name item ≡ true
  high : height_of_item item ≤ h
  elements : item_element_count item ≤ e
  lines : item_line_count item ≤ l

-- the same of a list of items, whose elements and lines are those of all items together
record AllFit (items : List Item) (h e l : ℕ) : Type 0 where
  form : list_all (λ b. b) (map (item_well_formed is_name) items) ≡ true
  high : greatest (map height_of_item items) ≤ h
  elements : total (map item_element_count items) ≤ e
  lines : total (map item_line_count items) ≤ l

none_fit : (h : ℕ) → AllFit [] h 0 0
none_fit h = record { form = refl; high = omega arith; elements = omega arith; lines = omega arith }

one_more_fits : (item : Item) (items : List Item) (h e l others more : ℕ) → Fits item h e l → AllFit items h others more → AllFit (item ∷ items) h (e + others) (l + more)
one_more_fits item items h e l others more one rest =
    record {
      form = rw (one.form, rest.form) refl;
      high = omega (arith, one.high, rest.high);
      elements = omega (arith, one.elements, rest.elements);
      lines = omega (arith, one.lines, rest.lines);
    }

-- Where each item `f i` fits, the items made of the k numbers from a on fit together.
each_fits : (f : ℕ → Item) (h e l last : ℕ) → ((i : ℕ) → i ≤ last → Fits (f i) h e l) → (a k : ℕ) → a + k ≤ last + 1 → AllFit (map f (range_with_len a k)) h (e * k) (l * k)
each_fits f h e l last one a zero few = record { form = refl; high = omega arith; elements = omega arith; lines = omega arith }
each_fits f h e l last one a (suc k) few =
    let both = one_more_fits (f a) (map f (range_with_len (a + 1) k)) h e l (e * k) (l * k) (one a (omega arith)) (each_fits f h e l last one (a + 1) k (omega arith)) in
    record { form = both.form; high = both.high; elements = grind (arith, both.elements); lines = grind (arith, both.lines) }

-- An element with at most one attribute fits, where its name and attribute are valid and its items fit.
element_fits : (element : Element) (h e l : ℕ) → is_name element.name ≡ true → length element.attributes ≤ 1 → list_all is_raw_attribute element.attributes ≡ true → AllFit element.items h e l
    → Fits (Child element) (h + 1) (e + 1) (l + length element.attributes + 2)
element_fits element h e l named few raw inside = record {
  form = item_well_formed-Child is_name element ∙ well_formed_is is_name element ∙ rw (named, within, raw, inside.form) refl;
  high = omega (arith, height_of_item-Child element, height_is element, inside.high);
  elements = omega (arith, item_element_count-Child element, element_count_is element, inside.elements);
  lines = omega (arith, item_line_count-Child element, line_count_is element, inside.lines);
}
  where
    within : nat_le (length element.attributes) 65535 ≡ true
    within = grind (arith, nat_tests)

plain_fits : (name : List ℕ) (items : List Item) (h e l : ℕ) → is_name name ≡ true → AllFit items h e l → Fits (Child (plain name items)) (h + 1) (e + 1) (l + 2)
plain_fits name items h e l named inside =
    let fit = element_fits (plain name items) h e l named (omega arith) refl inside in
    record { form = fit.form; high = fit.high; elements = fit.elements; lines = omega (arith, fit.lines) }

text_fits : (bytes : List ℕ) → is_within_line bytes ≡ true → Fits (Text bytes) 0 0 1
text_fits bytes within = record {
  form = item_well_formed-Text is_name bytes ∙ within;
  high = omega (arith, height_of_item-Text bytes);
  elements = omega (arith, item_element_count-Text bytes);
  lines = omega (arith, item_line_count-Text bytes);
}

field_fits : (name bytes : List ℕ) → is_name name ≡ true → is_within_line bytes ≡ true → Fits (field name bytes) 1 1 3
field_fits name bytes named within = plain_fits name (Text bytes ∷ []) 0 0 1 named (one_more_fits (Text bytes) [] 0 0 1 0 0 (text_fits bytes within) (none_fit 0))

-- ---- the parts of a hospital

admin_fits : (i : ℕ) → i ≤ 20000 → Fits (admin i) 2 4 11
unfolding admin
admin_fits i few =
    let ssn = digits_within (100000000 + 7001 * i) (omega arith) in
    let number = digits_within i (omega arith) in
    let age = digits_within (20 + i % 70) (omega arith) in
    plain_fits (codes "Admin") _ 1 3 9 refl
    (one_more_fits _ _ _ _ _ _ _ (field_fits (codes "SSN") _ refl ssn)
    (one_more_fits _ _ _ _ _ _ _ (field_fits (codes "Fname") _ refl (concat_within (codes "Patient" ∷ decimal i ∷ []) (rw number refl)))
    (one_more_fits _ _ _ _ _ _ _ (field_fits (codes "Age") _ refl age) (none_fit 1))))

physician_within : (i j : ℕ) → is_within_line (physician i j) ≡ true
unfolding physician
physician_within i j = of_remainder ((i + j) % 3 == 0) ((i + j) % 3 == 1)
  where
    of_remainder : (a b : Bool) → is_within_line (if a then codes "Ana" else if b then codes "Bea" else codes "Cy") ≡ true
    of_remainder true b = refl
    of_remainder false true = refl
    of_remainder false false = refl

act_fits : (i : ℕ) → i ≤ 20000 → (j : ℕ) → j ≤ 3 → Fits (act i j) 2 3 8
unfolding act
act_fits i few j fewer =
    let folder_number = digits_within i (omega arith) in
    let number = digits_within j (omega arith) in
    plain_fits (codes "Act") _ 1 2 6 refl
    (one_more_fits _ _ _ _ _ _ _ (field_fits (codes "RPhys") _ refl (physician_within i j))
    (one_more_fits _ _ _ _ _ _ _ (field_fits (codes "Details") _ refl (concat_within (codes "note " ∷ decimal i ∷ codes "." ∷ decimal j ∷ []) (rw (folder_number, number) refl))) (none_fit 1)))

identifier_fits : (i : ℕ) → i ≤ 20000 → list_all is_raw_attribute (identifier i) ≡ true
identifier_fits i few =
    let number = digits_within i (omega arith) in
    let within = concat_within (codes "Id CDATA f" ∷ decimal i ∷ []) (rw number refl) in
    rw within refl

folder_fits : (i : ℕ) → i ≤ 20000 → Fits (folder i) 3 14 38
unfolding folder
folder_fits i few =
    let number : i % 4 ≤ 3 = omega arith in
    let acts = each_fits (act i) 2 3 8 3 (act_fits i few) 1 (i % 4) (omega arith) in
    let all = one_more_fits (admin i) (map (act i) (one_to (i % 4))) 2 4 11 (3 * (i % 4)) (8 * (i % 4)) (admin_fits i few) acts in
    let fit = element_fits (record {
      name = codes "Folder";
      attributes = identifier i;
      items = admin i ∷ map (act i) (one_to (i % 4));
    }) 2 (4 + 3 * (i % 4)) (11 + 8 * (i % 4)) refl (omega arith) (identifier_fits i few) all in
    record { form = fit.form; high = fit.high; elements = omega (arith, fit.elements, number); lines = omega (arith, fit.lines, number) }

folders_fit : (n : ℕ) → n ≤ 20000 → AllFit (map folder (one_to n)) 3 (14 * n) (38 * n)
folders_fit n few = each_fits folder 3 14 38 20000 folder_fits 1 n (omega arith)

-- ---- hospitals

-- A hospital is a document.
pub hospital_is_document : (n : ℕ) → n ≤ 20000 → is_document (hospital n) ≡ true
unfolding hospital
hospital_is_document n few =
    let folders = folders_fit n few in
    let root : Element = plain (codes "Hospital") (map folder (one_to n)) in
    let formed : is_well_formed is_name root ≡ true = well_formed_is is_name root ∙ rw folders.form refl in
    let low : height root ≤ 4 = omega (arith, height_is root, folders.high) in
    rw (formed, within_depth (height root) low) refl
  where
    within_depth : (h : ℕ) → h ≤ 4 → nat_le h 255 ≡ true
    within_depth h low = grind (arith, nat_tests)

-- The hospital with n folders has at most 14 * n + 1 elements.
pub hospital_elements : (n : ℕ) → n ≤ 20000 → element_count (hospital n).root ≤ 14 * n + 1
unfolding hospital
hospital_elements n few =
    let folders = folders_fit n few in
    omega (arith, element_count_is (plain (codes "Hospital") (map folder (one_to n))), folders.elements)

-- The hospital with n folders has at most 38 * n + 2 lines.
pub hospital_lines : (n : ℕ) → n ≤ 20000 → line_count (hospital n).root ≤ 38 * n + 2
unfolding hospital
hospital_lines n few =
    let folders = folders_fit n few in
    omega (arith, line_count_is (plain (codes "Hospital") (map folder (one_to n))), folders.lines)
