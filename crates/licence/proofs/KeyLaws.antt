-- Keys: what follows from the answer that they were read or refused, and how they are read where bytes say them.
use Rattle.std.proofs.Common.{◌≡◌, ℕ, inl, inr, List, [], ◌∷◌, Some, Result, Ok, Err, refl, ap, sym, subst, ◌∙◌}
use Rattle.acl_model.specs.Lines.{lines}
use Rattle.licence.specs.Forms.{Lines, HasDigits, ◌>>=◌, bytes_after, line_of_form}
use Rattle.licence.specs.Keys.{document_word, seal_key_word, IsDocumentLine, IsSealKeyLine, SaysKeys, IsBadKeys, keys_at_end, read_keys_of, ReadsKeys}
use Rattle.licence.specs.Keys.IsBadKeys.{NoDocument, NoSealKey, OneMore}
use Rattle.licence.specs.declared.keys.Keys.{Keys}
use Rattle.licence.specs.declared.keys.KeysError.{KeysError}
use Rattle.licence.specs.declared.keys.KeysError.TheVariants.{BadKeys, NoMemory}
use Rattle.licence.proofs.FormLaws.{same_value, same_fault, not_both, not_err, bind-ok, bind-err, bytes_after-some, bytes_after-digits, line_of_form-ok, line_of_form-err, line_of_form-none}

-- ---- the two forms

document_shows : (line key : List ℕ) → bytes_after document_word 16 line ≡ Some key → IsDocumentLine line
document_shows line key h = (key, bytes_after-some document_word 16 line key h)

document_takes : (line : List ℕ) → IsDocumentLine line → (key : List ℕ) × (bytes_after document_word 16 line ≡ Some key)
document_takes line is = (is.0, bytes_after-digits document_word (λ rest. refl) 16 line is.0 is.1)

seal_shows : (line key : List ℕ) → bytes_after seal_key_word 32 line ≡ Some key → IsSealKeyLine line
seal_shows line key h = (key, bytes_after-some seal_key_word 32 line key h)

seal_takes : (line : List ℕ) → IsSealKeyLine line → (key : List ℕ) × (bytes_after seal_key_word 32 line ≡ Some key)
seal_takes line is = (is.0, bytes_after-digits seal_key_word (λ rest. refl) 32 line is.0 is.1)

document_read : (line : List ℕ) (rest : Lines) (key : List ℕ) → HasDigits document_word 16 line key
    → line_of_form (BadKeys 1) (bytes_after document_word 16) (line ∷ rest) ≡ Ok (key, rest)
document_read line rest key has = rw (bytes_after-digits document_word (λ more. refl) 16 line key has) refl

seal_read : (line : List ℕ) (rest : Lines) (key : List ℕ) → HasDigits seal_key_word 32 line key
    → line_of_form (BadKeys 2) (bytes_after seal_key_word 32) (line ∷ rest) ≡ Ok (key, rest)
seal_read line rest key has = rw (bytes_after-digits seal_key_word (λ more. refl) 32 line key has) refl

-- ---- step by step

abbrev after_seal : List ℕ → List ℕ × Lines → Result Keys KeysError
after_seal document seal = keys_at_end (record { document = document; seal = seal.0 }) seal.1

abbrev after_document : List ℕ × Lines → Result Keys KeysError
after_document document = line_of_form (BadKeys 2) (bytes_after seal_key_word 32) document.1 >>= after_seal document.0

in_parts : (bytes : List ℕ) → read_keys_of bytes ≡ (line_of_form (BadKeys 1) (bytes_after document_word 16) (lines bytes) >>= after_document)
unfolding read_keys_of
in_parts bytes = refl

pub read_keys_of-document : (bytes : List ℕ) (error : KeysError) → line_of_form (BadKeys 1) (bytes_after document_word 16) (lines bytes) ≡ Err error → read_keys_of bytes ≡ Err error
unfolding read_keys_of
read_keys_of-document bytes error refused = rw refused refl

pub read_keys_of-seal : (bytes document : List ℕ) (rest : Lines) (error : KeysError) → line_of_form (BadKeys 1) (bytes_after document_word 16) (lines bytes) ≡ Ok (document, rest)
    → line_of_form (BadKeys 2) (bytes_after seal_key_word 32) rest ≡ Err error → read_keys_of bytes ≡ Err error
unfolding read_keys_of
read_keys_of-seal bytes document rest error first refused = rw (first, refused) refl

pub read_keys_of-end : (bytes document seal : List ℕ) (rest more : Lines) → line_of_form (BadKeys 1) (bytes_after document_word 16) (lines bytes) ≡ Ok (document, rest)
    → line_of_form (BadKeys 2) (bytes_after seal_key_word 32) rest ≡ Ok (seal, more) → read_keys_of bytes ≡ keys_at_end (record { document = document; seal = seal }) more
unfolding read_keys_of
read_keys_of-end bytes document seal rest more first second = rw (first, second) refl

-- the error that is wanted
pub ReadsKeys-error : (wanted : Result Keys KeysError) (error : KeysError) → wanted ≡ Err error → ReadsKeys wanted (Err error)
ReadsKeys-error wanted (BadKeys line) is = is
ReadsKeys-error wanted NoMemory is = tt

-- ---- what an answer shows

end_shows : (keys made : Keys) (ls : Lines) → keys_at_end made ls ≡ Ok keys → (ls ≡ []) × (made ≡ keys)
end_shows keys made [] h = (refl, same_value made keys h)
end_shows keys made (line ∷ rest) h = absurd (not_err keys (BadKeys 3) h)

pub read_keys_of-says : (bytes : List ℕ) (keys : Keys) → read_keys_of bytes ≡ Ok keys → SaysKeys bytes keys
read_keys_of-says bytes keys h =
    let one = bind-ok (line_of_form (BadKeys 1) (bytes_after document_word 16) (lines bytes)) after_document keys (sym (in_parts bytes) ∙ h) in
    let two = bind-ok (line_of_form (BadKeys 2) (bytes_after seal_key_word 32) one.0.1) (after_seal one.0.0) keys one.2 in
    let end = end_shows keys (record { document = one.0.0; seal = two.0.0 }) two.0.1 two.2 in
    let a = line_of_form-ok (BadKeys 1) (bytes_after document_word 16) (lines bytes) one.0 one.1 in
    let b = line_of_form-ok (BadKeys 2) (bytes_after seal_key_word 32) one.0.1 two.0 two.1 in
    subst (SaysKeys bytes) end.1 (record {
      first = a.0;
      document = bytes_after-some document_word 16 a.0 one.0.0 a.2;
      second = b.0;
      seal = bytes_after-some seal_key_word 32 b.0 two.0.0 b.2;
      text = a.1 ∙ ap (λ (ls : Lines). a.0 ∷ ls) (b.1 ∙ ap (λ (ls : Lines). b.0 ∷ ls) end.0);
    })

end_refuses : (made : Keys) (ls : Lines) (error : KeysError) → keys_at_end made ls ≡ Err error → (third : List ℕ) × (rest : Lines) × (ls ≡ third ∷ rest) × (error ≡ BadKeys 3)
end_refuses made [] error h = absurd (not_both made error h)
end_refuses made (line ∷ rest) error h = (line, rest, refl, sym (same_fault {A = Keys} (BadKeys 3) error h))

pub read_keys_of-refused : (bytes : List ℕ) (error : KeysError) → read_keys_of bytes ≡ Err error → IsBadKeys (lines bytes) error
read_keys_of-refused bytes error h =
    elim (bind-err (line_of_form (BadKeys 1) (bytes_after document_word 16) (lines bytes)) after_document error (sym (in_parts bytes) ∙ h)) [
      | inl none ↦
          let found = line_of_form-err (BadKeys 1) (bytes_after document_word 16) IsDocumentLine document_takes (lines bytes) error none in
          NoDocument found.0 found.1
      | inr one ↦
          let a = line_of_form-ok (BadKeys 1) (bytes_after document_word 16) (lines bytes) one.0 one.1 in
          elim (bind-err (line_of_form (BadKeys 2) (bytes_after seal_key_word 32) one.0.1) (after_seal one.0.0) error one.2) [
            | inl none ↦
                let found = line_of_form-err (BadKeys 2) (bytes_after seal_key_word 32) IsSealKeyLine seal_takes one.0.1 error none in
                NoSealKey a.0 one.0.1 found.0 a.1 (document_shows a.0 one.0.0 a.2) found.1
            | inr two ↦
                let b = line_of_form-ok (BadKeys 2) (bytes_after seal_key_word 32) one.0.1 two.0 two.1 in
                let end = end_refuses (record { document = one.0.0; seal = two.0.0 }) two.0.1 error two.2 in
                OneMore a.0 b.0 end.0 end.1 end.3 (a.1 ∙ ap (λ (ls : Lines). a.0 ∷ ls) (b.1 ∙ ap (λ (ls : Lines). b.0 ∷ ls) end.2))
                (document_shows a.0 one.0.0 a.2) (seal_shows b.0 two.0.0 b.2)
          ]
    ]

-- ---- how keys are read where bytes say them

abbrev first_form : Lines → Result (List ℕ × Lines) KeysError
first_form ls = line_of_form (BadKeys 1) (bytes_after document_word 16) ls

pub read_keys_of-said : (bytes : List ℕ) (keys : Keys) → SaysKeys bytes keys → read_keys_of bytes ≡ Ok keys
read_keys_of-said bytes keys says =
    read_keys_of-end bytes keys.document keys.seal (says.second ∷ []) [] (ap first_form says.text ∙ document_read says.first (says.second ∷ []) keys.document says.document)
    (seal_read says.second [] keys.seal says.seal)

pub read_keys_of-cause : (bytes : List ℕ) (error : KeysError) → IsBadKeys (lines bytes) error → read_keys_of bytes ≡ Err error
read_keys_of-cause bytes error (NoDocument is none) =
    read_keys_of-document bytes error (line_of_form-none (BadKeys 1) (bytes_after document_word 16) IsDocumentLine document_shows (lines bytes) none ∙ ap Err (sym is))
read_keys_of-cause bytes error (NoSealKey first rest is text document none) =
    read_keys_of-seal bytes document.0 rest error (ap first_form text ∙ document_read first rest document.0 document.1)
    (line_of_form-none (BadKeys 2) (bytes_after seal_key_word 32) IsSealKeyLine seal_shows rest none ∙ ap Err (sym is))
read_keys_of-cause bytes error (OneMore first second third rest is text document seal) =
    read_keys_of-end bytes document.0 seal.0 (second ∷ third ∷ rest) (third ∷ rest) (ap first_form text ∙ document_read first (second ∷ third ∷ rest) document.0 document.1)
    (seal_read second (third ∷ rest) seal.0 seal.1) ∙ ap Err (sym is)
