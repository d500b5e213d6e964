-- A sealed licence: what follows from the answer that it was read or refused, how it is read where bytes say it, and
-- what sealing writes.
use Rattle.std.proofs.Common.{◌≡◌, ℕ, ◌+◌, inl, inr, not, List, ◌∷◌, ◌++◌, length, nat_eq, Bool, true, false, cond, Option, Some, None, Result, Ok, Err, refl, ap, sym, subst, ◌∙◌, length-append, arith}
use Rattle.std.proofs.lemmas.List.Sums.{list_all-from_AllPass}
use Rattle.std.specs.Option.{option_map, option_and_then}
use Rattle.std.specs.Cmp.Lexicographic.{pointwise}
use Rattle.std.proofs.lemmas.Bool.{true≢false}
use Rattle.std.proofs.lemmas.Option.{none-some, option_and_then_some}
use Rattle.hex.specs.Hex.{encode_lower, decode_sized, is_hex_digit, lower_digits}
use Rattle.hex.proofs.HexLemmas.{decode_sized-ok, decode_sized-twice, decode_of-ok, decode_sized-encode_lower, length-encode_with}
use Rattle.acl_model.specs.Ascii.{line_feed}
use Rattle.acl_model.specs.Lines.{cut_at, lacks}
use Rattle.acl_model.proofs.LineLaws.{cut_at-append, lacks-list_all, lacks-append}
use Rattle.hmac_tag.specs.Hmac.{hmac}
use Rattle.licence.specs.Forms.{text_after, bytes_after}
use Rattle.licence.specs.Body.{read_body_from, read_body_of}
use Rattle.licence.specs.Sealed.{seal_word, IsSealed, SaysSealed, IsRefusedSealed, seal_and_body, read_under_seal, read_licence_of, sealed_text, sealed_text_of}
use Rattle.licence.specs.Sealed.IsRefusedSealed.{NoSeal, OtherSeal, BadBody}
use Rattle.licence.specs.declared.fault.LicenceFault.{LicenceFault}
use Rattle.licence.specs.declared.fault.LicenceFault.TheVariants.{BadSeal, BadLicence}
use Rattle.licence.specs.declared.terms.Licence.{Licence}
use Rattle.licence.proofs.FormLaws.{same_value, same_fault, not_both, not_err, bind-ok, bind-err, option_map-some, pointwise-same, pointwise-self, not_so, bytes_after-some, bytes_after-digits}
use Rattle.licence.proofs.RuleLaws.{cut_at-some}
use Rattle.licence.proofs.BodyLaws.{read_body_from-says, read_body_from-said, read_body_from-refused, read_body_from-cause}
use Rattle.licence.proofs.Digests.{hmac-size, hmac-bytes}

-- ---- the seal line

seal_after : (rest : List ℕ) → text_after seal_word (seal_word ++ rest) ≡ Some rest
seal_after rest = refl

-- the seal and the body, as one value
abbrev Parts : Type 0
Parts = List ℕ × List ℕ

parts_show : (bytes seal body : List ℕ) → seal_and_body bytes ≡ Some (seal, body) → IsSealed bytes seal body
parts_show bytes seal body h =
    option_and_then_some (λ (p : Parts). option_map (λ s. (s, p.1)) (bytes_after seal_word 32 p.0)) (cut_at line_feed bytes) (seal, body) h
    (λ p at made.
    let found = option_map-some (λ s. (s, p.1)) (bytes_after seal_word 32 p.0) (seal, body) made in
    let digits : bytes_after seal_word 32 p.0 ≡ Some seal = found.1 ∙ ap (λ (q : Parts). Some q.0) found.2 in
    record {
      line = p.0;
      digits = bytes_after-some seal_word 32 p.0 seal digits;
      text = cut_at-some line_feed bytes p.0 p.1 at ∙ ap (λ (q : Parts). p.0 ++ (line_feed ∷ q.1)) found.2;
    })

-- Digits contain no line feed.
digits_lack : (digits bytes : List ℕ) (count : ℕ) → decode_sized digits count ≡ Ok bytes → lacks line_feed digits ≡ true
digits_lack digits bytes count h =
    let ok = decode_of-ok digits bytes (sym (decode_sized-twice digits count (decode_sized-ok digits count bytes h)) ∙ h) in
    lacks-list_all is_hex_digit line_feed refl digits (list_all-from_AllPass is_hex_digit digits ok.1)

parts_take : (bytes seal body : List ℕ) → IsSealed bytes seal body → seal_and_body bytes ≡ Some (seal, body)
parts_take bytes seal body is =
    let line_lacks : lacks line_feed is.line ≡ true =
    ap (lacks line_feed) is.digits.1 ∙ lacks-append line_feed seal_word is.digits.0 refl (digits_lack is.digits.0 seal 32 is.digits.2) in
    let after : Option Parts → Option Parts = λ o. option_and_then (λ (p : Parts). option_map (λ s. (s, p.1)) (bytes_after seal_word 32 p.0)) o in
    ap (λ (b : List ℕ). after (cut_at line_feed b)) is.text ∙ ap after (cut_at-append line_feed is.line body line_lacks)
    ∙ ap (λ o. option_map (λ s. (s, body)) o) (bytes_after-digits seal_word seal_after 32 is.line seal is.digits)

-- ---- what is read under a seal

under_right : (key body : List ℕ) → read_under_seal key (Some (hmac key body, body)) ≡ read_body_from 2 body
under_right key body = ap (λ v. cond v (read_body_from 2 body) (Err (BadSeal (hmac key body) (hmac key body)))) (pointwise-self (hmac key body))

under_wrong : (key seal body : List ℕ) → (seal ≡ hmac key body → ⊥) → read_under_seal key (Some (seal, body)) ≡ Err (BadSeal seal (hmac key body))
under_wrong key seal body other =
    ap (λ v. cond v (read_body_from 2 body) (Err (BadSeal seal (hmac key body))))
    (not_so (pointwise nat_eq seal (hmac key body)) (λ same. other (pointwise-same seal (hmac key body) same)))

read_parts : (key bytes : List ℕ) (parts : Option Parts) → seal_and_body bytes ≡ parts → read_licence_of bytes key ≡ read_under_seal key parts
unfolding read_licence_of
read_parts key bytes parts is = ap (read_under_seal key) is

-- The seal is right and the body is read, or it is not and this is the fault.
by_seal : (key seal body : List ℕ) (answer : Result Licence LicenceFault) (P : Type 0) → read_under_seal key (Some (seal, body)) ≡ answer
    → (seal ≡ hmac key body → read_body_from 2 body ≡ answer → P) → ((seal ≡ hmac key body → ⊥) → Err (BadSeal seal (hmac key body)) ≡ answer → P) → P
by_seal key seal body answer P h right wrong =
    elim (pointwise nat_eq seal (hmac key body))
    as (λ v. pointwise nat_eq seal (hmac key body) ≡ v → cond v (read_body_from 2 body) (Err (BadSeal seal (hmac key body))) ≡ answer → P) [
      | true ↦ λ same is. right (pointwise-same seal (hmac key body) same) is
      | false ↦ λ other is. wrong (λ same. true≢false (sym (ap (λ (s : List ℕ). pointwise nat_eq s (hmac key body)) same ∙ pointwise-self (hmac key body)) ∙ other)) is
    ] refl h

pub read_licence_of-says : (key bytes : List ℕ) (licence : Licence) → read_licence_of bytes key ≡ Ok licence → SaysSealed key bytes licence
read_licence_of-says key bytes licence h =
    elim (seal_and_body bytes) as (λ o. seal_and_body bytes ≡ o → SaysSealed key bytes licence) [
      | None ↦ λ none. absurd (not_err licence (BadLicence 1) (sym (read_parts key bytes None none) ∙ h))
      | Some parts ↦ λ some.
          by_seal key parts.0 parts.1 (Ok licence) (SaysSealed key bytes licence) (sym (read_parts key bytes (Some parts) some) ∙ h)
          (λ right read. record {
            body = parts.1;
            is_sealed = subst (λ (s : List ℕ). IsSealed bytes s parts.1) right (parts_show bytes parts.0 parts.1 some);
            says = read_body_from-says 2 parts.1 licence read;
          })
          (λ other is. absurd (not_err licence (BadSeal parts.0 (hmac key parts.1)) is))
    ] refl

pub read_licence_of-said : (key bytes : List ℕ) (licence : Licence) → SaysSealed key bytes licence → read_licence_of bytes key ≡ Ok licence
read_licence_of-said key bytes licence says =
    read_parts key bytes (Some (hmac key says.body, says.body)) (parts_take bytes (hmac key says.body) says.body says.is_sealed)
    ∙ under_right key says.body ∙ read_body_from-said 2 says.body licence says.says

pub read_licence_of-refused : (key bytes : List ℕ) (fault : LicenceFault) → read_licence_of bytes key ≡ Err fault → IsRefusedSealed key bytes fault
read_licence_of-refused key bytes fault h =
    elim (seal_and_body bytes) as (λ o. seal_and_body bytes ≡ o → IsRefusedSealed key bytes fault) [
      | None ↦ λ none.
          NoSeal (sym (same_fault {A = Licence} (BadLicence 1) fault (sym (read_parts key bytes None none) ∙ h)))
          (λ seal body is. none-some (seal, body) (sym none ∙ parts_take bytes seal body is))
      | Some parts ↦ λ some.
          by_seal key parts.0 parts.1 (Err fault) (IsRefusedSealed key bytes fault) (sym (read_parts key bytes (Some parts) some) ∙ h)
          (λ right read. BadBody parts.1 (subst (λ (s : List ℕ). IsSealed bytes s parts.1) right (parts_show bytes parts.0 parts.1 some))
          (read_body_from-refused 2 parts.1 fault read))
          (λ other is. OtherSeal parts.0 parts.1 (sym (same_fault {A = Licence} (BadSeal parts.0 (hmac key parts.1)) fault is)) (parts_show bytes parts.0 parts.1 some) other)
    ] refl

pub read_licence_of-cause : (key bytes : List ℕ) (fault : LicenceFault) → IsRefusedSealed key bytes fault → read_licence_of bytes key ≡ Err fault
read_licence_of-cause key bytes fault (NoSeal is none) =
    elim (seal_and_body bytes) as (λ o. seal_and_body bytes ≡ o → read_licence_of bytes key ≡ Err fault) [
      | None ↦ λ e. read_parts key bytes None e ∙ ap Err (sym is)
      | Some parts ↦ λ e. absurd (none parts.0 parts.1 (parts_show bytes parts.0 parts.1 e))
    ] refl
read_licence_of-cause key bytes fault (OtherSeal seal body is sealed other) =
    read_parts key bytes (Some (seal, body)) (parts_take bytes seal body sealed) ∙ under_wrong key seal body other ∙ ap Err (sym is)
read_licence_of-cause key bytes fault (BadBody body sealed refused) =
    read_parts key bytes (Some (hmac key body, body)) (parts_take bytes (hmac key body) body sealed) ∙ under_right key body ∙ read_body_from-cause 2 body fault refused

-- ---- the steps of a reader

-- what follows from the test whether two seals differ
pub seals_differ : (told : Bool) (given made : List ℕ) → told ≡ not (pointwise nat_eq given made) → told ≡ true → given ≡ made → ⊥
seals_differ told given made test differ same =
    let self : pointwise nat_eq given made ≡ true = ap (λ (s : List ℕ). pointwise nat_eq s made) same ∙ pointwise-self made in
    true≢false (sym differ ∙ test ∙ ap not self)

pub seals_agree : (told : Bool) (given made : List ℕ) → told ≡ not (pointwise nat_eq given made) → told ≡ false → given ≡ made
seals_agree told given made test agree = pointwise-same given made (was_true (pointwise nat_eq given made) (sym test ∙ agree))
  where
    was_true : (b : Bool) → not b ≡ false → b ≡ true
    was_true true h = refl
    was_true false h = sym h

pub read_licence_of-no_line : (key bytes : List ℕ) → cut_at line_feed bytes ≡ None → read_licence_of bytes key ≡ Err (BadLicence 1)
unfolding read_licence_of
read_licence_of-no_line key bytes none = rw none refl

pub read_licence_of-no_seal : (key bytes line body : List ℕ) → cut_at line_feed bytes ≡ Some (line, body) → bytes_after seal_word 32 line ≡ None → read_licence_of bytes key ≡ Err (BadLicence 1)
unfolding read_licence_of
read_licence_of-no_seal key bytes line body some none =
    ap (λ o. read_under_seal key (option_and_then (λ (p : Parts). option_map (λ s. (s, p.1)) (bytes_after seal_word 32 p.0)) o)) some
    ∙ ap (λ o. read_under_seal key (option_map (λ s. (s, body)) o)) none

parts_read : (bytes line body seal : List ℕ) → cut_at line_feed bytes ≡ Some (line, body) → bytes_after seal_word 32 line ≡ Some seal → seal_and_body bytes ≡ Some (seal, body)
parts_read bytes line body seal some digits =
    ap (λ o. option_and_then (λ (p : Parts). option_map (λ s. (s, p.1)) (bytes_after seal_word 32 p.0)) o) some
    ∙ ap (λ o. option_map (λ s. (s, body)) o) digits

pub read_licence_of-other_seal : (key bytes line body seal made : List ℕ) → cut_at line_feed bytes ≡ Some (line, body) → bytes_after seal_word 32 line ≡ Some seal
    → made ≡ hmac key body → (seal ≡ made → ⊥) → read_licence_of bytes key ≡ Err (BadSeal seal made)
read_licence_of-other_seal key bytes line body seal made some digits tag other =
    read_parts key bytes (Some (seal, body)) (parts_read bytes line body seal some digits) ∙ under_wrong key seal body (λ same. other (same ∙ sym tag))
    ∙ ap (λ (m : List ℕ). Err (BadSeal seal m)) (sym tag)

pub read_licence_of-right_seal : (key bytes line body seal made : List ℕ) → cut_at line_feed bytes ≡ Some (line, body) → bytes_after seal_word 32 line ≡ Some seal
    → made ≡ hmac key body → seal ≡ made → read_licence_of bytes key ≡ read_body_from 2 body
read_licence_of-right_seal key bytes line body seal made some digits tag same =
    read_parts key bytes (Some (seal, body)) (parts_read bytes line body seal some digits)
    ∙ ap (λ (s : List ℕ). read_under_seal key (Some (s, body))) (same ∙ tag) ∙ under_right key body

-- ---- what sealing writes

-- The fault of a body is that of its sealing.
pub sealed_text_of-refused : (key body : List ℕ) (fault : LicenceFault) → read_body_of body ≡ Err fault → sealed_text_of body key ≡ Err fault
unfolding sealed_text_of
sealed_text_of-refused key body fault refused = rw refused refl

pub sealed_text_of-read : (key body : List ℕ) (licence : Licence) → read_body_of body ≡ Ok licence → sealed_text_of body key ≡ Ok (sealed_text body key)
unfolding sealed_text_of
sealed_text_of-read key body licence read = rw read refl

-- What is written is the sealed text of a body that can be read.
pub sealed_text_of-ok : (key body text : List ℕ) → sealed_text_of body key ≡ Ok text → text ≡ sealed_text body key
unfolding sealed_text_of
sealed_text_of-ok key body text h =
    let read = bind-ok (read_body_of body) (λ licence. Ok (sealed_text body key)) text h in
    sym (same_value (sealed_text body key) text read.2)

pub sealed_text_of-fault : (key body : List ℕ) (fault : LicenceFault) → sealed_text_of body key ≡ Err fault → read_body_of body ≡ Err fault
unfolding sealed_text_of
sealed_text_of-fault key body fault h =
    elim (bind-err (read_body_of body) (λ licence. Ok (sealed_text body key)) fault h) [
      | inl refused ↦ refused
      | inr made ↦ absurd (not_both (sealed_text body key) fault made.2)
    ]

sealed_text-is_sealed : (key body : List ℕ) → IsSealed (sealed_text body key) (hmac key body) body
sealed_text-is_sealed key body = record {
  line = seal_word ++ encode_lower (hmac key body);
  digits = (encode_lower (hmac key body), refl, decode_sized-encode_lower (hmac key body) 32 (hmac-size key body) (hmac-bytes key body));
  text = refl;
}

-- What is sealed is read under the same key.
pub sealed_text_of-again : (key body text : List ℕ) (licence : Licence) → read_body_of body ≡ Ok licence → sealed_text_of body key ≡ Ok text → read_licence_of text key ≡ Ok licence
sealed_text_of-again key body text licence read written =
    ap (λ (t : List ℕ). read_licence_of t key) (sealed_text_of-ok key body text written)
    ∙ read_licence_of-said key (sealed_text body key) licence (record {
      body = body;
      is_sealed = sealed_text-is_sealed key body;
      says = read_body_from-says 1 body licence read;
    })

-- It has 70 bytes more.
pub length-sealed_text_of : (key body text : List ℕ) → sealed_text_of body key ≡ Ok text → length text ≡ 70 + length body
length-sealed_text_of key body text written =
    let same = ap (length {A = ℕ}) (sealed_text_of-ok key body text written) in
    let digits = length-encode_with lower_digits (hmac key body) in
    let size = hmac-size key body in
    let a = length-append seal_word (encode_lower (hmac key body) ++ (line_feed ∷ body)) in
    let b = length-append (encode_lower (hmac key body)) (line_feed ∷ body) in
    omega (arith, same, digits, size, a, b)
