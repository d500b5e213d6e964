-- The byte offset after a head that was read in two parts.
use Rattle.std.proofs.Common.{◌≡◌, ℕ, ◌+◌, ◌/◌, ◌≤◌, Option, Some, None, List, length, take}
use Rattle.std.proofs.Common.{ap, refl, sym, ◌∙◌, subst, arith}
use Rattle.std.proofs.lemmas.Option.{same_Some}
use Rattle.std.specs.Prelude.{IfOk, IfSome, OnOk, Result, Ok, Err}
use Rattle.std.specs.Option.{option_and_then}
use Rattle.acl_bits.specs.Row.{IsRow}
use Rattle.acl_outside.specs.declared.read_fault.ReadFault.{ReadFault}
use Rattle.skip_decode.specs.StreamHeads.{head_at, inner_at, inner_bit, number_width, take_within, whole_head}
use Rattle.skip_decode.specs.declared.head.Head.{Head}
use Rattle.skip_decode.specs.inside.HeadReading.{head_bytes}
use Rattle.skip_decode.proofs.HeadExact.{head-size, taken_within}
use Rattle.skip_decode.proofs.StepKinds.{and_then_some}

-- What is true at the end of the bytes read is true at the end of the head.
pub read-to : (result : Result (Option Head) ReadFault) (members : List ℕ) (w place front long number inner : ℕ) (before after : List ℕ)
    (is_true : ℕ → Type 0) → IsRow members → number ≡ number_width (length members) → long ≡ head_bytes (length members) number inner w
    → inner_bit number (take front before) ≡ Some inner
    → OnOk result (take front after ≡ take front before)
    → IfOk result (λ found. IfSome found (λ head. whole_head members w (take long after) ≡ Some head))
    → IfOk result (λ found. IfSome found (λ head. is_true (place + long)))
    → IfOk result (λ found. IfSome found (λ head. is_true (place + head.bytes)))
read-to (Ok None) members w place front long number inner before after is_true row counted size bit same whole so = tt
read-to (Ok (Some head)) members w place front long number inner before after is_true row counted size bit same whole so =
    let bits : inner_bit (number_width (length members)) (take front after) ≡ Some inner =
    ap (λ l. inner_bit (number_width (length members)) l) same ∙ ap (λ n. inner_bit n (take front before)) (sym counted) ∙ bit in
    let sizes : long ≡ head.bytes =
    size ∙ ap (λ n. head_bytes (length members) n inner w) counted ∙ head-size members w front long inner after head row bits whole in
    subst (λ (n : ℕ). is_true (place + n)) sizes so
read-to (Err fault) members w place front long number inner before after is_true row counted size bit same whole so = tt

-- ---- where a head ends

-- The size of the head at the start of some bytes is the one by its bit for a tag set.
head-ends : (members : List ℕ) (w left : ℕ) (bytes : List ℕ) (head : Head) → IsRow members
    → head_at members w left bytes ≡ Some head
    → (inner : ℕ) × (inner_at (number_width (length members)) left bytes ≡ Some inner)
    × (head_bytes (length members) (number_width (length members)) inner w ≡ head.bytes)
unfolding head_at inner_at
head-ends members w left bytes head row is =
    let number : ℕ = number_width (length members) in
    let inner = and_then_some
    (λ (i : ℕ). option_and_then (whole_head members w)
    (take_within left (head_bytes (length members) number i w) bytes))
    (inner_at number left bytes) head is in
    let n : ℕ = head_bytes (length members) number inner.0 w in
    let own = and_then_some (whole_head members w) (take_within left n bytes) head inner.2 in
    let front = and_then_some (inner_bit number) (take_within left ((9 + number) / 8) bytes) inner.0 inner.1 in
    let early = taken_within left ((9 + number) / 8) bytes front.0 front.1 in
    let late = taken_within left n bytes own.0 own.1 in
    let bit : inner_bit number (take ((9 + number) / 8) bytes) ≡ Some inner.0 =
    ap (inner_bit number) early.1 ∙ front.2 in
    let whole : whole_head members w (take n bytes) ≡ Some head = ap (whole_head members w) late.1 ∙ own.2 in
    (inner.0, inner.1, head-size members w ((9 + number) / 8) n inner.0 bytes head row bit whole)

module _ (is_true : ℕ → Type 0) (members : List ℕ) (w place left number : ℕ) (bytes : List ℕ) (row : IsRow members)
    (counted : number ≡ number_width (length members)) where
  -- What is true from the end of a head's first bytes on is true at the end of the head.
  pub head-later : ((n : ℕ) → place + (9 + number) / 8 ≤ n → is_true n)
      → IfSome (head_at members w left bytes) (λ head. is_true (place + head.bytes))
  head-later so = by (head_at members w left bytes) refl
    where
      by : (o : Option Head) → head_at members w left bytes ≡ o → IfSome o (λ head. is_true (place + head.bytes))
      by None is = tt
      by (Some head) is =
          let ends = head-ends members w left bytes head row is in
          let size = ends.2 in
          so (place + head.bytes) (omega (arith, counted, size))

  -- What is true at the end by the bit that was read is true at the end of the head.
  pub head-by_bit : (inner long : ℕ) → long ≡ head_bytes (length members) number inner w
      → Some inner ≡ inner_at number left bytes → is_true (place + long)
      → IfSome (head_at members w left bytes) (λ head. is_true (place + head.bytes))
  head-by_bit inner long size bit so = by (head_at members w left bytes) refl
    where
      by : (o : Option Head) → head_at members w left bytes ≡ o → IfSome o (λ head. is_true (place + head.bytes))
      by None is = tt
      by (Some head) is =
          let ends = head-ends members w left bytes head row is in
          let same : inner ≡ ends.0 = same_Some inner ends.0 (bit ∙ ap (λ n. inner_at n left bytes) counted ∙ ends.1) in
          let all : long ≡ head.bytes =
          size ∙ ap (λ n. head_bytes (length members) n inner w) counted
          ∙ ap (λ i. head_bytes (length members) (number_width (length members)) i w) same ∙ ends.2 in
          subst (λ (n : ℕ). is_true (place + n)) all so
