-- The head of an element that begins, as the encoder writes it, and what its tests have shown.
use Rattle.std.proofs.Common.{◌≡◌, ℕ, ◌+◌, ◌-◌, ◌<◌, ◌≤◌, true, ◌&&◌, nat_eq, nat_le, nat_lt, Some, List, [], ◌∷◌, ◌++◌, length, drop, ap, sym, ◌∙◌, subst, arith, inl, inr, All, length-append}
use Rattle.std.specs.Cmp.{first_so, second_so}
use Rattle.std.proofs.lemmas.Bool.{true≢false}
use Rattle.std.proofs.lemmas.Bool.Decides.{nat_tests}
use Rattle.std.proofs.lemmas.List.Elements.{All-head, All-tail, All-drop}
use Rattle.acl_bits.specs.Row.{is_member, IsRow}
use Rattle.acl_model.specs.StreamBits.{bytes_of}
use Rattle.acl_model.specs.Stream.{bytes_of_segments, size, head_bits, Branch, element_part}
use Rattle.acl_model.proofs.SizeLaws.{length-bytes_of}
use Rattle.acl_walk.specs.declared.event.Event.TheVariants.{Begin}
use Rattle.skip_decode.specs.declared.head.Head.{Head}
use Rattle.skip_decode.specs.declared.position.Level.{Level}
use Rattle.skip_decode.specs.declared.position.Next.TheVariants.{Count}
use Rattle.skip_decode.specs.StreamHeads.{number_width, head_at}
use Rattle.skip_decode.specs.StreamSteps.{Step, Open, inner_of, saved_bytes, parent_with, level_of, may_begin, begun_with, element_begun}
use Rattle.skip_decode.specs.inside.HeadReading.{head_bytes}
use Rattle.skip_decode.proofs.HeadExact.{Exact, head_exact}
use Rattle.skip_decode.proofs.Heads.{head_bytes-counted}
use Rattle.skip_decode.proofs.HeldNames.{either}
use Rattle.skip_decode.proofs.Sizes.{part_bytes, part_bytes-element}
use Rattle.skip_decode.proofs.StepKinds.{and_then_some, cond_some}

-- What is true of each member is true of a number that is one.
pub of_member : (P : ℕ → Type 0) (members : List ℕ) (n : ℕ) → All P members → is_member members n ≡ true → P n
unfolding is_member
of_member P [] n all there = absurd (true≢false (sym there))
of_member P (m ∷ members) n all there = elim (either (nat_eq m n) (is_member members n) there) [
  | inl same ↦ let equal : m ≡ n = grind (arith, nat_tests, same) in subst P equal (All-head P m members all)
  | inr later ↦ of_member P members n (All-tail P m members all) later
]

-- the bytes of a head with lengths in v bits
abbrev pub head_in : List ℕ → Head → ℕ → List ℕ
head_in members head v = bytes_of (head_bits members v head.tag head.below head.long)

-- the step at the head of an element
abbrev pub begin_step : Level → ℕ → Head → Step
begin_step level place head = record {
  event = Begin head.tag head.below;
  next = Count;
  place = place + head.bytes;
  change = Open (parent_with level head) (level_of place head);
}

-- An element begins with this head. It has the encoder's bytes, the depth allows the element, it ends within the
-- parent's content, and the head saves no more than the parent has to spare.
pub record BegunRead (depth : ℕ) (stream : List ℕ) (around : ℕ) (level : Level) (place : ℕ) : Type 0 where
  pub head : Head
  pub is : element_begun depth stream around level place ≡ Some (begin_step level place head)
  pub exact : Exact level.below level.width (level.end - place) (drop place stream) head
  pub deep : around < depth
  pub inside : place + (head.bytes + head.long) ≤ level.end
  pub saved : saved_bytes level head ≤ level.spare

pub begun_read : (depth : ℕ) (stream : List ℕ) (around : ℕ) (level : Level) (place : ℕ) (step : Step)
    → All (λ b. b < 256) stream → IsRow level.below → place ≤ level.end
    → element_begun depth stream around level place ≡ Some step → BegunRead depth stream around level place
unfolding element_begun begun_with
begun_read depth stream around level place step fit row before is =
    let parts = and_then_some (begun_with depth around level place)
    (head_at level.below level.width (level.end - place) (drop place stream)) step is in
    let head : Head = parts.0 in
    let may = cond_some (may_begin depth around level place head) (begin_step level place head) step parts.2 in
    let one = first_so (nat_lt around depth)
    (nat_le (head.bytes + head.long) (level.end - place) && nat_le (saved_bytes level head) level.spare) may.0 in
    let others = second_so (nat_lt around depth)
    (nat_le (head.bytes + head.long) (level.end - place) && nat_le (saved_bytes level head) level.spare) may.0 in
    let two = first_so (nat_le (head.bytes + head.long) (level.end - place))
    (nat_le (saved_bytes level head) level.spare) others in
    let three = second_so (nat_le (head.bytes + head.long) (level.end - place))
    (nat_le (saved_bytes level head) level.spare) others in
    let few : head.bytes + head.long ≤ level.end - place = grind (arith, nat_tests, two) in
    record {
      head = head;
      is = is ∙ ap Some (sym may.1);
      exact = head_exact level.below level.width (level.end - place) (drop place stream) head row
          (All-drop (λ b. b < 256) place stream fit) parts.1;
      deep = grind (arith, nat_tests, one);
      inside = omega (arith, few, before);
      saved = grind (arith, nat_tests, three);
    }

-- What a head saves is the difference of its two sizes.
pub saved_is : (level : Level) (head : Head) → head.bytes ≡ length (head_in level.below head level.width)
    → length (head_in level.below head level.width)
    ≤ saved_bytes level head + length (head_in level.below head (level.width - 1))
saved_is level head counted =
    let thin : head_bytes (length level.below) (number_width (length level.below)) (inner_of head.below)
    (level.width - 1) ≡ length (head_in level.below head (level.width - 1)) =
    head_bytes-counted level.below (level.width - 1) head.tag head.below head.long
    ∙ sym (length-bytes_of (head_bits level.below (level.width - 1) head.tag head.below head.long)) in
    omega (arith, counted, thin)

-- The branch is that of the head.
pub record IsOfHead (b : Branch) (head : Head) : Type 0 where
  pub tag : b.tag ≡ head.tag
  pub below : b.below ≡ head.below
  pub long : size b.content ≡ head.long

-- The bytes of a branch with this head are the bytes of the head, and then those of its content.
pub branch_bytes : (members : List ℕ) (b : Branch) (head : Head) (v : ℕ) → IsOfHead b head
    → part_bytes members v (element_part b) ≡ head_in members head v ++ bytes_of_segments b.content
branch_bytes members b head v same =
    part_bytes-element members v b
    ∙ ap (λ t. bytes_of (head_bits members v t b.below (size b.content)) ++ bytes_of_segments b.content) same.tag
    ∙ ap (λ m. bytes_of (head_bits members v head.tag m (size b.content)) ++ bytes_of_segments b.content) same.below
    ∙ ap (λ n. bytes_of (head_bits members v head.tag head.below n) ++ bytes_of_segments b.content) same.long

pub branch_long : (members : List ℕ) (b : Branch) (head : Head) (v : ℕ) → IsOfHead b head
    → length (part_bytes members v (element_part b)) ≡ length (head_in members head v) + head.long
unfolding size
branch_long members b head v same =
    ap (λ (l : List ℕ). length l) (branch_bytes members b head v same)
    ∙ length-append (head_in members head v) (bytes_of_segments b.content)
    ∙ ap (λ n. length (head_in members head v) + n) same.long
