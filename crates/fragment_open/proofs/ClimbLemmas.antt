-- What the reads of an opening show after one more level.
use Rattle.std.proofs.Common.{◌≡◌, ℕ, zero, suc, ◌+◌, ◌*◌, ◌<◌, ◌≤◌, Bool, true, false, ◌&&◌, List, [], ◌∷◌, ◌++◌, length, map, refl, sym, ap, ◌∙◌, subst, inl, inr, arith, add-one, length-append, append_assoc, append-nil, true≢false}
use Rattle.std.specs.Prelude.{Option, Some, None, is_some, nat_eq, option_map, option_and_then, if◌then◌else◌}
use Rattle.std.specs.List.{list_all, slice_get}
use Rattle.std.proofs.lemmas.Bool.Decides.{eqb_tells}
use Rattle.sha2.specs.Sha256.{sha256}
use Rattle.sha2.proofs.Facts256.{length-sha256}
use Rattle.acl_outside.specs.Outside.{StoreRead}
use Rattle.acl_outside.specs.declared.read_fault.ReadFault.{ReadFault}
use Rattle.acl_outside.specs.declared.read_fault.ReadFault.TheVariants.{StoreFault, StoreShort}
use Rattle.merkle_chunks.specs.Strings.{absent_child, leaf_string}
use Rattle.fragment_open.specs.Openings.{Opening, index_of}
use Rattle.fragment_open.specs.Asks.{ask_of, has_sibling, index_at, sibling_ask, sibling_asks, siblings_below}
use Rattle.fragment_open.specs.Served.{whole}
use Rattle.fragment_open.specs.Hashed.{digest_at, parent_string, sibling_digest, string_at}
use Rattle.fragment_open.specs.CallReads.{IsCut, Told, is_whole}
use Rattle.fragment_open.specs.inside.Climbing.{Climbs, Ends, IsAsked, IsBegun, IsClimbed, IsEnded, IsSibling, LacksSibling}
use Rattle.fragment_open.proofs.ClashLemmas.{both_true, and_true}
use Rattle.fragment_open.proofs.TreeLemmas.{if_true, if_false}
use Rattle.fragment_open.proofs.PathLemmas.{chained, got, mapped, string_at-above, string_at-below}

-- ---- what contracts see of reads

pub Told-trans : (a b c : Option (List StoreRead)) (P Q R : List StoreRead → Type 0) → Told a b P → Told b c Q → ((t u : List StoreRead) → P t → Q u → R (t ++ u)) → Told a c R
Told-trans None None None P Q R p q both = tt
Told-trans None None (Some c) P Q R p q both = absurd q
Told-trans None (Some b) c P Q R p q both = absurd p
Told-trans (Some a) None c P Q R p q both = absurd p
Told-trans (Some a) (Some b) None P Q R p q both = absurd q
Told-trans (Some a) (Some b) (Some c) P Q R p q both =
    (p.0 ++ q.0, q.1 ∙ ap (λ (l : List StoreRead). l ++ q.0) p.1 ∙ append_assoc a p.0 q.0, both p.0 q.0 p.2 q.2)

pub Told-none : (a : Option (List StoreRead)) (P : List StoreRead → Type 0) → P [] → Told a a P
Told-none None P p = tt
Told-none (Some a) P p = ([], sym (append-nil a), p)

pub Told-weaker : (a b : Option (List StoreRead)) (P Q : List StoreRead → Type 0) → Told a b P → ((t : List StoreRead) → P t → Q t) → Told a b Q
Told-weaker None None P Q p weaker = tt
Told-weaker None (Some b) P Q p weaker = absurd p
Told-weaker (Some a) None P Q p weaker = absurd p
Told-weaker (Some a) (Some b) P Q p weaker = (p.0, p.1, weaker p.0 p.2)

-- ---- lists

pub slice_get-longer : {X : Type 0} (xs ys : List X) (k : ℕ) (x : X) → slice_get xs k ≡ Some x → slice_get (xs ++ ys) k ≡ Some x
slice_get-longer [] ys k x h = absurd (true≢false (sym (ap is_some h)))
slice_get-longer (y ∷ xs) ys zero x h = h
slice_get-longer (y ∷ xs) ys (suc k) x h = slice_get-longer xs ys k x h

pub slice_get-after : {X : Type 0} (xs ys : List X) (k : ℕ) → k ≡ length xs → slice_get (xs ++ ys) k ≡ slice_get ys 0
slice_get-after [] ys k h = ap (slice_get ys) h
slice_get-after (x ∷ xs) ys zero h = absurd (omega (arith, h))
slice_get-after (x ∷ xs) ys (suc k) h = slice_get-after xs ys k (omega (arith, h))

pub all_whole-append : (xs ys : List StoreRead) → list_all is_whole xs ≡ true → list_all is_whole ys ≡ true → list_all is_whole (xs ++ ys) ≡ true
all_whole-append [] ys a b = b
all_whole-append (x ∷ xs) ys a b = let p = both_true (is_whole x) (list_all is_whole xs) a in and_true (is_whole x) (list_all is_whole (xs ++ ys)) p.0 (all_whole-append xs ys p.1 b)

pub map_ask-append : (xs ys : List StoreRead) → map ask_of (xs ++ ys) ≡ map ask_of xs ++ map ask_of ys
map_ask-append [] ys = refl
map_ask-append (x ∷ xs) ys = ap (λ (l : List (ℕ × ℕ)). ask_of x ∷ l) (map_ask-append xs ys)

pub length-map_ask : (xs : List StoreRead) → length (map ask_of xs) ≡ length xs
length-map_ask [] = refl
length-map_ask (x ∷ xs) = ap (λ (n : ℕ). suc n) (length-map_ask xs)

-- ---- openings

-- an opening with further reads after its siblings
abbrev pub with_more : Opening → List StoreRead → Opening
with_more o more = record { leaf = o.leaf; siblings = o.siblings ++ more }

pub length-sibling_asks : (n i l : ℕ) → length (sibling_asks n i l) ≡ siblings_below n i l
length-sibling_asks n i zero = refl
length-sibling_asks n i (suc l) =
    length-append (sibling_asks n i l) (sibling_ask n i l)
    ∙ elim (has_sibling n i l) as (λ (v : Bool). (place : ℕ × ℕ) → length (sibling_asks n i l) + length (if v then place ∷ [] else []) ≡ siblings_below n i l + (if v then 1 else 0)) [
      | true ↦ λ place. omega (arith, length-sibling_asks n i l)
      | false ↦ λ place. omega (arith, length-sibling_asks n i l)
    ] _

pub asked-index : (n i l : ℕ) (o : Opening) (reads : List StoreRead) → IsAsked n i l o reads → index_of o ≡ i
asked-index n i l o reads a = let at : o.leaf.at ≡ 64 + 256 * i = ap (λ (p : ℕ × ℕ). p.0) a.leaf in omega (arith, at)

-- an opening has the siblings below its level
siblings_taken : (n i l : ℕ) (o : Opening) (reads : List StoreRead) → IsAsked n i l o reads → siblings_below n (index_of o) l ≡ length o.siblings
siblings_taken n i l o reads a =
    ap (λ (k : ℕ). siblings_below n k l) (asked-index n i l o reads a) ∙ sym (sym (length-map_ask o.siblings) ∙ ap length a.siblings ∙ length-sibling_asks n i l)

sibling_digest-more : (n : ℕ) (o : Opening) (more : List StoreRead) (l : ℕ) (s : List ℕ) → sibling_digest n o l ≡ Some s → sibling_digest n (with_more o more) l ≡ Some s
sibling_digest-more n o more l s h =
    elim (has_sibling n (index_of o) l) as (λ (v : Bool). (if v then option_and_then (whole 32) (slice_get o.siblings (siblings_below n (index_of o) l)) else Some absent_child) ≡ Some s
    → (if v then option_and_then (whole 32) (slice_get (o.siblings ++ more) (siblings_below n (index_of o) l)) else Some absent_child) ≡ Some s) [
      | true ↦ λ e.
          let r = chained (whole 32) (slice_get o.siblings (siblings_below n (index_of o) l)) s e in
          ap (option_and_then (whole 32)) (slice_get-longer o.siblings more (siblings_below n (index_of o) l) r.0 r.1) ∙ r.2
      | false ↦ λ e. e
    ] h

-- more siblings change no string that there is
pub string_at-more : (n : ℕ) (o : Opening) (more : List StoreRead) (l : ℕ) (x : List ℕ) → string_at sha256 n o l ≡ Some x → string_at sha256 n (with_more o more) l ≡ Some x
unfolding string_at
string_at-more n o more zero x h = h
string_at-more n o more (suc l) x h =
    let below = string_at-above sha256 length-sha256 n o l x h in
    ap (option_and_then (λ string. option_map (parent_string (index_at (index_of o) l) (sha256 string)) (sibling_digest n (with_more o more) l))) (string_at-more n o more l below.0 below.2)
    ∙ ap (option_map (parent_string (index_at (index_of o) l) (sha256 below.0))) (sibling_digest-more n o more l below.1 below.3)
    ∙ ap (λ (s : List ℕ). Some s) below.4

more_asked : (n i l : ℕ) (o : Opening) (reads more : List StoreRead) → IsAsked n i l o reads → map ask_of more ≡ sibling_ask n i l → IsAsked n i (suc l) (with_more o more) (reads ++ more)
more_asked n i l o reads more a same = record {
  all = ap (λ (l : List StoreRead). l ++ more) a.all;
  leaf = a.leaf;
  siblings = map_ask-append o.siblings more ∙ (λ j. a.siblings j ++ same j);
}

-- one level more, with the sibling's digest
pub climb_more : (n i l : ℕ) (d s : List ℕ) (reads more : List StoreRead) → IsClimbed n i l d reads → IsSibling n i l s more
    → IsClimbed n i (suc l) (sha256 (parent_string (index_at i l) d s)) (reads ++ more)
unfolding string_at
climb_more n i l d s reads more c b =
    let o : Opening = c.opening in
    let index : index_of o ≡ i = asked-index n i l o reads c.asked in
    let x = mapped sha256 (string_at sha256 n o l) d c.folds in
    let count : siblings_below n i l ≡ length o.siblings = sym (sym (length-map_ask o.siblings) ∙ ap length c.asked.siblings ∙ length-sibling_asks n i l) in
    let after : slice_get (o.siblings ++ more) (siblings_below n i l) ≡ slice_get more 0 = slice_get-after o.siblings more (siblings_below n i l) count in
    let digest : sibling_digest n (with_more o more) l ≡ Some s =
    (λ j. if has_sibling n (index j) l then option_and_then (whole 32) (slice_get (o.siblings ++ more) (siblings_below n (index j) l)) else Some absent_child)
    ∙ ap (λ (r : Option StoreRead). if has_sibling n i l then option_and_then (whole 32) r else Some absent_child) after ∙ b.gives in
    record {
      opening = with_more o more;
      asked = more_asked n i l o reads more c.asked b.asked;
      all_whole = all_whole-append reads more c.all_whole b.all_whole;
      folds = ap (option_map sha256) (
          ap (option_and_then (λ string. option_map (parent_string (index_at (index_of o) l) (sha256 string)) (sibling_digest n (with_more o more) l))) (string_at-more n o more l x.0 x.1)
          ∙ ap (option_map (parent_string (index_at (index_of o) l) (sha256 x.0))) digest)
          ∙ (λ j. Some (sha256 (parent_string (index_at (index j) l) (x.2 j) s)));
    }

-- whole reads followed by reads that were cut are reads that were cut
pub cut-after : (to : ℕ) (reads more : List StoreRead) → list_all is_whole reads ≡ true → IsCut to more → IsCut to (reads ++ more)
cut-after to reads more are c = record {
  before = reads ++ c.before;
  last = c.last;
  all = ap (λ (l : List StoreRead). reads ++ l) c.all ∙ sym (append_assoc reads c.before (c.last ∷ []));
  whole = all_whole-append reads c.before are c.whole;
  short = c.short;
  place = c.place;
}

-- ---- short reads

pub less-neq : (a b : ℕ) → a < b → nat_eq a b ≡ false
less-neq a b less =
    elim (eqb_tells a b) [
      | inl p ↦ absurd (omega (arith, p.1, less))
      | inr p ↦ p.0
    ]

pub and_false : (v : Bool) → (v && false) ≡ false
and_false true = refl
and_false false = refl

and_one : (v : Bool) → (v && true) ≡ v
and_one true = refl
and_one false = refl

-- reads that were cut are not all whole
pub cut-not_whole : (to : ℕ) (reads : List StoreRead) → IsCut to reads → list_all is_whole reads ≡ false
cut-not_whole to reads c = ap (list_all is_whole) c.all ∙ after c.before
  where
    after : (before : List StoreRead) → list_all is_whole (before ++ (c.last ∷ [])) ≡ false
    after [] = ap (λ (v : Bool). v && true) (less-neq (length c.last.bytes) c.last.asked c.short)
    after (x ∷ before) = ap (λ (v : Bool). is_whole x && v) (after before) ∙ and_false (is_whole x)

-- a single read that is short did not give the bytes that were asked for
pub one_short : (size : ℕ) (r : StoreRead) → r.asked ≡ size → list_all is_whole (r ∷ []) ≡ false → whole size r ≡ None
one_short size r asked short =
    if_false (nat_eq (length r.bytes) size) (Some r.bytes) None
    (ap (λ (n : ℕ). nat_eq (length r.bytes) n) (sym asked) ∙ sym (and_one (is_whole r)) ∙ short)

abbrev pub first_asked : List (ℕ × ℕ) → ℕ
first_asked [] = 0
first_asked (a ∷ asks) = a.1

-- a short read of a sibling is of one that the table has, and gave no digest
cut_sibling : (n i l : ℕ) (more : List StoreRead) → map ask_of more ≡ sibling_ask n i l → list_all is_whole more ≡ false
    → (has_sibling n i l ≡ true) × (option_and_then (whole 32) (slice_get more 0) ≡ None)
cut_sibling n i l more same short =
    elim (has_sibling n i l) as (λ (v : Bool). (place : ℕ) → map ask_of more ≡ (if v then (place, 32) ∷ [] else []) → (v ≡ true) × (option_and_then (whole 32) (slice_get more 0) ≡ None)) [
      | true ↦ λ place asked. (refl, lone more short (ap first_asked asked) (sym (length-map_ask more) ∙ ap length asked))
      | false ↦ λ place asked. absurd (some more short (sym (length-map_ask more) ∙ ap length asked))
    ] _ same
  where
    some : (reads : List StoreRead) → list_all is_whole reads ≡ false → length reads ≡ 0 → ⊥
    some [] short none = true≢false short
    some (r ∷ reads) short none = omega (arith, none)

    lone : (reads : List StoreRead) → list_all is_whole reads ≡ false → first_asked (map ask_of reads) ≡ 32 → length reads ≡ 1 → option_and_then (whole 32) (slice_get reads 0) ≡ None
    lone [] short asked one = refl
    lone (r ∷ []) short asked one = one_short 32 r asked short
    lone (r ∷ q ∷ reads) short asked one = absurd (omega (arith, one))

slice_get-end : {X : Type 0} (xs : List X) (k : ℕ) → k ≡ length xs → slice_get xs k ≡ None
slice_get-end [] k h = refl
slice_get-end (x ∷ xs) zero h = absurd (omega (arith, h))
slice_get-end (x ∷ xs) (suc k) h = slice_get-end xs k (omega (arith, h))

-- ---- openings that give no digest

none_unless : {A : Type 0} (o : Option A) → ((x : A) → o ≡ Some x → ⊥) → o ≡ None
none_unless None no'where = refl
none_unless (Some x) no'where = absurd (no'where x refl)

-- without the fragment's bytes there is no digest
pub lacks_leaf : (n : ℕ) (o : Opening) → nat_eq (length o.leaf.bytes) 256 ≡ false → digest_at sha256 n o 0 ≡ None
unfolding string_at
lacks_leaf n o short =
    ap (λ (b : Option (List ℕ)). option_map sha256 (option_map (leaf_string (index_of o)) b)) (if_false (nat_eq (length o.leaf.bytes) 256) (Some o.leaf.bytes) None short)

-- without a sibling that the table has there is no digest on the level above
lacks_above : (n : ℕ) (o : Opening) (l : ℕ) → has_sibling n (index_of o) l ≡ true → option_and_then (whole 32) (slice_get o.siblings (siblings_below n (index_of o) l)) ≡ None
    → digest_at sha256 n o (suc l) ≡ None
lacks_above n o l has none =
    none_unless (digest_at sha256 n o (suc l)) (λ d there.
    let x = mapped sha256 (string_at sha256 n o (suc l)) d there in
    let parts = string_at-above sha256 length-sha256 n o l x.0 x.1 in
    let absent : sibling_digest n o l ≡ None =
    if_true (has_sibling n (index_of o) l) (option_and_then (whole 32) (slice_get o.siblings (siblings_below n (index_of o) l))) (Some absent_child) has ∙ none in
    true≢false (sym (ap is_some (sym absent ∙ parts.3))))

-- and where there is no digest on a level, there is none higher
pub lacks_higher : (n : ℕ) (o : Opening) (low high : ℕ) → low ≤ high → digest_at sha256 n o low ≡ None → digest_at sha256 n o high ≡ None
lacks_higher n o low high le none =
    none_unless (digest_at sha256 n o high) (λ d there.
    let x = mapped sha256 (string_at sha256 n o high) d there in
    let y = got (string_at sha256 n o low) (string_at-below sha256 length-sha256 n o high low le (ap is_some x.1)) in
    true≢false (sym (ap is_some (sym none ∙ ap (option_map sha256) y.1))))

-- without the sibling the opening ends
pub ends_here : (n i l : ℕ) (d : List ℕ) (fault : ReadFault) (more : List StoreRead) → LacksSibling n i l fault more → Ends n i l d (suc l) fault more
ends_here n i l d (StoreShort to) more h reads c =
    let o : Opening = c.opening in
    let cut = cut_sibling n i l more h.0 (cut-not_whole to more h.1) in
    let index : index_of o ≡ i = asked-index n i l o reads c.asked in
    let after : slice_get (o.siblings ++ more) (siblings_below n (index_of o) l) ≡ slice_get more 0 =
    slice_get-after o.siblings more (siblings_below n (index_of o) l) (siblings_taken n i l o reads c.asked) in (
      record {
        opening = with_more o more;
        level = suc l;
        low = omega arith;
        asked = more_asked n i l o reads more c.asked h.0;
        lacks = lacks_above n (with_more o more) l (ap (λ (k : ℕ). has_sibling n k l) index ∙ cut.0) (ap (option_and_then (whole 32)) after ∙ cut.1);
      },
      cut-after to reads more c.all_whole h.1,
    )
ends_here n i l d StoreFault more h reads c =
    let o : Opening = c.opening in
    let same : reads ++ more ≡ reads = ap (λ (m : List StoreRead). reads ++ m) h.0 ∙ append-nil reads in
    let index : index_of o ≡ i = asked-index n i l o reads c.asked in
    let none : slice_get o.siblings (siblings_below n (index_of o) l) ≡ None = slice_get-end o.siblings (siblings_below n (index_of o) l) (siblings_taken n i l o reads c.asked) in
    let P : List StoreRead → Type 0 = λ r. IsBegun n i (suc l) r in (
      subst P (sym same) (record {
        opening = o;
        level = l;
        low = omega arith;
        asked = c.asked;
        lacks = lacks_above n o l (ap (λ (k : ℕ). has_sibling n k l) index ∙ h.1) (ap (option_and_then (whole 32)) none);
      }),
      ap (list_all is_whole) same ∙ c.all_whole,
    )
ends_here n i l d _ more h reads c = absurd h

-- ---- several levels

begun_higher : (n i low high : ℕ) (reads : List StoreRead) → low ≤ high → IsBegun n i low reads → IsBegun n i high reads
begun_higher n i low high reads le b = record {
  opening = b.opening;
  level = b.level;
  low = omega (arith, le, b.low);
  asked = b.asked;
  lacks = lacks_higher n b.opening low high le b.lacks;
}

pub ends_higher : (n i low high : ℕ) (fault : ReadFault) (reads : List StoreRead) → low ≤ high → IsEnded n i low fault reads → IsEnded n i high fault reads
ends_higher n i low high (StoreShort to) reads le h = (begun_higher n i low high reads le h.0, h.1)
ends_higher n i low high StoreFault reads le h = (begun_higher n i low high reads le h.0, h.1)
ends_higher n i low high _ reads le h = absurd h

pub Climbs-none : (n i l : ℕ) (d : List ℕ) → Climbs n i l d l d []
Climbs-none n i l d reads c = subst (IsClimbed n i l d) (sym (append-nil reads)) c

pub Climbs-trans : (n i l m h : ℕ) (d e f : List ℕ) (t u : List StoreRead) → Climbs n i l d m e t → Climbs n i m e h f u → Climbs n i l d h f (t ++ u)
Climbs-trans n i l m h d e f t u a b reads c = subst (IsClimbed n i h f) (append_assoc reads t u) (b (reads ++ t) (a reads c))

pub Ends-after : (n i l m goal high : ℕ) (d e : List ℕ) (fault : ReadFault) (t u : List StoreRead) → goal ≤ high → Climbs n i l d m e t → Ends n i m e goal fault u → Ends n i l d high fault (t ++ u)
Ends-after n i l m goal high d e fault t u le a b reads c =
    subst (IsEnded n i high fault) (append_assoc reads t u) (ends_higher n i goal high fault ((reads ++ t) ++ u) le (b (reads ++ t) (a reads c)))

-- ---- in the form of the code's contracts

pub ends_step : (n i l : ℕ) (d : List ℕ) (fault : ReadFault) (more : List StoreRead) → LacksSibling n i l fault more → Ends n i l d (l + 1) fault more
ends_step n i l d fault more h = let P : ℕ → Type 0 = λ m. Ends n i l d m fault more in subst P (sym (add-one l)) (ends_here n i l d fault more h)

pub climb_step : (n i l m : ℕ) (d s e : List ℕ) (more : List StoreRead) → m ≡ l + 1 → e ≡ sha256 (parent_string (index_at i l) d s) → IsSibling n i l s more → Climbs n i l d m e more
climb_step n i l m d s e more level digest b reads c =
    let P : ℕ → Type 0 = λ k. IsClimbed n i k e (reads ++ more) in
    subst P (sym (level ∙ add-one l)) (subst (λ f. IsClimbed n i (suc l) f (reads ++ more)) (sym digest) (climb_more n i l d s reads more c b))

pub told_climb : (a b c : Option (List StoreRead)) (n i n' i' l m h : ℕ) (d e f : List ℕ) → n' ≡ n → i' ≡ i → Told a b (Climbs n i l d m e) → Told b c (Climbs n' i' m e h f) → Told a c (Climbs n i l d h f)
told_climb a b c n i n' i' l m h d e f same_n same_i p q =
    Told-trans a b c (Climbs n i l d m e) (Climbs n' i' m e h f) (Climbs n i l d h f) p q
    (λ t u here there.
    let P : ℕ → Type 0 = λ k. Climbs k i' m e h f u in
    let Q : ℕ → Type 0 = λ k. Climbs n k m e h f u in
    Climbs-trans n i l m h d e f t u here (subst Q same_i (subst P same_n there)))

pub told_end : (a b c : Option (List StoreRead)) (n i n' i' l m goal high : ℕ) (d e : List ℕ) (fault : ReadFault) → n' ≡ n → i' ≡ i → goal ≤ high → Told a b (Climbs n i l d m e) → Told b c (Ends n' i' m e goal fault)
    → Told a c (Ends n i l d high fault)
told_end a b c n i n' i' l m goal high d e fault same_n same_i le p q =
    Told-trans a b c (Climbs n i l d m e) (Ends n' i' m e goal fault) (Ends n i l d high fault) p q
    (λ t u here there.
    let P : ℕ → Type 0 = λ k. Ends k i' m e goal fault u in
    let Q : ℕ → Type 0 = λ k. Ends n k m e goal fault u in
    Ends-after n i l m goal high d e fault t u le here (subst Q same_i (subst P same_n there)))
