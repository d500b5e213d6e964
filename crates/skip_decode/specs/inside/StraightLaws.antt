-- The laws of going straight, as the trait `Walk` has them.
use Rattle.std.proofs.Common.{◌≡◌, ℕ, ◌+◌, ◌*◌, ◌<◌, ◌≤◌, ◌⊎◌, Option, Some, None, List, [], ◌∷◌, ◌++◌, length, append_assoc, refl, ap, sym, ◌∙◌, subst, inl, inr, arith, All}
use Rattle.std.proofs.lemmas.List.Elements.{All-append, All-head, All-nil, All-tail}
use Rattle.std.proofs.lemmas.Option.{none-some}
use Rattle.acl_outside.specs.declared.read_fault.ReadFault.{ReadFault}
use Rattle.acl_walk.specs.Following.{GoesStraight}
use Rattle.skip_decode.specs.Straight.{StraightMoment, BeginsApart, IsAscending, OpenedStraight, OpensStraight, WentStraight}

-- nothing is opened
pub opened-nothing : (w v : StraightMoment) (opened : Option (List ℕ)) → OpensStraight w v opened opened
opened-nothing w v None = tt
opened-nothing w v (Some before) = record {
  more = [];
  are = refl;
  ascend = tt;
  apart = tt;
  ahead = All-nil (λ index. w.place < 256 * (index + 1));
  behind = λ quiet. All-nil (λ index. 256 * index < v.place);
  moves = λ quiet some. omega (arith, some);
}

-- A spot that goes on without an opening, in a walk that stays as it is.
pub straight-still : (w v : StraightMoment) → v.fault ≡ w.fault → v.opened ≡ w.opened → (v.fault ≡ None → w.place ≤ v.place) → WentStraight w v
straight-still w v fault opened rises = record {
  stays = λ f is. (fault ∙ is, opened);
  rises = rises;
  opens = subst (λ (o : Option (List ℕ)). OpensStraight w v w.opened o) (sym opened) (opened-nothing w v w.opened);
}

-- ---- one after the other

-- fragments that end after a byte offset, the first of which isn't the last one of those that begin before it
ascend-append : (place : ℕ) (second first before : List ℕ) → IsAscending second → IsAscending first → BeginsApart second (first ++ before)
    → All (λ index. place < 256 * (index + 1)) second → All (λ index. 256 * index < place) first → IsAscending (second ++ first)
ascend-append place [] first before up low apart ahead behind = low
ascend-append place (i ∷ []) [] before up low apart ahead behind = tt
ascend-append place (i ∷ []) (j ∷ first) before up low apart ahead behind =
    let more = All-head (λ index. place < 256 * (index + 1)) i [] ahead in
    let less = All-head (λ index. 256 * index < place) j first behind in
    (omega (arith, more, less, apart), low)
ascend-append place (i ∷ k ∷ second) first before up low apart ahead behind =
    (up.0, ascend-append place (k ∷ second) first before up.1 low apart (All-tail (λ index. place < 256 * (index + 1)) i (k ∷ second) ahead) behind)

apart-append : (second first before : List ℕ) → BeginsApart second (first ++ before) → BeginsApart first before → BeginsApart (second ++ first) before
apart-append [] first before apart begins = begins
apart-append (i ∷ []) [] before apart begins = apart
apart-append (i ∷ []) (j ∷ first) before apart begins = begins
apart-append (i ∷ k ∷ second) first before apart begins = apart-append (k ∷ second) first before apart begins

All-so : {P Q : ℕ → Type 0} (list : List ℕ) → ((i : ℕ) → P i → Q i) → All P list → All Q list
All-so list so all = λ i default less. so _ (all i default less)

-- of fragments that were opened in two stretches, some were opened in one of them
some-append : (second first : List ℕ) → 0 < length (second ++ first) → (0 < length second) ⊎ (0 < length first)
some-append [] first some = inr some
some-append (i ∷ second) first some = inl (omega arith)

module _ (u v w : StraightMoment) (first : WentStraight u v) (second : WentStraight v w) where
  -- the middle moment has no refusal, if the last has none
  quiet-middle : w.fault ≡ None → v.fault ≡ None
  quiet-middle quiet = by v.fault refl
    where
      by : (o : Option ReadFault) → v.fault ≡ o → o ≡ None
      by None is = refl
      by (Some fault) is = absurd (none-some fault (sym quiet ∙ (second.stays fault is).0))

  opened-onward : (a b c : List ℕ) → v.fault ≡ None → OpenedStraight u v a b → OpenedStraight v w b c → OpenedStraight u w a c
  opened-onward a b c quiet one two = record {
    more = two.more ++ one.more;
    are = two.are ∙ ap (λ l. two.more ++ l) one.are ∙ sym (append_assoc two.more one.more a);
    ascend = ascend-append v.place two.more one.more a two.ascend one.ascend apart two.ahead (one.behind quiet);
    apart = apart-append two.more one.more a apart one.apart;
    ahead = All-append (λ index. u.place < 256 * (index + 1)) two.more one.more (All-so {P = λ index. v.place < 256 * (index + 1)} {Q = λ index. u.place < 256 * (index + 1)} two.more (λ i more. let rises = first.rises quiet in omega (arith, more, rises)) two.ahead) one.ahead;
    behind = λ still. All-append (λ index. 256 * index < w.place) two.more one.more (two.behind still) (All-so {P = λ index. 256 * index < v.place} {Q = λ index. 256 * index < w.place} one.more (λ i less. let rises = second.rises still in omega (arith, less, rises)) (one.behind quiet));
    moves = λ still some. moved still (some-append two.more one.more some);
  }
    where
      moved : w.fault ≡ None → (0 < length two.more) ⊎ (0 < length one.more) → u.place < w.place
      moved still (inl some) =
          let rises = first.rises quiet in
          let more = two.moves still some in
          omega (arith, rises, more)
      moved still (inr some) =
          let rises = second.rises still in
          let more = one.moves quiet some in
          omega (arith, rises, more)

      apart : BeginsApart two.more (one.more ++ a)
      apart = subst (λ (l : List ℕ). BeginsApart two.more l) one.are two.apart

  opens-onward : (a b c : Option (List ℕ)) → v.fault ≡ None → OpensStraight u v a b → OpensStraight v w b c → OpensStraight u w a c
  opens-onward None None None quiet one two = tt
  opens-onward None None (Some c) quiet one two = absurd two
  opens-onward None (Some b) c quiet one two = absurd one
  opens-onward (Some a) None c quiet one two = absurd one
  opens-onward (Some a) (Some b) None quiet one two = absurd two
  opens-onward (Some a) (Some b) (Some c) quiet one two = opened-onward a b c quiet one two

  -- where the middle moment has a refusal, nothing is opened after it
  behind-refused : (fault : ReadFault) → v.fault ≡ Some fault → (a b : Option (List ℕ)) → OpensStraight u v a b → OpensStraight u w a b
  behind-refused fault is None None one = tt
  behind-refused fault is None (Some b) one = absurd one
  behind-refused fault is (Some a) None one = absurd one
  behind-refused fault is (Some a) (Some b) one = record {
    more = one.more;
    are = one.are;
    ascend = one.ascend;
    apart = one.apart;
    ahead = one.ahead;
    behind = λ quiet. absurd (none-some fault (sym quiet ∙ (second.stays fault is).0));
    moves = λ quiet some. absurd (none-some fault (sym quiet ∙ (second.stays fault is).0));
  }

  pub straight-onward : WentStraight u w
  straight-onward = record {
    stays = λ fault is.
        let one = first.stays fault is in
        let two = second.stays fault one.0 in
        (two.0, two.1 ∙ one.1);
    rises = λ quiet.
        let middle = quiet-middle quiet in
        let one = first.rises middle in
        let two = second.rises quiet in
        omega (arith, one, two);
    opens = by v.fault refl;
  }
    where
      by : (o : Option ReadFault) → v.fault ≡ o → OpensStraight u w u.opened w.opened
      by None is = opens-onward u.opened v.opened w.opened is first.opens second.opens
      by (Some fault) is = subst (λ (o : Option (List ℕ)). OpensStraight u w u.opened o) (sym (second.stays fault is).1)
          (behind-refused fault is u.opened v.opened first.opens)

-- The laws of `straight`, for a walk with these moments.
pub straight_going : {Walk Spot : Type 0} (moment : Walk → Spot → StraightMoment)
    → GoesStraight (λ (w : Walk) (a : Spot) (v : Walk) (b : Spot). WentStraight (moment w a) (moment v b))
straight_going moment = record {
  nowhere = λ w a. straight-still (moment w a) (moment w a) refl refl (λ quiet. omega arith);
  onward = λ u v w a b c first second. straight-onward (moment u a) (moment v b) (moment w c) first second;
}
