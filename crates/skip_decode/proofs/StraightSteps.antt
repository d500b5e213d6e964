-- A call that reads bytes from the spot on opens fragments straight ahead.
use Rattle.std.proofs.Common.{◌≡◌, ℕ, zero, suc, ◌+◌, ◌-◌, ◌*◌, ◌/◌, ◌<◌, ◌≤◌, Bool, true, false, cond, nat_eq, Option, None, Some, List, [], ◌∷◌, ◌++◌, refl, ap, sym, ◌∙◌, subst, arith, All}
use Rattle.std.specs.Option.{option_map}
use Rattle.std.proofs.lemmas.Bool.Decides.{nat_tests}
use Rattle.std.proofs.lemmas.List.Elements.{All-cons, All-head, All-nil}
use Rattle.std.proofs.lemmas.Option.{none-some}
use Rattle.std.specs.Prelude.{IfSome}
use Rattle.acl_outside.specs.declared.read_fault.ReadFault.{ReadFault}
use Rattle.skip_decode.specs.Positions.{Numbers, Position, passed, passed_in}
use Rattle.skip_decode.specs.Spots.{Fits, FitsInside, IsSpot}
use Rattle.skip_decode.specs.declared.position.Level.{Level}
use Rattle.skip_decode.specs.declared.position.Next.{Next}
use Rattle.skip_decode.specs.declared.position.Next.TheVariants.{Root, Count, Attributes, Attribute, Item, Text, Finish, End}
use Rattle.skip_decode.specs.Straight.{BeginsApart, IsAscending, IsNotNewest, OpenedStraight, OpensStraight, StraightMoment, WentStraight}
use Rattle.skip_decode.specs.inside.Windows.{HasRead, HasReadSome, IsNewest, IsNewestUnless, fragments_over, touch, touch_from, touched}
use Rattle.skip_decode.proofs.Touches.{over-some, touch-same, touch_from-last}

-- Between two lists of opened fragments the indexes from `low` on and below `high` were opened, or some of them, in order.
pub record Touched (low high : ℕ) (before after : List ℕ) : Type 0 where
  pub more : List ℕ
  pub are : after ≡ more ++ before
  pub ascend : IsAscending more
  pub apart : BeginsApart more before
  pub above : All (λ index. low ≤ index) more
  pub below : All (λ index. index < high) more

-- the same under a greater bound
All-more : (high : ℕ) (list : List ℕ) → All (λ index. index < high) list → All (λ index. index < suc high) list
All-more high list all = λ i default less. let one = all i default less in omega (arith, one)

touch-new : (i : ℕ) (newest : ℕ) (before : List ℕ) → nat_eq i newest ≡ false → touch i (newest ∷ before) ≡ i ∷ newest ∷ before
unfolding touch
touch-new i newest before is = ap (λ b. cond b (newest ∷ before) (i ∷ newest ∷ before)) is

touch-first : (i : ℕ) → touch i [] ≡ i ∷ []
unfolding touch
touch-first i = refl

-- one more fragment
touch-next : (low high : ℕ) (before after : List ℕ) → low ≤ high → Touched low high before after → Touched low (suc high) before (touch high after)
touch-next low high before after rises t = by t.more t.are t.ascend t.apart t.above t.below
  where
    apart : (newest : ℕ) → nat_eq high newest ≡ false → high ≡ newest → ⊥
    apart newest other same = absurd (grind (arith, nat_tests, other, same))

    first : (l : List ℕ) → before ≡ l → after ≡ l → Touched low (suc high) before (touch high after)
    first [] is same = record {
      more = high ∷ [];
      are = ap (touch high) same ∙ touch-first high ∙ ap (λ l. high ∷ l) (sym is);
      ascend = tt;
      apart = subst (λ (l : List ℕ). IsNotNewest high l) (sym is) tt;
      above = All-cons (λ index. low ≤ index) high [] rises (All-nil (λ index. low ≤ index));
      below = All-cons (λ index. index < suc high) high [] (omega arith) (All-nil (λ index. index < suc high));
    }
    first (newest ∷ rest) is same = by_test (nat_eq high newest) refl
      where
        by_test : (b : Bool) → nat_eq high newest ≡ b → Touched low (suc high) before (touch high after)
        by_test true test =
            let equal : high ≡ newest = grind (arith, nat_tests, test) in
            record {
              more = [];
              are = ap (touch high) same ∙ ap (λ n. touch high (n ∷ rest)) (sym equal) ∙ touch-same high rest
                  ∙ ap (λ n. n ∷ rest) equal ∙ sym is;
              ascend = tt;
              apart = tt;
              above = All-nil (λ index. low ≤ index);
              below = All-nil (λ index. index < suc high);
            }
        by_test false test = record {
          more = high ∷ [];
          are = ap (touch high) same ∙ touch-new high newest rest test ∙ ap (λ l. high ∷ l) (sym is);
          ascend = tt;
          apart = subst (λ (l : List ℕ). IsNotNewest high l) (sym is) (apart newest test);
          above = All-cons (λ index. low ≤ index) high [] rises (All-nil (λ index. low ≤ index));
          below = All-cons (λ index. index < suc high) high [] (omega arith) (All-nil (λ index. index < suc high));
        }

    by : (more : List ℕ) → after ≡ more ++ before → IsAscending more → BeginsApart more before → All (λ index. low ≤ index) more
        → All (λ index. index < high) more → Touched low (suc high) before (touch high after)
    by [] are ascend begins above below = first before refl are
    by (last ∷ more) are ascend begins above below =
        let less = All-head (λ index. index < high) last more below in
        let other : nat_eq high last ≡ false = grind (arith, nat_tests, less) in
        record {
          more = high ∷ last ∷ more;
          are = ap (touch high) are ∙ touch-new high last (more ++ before) other;
          ascend = (less, ascend);
          apart = begins;
          above = All-cons (λ index. low ≤ index) high (last ∷ more) rises above;
          below = All-cons (λ index. index < suc high) high (last ∷ more) (omega arith) (All-more high (last ∷ more) below);
        }

-- no fragment
touch_from-none : (first : ℕ) (opened : List ℕ) → touch_from zero first opened ≡ opened
unfolding touch_from
touch_from-none first opened = refl

-- fragments in order
pub touched-so : (more first : ℕ) (opened : List ℕ) → Touched first (first + more) opened (touch_from more first opened)
touched-so zero first opened = record {
  more = [];
  are = touch_from-none first opened;
  ascend = tt;
  apart = tt;
  above = All-nil (λ index. first ≤ index);
  below = All-nil (λ index. index < first + 0);
}
touched-so (suc more) first opened =
    let last : first + suc more ≡ suc (first + more) = omega arith in
    subst (λ (l : List ℕ). Touched first (first + suc more) opened l) (sym (touch_from-last more first opened))
    (subst (λ (n : ℕ). Touched first n opened (touch (first + more) (touch_from more first opened))) (sym last)
    (touch-next first (first + more) opened (touch_from more first opened) (omega arith) (touched-so more first opened)))

-- below the last fragment of some bytes
pub behind-so : (start count index : ℕ) → index < start / 256 + fragments_over start count → 256 * index < start + count
behind-so start zero index less =
    let none : fragments_over start 0 ≡ 0 = refl in
    omega (arith, less, none)
behind-so start (suc n) index less =
    let count = over-some start (suc n) (omega arith) in
    omega (arith, less, count)

-- Bytes that are in a fragment are some.
pub bytes-some : (start count index : ℕ) → start / 256 ≤ index → index < start / 256 + fragments_over start count → 0 < count
bytes-some start zero index above below =
    let none : fragments_over start 0 ≡ 0 = refl in
    absurd (omega (arith, above, below, none))
bytes-some start (suc n) index above below = omega arith

-- what was opened by reading some bytes
module _ (w v : StraightMoment) (count : ℕ) (quiet : w.fault ≡ None) (within : v.fault ≡ None → w.place + count ≤ v.place) where
  opened-so : (before : List ℕ) → OpenedStraight w v before (touched w.place count before)
  opened-so before =
      let t = touched-so (fragments_over w.place count) (w.place / 256) before in
      record {
        more = t.more;
        are = t.are;
        ascend = t.ascend;
        apart = t.apart;
        ahead = λ i default less. let one = t.above i default less in omega (arith, one);
        behind = λ still i default less.
            let end = within still in
            let one = behind-so w.place count _ (t.below i default less) in
            omega (arith, one, end);
        moves = λ still some.
            let end = within still in
            let one = bytes-some w.place count _ (t.above 0 0 some) (t.below 0 0 some) in
            omega (arith, one, end);
      }

  opens-so : (o : Option (List ℕ)) → OpensStraight w v o (option_map (touched w.place count) o)
  opens-so None = tt
  opens-so (Some before) = opened-so before

  pub straight-so : v.opened ≡ option_map (touched w.place count) w.opened → WentStraight w v
  straight-so is = record {
    stays = λ fault refused. absurd (none-some fault (sym quiet ∙ refused));
    rises = λ still. let end = within still in omega (arith, end);
    opens = subst (λ (o : Option (List ℕ)). OpensStraight w v w.opened o) (sym is) (opens-so w.opened);
  }

-- a step
pub straight-step : (w v : StraightMoment) (at : Option ℕ) (to : ℕ) → v.place ≡ to → w.fault ≡ None → HasRead w.opened w.place to at v.opened → WentStraight w v
straight-step w v at to is quiet has =
    let rises = has.rises in
    straight-so w v (to - w.place) quiet (λ still. omega (arith, rises, is)) has.opens

-- a refusal
pub straight-refused : (w v : StraightMoment) → w.fault ≡ None → (v.fault ≡ None → ⊥) → HasReadSome w.opened w.place v.opened → WentStraight w v
straight-refused w v quiet refused has = straight-so w v has.count quiet (λ still. absurd (refused still)) has.opens

-- no fragment yet
pub unopened-newest : (fault : Option ReadFault) (o : Option (List ℕ)) → IfSome o (λ opened. opened ≡ []) → IsNewestUnless fault None o
unopened-newest fault None is = λ quiet. tt
unopened-newest fault (Some opened) is = λ quiet. subst (λ (l : List ℕ). IsNewest None (Some l)) (sym is) tt

-- a pass goes on to the end of the innermost element
pub pass-rises : (k : Numbers) (position : Position) → IsSpot k position → position.place ≤ (passed position).place
pass-rises k position spot = by position.levels position.next position.place spot.fits
  where
    by : (levels : List Level) (next : Next) (place : ℕ) → Fits k levels next place → place ≤ (passed_in levels (record { levels = levels; next = next; place = place })).place
    by [] next place fits = omega arith
    by (level ∷ up) next place fits = inside next fits
      where
        inside : (next : Next) → FitsInside next place level.end → place ≤ level.end
        inside Root fits = absurd fits
        inside Count fits = fits
        inside (Attributes count) fits = fits
        inside (Attribute left more) fits = let within = fits.1 in omega (arith, within)
        inside Item fits = fits
        inside (Text left) fits = let within = fits.1 in omega (arith, within)
        inside Finish fits = fits
        inside End fits = absurd fits
