-- A run that ends outside all elements comes to the end of each open element, where its Finish is.
use Rattle.std.proofs.Common.{◌≡◌, ℕ, zero, suc, List, [], ◌∷◌, ◌++◌, refl, ap, ◌∙◌, subst}
use Rattle.acl_walk.specs.SpotMoves.{from_finish}
use Rattle.acl_walk.specs.declared.event.Event.{Event}
use Rattle.acl_walk.specs.declared.event.Event.TheVariants as event
use Rattle.skip_decode.specs.declared.position.Level.{Level}
use Rattle.skip_decode.specs.declared.position.Next.{Next}
use Rattle.skip_decode.specs.declared.position.Next.TheVariants.{Item}
use Rattle.skip_decode.specs.Positions.{Numbers, Position}
use Rattle.skip_decode.specs.StreamSteps.{Step, position_after}
use Rattle.skip_decode.proofs.Runs.{Goes, Runs, stay, onward}
use Rattle.skip_decode.proofs.PieceRuns.{at}
use Rattle.skip_decode.proofs.StepKinds.{IsRead, IsInner, Kind, keeps, opens, closes, step_kind}

-- Among the open elements, whose innermost is `level`, the one that n elements are open in has this end and tag, and is
-- inside `up`.
abbrev pub IsUnder : ℕ → Level → List Level → ℕ → ℕ → List Level → Type 0
IsUnder zero level levels end tag up = (level.end ≡ end) × (level.tag ≡ tag) × (levels ≡ up)
IsUnder (suc n) level [] end tag up = ⊥
IsUnder (suc n) level (outer ∷ levels) end tag up = IsUnder n outer levels end tag up

-- The run comes to the end of this element: what is read before, and after its Finish.
pub record Closing (k : Numbers) (stream : List ℕ) (first : Position) (events : List Event) (n end tag : ℕ) (up : List Level) : Type 0 where
  pub before : List Event
  pub after : List Event
  pub read : Level
  pub same_end : read.end ≡ end
  pub same_tag : read.tag ≡ tag
  pub split : events ≡ before ++ (event.Finish tag ∷ after)
  pub run : Runs k stream first before (at (read ∷ up) Item read.end)
  pub found : (more : List Event) → from_finish n (events ++ more) ≡ event.Finish tag ∷ (after ++ more)

-- An event that neither begins nor ends an element doesn't matter.
inner_passes : (e : Event) (n : ℕ) (events : List Event) → IsInner e → from_finish n (e ∷ events) ≡ from_finish n events
inner_passes (event.Begin tag below) n events inner = absurd inner
inner_passes (event.Attr piece) n events inner = refl
inner_passes event.HeadEnd n events inner = refl
inner_passes (event.Text piece) n events inner = refl
inner_passes (event.Finish tag) n events inner = absurd inner
inner_passes event.End n events inner = absurd inner

-- A parent that is replaced by one with the same end and tag stands as before.
replaced : (n : ℕ) (level parent : Level) (levels : List Level) (end tag : ℕ) (up : List Level) → parent.end ≡ level.end → parent.tag ≡ level.tag
    → IsUnder n level levels end tag up → IsUnder n parent levels end tag up
replaced zero level parent levels end tag up same_end same_tag under = (same_end ∙ under.0, same_tag ∙ under.1, under.2)
replaced (suc n) level parent [] end tag up same_end same_tag under = under
replaced (suc n) level parent (outer ∷ levels) end tag up same_end same_tag under = under

module _ (k : Numbers) (stream : List ℕ) where
  -- One more event in front.
  longer : (first : Position) (step : Step) (rest : List Event) (m n end tag : ℕ) (up : List Level) → Goes k stream first step
      → ((more : List Event) → from_finish n (step.event ∷ more) ≡ from_finish m more)
      → Closing k stream (position_after first step) rest m end tag up → Closing k stream first (step.event ∷ rest) n end tag up
  longer first step rest m n end tag up goes skips closing = record {
    before = step.event ∷ closing.before;
    after = closing.after;
    read = closing.read;
    same_end = closing.same_end;
    same_tag = closing.same_tag;
    split = ap (λ l. step.event ∷ l) closing.split;
    run = onward k stream first step closing.before (at (closing.read ∷ up) Item closing.read.end) goes closing.run;
    found = λ more. skips (rest ++ more) ∙ closing.found more;
  }

  -- The element is at its end.
  at_end : (level : Level) (levels : List Level) (place : ℕ) (rest : List Event) (end tag : ℕ) (up : List Level) → place ≡ level.end → level.end ≡ end → level.tag ≡ tag → levels ≡ up
      → Closing k stream (at (level ∷ levels) Item place) (event.Finish level.tag ∷ rest) 0 end tag up
  at_end level levels place rest end tag up here same_end same_tag same_up = record {
    before = [];
    after = rest;
    read = level;
    same_end = same_end;
    same_tag = same_tag;
    split = ap (λ t. event.Finish t ∷ rest) same_tag;
    run = subst (λ ls. Runs k stream (at (level ∷ levels) Item place) [] (at (level ∷ ls) Item level.end)) same_up
        (subst (λ p. Runs k stream (at (level ∷ levels) Item place) [] (at (level ∷ levels) Item p)) here (stay k stream (at (level ∷ levels) Item place)));
    found = λ more. ap (λ t. event.Finish t ∷ (rest ++ more)) same_tag;
  }

  -- What is proved of a run from a position in an element.
  abbrev Comes : List Level → Next → ℕ → List Event → Type 0
  Comes [] next place events = Unit {0}
  Comes (level ∷ levels) next place events = (n end tag : ℕ) (up : List Level) → IsRead next → IsUnder n level levels end tag up
      → Closing k stream (at (level ∷ levels) next place) events n end tag up

  -- One step of it, by its kind, where the rest is proved.
  by_kind : (level : Level) (levels : List Level) (next : Next) (place : ℕ) (step : Step) (rest : List Event) → Kind level next place step → Goes k stream (at (level ∷ levels) next place) step
      → Comes (position_after (at (level ∷ levels) next place) step).levels (position_after (at (level ∷ levels) next place) step).next step.place rest
      → (n end tag : ℕ) (up : List Level) → IsUnder n level levels end tag up → Closing k stream (at (level ∷ levels) next place) (step.event ∷ rest) n end tag up
  by_kind level levels next place step rest (keeps level2 next2 place2 e later after inner read) goes comes n end tag up under =
      longer (at (level ∷ levels) next place) step rest n n end tag up goes (λ more. inner_passes e n more inner) (comes n end tag up read under)
  by_kind level levels next place step rest (opens level2 next2 place2 begun below after parent child same_end same_tag) goes comes n end tag up under =
      longer (at (level ∷ levels) next place) step rest (suc n) n end tag up goes (λ more. refl)
      (comes (suc n) end tag up tt (replaced n level parent levels end tag up same_end same_tag under))
  by_kind level levels next place step rest (closes level2 place2 here) goes comes zero end tag up under = at_end level levels place rest end tag up here under.0 under.1 under.2
  by_kind level [] next place step rest (closes level2 place2 here) goes comes (suc n) end tag up under = absurd under
  by_kind level (outer ∷ levels) next place step rest (closes level2 place2 here) goes comes (suc n) end tag up under =
      longer (at (level ∷ outer ∷ levels) Item place) step rest n (suc n) end tag up goes (λ more. refl) (comes n end tag up tt under)

  -- From a position of the run to its last one, outside all elements.
  comes_to : (first last : Position) (events : List Event) → Runs k stream first events last → last.levels ≡ [] → Comes first.levels first.next first.place events
  comes_to first last events (stay k2 stream2 position) outside = none position.levels position.next position.place outside
    where
      none : (levels : List Level) (next : Next) (place : ℕ) → levels ≡ [] → Comes levels next place []
      none [] next place outside = tt
      none (level ∷ levels) next place outside = absurd (some_none level levels outside)
        where
          some_none : (l : Level) (ls : List Level) → l ∷ ls ≡ [] → ⊥
          some_none l ls h = cc
  comes_to first last events (onward k2 stream2 position step rest last2 goes after) outside =
      goes_on first.levels first.next first.place step rest goes (comes_to (position_after first step) last rest after outside)
    where
      goes_on : (levels : List Level) (next : Next) (place : ℕ) (step : Step) (rest : List Event) → Goes k stream (at levels next place) step
          → Comes (position_after (at levels next place) step).levels (position_after (at levels next place) step).next step.place rest → Comes levels next place (step.event ∷ rest)
      goes_on [] next place step rest goes comes = tt
      goes_on (level ∷ levels) next place step rest goes comes = λ n end tag up read under.
          by_kind level levels next place step rest (step_kind k stream level levels next place step read goes.there) goes comes n end tag up under

  -- The innermost open element is read up to its Finish.
  pub closing : (level : Level) (up : List Level) (next : Next) (place : ℕ) (last : Position) (events : List Event) → Runs k stream (at (level ∷ up) next place) events last → last.levels ≡ [] → IsRead next
      → Closing k stream (at (level ∷ up) next place) events 0 level.end level.tag up
  closing level up next place last events run outside read = comes_to (at (level ∷ up) next place) last events run outside 0 level.end level.tag up read (refl, refl, refl)
