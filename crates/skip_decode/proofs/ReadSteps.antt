-- Where the events from a position on end with End, the position has a step, and the events after the first one are
-- those from the position after it.
use Rattle.std.proofs.Common.{◌≡◌, ℕ, zero, suc, Option, Some, None, List, [], ◌∷◌, ◌++◌, length, drop, get_or, refl, ap, sym, ◌∙◌, subst, arith, length-append}
use Rattle.acl_walk.specs.declared.event.Event.{Event}
use Rattle.acl_walk.specs.declared.event.Event.TheVariants.{Begin, Attr, HeadEnd, Text, Finish, End}
use Rattle.skip_decode.specs.Positions.{Numbers, Position}
use Rattle.skip_decode.specs.StreamSteps.{Step, step_at, position_after}
use Rattle.skip_decode.specs.StreamEvents.{and_then, events_by, run}

-- The events of at most n steps from a position on are these and then End.
abbrev pub Ends : Numbers → List ℕ → ℕ → Position → List Event → Type 0
Ends k stream n position events = run k stream n position ≡ events ++ (End ∷ [])

-- The event isn't End.
abbrev pub IsOn : Event → Type 0
IsOn (Begin tag below) = Unit {0}
IsOn (Attr piece) = Unit {0}
IsOn HeadEnd = Unit {0}
IsOn (Text piece) = Unit {0}
IsOn (Finish tag) = Unit {0}
IsOn End = ⊥

goes_on : (e : Event) (rest : List Event) → IsOn e → and_then e rest ≡ e ∷ rest
goes_on (Begin tag below) rest on = refl
goes_on (Attr piece) rest on = refl
goes_on HeadEnd rest on = refl
goes_on (Text piece) rest on = refl
goes_on (Finish tag) rest on = refl
goes_on End rest on = absurd on

pub no_events : (events : List Event) → [] ≡ events ++ (End ∷ []) → ⊥
no_events events is =
    let long = ap (λ (l : List Event). length l) is ∙ length-append events (End ∷ []) in omega (arith, long)

-- No step has no events.
pub no_run : (k : Numbers) (stream : List ℕ) (position : Position) (events : List Event)
    → Ends k stream zero position events → ⊥
unfolding run
no_run k stream position events ends = no_events events ends

-- The position has a step.
pub some_step : (k : Numbers) (stream : List ℕ) (n : ℕ) (position : Position) (events : List Event)
    → Ends k stream (suc n) position events → (step : Step) × (step_at k stream position ≡ Some step)
unfolding run
some_step k stream n position events ends = by_option (step_at k stream position) ends
  where
    by_option : (o : Option Step) → events_by (run k stream n) position o ≡ events ++ (End ∷ [])
        → (step : Step) × (o ≡ Some step)
    by_option None is = absurd (no_events events is)
    by_option (Some step) is = (step, refl)

-- The events after the first one, and that they end with End too.
pub record After (k : Numbers) (stream : List ℕ) (n : ℕ) (position : Position) (event : Event)
    (events : List Event) : Type 0 where
  pub rest : List Event
  pub first : events ≡ event ∷ rest
  pub ends : Ends k stream n position rest

head_same : (x y : Event) (xs ys : List Event) → x ∷ xs ≡ y ∷ ys → x ≡ y
head_same x y xs ys is = ap (λ (l : List Event). get_or l 0 x) is

tail_same : (x y : Event) (xs ys : List Event) → x ∷ xs ≡ y ∷ ys → xs ≡ ys
tail_same x y xs ys is = ap (λ (l : List Event). drop 1 l) is

split : (k : Numbers) (stream : List ℕ) (n : ℕ) (position : Position) (e : Event) (events : List Event) → IsOn e
    → e ∷ run k stream n position ≡ events ++ (End ∷ []) → After k stream n position e events
split k stream n position e [] on is = absurd (subst IsOn (head_same e End (run k stream n position) [] is) on)
split k stream n position e (x ∷ xs) on is = record {
  rest = xs;
  first = ap (λ f. f ∷ xs) (sym (head_same e x (run k stream n position) (xs ++ (End ∷ [])) is));
  ends = tail_same e x (run k stream n position) (xs ++ (End ∷ [])) is;
}

-- After a step that is known the events go on.
pub known_step : (k : Numbers) (stream : List ℕ) (n : ℕ) (position : Position) (events : List Event) (step : Step)
    → step_at k stream position ≡ Some step → IsOn step.event → Ends k stream (suc n) position events
    → After k stream n (position_after position step) step.event events
unfolding run
known_step k stream n position events step there on ends =
    split k stream n (position_after position step) step.event events on
    (sym (goes_on step.event (run k stream n (position_after position step)) on)
    ∙ sym (ap (events_by (run k stream n) position) there) ∙ ends)
