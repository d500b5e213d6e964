-- The laws of a walk over a file, as the trait `Walk` has them.
use Rattle.std.proofs.Common.{◌≡◌, ℕ, ◌^◌, ◌<◌, ◌≤◌, Bool, true, false, Option, Some, None, List, length, refl, ap, sym, ◌∙◌, subst, arith}
use Rattle.std.proofs.lemmas.Bool.{true≢false}
use Rattle.std.proofs.lemmas.List.{length-map}
use Rattle.std.proofs.lemmas.Option.{same_Some, none-some}
use Rattle.acl_model.specs.Limits.{most_open_elements}
use Rattle.acl_model.specs.declared.document.Doc.{Doc}
use Rattle.acl_outside.specs.declared.read_fault.ReadFault.{ReadFault}
use Rattle.acl_outside.specs.declared.read_fault.ReadFault.TheVariants.{BadIndex}
use Rattle.acl_walk.specs.Following.{Goes, Places}
use Rattle.acl_walk.specs.Listed.{AreNames, IsListOf}
use Rattle.acl_walk.specs.Nesting.{first_stage}
use Rattle.acl_walk.specs.Open.{tags_at}
use Rattle.fragment_open.specs.Settled.{IsQuiet}
use Rattle.fragment_open.specs.Sound.{tells_file}
use Rattle.skip_decode.specs.FileWalk.{FileFixed, FileMoment, FileWent, IsFileOrigin, IsFilePlace, IsFileSpot, is_sound_at, numbers_in, place_of, store_of}
use Rattle.skip_decode.specs.Positions.{Position}
use Rattle.skip_decode.specs.Spots.{stage_of}
use Rattle.skip_decode.specs.StreamEvents.{events_left, stream_events, weight}
use Rattle.skip_decode.specs.inside.StoreLaws.{failure-onward, store-nowhere, store-onward}
use Rattle.skip_decode.specs.declared.position.Level.{Level}
use Rattle.skip_decode.specs.declared.position.Next.{Next}
use Rattle.skip_decode.specs.declared.position.Next.TheVariants.{Root, Count, Attributes, Attribute, Item, Text, Finish, End}

-- ---- spots

-- Its list spells the origin.
pub file_listed : (k : FileFixed) (s : Position) (d : Doc) → IsFileSpot k s → IsFileOrigin k d
    → IsListOf k.names (Some d) (stream_events d)
file_listed k s d made origin = made.lists.spelled d origin

-- The index of a spot is less than the length of the list.
pub file_within : (k : FileFixed) (s : Position) (d : Doc) → IsFileSpot k s → IsFileOrigin k d
    → IsFilePlace d s → place_of d s < length (stream_events d)
file_within k s d made origin place = place.within

-- A spot before the first event is at index 0.
pub file_fresh : (k : FileFixed) (s : Position) (d : Doc) → IsFileSpot k s
    → stage_of s ≡ first_stage → IsFileOrigin k d → IsFilePlace d s → place_of d s ≡ 0
file_fresh k s d made first origin place = made.lists.fresh d origin first place

-- The elements that are open at a spot are those that are open at its index.
pub file_open_tags : (k : FileFixed) (s : Position) (d : Doc) → IsFileSpot k s
    → IsFileOrigin k d → IsFilePlace d s
    → (stage_of s).tags ≡ tags_at (stream_events d) (place_of d s)
file_open_tags k s d made origin place = made.lists.open_tags d origin place

-- a weight is at most 1
small_weight : (next : Next) → weight next ≤ 1
small_weight Root = omega arith
small_weight Count = omega arith
small_weight (Attributes count) = omega arith
small_weight (Attribute left more) = omega arith
small_weight Item = omega arith
small_weight (Text left) = omega arith
small_weight Finish = omega arith
small_weight End = omega arith

-- The events to come are fewer than 2^64.
pub file_few : (k : FileFixed) (s : Position) → IsFileSpot k s
    → events_left (numbers_in k.header) s < 2 ^ 64
file_few k s made =
    let together = made.range.together in
    let low = made.range.low_depth in
    let few = made.spot.few_open in
    let small = small_weight s.next in
    omega (arith, together, low, few, small)

-- At most as many elements are open as the header says.
pub file_few_open : (k : FileFixed) (s : Position) → IsFileSpot k s
    → length (stage_of s).tags ≤ k.header.depth
file_few_open k s made =
    let few = made.spot.few_open in
    omega (arith, few, length-map s.levels (λ (level : Level). level.tag))

-- These are at most 255.
pub file_shallow : (k : FileFixed) (s : Position) → IsFileSpot k s
    → k.header.depth ≤ most_open_elements
file_shallow k s made = made.range.low_depth

-- There are at most 256 names, and they are distinct.
pub file_named : (k : FileFixed) (s : Position) → IsFileSpot k s → AreNames k.names
file_named k s made = made.names

-- ---- moments

module _ (w : FileMoment) where
  -- A moment went to itself.
  pub went-nowhere : FileWent w w
  went-nowhere = record {
    same = refl;
    was_sound = λ d sound. sound;
    bad_index = λ none bad d origin. absurd (none-some BadIndex (sym none ∙ bad));
    reads = store-nowhere (store_of w);
    held = λ d origin told none. subst IsQuiet (sym none) tt;
  }

-- A walk that wasn't sound isn't sound later.
unsound_later : (w v : FileMoment) (d : Doc) → FileWent w v → is_sound_at w d ≡ false → is_sound_at v d ≡ false
unsound_later w v d went unsound = by_test (is_sound_at v d) refl
  where
    by_test : (b : Bool) → is_sound_at v d ≡ b → b ≡ false
    by_test true sound = absurd (true≢false (sym (went.was_sound d sound) ∙ unsound))
    by_test false sound = refl

-- From u to v and from v to w gives from u to w.
pub went-onward : (u v w : FileMoment) → FileWent u v → FileWent v w → FileWent u w
went-onward u v w first second = record {
  same = second.same ∙ first.same;
  was_sound = λ d sound. first.was_sound d (second.was_sound d sound);
  bad_index = λ none bad d origin. by_fault none bad d origin v.fault refl;
  reads = store-onward (store_of u) (store_of v) (store_of w) first.reads second.reads;
  held = λ d origin told none.
      failure-onward (store_of u) (store_of v) (store_of w) second.reads (λ middle. second.held d origin told middle)
      (first.held d (subst (λ (k : FileFixed). IsFileOrigin k d) second.same origin)
      (subst (λ (o : Option (List ℕ)). tells_file o d v.fixed.key ≡ true) second.reads.held_is
      (subst (λ (k : FileFixed). tells_file w.held d k.key ≡ true) second.same told)) none);
}
  where
    by_fault : u.fault ≡ None → w.fault ≡ Some BadIndex → (d : Doc) → IsFileOrigin w.fixed d → (o : Option ReadFault)
        → v.fault ≡ o → is_sound_at w d ≡ false
    by_fault none bad d origin None middle = second.bad_index middle bad d origin
    by_fault none bad d origin (Some fault) middle =
        let same : fault ≡ BadIndex = same_Some fault BadIndex (sym (second.reads.stays fault middle) ∙ bad) in
        unsound_later v w d second
        (first.bad_index none (middle ∙ ap Some same) d (subst (λ k. IsFileOrigin k d) second.same origin))

-- The laws of `went`, for a walk with these moments.
pub file-goes : {Walk : Type 0} (moment : Walk → FileMoment)
    → Goes (λ (w : Walk) (o : Option Doc) (ps : Places) (v : Walk). FileWent (moment w) (moment v))
    (λ w. (moment w).fixed) (λ w d. is_sound_at (moment w) d) (λ w. (moment w).fault)
file-goes moment = record {
  nowhere = λ w o ps. went-nowhere (moment w);
  onward = λ u v w o ps first second. went-onward (moment u) (moment v) (moment w) first second;
  wider = λ w v o ps qs more went. went;
  unsound = λ w v d ps not_sound went. went;
  same = λ w v o ps went. went.same;
  was_sound = λ w v d ps went sound. went.was_sound d sound;
  stays_broken = λ w v o ps fault went is. went.reads.stays fault is;
}

-- The laws of `went`, for a walk with these moments over a store with this name.
pub file_going : {Walk Name : Type 0} (moment : Walk → FileMoment) (name : Walk → Name)
    → Goes (λ (w : Walk) (o : Option Doc) (ps : Places) (v : Walk). (name v ≡ name w) × FileWent (moment w) (moment v))
    (λ w. (moment w).fixed) (λ w d. is_sound_at (moment w) d) (λ w. (moment w).fault)
file_going moment name =
    let laws = file-goes moment in
    record {
      nowhere = λ w o ps. (refl, laws.nowhere w o ps);
      onward = λ u v w o ps first second. (second.0 ∙ first.0, laws.onward u v w o ps first.1 second.1);
      wider = λ w v o ps qs more went. went;
      unsound = λ w v d ps not_sound went. went;
      same = λ w v o ps went. went.1.same;
      was_sound = λ w v d ps went sound. went.1.was_sound d sound;
      stays_broken = λ w v o ps fault went is. went.1.reads.stays fault is;
    }
