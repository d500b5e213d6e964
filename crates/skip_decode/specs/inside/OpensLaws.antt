-- The laws of `went` with the fragments that are opened, as the trait `Walk` has them.
use Rattle.std.proofs.Common.{◌≡◌, ℕ, false, Option, Some, None, List, [], ◌++◌, append_assoc, refl, ap, sym, ◌∙◌, subst}
use Rattle.std.proofs.lemmas.Bool.{true≢false}
use Rattle.std.proofs.lemmas.List.Elements.{All-append, All-nil}
use Rattle.acl_model.specs.declared.document.Doc.{Doc}
use Rattle.acl_walk.specs.Following.{Goes, Places, Within}
use Rattle.skip_decode.specs.FileWalk.{FileMoment, FileWent, IsFileOrigin, is_sound_at}
use Rattle.skip_decode.specs.OpensOf.{HasByteWithin, OpensFor, OpensOnlyTold}
use Rattle.skip_decode.specs.inside.FileWalkLaws.{file_going}

-- nothing is opened
only-none : (so : ℕ → Type 0) (opened : Option (List ℕ)) → OpensOnlyTold so opened opened
only-none so None = tt
only-none so (Some before) = record { more = []; are = refl; each = All-nil so }

-- one after the other
only-onward : (so : ℕ → Type 0) (a b c : Option (List ℕ)) → OpensOnlyTold so a b → OpensOnlyTold so b c → OpensOnlyTold so a c
only-onward so None None None one two = tt
only-onward so None None (Some c) one two = absurd two
only-onward so None (Some b) c one two = absurd one
only-onward so (Some a) None c one two = absurd one
only-onward so (Some a) (Some b) None one two = absurd two
only-onward so (Some a) (Some b) (Some c) one two = record {
  more = two.more ++ one.more;
  are = two.are ∙ ap (λ l. two.more ++ l) one.are ∙ sym (append_assoc two.more one.more a);
  each = All-append so two.more one.more two.each one.each;
}

-- a wider test
only-wider : (d : Doc) (ps qs : Places) → Within ps qs → (a b : Option (List ℕ)) → OpensOnlyTold (HasByteWithin d ps) a b
    → OpensOnlyTold (HasByteWithin d qs) a b
only-wider d ps qs more None None one = tt
only-wider d ps qs more None (Some b) one = absurd one
only-wider d ps qs more (Some a) None one = absurd one
only-wider d ps qs more (Some a) (Some b) one = record {
  more = one.more;
  are = one.are;
  each = λ i default less.
      let has = one.each i default less in
      record { index = has.index; passes = more has.index has.passes; byte = has.byte };
}

opens-nowhere : (w : FileMoment) (o : Option Doc) (ps : Places) → OpensFor w o ps w
opens-nowhere w None ps = tt
opens-nowhere w (Some d) ps = λ origin sound. only-none (HasByteWithin d ps) _

opens-onward : (u v w : FileMoment) (o : Option Doc) (ps : Places) → FileWent v w → OpensFor u o ps v → OpensFor v o ps w → OpensFor u o ps w
opens-onward u v w None ps went first second = tt
opens-onward u v w (Some d) ps went first second = λ origin sound.
    only-onward (HasByteWithin d ps) _ _ _
    (first (subst (λ k. IsFileOrigin k d) went.same origin) (went.was_sound d sound))
    (second origin sound)

opens-wider : (w v : FileMoment) (o : Option Doc) (ps qs : Places) → Within ps qs → OpensFor w o ps v → OpensFor w o qs v
opens-wider w v None ps qs more opens = tt
opens-wider w v (Some d) ps qs more opens = λ origin sound. only-wider d ps qs more _ _ (opens origin sound)

opens-unsound : (w v : FileMoment) (d : Doc) (ps : Places) → is_sound_at v d ≡ false → OpensFor w (Some d) ps v
opens-unsound w v d ps not_sound = λ origin sound. absurd (true≢false (sym sound ∙ not_sound))

-- The laws of `went`, for a walk with these moments over a store with this name.
pub opening_going : {Walk Name : Type 0} (moment : Walk → FileMoment) (name : Walk → Name)
    → Goes (λ (w : Walk) (o : Option Doc) (ps : Places) (v : Walk).
    (name v ≡ name w) × FileWent (moment w) (moment v) × OpensFor (moment w) o ps (moment v))
    (λ w. (moment w).fixed) (λ w d. is_sound_at (moment w) d) (λ w. (moment w).fault)
opening_going moment name =
    let laws = file_going moment name in
    record {
      nowhere = λ w o ps. let one = laws.nowhere w o ps in (one.0, one.1, opens-nowhere (moment w) o ps);
      onward = λ u v w o ps first second.
          let one = laws.onward u v w o ps (first.0, first.1) (second.0, second.1) in
          (one.0, one.1, opens-onward (moment u) (moment v) (moment w) o ps second.1 first.2 second.2);
      wider = λ w v o ps qs more went. (went.0, went.1, opens-wider (moment w) (moment v) o ps qs more went.2);
      unsound = λ w v d ps not_sound went. (went.0, went.1, opens-unsound (moment w) (moment v) d ps not_sound);
      same = λ w v o ps went. laws.same w v o ps (went.0, went.1);
      was_sound = λ w v d ps went sound. laws.was_sound w v d ps (went.0, went.1) sound;
      stays_broken = λ w v o ps fault went is. laws.stays_broken w v o ps fault (went.0, went.1) is;
    }
