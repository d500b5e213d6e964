-- Of which events the fragments are that a walk over a file opens. Defined by this project.
use Rattle.std.specs.Prelude.{◌≡◌, ℕ, suc, ◌+◌, ◌*◌, ◌<◌, true, Option, Some, None, List, ◌++◌, All}
use Rattle.acl_model.specs.Stream.{plain}
use Rattle.acl_model.specs.declared.document.Doc.{Doc}
use Rattle.acl_walk.specs.Following.{Places}
use Rattle.skip_decode.specs.CheckedStream.{opened_since}
use Rattle.skip_decode.specs.FileWalk.{FileMoment, IsFileOrigin, is_sound_at}
use Rattle.skip_decode.specs.StreamEvents.{numbers_of, position_at}

-- the byte offset of the position before event i of a document's stream
abbrev pub offset_of : Doc → ℕ → ℕ
offset_of d i = (position_at (numbers_of d) (plain d) i).place

-- The fragment has a byte of event i: one from the position before it on and before the position after it.
pub record HasByteOf (d : Doc) (fragment i : ℕ) : Type 0 where
  pub ends : offset_of d i < 256 * (fragment + 1)
  pub begins : 256 * fragment < offset_of d (suc i)
  pub some : offset_of d i < offset_of d (suc i)

-- The fragment has a byte of an event whose index passes the test.
pub record HasByteWithin (d : Doc) (ps : Places) (fragment : ℕ) : Type 0 where
  pub index : ℕ
  pub passes : ps index ≡ true
  pub byte : HasByteOf d fragment index

-- Only such fragments were opened in between.
pub record OpensOnly (so : ℕ → Type 0) (before after : List ℕ) : Type 0 where
  -- These were opened, the newest first.
  pub more : List ℕ
  pub are : after ≡ more ++ before
  pub each : All so more

-- The same, where they are told. They are told after exactly where they were told before.
abbrev pub OpensOnlyTold : (ℕ → Type 0) → Option (List ℕ) → Option (List ℕ) → Type 0
OpensOnlyTold so None None = Unit {0}
OpensOnlyTold so None (Some after) = ⊥
OpensOnlyTold so (Some before) None = ⊥
OpensOnlyTold so (Some before) (Some after) = OpensOnly so before after

-- For an origin for which the walk is sound afterwards: each fragment opened in between has a byte of an event whose
-- index passes the test.
abbrev pub OpensFor : FileMoment → Option Doc → Places → FileMoment → Type 0
OpensFor w None ps v = Unit {0}
OpensFor w (Some d) ps v =
    IsFileOrigin v.fixed d → is_sound_at v d ≡ true
    → OpensOnlyTold (HasByteWithin d ps) (opened_since w.served) (opened_since v.served)
