-- What contracts say about a walk between two moments, so that the layers above a walk can follow it. A
-- walk *went* from one moment to another if only its own calls changed it in between. Defined by this
-- project.
use Rattle.std.specs.Prelude.{◌≡◌, ℕ, Bool, true, false, nat_eq, Option, Some, List}
use Rattle.std.specs.List.{list_any}
use Rattle.acl_model.specs.declared.document.Doc.{Doc}
use Rattle.acl_outside.specs.declared.read_fault.ReadFault.{ReadFault}

-- a test of the indices of a list of events
abbrev pub Places : Type 0
Places = ℕ → Bool

-- the test that every index passes
abbrev pub All : Places
All place = true

-- the test that exactly the indices of this list pass
abbrev pub Only : List ℕ → Places
Only list place = list_any (λ k. nat_eq k place) list

-- Each index that passes the first test passes the second.
abbrev pub Within : Places → Places → Type 0
Within ps qs = (place : ℕ) → ps place ≡ true → qs place ≡ true

-- The laws of `went w o ps v`: the walk w went to v, for the origin o, and `next` was called only at
-- indices that pass ps. The origin is a document, or none. `fixed` is the part of a walk that never
-- changes. `sound` says that no collision was met for an origin, and `broken` is the refusal that the walk
-- repeats.
pub record Goes {Walk Fixed : Type 0} (went : Walk → Option Doc → Places → Walk → Type 0)
    (fixed : Walk → Fixed) (sound : Walk → Doc → Bool) (broken : Walk → Option ReadFault)
    : Type 0 where
  -- Each walk went to itself, under every test.
  pub nowhere : (w : Walk) (o : Option Doc) (ps : Places) → went w o ps w
  -- From u to v and from v to w, under one test, gives from u to w under that test.
  pub onward : (u v w : Walk) (o : Option Doc) (ps : Places)
      → went u o ps v → went v o ps w → went u o ps w
  -- What is true under a test is true under each wider one.
  pub wider : (w v : Walk) (o : Option Doc) (ps qs : Places)
      → Within ps qs → went w o ps v → went w o qs v
  -- A walk that isn't sound at the end went under every test, if it went under the test that every index
  -- passes.
  pub unsound : (w v : Walk) (d : Doc) (ps : Places)
      → sound v d ≡ false → went w (Some d) All v → went w (Some d) ps v
  -- The fixed part is the same at both moments.
  pub same : (w v : Walk) (o : Option Doc) (ps : Places) → went w o ps v → fixed v ≡ fixed w
  -- A walk that is sound at the end was sound before.
  pub was_sound : (w v : Walk) (d : Doc) (ps : Places)
      → went w (Some d) ps v → sound v d ≡ true → sound w d ≡ true
  -- A walk that was broken keeps its refusal.
  pub stays_broken : (w v : Walk) (o : Option Doc) (ps : Places) (f : ReadFault)
      → went w o ps v → broken w ≡ Some f → broken v ≡ Some f

-- The laws of `straight w a v b`: the walk w with its spot a became v with b only by `next` at that spot and
-- passes of it.
pub record GoesStraight {Walk Spot : Type 0} (straight : Walk → Spot → Walk → Spot → Type 0)
    : Type 0 where
  -- It is true where there was no call.
  pub nowhere : (w : Walk) (a : Spot) → straight w a w a
  -- From u to v and from v to w gives from u to w.
  pub onward : (u v w : Walk) (a b c : Spot) → straight u a v b → straight v b w c → straight u a w c
