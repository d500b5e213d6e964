-- What the laws of `went` say of the state at its beginning.
use Rattle.std.proofs.Common.{◌≡◌, Bool, Option, Some, None, refl}
use Rattle.acl_model.specs.declared.document.Doc.{Doc}
use Rattle.acl_outside.specs.declared.read_fault.ReadFault.{ReadFault}
use Rattle.acl_walk.specs.Following.{Places, Goes}

none_before : (old new : Option ReadFault) → ((fault : ReadFault) → old ≡ Some fault → new ≡ Some fault)
    → new ≡ None → old ≡ None
none_before None new keeps none = refl
none_before (Some fault) new keeps none = let same = keeps fault refl in cc

-- A walk that isn't broken at the end wasn't broken before.
pub was_unbroken : {Walk Fixed : Type 0} {went : Walk → Option Doc → Places → Walk → Type 0}
    → {fixed : Walk → Fixed} {sound : Walk → Doc → Bool} {broken : Walk → Option ReadFault}
    → Goes went fixed sound broken → (w v : Walk) (o : Option Doc) (ps : Places) → went w o ps v
    → broken v ≡ None → broken w ≡ None
was_unbroken {broken = broken} goes w v o ps went none =
    none_before (broken w) (broken v) (λ fault. goes.stays_broken w v o ps fault went) none
