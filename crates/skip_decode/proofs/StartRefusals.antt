-- Which errors a start of a walk can end with.
use Rattle.std.proofs.Common.{◌≡◌, ℕ, true, List, ap, sym, ◌∙◌, subst, inl, inr}
use Rattle.std.specs.Prelude.{Option, None, Err}
use Rattle.std.proofs.lemmas.Bool.{true≢false}
use Rattle.acl_model.specs.declared.document.Doc.{Doc}
use Rattle.acl_outside.specs.declared.read_fault.ReadFault.{ReadFault}
use Rattle.acl_outside.specs.declared.read_fault.ReadFault.TheVariants.{BadIndex}
use Rattle.fragment_open.specs.Settled.{IsQuiet}
use Rattle.fragment_open.specs.Sound.{IsOrigin, tells_file}
use Rattle.fragment_open.specs.declared.head.Head.{Head}
use Rattle.skip_decode.specs.CheckedStream.{Fetched}
use Rattle.skip_decode.specs.Starting.{IsOfNoOrigin, IsStartFailure, RefusesStart}
use Rattle.skip_decode.specs.StoreWent.{StoreMoment}
use Rattle.skip_decode.specs.declared.start_fault.StartFault.{StartFault}
use Rattle.skip_decode.specs.declared.start_fault.StartFault.TheVariants.{NoMemory, Read}
use Rattle.skip_decode.proofs.FileSteps.{held-sound}

module _ (T : Type 0) (old new : Head) (w v : StoreMoment) (fetched : Fetched old new w v) (quiet : w.fault ≡ None) where
  -- the error of a start that had refused nothing before, where the store tells that it holds the file of an origin
  pub refused_held : (d : Doc) → IsOrigin old.header old.top old.key d → tells_file w.held d old.key ≡ true
      → (fault : StartFault) → RefusesStart {T = T} (Err fault) w.fault v.fault → (fault ≡ Read BadIndex → IsOfNoOrigin new v.served v.held)
      → IsStartFailure fault
  refused_held d origin told fault refuses none = by fault refuses none
    where
      origin_now : IsOrigin new.header new.top new.key d
      origin_now = subst (λ (h : Head). IsOrigin h.header h.top h.key d) (sym fetched.head) origin

      told_now : tells_file v.held d new.key ≡ true
      told_now =
          subst (λ (h : Head). tells_file v.held d h.key ≡ true) (sym fetched.head)
          (subst (λ (o : Option (List ℕ)). tells_file o d old.key ≡ true) (sym fetched.reads.held_is) told)

      by : (fault : StartFault) → RefusesStart {T = T} (Err fault) w.fault v.fault → (fault ≡ Read BadIndex → IsOfNoOrigin new v.served v.held) → IsStartFailure fault
      by NoMemory refuses none = tt
      by (Read fault) (inl is) none = subst IsQuiet is (fetched.held d origin_now told_now quiet)
      by (Read fault) (inr missed) none =
          absurd (true≢false (sym (held-sound v.served v.held d new.key told_now) ∙ none (ap (λ (f : ReadFault). Read f) missed.0) d origin_now))
