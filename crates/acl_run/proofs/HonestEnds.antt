-- How `view` and `explain` end over a store that contains the file: by no refusal of the store's bytes.
use Rattle.std.proofs.Common.{◌≡◌, ℕ, Option, Some, None, Result, Ok, Err, List, length, IsTrue, IfSome, sym, ap, subst, arith, length-append, true≢false}
use Rattle.std.proofs.Math.Seq.{take-length}
use Rattle.std.specs.Bool.{OnTrue}
use Rattle.std.specs.Io.KnownBytes.{Appends}
use Rattle.acl_outside.specs.Outside.{AppendsPart}
use Rattle.licence.specs.declared.keys.Keys.{Keys}
use Rattle.licence.specs.declared.terms.Licence.{Licence}
use Rattle.file_reading.specs.FileEnds.{OfHeldDocument}
use Rattle.acl_outcome.specs.declared.outcome.Outcome.{Outcome}
use Rattle.acl_outcome.specs.Ends.{keys, input, store, out, note, End, done, no_memory, usage, fault, stopped, refused, end_of}
use Rattle.acl_run.specs.declared.preview.Wanted.{Wanted}
use Rattle.acl_words.specs.Command.{Shown, view}
use Rattle.acl_run.specs.Headline.{IsUnrefusedEnd, OfHeldText, OfKeys, OfLicence, OfOpened, OfWanted}
use Rattle.acl_run.specs.inside.Opening.{IsHonestEnd}
use Rattle.acl_run.specs.Preview.{wanted_by}
use Rattle.acl_run.specs.Readers.{keys_of, sealed_licence_of}
use Rattle.acl_run.specs.inside.SourceSteps.{ends_reading}
use Rattle.acl_run.specs.Steps.{are_keys, is_licence, may_end_from, is_before, is_writing_to, OrNoMemory, OrFaultOf}
use Rattle.acl_run.specs.WrittenTexts.{WhereWhole, WritesText}
use Rattle.acl_run.specs.Work.{ends_at_query}
use Rattle.acl_run.specs.inside.WritingSteps.{writing_steps}
use Rattle.acl_run.proofs.HeadlineLemmas.{OfHeld, of_keys, of_licence, of_wanted, part_of_none, read_is}
use Rattle.acl_run.proofs.ViewSteps.{keys-whole, licence-whole, query-whole}

-- ---- where bytes are refused

-- after refused keys nothing is claimed of what is due; any other end there is no refusal
keys_refused : (what : Shown) (r : Result Keys Outcome) (sealed : List ℕ) (o : Outcome) (e : End) (H : Keys → Licence → Wanted → Type 0)
    → IsTrue (ends_reading keys are_keys e) → OrNoMemory e (OrFaultOf keys e (r ≡ Err o))
    → (IsUnrefusedEnd e → (k : Keys) (l : Licence) (wanted : Wanted) → H k l wanted) → OfKeys what r sealed H
keys_refused what r sealed o no_memory H h w all = of_keys what r sealed H (all tt)
keys_refused what r sealed o (fault keys) H h w all = of_keys what r sealed H (all tt)
keys_refused what (Ok k) sealed o (refused subject) H h w all = absurd (cc)
keys_refused what (Err refusal) sealed o (refused subject) H h w all = tt
keys_refused what r sealed o e H h w all = absurd (true≢false (sym h))

-- the same of a refused licence
licence_refused : (what : Shown) (k : Keys) (r : Result Licence Outcome) (o : Outcome) (e : End) (H : Keys → Licence → Wanted → Type 0)
    → IsTrue (ends_reading input is_licence e) → OrNoMemory e (OrFaultOf input e (r ≡ Err o))
    → (IsUnrefusedEnd e → (k : Keys) (l : Licence) (wanted : Wanted) → H k l wanted) → OfLicence what k r H
licence_refused what k r o no_memory H h w all = of_licence what k r H (all tt)
licence_refused what k r o (fault input) H h w all = of_licence what k r H (all tt)
licence_refused what k (Ok l) o (refused subject) H h w all = absurd (cc)
licence_refused what k (Err refusal) o (refused subject) H h w all = tt
licence_refused what k r o e H h w all = absurd (true≢false (sym h))

-- and of a refused query
wanted_refused : (what : Shown) (k : Keys) (l : Licence) (r : Result Wanted Outcome) (o : Outcome) (e : End) (H : Keys → Licence → Wanted → Type 0)
    → IsTrue (ends_at_query what e) → OrNoMemory e (r ≡ Err o)
    → (IsUnrefusedEnd e → (k : Keys) (l : Licence) (wanted : Wanted) → H k l wanted) → OfWanted k l r H
wanted_refused what k l r o no_memory H h w all = of_wanted k l r H (all tt)
wanted_refused what k l (Ok wanted) o (refused subject) H h w all = absurd (cc)
wanted_refused what k l (Err refusal) o (refused subject) H h w all = tt
wanted_refused what k l r o e H h w all = absurd (true≢false (sym h))

-- ---- by the bytes that the sources tell

-- a run that ends at the reading of the keys
pub keys_honest : (what : Shown) (kl ql held : Option (List ℕ)) (o : Outcome) (P : List ℕ → Type 0)
    → IsTrue (ends_reading keys are_keys (end_of o)) → IfSome kl (λ bytes. OrNoMemory (end_of o) (OrFaultOf keys (end_of o) (keys_of bytes ≡ Err o)))
    → IfSome kl (λ secret. IfSome ql (λ sealed. OfHeldText (view what) secret sealed held (λ text. IsUnrefusedEnd (end_of o) × WhereWhole (end_of o) (P text))))
keys_honest what None ql held o P h w = tt
keys_honest what (Some secret) None held o P h w = tt
keys_honest what (Some secret) (Some sealed) held o P h w =
    keys_refused what (keys_of secret) sealed o (end_of o) (OfHeld held (λ text. IsUnrefusedEnd (end_of o) × WhereWhole (end_of o) (P text))) h w
    (λ none k l wanted d holds root. (none, keys-whole what _ (end_of o) h))

-- at the reading of the licence
pub licence_honest : (what : Shown) (kl ql held : Option (List ℕ)) (k : Keys) (o : Outcome) (P : List ℕ → Type 0) → IfSome kl (λ bytes. keys_of bytes ≡ Ok k)
    → IsTrue (ends_reading input is_licence (end_of o)) → IfSome ql (λ bytes. OrNoMemory (end_of o) (OrFaultOf input (end_of o) (sealed_licence_of k.seal bytes ≡ Err o)))
    → IfSome kl (λ secret. IfSome ql (λ sealed. OfHeldText (view what) secret sealed held (λ text. IsUnrefusedEnd (end_of o) × WhereWhole (end_of o) (P text))))
licence_honest what None ql held k o P keys_is h w = tt
licence_honest what (Some secret) None held k o P keys_is h w = tt
licence_honest what (Some secret) (Some sealed) held k o P keys_is h w =
    let H : Keys → Licence → Wanted → Type 0 = OfHeld held (λ text. IsUnrefusedEnd (end_of o) × WhereWhole (end_of o) (P text)) in
    subst (λ (r : Result Keys Outcome). OfKeys what r sealed H) (sym keys_is)
    (licence_refused what k (sealed_licence_of k.seal sealed) o (end_of o) H h w
    (λ none k l wanted d holds root. (none, licence-whole what _ (end_of o) h)))

-- at the reading of the query
pub wanted_honest : (what : Shown) (kl ql held : Option (List ℕ)) (k : Keys) (l : Licence) (o : Outcome) (P : List ℕ → Type 0) → IfSome kl (λ bytes. keys_of bytes ≡ Ok k)
    → IfSome ql (λ bytes. sealed_licence_of k.seal bytes ≡ Ok l) → IsTrue (ends_at_query what (end_of o)) → OrNoMemory (end_of o) (wanted_by l.user what ≡ Err o)
    → IfSome kl (λ secret. IfSome ql (λ sealed. OfHeldText (view what) secret sealed held (λ text. IsUnrefusedEnd (end_of o) × WhereWhole (end_of o) (P text))))
wanted_honest what None ql held k l o P keys_is licence_is h w = tt
wanted_honest what (Some secret) None held k l o P keys_is licence_is h w = tt
wanted_honest what (Some secret) (Some sealed) held k l o P keys_is licence_is h w =
    let H : Keys → Licence → Wanted → Type 0 = OfHeld held (λ text. IsUnrefusedEnd (end_of o) × WhereWhole (end_of o) (P text)) in
    subst (λ (r : Result Keys Outcome). OfKeys what r sealed H) (sym keys_is)
    (subst (λ (r : Result Licence Outcome). OfLicence what k r H) (sym licence_is)
    (wanted_refused what k l (wanted_by l.user what) o (end_of o) H h w
    (λ none k l wanted d holds root. (none, query-whole what _ (end_of o) h))))

-- ---- where the store was opened

-- a fault of the store, or out of memory, is no refusal, and no text was written whole
honest_says : (e : End) (P : Type 0) → IsHonestEnd e → IsUnrefusedEnd e × WhereWhole e P
honest_says done P h = absurd h
honest_says no_memory P h = (tt, tt)
honest_says usage P h = absurd h
honest_says (fault keys) P h = absurd h
honest_says (fault input) P h = absurd h
honest_says (fault store) P h = (tt, tt)
honest_says (fault out) P h = absurd h
honest_says (fault note) P h = absurd h
honest_says stopped P h = absurd h
honest_says (refused subject) P h = absurd h

module _ (what : Shown) (kl ql : Option (List ℕ)) (k : Keys) (l : Licence) (wanted : Wanted) (wanted_is : wanted_by l.user what ≡ Ok wanted)
    (keys_is : IfSome kl (λ bytes. keys_of bytes ≡ Ok k)) (licence_is : IfSome ql (λ bytes. sealed_licence_of k.seal bytes ≡ Ok l)) where
  -- a run that ends where the store is opened
  pub store_honest : (held : Option (List ℕ)) (o : Outcome) (P : List ℕ → Type 0) → OfHeldDocument held l.root k.document (λ _. IsHonestEnd (end_of o))
      → IfSome kl (λ secret. IfSome ql (λ sealed. OfHeldText (view what) secret sealed held (λ text. IsUnrefusedEnd (end_of o) × WhereWhole (end_of o) (P text))))
  store_honest held o P honest =
      read_is what kl ql k l wanted wanted_is keys_is licence_is (OfHeld held (λ text. IsUnrefusedEnd (end_of o) × WhereWhole (end_of o) (P text)))
      (λ d holds root. honest_says (end_of o) _ (honest d holds root))

-- ---- at the writing of what is shown

-- the whole of a text is a prefix of it
whole_part : (before after : Option (List ℕ)) (text : List ℕ) → Appends before after text → AppendsPart before after text
whole_part None after text w = tt
whole_part (Some a) None text w = absurd w
whole_part (Some a) (Some b) text w = (omega (arith, length-append a text, ap length w), rw (← w) (take-length b))

-- what was written is a prefix of the text
pub writing_prefix : {S : Type 0} (written : S → Option (List ℕ)) (e : End) (old new : S) (text : List ℕ) → IsTrue (may_end_from writing_steps e)
    → WritesText e (written old) (written new) text → OnTrue (is_before (is_writing_to out) writing_steps e) (new ≡ old)
    → AppendsPart (written old) (written new) text
writing_prefix written done old new text h w none = whole_part (written old) (written new) text w
writing_prefix written no_memory old new text h w none =
    subst (λ (after : Option (List ℕ)). AppendsPart (written old) after text) (sym (ap written none)) (part_of_none (written old) text)
writing_prefix written (fault out) old new text h w none = w
writing_prefix written e old new text h w none = absurd (true≢false (sym h))

-- at an end that says that the whole text was written, it was
pub writing_whole : (e : End) (before after : Option (List ℕ)) (text : List ℕ) → IsTrue (may_end_from writing_steps e) → WritesText e before after text
    → WhereWhole e (Appends before after text)
writing_whole done before after text h w = w
writing_whole no_memory before after text h w = tt
writing_whole (fault out) before after text h w = tt
writing_whole e before after text h w = absurd (true≢false (sym h))

-- no end there is a refusal
pub writing_honest : (e : End) → IsTrue (may_end_from writing_steps e) → IsUnrefusedEnd e
writing_honest done h = tt
writing_honest no_memory h = tt
writing_honest (fault out) h = tt
writing_honest e h = absurd (true≢false (sym h))
