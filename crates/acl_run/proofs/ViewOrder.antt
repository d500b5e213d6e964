-- `view` and `explain` follow their steps.
use Rattle.std.proofs.Common.{◌≡◌, ℕ, Option, Some, None, Result, Ok, Err, List, [], ◌∷◌, IsTrue, IfSome, refl, sym, ap, ◌∙◌, subst, true≢false}
use Rattle.acl_model.specs.declared.path.Path.{Path}
use Rattle.licence.specs.declared.keys.Keys.{Keys}
use Rattle.licence.specs.declared.terms.Licence.{Licence}
use Rattle.licence.specs.Forms.{◌>>=◌}
use Rattle.acl_outcome.specs.declared.outcome.Outcome.{Outcome}
use Rattle.acl_outcome.specs.Ends.{keys, input, store, End, done, no_memory, usage, fault, stopped, refused, is_same, end_of}
use Rattle.acl_run.specs.declared.preview.Wanted.{Wanted}
use Rattle.acl_words.specs.Command.{Shown, the_view, an_answer, an_explanation, view}
use Rattle.acl_run.specs.inside.Opening.{ends_opening}
use Rattle.acl_run.specs.Preview.{wanted_by}
use Rattle.acl_run.specs.Readers.{keys_of, sealed_licence_of, query_of}
use Rattle.acl_run.specs.inside.SourceSteps.{ends_reading}
use Rattle.acl_run.specs.Steps.{Step, reads, asks, opens, are_keys, is_licence, is_query, finding_of, is_of_store, may_end_from, EndsAtOr, Follows, OrNoMemory, OrFaultOf, OrStoreRefusal}
use Rattle.acl_run.specs.Work.{steps_of, licence_finding, sealed_query_finding, ends_at_query}
use Rattle.acl_run.specs.inside.WritingSteps.{writing_steps}
use Rattle.acl_run.proofs.Facts.{on_false, on_false-true, or_false, or_no_memory, or_no_memory_so, or_fault_of}
use Rattle.acl_run.proofs.Following.{asking_ends, asking_passes, reading_ends, reading_passes, writing_ends}
use Rattle.acl_run.proofs.PreviewSteps.{answer_read, answer_refused, nothing_asked}

-- ---- at the store

or_store_refusal : (e : End) {P : Type 0} → P → OrStoreRefusal e P
or_store_refusal done p = p
or_store_refusal no_memory p = p
or_store_refusal usage p = p
or_store_refusal (fault x) p = p
or_store_refusal stopped p = p
or_store_refusal (refused subject) p = on_false (is_of_store subject) p

opening_so : (o : Outcome) (e : End) (later : Type 0) → IsTrue (ends_opening e) → EndsAtOr opens o e later
opening_so o no_memory later h = tt
opening_so o (fault y) later h = on_false-true (is_same store y) _ (or_false _ h)
opening_so o (refused subject) later h = on_false-true (is_of_store subject) _ (or_false _ h)
opening_so o e later h = absurd (true≢false (sym h))

-- a run that ends where it opens the store
opening_stops : (o : Outcome) (steps : List Step) → IsTrue (ends_opening (end_of o)) → Follows (opens ∷ steps) o
opening_stops o steps h = opening_so o (end_of o) (Follows steps o) h

-- a run that goes on after it
opening_passes : (o : Outcome) (steps : List Step) → Follows steps o → Follows (opens ∷ steps) o
opening_passes o steps later = or_no_memory (end_of o) (or_fault_of store (end_of o) (or_store_refusal (end_of o) later))

-- ---- at the licence

licence_ends : (kl ql : Option (List ℕ)) (secret : Keys) (o : Outcome) (steps : List Step) → IfSome kl (λ bytes. keys_of bytes ≡ Ok secret)
    → IsTrue (ends_reading input is_licence (end_of o))
    → IfSome ql (λ bytes. OrNoMemory (end_of o) (OrFaultOf input (end_of o) (sealed_licence_of secret.seal bytes ≡ Err o)))
    → Follows (reads input ∷ asks is_licence (licence_finding kl ql) ∷ steps) o
licence_ends None ql secret o steps keys_is h w = reading_ends input is_licence (sealed_licence_of secret.seal) None o steps h tt
licence_ends (Some b) ql secret o steps keys_is h w =
    let P : Result Keys Outcome → Type 0 = λ r. IfSome ql (λ bytes. OrNoMemory (end_of o) (OrFaultOf input (end_of o) ((r >>= λ keys. sealed_licence_of keys.seal bytes) ≡ Err o))) in
    reading_ends input is_licence (λ bytes. keys_of b >>= λ keys. sealed_licence_of keys.seal bytes) ql o steps h (subst P (sym keys_is) w)

licence_passes : (kl ql : Option (List ℕ)) (secret : Keys) (licence : Licence) (o : Outcome) (steps : List Step) → IfSome kl (λ bytes. keys_of bytes ≡ Ok secret)
    → IfSome ql (λ bytes. sealed_licence_of secret.seal bytes ≡ Ok licence) → Follows steps o
    → Follows (reads input ∷ asks is_licence (licence_finding kl ql) ∷ steps) o
licence_passes None ql secret licence o steps keys_is is later = reading_passes input is_licence (sealed_licence_of secret.seal) None licence o steps tt later
licence_passes (Some b) ql secret licence o steps keys_is is later =
    let P : Result Keys Outcome → Type 0 = λ r. IfSome ql (λ bytes. (r >>= λ keys. sealed_licence_of keys.seal bytes) ≡ Ok licence) in
    reading_passes input is_licence (λ bytes. keys_of b >>= λ keys. sealed_licence_of keys.seal bytes) ql licence o steps (subst P (sym keys_is) is) later

-- ---- at the query

-- the path of a query for the user of a licence
abbrev path_of : List ℕ → Result Keys Outcome → List ℕ → Result Path Outcome
path_of query r bytes = r >>= λ keys. sealed_licence_of keys.seal bytes >>= λ licence. query_of licence.user query

path_is : (query b bytes : List ℕ) (secret : Keys) (licence : Licence) → keys_of b ≡ Ok secret → sealed_licence_of secret.seal bytes ≡ Ok licence
    → path_of query (keys_of b) bytes ≡ query_of licence.user query
path_is query b bytes secret licence keys_is is =
    ap (λ (r : Result Keys Outcome). path_of query r bytes) keys_is
    ∙ ap (λ (r : Result Licence Outcome). r >>= λ licence. query_of licence.user query) is

answer_ends : (query : List ℕ) (kl ql : Option (List ℕ)) (secret : Keys) (licence : Licence) (o : Outcome) (steps : List Step) → IfSome kl (λ bytes. keys_of bytes ≡ Ok secret)
    → IfSome ql (λ bytes. sealed_licence_of secret.seal bytes ≡ Ok licence)
    → IsTrue (ends_at_query (an_answer query) (end_of o)) → OrNoMemory (end_of o) (query_of licence.user query ≡ Err o)
    → Follows (asks is_query (sealed_query_finding (an_answer query) kl ql) ∷ steps) o
answer_ends query None ql secret licence o steps keys_is is h w = asking_ends is_query (query_of licence.user) None o steps h tt
answer_ends query (Some b) None secret licence o steps keys_is is h w = asking_ends is_query (path_of query (keys_of b)) None o steps h tt
answer_ends query (Some b) (Some bytes) secret licence o steps keys_is is h w =
    asking_ends is_query (path_of query (keys_of b)) (Some bytes) o steps h
    (or_no_memory_so (end_of o) _ _ (λ refusal. path_is query b bytes secret licence keys_is is ∙ refusal) w)

answer_passes : (query : List ℕ) (kl ql : Option (List ℕ)) (secret : Keys) (licence : Licence) (path : Path) (o : Outcome) (steps : List Step) → IfSome kl (λ bytes. keys_of bytes ≡ Ok secret)
    → IfSome ql (λ bytes. sealed_licence_of secret.seal bytes ≡ Ok licence) → query_of licence.user query ≡ Ok path → Follows steps o
    → Follows (asks is_query (sealed_query_finding (an_answer query) kl ql) ∷ steps) o
answer_passes query None ql secret licence path o steps keys_is is read later = asking_passes is_query (query_of licence.user) None path o steps tt later
answer_passes query (Some b) None secret licence path o steps keys_is is read later = asking_passes is_query (path_of query (keys_of b)) None path o steps tt later
answer_passes query (Some b) (Some bytes) secret licence path o steps keys_is is read later =
    asking_passes is_query (path_of query (keys_of b)) (Some bytes) path o steps (path_is query b bytes secret licence keys_is is ∙ read) later

query_ends : (what : Shown) (kl ql : Option (List ℕ)) (secret : Keys) (licence : Licence) (o : Outcome) (steps : List Step) → IfSome kl (λ bytes. keys_of bytes ≡ Ok secret)
    → IfSome ql (λ bytes. sealed_licence_of secret.seal bytes ≡ Ok licence)
    → IsTrue (ends_at_query what (end_of o)) → OrNoMemory (end_of o) (wanted_by licence.user what ≡ Err o)
    → Follows (asks is_query (sealed_query_finding what kl ql) ∷ steps) o
query_ends the_view kl ql secret licence o steps keys_is is h w = nothing_asked (end_of o) _ h
query_ends (an_answer query) kl ql secret licence o steps keys_is is h w =
    answer_ends query kl ql secret licence o steps keys_is is h (or_no_memory_so (end_of o) _ _ (answer_refused (query_of licence.user query) o) w)
query_ends an_explanation kl ql secret licence o steps keys_is is h w = nothing_asked (end_of o) _ h

query_passes : (what : Shown) (kl ql : Option (List ℕ)) (secret : Keys) (licence : Licence) (wanted : Wanted) (o : Outcome) (steps : List Step) → IfSome kl (λ bytes. keys_of bytes ≡ Ok secret)
    → IfSome ql (λ bytes. sealed_licence_of secret.seal bytes ≡ Ok licence) → wanted_by licence.user what ≡ Ok wanted → Follows steps o
    → Follows (asks is_query (sealed_query_finding what kl ql) ∷ steps) o
query_passes the_view kl ql secret licence wanted o steps keys_is is read later = or_no_memory (end_of o) later
query_passes (an_answer query) kl ql secret licence wanted o steps keys_is is read later =
    let path = answer_read (query_of licence.user query) wanted read in
    answer_passes query kl ql secret licence path.0 o steps keys_is is path.1 later
query_passes an_explanation kl ql secret licence wanted o steps keys_is is read later = or_no_memory (end_of o) later

-- ---- the order of work

abbrev after_query : List Step
after_query = opens ∷ writing_steps

abbrev after_licence : Shown → Option (List ℕ) → Option (List ℕ) → List Step
after_licence what kl ql = asks is_query (sealed_query_finding what kl ql) ∷ after_query

abbrev after_keys : Shown → Option (List ℕ) → Option (List ℕ) → List Step
after_keys what kl ql = reads input ∷ asks is_licence (licence_finding kl ql) ∷ after_licence what kl ql

-- the run ends at the reading of the keys
pub ends_at_keys : (what : Shown) (kl ql : Option (List ℕ)) (o : Outcome) → IsTrue (ends_reading keys are_keys (end_of o))
    → IfSome kl (λ bytes. OrNoMemory (end_of o) (OrFaultOf keys (end_of o) (keys_of bytes ≡ Err o)))
    → Follows (steps_of (view what) kl ql) o
ends_at_keys what kl ql o h w = reading_ends keys are_keys keys_of kl o (after_keys what kl ql) h w

module _ (what : Shown) (kl ql : Option (List ℕ)) (secret : Keys) (o : Outcome) (keys_is : IfSome kl (λ bytes. keys_of bytes ≡ Ok secret)) where
  -- at the reading of the licence
  pub ends_at_licence : IsTrue (ends_reading input is_licence (end_of o))
      → IfSome ql (λ bytes. OrNoMemory (end_of o) (OrFaultOf input (end_of o) (sealed_licence_of secret.seal bytes ≡ Err o)))
      → Follows (steps_of (view what) kl ql) o
  ends_at_licence h w =
      reading_passes keys are_keys keys_of kl secret o (after_keys what kl ql) keys_is
      (licence_ends kl ql secret o (after_licence what kl ql) keys_is h w)

  module _ (licence : Licence) (licence_is : IfSome ql (λ bytes. sealed_licence_of secret.seal bytes ≡ Ok licence)) where
    -- at the reading of the query
    pub ends_at_wanted : IsTrue (ends_at_query what (end_of o)) → OrNoMemory (end_of o) (wanted_by licence.user what ≡ Err o) → Follows (steps_of (view what) kl ql) o
    ends_at_wanted h w =
        reading_passes keys are_keys keys_of kl secret o (after_keys what kl ql) keys_is
        (licence_passes kl ql secret licence o (after_licence what kl ql) keys_is licence_is
        (query_ends what kl ql secret licence o after_query keys_is licence_is h w))

    -- at the opening of the store
    pub ends_at_opening : (wanted : Wanted) → wanted_by licence.user what ≡ Ok wanted → IsTrue (ends_opening (end_of o)) → Follows (steps_of (view what) kl ql) o
    ends_at_opening wanted wanted_is h =
        reading_passes keys are_keys keys_of kl secret o (after_keys what kl ql) keys_is
        (licence_passes kl ql secret licence o (after_licence what kl ql) keys_is licence_is
        (query_passes what kl ql secret licence wanted o after_query keys_is licence_is wanted_is (opening_stops o writing_steps h)))

    -- after all that is read
    pub ends_at_showing : (wanted : Wanted) → wanted_by licence.user what ≡ Ok wanted → IsTrue (may_end_from writing_steps (end_of o)) → Follows (steps_of (view what) kl ql) o
    ends_at_showing wanted wanted_is h =
        reading_passes keys are_keys keys_of kl secret o (after_keys what kl ql) keys_is
        (licence_passes kl ql secret licence o (after_licence what kl ql) keys_is licence_is
        (query_passes what kl ql secret licence wanted o after_query keys_is licence_is wanted_is
        (opening_passes o writing_steps (writing_ends o (end_of o) h))))
