-- An opener opens no fragment when it starts.
use Rattle.std.proofs.Common.{◌≡◌, ℕ, List, [], ◌∷◌, map, refl}
use Rattle.std.specs.Prelude.{Option, None, Some}
use Rattle.acl_outside.specs.Outside.{StoreRead}
use Rattle.fragment_open.specs.CallReads.{Told}
use Rattle.fragment_open.specs.Openings.{Opening, index_of, openings}
use Rattle.fragment_open.specs.Settled.{IsKept, Settled, since}
use Rattle.fragment_open.specs.Starting.{IsStarted}
use Rattle.fragment_open.proofs.FetchLemmas.{told-settled}
use Rattle.merkle_chunks.specs.HeaderBytes.{fragment_count}
use Rattle.merkle_chunks.specs.declared.header.Header.{Header}
use Rattle.skip_decode.specs.CheckedStream.{OpenedNone}

-- where nothing is kept, there is no opening
kept-none : (n : ℕ) (all : List Opening) → IsKept n None all → map index_of all ≡ []
kept-none n [] kept = refl
kept-none n (opening ∷ before) kept = absurd kept

-- an opener that keeps nothing and has refused nothing has opened no fragment
pub settled-none : (served : Option (List StoreRead)) (header : Header) (top : List ℕ)
    → Settled served header top None None → OpenedNone served
settled-none None header top settled = tt
settled-none (Some all) header top settled = kept-none (fragment_count header) (openings (since all)) settled.kept_is

-- an opener has opened no fragment after a start
pub started-none : (before after : Option (List StoreRead)) (header : Header) (top : List ℕ)
    → Told before after (IsStarted header top) → OpenedNone after
started-none before after header top told = settled-none after header top (told-settled header top before after told)
