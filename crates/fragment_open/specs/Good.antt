-- Good openings: each folds to the wanted digest. Defined by this project.
use Rattle.std.specs.Prelude.{◌≡◌, ℕ, ◌<◌, true, is_some, Some, List, [], ◌∷◌}
use Rattle.fragment_open.specs.Openings.{Opening, index_of}
use Rattle.fragment_open.specs.Hashed.{folded_in, wanted_in}

-- Each of the openings (the newest first) is good, over n fragments with a top digest. Its fragment exists, the reads
-- that are hashed for it are whole, and it folds to the digest that is wanted after the openings before.
abbrev pub AllFoldAsWanted : (List ℕ → List ℕ) → ℕ → List ℕ → List Opening → Type 0
AllFoldAsWanted hash n top [] = Unit {0}
AllFoldAsWanted hash n top (opening ∷ before) =
    (index_of opening < n) × (is_some (folded_in hash n (opening ∷ before)) ≡ true)
    × (folded_in hash n (opening ∷ before) ≡ wanted_in hash n (Some top) (opening ∷ before)) × AllFoldAsWanted hash n top before
