-- The reads of a test file with 41 fragments, written out, under a hash that computes. The definitions about reads are
-- computed on them.
use Rattle.std.proofs.Common.{◌≡◌, ℕ, zero, suc, ◌+◌, ◌*◌, ◌/◌, ◌%◌, Bool, true, false, List, [], ◌∷◌, ◌++◌, map, take, drop, replicate, refl}
use Rattle.std.specs.Prelude.{Some, Option, fold, is_some, bytes_eq, set}
use Rattle.acl_outside.specs.Outside.{StoreRead}
use Rattle.merkle_chunks.specs.HeaderBytes.{fragment_count, header_bytes}
use Rattle.merkle_chunks.specs.Strings.{StringName, root, spot}
use Rattle.merkle_chunks.specs.Table.{top_level, table_levels, strings_at, top_digest, file_bytes, all_strings}
use Rattle.merkle_chunks.specs.declared.header.Header.{Header}
use Rattle.fragment_open.specs.Openings.{openings, indexes}
use Rattle.fragment_open.specs.Asks.{goal_level}
use Rattle.fragment_open.specs.Served.{asks_by, header_in, header_served, fragments_served}
use Rattle.fragment_open.specs.Hashed.{folded, hashed, hashed_in, string_at, wanted}
use Rattle.fragment_open.specs.Clash.{has_clash}

-- a hash of 32 bytes that depends on each byte and its index
toy : List ℕ → List ℕ
toy bytes = let sum : ℕ = fold (λ sum byte. (sum * 31 + byte + 7) % 65521) 1 bytes in sum / 256 ∷ sum % 256 ∷ replicate 30 0

worked : Header
worked = record { tree = 10264; dictionary = 8; tags = 3; depth = 2; check = replicate 16 7 }

-- n fragments, each with its number in each byte
made : ℕ → List (List ℕ)
made zero = []
made (suc n) = made n ++ (replicate 256 n ∷ [])

file41 : List ℕ
file41 = file_bytes toy (header_bytes worked) (made 41)

strings41 : List (StringName × List ℕ)
strings41 = all_strings toy (header_bytes worked) (made 41)

-- what a store that holds bytes serves for an ask
served : List ℕ → List (ℕ × ℕ) → List StoreRead
served file [] = []
served file (a ∷ asks) = record { at = a.0; asked = a.1; bytes = take a.1 (drop a.0 file) } ∷ served file asks

-- The reads of the header and the top digest, and then of the fragments 40, 36 and 31. Fragment 36 is in the chunk of
-- fragment 40, and fragment 31 is in the chunk before.
start : List (ℕ × ℕ)
start = (0, 64) ∷ (13248, 32) ∷ []

first40 : List (ℕ × ℕ)
first40 = (10304, 256) ∷ (13024, 32) ∷ (13184, 32) ∷ []

then36 : List (ℕ × ℕ)
then36 = (9280, 256) ∷ (11744, 32) ∷ (12480, 32) ∷ (12800, 32) ∷ (13056, 32) ∷ []

then31 : List (ℕ × ℕ)
then31 = (8000, 256) ∷ (11520, 32) ∷ (12320, 32) ∷ (12736, 32) ∷ (12960, 32) ∷ (13088, 32) ∷ (13216, 32) ∷ []

header_row : header_in (header_bytes worked) ≡ Some worked
unfolding header_in worked
header_row = refl

count_row : fragment_count worked ≡ 41
unfolding worked
count_row = refl

top_rows : map top_level (1 ∷ 2 ∷ 5 ∷ 16 ∷ 17 ∷ 32 ∷ 33 ∷ 41 ∷ []) ≡ 0 ∷ 1 ∷ 3 ∷ 4 ∷ 5 ∷ 5 ∷ 6 ∷ 6 ∷ []
unfolding top_level
top_rows = refl

goal_rows : goal_level 41 40 [] ∷ goal_level 41 36 (40 ∷ []) ∷ goal_level 41 31 (36 ∷ 40 ∷ []) ∷ goal_level 16 3 (2 ∷ []) ∷ goal_level 17 3 (2 ∷ []) ∷ []
    ≡ 6 ∷ 4 ∷ 6 ∷ 4 ∷ 4 ∷ []
unfolding top_level
goal_rows = refl

ask_rows : asks_by (Some worked) (31 ∷ 36 ∷ 40 ∷ []) ≡ start ++ (first40 ++ (then36 ++ then31))
unfolding top_level worked start first40 then36 then31
ask_rows = refl

reads41 : List StoreRead
reads41 = served file41 (start ++ (first40 ++ (then36 ++ then31)))

fragments_row : fragments_served reads41 ≡ 41
unfolding reads41 file41 file_bytes served worked toy made start first40 then36 then31 header_in
fragments_row = refl

regular_row : map (λ (r : StoreRead). (r.at, r.asked)) reads41 ≡ take 17 (asks_by (header_served reads41) (indexes reads41))
unfolding reads41 file41 file_bytes served worked toy made start first40 then36 then31 header_in openings top_level
regular_row = refl

index_row : indexes reads41 ≡ 31 ∷ 36 ∷ 40 ∷ []
unfolding reads41 file41 file_bytes served worked toy made start first40 then36 then31 header_in openings top_level
index_row = refl

-- the names of the strings that were hashed: level 6, 4 and 6 are the goals
names : List (StringName × List ℕ) → List StringName
names [] = []
names (s ∷ strings) = s.0 ∷ names strings

name_rows : names (hashed toy reads41)
    ≡ root ∷ spot 0 40 ∷ spot 1 20 ∷ spot 2 10 ∷ spot 3 5 ∷ spot 4 2 ∷ spot 5 1 ∷ spot 6 0
    ∷ spot 0 36 ∷ spot 1 18 ∷ spot 2 9 ∷ spot 3 4 ∷ spot 4 2
    ∷ spot 0 31 ∷ spot 1 15 ∷ spot 2 7 ∷ spot 3 3 ∷ spot 4 1 ∷ spot 5 0 ∷ spot 6 0 ∷ []
unfolding names reads41 file41 file_bytes table_levels strings_at served worked toy made start first40 then36 then31 header_in openings top_level hashed hashed_in string_at
name_rows = refl

-- what an honest store serves folds to what is wanted, after each of the three openings
same_at : ℕ → Bool
same_at count = is_some (folded toy (take count reads41))

some_rows : same_at 5 ∷ same_at 10 ∷ same_at 17 ∷ [] ≡ true ∷ true ∷ true ∷ []
unfolding same_at folded reads41 file41 file_bytes table_levels strings_at served worked toy made start first40 then36 then31 header_in openings top_level string_at
some_rows = refl

fold_rows : map (λ (count : ℕ). folded toy (take count reads41)) (5 ∷ 10 ∷ 17 ∷ []) ≡ map (λ (count : ℕ). wanted toy (take count reads41)) (5 ∷ 10 ∷ 17 ∷ [])
unfolding folded wanted reads41 file41 file_bytes table_levels strings_at served worked toy made start first40 then36 then31 header_in openings top_level string_at
fold_rows = refl

no_clash_row : has_clash toy (hashed toy reads41) strings41 ≡ false
unfolding has_clash strings41 all_strings top_digest reads41 file41 file_bytes table_levels strings_at served worked toy made start first40 then36 then31 header_in openings top_level hashed hashed_in string_at
no_clash_row = refl

-- fragment 40 with other bytes doesn't fold to the top digest, and fragment 36 after it no longer folds to the wanted
-- digest
changed : List StoreRead
changed = set reads41 2 (record { at = 10304; asked = 256; bytes = replicate 256 41 })

same_bytes : Option (List ℕ) → Option (List ℕ) → Bool
same_bytes (Some one) (Some other) = bytes_eq one other
same_bytes one other = false

changed_rows : map (λ (count : ℕ). same_bytes (folded toy (take count changed)) (wanted toy (take count changed))) (5 ∷ 10 ∷ 17 ∷ []) ≡ false ∷ false ∷ true ∷ []
unfolding same_bytes changed folded wanted reads41 file41 file_bytes table_levels strings_at served worked toy made start first40 then36 then31 header_in openings top_level string_at
changed_rows = refl

-- under a hash that takes all strings to one digest the changed fragment is a clash
clash_row : has_clash (λ bytes. replicate 32 0) (hashed (λ bytes. replicate 32 0) changed) strings41 ≡ true
unfolding changed has_clash strings41 all_strings top_digest reads41 file41 file_bytes table_levels strings_at served worked toy made start first40 then36 then31 header_in openings top_level hashed hashed_in string_at
clash_row = refl

-- A short read of a sibling ends the whole list. Here it is at level 3 of the first opening, so the string on level 4
-- and all of the next openings are absent. A short read of a fragment leaves out only that fragment.
cut_sibling_row : names (hashed toy (set reads41 3 (record { at = 13024; asked = 32; bytes = replicate 31 0 }))) ≡ root ∷ spot 0 40 ∷ spot 1 20 ∷ spot 2 10 ∷ spot 3 5 ∷ []
unfolding names reads41 file41 file_bytes table_levels strings_at served worked toy made start first40 then36 then31 header_in openings top_level hashed hashed_in string_at
cut_sibling_row = refl

cut_leaf_row : names (hashed toy (take 10 (set reads41 2 (record { at = 10304; asked = 256; bytes = replicate 255 40 })))) ≡ root ∷ spot 0 36 ∷ spot 1 18 ∷ spot 2 9 ∷ spot 3 4 ∷ spot 4 2 ∷ []
unfolding names reads41 file41 file_bytes table_levels strings_at served worked toy made start first40 then36 then31 header_in openings top_level hashed hashed_in string_at
cut_leaf_row = refl

-- the first two reads are recognised by their position, also where they ask for 256 bytes
position_row : indexes (map (λ (r : StoreRead). record r { asked = 256 }) (take 3 reads41)) ≡ 40 ∷ []
unfolding reads41 file41 file_bytes table_levels strings_at served worked toy made start first40 then36 then31 header_in openings top_level
position_row = refl
