-- How a text is cut into lines, and how lines are written. All text formats of this project consist of lines.
use Rattle.std.specs.Prelude.{ℕ, Bool, not, nat_eq, ◌&&◌, Option, Some, None, List, [], ◌∷◌, ◌++◌, if◌then◌else◌}
use Rattle.std.specs.List.{list_all, onto_first}
use Rattle.std.specs.Option.{option_map}
use Rattle.acl_model.specs.Ascii.{are_bytes, line_feed}

-- A line ends at a line feed.
abbrev pub is_line_feed : ℕ → Bool
is_line_feed b = nat_eq b line_feed

-- A text is cut at each line feed; what follows the last one is a line where it is not empty.
abbrev pub lines : List ℕ → List (List ℕ)
lines [] = []
lines (b ∷ bs) = if is_line_feed b then [] ∷ lines bs else onto_first b (lines bs)

-- A line is written with its line feed.
abbrev pub as_line : List ℕ → List ℕ
as_line text = text ++ (line_feed ∷ [])

-- what comes before and after the first byte c, or None where there is no byte c
abbrev pub cut_at : ℕ → List ℕ → Option (List ℕ × List ℕ)
cut_at c [] = None
cut_at c (b ∷ bs) = if nat_eq b c then Some ([], bs) else option_map (λ p. (b ∷ p.0, p.1)) (cut_at c bs)

-- No byte of the list is c.
abbrev pub lacks : ℕ → List ℕ → Bool
lacks c bytes = list_all (λ b. not (nat_eq b c)) bytes

-- The list fits a line: each of its numbers is a byte, and none is a line feed.
abbrev pub is_within_line : List ℕ → Bool
is_within_line bytes = are_bytes bytes && lacks line_feed bytes
