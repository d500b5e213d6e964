-- One cut gives the first line; lines that were written are read as the same lines; and what lines contain.
use Rattle.std.proofs.Common.{◌≡◌, ℕ, ◌+◌, ◌-◌, ◌<◌, Bool, true, false, not, ◌==◌, nat_eq, Option, Some, None, List, [], ◌∷◌, ◌++◌, map, length, get_or, take, drop, if◌then◌else◌, refl, ap, sym, ◌∙◌, ◌⊎◌, inl, inr, arith, add-one, append_assoc, length-append, suc, zero}
use Rattle.std.proofs.lemmas.Bool.{false≢true, eq-eqb, ne_eqb}
use Rattle.std.proofs.lemmas.List.Folds.{list_all-append}
use Rattle.std.proofs.lemmas.List.{take_rest}
use Rattle.std.specs.Cmp.{first_so, second_so}
use Rattle.std.specs.List.{list_all, onto_first, concat, slice_split}
use Rattle.std.specs.Option.{option_map}
use borrow.Author.Tests.{eqb-true}
use Rattle.acl_model.specs.Ascii.{is_byte, are_bytes, line_feed}
use Rattle.acl_model.specs.Lines.{is_line_feed, lines, as_line, cut_at, lacks}

-- ---- one cut

-- The byte at i is the first c.
pub cut_at-found : (c : ℕ) (bytes : List ℕ) (i : ℕ) → ((k : ℕ) → k < i → get_or bytes k 0 ≡ c → ⊥) → i < length bytes → get_or bytes i 0 ≡ c
    → cut_at c bytes ≡ Some (take i bytes, drop (i + 1) bytes)
cut_at-found c [] i none inside here = absurd (omega arith)
cut_at-found c (b ∷ bytes) zero none inside here = rw (eq-eqb b c here) refl
cut_at-found c (b ∷ bytes) (suc i) none inside here =
    let other : nat_eq b c ≡ false = ne_eqb b c (none 0 (omega arith)) in
    let rest : cut_at c bytes ≡ Some (take i bytes, drop (i + 1) bytes) = cut_at-found c bytes i (λ k h. none (suc k) (omega arith)) (omega arith) here in
    rw (other, rest, add-one (suc i), add-one i) refl

-- No byte is c.
pub cut_at-none : (c : ℕ) (bytes : List ℕ) → ((k : ℕ) → k < length bytes → get_or bytes k 0 ≡ c → ⊥) → cut_at c bytes ≡ None
cut_at-none c [] none = refl
cut_at-none c (b ∷ bytes) none =
    let other : nat_eq b c ≡ false = ne_eqb b c (none 0 (omega arith)) in
    let rest : cut_at c bytes ≡ None = cut_at-none c bytes (λ k h. none (suc k) (omega arith)) in
    rw (other, rest) refl

-- The same, with what follows it given by its length.
pub cut_at-found_rest : (c : ℕ) (bytes : List ℕ) (i : ℕ) → ((k : ℕ) → k < i → get_or bytes k 0 ≡ c → ⊥) → i < length bytes → get_or bytes i 0 ≡ c
    → cut_at c bytes ≡ Some (take i bytes, take (length bytes - (i + 1)) (drop (i + 1) bytes))
cut_at-found_rest c bytes i none inside here = rw (take_rest bytes (i + 1)) (cut_at-found c bytes i none inside here)

-- the result of one cut
pub ruleset cuts = (cut_at-found_rest, cut_at-none)

not_true : (b : Bool) → not b ≡ true → b ≡ false
not_true true h = sym h
not_true false h = refl

-- ---- bytes that a text doesn't contain

-- A byte that fails a test differs from each byte that passes it.
passes_other : (p : ℕ → Bool) (c : ℕ) → p c ≡ false → (b : ℕ) → p b ≡ true → not (nat_eq b c) ≡ true
passes_other p c fails b passes = ap not (ne_eqb b c (λ (e : b ≡ c). false≢true (sym fails ∙ ap p (sym e) ∙ passes)))

-- Bytes that all pass a test lack a byte that fails it.
pub lacks-list_all : (p : ℕ → Bool) (c : ℕ) → p c ≡ false → (bytes : List ℕ) → list_all p bytes ≡ true → lacks c bytes ≡ true
lacks-list_all p c fails [] all = refl
lacks-list_all p c fails (b ∷ bytes) all =
    rw (passes_other p c fails b (first_so (p b) (list_all p bytes) all), lacks-list_all p c fails bytes (second_so (p b) (list_all p bytes) all)) refl

-- Two concatenated texts that lack c are a text that lacks c.
pub lacks-append : (c : ℕ) (xs ys : List ℕ) → lacks c xs ≡ true → lacks c ys ≡ true → lacks c (xs ++ ys) ≡ true
lacks-append c xs ys one two = list_all-append (λ (b : ℕ). not (nat_eq b c)) xs ys ∙ rw (one, two) refl

-- Where a text lacks c and c follows it, the text is what comes before the first c.
pub cut_at-append : (c : ℕ) (bytes rest : List ℕ) → lacks c bytes ≡ true → cut_at c (bytes ++ (c ∷ rest)) ≡ Some (bytes, rest)
cut_at-append c [] rest without = rw (eq-eqb c c refl) refl
cut_at-append c (b ∷ bytes) rest without =
    let other : nat_eq b c ≡ false = not_true (nat_eq b c) (first_so (not (nat_eq b c)) (lacks c bytes) without) in
    let later : cut_at c (bytes ++ (c ∷ rest)) ≡ Some (bytes, rest) = cut_at-append c bytes rest (second_so (not (nat_eq b c)) (lacks c bytes) without) in
    rw (other, later) refl

-- A text that lacks c is not cut at it.
pub cut_at-lacking : (c : ℕ) (bytes : List ℕ) → lacks c bytes ≡ true → cut_at c bytes ≡ None
cut_at-lacking c [] without = refl
cut_at-lacking c (b ∷ bytes) without =
    let other : nat_eq b c ≡ false = not_true (nat_eq b c) (first_so (not (nat_eq b c)) (lacks c bytes) without) in
    let later : cut_at c bytes ≡ None = cut_at-lacking c bytes (second_so (not (nat_eq b c)) (lacks c bytes) without) in
    rw (other, later) refl

-- ---- the first line

-- the lines of a text, from what one cut gives
abbrev lines_by : List ℕ → Option (List ℕ × List ℕ) → List (List ℕ)
lines_by [] None = []
lines_by (b ∷ bytes) None = (b ∷ bytes) ∷ []
lines_by bytes (Some p) = p.0 ∷ lines p.1

onto_first-lines_by : (b : ℕ) (bytes : List ℕ) (o : Option (List ℕ × List ℕ))
    → onto_first b (lines_by bytes o) ≡ lines_by (b ∷ bytes) (option_map (λ p. (b ∷ p.0, p.1)) o)
onto_first-lines_by b [] None = refl
onto_first-lines_by b (c ∷ bytes) None = refl
onto_first-lines_by b [] (Some p) = refl
onto_first-lines_by b (c ∷ bytes) (Some p) = refl

-- The lines of a text are given by one cut at a line feed.
pub lines-cut_at : (bytes : List ℕ) → lines bytes ≡ lines_by bytes (cut_at line_feed bytes)
lines-cut_at [] = refl
lines-cut_at (b ∷ bytes) =
    elim (is_line_feed b) as (λ v. (if v then [] ∷ lines bytes else onto_first b (lines bytes)) ≡ lines_by (b ∷ bytes) (if v then Some ([], bytes) else option_map (λ p. (b ∷ p.0, p.1)) (cut_at line_feed bytes)))
    [ true ↦ refl | false ↦ ap (onto_first b) (lines-cut_at bytes) ∙ onto_first-lines_by b bytes (cut_at line_feed bytes) ]

-- an empty text has no line
pub lines-nothing : (bytes : List ℕ) → length bytes ≡ 0 → lines bytes ≡ []
lines-nothing [] none = refl
lines-nothing (b ∷ bytes) none = absurd (omega arith)

-- a text without a line feed is one line, where it isn't empty
pub lines-whole : (bytes : List ℕ) → (length bytes == 0) ≡ false → cut_at line_feed bytes ≡ None → lines bytes ≡ bytes ∷ lines []
lines-whole [] some none = absurd (grind arith)
lines-whole (b ∷ bytes) some none = lines-cut_at (b ∷ bytes) ∙ ap (lines_by (b ∷ bytes)) none

-- the line before the first line feed, and the lines after it
pub lines-first : (bytes line after : List ℕ) → cut_at line_feed bytes ≡ Some (line, after) → lines bytes ≡ line ∷ lines after
lines-first [] line after cut = lines-cut_at [] ∙ ap (lines_by []) cut
lines-first (b ∷ bytes) line after cut = lines-cut_at (b ∷ bytes) ∙ ap (lines_by (b ∷ bytes)) cut

pub ruleset first_lines = (lines-nothing, lines-whole, lines-first)

-- ---- written lines are read as these lines

-- a text without a line feed that is followed by a line feed is the first line
pub lines-as_line : (line rest : List ℕ) → lacks line_feed line ≡ true → lines (line ++ (line_feed ∷ rest)) ≡ line ∷ lines rest
lines-as_line line rest without = lines-first (line ++ (line_feed ∷ rest)) line rest (cut_at-append line_feed line rest without)

-- a text without a line feed that isn't empty is one line
pub lines-last : (b : ℕ) (bytes : List ℕ) → lacks line_feed (b ∷ bytes) ≡ true → lines (b ∷ bytes) ≡ (b ∷ bytes) ∷ []
lines-last b bytes without = lines-cut_at (b ∷ bytes) ∙ ap (lines_by (b ∷ bytes)) (cut_at-lacking line_feed (b ∷ bytes) without)

-- Texts without line feeds, each written as a line and followed by other bytes, are the first lines.
pub lines-concat : (texts : List (List ℕ)) (rest : List ℕ) → list_all (lacks line_feed) texts ≡ true → lines (concat (map as_line texts) ++ rest) ≡ texts ++ lines rest
lines-concat [] rest without = refl
lines-concat (text ∷ texts) rest without =
    let later = concat (map as_line texts) in
    ap lines (append_assoc (as_line text) later rest ∙ append_assoc text (line_feed ∷ []) (later ++ rest))
    ∙ lines-as_line text (later ++ rest) (first_so (lacks line_feed text) (list_all (lacks line_feed) texts) without)
    ∙ ap (λ (ls : List (List ℕ)). text ∷ ls) (lines-concat texts rest (second_so (lacks line_feed text) (list_all (lacks line_feed) texts) without))

-- Texts without line feeds, each written as a line, are the lines.
pub lines-written : (texts : List (List ℕ)) → list_all (lacks line_feed) texts ≡ true → lines (concat (map as_line texts)) ≡ texts
lines-written [] without = refl
lines-written (text ∷ texts) without =
    let later = concat (map as_line texts) in
    ap lines (append_assoc text (line_feed ∷ []) later)
    ∙ lines-as_line text later (first_so (lacks line_feed text) (list_all (lacks line_feed) texts) without)
    ∙ ap (λ (ls : List (List ℕ)). text ∷ ls) (lines-written texts (second_so (lacks line_feed text) (list_all (lacks line_feed) texts) without))

-- The same where the last one, which isn't empty, is written without its line feed.
pub lines-written_last : (texts : List (List ℕ)) (b : ℕ) (last : List ℕ) → list_all (lacks line_feed) texts ≡ true → lacks line_feed (b ∷ last) ≡ true
    → lines (concat (map as_line texts) ++ (b ∷ last)) ≡ texts ++ (b ∷ last) ∷ []
lines-written_last texts b last without own = lines-concat texts (b ∷ last) without ∙ ap (λ (ls : List (List ℕ)). texts ++ ls) (lines-last b last own)

-- ---- lines, by the standard library's split

-- all parts, but for a last one that is empty
abbrev pub without_empty_end : List (List ℕ) → List (List ℕ)
without_empty_end [] = []
without_empty_end ([] ∷ []) = []
without_empty_end ((b ∷ part) ∷ []) = (b ∷ part) ∷ []
without_empty_end (part ∷ next ∷ parts) = part ∷ without_empty_end (next ∷ parts)

without_empty_end-onto_first : (b : ℕ) (parts : List (List ℕ)) → without_empty_end (onto_first b parts) ≡ onto_first b (without_empty_end parts)
without_empty_end-onto_first b [] = refl
without_empty_end-onto_first b ([] ∷ []) = refl
without_empty_end-onto_first b ((c ∷ part) ∷ []) = refl
without_empty_end-onto_first b ([] ∷ next ∷ parts) = refl
without_empty_end-onto_first b ((c ∷ part) ∷ next ∷ parts) = refl

onto_first-some : (b : ℕ) (parts : List (List ℕ)) → without_empty_end ([] ∷ onto_first b parts) ≡ [] ∷ without_empty_end (onto_first b parts)
onto_first-some b [] = refl
onto_first-some b (part ∷ parts) = refl

-- a part that others follow stays
slice_split-some : (bytes : List ℕ) → without_empty_end ([] ∷ slice_split is_line_feed bytes) ≡ [] ∷ without_empty_end (slice_split is_line_feed bytes)
slice_split-some [] = refl
slice_split-some (b ∷ bytes) =
    elim (is_line_feed b) as (λ v. without_empty_end ([] ∷ (if v then [] ∷ slice_split is_line_feed bytes else onto_first b (slice_split is_line_feed bytes))) ≡ [] ∷ without_empty_end (if v then [] ∷ slice_split is_line_feed bytes else onto_first b (slice_split is_line_feed bytes)))
    [ true ↦ refl | false ↦ onto_first-some b (slice_split is_line_feed bytes) ]

-- The lines of a text are its parts between line feeds, but for a last one that is empty.
pub lines-slice_split : (bytes : List ℕ) → lines bytes ≡ without_empty_end (slice_split is_line_feed bytes)
lines-slice_split [] = refl
lines-slice_split (b ∷ bytes) =
    elim (is_line_feed b) as (λ v. (if v then [] ∷ lines bytes else onto_first b (lines bytes)) ≡ without_empty_end (if v then [] ∷ slice_split is_line_feed bytes else onto_first b (slice_split is_line_feed bytes))) [
      | true ↦ ap (λ (ls : List (List ℕ)). [] ∷ ls) (lines-slice_split bytes) ∙ sym (slice_split-some bytes)
      | false ↦ ap (onto_first b) (lines-slice_split bytes) ∙ sym (without_empty_end-onto_first b (slice_split is_line_feed bytes))
    ]

-- ---- what lines contain

lacks-onto_first : (b : ℕ) (ls : List (List ℕ)) → is_line_feed b ≡ false → list_all (lacks line_feed) ls ≡ true → list_all (lacks line_feed) (onto_first b ls) ≡ true
lacks-onto_first b [] other without = rw other refl
lacks-onto_first b (l ∷ ls) other without = rw other without

-- No line contains a line feed.
pub lines-lack : (bytes : List ℕ) → list_all (lacks line_feed) (lines bytes) ≡ true
lines-lack [] = refl
lines-lack (b ∷ bytes) = elim (is_line_feed b) as (λ (v : Bool). is_line_feed b ≡ v → list_all (lacks line_feed) (if v then [] ∷ lines bytes else onto_first b (lines bytes)) ≡ true) [
  | true ↦ λ here. lines-lack bytes
  | false ↦ λ other. lacks-onto_first b (lines bytes) other (lines-lack bytes)
] refl

bytes-onto_first : (b : ℕ) (ls : List (List ℕ)) → is_byte b ≡ true → list_all are_bytes ls ≡ true → list_all are_bytes (onto_first b ls) ≡ true
bytes-onto_first b [] own others = rw own refl
bytes-onto_first b (l ∷ ls) own others = rw own others

-- The lines of a text of bytes consist of bytes.
pub lines-are_bytes : (bytes : List ℕ) → are_bytes bytes ≡ true → list_all are_bytes (lines bytes) ≡ true
lines-are_bytes [] all = refl
lines-are_bytes (b ∷ bytes) all =
    let later = lines-are_bytes bytes (second_so (is_byte b) (are_bytes bytes) all) in
    elim (is_line_feed b) as (λ (v : Bool). list_all are_bytes (if v then [] ∷ lines bytes else onto_first b (lines bytes)) ≡ true)
    [ true ↦ later | false ↦ bytes-onto_first b (lines bytes) (first_so (is_byte b) (are_bytes bytes) all) later ]

-- these lines, each with a line feed, are the bytes, or the bytes followed by a line feed
abbrev pub AreLinesOf : List (List ℕ) → List ℕ → Type 0
AreLinesOf ls bytes = (concat (map as_line ls) ≡ bytes) ⊎ (concat (map as_line ls) ≡ bytes ++ line_feed ∷ [])

lines_with_feed : (b : ℕ) (bytes : List ℕ) (ls : List (List ℕ)) → is_line_feed b ≡ true → AreLinesOf ls bytes → AreLinesOf ([] ∷ ls) (b ∷ bytes)
lines_with_feed b bytes ls here h = let same = eqb-true b line_feed here in elim h [
  | inl e ↦ inl (rw same (ap (λ t. line_feed ∷ t) e))
  | inr e ↦ inr (rw same (ap (λ t. line_feed ∷ t) e))
]

lines_with_byte : (b : ℕ) (bytes : List ℕ) (ls : List (List ℕ)) → AreLinesOf ls bytes → AreLinesOf (onto_first b ls) (b ∷ bytes)
lines_with_byte b bytes [] h = elim h [
  | inl e ↦ inr (ap (λ t. b ∷ (t ++ line_feed ∷ [])) e)
  | inr e ↦ inr (absurd (omega (arith, ap (length {A = ℕ}) e, length-append {A = ℕ})))
]
lines_with_byte b bytes (l ∷ ls) h = elim h [
  | inl e ↦ inl (ap (λ t. b ∷ t) e)
  | inr e ↦ inr (ap (λ t. b ∷ t) e)
]

-- The lines of a text, written as lines, are the text, or the text followed by a line feed.
pub lines-again : (bytes : List ℕ) → AreLinesOf (lines bytes) bytes
lines-again [] = inl refl
lines-again (b ∷ bytes) = elim (is_line_feed b) as (λ (v : Bool). is_line_feed b ≡ v → AreLinesOf (if v then [] ∷ lines bytes else onto_first b (lines bytes)) (b ∷ bytes)) [
  | true ↦ λ here. lines_with_feed b bytes (lines bytes) here (lines-again bytes)
  | false ↦ λ other. lines_with_byte b bytes (lines bytes) (lines-again bytes)
] refl
