-- The longest prefix that some command line begins with is found by adding one argument after the other. Such a prefix is
-- called *begun*.
use Rattle.std.proofs.Common.{◌≡◌, ℕ, ◌+◌, ◌-◌, ◌<◌, ◌≤◌, ◌↔◌, Bool, true, false, nat_le, List, [], ◌∷◌, ◌++◌, map, get_or, length, take, drop, refl, sym, ap, subst, ◌∙◌, arith, append_assoc}
use borrow.Author.Tests.{leb-true, leb-false}
use Rattle.std.proofs.Math.Seq.{take-add}
use Rattle.std.proofs.lemmas.List.{take_rest}
use Rattle.acl_words.specs.CommandLines.{words_of}
use Rattle.acl_words.specs.Prefixes.{IsBegun, IsLongestPrefix}
use Rattle.acl_words.specs.inside.Begins.{begins_line}
use Rattle.acl_words.proofs.Goings.{IsBegun-decided}

-- A result that equals `begins_line` decides `IsBegun`.
pub same_as_begins : (result : Bool) (words : List (List ℕ)) → result ≡ begins_line words → (result ≡ true) ↔ IsBegun words
same_as_begins result words same = let decided = IsBegun-decided words in (λ is. decided.0 (sym same ∙ is), λ begun. same ∙ decided.1 begun)

-- The empty prefix is begun.
pub none_begun : (words : List (List ℕ)) → IsBegun (take 0 words)
none_begun words = (IsBegun-decided (take 0 words)).0 refl

regroup : (a b c : List (List ℕ)) → a ++ (b ++ c) ≡ (a ++ b) ++ c
regroup a b c = simp append_assoc

-- A prefix of arguments that begin a command line begins one too.
begun_before : (words more : List (List ℕ)) → IsBegun (words ++ more) → IsBegun words
begun_before words more begun = record { rest = more ++ begun.rest; command = begun.command; line = ap words_of (regroup words more begun.rest) ∙ begun.line }

-- A shorter prefix than one that is begun is begun.
begun_earlier : (words : List (List ℕ)) (n m : ℕ) → n ≤ m → IsBegun (take m words) → IsBegun (take n words)
begun_earlier words n m within begun =
    begun_before (take n words) (take (m - n) (drop n words))
    (subst IsBegun (ap (λ (k : ℕ). take k words) (omega arith) ∙ take-add n (m - n) words) begun)

-- A prefix that is begun, but not together with the next argument, is the longest.
pub longest_before : (words : List (List ℕ)) (n : ℕ) → n < length words → IsBegun (take n words) → (IsBegun (take (n + 1) words) → ⊥) → IsLongestPrefix words n
longest_before words n inside begun refused = record { within = omega arith; begun = begun; longest = longest }
  where
    longest : (m : ℕ) → m ≤ length words → IsBegun (take m words) → m ≤ n
    longest m within other = by_order (nat_le m n) refl
      where
        by_order : (b : Bool) → nat_le m n ≡ b → m ≤ n
        by_order true is = leb-true m n is
        by_order false is = let above = leb-false m n is in absurd (refused (begun_earlier words (n + 1) m (omega arith) other))

-- Where all the arguments are begun, they are the longest prefix.
pub longest_all : (words : List (List ℕ)) (n : ℕ) → length words ≡ n → IsBegun (take n words) → IsLongestPrefix words n
longest_all words n all begun = record { within = omega arith; begun = begun; longest = λ m within other. omega arith }

-- An empty slice of arguments begins some command line.
pub begins_none : {A : Type 0} (bytes : A → List ℕ) (words : List A) → length words < 1 → true ≡ begins_line (map bytes words)
begins_none bytes [] none = refl
begins_none bytes (word ∷ words) none = absurd (omega arith)

-- The code splits its slice into the first argument and the rest. `begins_line` of both is that of the slice.
pub begins_first : {A : Type 0} (bytes : A → List ℕ) (words : List A) (first : A) (name : List ℕ) (result : Bool) → 1 ≤ length words → first ≡ get_or words 0 first → name ≡ bytes first
    → result ≡ begins_line (name ∷ map bytes (take (length words - 1) (drop 1 words))) → result ≡ begins_line (map bytes words)
begins_first bytes [] first name result some is named same = absurd (omega arith)
begins_first bytes (word ∷ words) first name result some is named same =
    same ∙ ap (λ (n : List ℕ). begins_line (n ∷ map bytes (take (length (word ∷ words) - 1) words))) (named ∙ ap bytes is)
    ∙ ap (λ rest. begins_line (bytes word ∷ map bytes rest)) (take_rest (word ∷ words) 1)
