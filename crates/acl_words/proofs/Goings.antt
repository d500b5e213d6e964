-- Arguments that begin a command line can be completed to a valid one, and others can't. A lemma `X_goes_on` gives the
-- arguments that complete those of the command X; `X_refuses` says that none do.
use Rattle.std.proofs.Common.{◌≡◌, ℕ, nat_le, ◌↔◌, Bool, true, false, codes, Option, Some, None, is_some, List, [], ◌∷◌, ◌++◌, length, refl, ap, if◌then◌else◌, arith}
use Rattle.std.specs.Option.{option_map}
use borrow.Author.Tests.{leb-true}
use Rattle.acl_words.specs.Command.{Command, the_view, an_explanation, preview, encode, seal, view, sample}
use Rattle.acl_words.specs.Options.{is_word, reading_of, options_of}
use Rattle.acl_words.specs.CommandLines.{shown_by, preview_with, preview_of, encode_of, seal_of, viewed_by, view_with, view_of, explain_of, size_of, sample_of, words_of}
use Rattle.acl_words.specs.Prefixes.{IsBegun}
use Rattle.acl_words.specs.inside.Begins.{begins_preview, begins_view, begins_sample, begins_line}
use Rattle.acl_words.proofs.OptionLaws.{GoesOn, IsKept, Refuses, begins_options-refuses, begins_options-goes_on}

-- ---- each command

preview_goes_on : (words : List (List ℕ)) → begins_preview words ≡ true → GoesOn preview_of words
unfolding options_of reading_of
preview_goes_on [] h = record { rest = [] ∷ []; command = preview the_view; line = refl }
preview_goes_on (rules ∷ options) h = let on = begins_options-goes_on preview_with options h in record { rest = on.rest; command = on.command; line = on.line }

view_goes_on : (words : List (List ℕ)) → begins_view words ≡ true → GoesOn view_of words
unfolding options_of reading_of
view_goes_on [] h = record { rest = [] ∷ [] ∷ []; command = view the_view; line = refl }
view_goes_on (keys ∷ []) h = record { rest = [] ∷ []; command = view the_view; line = refl }
view_goes_on (keys ∷ store ∷ options) h = let on = begins_options-goes_on view_with options h in record { rest = on.rest; command = on.command; line = on.line }

encode_goes_on : (words : List (List ℕ)) → nat_le (length words) 1 ≡ true → GoesOn encode_of words
encode_goes_on [] h = record { rest = [] ∷ []; command = encode; line = refl }
encode_goes_on (keys ∷ []) h = record { rest = []; command = encode; line = refl }
encode_goes_on (keys ∷ word ∷ words) h = let few = leb-true (length (keys ∷ word ∷ words)) 1 h in absurd (omega arith)

seal_goes_on : (words : List (List ℕ)) → nat_le (length words) 1 ≡ true → GoesOn seal_of words
seal_goes_on [] h = record { rest = [] ∷ []; command = seal; line = refl }
seal_goes_on (keys ∷ []) h = record { rest = []; command = seal; line = refl }
seal_goes_on (keys ∷ word ∷ words) h = let few = leb-true (length (keys ∷ word ∷ words)) 1 h in absurd (omega arith)

explain_goes_on : (words : List (List ℕ)) → nat_le (length words) 2 ≡ true → GoesOn explain_of words
explain_goes_on [] h = record { rest = [] ∷ [] ∷ []; command = view an_explanation; line = refl }
explain_goes_on (keys ∷ []) h = record { rest = [] ∷ []; command = view an_explanation; line = refl }
explain_goes_on (keys ∷ store ∷ []) h = record { rest = []; command = view an_explanation; line = refl }
explain_goes_on (keys ∷ store ∷ word ∷ words) h = let few = leb-true (length (keys ∷ store ∷ word ∷ words)) 2 h in absurd (omega arith)

sample_goes_on : (words : List (List ℕ)) → begins_sample words ≡ true → GoesOn sample_of words
unfolding size_of
sample_goes_on [] h = record { rest = (49 ∷ []) ∷ []; command = sample 1; line = refl }
sample_goes_on (size ∷ []) h = by_size (size_of size) refl h
  where
    by_size : (made : Option ℕ) → size_of size ≡ made → is_some made ≡ true → GoesOn sample_of (size ∷ [])
    by_size None is some = absurd (cc)
    by_size (Some n) is some = record { rest = []; command = sample n; line = ap (option_map sample) is }
sample_goes_on (size ∷ word ∷ words) h = absurd (cc)

-- Options that `preview` doesn't take are not taken with a further option either.
preview_kept : IsKept (Refuses preview_with)
preview_kept = record { query = λ options value. with_value options.query options.explain value; explain = λ options. with_flag options.query options.explain }
  where
    with_value : (q : Option (List ℕ)) (x : Bool) (value : List ℕ) → option_map preview (shown_by q x) ≡ None → option_map preview (shown_by (Some value) x) ≡ None
    with_value None true value h = absurd (cc)
    with_value None false value h = absurd (cc)
    with_value (Some other) true value h = refl
    with_value (Some other) false value h = absurd (cc)

    with_flag : (q : Option (List ℕ)) (x : Bool) → option_map preview (shown_by q x) ≡ None → option_map preview (shown_by q true) ≡ None
    with_flag None true h = absurd (cc)
    with_flag None false h = absurd (cc)
    with_flag (Some other) x h = refl

-- The same is true of `view`.
view_kept : IsKept (Refuses view_with)
view_kept = record { query = λ options value. with_value options.explain options.query value; explain = λ options h. refl }
  where
    with_value : (x : Bool) (q : Option (List ℕ)) (value : List ℕ) → (if x then None else Some (view (viewed_by q))) ≡ None
        → (if x then None else Some (view (viewed_by (Some value)))) ≡ None
    with_value true q value h = refl
    with_value false q value h = absurd (cc)

preview_refuses : (words rest : List (List ℕ)) → begins_preview words ≡ false → preview_of (words ++ rest) ≡ None
preview_refuses [] rest h = absurd (cc)
preview_refuses (rules ∷ options) rest h = begins_options-refuses preview_with preview_kept options rest h

view_refuses : (words rest : List (List ℕ)) → begins_view words ≡ false → view_of (words ++ rest) ≡ None
view_refuses [] rest h = absurd (cc)
view_refuses (keys ∷ []) rest h = absurd (cc)
view_refuses (keys ∷ store ∷ options) rest h = begins_options-refuses view_with view_kept options rest h

encode_refuses : (words rest : List (List ℕ)) → nat_le (length words) 1 ≡ false → encode_of (words ++ rest) ≡ None
encode_refuses [] rest h = absurd (cc)
encode_refuses (keys ∷ []) rest h = absurd (cc)
encode_refuses (keys ∷ word ∷ words) rest h = refl

seal_refuses : (words rest : List (List ℕ)) → nat_le (length words) 1 ≡ false → seal_of (words ++ rest) ≡ None
seal_refuses [] rest h = absurd (cc)
seal_refuses (keys ∷ []) rest h = absurd (cc)
seal_refuses (keys ∷ word ∷ words) rest h = refl

explain_refuses : (words rest : List (List ℕ)) → nat_le (length words) 2 ≡ false → explain_of (words ++ rest) ≡ None
explain_refuses [] rest h = absurd (cc)
explain_refuses (keys ∷ []) rest h = absurd (cc)
explain_refuses (keys ∷ store ∷ []) rest h = absurd (cc)
explain_refuses (keys ∷ store ∷ word ∷ words) rest h = refl

sample_refuses : (words rest : List (List ℕ)) → begins_sample words ≡ false → sample_of (words ++ rest) ≡ None
sample_refuses [] rest h = absurd (cc)
sample_refuses (size ∷ []) [] h = by_size (size_of size) h
  where
    by_size : (made : Option ℕ) → is_some made ≡ false → option_map sample made ≡ None
    by_size None none = refl
    by_size (Some n) none = absurd (cc)
sample_refuses (size ∷ []) (word ∷ rest) h = refl
sample_refuses (size ∷ word ∷ words) rest h = refl

-- ---- all commands

-- The command, and whether one begins, as `if` chains over the tests of the first argument. The lemmas split on these tests.
abbrev by_names : {A : Type 0} → Bool → Bool → Bool → Bool → Bool → Bool → A → A → A → A → A → A → A → A
by_names for_preview for_encode for_seal for_view for_explain for_sample a b c d e f g =
    if for_preview then a else if for_encode then b else if for_seal then c else if for_view then d else if for_explain then e else if for_sample then f else g

abbrev line_by : Bool → Bool → Bool → Bool → Bool → Bool → List (List ℕ) → Option Command
line_by for_preview for_encode for_seal for_view for_explain for_sample words =
    by_names for_preview for_encode for_seal for_view for_explain for_sample
    (preview_of words) (encode_of words) (seal_of words) (view_of words) (explain_of words) (sample_of words) None

abbrev begins_by : Bool → Bool → Bool → Bool → Bool → Bool → List (List ℕ) → Bool
begins_by for_preview for_encode for_seal for_view for_explain for_sample words =
    by_names for_preview for_encode for_seal for_view for_explain for_sample
    (begins_preview words) (nat_le (length words) 1) (nat_le (length words) 1) (begins_view words) (nat_le (length words) 2) (begins_sample words) false

goes_on : (for_preview for_encode for_seal for_view for_explain for_sample : Bool) (words : List (List ℕ))
    → begins_by for_preview for_encode for_seal for_view for_explain for_sample words ≡ true
    → GoesOn (line_by for_preview for_encode for_seal for_view for_explain for_sample) words
goes_on true b c d e f words h = preview_goes_on words h
goes_on false true c d e f words h = encode_goes_on words h
goes_on false false true d e f words h = seal_goes_on words h
goes_on false false false true e f words h = view_goes_on words h
goes_on false false false false true f words h = explain_goes_on words h
goes_on false false false false false true words h = sample_goes_on words h
goes_on false false false false false false words h = absurd (cc)

refuses : (for_preview for_encode for_seal for_view for_explain for_sample : Bool) (words rest : List (List ℕ))
    → begins_by for_preview for_encode for_seal for_view for_explain for_sample words ≡ false
    → line_by for_preview for_encode for_seal for_view for_explain for_sample (words ++ rest) ≡ None
refuses true b c d e f words rest h = preview_refuses words rest h
refuses false true c d e f words rest h = encode_refuses words rest h
refuses false false true d e f words rest h = seal_refuses words rest h
refuses false false false true e f words rest h = view_refuses words rest h
refuses false false false false true f words rest h = explain_refuses words rest h
refuses false false false false false true words rest h = sample_refuses words rest h
refuses false false false false false false words rest h = refl

-- Where `begins_line` is true, some command line begins with the arguments.
IsBegun-begins : (words : List (List ℕ)) → begins_line words ≡ true → IsBegun words
IsBegun-begins [] h = record { rest = codes "encode" ∷ [] ∷ []; command = encode; line = refl }
IsBegun-begins (name ∷ words) h =
    let on = goes_on (is_word name (codes "preview")) (is_word name (codes "encode")) (is_word name (codes "seal")) (is_word name (codes "view"))
    (is_word name (codes "explain")) (is_word name (codes "sample")) words h in
    record { rest = on.rest; command = on.command; line = on.line }

-- Where it is false, none does.
words_of-refused : (words rest : List (List ℕ)) → begins_line words ≡ false → words_of (words ++ rest) ≡ None
words_of-refused [] rest h = absurd (cc)
words_of-refused (name ∷ words) rest h =
    refuses (is_word name (codes "preview")) (is_word name (codes "encode")) (is_word name (codes "seal")) (is_word name (codes "view"))
    (is_word name (codes "explain")) (is_word name (codes "sample")) words rest h

begins_line-IsBegun : (words : List (List ℕ)) → IsBegun words → begins_line words ≡ true
begins_line-IsBegun words begun = by_test (begins_line words) refl
  where
    by_test : (begins : Bool) → begins_line words ≡ begins → begins ≡ true
    by_test true is = refl
    by_test false is = let none = words_of-refused words begun.rest is in let some = begun.line in absurd (cc)

-- `begins_line` is true exactly where some command line begins with the arguments.
pub IsBegun-decided : (words : List (List ℕ)) → (begins_line words ≡ true) ↔ IsBegun words
IsBegun-decided words = (IsBegun-begins words, begins_line-IsBegun words)
