-- Arguments that begin options of a command can be completed to such options, and others can't.
use Rattle.std.proofs.Common.{◌≡◌, ℕ, Bool, true, false, ◌&&◌, codes, Option, Some, None, is_some, is_none, List, [], ◌∷◌, ◌++◌, refl, ap, ◌∙◌, if◌then◌else◌}
use Rattle.std.specs.Option.{option_map, option_and_then}
use Rattle.acl_model.specs.Lists.{text_after}
use Rattle.acl_words.specs.Command.{Command}
use Rattle.acl_words.specs.Options.{Options, Reading, Awaited, an_option, a_query, no_options, is_word, is_value, with_query, with_explain, with_option, with_word, options_at_end, options_begun, reading_from, reading_of, options_of, begun_options_of}
use Rattle.acl_words.specs.inside.Begins.{begins_options}

-- ---- properties that further options keep

-- If options are read, they have this property.
abbrev pub Reads : (Options → Type 0) → Option Reading → Type 0
Reads P None = Unit {0}
Reads P (Some reading) = P reading.options

-- a property that no further option takes away
pub record IsKept (P : Options → Type 0) : Type 0 where
  pub query : (options : Options) (value : List ℕ) → P options → P (record options { query = Some value })
  pub explain : (options : Options) → P options → P (record options { explain = true })

-- `with_option`, over the results of the tests that it makes
abbrev pub by_rows : Bool → Bool → Option (List ℕ) → Options → Option Reading
by_rows explain query value options =
    if explain then with_explain options
    else if query then Some (record { options = options; awaited = a_query })
    else option_and_then (λ v. with_query options v) value

query_keeps : (P : Options → Type 0) → IsKept P → (options : Options) (value : List ℕ) → P options → Reads P (with_query options value)
query_keeps P kept options value has = by_test (is_none options.query && is_value value)
  where
    by_test : (taken : Bool) → Reads P (if taken then Some (record { options = record options { query = Some value }; awaited = an_option }) else None)
    by_test true = kept.query options value has
    by_test false = tt

explain_keeps : (P : Options → Type 0) → IsKept P → (options : Options) → P options → Reads P (with_explain options)
explain_keeps P kept options has = by_test options.explain
  where
    by_test : (given : Bool) → Reads P (if given then None else Some (record { options = record options { explain = true }; awaited = an_option }))
    by_test true = tt
    by_test false = kept.explain options has

rows_keep : (P : Options → Type 0) → IsKept P → (options : Options) → P options → (explain query : Bool) (value : Option (List ℕ))
    → Reads P (by_rows explain query value options)
rows_keep P kept options has true query value = explain_keeps P kept options has
rows_keep P kept options has false true value = has
rows_keep P kept options has false false None = tt
rows_keep P kept options has false false (Some value) = query_keeps P kept options value has

word_keeps : (P : Options → Type 0) → IsKept P → (awaited : Awaited) (options : Options) (word : List ℕ) → P options → Reads P (with_word awaited options word)
unfolding with_option
word_keeps P kept an_option options word has =
    rows_keep P kept options has (is_word word (codes "--explain")) (is_word word (codes "--query")) (text_after (codes "--query=") word)
word_keeps P kept a_query options word has = query_keeps P kept options word has

-- Reading arguments keeps such a property.
reading_from-keeps : (P : Options → Type 0) → IsKept P → (words : List (List ℕ)) (reading : Option Reading) → Reads P reading → Reads P (reading_from reading words)
reading_from-keeps P kept words None has = tt
reading_from-keeps P kept [] (Some reading) has = has
reading_from-keeps P kept (word ∷ words) (Some reading) has =
    reading_from-keeps P kept words (with_word reading.awaited reading.options word) (word_keeps P kept reading.awaited reading.options word has)

reading_from-append : (reading : Option Reading) (words more : List (List ℕ)) → reading_from reading (words ++ more) ≡ reading_from (reading_from reading words) more
reading_from-append None words more = refl
reading_from-append (Some reading) [] more = refl
reading_from-append (Some reading) (word ∷ words) more = reading_from-append (with_word reading.awaited reading.options word) words more

-- ---- a command that is made of options

-- The options of a reading: at the end of the arguments, and so far.
abbrev ended : Option Reading → Option Options
ended reading = option_and_then (λ r. options_at_end r.awaited r.options) reading

abbrev begun : Option Reading → Option Options
begun reading = option_and_then (λ r. options_begun r.awaited r.options) reading

-- No command is made of these options.
abbrev pub Refuses : (Options → Option Command) → Options → Type 0
Refuses make options = make options ≡ None

none_made : {A : Type 0} (made : Option A) → is_some made ≡ false → made ≡ None
none_made None h = refl
none_made (Some a) h = absurd (cc)

-- Where no command is made of the options so far, none is made at the end.
refused_end : (make : Options → Option Command) (reading : Option Reading) → Reads (Refuses make) reading → option_and_then make (ended reading) ≡ None
refused_end make None refuses = refl
refused_end make (Some reading) refuses = by_awaited reading.awaited
  where
    by_awaited : (awaited : Awaited) → option_and_then make (options_at_end awaited reading.options) ≡ None
    by_awaited an_option = refuses
    by_awaited a_query = refl

-- Whether a command is made does not depend on which value `--query` has.
other_value : (make : Options → Option Command) → IsKept (Refuses make) → (options : Options) (value : List ℕ)
    → is_some (option_and_then make (option_map (λ (r : Reading). r.options) (with_query options (codes "/")))) ≡ false → Reads (Refuses make) (with_query options value)
other_value make kept options value h = by_test (is_none options.query) (is_value value) h
  where
    by_test : (first is : Bool)
        → is_some (option_and_then make (option_map (λ (r : Reading). r.options)
        (if first && is_value (codes "/") then Some (record { options = record options { query = Some (codes "/") }; awaited = an_option }) else None))) ≡ false
        → Reads (Refuses make) (if first && is then Some (record { options = record options { query = Some value }; awaited = an_option }) else None)
    by_test true true h = kept.query (record options { query = Some (codes "/") }) value (none_made (make (record options { query = Some (codes "/") })) h)
    by_test true false h = tt
    by_test false is h = tt

refused_from : (make : Options → Option Command) → IsKept (Refuses make) → (reading : Option Reading) (rest : List (List ℕ))
    → is_some (option_and_then make (begun reading)) ≡ false → option_and_then make (ended (reading_from reading rest)) ≡ None
refused_from make kept None rest h = refl
refused_from make kept (Some reading) rest h = by_awaited reading.awaited rest h
  where
    by_awaited : (awaited : Awaited) (rest : List (List ℕ)) → is_some (option_and_then make (options_begun awaited reading.options)) ≡ false
        → option_and_then make (ended (reading_from (Some (record { options = reading.options; awaited = awaited })) rest)) ≡ None
    by_awaited an_option rest h =
        let read : Option Reading = Some (record { options = reading.options; awaited = an_option }) in
        refused_end make (reading_from read rest) (reading_from-keeps (Refuses make) kept rest read (none_made (make reading.options) h))
    by_awaited a_query [] h = refl
    by_awaited a_query (value ∷ rest) h =
        refused_end make (reading_from (with_query reading.options value) rest)
        (reading_from-keeps (Refuses make) kept rest (with_query reading.options value) (other_value make kept reading.options value h))

-- Arguments that don't begin options of a command can't be completed to such options.
pub begins_options-refuses : (make : Options → Option Command) → IsKept (Refuses make) → (words rest : List (List ℕ)) → begins_options make words ≡ false
    → option_and_then make (options_of (words ++ rest)) ≡ None
unfolding options_of begun_options_of reading_of
begins_options-refuses make kept words rest h =
    ap (λ reading. option_and_then make (ended reading)) (reading_from-append (Some (record { options = no_options; awaited = an_option })) words rest)
    ∙ refused_from make kept (reading_of words) rest h

-- Further arguments complete these to a command.
pub record GoesOn (command_of : List (List ℕ) → Option Command) (words : List (List ℕ)) : Type 0 where
  pub rest : List (List ℕ)
  pub command : Command
  pub line : command_of (words ++ rest) ≡ Some command

-- The arguments that complete a reading: after them the options are `begun reading`.
record Completes (reading : Option Reading) : Type 0 where
  rest : List (List ℕ)
  same : ended (reading_from reading rest) ≡ begun reading

completed : (reading : Option Reading) → Completes reading
completed None = record { rest = []; same = refl }
completed (Some reading) = by_awaited reading.awaited
  where
    by_test : (options : Options) (taken : Bool)
        → ended (reading_from (if taken then Some (record { options = record options { query = Some (codes "/") }; awaited = an_option }) else None) [])
        ≡ option_map (λ (r : Reading). r.options) (if taken then Some (record { options = record options { query = Some (codes "/") }; awaited = an_option }) else None)
    by_test options true = refl
    by_test options false = refl

    by_awaited : (awaited : Awaited) → Completes (Some (record { options = reading.options; awaited = awaited }))
    by_awaited an_option = record { rest = []; same = refl }
    by_awaited a_query = record { rest = codes "/" ∷ []; same = by_test reading.options (is_none reading.options.query && is_value (codes "/")) }

-- Arguments that begin options of a command can be completed to such options.
pub begins_options-goes_on : (make : Options → Option Command) (words : List (List ℕ)) → begins_options make words ≡ true
    → GoesOn (λ words. option_and_then make (options_of words)) words
unfolding options_of begun_options_of reading_of
begins_options-goes_on make words h =
    let on = completed (reading_of words) in
    by_made (option_and_then make (begun (reading_of words))) on.rest
    (ap (λ reading. option_and_then make (ended reading)) (reading_from-append (Some (record { options = no_options; awaited = an_option })) words on.rest)
    ∙ ap (option_and_then make) on.same) h
  where
    by_made : (made : Option Command) (rest : List (List ℕ)) → option_and_then make (options_of (words ++ rest)) ≡ made → is_some made ≡ true
        → GoesOn (λ words. option_and_then make (options_of words)) words
    by_made None rest is some = absurd (cc)
    by_made (Some command) rest is some = record { rest = rest; command = command; line = is }
