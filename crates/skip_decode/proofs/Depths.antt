-- No two documents have the same stream and lengths of sections. How many elements may be open is not among these:
-- where more may be open, a document's stream is read as the same events.
use Rattle.std.proofs.Common.{◌≡◌, ℕ, zero, suc, ◌+◌, ◌-◌, ◌≤◌, Bool, true, false, cond, ◌&&◌, ◌||◌, nat_eq, nat_le, nat_lt, Option, Some, None, List, [], ◌∷◌, ◌++◌, length, take, drop, refl, sym, ap, ◌∙◌, arith}
use Rattle.std.specs.Cmp.{first_so, second_so}
use Rattle.std.specs.List.{list_any}
use Rattle.std.specs.Option.{option_and_then}
use Rattle.std.proofs.lemmas.Bool.{true≢false, and_from}
use Rattle.std.proofs.lemmas.Bool.Decides.{nat_tests}
use Rattle.std.proofs.lemmas.Option.{same_Some}
use Rattle.acl_model.specs.Dictionary.{dictionary, dictionary_section}
use Rattle.acl_model.specs.Document.{is_document}
use Rattle.acl_model.specs.Stream.{has_stream, plain, tree_section}
use Rattle.acl_model.specs.declared.document.Doc.{Doc}
use Rattle.acl_walk.specs.Spelling.{Spells, a_document}
use Rattle.acl_walk.specs.declared.event.Event.{Event}
use Rattle.acl_walk.specs.declared.event.Event.TheVariants.{Begin, Attr, HeadEnd, Text, Finish, End}
use Rattle.skip_decode.specs.Building.{built, is_end}
use Rattle.skip_decode.specs.Positions.{Numbers, Position, above_root, first_position}
use Rattle.skip_decode.specs.StreamEvents.{and_then, events_by, events_from, numbers_of, run, stream_events}
use Rattle.skip_decode.specs.StreamHeads.{head_at, take_within}
use Rattle.skip_decode.specs.StreamSteps.{Step, begun_with, checked_finish, element_begun, is_only, item_by, item_step, may_begin, position_after, root_step, saved_bytes, step_among, step_at, step_inside, step_outside, text_begun}
use Rattle.skip_decode.specs.declared.head.Head.{Head}
use Rattle.skip_decode.specs.declared.position.Level.{Level}
use Rattle.skip_decode.specs.declared.position.Next.{Next}
use Rattle.skip_decode.specs.declared.position.Next.TheVariants as next
use Rattle.skip_decode.proofs.Built.{built-spelled}
use Rattle.skip_decode.proofs.Documents.{few_so, low_so, dictionary_formed}
use Rattle.skip_decode.proofs.RootRuns.{stream_events-spell}
use Rattle.skip_decode.proofs.StepKinds.{and_then_some, cond_some}
use Rattle.skip_decode.proofs.StreamForms.{names_same, section_first}

-- ---- steps

-- the numbers, where so many elements may be open
abbrev deeper : ℕ → Numbers → Numbers
deeper depth k = record { dictionary = k.dictionary; tree = k.tree; names = k.names; depth = depth }

-- Where a test chooses between a value and none, another one that passes too chooses the same.
also_some : {A : Type 0} (b c : Bool) (x y : A) → (b ≡ true → c ≡ true) → cond b (Some x) None ≡ Some y
    → cond c (Some x) None ≡ Some y
also_some b c x y passes is =
    let made = cond_some b x y is in
    ap (λ t. cond t (Some x) None) (passes made.0) ∙ ap Some made.1

module _ (low high : ℕ) (more : low ≤ high) (stream : List ℕ) where
  -- the parts of a test on an element that may begin
  may_deeper : (around : ℕ) (parent : Level) (place : ℕ) (head : Head)
      → may_begin low around parent place head ≡ true → may_begin high around parent place head ≡ true
  may_deeper around parent place head may =
      let fits : Bool = nat_le (head.bytes + head.long) (parent.end - place) && nat_le
      (saved_bytes parent head) parent.spare in
      let less : nat_lt around low ≡ true = first_so (nat_lt around low) fits may in
      let still : nat_lt around high ≡ true = grind (arith, nat_tests, less, more) in
      and_from (nat_lt around high) fits still (second_so (nat_lt around low) fits may)

  begun_deeper : (around : ℕ) (parent : Level) (place : ℕ) (step : Step)
      → element_begun low stream around parent place ≡ Some step
      → element_begun high stream around parent place ≡ Some step
  unfolding element_begun begun_with
  begun_deeper around parent place step is =
      let parts = and_then_some (begun_with low around parent place)
      (head_at parent.below parent.width (parent.end - place) (drop place stream)) step is in
      let head : Head = parts.0 in
      ap (option_and_then (begun_with high around parent place)) parts.1
      ∙ also_some (may_begin low around parent place head) (may_begin high around parent place head) _ step
      (may_deeper around parent place head) parts.2

  item_deeper : (around : ℕ) (level : Level) (place : ℕ) (step : Step)
      → item_step low stream around level place ≡ Some step → item_step high stream around level place ≡ Some step
  unfolding item_step
  item_deeper around level place step is = by_end (nat_eq place level.end) is
    where
      by_bit : (byte : ℕ) (b : Bool) → cond b (element_begun low stream around level place)
          (text_begun stream place level.end) ≡ Some step
          → cond b (element_begun high stream around level place) (text_begun stream place level.end) ≡ Some step
      by_bit byte true is = begun_deeper around level place step is
      by_bit byte false is = is

      by_bytes : (bytes : List ℕ) → item_by low stream around level place bytes ≡ Some step
          → item_by high stream around level place bytes ≡ Some step
      by_bytes [] is = is
      by_bytes (byte ∷ bytes) is = by_bit byte (nat_le 128 byte) is

      by_end : (b : Bool) → cond b (checked_finish level place) (option_and_then
          (item_by low stream around level place) (take_within (level.end - place) 1 (drop place stream))) ≡ Some step
          → cond b (checked_finish level place)
          (option_and_then (item_by high stream around level place)
          (take_within (level.end - place) 1 (drop place stream))) ≡ Some step
      by_end true is = is
      by_end false is =
          let parts = and_then_some (item_by low stream around level place)
          (take_within (level.end - place) 1 (drop place stream)) step is in
          ap (option_and_then (item_by high stream around level place)) parts.1 ∙ by_bytes parts.0 parts.2

module _ (k : Numbers) (depth : ℕ) (more : k.depth ≤ depth) (stream : List ℕ) where
  root_deeper : (place : ℕ) (step : Step) → root_step k stream place ≡ Some step
      → root_step (deeper depth k) stream place ≡ Some step
  unfolding root_step
  root_deeper place step is =
      let only : Step → Option Step = λ s. cond (is_only s.change) (Some s) None in
      let parts = and_then_some only (element_begun k.depth stream 0 (above_root k) place) step is in
      ap (option_and_then only) (begun_deeper k.depth depth more stream 0 (above_root k) place parts.0 parts.1)
      ∙ parts.2

  outside_deeper : (next : Next) (place : ℕ) (step : Step) → step_outside k stream next place ≡ Some step
      → step_outside (deeper depth k) stream next place ≡ Some step
  outside_deeper next.Root place step is = root_deeper place step is
  outside_deeper next.Count place step is = is
  outside_deeper (next.Attributes count) place step is = is
  outside_deeper (next.Attribute left rest) place step is = is
  outside_deeper next.Item place step is = is
  outside_deeper (next.Text left) place step is = is
  outside_deeper next.Finish place step is = is
  outside_deeper next.End place step is = is

  inside_deeper : (around : ℕ) (level : Level) (next : Next) (place : ℕ) (step : Step)
      → step_inside k stream around level next place ≡ Some step
      → step_inside (deeper depth k) stream around level next place ≡ Some step
  inside_deeper around level next.Root place step is = is
  inside_deeper around level next.Count place step is = is
  inside_deeper around level (next.Attributes count) place step is = is
  inside_deeper around level (next.Attribute left rest) place step is = is
  inside_deeper around level next.Item place step is = item_deeper k.depth depth more stream around level place step is
  inside_deeper around level (next.Text left) place step is = is
  inside_deeper around level next.Finish place step is = is
  inside_deeper around level next.End place step is = is

  among_deeper : (levels : List Level) (next : Next) (place : ℕ) (step : Step)
      → step_among k stream levels next place ≡ Some step
      → step_among (deeper depth k) stream levels next place ≡ Some step
  among_deeper [] next place step is = outside_deeper next place step is
  among_deeper (level ∷ up) next place step is = inside_deeper (length up + 1) level next place step is

  step_deeper : (position : Position) (step : Step) → step_at k stream position ≡ Some step
      → step_at (deeper depth k) stream position ≡ Some step
  unfolding step_at
  step_deeper position step is = among_deeper position.levels position.next position.place step is

  -- ---- events

  -- a list with this event before others
  and_deeper : (e : Event) (xs ys : List Event) → (list_any is_end xs ≡ true → ys ≡ xs)
      → list_any is_end (and_then e xs) ≡ true → and_then e ys ≡ and_then e xs
  and_deeper (Begin tag below) xs ys same ends = ap (λ l. Begin tag below ∷ l) (same ends)
  and_deeper (Attr piece) xs ys same ends = ap (λ l. Attr piece ∷ l) (same ends)
  and_deeper HeadEnd xs ys same ends = ap (λ l. HeadEnd ∷ l) (same ends)
  and_deeper (Text piece) xs ys same ends = ap (λ l. Text piece ∷ l) (same ends)
  and_deeper (Finish tag) xs ys same ends = ap (λ l. Finish tag ∷ l) (same ends)
  and_deeper End xs ys same ends = refl

  by_deeper : (n : ℕ) (position : Position) (o : Option Step)
      → ((p : Position) → list_any is_end (run k stream n p) ≡ true → run
      (deeper depth k) stream n p ≡ run k stream n p)
      → step_at k stream position ≡ o → list_any is_end (events_by (run k stream n) position o) ≡ true
      → events_by (run (deeper depth k) stream n) position (step_at (deeper depth k) stream position) ≡ events_by
      (run k stream n) position o
  by_deeper n position None same is ends = absurd (true≢false (sym ends))
  by_deeper n position (Some step) same is ends =
      ap (events_by (run (deeper depth k) stream n) position) (step_deeper position step is)
      ∙ and_deeper step.event (run k stream n (position_after position step))
      (run (deeper depth k) stream n (position_after position step)) (same (position_after position step)) ends

  -- Where the events end, they are the same where more elements may be open.
  run_deeper : (n : ℕ) (position : Position) → list_any is_end (run k stream n position) ≡ true
      → run (deeper depth k) stream n position ≡ run k stream n position
  unfolding run
  run_deeper zero position ends = absurd (true≢false (sym ends))
  run_deeper (suc n) position ends =
      let by = by_deeper n position (step_at k stream position) (run_deeper n) refl ends in by

-- ---- documents

ends_so : (own : List Event) → list_any is_end (own ++ (End ∷ [])) ≡ true
ends_so [] = refl
ends_so (event ∷ own) = ap (λ b. is_end event || b) (ends_so own) ∙ always (is_end event)
  where
    always : (b : Bool) → (b || true) ≡ true
    always true = refl
    always false = refl

spelled_ends : (names : List (List ℕ)) (d : Doc) (events : List Event) → Spells names (Some d) events
    → list_any is_end events ≡ true
spelled_ends names d events (a_document ns doc own spells) = ends_so own

-- the events of a document, read where 255 elements may be open
events_deeper : (d : Doc) → is_document d ≡ true → has_stream d ≡ true
    → events_from (deeper 255 (numbers_of d)) (plain d) (first_position (deeper 255 (numbers_of d))) ≡ stream_events d
events_deeper d good within =
    run_deeper (numbers_of d) 255 (low_so d good) (plain d) _ (first_position (numbers_of d))
    (spelled_ends (dictionary d) d (stream_events d) (stream_events-spell d good within))

-- Two documents are the same where their streams and the lengths of their sections are the same.
pub one_document : (d e : Doc) → is_document d ≡ true → is_document e ≡ true → has_stream d ≡ true → has_stream e ≡ true
    → plain d ≡ plain e → length (dictionary_section (dictionary d)) ≡ length
    (dictionary_section (dictionary e)) → length (tree_section d) ≡ length (tree_section e) → d ≡ e
one_document d e good fine within inside same first second =
    let section : dictionary_section (dictionary d) ≡ take (length (dictionary_section (dictionary e))) (plain e) =
    sym (section_first d) ∙ ap (λ n. take n (plain d)) first
    ∙ ap (take (length (dictionary_section (dictionary e)))) same in
    let names : dictionary e ≡ dictionary d = names_same e (dictionary d) fine inside
    (dictionary_formed d good within) section in
    let numbers : deeper 255 (numbers_of d) ≡ deeper 255 (numbers_of e) =
    ap (λ n. record {
      dictionary = n;
      tree = length (tree_section d);
      names = length
          (dictionary d);
      depth = 255;
    }) first
    ∙ ap (λ n. record {
      dictionary = length (dictionary_section (dictionary e));
      tree = n;
      names = length
          (dictionary d);
      depth = 255;
    }) second
    ∙ ap (λ (ns : List (List ℕ)). record {
      dictionary = length (dictionary_section (dictionary e));
      tree = length
          (tree_section e);
      names = length ns;
      depth = 255;
    }) (sym names) in
    let events : stream_events d ≡ stream_events e =
    sym (events_deeper d good within)
    ∙ ap (λ (k : Numbers). events_from k (plain d) (first_position k)) numbers
    ∙ ap (λ (stream : List ℕ). events_from (deeper 255 (numbers_of e)) stream
    (first_position (deeper 255 (numbers_of e)))) same
    ∙ events_deeper e fine inside in
    same_Some d e
    (sym (built-spelled (dictionary d) (Some d) (stream_events d) (few_so d within) (stream_events-spell d good within))
    ∙ ap (built (dictionary d)) events ∙ ap (λ ns. built ns (stream_events e)) (sym names)
    ∙ built-spelled (dictionary e) (Some e) (stream_events e) (few_so e inside) (stream_events-spell e fine inside))
