-- The stream of a document is read as events that spell it.
use Rattle.std.proofs.Common.{◌≡◌, ℕ, suc, ◌+◌, ◌-◌, ◌^◌, ◌<◌, ◌≤◌, Bool, true, false, cond, ◌&&◌, ◌||◌, nat_eq, nat_le, nat_lt, Option, Some, None, List, [], ◌∷◌, ◌++◌, length, drop, map, refl, ap, sym, ◌∙◌, subst, arith, append_assoc, length-append, drop_at}
use Rattle.std.specs.Cmp.{first_so, second_so}
use Rattle.std.specs.Cmp.Lexicographic.{pointwise, bytes_decides}
use Rattle.std.specs.List.{list_all, list_any}
use Rattle.std.specs.Option.{option_and_then}
use Rattle.std.proofs.lemmas.Bool.Decides.{nat_tests}
use Rattle.acl_bits.specs.Row.{row_of}
use Rattle.acl_model.specs.StreamBits as model
use Rattle.acl_model.specs.Width.{binary_length, least_width}
use Rattle.acl_model.specs.Document.{is_document, height}
use Rattle.acl_model.specs.Names.{is_name}
use Rattle.acl_model.specs.Dictionary.{dictionary, dictionary_section, are_new}
use Rattle.acl_model.specs.Stream.{tag_of as stream_tag, Part, numbers_in, content_width, bytes_of_segments, size, head_bits, has_member, Branch, holds_number, branch_of, part_of, tree_at, tree_section, plain, has_stream}
use Rattle.acl_model.proofs.FormEquations.{height_is}
use Rattle.acl_model.proofs.StreamEquations.{branch_of_is}
use Rattle.acl_model.specs.declared.document.Doc.{Doc}
use Rattle.acl_walk.specs.Spelling.{Covers, SpellsElement, an_element, Spells, a_document}
use Rattle.acl_walk.specs.declared.event.Event.{Event}
use Rattle.acl_walk.specs.declared.event.Event.TheVariants.{Begin, HeadEnd, Finish, End}
use Rattle.skip_decode.specs.declared.head.Head.{Head}
use Rattle.skip_decode.specs.declared.position.Level.{Level}
use Rattle.skip_decode.specs.declared.position.Next.TheVariants as next
use Rattle.skip_decode.specs.Positions.{Numbers, Position, spare_of, above_root, first_position, tree_end}
use Rattle.skip_decode.specs.StreamSteps.{Step, met_with, level_of, is_only, element_begun, root_step, step_at}
use Rattle.skip_decode.specs.ExactSets.{HaveExactSets}
use Rattle.skip_decode.specs.StreamEvents.{run, events_left, numbers_of, stream_events}
use Rattle.skip_decode.proofs.Heads.{IsPart, has_member-row}
use Rattle.skip_decode.proofs.Sizes.{width_found, width_known, part_bytes-element, content_size}
use Rattle.skip_decode.proofs.Names.{tag_of-below}
use Rattle.skip_decode.proofs.Elements.{numbers_in-row, has_own_name}
use Rattle.skip_decode.proofs.Starts.{element_counted}
use Rattle.skip_decode.proofs.Documents.{few_so, small_so, dictionary_formed, among_so, lengths, lengths_is, lengths_grow, tree_section_is, zeros}
use Rattle.skip_decode.proofs.Roots.{range-row}
use Rattle.skip_decode.proofs.RootNames.{root_meets}
use Rattle.skip_decode.proofs.Runs.{Runs, one_step, runs-append, runs-few, run-append}
use Rattle.skip_decode.proofs.PieceRuns.{at, drop-on}
use Rattle.skip_decode.proofs.HeadSteps.{whole, parent, begin_step, own_high, element_begun-read}
use Rattle.skip_decode.proofs.ExactRuns.{exact-element}
use Rattle.skip_decode.proofs.HeldNames.{own_tag, branch_covers}
use Rattle.skip_decode.proofs.ElementRuns.{opened, ContentRun, element_runs, some_width}

-- After the root the list ends.
pub run-end : (k : Numbers) (stream : List ℕ) (n place : ℕ) → run k stream (suc n) (at [] next.End place) ≡ End ∷ []
unfolding run step_at
run-end k stream n place = refl

or_true : (b : Bool) → (b || true) ≡ true
or_true true = refl
or_true false = refl

module _ (d : Doc) (good : is_document d ≡ true) (within : has_stream d ≡ true) where
  abbrev names : List (List ℕ)
  names = dictionary d

  abbrev root : Branch
  root = branch_of names d.root

  -- the numbers of the dictionary
  abbrev all : ℕ → Bool
  all n = nat_lt n (length names)

  -- the numbers inside the root
  abbrev held : ℕ → Bool
  held n = list_any (holds_number n) (map (part_of names) d.root.items)

  abbrev w : ℕ
  w = least_width (lengths (length names) root)

  -- where the tree begins
  abbrev start : ℕ
  start = length (dictionary_section names)

  -- the bytes of the root's head, with its length in v bits
  abbrev head_in : ℕ → List ℕ
  head_in v = model.bytes_of (head_bits (row_of all) v root.tag (row_of held) (size root.content))

  few : length names ≤ 256
  few = few_so d within

  formed : list_all is_name names ≡ true
  formed =
      let whole = dictionary_formed d good within in
      let counted = nat_le 1 (length names) && nat_le (length names) 256 in
      second_so counted (list_all is_name names) (first_so (counted && list_all is_name names) (are_new [] names) whole)

  new : are_new [] names ≡ true
  new =
      let counted = nat_le 1 (length names) && nat_le (length names) 256 in
      second_so (counted && list_all is_name names) (are_new [] names) (dictionary_formed d good within)

  row : root.below ≡ row_of held
  row = ap (λ (b : Branch). b.below) (branch_of_is names d.root) ∙ numbers_in-row (map (part_of names) d.root.items)

  tree_bytes : (v : ℕ) → bytes_of_segments (tree_at (length names) root v) ≡ head_in v ++ bytes_of_segments root.content
  tree_bytes v =
      lengths_is (length names) root v ∙ part_bytes-element (row_of all) v root
      ∙ ap (λ m. model.bytes_of (head_bits (row_of all) v root.tag m (size root.content)) ++ bytes_of_segments root.content) row

  tree_long : (v : ℕ) → lengths (length names) root v ≡ length (head_in v) + size root.content
  unfolding size
  tree_long v = ap length (tree_bytes v) ∙ length-append (head_in v) (bytes_of_segments root.content)

  section_long : length (tree_section d) ≡ lengths (length names) root w
  unfolding size
  section_long = ap length (tree_section_is d)

  small : lengths (length names) root w < 2 ^ 31
  small = let bound = small_so d within in let same = section_long in omega (arith, bound, same)

  known : binary_length (length (tree_section d)) ≡ w
  known = ap binary_length section_long ∙ width_known (lengths (length names) root) (lengths_grow (length names) root) small

  tag_small : root.tag < 256
  tag_small =
      let number = tag_of-below names d.root.name (has_own_name names d.root (among_so d good)) in
      let is = ap (λ (b : Branch). b.tag) (branch_of_is names d.root) in
      let bound = few in
      omega (arith, is, number, bound)

  passes : all root.tag ≡ true
  passes =
      let number = tag_of-below names d.root.name (has_own_name names d.root (among_so d good)) in
      let is = ap (λ (b : Branch). b.tag) (branch_of_is names d.root) in
      grind (arith, nat_tests, is, number)

  among : IsPart held all
  among n below there =
      let counted = element_counted names d.root (among_so d good) n below
      (ap (λ t. nat_eq root.tag n || t) (ap (λ m. has_member m n) row ∙ has_member-row held n below ∙ there) ∙ or_true (nat_eq root.tag n)) in
      grind (arith, nat_tests)

  fits : size root.content < 2 ^ w
  fits =
      let whole = (width_found (lengths (length names) root) small).least.fits in
      let long = tree_long w in
      omega (arith, whole, long)

  abbrev head : Head
  head = whole all held w root.tag (size root.content) passes tag_small among fits

  -- The root's content has at least two bytes.
  content_some : 2 ≤ size root.content
  content_some =
      let parts : List Part = map (part_of names) d.root.items in
      let members : List ℕ = numbers_in parts in
      let tag : ℕ = stream_tag names d.root.name in
      let is = ap (λ (b : Branch). size b.content) (branch_of_is names d.root) in
      let long = content_size tag members d.root.attributes parts (content_width tag members d.root.attributes parts) in
      omega (arith, is, long)

  -- the virtual parent
  abbrev around : Level
  around = parent all held w root.tag (size root.content) passes tag_small among fits [] (start + length (tree_section d)) (length (tree_section d) - 2 ^ (w - 1)) 0

  around_is : above_root (numbers_of d) ≡ around
  around_is =
      let long : ℕ = length (tree_section d) in
      ap (λ (l : List ℕ). record { below = l; met = []; end = start + long; spare = spare_of long; width = binary_length long; tag = 0 }) (range-row (length names) few)
      ∙ ap (λ v. record { below = row_of all; met = []; end = start + long; spare = long - 2 ^ (v - 1); width = v; tag = 0 }) known

  -- where the tree stands in the stream
  tree_there : drop start (plain d) ≡ head_in w ++ (bytes_of_segments root.content ++ zeros d)
  tree_there =
      ap (drop start) (append_assoc (dictionary_section names) (tree_section d) (zeros d)) ∙ drop_at (dictionary_section names) (tree_section d ++ zeros d) start refl
      ∙ ap (λ l. l ++ zeros d) (tree_section_is d ∙ tree_bytes w) ∙ append_assoc (head_in w) (bytes_of_segments root.content) (zeros d)

  -- the step at the root's head
  abbrev begun : Step
  begun = begin_step all held w root.tag (size root.content) passes tag_small among fits start around

  root_only : is_only begun.change ≡ true
  root_only =
      let long = tree_long w in
      let same = section_long in
      let end : nat_eq (start + length (head_in w) + size root.content) (start + length (tree_section d)) ≡ true = grind (arith, nat_tests) in
      let exact : pointwise nat_eq (met_with [] head) (row_of all) ≡ true =
      (bytes_decides (met_with [] head) (row_of all)).1 (root_meets d.root names refl few new (among_so d good) head refl (sym row)) in
      rw (end, exact) refl

  root_begins : step_at (numbers_of d) (plain d) (first_position (numbers_of d)) ≡ Some begun
  unfolding step_at root_step
  root_begins =
      let only : Step → Option Step = λ step. cond (is_only step.change) (Some step) None in
      let long = tree_long w in
      let same = section_long in
      let thin = tree_long (w - 1) in
      let found = width_found (lengths (length names) root) small in
      let whole_fits = found.least.fits in
      let tall = height_is d.root in
      let some = some_width (numbers_of d) (plain d) names few formed w (lengths (length names) root w) (omega (arith, long, content_some)) whole_fits in
      let least = found.least.least (w - 1) (omega (arith, some)) in
      ap (λ a. option_and_then only (element_begun (height d.root) (plain d) 0 a start)) around_is
      ∙ ap (option_and_then only) (element_begun-read all held w root.tag (size root.content) passes tag_small among fits (plain d) (bytes_of_segments root.content ++ zeros d) (height d.root) 0 start
      [] (start + length (tree_section d)) (length (tree_section d) - 2 ^ (w - 1)) 0 tree_there (omega (arith, tall)) (omega (arith, long, same)) (omega (arith, long, same, thin, least)))
      ∙ ap (λ b. cond b (Some begun) None) root_only

  -- the root begins
  root_run : Runs (numbers_of d) (plain d) (first_position (numbers_of d)) (Begin root.tag (row_of held) ∷ []) (at (level_of start head ∷ []) next.Count (start + length (head_in w)))
  root_run =
      let high = own_high all held w root.tag (size root.content) passes tag_small among fits in
      let some = ap (λ (l : List ℕ). length l) high.2 in
      one_step (numbers_of d) (plain d) (first_position (numbers_of d)) begun (record { there = root_begins; on = λ rest. refl; fewer = omega (arith, some) })

  -- the content of the root
  content : ContentRun (numbers_of d) (plain d) names few formed d.root [] (start + length (head_in w))
  unfolding size
  content =
      let bound = small in
      let long = tree_long w in
      element_runs (numbers_of d) (plain d) names few formed d.root (among_so d good) [] (start + length (head_in w)) (zeros d) (omega arith) (omega (arith, bound, long))
      (drop-on (plain d) start (head_in w) (bytes_of_segments root.content ++ zeros d) (length (head_in w)) tree_there refl)

  -- the events of the root
  abbrev root_events : List Event
  root_events = Begin root.tag (row_of held) ∷ (content.heads ++ (HeadEnd ∷ (content.contents ++ (Finish root.tag ∷ []))))

  -- the position after them
  abbrev last_position : Position
  last_position = at [] next.End (start + length (head_in w) + size root.content)

  document_run : Runs (numbers_of d) (plain d) (first_position (numbers_of d)) root_events last_position
  document_run =
      let events : List Event = content.heads ++ (HeadEnd ∷ (content.contents ++ (Finish root.tag ∷ []))) in
      runs-append (numbers_of d) (plain d) (first_position (numbers_of d)) (at (level_of start head ∷ []) next.Count (start + length (head_in w))) last_position
      (Begin root.tag (row_of held) ∷ []) events root_run
      (subst (λ (m : List ℕ). Runs (numbers_of d) (plain d) (at (opened (numbers_of d) (plain d) names few formed root m (start + length (head_in w)) ∷ []) next.Count (start + length (head_in w))) events last_position)
      row content.run)

  -- The stream is read as the events of the root, and End.
  events_are : stream_events d ≡ root_events ++ (End ∷ [])
  events_are =
      let k : Numbers = numbers_of d in
      let long = tree_long w in
      let same = section_long in
      let bound = runs-few k (plain d) (first_position k) last_position root_events document_run in
      let left : ℕ = events_left k (first_position k) - length root_events in
      let fuel : events_left k (first_position k) + 1 ≡ length root_events + suc left = omega (arith, bound, long, same) in
      ap (λ n. run k (plain d) n (first_position k)) fuel
      ∙ run-append k (plain d) (suc left) (first_position k) last_position root_events document_run
      ∙ ap (λ l. root_events ++ l) (run-end k (plain d) left _)

  root_spelled : SpellsElement names d.root root_events
  root_spelled =
      an_element names d.root root.tag (row_of held) content.heads content.contents (own_tag names formed d.root (among_so d good))
      (subst (λ (m : List ℕ). Covers names m d.root) row (branch_covers names few d.root (among_so d good))) content.attributes content.items

  -- The events of a document's stream spell it.
  pub stream_events-spell : Spells names (Some d) (stream_events d)
  stream_events-spell = subst (Spells names (Some d)) (sym events_are) (a_document names d root_events root_spelled)

-- The sets of the events of a document's stream are exact.
pub stream_events-exact : (d : Doc) → is_document d ≡ true → has_stream d ≡ true → HaveExactSets (stream_events d)
stream_events-exact d good within =
    let inner = content d good within in
    let whole = exact-element (root d good within).tag (held d good within) d.root.attributes inner.heads inner.contents inner.attributes inner.exact in
    subst HaveExactSets (sym (events_are d good within)) (whole.exact (End ∷ []) tt)

-- The whole run of a document's stream, from its first position to the end of its tree.
pub record DocumentRun (d : Doc) : Type 0 where
  pub events : List Event
  pub list : stream_events d ≡ events ++ (End ∷ [])
  pub run : Runs (numbers_of d) (plain d) (first_position (numbers_of d)) events (at [] next.End (tree_end (numbers_of d)))

-- Each document's stream has such a run.
pub whole_run : (d : Doc) → is_document d ≡ true → has_stream d ≡ true → DocumentRun d
whole_run d good within =
    let long = tree_long d good within (w d good within) in
    let same = section_long d good within in
    let end : start d good within + length (head_in d good within (w d good within)) + size (root d good within).content ≡ tree_end (numbers_of d) = omega (arith, long, same) in
    record {
      events = root_events d good within;
      list = events_are d good within;
      run = subst (λ n. Runs (numbers_of d) (plain d) (first_position (numbers_of d)) (root_events d good within) (at [] next.End n)) end (document_run d good within);
    }
