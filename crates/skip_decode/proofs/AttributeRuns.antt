-- The attributes of an element are read as pieces, and then as HeadEnd.
use Rattle.std.proofs.Common.{◌≡◌, ℕ, suc, ◌+◌, ◌-◌, ◌*◌, ◌^◌, ◌<◌, ◌≤◌, true, Option, List, [], ◌∷◌, ◌++◌, length, drop, map, refl, ap, sym, ◌∙◌, subst, arith, append_assoc, length-append, w16, w32}
use Rattle.std.specs.Cmp.{first_so, second_so}
use Rattle.std.specs.Int.{to_be_bytes, from_be_bytes}
use Rattle.std.specs.List.{flat_map, list_all}
use Rattle.std.specs.Option.{option_and_then}
use Rattle.std.proofs.lemmas.Nat.{from_be_bytes-to_be_bytes_2}
use Rattle.acl_bits.specs.declared.piece.Piece.{Piece}
use Rattle.acl_model.specs.Document.{is_raw_attribute}
use Rattle.acl_model.specs.Lines.{is_within_line}
use Rattle.acl_model.specs.Stream.{measured_bytes}
use Rattle.acl_walk.specs.Spelling.{SpellsAttributes, no_attribute, an_attribute}
use Rattle.acl_walk.specs.declared.event.Event.{Event}
use Rattle.acl_walk.specs.declared.event.Event.TheVariants.{Attr, HeadEnd}
use Rattle.skip_decode.specs.declared.position.Level.{Level}
use Rattle.skip_decode.specs.declared.position.Next.{Next}
use Rattle.skip_decode.specs.declared.position.Next.TheVariants.{Count, Attributes, Attribute, Item}
use Rattle.skip_decode.specs.Positions.{Numbers}
use Rattle.skip_decode.specs.StreamHeads.{take_within}
use Rattle.skip_decode.specs.StreamSteps.{Step, Stay, attribute_step, attributes_step, count_step, step_at}
use Rattle.skip_decode.specs.StreamEvents.{and_then, weight}
use Rattle.skip_decode.proofs.Runs.{Runs, one_step, runs-append}
use Rattle.skip_decode.proofs.PieceRuns.{at, drop-on, piece_step, pieces_run}
use Rattle.skip_decode.proofs.HeadSteps.{take_within-all}
use Rattle.skip_decode.proofs.TextRuns.{length_at-read, drop-length}

module _ (k : Numbers) (stream : List ℕ) (level : Level) (up : List Level) where
  attr_steps : (more place left : ℕ) → step_at k stream (at (level ∷ up) (Attribute left more) place) ≡ piece_step Attr (Attributes more) (λ left. Attribute left more) stream place left
  unfolding step_at attribute_step
  attr_steps more place left = refl

  attr_goes : (piece : Piece) (rest : List Event) → and_then (Attr piece) rest ≡ Attr piece ∷ rest
  attr_goes piece rest = refl

  -- After the last attribute comes HeadEnd.
  attributes_end : (next : Next) (from place : ℕ) → step_at k stream (at (level ∷ up) next from) ≡ attributes_step stream place level.end 0 → 4 * from + 1 ≤ 4 * place + weight next
      → Runs k stream (at (level ∷ up) next from) (HeadEnd ∷ []) (at (level ∷ up) Item place)
  unfolding attributes_step
  attributes_end next from place is fewer =
      one_step k stream (at (level ∷ up) next from) (record { event = HeadEnd; next = Item; place = place; change = Stay })
      (record { there = is; on = λ rest. refl; fewer = omega (arith, fewer) })

  -- The first of several attributes begins with its first piece.
  attribute_begins : (next : Next) (from place more : ℕ) (raw rest : List ℕ) → step_at k stream (at (level ∷ up) next from) ≡ attributes_step stream place level.end (suc more)
      → drop place stream ≡ measured_bytes raw ++ rest → length raw < 2 ^ 32 → place + (4 + length raw) ≤ level.end
      → step_at k stream (at (level ∷ up) next from) ≡ piece_step Attr (Attributes more) (λ left. Attribute left more) stream (place + 4) (length raw)
  unfolding attributes_step attribute_step
  attribute_begins next from place more raw rest is there small within =
      is ∙ ap (option_and_then (attribute_step stream more (place + 4)))
      (length_at-read stream place level.end (length raw) (raw ++ rest) (there ∙ append_assoc (to_be_bytes w32 (length raw)) raw rest) small within)

  next_attributes : (place more : ℕ) → step_at k stream (at (level ∷ up) (Attributes more) place) ≡ attributes_step stream place level.end more
  unfolding step_at
  next_attributes place more = refl

  -- Attributes are read up to their end, from a position whose step has the first of them.
  pub attributes_run : (raws : List (List ℕ)) (next : Next) (from place : ℕ) (rest : List ℕ)
      → step_at k stream (at (level ∷ up) next from) ≡ attributes_step stream place level.end (length raws)
      → drop place stream ≡ flat_map measured_bytes raws ++ rest → list_all is_raw_attribute raws ≡ true
      → from ≤ place → 4 * from + 1 ≤ 4 * place + weight next → place + length (flat_map measured_bytes raws) ≤ level.end → length (flat_map measured_bytes raws) < 2 ^ 32
      → (events : List Event) × SpellsAttributes raws events
      × Runs k stream (at (level ∷ up) next from) (events ++ (HeadEnd ∷ [])) (at (level ∷ up) Item (place + length (flat_map measured_bytes raws)))
  attributes_run [] next from place rest is there formed before fewer within small =
      let end : place ≡ place + 0 = omega arith in
      ([], no_attribute, subst (λ n. Runs k stream (at (level ∷ up) next from) (HeadEnd ∷ []) (at (level ∷ up) Item n)) end (attributes_end next from place is fewer))
  attributes_run (raw ∷ raws) next from place rest is there formed before fewer within small =
      let others : List ℕ = flat_map measured_bytes raws in
      let whole = length-append (measured_bytes raw) others in
      let long : length (measured_bytes raw) ≡ 4 + length raw = length-append (to_be_bytes w32 (length raw)) raw in
      let here : drop place stream ≡ measured_bytes raw ++ (others ++ rest) = there ∙ append_assoc (measured_bytes raw) others rest in
      let one : is_raw_attribute raw ≡ true = first_so (is_raw_attribute raw) (list_all is_raw_attribute raws) formed in
      let run = pieces_run k stream level up Attr (Attributes (length raws)) (λ left. Attribute left (length raws)) 1 (attr_steps (length raws)) attr_goes (omega arith) refl (λ left. refl)
      (length raw) next from (place + 4) raw (others ++ rest) (omega arith) (attribute_begins next from place (length raws) raw (others ++ rest) is here (omega (arith, small, whole, long)) (omega (arith, within, whole, long)))
      (drop-length stream place raw (others ++ rest) here) (second_so _ (is_within_line raw) one) (omega (arith, before)) (omega (arith, before)) in
      let middle : ℕ = (place + 4) + length raw in
      let later = attributes_run raws (Attributes (length raws)) middle middle rest (next_attributes middle (length raws))
      (ap (λ n. drop n stream) (omega arith) ∙ drop-on stream place (measured_bytes raw) (others ++ rest) (4 + length raw) here long)
      (second_so (is_raw_attribute raw) (list_all is_raw_attribute raws) formed) (omega arith) (omega arith) (omega (arith, within, whole, long)) (omega (arith, small, whole)) in
      let end : middle + length others ≡ place + length (measured_bytes raw ++ others) = omega (arith, whole, long) in (
        map Attr run.0 ++ later.0,
        an_attribute raw run.0 raws later.0 run.1 later.1,
        subst (λ n. Runs k stream (at (level ∷ up) next from) ((map Attr run.0 ++ later.0) ++ (HeadEnd ∷ [])) (at (level ∷ up) Item n)) end
            (subst (λ l. Runs k stream (at (level ∷ up) next from) l (at (level ∷ up) Item (middle + length others))) (sym (append_assoc (map Attr run.0) later.0 (HeadEnd ∷ [])))
            (runs-append k stream (at (level ∷ up) next from) (at (level ∷ up) (Attributes (length raws)) middle) (at (level ∷ up) Item (middle + length others)) (map Attr run.0) (later.0 ++ (HeadEnd ∷ [])) run.2 later.2)),
      )

  -- The step at the number of attributes is that of so many attributes.
  count_begins : (place n : ℕ) (rest : List ℕ) → drop place stream ≡ to_be_bytes w16 n ++ rest → n < 2 ^ 16 → place + 2 ≤ level.end
      → step_at k stream (at (level ∷ up) Count place) ≡ attributes_step stream (place + 2) level.end n
  unfolding step_at count_step
  count_begins place n rest there small within =
      let read : List ℕ → Option Step = λ two. attributes_step stream (place + 2) level.end (from_be_bytes w16 two) in
      ap (λ l. option_and_then read (take_within (level.end - place) 2 l)) there
      ∙ ap (option_and_then read) (take_within-all (level.end - place) 2 (to_be_bytes w16 n ++ rest) (omega arith))
      ∙ ap (attributes_step stream (place + 2) level.end) (from_be_bytes-to_be_bytes_2 n small)

  -- The attributes of an element are read from their number on.
  pub head_run : (place : ℕ) (raws : List (List ℕ)) (rest : List ℕ) → drop place stream ≡ to_be_bytes w16 (length raws) ++ (flat_map measured_bytes raws ++ rest)
      → length raws < 2 ^ 16 → list_all is_raw_attribute raws ≡ true → place + (2 + length (flat_map measured_bytes raws)) ≤ level.end → length (flat_map measured_bytes raws) < 2 ^ 32
      → (events : List Event) × SpellsAttributes raws events
      × Runs k stream (at (level ∷ up) Count place) (events ++ (HeadEnd ∷ [])) (at (level ∷ up) Item (place + (2 + length (flat_map measured_bytes raws))))
  head_run place raws rest there few formed within small =
      let run = attributes_run raws Count place (place + 2) rest (count_begins place (length raws) (flat_map measured_bytes raws ++ rest) there few (omega arith))
      (drop-on stream place (to_be_bytes w16 (length raws)) (flat_map measured_bytes raws ++ rest) 2 there refl) formed (omega arith) (omega arith) (omega arith) small in
      let end : (place + 2) + length (flat_map measured_bytes raws) ≡ place + (2 + length (flat_map measured_bytes raws)) = omega arith in
      (run.0, run.1, subst (λ n. Runs k stream (at (level ∷ up) Count place) (run.0 ++ (HeadEnd ∷ [])) (at (level ∷ up) Item n)) end run.2)
