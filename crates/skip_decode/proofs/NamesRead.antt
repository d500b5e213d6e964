-- The names that were read are those of each document that an opener may be reading.
use Rattle.std.proofs.Common.{◌≡◌, ℕ, true, false, ◌+◌, List, ◌++◌, length, take, drop, take-add, take_at, append_assoc, refl, ap, sym, ◌∙◌, subst}
use Rattle.std.specs.Prelude.{Bool, Option, Result, Ok, Err}
use Rattle.std.proofs.lemmas.Bool.{true≢false}
use Rattle.acl_model.specs.Dictionary.{dictionary, dictionary_section, is_dictionary}
use Rattle.acl_model.specs.Stream.{plain, tree_section}
use Rattle.acl_model.specs.declared.document.Doc.{Doc}
use Rattle.acl_outside.specs.Outside.{StoreRead}
use Rattle.acl_outside.specs.declared.read_fault.ReadFault.TheVariants as read
use Rattle.fragment_open.specs.Sound.{IsOrigin, sound_for}
use Rattle.fragment_open.specs.declared.head.Head.{Head}
use Rattle.merkle_chunks.specs.declared.header.Header.{Header}
use Rattle.tag_dictionary.proofs.Readings.{one_dictionary}
use Rattle.tag_dictionary.specs.declared.fault.DictFault.{DictFault}
use Rattle.tag_dictionary.specs.declared.fault.DictFault.TheVariants as index
use Rattle.skip_decode.specs.CheckedStream.{MayBe}
use Rattle.skip_decode.specs.Fragments.{FitsNone, ForEach}
use Rattle.skip_decode.specs.Starting.{AreNamesOfOrigins, IsOfNoOrigin}
use Rattle.skip_decode.specs.declared.start_fault.StartFault.{StartFault}
use Rattle.skip_decode.specs.declared.start_fault.StartFault.TheVariants as start
use Rattle.skip_decode.specs.inside.StartFaults.{fault_of_index}
use Rattle.skip_decode.proofs.Documents.{dictionary_formed, zeros}
use Rattle.skip_decode.proofs.FileSteps.{is_false}

-- The dictionary section is at the start of the stream.
section_of : (d : Doc) → take (length (dictionary_section (dictionary d))) (plain d) ≡ dictionary_section (dictionary d)
section_of d =
    ap (take (length (dictionary_section (dictionary d)))) (append_assoc (dictionary_section (dictionary d)) (tree_section d) (zeros d))
    ∙ take_at (dictionary_section (dictionary d)) (tree_section d ++ zeros d) (length (dictionary_section (dictionary d))) refl

module _ (head : Head) (served : Option (List StoreRead)) (held : Option (List ℕ)) where
  -- the stream of an origin for which the opener is sound
  stream_there : (d : Doc) → IsOrigin head.header head.top head.key d → sound_for served held d head.key ≡ true → MayBe served held head (plain d)
  stream_there d origin sound = record { document = d; origin = origin; sound = sound; stream_is = refl }

  -- Where it may be reading no stream, it is sound for no origin.
  pub fits_no_origin : FitsNone (MayBe served held head) → IsOfNoOrigin head served held
  fits_no_origin none d origin = is_false (sound_for served held d head.key) (λ sound. none (plain d) (stream_there d origin sound))

  module _ (section : List ℕ) (count : ℕ) (long : count ≡ head.header.dictionary) (first : ForEach (MayBe served held head) (λ stream. section ≡ take count stream)) where
    -- the section read is that of an origin
    section_there : (d : Doc) → IsOrigin head.header head.top head.key d → sound_for served held d head.key ≡ true → section ≡ dictionary_section (dictionary d)
    section_there d origin sound =
        first (plain d) (stream_there d origin sound)
        ∙ ap (λ n. take n (plain d)) long
        ∙ ap (λ (h : Header). take h.dictionary (plain d)) (sym origin.header_is)
        ∙ section_of d

    -- its names are those of the origin
    pub names_there : (names : List (List ℕ)) → is_dictionary names ≡ true → dictionary_section names ≡ section → AreNamesOfOrigins head served held names
    names_there names formed spelled d origin sound =
        sym (one_dictionary names (dictionary d) formed (dictionary_formed d origin.document origin.has_root.defined) (spelled ∙ section_there d origin sound))

    -- Where it is the section of no dictionary with so many names, there is no origin.
    pub no_names_there : ((names : List (List ℕ)) → is_dictionary names ≡ true → length names ≡ head.header.tags → dictionary_section names ≡ section → ⊥) → IsOfNoOrigin head served held
    no_names_there never d origin = is_false (sound_for served held d head.key) (λ sound.
        never (dictionary d) (dictionary_formed d origin.document origin.has_root.defined)
        (ap (λ (h : Header). h.tags) origin.header_is) (sym (section_there d origin sound)))

-- the names of an opener that is as it was
pub names_same : (old new : Head) (a b : Option (List StoreRead)) (held later : Option (List ℕ)) (names others : List (List ℕ)) → new ≡ old → b ≡ a → later ≡ held → others ≡ names
    → AreNamesOfOrigins old a held names → AreNamesOfOrigins new b later others
names_same old new a b held later names others head served holds same of =
    subst (λ (h : Head). AreNamesOfOrigins h b later others) (sym head)
    (subst (λ (o : Option (List StoreRead)). AreNamesOfOrigins old o later others) (sym served)
    (subst (λ (o : Option (List ℕ)). AreNamesOfOrigins old a o others) (sym holds)
    (subst (AreNamesOfOrigins old a held) (sym same) of)))

-- ---- errors

-- the error of a start that ended with one
error_of : {T : Type 0} → Result T StartFault → StartFault
error_of (Ok done) = start.NoMemory
error_of (Err fault) = fault

-- two errors of one result are the same
pub one_error : {T : Type 0} (result : Result T StartFault) (one other : StartFault) → result ≡ Err one → result ≡ Err other → one ≡ other
unfolding error_of
one_error result one other is also = ap error_of (sym is ∙ also)

-- whether an error is the want of memory
lacks_memory : StartFault → Bool
lacks_memory start.NoMemory = true
lacks_memory (start.Read fault) = false

-- A dictionary that made a start end with BadIndex was refused so.
pub index_so : (fault : DictFault) → fault_of_index fault ≡ start.Read read.BadIndex → fault ≡ index.BadIndex
unfolding lacks_memory
index_so index.BadIndex is = refl
index_so index.NoMemory is = absurd (true≢false (ap lacks_memory is))

-- ---- bytes

-- the bytes after the first ones
pub more_bytes : (stream first : List ℕ) (so_far place n to : ℕ) → place ≡ so_far → to ≡ so_far + n → first ≡ take so_far stream
    → first ++ take n (drop place stream) ≡ take to stream
more_bytes stream first so_far place n to here there is =
    (λ i. is i ++ take n (drop (here i) stream)) ∙ sym (take-add so_far n stream) ∙ ap (λ k. take k stream) (sym there)
