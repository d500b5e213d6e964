-- From runs of the machine to the laws of reading.
use Rattle.std.proofs.Common.{◌≡◌, ℕ, suc, ◌+◌, ◌<◌, ◌≤◌, min, Bool, true, false, cond, nat_le, Option, Some, None, Result, Ok, Err, IfOk, OnOk, List, [], ◌∷◌, ◌++◌, length, take, drop, refl, sym, ap, subst, ◌∙◌, arith, append_assoc}
use Rattle.std.specs.Option.{option_and_then}
use borrow.Author.Tests.{leb-true}
use Rattle.std.proofs.lemmas.Grind.{common_steps}
use Rattle.std.proofs.lemmas.List.{take-append-drop, take-append-le}
use Rattle.acl_model.specs.Limits.{most_path_bytes}
use Rattle.acl_model.specs.declared.path.Path.{Path}
use Rattle.xpath_rules.specs.declared.state.State.{State}
use Rattle.xpath_rules.specs.declared.path_error.PathError.{PathError}
use Rattle.xpath_rules.specs.declared.path_error.PathError.TheVariants.{Fault, NoMemory}
use Rattle.xpath_rules.specs.Grammar.{path_text}
use Rattle.xpath_rules.specs.PathReading.{Spells, IsBegun, IsLongestPrefix, IsPlace}
use Rattle.xpath_rules.specs.PathMachine.{step, run, live, count_after, path_at_end, path_or_place, read_path_of}
use Rattle.xpath_rules.specs.PathAnswers.{ButForMemory, IfFault, IsNoPath}
use Rattle.xpath_rules.proofs.Names.{le_test}
use Rattle.xpath_rules.proofs.Runs.{run-after, prefix_runs, live-le, live_runs, length_taken, taken_live}
use Rattle.xpath_rules.proofs.PathSoundness.{read_spells}
use Rattle.xpath_rules.proofs.PathRuns.{path_run, end_of, end_is}
use Rattle.xpath_rules.proofs.Completion.{rest_of, completes}

-- ---- what is spelled

spelled_run : (user bytes : List ℕ) (path : Path) → Spells user bytes path → option_and_then path_at_end (run user bytes State.Start) ≡ Some path
spelled_run user bytes path s =
    ap (λ t. option_and_then path_at_end (run user t State.Start)) s.text
    ∙ ap (λ o. option_and_then path_at_end o) (path_run user s.written s.in_form)
    ∙ end_is user s.written s.in_form ∙ ap Some (sym s.meaning)

pub spelled_read : (user bytes : List ℕ) (path : Path) → Spells user bytes path → length bytes ≤ most_path_bytes → read_path_of bytes user ≡ Ok path
unfolding read_path_of
spelled_read user bytes path s short =
    let few = le_test (length bytes) 1024 short in let ran = spelled_run user bytes path s in rw (few, ran) refl

pub one_path : (user bytes : List ℕ) (path other : Path) → Spells user bytes path → Spells user bytes other → path ≡ other
one_path user bytes path other s o = let a = spelled_run user bytes path s in let b = spelled_run user bytes other o in cc

-- ---- what is read

read_run : (user bytes : List ℕ) (path : Path) → read_path_of bytes user ≡ Ok path → (length bytes ≤ 1024) × (option_and_then path_at_end (run user bytes State.Start) ≡ Some path)
unfolding read_path_of
read_run user bytes path e =
    let at : ℕ = min 1024 (live user bytes State.Start) in
    elim (nat_le (length bytes) 1024) as (λ v. nat_le (length bytes) 1024 ≡ v → cond v (path_or_place (option_and_then path_at_end (run user bytes State.Start)) at) (Err at) ≡ Ok path
    → (length bytes ≤ 1024) × (option_and_then path_at_end (run user bytes State.Start) ≡ Some path)) [
      | true ↦ λ is e. (leb-true (length bytes) 1024 is, placed (option_and_then path_at_end (run user bytes State.Start)) at e)
      | false ↦ λ is e. cc
    ] refl e
  where
    placed : (o : Option Path) (at : ℕ) → path_or_place o at ≡ Ok path → o ≡ Some path
    placed None at e = cc
    placed (Some p) at e = cc

pub read_within : (user bytes : List ℕ) (path : Path) → read_path_of bytes user ≡ Ok path → length bytes ≤ most_path_bytes
read_within user bytes path e = (read_run user bytes path e).0

pub read_spelled : (user bytes : List ℕ) (path : Path) → read_path_of bytes user ≡ Ok path → Spells user bytes path
read_spelled user bytes path e = by_run (run user bytes State.Start) refl (read_run user bytes path e).1
  where
    by_run : (o : Option State) → run user bytes State.Start ≡ o → option_and_then path_at_end o ≡ Some path → Spells user bytes path
    by_run None is end = cc
    by_run (Some t) is end = read_spells user bytes t path is end

-- ---- what is refused

pub refused_read : (user bytes : List ℕ) (at : ℕ) → read_path_of bytes user ≡ Err at → IsNoPath user bytes
refused_read user bytes at e path s = elim (nat_le (length bytes) 1024) as (λ v. nat_le (length bytes) 1024 ≡ v → 1024 < length bytes) [
  | true ↦ λ is. let read = spelled_read user bytes path s (leb-true (length bytes) 1024 is) in cc
  | false ↦ λ is. grind arith
] refl

live_begun : (user bytes : List ℕ) → IsBegun (take (live user bytes State.Start) bytes)
live_begun user bytes =
    let ran = live_runs user bytes State.Start in
    let more = completes user ran.0 in
    let all = run-after user (take (live user bytes State.Start) bytes) (rest_of ran.0) State.Start ran.0 ran.1 in
    let spelled = read_spells user (take (live user bytes State.Start) bytes ++ rest_of ran.0) more.0 more.1 (all ∙ more.2) more.3 in
    record { rest = rest_of ran.0; written = spelled.written; in_form = spelled.in_form; text = spelled.text }

begun_live : (user bytes : List ℕ) (m : ℕ) → m ≤ length bytes → IsBegun (take m bytes) → m ≤ live user bytes State.Start
begun_live user bytes m within b =
    let prefix = prefix_runs user (take m bytes) b.rest State.Start (end_of user b.written) (ap (λ t. run user t State.Start) b.text ∙ path_run user b.written b.in_form) in
    taken_live user bytes State.Start prefix.0 m within prefix.1

-- The live bytes are the longest prefix that some text of the grammar begins with.
pub live_longest : (user bytes : List ℕ) → IsLongestPrefix bytes (live user bytes State.Start)
live_longest user bytes = record { within = live-le user bytes State.Start; begun = live_begun user bytes; longest = begun_live user bytes }

refused_at : (user bytes : List ℕ) (at : ℕ) → read_path_of bytes user ≡ Err at → at ≡ min 1024 (live user bytes State.Start)
unfolding read_path_of
refused_at user bytes at e =
    let place : ℕ = min 1024 (live user bytes State.Start) in
    elim (nat_le (length bytes) 1024) as (λ v. cond v (path_or_place (option_and_then path_at_end (run user bytes State.Start)) place) (Err place) ≡ Err at → at ≡ place) [
      | true ↦ λ e. placed (option_and_then path_at_end (run user bytes State.Start)) place e
      | false ↦ λ e. cc
    ] e
  where
    placed : (o : Option Path) (place : ℕ) → path_or_place o place ≡ Err at → at ≡ place
    placed None place e = cc
    placed (Some p) place e = cc

pub refused_place : (user bytes : List ℕ) (at : ℕ) → read_path_of bytes user ≡ Err at → IsPlace bytes at
refused_place user bytes at e = record { prefix = live user bytes State.Start; is_longest = live_longest user bytes; capped = refused_at user bytes at e }

pub one_place : (bytes : List ℕ) (at other : ℕ) → IsPlace bytes at → IsPlace bytes other → at ≡ other
one_place bytes at other p q =
    let m = p.is_longest.longest q.prefix q.is_longest.within q.is_longest.begun in
    let n = q.is_longest.longest p.prefix p.is_longest.within p.is_longest.begun in
    let same : p.prefix ≡ q.prefix = omega arith in
    p.capped ∙ ap (λ x. min 1024 x) same ∙ sym q.capped

-- ---- what the offset of a fault says about whole texts

-- A text that begins with some bytes begins with each prefix of them.
begun_shorter : (bytes : List ℕ) (m n : ℕ) → m ≤ n → n ≤ length bytes → IsBegun (take n bytes) → IsBegun (take m bytes)
begun_shorter bytes m n less within b =
    let long : length (take n bytes) ≡ n = length_taken n bytes within in
    let same : take m bytes ≡ take m (take n bytes) = ap (take m) (sym (take-append-drop n bytes)) ∙ take-append-le m (take n bytes) (drop n bytes) (omega (arith, long, less)) in
    record {
      rest = drop m (take n bytes) ++ b.rest;
      written = b.written;
      in_form = b.in_form;
      text = ap (λ t. t ++ (drop m (take n bytes) ++ b.rest)) same
          ∙ sym (append_assoc (take m (take n bytes)) (drop m (take n bytes)) b.rest)
          ∙ ap (λ t. t ++ b.rest) (take-append-drop m (take n bytes)) ∙ b.text;
    }

pub place_begun : (bytes : List ℕ) (at : ℕ) → IsPlace bytes at → IsBegun (take at bytes)
place_begun bytes at p = let is = p.capped in begun_shorter bytes at p.prefix (omega (arith, is)) p.is_longest.within p.is_longest.begun

pub place_longest : (bytes : List ℕ) (at : ℕ) → IsPlace bytes at → at < most_path_bytes → at < length bytes → IsBegun (take (at + 1) bytes) → ⊥
place_longest bytes at p few within begun =
    let is = p.capped in let more = p.is_longest.longest (at + 1) (omega (arith, within)) begun in omega (arith, is, more, few)

pub place_within : (bytes : List ℕ) (at : ℕ) → IsPlace bytes at → at ≤ length bytes
place_within bytes at p = let is = p.capped in let prefix = p.is_longest.within in omega (arith, is, prefix)

pub place_capped : (bytes : List ℕ) (at : ℕ) → IsPlace bytes at → at ≤ most_path_bytes
place_capped bytes at p = let is = p.capped in omega (arith, is)

-- ---- the loop of the code

-- There is a byte at offset 1,024.
pub too_many : (bytes user rest : List ℕ) (at : ℕ) (s : State) → 1024 < length bytes → 1024 ≤ at → at ≤ 1024 → at + live user rest s ≡ live user bytes State.Start → ButForMemory (Err (Fault at)) (read_path_of bytes user)
unfolding read_path_of
too_many bytes user rest at s long more few lives =
    let no : nat_le (length bytes) 1024 ≡ false = grind arith in
    let place : at ≡ min 1024 (live user bytes State.Start) = omega (arith, lives) in
    rw no (ap Err place)

-- A byte is refused.
pub refused_byte : (bytes user rest : List ℕ) (at : ℕ) (s : State) (b : ℕ) → step user s b ≡ None → at ≤ 1024
    → run user (b ∷ rest) s ≡ run user bytes State.Start → at + live user (b ∷ rest) s ≡ live user bytes State.Start → ButForMemory (Err (Fault at)) (read_path_of bytes user)
unfolding read_path_of run live
refused_byte bytes user rest at s b none few ran lives =
    let died : run user bytes State.Start ≡ None = sym ran ∙ ap (λ o. option_and_then (run user rest) o) none in
    let dead : live user bytes State.Start ≡ at + 0 = sym lives ∙ ap (λ o. at + count_after (live user rest) o) none in
    let place : at ≡ min 1024 (live user bytes State.Start) = omega (arith, dead) in
    elim (nat_le (length bytes) 1024) as (λ v. Err at ≡ cond v (path_or_place (option_and_then path_at_end (run user bytes State.Start)) (min 1024 (live user bytes State.Start))) (Err (min 1024 (live user bytes State.Start)))) [
      | true ↦ ap Err place ∙ sym (ap (λ o. path_or_place (option_and_then path_at_end o) (min 1024 (live user bytes State.Start))) died)
      | false ↦ ap Err place
    ]

-- A byte is taken.
pub taken_run : (user rest : List ℕ) (s t : State) (b : ℕ) (all : Option State) → step user s b ≡ Some t → run user (b ∷ rest) s ≡ all → run user rest t ≡ all
unfolding run
taken_run user rest s t b all is ran = sym (ap (λ o. option_and_then (run user rest) o) is) ∙ ran

pub taken_lives : (user rest : List ℕ) (s t : State) (b at all : ℕ) → step user s b ≡ Some t → at + live user (b ∷ rest) s ≡ all → (at + 1) + live user rest t ≡ all
unfolding live
taken_lives user rest s t b at all is lives =
    let more : at + suc (live user rest t) ≡ all = sym (ap (λ o. at + count_after (live user rest) o) is) ∙ lives in omega (arith, more)

-- All bytes were taken.
all_taken : (bytes user : List ℕ) (at : ℕ) (s : State) → length bytes ≤ 1024 → at ≤ 1024 → run user [] s ≡ run user bytes State.Start → at + live user [] s ≡ live user bytes State.Start
    → path_or_place (path_at_end s) at ≡ read_path_of bytes user
unfolding read_path_of run live
all_taken bytes user at s short few ran lives =
    let yes' : nat_le (length bytes) 1024 ≡ true = le_test (length bytes) 1024 short in
    let place : at ≡ min 1024 (live user bytes State.Start) = omega (arith, lives) in
    rw yes' (ap (λ x. path_or_place (path_at_end s) x) place ∙ ap (λ o. path_or_place (option_and_then path_at_end o) (min 1024 (live user bytes State.Start))) ran)

drop_past : (n : ℕ) (bs : List ℕ) → length bs ≤ n → drop n bs ≡ []
drop_past n bs h = grind (arith, common_steps)

pub at_end : (bytes user : List ℕ) (at i : ℕ) (s : State) → length bytes ≤ i → at ≡ i → at ≤ 1024 → i ≤ length bytes → run user (drop i bytes) s ≡ run user bytes State.Start → at + live user (drop i bytes) s ≡ live user bytes State.Start
    → path_or_place (path_at_end s) at ≡ read_path_of bytes user
at_end bytes user at i s past same few within ran lives =
    let none = drop_past i bytes past in
    all_taken bytes user at s (omega arith) few (subst (λ (bs : List ℕ). run user bs s ≡ run user bytes State.Start) none ran) (subst (λ (bs : List ℕ). at + live user bs s ≡ live user bytes State.Start) none lives)

-- ---- what is answered

pub answer_spelled : (r : Result Path PathError) (user bytes : List ℕ) → ButForMemory r (read_path_of bytes user) → IfOk r (λ path. Spells user bytes path)
answer_spelled (Ok path) user bytes h = read_spelled user bytes path (sym h)
answer_spelled (Err e) user bytes h = tt

pub answer_within : (r : Result Path PathError) (user bytes : List ℕ) → ButForMemory r (read_path_of bytes user) → OnOk r (length bytes ≤ most_path_bytes)
answer_within (Ok path) user bytes h = read_within user bytes path (sym h)
answer_within (Err e) user bytes h = tt

pub answer_refused : (r : Result Path PathError) (user bytes : List ℕ) → ButForMemory r (read_path_of bytes user) → IfFault r (λ at. IsNoPath user bytes)
answer_refused (Ok path) user bytes h = tt
answer_refused (Err (Fault at)) user bytes h = refused_read user bytes at (sym h)
answer_refused (Err NoMemory) user bytes h = tt

pub answer_place : (r : Result Path PathError) (user bytes : List ℕ) → ButForMemory r (read_path_of bytes user) → IfFault r (λ at. IsPlace bytes at)
answer_place (Ok path) user bytes h = tt
answer_place (Err (Fault at)) user bytes h = refused_place user bytes at (sym h)
answer_place (Err NoMemory) user bytes h = tt
