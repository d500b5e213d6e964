-- Facts that are true without a condition are so under one: a test, or how a run ended.
use Rattle.std.proofs.Common.{ℕ, Bool, true, false, ◌&&◌, ◌||◌, Option, Some, None, List, IsTrue, IfSome, sym, true≢false}
use Rattle.std.specs.Bool.{OnTrue, OnFalse}
use Rattle.acl_outcome.specs.Ends.{Object, keys, input, store, out, note, End, done, no_memory, usage, fault, stopped, refused, is_same}
use Rattle.acl_run.specs.Steps.{Question, may_refuse, OrNoMemory, OrFaultOf, OrRefusalOf}
use Rattle.acl_run.specs.WrittenTexts.{WhereWhole}

-- ---- tests

pub on_true : (b : Bool) {P : Type 0} → P → OnTrue b P
on_true true p = p
on_true false p = tt

pub on_false : (b : Bool) {P : Type 0} → P → OnFalse b P
on_false true p = tt
on_false false p = p

-- nothing is claimed where the test is passed
pub on_false-true : (b : Bool) (P : Type 0) → IsTrue b → OnFalse b P
on_false-true true P h = tt
on_false-true false P h = absurd (true≢false (sym h))

-- a test of two parts, of which the second fails, is its first part
pub or_false : (b : Bool) → IsTrue (b || false) → IsTrue b
or_false true h = h
or_false false h = h

pub and_true : (b : Bool) → IsTrue (b && true) → IsTrue b
and_true true h = h
and_true false h = h

-- ---- ends

pub or_no_memory : (e : End) {P : Type 0} → P → OrNoMemory e P
or_no_memory done p = p
or_no_memory no_memory p = tt
or_no_memory usage p = p
or_no_memory (fault x) p = p
or_no_memory stopped p = p
or_no_memory (refused subject) p = p

pub or_fault_of : (x : Object) (e : End) {P : Type 0} → P → OrFaultOf x e P
or_fault_of x done p = p
or_fault_of x no_memory p = p
or_fault_of x usage p = p
or_fault_of x (fault y) p = on_false (is_same x y) p
or_fault_of x stopped p = p
or_fault_of x (refused subject) p = p

pub or_refusal_of : (question : Question) (e : End) {P : Type 0} → P → OrRefusalOf question e P
or_refusal_of question done p = p
or_refusal_of question no_memory p = p
or_refusal_of question usage p = p
or_refusal_of question (fault x) p = p
or_refusal_of question stopped p = p
or_refusal_of question (refused subject) p = on_false (may_refuse question subject) p

-- a fact under a condition may be replaced by one that it implies
pub or_no_memory_so : (e : End) (P Q : Type 0) → (P → Q) → OrNoMemory e P → OrNoMemory e Q
or_no_memory_so done P Q f p = f p
or_no_memory_so no_memory P Q f p = tt
or_no_memory_so usage P Q f p = f p
or_no_memory_so (fault x) P Q f p = f p
or_no_memory_so stopped P Q f p = f p
or_no_memory_so (refused subject) P Q f p = f p

on_false_so : (b : Bool) (P Q : Type 0) → (P → Q) → OnFalse b P → OnFalse b Q
on_false_so true P Q f p = tt
on_false_so false P Q f p = f p

pub or_fault_of_so : (x : Object) (e : End) (P Q : Type 0) → (P → Q) → OrFaultOf x e P → OrFaultOf x e Q
or_fault_of_so x done P Q f p = f p
or_fault_of_so x no_memory P Q f p = f p
or_fault_of_so x usage P Q f p = f p
or_fault_of_so x (fault y) P Q f p = on_false_so (is_same x y) P Q f p
or_fault_of_so x stopped P Q f p = f p
or_fault_of_so x (refused subject) P Q f p = f p

-- a true fact is true where the whole text was written
pub where_whole : (e : End) {P : Type 0} → P → WhereWhole e P
where_whole done p = p
where_whole no_memory p = tt
where_whole usage p = tt
where_whole (fault keys) p = tt
where_whole (fault input) p = tt
where_whole (fault store) p = tt
where_whole (fault out) p = tt
where_whole (fault note) p = p
where_whole stopped p = tt
where_whole (refused subject) p = tt

-- a fact for a whole text may be replaced by one that it implies
pub where_whole_so : (e : End) (P Q : Type 0) → (P → Q) → WhereWhole e P → WhereWhole e Q
where_whole_so done P Q f p = f p
where_whole_so no_memory P Q f p = tt
where_whole_so usage P Q f p = tt
where_whole_so (fault keys) P Q f p = tt
where_whole_so (fault input) P Q f p = tt
where_whole_so (fault store) P Q f p = tt
where_whole_so (fault out) P Q f p = tt
where_whole_so (fault note) P Q f p = f p
where_whole_so stopped P Q f p = tt
where_whole_so (refused subject) P Q f p = tt

-- ---- sources

-- a fact about all bytes of both sources is one about those that they tell
pub whatever_told : (kl ql : Option (List ℕ)) (P : List ℕ → List ℕ → Type 0) → ((a b : List ℕ) → P a b) → IfSome kl (λ a. IfSome ql (λ b. P a b))
whatever_told None ql P h = tt
whatever_told (Some a) None P h = tt
whatever_told (Some a) (Some b) P h = h a b
