-- Laws about the progress of inputs and outputs, chiefly how two steps combine into one.
use Rattle.dm_table.specs.Base.{ℕ, List, [], length, drop, MutBor, sym, ap, ◌∙◌, refl, append_assoc, append-nil, add-zero}
use Rattle.std.proofs.Math.Seq.{drop-append_seam}
use Rattle.dm_table.specs.io.DeviceIo.{InputPast, OutputPast, since}
use Rattle.dm_table.specs.io.Progress.{HasWritten, HasWrittenTo, IsClosedAfter, IsFinished}
use Rattle.std.specs.Prelude.{◌≡◌, ◌+◌, ◌∷◌, ◌++◌}

-- if `more` is appended to a list, the new part of the list is `more`
pub since_is : (old new more : List ℕ) → new ≡ old ++ more → since old new ≡ more
since_is old new more e = ap (drop (length old)) e ∙ drop-append_seam old more

-- if a list grew twice, its new part is the first new part followed by the second
pub since_more : (old mid new : List ℕ) → mid ≡ old ++ since old mid → new ≡ mid ++ since mid new → since old new ≡ since old mid ++ since mid new
since_more old mid new e f =
    since_is old new (since old mid ++ since mid new) (f ∙ ap (λ xs. xs ++ since mid new) e ∙ append_assoc old (since old mid) (since mid new))

-- a list that grew twice has grown from its first state
pub grows_more : (old mid new : List ℕ) → mid ≡ old ++ since old mid → new ≡ mid ++ since mid new → new ≡ old ++ since old new
grows_more old mid new e f =
    f ∙ ap (λ xs. xs ++ since mid new) e ∙ append_assoc old (since old mid) (since mid new) ∙ ap (λ xs. old ++ xs) (sym (since_more old mid new e f))

-- the new part of an unchanged list is empty
pub since-same : (xs : List ℕ) → since xs xs ≡ []
since-same [] = refl
since-same (x ∷ xs) = since-same xs

pub grows-same : (xs ys : List ℕ) → ys ≡ ys ++ since xs xs
grows-same xs ys = sym (append-nil ys) ∙ ap (λ (zs : List ℕ). ys ++ zs) (sym (since-same xs))

-- an input's history, built from its three fields
abbrev input_as : (handed : List ℕ) (faults ends : ℕ) → InputPast
input_as handed faults ends = record { handed = handed; faults = faults; ends = ends }

-- an output's history, built from its four fields
abbrev output_as : (written waiting : List ℕ) (faults flushes : ℕ) → OutputPast
output_as written waiting faults flushes = record { written = written; waiting = waiting; faults = faults; flushes = flushes }

-- two output histories with equal fields are equal
pub same_output : (a b : OutputPast) → a.written ≡ b.written → a.waiting ≡ b.waiting → a.faults ≡ b.faults → a.flushes ≡ b.flushes → a ≡ b
same_output a b written waiting faults flushes =
    ap (λ (x : List ℕ). output_as x a.waiting a.faults a.flushes) written ∙ ap (λ (x : List ℕ). output_as b.written x a.faults a.flushes) waiting
    ∙ ap (λ (x : ℕ). output_as b.written b.waiting x a.flushes) faults ∙ ap (λ (x : ℕ). output_as b.written b.waiting b.faults x) flushes

-- two input histories with equal fields are equal
pub same_input : (a b : InputPast) → a.handed ≡ b.handed → a.faults ≡ b.faults → a.ends ≡ b.ends → a ≡ b
same_input a b handed faults ends =
    ap (λ (x : List ℕ). input_as x a.faults a.ends) handed ∙ ap (λ (x : ℕ). input_as b.handed x a.ends) faults ∙ ap (λ (x : ℕ). input_as b.handed b.faults x) ends

pub written_none : (x : OutputPast) → HasWritten x x 0
written_none x = record {
  appends = grows-same x.written x.written;
  waits = grows-same x.written x.waiting;
  fails = sym (add-zero x.faults);
  unflushed = refl;
}

-- if each of two steps adds to the unflushed bytes what it writes, both together add all that was written
waits_more : (w0 w1 w2 v0 v1 v2 : List ℕ) → w1 ≡ w0 ++ since w0 w1 → w2 ≡ w1 ++ since w1 w2 → v1 ≡ v0 ++ since w0 w1 → v2 ≡ v1 ++ since w1 w2 → v2 ≡ v0 ++ since w0 w2
waits_more w0 w1 w2 v0 v1 v2 e f g h =
    h ∙ ap (λ (xs : List ℕ). xs ++ since w1 w2) g ∙ append_assoc v0 (since w0 w1) (since w1 w2) ∙ ap (λ (xs : List ℕ). v0 ++ xs) (sym (since_more w0 w1 w2 e f))

-- a step without a fault followed by a step with `failed` failed writes is, taken together, a step with `failed` failed writes
pub written_more : (a b c : OutputPast) (failed : ℕ) → HasWritten a b 0 → HasWritten b c failed → HasWritten a c failed
written_more a b c failed first second = record {
  appends = grows_more a.written b.written c.written first.appends second.appends;
  waits = waits_more a.written b.written c.written a.waiting b.waiting c.waiting first.appends second.appends first.waits second.waits;
  fails = second.fails ∙ ap (λ (n : ℕ). n + failed) (first.fails ∙ add-zero a.faults);
  unflushed = second.unflushed ∙ first.unflushed;
}

-- ---- what an output behind a mutable reference accepted

pub written_to_none : {X : Type 0} (past : X → OutputPast) (x : MutBor X) → HasWrittenTo past x x 0
written_to_none past x = record { moved = written_none (past x.now); same_reference = refl }

pub written_to_more : {X : Type 0} (past : X → OutputPast) (a b c : MutBor X) (failed : ℕ) → HasWrittenTo past a b 0 → HasWrittenTo past b c failed → HasWrittenTo past a c failed
written_to_more past a b c failed first second = record {
  moved = written_more (past a.now) (past b.now) (past c.now) failed first.moved second.moved;
  same_reference = second.same_reference ∙ first.same_reference;
}

-- ---- outputs that are finished

-- in IsFinished, the condition under which a write or flush failed may be replaced by an equivalent one
pub finished_as : {old new : OutputPast} (P Q : Type 0) → (P → Q) → (Q → P) → IsFinished old new P → IsFinished old new Q
finished_as P Q there back finished = record {
  appends = finished.appends;
  write_fault = (λ more. there (finished.write_fault.0 more), λ failed. finished.write_fault.1 (back failed));
  grows = finished.grows;
  fails_once = finished.fails_once;
  once = finished.once;
  still_waiting = λ failed. finished.still_waiting (back failed);
}

pub closed_as : {old new : OutputPast} {text : List ℕ} (P Q : Type 0) → (P → Q) → (Q → P) → IsClosedAfter old new P text → IsClosedAfter old new Q text
closed_as P Q there back closed = record {
  finished = finished_as P Q there back closed.finished;
  whole = λ well. closed.whole (λ failed. well (there failed));
  failed = λ failed. closed.failed (back failed);
}
