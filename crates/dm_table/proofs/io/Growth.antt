-- Lemmas about lists that only grow, in terms of what is new.
use Rattle.dm_table.proofs.Prelude.{Ok, Err, [], ℕ, List, length, take, drop, sym, ap, ◌∙◌, add-zero, append_assoc, take-append-drop, arith, take-add, take_rest, append-nil, drop-drop, length-drop, OutFault, OutputPast, after_write, since, with_fault, HasWritten, Wrote, IsBeginning, IsCutShort, since_is}
use Rattle.dm_table.proofs.io.Portions.{rest_after}
use Rattle.std.specs.Prelude.{◌∷◌, ◌≡◌, ◌<◌, ◌≤◌, ◌+◌, ◌-◌, ◌++◌}

-- a list to which nothing was appended has no new part
pub quiet_since : (old new held : List ℕ) → new ≡ old ++ [] → held ≡ held ++ since old new
quiet_since old new held e = rw (since_is old new [] e) (sym (append-nil held))

-- if a list grew by the first bytes of a text, its new part is a prefix of the text
pub front_beginning : (old new bytes : List ℕ) (at : ℕ) → new ≡ old ++ take at bytes → IsBeginning bytes (since old new)
front_beginning old new bytes at e =
    (drop at bytes, cc (take-append-drop at bytes, since_is old new (take at bytes) e))

-- if a list grew by the first bytes of a text and others are left, its new part is a proper prefix of the text
pub front_cut : (old new bytes rest : List ℕ) (at : ℕ) → new ≡ old ++ take at bytes → rest ≡ drop at bytes → 0 < length rest → IsCutShort bytes (since old new)
front_cut old new bytes [] at e is some = absurd (omega (arith, some))
front_cut old new bytes (byte ∷ more) at e is some = (
  byte,
  more,
  cc (take-append-drop at bytes, since_is old new (take at bytes) e),
)

-- how many bytes come before `rest`, which is the end of `bytes`
abbrev pub before : List ℕ → List ℕ → ℕ
before bytes rest = length bytes - length rest

rest_after_len : (rest : List ℕ) (n : ℕ) → length (rest_after rest n) ≡ length rest - n
rest_after_len rest n = ap length (take_rest rest n) ∙ length-drop n rest

pub rest_after_within : (bytes rest : List ℕ) (n : ℕ) → length rest ≤ length bytes → length (rest_after rest n) ≤ length bytes
rest_after_within bytes rest n within = let len = rest_after_len rest n in omega (arith, len, within)

before_rest_after : (bytes rest : List ℕ) (n : ℕ) → length rest ≤ length bytes → n ≤ length rest → before bytes (rest_after rest n) ≡ before bytes rest + n
before_rest_after bytes rest n within few = let len = rest_after_len rest n in omega (arith, len, within, few)

-- after a write of n bytes, `rest` is still what comes after the bytes before it
pub rest_step : (bytes rest : List ℕ) (n : ℕ) → length rest ≤ length bytes → n ≤ length rest → rest ≡ drop (before bytes rest) bytes → rest_after rest n ≡ drop (before bytes (rest_after rest n)) bytes
rest_step bytes rest n within few is =
    rw (before_rest_after bytes rest n within few) (take_rest rest n ∙ ap (drop n) is ∙ drop-drop n (before bytes rest) bytes)

-- after a write of n bytes, all bytes before the new rest have been written
pub write_step : (old mid new bytes rest : List ℕ) (n : ℕ) → length rest ≤ length bytes → n ≤ length rest → rest ≡ drop (before bytes rest) bytes → mid ≡ old ++ take (before bytes rest) bytes → new ≡ mid ++ take n rest → new ≡ old ++ take (before bytes (rest_after rest n)) bytes
write_step old mid new bytes rest n within few is e f =
    let at = before bytes rest in
    rw (before_rest_after, take-add, ← append_assoc, ← e, ← is) f

-- an output accepted the bytes before `rest`, and nothing failed
abbrev pub IsSent : (old new : OutputPast) (bytes rest : List ℕ) → Type 0
IsSent old new bytes rest =
    let at = before bytes rest in
    record {
      within : length rest ≤ length bytes;
      rest : rest ≡ drop at bytes;
      written : new.written ≡ old.written ++ take at bytes;
      waiting : new.waiting ≡ old.waiting ++ take at bytes;
      faults : new.faults ≡ old.faults;
      flushes : new.flushes ≡ old.flushes;
    }

-- IsSent still holds after a write that accepted n bytes
pub sent_further : (old mid new : OutputPast) (bytes rest : List ℕ) (n : ℕ) → IsSent old mid bytes rest → n ≤ length rest → new ≡ after_write {E = OutFault} mid (Ok n) rest
    → IsSent old new bytes (rest_after rest n)
sent_further old mid new bytes rest n so_far few is = record {
  within = rest_after_within bytes rest n so_far.within;
  rest = rest_step bytes rest n so_far.within few so_far.rest;
  written = write_step _ _ _ bytes rest n so_far.within few so_far.rest so_far.written (cc);
  waiting = write_step _ _ _ bytes rest n so_far.within few so_far.rest so_far.waiting (cc);
  faults = rw is (add-zero _ ∙ so_far.faults);
  flushes = rw is so_far.flushes;
}

-- an output's change from its parts: bytes appended, all of them waiting, `failed` faults, no flush
sent_moved : (old new : OutputPast) (sent : List ℕ) (failed : ℕ) → new.written ≡ old.written ++ sent → new.waiting ≡ old.waiting ++ sent → new.faults ≡ old.faults + failed → new.flushes ≡ old.flushes
    → HasWritten old new failed
sent_moved old new sent failed more held fails flushed =
    let is = sym (since_is old.written new.written sent more) in
    record { appends = rw (← is) more; waits = rw (← is) held; fails = fails; unflushed = flushed }

-- if no bytes are left, all of the text was written
pub sent_whole : {E : Type 0} (old new : OutputPast) (bytes rest : List ℕ) → IsSent old new bytes rest → length rest ≡ 0
    → Wrote {E = E} old new (Ok tt) bytes
sent_whole old new bytes [] so_far none =
    let all : take (before bytes []) bytes ≡ bytes = cc (append-nil _, take-append-drop (before bytes []) bytes) in
    record {
      moved = sent_moved old new (take (before bytes []) bytes) 0 so_far.written so_far.waiting (so_far.faults ∙ sym (add-zero _)) so_far.flushes;
      ok = since_is old.written new.written _ so_far.written ∙ all;
      left = tt;
    }
sent_whole old new bytes (byte ∷ more) so_far none = absurd (omega (arith, none))

-- if a write fails while bytes are left, a proper prefix of the text was written
pub sent_cut : {E : Type 0} (old mid new : OutputPast) (fault : E) (bytes rest : List ℕ) → IsSent old mid bytes rest → 0 < length rest → new ≡ after_write mid (Err fault) rest → Wrote old new (Err fault) bytes
sent_cut old mid new fault bytes rest so_far some is =
    let at = before bytes rest in
    let more : new.written ≡ old.written ++ take at bytes = rw (is, append-nil) so_far.written in
    record {
      moved =
          sent_moved old new (take at bytes) 1 more (cc (append-nil _))
          (cc) (cc);
      ok = tt;
      left = front_cut old.written new.written bytes rest at more so_far.rest some;
    }

-- if a write fails before any byte, the empty prefix of the text was written
pub wrote_nothing : {E : Type 0} (old new : OutputPast) (fault : E) (text : List ℕ) → 0 < length text → new ≡ with_fault {T = Unit {0}} old (Err fault) → Wrote old new (Err fault) text
wrote_nothing old new fault [] some is = absurd (omega (arith, some))
wrote_nothing old new fault (byte ∷ rest) some is =
    let more : new.written ≡ old.written ++ [] = rw (is, append-nil) in
    record {
      moved =
          sent_moved old new [] 1 more (rw (is, append-nil))
          (cc) (cc);
      ok = tt;
      left = (byte, rest, cc (since_is old.written new.written [] more));
    }
