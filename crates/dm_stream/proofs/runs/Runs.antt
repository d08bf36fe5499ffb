-- What the requests mapped so far imply for the outcome of a run.
use Rattle.dm_stream.proofs.Prelude.{ap, arith, ℕ, Bool, List, [], Option, Some, Result, Ok, Err, IsErr, OnErr, OnOk, ◌∙◌, refl, append-nil, Delivery, InputPast, OutputPast, since, written_since, Description, MapperView, HasAnswered, HasStopped, Outcome, if_done, outcome_from, requests_outcome, with_status, HasWritten, IsClosedAfter, MetNothing, Wrote, closed_as, status_text, HasMet, IsAmong, NumberedRequest, requests_of, HasRun, IsMapped, ending_for, write_faults, State, Ending, WriteFault}
use Rattle.dm_stream.proofs.runs.RequestMapped.{cut_of_more}
use Rattle.dm_stream.specs.declared.runs.ending.NotMapped.{NotMapped}
use Rattle.dm_stream.specs.declared.runs.ending.NotMapped.TheVariants as causes
use Rattle.std.specs.Prelude.{◌≡◌, ◌≢◌, ◌<◌, ◌++◌}

-- all requests were answered, and the ending is their own
pub all_mapped : (stack : Description) (old new : State) (delivered : Delivery) (w0 w1 : List ℕ) (e : Ending) → HasAnswered stack old new (requests_of delivered).all w0 w1 → (requests_of delivered).ending ≡ Some e → e ≢ WriteFault
    → IsMapped (requests_outcome stack old delivered) (since w0 w1) new e
all_mapped stack old new delivered w0 w1 e answered ends no_fault =
    let requests = requests_of delivered in
    let whole : requests_outcome stack old delivered ≡ record { output = since w0 w1; state = new; ending = Some e } =
    cc (append-nil requests.all, answered.told [] requests.ending, append-nil (since w0 w1)) in
    record {
      whole = λ n. (cc, cc, cc);
      cut = λ is. absurd (no_fault is);
    }

-- the mapping stopped at one of the requests
stopped_at : (stack : Description) (fault : NotMapped) (old : State) (new : MapperView) (first later : List NumberedRequest) (e : Option Ending) (w0 w1 : List ℕ) → HasStopped stack fault old new first w0 w1
    → IsMapped (outcome_from stack old (first ++ later) e) (since w0 w1) new.state (ending_for fault)
stopped_at stack (causes.Unknown number) old new first later e w0 w1 stopped =
    let whole = stopped.1 later e in
    record {
      whole = λ n. (cc, cc, cc);
      cut = λ is. absurd cc;
    }
stopped_at stack causes.Output old new first later e w0 w1 stopped = record {
  whole = λ n. absurd (n refl);
  cut = λ is. stopped later e;
}

pub part_mapped : (stack : Description) (fault : NotMapped) (e : Ending) (old : State) (new : MapperView) (delivered : Delivery) (w0 w1 : List ℕ) (Stopped : List NumberedRequest → Type 0) → e ≡ ending_for fault
    → ((first : List NumberedRequest) → Stopped first → HasStopped stack fault old new first w0 w1) → IsAmong Stopped (requests_of delivered).all
    → IsMapped (requests_outcome stack old delivered) (since w0 w1) new.state e
part_mapped stack fault e old new delivered w0 w1 Stopped ends stopped among =
    let requests = requests_of delivered in
    rw (ends, among.is) (stopped_at stack fault old new among.first among.later requests.ending w0 w1 (stopped among.first among.holds))

-- nothing more is read after the request at which the mapping stopped
pub stopped_met : (old new : InputPast) (fault : NotMapped) (e : Ending) → e ≡ ending_for fault → MetNothing old new → HasMet e old new
stopped_met old new (causes.Unknown number) e is met = rw is met
stopped_met old new causes.Output e is met = rw is tt

-- ---- what follows the answers

-- a failed write among the answers cuts the whole output short
pub rest_cut : {E : Type 0} (fault : E) (old new : OutputPast) (stack : Description) (status : Bool) (outcome : Outcome) (left : State) (e : Ending) → e ≡ WriteFault
    → HasWritten old new (write_faults e) → IsMapped outcome (written_since old new) left e → Wrote old new (Err fault) (with_status stack status outcome).output
rest_cut fault old new stack status outcome left e is moved mapped = record {
  moved = rw is at moved;
  ok = tt;
  left = cut_of_more outcome.output (written_since old new) (if_done status outcome.ending (status_text stack outcome.state)) (mapped.cut is);
}

-- ---- the end of a run

-- an output that was closed without a fault was flushed
pub closed_after : {E : Type 0} (wrote : Result (Unit {0}) E) (P Q : Type 0) → OnErr wrote (IsErr {T = Unit {0}} {E = E} (Ok tt) × Q) → OnOk wrote P → P
closed_after (Ok done) P Q failed fact = fact
closed_after (Err fault) P Q failed fact = let err = failed.0 in absurd cc

-- a run that wrote everything and flushed it
pub ran_whole : (E : Type 0) (old new : OutputPast) (stack : Description) (status : Bool) (outcome : Outcome) (text : List ℕ) (left after : State) (e : Ending) → e ≢ WriteFault → after ≡ left
    → IsMapped outcome text left e → IsClosedAfter old new (IsErr {T = Unit {0}} {E = E} (Ok tt)) (with_status stack status outcome).output → HasRun old new (with_status stack status outcome) after e
ran_whole E old new stack status outcome text left after e no_fault same mapped closed =
    let whole = mapped.whole no_fault in
    record {
      output = closed_as (IsErr {T = Unit {0}} {E = E} (Ok tt)) (e ≡ WriteFault) (λ err. absurd cc) (λ is. absurd (no_fault is)) closed;
      ends = λ n. (whole.1, same ∙ whole.2);
      settled = λ more. (e, whole.1);
    }

-- if the output was flushed, no write had failed, so all requests were answered
settled_by : {E X : Type 0} → (past : X → OutputPast) (start : OutputPast) (mid new : X) (wrote : Result (Unit {0}) E) (Q : Type 0) (outcome : Outcome) (text : List ℕ) (left : State) (e : Ending) → OnOk wrote (e ≢ WriteFault) → OnErr wrote (Q × (new ≡ mid))
    → (past mid).flushes ≡ start.flushes → IsMapped outcome text left e → start.flushes < (past new).flushes → (last : Ending) × (outcome.ending ≡ Some last)
settled_by past start mid new (Ok done) Q outcome text left e no_fault untouched same mapped more = (e, (mapped.whole no_fault).1)
settled_by past start mid new (Err fault) Q outcome text left e no_fault untouched same mapped more =
    let kept : (past new).flushes ≡ (past mid).flushes = ap (λ (x : _). (past x).flushes) untouched.1 in
    absurd (omega (arith, kept, same, more))

-- a run whose output failed
pub ran_failed : {E X : Type 0} → (past : X → OutputPast) (start : OutputPast) (mid new : X) (wrote : Result (Unit {0}) E) (fault : E) (Q : Type 0) (stack : Description) (status : Bool) (outcome : Outcome) (text : List ℕ) (left after : State) (e : Ending)
    → OnOk wrote (e ≢ WriteFault) → OnErr wrote (Q × (new ≡ mid)) → Wrote start (past mid) wrote (with_status stack status outcome).output → IsMapped outcome text left e
    → IsClosedAfter start (past new) (IsErr {T = Unit {0}} (Err fault)) (with_status stack status outcome).output → HasRun start (past new) (with_status stack status outcome) after WriteFault
ran_failed past start mid new wrote fault Q stack status outcome text left after e no_fault untouched done mapped closed = record {
  output = closed_as _ _ (λ err. refl) (λ is. refl) closed;
  ends = λ other. absurd (other refl);
  settled = settled_by past start mid new wrote Q outcome text left e no_fault untouched done.moved.unflushed mapped;
}
