-- What the exit of a command implies for its status and its streams.
use Rattle.dmremap.proofs.Prelude.{true, false, ℕ, List, Result, Ok, Err, IsErr, OnErr, OnOk, inl, inr, refl, sym, ap, subst, ◌∙◌, arith, LoadKind, InputPast, OutputPast, written_since, HasWritten, IsClosedAfter, IsFinished, IsReadOn, Wrote, finished_as, grows-same, written_none, Ending, HasMet, NameFault, Exit, Refusal, ending_status, exit_message, exit_status, failed_writes, is_flushed, is_refused, load_status, name_status, refusal_status, AskedBy, EndsAs, Exits, IsClosedAs, MessagesTold, OutputWritten, RequestsRead, STATUS_BAD_REQUEST, STATUS_DONE, STATUS_MEMORY, STATUS_READ_FAULT, STATUS_REFUSED, STATUS_WRITE_FAULT}
use Rattle.dm_table.specs.declared.load.load_fault.LoadKind.TheVariants as kinds
use Rattle.dm_stream.specs.declared.runs.ending.Ending.TheVariants as endings
use Rattle.dm_stream.specs.declared.runs.ending.RequestWord.TheVariants as words
use Rattle.lvm_volume.specs.declared.fault.NameFault.TheVariants as names
use Rattle.dmremap.specs.declared.exit.Exit.TheVariants as exits
use Rattle.dmremap.specs.declared.exit.Refusal.TheVariants as refusals
use Rattle.std.specs.Prelude.{◌≡◌, ◌≢◌, ◌≤◌, ◌⊎◌, ◌+◌}

-- ---- the status

-- the status of a refusal is STATUS_REFUSED or STATUS_MEMORY
abbrev pub IsOfTwo : ℕ → Type 0
IsOfTwo status = (status ≡ STATUS_REFUSED) ⊎ (status ≡ STATUS_MEMORY)

of_kind : (kind : LoadKind) → IsOfTwo (load_status kind)
of_kind kinds.Memory = inr refl
of_kind kind = inl refl

of_name : (fault : NameFault) → IsOfTwo (name_status fault)
of_name names.Memory = inr refl
of_name fault = inl refl

pub of_refusal : (refusal : Refusal) → IsOfTwo (refusal_status refusal)
of_refusal (refusals.Load fault) = of_kind fault.kind
of_refusal (refusals.Name fault) = of_name fault
of_refusal refusal = inl refl

-- the status of a refusal is no other than these two
of_two : (status other : ℕ) → IsOfTwo status → status ≡ other → (STATUS_REFUSED ≡ other → ⊥) → (STATUS_MEMORY ≡ other → ⊥) → ⊥
of_two status other (inl refused) is a b = a (sym refused ∙ is)
of_two status other (inr memory) is a b = b (sym memory ∙ is)

pub no_write_fault : (refusal : Refusal) → refusal_status refusal ≡ STATUS_WRITE_FAULT → ⊥
no_write_fault refusal is = of_two _ STATUS_WRITE_FAULT (of_refusal refusal) is (λ e. omega (arith, e)) (λ e. omega (arith, e))

-- only a write fault exits with STATUS_WRITE_FAULT
pub write_fault_is : (exit : Exit) → exit_status exit ≡ STATUS_WRITE_FAULT → exit ≡ exits.Ended endings.WriteFault
write_fault_is (exits.Refused refusal) five = absurd (no_write_fault refusal five)
write_fault_is (exits.Ended endings.WriteFault) five = refl
write_fault_is exit five = absurd (omega (arith, five))

-- the message of an exit is one that its status allows
pub exits_told : {exit : Exit} {result : ℕ} {old new : OutputPast} → Exits exit result old new → MessagesTold result old new
exits_told {exit = exit} is = record { message = exit_message exit; told = is.told; write_message = λ five. ap exit_message (write_fault_is exit (sym is.is ∙ five)) }

-- the status is STATUS_MEMORY only if memory ran out
pub kind_memory : (kind : LoadKind) → load_status kind ≡ STATUS_MEMORY → kind ≡ kinds.Memory
kind_memory kinds.Memory six = refl
kind_memory kind six = absurd (omega (arith, six))

-- ---- an output before it is closed

-- an output without a failed write satisfies `IsFinished`
finished_well : (old new : OutputPast) (HasFailed : Type 0) → HasWritten old new 0 → (HasFailed → ⊥) → IsFinished old new HasFailed
finished_well old new HasFailed moved well = record {
  appends = moved.appends;
  write_fault = (λ less. absurd (omega (arith, less, moved.fails)), λ failed. absurd (well failed));
  grows = omega (arith, moved.fails);
  fails_once = omega (arith, moved.fails);
  once = omega (arith, moved.unflushed);
  still_waiting = λ failed. absurd (well failed);
}

-- the output of a refused command to which no write failed
pub written_refused : (old new : OutputPast) (refusal : Refusal) → HasWritten old new 0 → OutputWritten (refusal_status refusal) old new
written_refused old new refusal moved = record {
  finished = finished_well old new _ moved (no_write_fault refusal);
  flushed = λ one five six. absurd (elim (of_refusal refusal) [ inl refused ↦ one refused | inr memory ↦ six memory ]);
  refused = λ one. moved.unflushed;
}

-- the output of a refused command that never touched it
pub refused_output : (x : OutputPast) (refusal : Refusal) (status : ℕ) → status ≡ refusal_status refusal → OutputWritten status x x
refused_output x refusal status is =
    rw is (written_refused x x refusal (written_none x))

-- the output after a failed write
written_failed : (old new : OutputPast) → HasWritten old new 1 → OutputWritten STATUS_WRITE_FAULT old new
written_failed old new moved = record {
  finished = record {
    appends = moved.appends;
    write_fault = (λ less. refl, λ failed. omega (arith, moved.fails));
    grows = omega (arith, moved.fails);
    fails_once = omega (arith, moved.fails);
    once = omega (arith, moved.unflushed);
    still_waiting = λ failed more. absurd (omega (arith, more, moved.unflushed));
  };
  flushed = λ one five six. absurd (five refl);
  refused = λ one. absurd (omega (arith, one));
}

-- ---- an output that was closed

-- the output is flushed if the command was not refused and no write failed
flushes_so : (exit : Exit) → is_refused exit ≡ false → exit ≢ exits.Ended endings.WriteFault → is_flushed exit ≡ true
flushes_so (exits.Refused refusal) going other = cc
flushes_so (exits.Ended endings.WriteFault) going other = absurd (other refl)
flushes_so exit going other = refl

failed_none : (exit : Exit) → exit ≢ exits.Ended endings.WriteFault → failed_writes exit ≡ 0
failed_none (exits.Ended endings.WriteFault) other = absurd (other refl)
failed_none exit other = refl

never_refused : (exit : Exit) → is_refused exit ≡ false → exit_status exit ≡ STATUS_REFUSED → ⊥
never_refused (exits.Refused refusal) going one = absurd cc
never_refused (exits.Ended endings.Done) going one = omega (arith, one)
never_refused exit going one = omega (arith, one)

-- without a failed write, what a command wrote is its whole text
wrote_so : {E : Type 0} (start mid : OutputPast) (exit : Exit) → exit ≢ exits.Ended endings.WriteFault → HasWritten start mid (failed_writes exit)
    → Wrote {E = E} start mid (Ok tt) (written_since start mid)
wrote_so start mid exit other moved = record {
  moved = rw (← failed_none exit other) moved;
  ok = refl;
  left = tt;
}

-- all of the text was written, and the flush succeeded
pub closed_well : {E : Type 0} (Same : Type 0) (exit : Exit) (old new : OutputPast) (wrote : Result (Unit {0}) E) → is_refused exit ≡ false → OnOk wrote (exit ≢ exits.Ended endings.WriteFault)
    → OnErr wrote (IsErr {T = Unit {0}} {E = E} (Ok tt) × Same) → new.written ≡ old.written
    → ((start : OutputPast) (text : List ℕ) → Wrote start old wrote text → IsClosedAfter start new (IsErr {T = Unit {0}} {E = E} (Ok tt)) text)
    → IsClosedAs exit old new exit
closed_well {E = E} Same exit old new (Ok done) going other untouched bytes closes =
    let closed = λ (start : _) (moved : HasWritten start old (failed_writes exit)). closes start (written_since start old) (wrote_so start old exit other moved) in
    record {
      bytes = bytes;
      ends = inl (refl, λ shut. let open_still = flushes_so exit going other in absurd cc);
      untouched = λ refused. absurd cc;
      output = λ start moved. record {
        finished = finished_as (IsErr {T = Unit {0}} {E = E} (Ok tt)) (exit_status exit ≡ STATUS_WRITE_FAULT) (λ err. absurd cc) (λ five. absurd (other (write_fault_is exit five))) (closed start moved).finished;
        flushed = λ one five six. ((closed start moved).whole (λ err. absurd cc)).1;
        refused = λ one. absurd (never_refused exit going one);
      };
      flushed = λ flag start moved. ((closed start moved).whole (λ err. absurd cc)).1;
    }
closed_well Same exit old new (Err fault) going other untouched bytes closes = let err = untouched.0 in absurd cc

-- a write failed before the output was closed, or the flush failed
pub closed_failed : {X E : Type 0} (past : X → OutputPast) (exit : Exit) (old new : X) (fault : E) (wrote : Result (Unit {0}) E) → is_refused exit ≡ false → OnOk wrote (exit ≢ exits.Ended endings.WriteFault) → OnErr wrote (exit ≡ exits.Ended endings.WriteFault)
    → OnErr wrote (IsErr {T = Unit {0}} (Err fault) × (new ≡ old)) → OnOk wrote ((past new).flushes ≡ (past old).flushes + 1) → (past new).written ≡ (past old).written
    → ((start : OutputPast) (text : List ℕ) → Wrote start (past old) wrote text → IsClosedAfter start (past new) (IsErr {T = Unit {0}} (Err fault)) text)
    → IsClosedAs exit (past old) (past new) (exits.Ended endings.WriteFault)
closed_failed past exit old new fault (Ok done) going other is untouched more bytes closes = record {
  bytes = bytes;
  ends = inr (refl, flushes_so exit going other, more);
  untouched = λ refused. absurd cc;
  output = λ start moved. record {
    finished = finished_as _ _ (λ err. refl) (λ five. refl) (closes start (written_since start (past old)) (wrote_so start (past old) exit other moved)).finished;
    flushed = λ one five six. absurd (five refl);
    refused = λ one. absurd (omega (arith, one));
  };
  flushed = λ flag start moved. absurd cc;
}
closed_failed past exit old new fault (Err before) going other is untouched more bytes closes = record {
  bytes = bytes;
  ends = inl (sym is, λ shut. cc);
  untouched = λ refused. absurd cc;
  output = λ start moved. written_failed start (past new) (rw untouched.1 (subst (λ (e : Exit). HasWritten start (past old) (failed_writes e)) is moved));
  flushed = λ flag start moved. absurd cc;
}

-- ---- how the requests were read

-- the exit status determines the ending of a run
zero_is : (ending : Ending) → ending_status ending ≡ STATUS_DONE → ending ≡ endings.Done
zero_is endings.Done zero = refl
zero_is ending zero = absurd (omega (arith, zero))

four_is : (ending : Ending) → ending_status ending ≡ STATUS_READ_FAULT → ending ≡ endings.ReadFault
four_is endings.ReadFault four = refl
four_is ending four = absurd (omega (arith, four))

-- no read failed if a run ends at a bad request
three_met : (old new : InputPast) (ending : Ending) → ending_status ending ≡ STATUS_BAD_REQUEST → HasMet ending old new → new.faults ≤ old.faults
three_met old new (endings.BadRequest number words.Unended) three met = met
three_met old new (endings.BadRequest number word) three met = omega (arith, met.0)
three_met old new ending three met = absurd (omega (arith, three))

pub never_one : (ending : Ending) → ending_status ending ≡ STATUS_REFUSED → ⊥
never_one ending one = never_refused (exits.Ended ending) refl one

-- what the ending of a run implies about how its requests were read
pub ran_requests : (ending : Ending) (status : ℕ) (old new : InputPast) → status ≡ ending_status ending → IsReadOn old new
    → HasMet ending old new → RequestsRead status old new
ran_requests ending status old new is read_on met = record {
  read_on = read_on;
  read_fault = λ four. rw (four_is ending (sym is ∙ four)) at met;
  no_fault = λ zero. rw (zero_is ending (sym is ∙ zero)) at met;
  bad_line = λ three. three_met old new ending (sym is ∙ three) met;
  unasked = λ one. absurd (never_one ending (sym is ∙ one));
}

-- no ending of a run has the status STATUS_MEMORY
pub never_memory : (ending : Ending) → ending_status ending ≡ STATUS_MEMORY → ⊥
never_memory endings.Done six = omega (arith, six)
never_memory ending six = omega (arith, six)

-- how requests were read by a refused command that reads none
pub unasked_requests : (refusal : Refusal) (status : ℕ) (old new : InputPast) → status ≡ refusal_status refusal → IsReadOn old new → new ≡ old → RequestsRead status old new
unasked_requests refusal status old new is read_on same = record {
  read_on = read_on;
  read_fault = λ four. absurd (of_two _ STATUS_READ_FAULT (of_refusal refusal) (sym is ∙ four) (λ e. omega (arith, e)) (λ e. omega (arith, e)));
  no_fault = λ _. omega (arith, ap (λ (past : InputPast). past.faults) same);
  bad_line = λ _. omega (arith, ap (λ (past : InputPast). past.faults) same);
  unasked = λ _. same;
}

-- what the exit before the output was closed implies about how requests were read
asked_read : (old new : InputPast) (exit : Exit) → AskedBy old new exit → RequestsRead (exit_status exit) old new
asked_read old new (exits.Refused refusal) asked = unasked_requests refusal _ old new refl asked.read_on (asked.unasked refl)
asked_read old new (exits.Ended ending) asked = ran_requests ending _ old new refl asked.read_on asked.met
asked_read old new (exits.NotTop number) asked = record {
  read_on = asked.read_on;
  read_fault = λ four. absurd (omega (arith, four));
  no_fault = λ zero. absurd (omega (arith, zero));
  bad_line = λ _. let same = asked.met.0 in omega (arith, same);
  unasked = λ one. absurd (omega (arith, one));
}
asked_read old new exits.Memory asked = record {
  read_on = asked.read_on;
  read_fault = λ four. absurd (omega (arith, four));
  no_fault = λ zero. absurd (omega (arith, zero));
  bad_line = λ three. absurd (omega (arith, three));
  unasked = λ one. absurd (omega (arith, one));
}
asked_read old new (exits.Stopped stop) asked = record {
  read_on = asked.read_on;
  read_fault = λ four. absurd (omega (arith, four));
  no_fault = λ zero. absurd (omega (arith, zero));
  bad_line = λ three. absurd (omega (arith, three));
  unasked = λ one. absurd (omega (arith, one));
}

-- what the exit after the output was closed, perhaps with a failed flush, implies about how requests were read
pub closed_requests : (old new : InputPast) (before after : Exit) (f0 f1 status : ℕ) → EndsAs before f0 f1 after → AskedBy old new before → status ≡ exit_status after → RequestsRead status old new
closed_requests old new before after f0 f1 status ends_so asked is =
    rw is (go ends_so)
  where
    go : EndsAs before f0 f1 after → RequestsRead (exit_status after) old new
    go (inl (same, shut)) = subst (λ (e : Exit). RequestsRead (exit_status e) old new) (sym same) (asked_read old new before asked)
    go (inr (failed, flag, more)) = rw failed (ran_requests endings.WriteFault _ old new refl asked.read_on tt)

-- an input that was not read satisfies `IsReadOn`
pub read_on_none : (x : InputPast) → IsReadOn x x
read_on_none x = record { grows = grows-same x.handed x.handed; no_more = omega arith }
