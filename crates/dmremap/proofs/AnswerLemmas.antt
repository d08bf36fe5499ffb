-- What the exit of a command implies for its answer.
use Rattle.dmremap.proofs.Prelude.{true, false, ℕ, List, [], Option, Some, None, Err, arith, inl, inr, refl, sym, ap, subst, ◌∙◌, append-nil, LoadFault, LoadKind, Delivery, InputPast, OutputPast, delivery, written_since, HasWritten, since-same, written_none, IsCutShort, kind_message, load_message, memory_message, Description, NameFault, Answer, Answers, End, Failed, OutOfMemory, Tells, Told, Writes, end_of, refused_by, Does, HasDone, Exit, Refusal, exit_status, failed_writes, is_flushed, is_refused, load_status, name_status, refusal_message, refusal_status, IsUnasked, RefusedBy, SoundAs, IsOpened, Loaded, Opened, Opening, Stops, AskedBy, EndsAs, Exits, IsClosedAs, IsOut, Moved, StreamsLeft, STATUS_MEMORY, STATUS_WRITE_FAULT, WriteFault, Ended, Refused}
use Rattle.dm_table.specs.declared.load.load_fault.LoadKind.TheVariants as kinds
use Rattle.lvm_volume.specs.declared.fault.NameFault.TheVariants as names
use Rattle.dmremap.specs.Answers.{Wrote}
use Rattle.dmremap.specs.declared.exit.Refusal.TheVariants as refusals
use Rattle.dmremap.proofs.ExitLemmas.{closed_requests, exits_told, kind_memory, of_refusal, read_on_none, refused_output, unasked_requests, write_fault_is}
use Rattle.std.specs.Prelude.{◌≡◌, ◌≢◌, ◌+◌, ◌++◌}

-- a stream of which nothing was asked
abbrev pub still : {Past : Type 0} → Past → Moved Past
still x = record { old = x; new = x }

pub unasked_none : {X : Type 0} → (past : X → InputPast) (x : Option X) → IsUnasked past x x
unasked_none past (Some x) = refl
unasked_none past None = tt

-- if every answer of `Gives` is one of `More`, a command that did one of `Gives` did one of `More`
pub answers_as : {Gives More : Delivery → Answer → Type 0} {requests : Moved InputPast} {output messages : Moved OutputPast} {status : ℕ} → ((asked : Delivery) (answer : Answer) → Gives asked answer → More asked answer)
    → Answers Gives requests output messages status → Answers More requests output messages status
answers_as more (Told end gives ends output requests) = Told end (more _ _ gives) ends output requests
answers_as more (Wrote text end gives ends other whole flushed) = Wrote text end (more _ _ gives) ends other whole flushed
answers_as more (Failed text end gives is failed) = Failed text end (more _ _ gives) is failed
answers_as more (OutOfMemory is out) = OutOfMemory is out

-- ---- a command that is refused

-- the message of a load fault for lack of memory is the message for running out of memory
memory_told : (fault : LoadFault) → fault.kind ≡ kinds.Memory → load_message fault ≡ memory_message
memory_told fault memory = ap (λ (kind : LoadKind). kind_message fault.at.part kind fault.at.number) memory

memory_message_of : (refusal : Refusal) → refusal_status refusal ≡ STATUS_MEMORY → refusal_message refusal ≡ memory_message
memory_message_of (refusals.Load fault) six = memory_told fault (kind_memory fault.kind six)
memory_message_of (refusals.Name fault) six = by_name fault six
  where
    by_name : (fault : NameFault) → name_status fault ≡ STATUS_MEMORY → refusal_message (refusals.Name fault) ≡ memory_message
    by_name names.Memory six = refl
    by_name fault six = absurd (omega (arith, six))
memory_message_of refusal six = absurd (omega (arith, six))

-- a refused command ends with the refusal's message, unless memory ran out
pub end_refused : (refusal : Refusal) → refusal_status refusal ≢ STATUS_MEMORY → end_of (Refused refusal) ≡ refused_by (refusal_message refusal)
end_refused refusal other = elim (of_refusal refusal) [ inl one ↦ ap (λ (status : ℕ). let end : End = record { message = refusal_message refusal; status = status } in end) one | inr six ↦ absurd (other six) ]

-- a refused command reports its refusal, or that memory ran out
pub refused_answers : (Gives : Delivery → Answer → Type 0) (refusal : Refusal) {requests : InputPast} {output : OutputPast} {messages : Moved OutputPast} {status : ℕ} → (refusal_status refusal ≢ STATUS_MEMORY → Gives (delivery requests requests) (Tells (end_of (Refused refusal))))
    → Exits (Refused refusal) status messages.old messages.new → Answers Gives (still requests) (still output) messages status
refused_answers Gives refusal gives exited = elim (of_refusal refusal) [ inl one ↦ Told (end_of (Refused refusal)) (gives (λ six. omega (arith, one, six))) (exited.is, exited.told.told) refl refl | inr six ↦ OutOfMemory (exited.is ∙ six) (refl, refl, rw (memory_message_of refusal six) at exited.told.told) ]

-- if a refused command exits because memory ran out, it asked nothing of its streams but the message
pub refused_out : (refusal : Refusal) {requests : InputPast} {output : OutputPast} {messages : Moved OutputPast} {status : ℕ} → Exits (Refused refusal) status messages.old messages.new → status ≡ STATUS_MEMORY → IsOut (still requests) (still output) messages
refused_out refusal exited six = (refl, refl, rw (memory_message_of refusal (sym exited.is ∙ six)) at exited.told.told)

-- what a refused command does with its streams
pub refusal_left : (refusal : Refusal) {requests : InputPast} {output : OutputPast} {messages : Moved OutputPast} {status : ℕ} → Exits (Refused refusal) status messages.old messages.new → StreamsLeft status (still requests) (still output) messages
refusal_left refusal exited = record {
  read = unasked_requests refusal _ _ _ exited.is (read_on_none _) refl;
  written = refused_output _ refusal _ exited.is;
  told = exits_told exited;
}

-- ---- a command that opens something

-- the answer over a stack that was loaded is an answer of the whole command
pub loaded_answers : (Opens : Opening → Type 0) (Makes : Delivery → Description → Answer → Type 0) (stack : Description) {requests : Moved InputPast} {output messages : Moved OutputPast} {status : ℕ} → Opens (Loaded (SoundAs stack))
    → Answers (λ asked. Makes asked stack) requests output messages status → Answers (λ asked. Opened Opens (Makes asked)) requests output messages status
loaded_answers Opens Makes stack opens = answers_as (λ asked answer makes. record { opening = Loaded (SoundAs stack); opens = opens; makes = makes })

-- a command whose opening is refused reports the refusal
pub unopened_tells : (Opens : Opening → Type 0) (Makes : Description → Answer → Type 0) (refusal : Refusal) → IsOpened Opens (Err refusal) → refusal_status refusal ≢ STATUS_MEMORY → Opened Opens Makes (Tells (end_of (Refused refusal)))
unopened_tells Opens Makes (refusals.Load fault) opened other = record { opening = Loaded (RefusedBy fault); opens = opened (λ memory. other (ap load_status memory)); makes = refl }
unopened_tells Opens Makes (refusals.Head message) opened other = record { opening = Stops message.items; opens = opened; makes = refl }
unopened_tells Opens Makes refusal opened other = absurd opened

pub unopened_answers : (Opens : Opening → Type 0) (Makes : Delivery → Description → Answer → Type 0) (refusal : Refusal) {requests : InputPast} {output : OutputPast} {messages : Moved OutputPast} {status : ℕ}
    → IsOpened Opens (Err refusal) → Exits (Refused refusal) status messages.old messages.new → Answers (λ asked. Opened Opens (Makes asked)) (still requests) (still output) messages status
unopened_answers Opens Makes refusal opened exited = refused_answers (λ asked. Opened Opens (Makes asked)) refusal (λ other. unopened_tells Opens (Makes _) refusal opened other) exited

-- ---- a command that does something up to an exit, and then closes its output

-- what a command did for one answer it did for any answer that follows from it
pub does_more : {Is More : Answer → Type 0} → ((answer : Answer) → Is answer → More answer) → (text : List ℕ) (exit : Exit) → Does Is text exit → Does More text exit
does_more more text (Refused refusal) did = (did.0, λ other. more (Tells (end_of (Refused refusal))) (did.1 other))
does_more more text (Ended WriteFault) did = (did.0, did.1, more (Writes did.0 did.1) did.2, did.3)
does_more more text exit did = more (Writes text (Some (end_of exit))) did

-- what a command did for the stack that it opened is what the whole command did
pub opened_does : (Opens : Opening → Type 0) (Makes : Description → Answer → Type 0) (stack : Description) (text : List ℕ) (exit : Exit) → Opens (Loaded (SoundAs stack)) → Does (Makes stack) text exit → Does (Opened Opens Makes) text exit
opened_does Opens Makes stack text exit opens = does_more {Is = Makes stack} {More = Opened Opens Makes} (λ answer makes. record { opening = Loaded (SoundAs stack); opens = opens; makes = makes }) text exit

-- a command that is refused before it wrote anything has done what a refusal does
pub refused_does : (Is : Answer → Type 0) (output : OutputPast) (refusal : Refusal) → (refusal_status refusal ≢ STATUS_MEMORY → Is (Tells (end_of (Refused refusal)))) → Does Is (written_since output output) (Refused refusal)
refused_does Is output refusal tells = (since-same output.written, tells)

pub refused_done : (Is : Answer → Type 0) (output : OutputPast) (refusal : Refusal) → (refusal_status refusal ≢ STATUS_MEMORY → Is (Tells (end_of (Refused refusal)))) → HasDone (Does Is) output output (Refused refusal)
refused_done Is output refusal tells = record { did = refused_does Is output refusal tells; writes = written_none output }

pub asked_refused : (requests : InputPast) (refusal : Refusal) → AskedBy requests requests (Refused refusal)
asked_refused requests refusal = record { read_on = read_on_none requests; met = tt; unasked = λ refused. refl }

-- if the output is flushed at an exit, the whole text was written
flushed_does : (Is : Answer → Type 0) (text : List ℕ) (exit : Exit) → is_flushed exit ≡ true → Does Is text exit → Is (Writes text (Some (end_of exit)))
flushed_does Is text (Refused refusal) flag did = absurd cc
flushed_does Is text (Ended WriteFault) flag did = absurd cc
flushed_does Is text exit flag did = did

-- an output to which no bytes were added is unchanged
unwritten : (start mid : OutputPast) → HasWritten start mid 0 → written_since start mid ≡ [] → mid ≡ start
unwritten start mid moved none =
    let written : mid.written ≡ start.written = moved.appends ∙ ap (λ (t : List ℕ). start.written ++ t) none ∙ append-nil start.written in
    let waiting : mid.waiting ≡ start.waiting = moved.waits ∙ ap (λ (t : List ℕ). start.waiting ++ t) none ∙ append-nil start.waiting in
    let faults : mid.faults ≡ start.faults = omega (arith, moved.fails) in
    rw (written, waiting, faults, moved.unflushed)

never_five : (exit : Exit) → exit ≢ Ended WriteFault → {status : ℕ} → status ≡ exit_status exit → status ≢ STATUS_WRITE_FAULT
never_five exit other is five = other (write_fault_is exit (sym is ∙ five))

pub closed_answers : {Gives : Delivery → Answer → Type 0} {requests : Moved InputPast} {start mid new : OutputPast} {messages : Moved OutputPast} {status : ℕ} (before after : Exit)
    → HasWritten start mid (failed_writes before) → Does (Gives (delivery requests.old requests.new)) (written_since start mid) before → AskedBy requests.old requests.new before → IsClosedAs before mid new after → Exits after status messages.old messages.new
    → Answers Gives requests (record { old = start; new = new }) messages status
closed_answers {Gives} {requests} {start} {mid} {new} {messages} {status} before after moved did asked closed exited = by_end closed.ends
  where
    text : List ℕ
    text = written_since start mid

    same : text ≡ written_since start new
    same = rw closed.bytes refl

    Is : Answer → Type 0
    Is = Gives (delivery requests.old requests.new)

    by_exit : (exit : Exit) → exit ≡ before → (after ≡ exit) × (is_flushed exit ≡ false → new.flushes ≡ mid.flushes) → Answers Gives requests (record { old = start; new = new }) messages status
    by_exit (Refused refusal) is ends =
        let ended : Exits (Refused refusal) status messages.old messages.new = rw ends.0 at exited in
        let refused : Does Is text (Refused refusal) = rw (← is) at did in
        let wrote : HasWritten start mid 0 = rw (← is) at moved in
        let unmoved : new ≡ start = closed.untouched (ap is_refused (sym is)) ∙ unwritten start mid wrote refused.0 in
        let unasked : requests.new ≡ requests.old = asked.unasked (ap is_refused (sym is)) in
        elim (of_refusal refusal) [ inl one ↦ Told (end_of (Refused refusal)) (refused.1 (λ six. omega (arith, one, six))) (ended.is, ended.told.told) unmoved unasked | inr six ↦ OutOfMemory (ended.is ∙ six) (unmoved, unasked, rw (memory_message_of refusal six) at ended.told.told) ]
    by_exit (Ended WriteFault) is ends =
        let cut : Does Is text (Ended WriteFault) = rw (← is) at did in
        Failed cut.0 cut.1 cut.2 (exited.is ∙ ap exit_status ends.0) (inl (ends.1 refl ∙ moved.unflushed, subst (λ (t : List ℕ). IsCutShort cut.0 t) same cut.3))
    by_exit exit is ends =
        let flag : is_flushed exit ≡ true = refl in
        let ended : Exits exit status messages.old messages.new = rw ends.0 at exited in
        Wrote text (end_of exit) (flushed_does Is text exit flag (rw (← is) at did)) (ended.is, ended.told.told) (never_five exit (λ e. absurd cc) ended.is) same (closed.flushed (ap is_flushed ends.0 ∙ flag) start moved)

    by_end : EndsAs before mid.flushes new.flushes after → Answers Gives requests (record { old = start; new = new }) messages status
    by_end (inl ends) = by_exit before refl ends
    by_end (inr (failed, flag, more)) =
        Failed text (Some (end_of before)) (flushed_does Is text before flag did) (exited.is ∙ ap exit_status failed) (inr (more ∙ ap (λ (n : ℕ). n + 1) moved.unflushed, (same, end_of before, refl)))

pub closed_left : {requests : Moved InputPast} {start mid new : OutputPast} {messages : Moved OutputPast} {status : ℕ} (before after : Exit)
    → HasWritten start mid (failed_writes before) → AskedBy requests.old requests.new before → IsClosedAs before mid new after → Exits after status messages.old messages.new → StreamsLeft status requests (record { old = start; new = new }) messages
closed_left {start = start} before after moved asked closed exited = record {
  read = closed_requests _ _ before after _ _ _ closed.ends asked exited.is;
  written = rw exited.is (closed.output start moved);
  told = exits_told exited;
}

-- if closing the output left an exit for lack of memory, that was the exit before
pub memory_before : (before after : Exit) (old new : ℕ) (status : ℕ) → EndsAs before old new after → status ≡ exit_status after → status ≡ STATUS_MEMORY → exit_status before ≡ STATUS_MEMORY
memory_before before after old new status (inl ends) is six = ap exit_status (sym ends.0) ∙ sym is ∙ six
memory_before before after old new status (inr ends) is six = let five = ap exit_status (sym ends.0) ∙ sym is ∙ six in absurd (omega (arith, five))
