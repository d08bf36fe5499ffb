-- What `read` answers: it depends on what was written of a reading and on how the run began.
use Rattle.dmremap.proofs.Prelude.{Bool, true, false, ℕ, List, Option, Some, None, Result, Ok, Err, inl, inr, refl, sym, ap, subst, ◌∙◌, ap₂, arith, IfErr, IfOk, codes, option_and_then, digits_value, LoadFault, Paths, DiskPath, Delivery, InputPast, fault_of, part_read, Description, State, images_of, DiskContents, Place, IsWritten, Reading, bytes_of, device_bytes, Tells, Writes, end_of, Exit, Refusal, Does, exit_status, failed_writes, refusal_status, list_in, delivered_if, JobWords, RangeWords, AreSettled, answer_from, places_in, reading_answer, stop_exit, written_exit, AreImagesAsked, IsBegunAt, AskedBy, Begins, Start, last_of, number_of, range_at, range_job, read_job, sectors_parser, Memory, Row, Text, first_of, STATUS_MEMORY, Refused}
use Rattle.std.specs.Prelude.{◌≡◌, ◌≢◌, ◌-◌, ◌<◌, ◌^◌}
use Rattle.std.specs.Str.Parse.{IsNumeral, without_leading_plus}
use Rattle.dm_read.specs.declared.fault.Stop.{Stop}
use Rattle.clap.proofs.ValueTestLemmas.{Accepts-accepts, accepts-Accepts}
use Rattle.clap.specs.ValueTests.{accepts}
use Rattle.dmremap.specs.declared.exit.Refusal.TheVariants as refusals
use Rattle.dmremap.specs.declared.read_run.Extent.{Extent}
use Rattle.dmremap.proofs.AnswerLemmas.{end_refused}
use Rattle.dmremap.proofs.BegunLemmas.{never_done}
use Rattle.dmremap.proofs.ExitLemmas.{read_on_none}
use Rattle.dmremap.proofs.ImagesLemmas.{images_listed}

-- ---- writing a reading

same_answer : (text bytes : List ℕ) (exit other : Exit) → text ≡ bytes → exit ≡ other → Some (Writes bytes (Some (end_of other))) ≡ Some (Writes text (Some (end_of exit)))
same_answer text bytes exit other same is = rw (same, is) refl

reading_does : {F : Type 0} (reading : Reading) (text : List ℕ) (written : Result (Option Stop) F) → IsWritten reading text written → Does (λ answer. Some (reading_answer reading) ≡ Some answer) text (written_exit written)
reading_does reading text (Ok None) is = same_answer text reading.bytes (stop_exit None) (stop_exit reading.stop) is.0 (ap stop_exit is.1)
reading_does reading text (Ok (Some stop)) is = same_answer text reading.bytes (stop_exit (Some stop)) (stop_exit reading.stop) is.0 (ap stop_exit is.1)
reading_does reading text (Err fault) is = (reading.bytes, Some (end_of (stop_exit reading.stop)), refl, is)

-- reading an extent of a stack gives the answer from the state that the run began in
pub read_does : {F : Type 0} (start : Start) (stack other : Description) (state reached : State) (disks : DiskContents) (extent : Extent) (written : Result (Option Stop) F) (text : List ℕ) (exit : Exit) → start ≡ Begins state → other ≡ stack → reached ≡ state → exit ≡ written_exit written
    → IsWritten (bytes_of (device_bytes other reached disks extent.device) extent.start extent.len) text written → Does (λ answer. answer_from start stack disks extent ≡ Some answer) text exit
read_does start stack other state reached disks extent written text exit begins same reaches is wrote =
    rw (begins, is) (reading_does (bytes_of (device_bytes stack state disks extent.device) extent.start extent.len) text written (rw (same, reaches) at wrote))

-- a run that doesn't begin answers with its refusal
pub unbegun_reads : (start : Start) (stack : Description) (disks : DiskContents) (extent : Extent) (refusal : Refusal) → IsBegunAt stack None start (Err refusal) → refusal_status refusal ≢ STATUS_MEMORY → answer_from start stack disks extent ≡ Some (Tells (end_of (Refused refusal)))
unbegun_reads start stack disks extent (refusals.Earlier fault) begun other = absurd (never_done fault begun.2)
unbegun_reads start stack disks extent refusal begun other =
    ap (λ (s : Start). answer_from s stack disks extent) (begun other) ∙ sym (ap (λ end. Some (Tells end)) (end_refused refusal other))

failed_written : {F : Type 0} (written : Result (Option Stop) F) → fault_of written ≡ failed_writes (written_exit written)
failed_written (Ok None) = refl
failed_written (Ok (Some stop)) = refl
failed_written (Err fault) = refl

pub written_failed : {F : Type 0} (written : Result (Option Stop) F) (exit : Exit) → exit ≡ written_exit written → fault_of written ≡ failed_writes exit
written_failed written exit is = failed_written written ∙ ap failed_writes (sym is)

-- writing sectors reads no requests
asked_written : {F : Type 0} (written : Result (Option Stop) F) (past : InputPast) → AskedBy past past (written_exit written)
asked_written (Ok None) past = record { read_on = read_on_none past; met = omega arith; unasked = λ refused. refl }
asked_written (Ok (Some stop)) past = record { read_on = read_on_none past; met = tt; unasked = λ refused. refl }
asked_written (Err fault) past = record { read_on = read_on_none past; met = tt; unasked = λ refused. refl }

pub written_asked : {F : Type 0} (written : Result (Option Stop) F) (exit : Exit) → exit ≡ written_exit written → (past : InputPast) → AskedBy past past exit
written_asked written exit is past = subst (λ (e : Exit). AskedBy past past e) (sym is) (asked_written written past)

-- writing sectors never exits with STATUS_MEMORY
no_memory : {F : Type 0} (written : Result (Option Stop) F) → exit_status (written_exit written) ≡ STATUS_MEMORY → ⊥
no_memory (Ok None) six = omega (arith, six)
no_memory (Ok (Some stop)) six = omega (arith, six)
no_memory (Err fault) six = omega (arith, six)

pub written_no_memory : {F : Type 0} (written : Result (Option Stop) F) (exit : Exit) → exit ≡ written_exit written → exit_status exit ≡ STATUS_MEMORY → ⊥
written_no_memory written exit is six = no_memory written (ap exit_status (sym is) ∙ six)

-- ---- the places of disks

-- places that are looked up in a list are settled by it
pub settled_in : (at : Option (Result (List (Option Place)) LoadFault)) {listed : Result (List (Option Place)) LoadFault} (result : Result (List (Option Place)) LoadFault) → at ≡ Some listed → IfOk result (λ places. listed ≡ Ok places) → IfErr result (λ fault. fault.kind ≢ Memory → listed ≡ Err fault) → AreSettled at result
settled_in at (Ok places) is given refused = is ∙ ap Some given
settled_in at (Err fault) is given refused = λ other. is ∙ ap Some (refused other)

pub listed_places : (paths : Delivery) (stack : Description) (listed : List DiskPath) (result : Result (List (Option Place)) LoadFault) → list_in (part_read Paths paths) ≡ Some (Ok listed)
    → IfOk result (λ places. images_of stack listed ≡ Ok places) → IfErr result (λ fault. fault.kind ≢ Memory → images_of stack listed ≡ Err fault) → AreSettled (places_in (Some paths) stack) result
listed_places paths stack listed result is = settled_in (places_in (Some paths) stack) result (images_listed stack (part_read Paths paths) listed is)

-- images are read only if the places of the disks are known
pub asked_by : {X P : Type 0} (past : P → InputPast) (stack : Description) (old new : Option P) (result : Result (List (Option Place)) LoadFault) (first last : X) → AreSettled (places_in (delivered_if past old new) stack) result → IfErr result (λ fault. last ≡ first)
    → AreImagesAsked stack (delivered_if past old new) first last
asked_by past stack (Some old) (Some new) (Ok places) first last settled same = inr (places, settled)
asked_by past stack (Some old) (Some new) (Err fault) first last settled same = inl same
asked_by past stack (Some old) None (Ok places) first last settled same = absurd cc
asked_by past stack (Some old) None (Err fault) first last settled same = same
asked_by past stack None new (Ok places) first last settled same = absurd cc
asked_by past stack None new (Err fault) first last settled same = same

-- ---- numbers of the command line

-- a text that `u64` can parse spells the number that it parses to
pub number_read : (text : Text) (number : ℕ) → IsNumeral 10 (without_leading_plus text) × (digits_value 10 (without_leading_plus text) < 2 ^ 64) → number ≡ digits_value 10 (without_leading_plus text) → Some number ≡ number_of text
number_read text number read is = rw (Accepts-accepts false sectors_parser text (read.0, read.1, omega arith, omega (arith, read.1))) (ap Some is)

-- a text that `u64` can't parse spells no number
pub number_unread : (text : Text) → (IsNumeral 10 (without_leading_plus text) × (digits_value 10 (without_leading_plus text) < 2 ^ 64) → ⊥) → None ≡ number_of text
number_unread text none = go (accepts false sectors_parser text) refl
  where
    go : (b : Bool) → accepts false sectors_parser text ≡ b → None ≡ number_of text
    go false e = rw e refl
    go true e =
        let all = accepts-Accepts false sectors_parser text e in
        absurd (none (all.0, all.1))

-- ---- the job of `read`

-- the job of `read` follows from DISKS and DEVICE, taken from its last words
pub job_read : (rows : List Row) (disks device second third : Option Text) (found : Text) (range : RangeWords) (job : Option JobWords) → (disks, device) ≡ last_of second third → second ≡ first_of (codes "disks") rows → third ≡ first_of (codes "device") rows
    → device ≡ Some found → range ≡ range_at rows found → job ≡ range_job rows disks range → job ≡ read_job rows
job_read rows disks device second third found range job last is also named there gives =
    gives ∙ ap (range_job rows disks) there
    ∙ ap (λ (d : Option Text). option_and_then (λ text. range_job rows disks (range_at rows text)) d) (sym named)
    ∙ ap (λ (l : Option Text × Option Text). option_and_then (λ text. range_job rows l.0 (range_at rows text)) l.1) (last ∙ ap₂ last_of is also)
