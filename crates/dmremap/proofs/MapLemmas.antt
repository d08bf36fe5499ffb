-- What the exit of `map` implies for its run.
use Rattle.dmremap.proofs.Prelude.{Bool, ℕ, Option, Some, Err, arith, inl, inr, option_map, refl, sym, ap, ◌∙◌, Delivery, InputPast, OutputPast, delivery, written_since, FailedOutput, IsReadOn, finished_as, Description, State, Ending, HasMet, HasTold, ending_message, refused_ending, Outcome, run_outcome, EarlierFault, HasRun, Answers, End, Failed, FailedAfter, Tells, Writes, end_of, Refusal, ending_status, refusal_status, SoundAs, IsOpened, Loaded, Opening, IsBegunAt, Exits, Moved, OutputWritten, StreamsLeft, ArePlayedOver, Begins, EarlierRead, Maps, MapsOver, Start, answer_after, answer_over, earlier_from, outcome_from, STATUS_MEMORY, STATUS_WRITE_FAULT, Done, WriteFault, Ended, Refused}
use Rattle.dm_stream.specs.declared.runs.earlier.EarlierFault.TheVariants as earlier
use Rattle.dmremap.specs.Answers.{Wrote}
use Rattle.dmremap.specs.declared.exit.Refusal.TheVariants as refusals
use Rattle.dmremap.proofs.AnswerLemmas.{end_refused, loaded_answers, refused_answers, still, unopened_answers}
use Rattle.dmremap.proofs.ExitLemmas.{exits_told, never_one, ran_requests, write_fault_is}
use Rattle.std.specs.Prelude.{◌≡◌, ◌≢◌, ◌⊎◌, ◌<◌}

-- ---- the load

-- the answer of a run over a loaded stack is the answer of `map` for that load
pub loaded_maps : (Opens : Opening → Type 0) (starts : Description → Start) (flag : Bool) (before : Option Delivery) (stack : Description) {requests : Moved InputPast} {output messages : Moved OutputPast} {status : ℕ} → Opens (Loaded (SoundAs stack))
    → Answers (MapsOver (starts stack) stack flag before) requests output messages status → Answers (Maps Opens starts flag before) requests output messages status
loaded_maps Opens starts flag before stack opens over = loaded_answers Opens (λ asked stack. MapsOver (starts stack) stack flag before asked) stack opens over

-- a `map` whose opening is refused reports the refusal, wherever runs would start
pub unopened_maps : (Opens : Opening → Type 0) (starts : Description → Start) (flag : Bool) (before : Option Delivery) (refusal : Refusal) {requests : InputPast} {output : OutputPast} {messages : Moved OutputPast} {status : ℕ} → IsOpened Opens (Err refusal)
    → Exits (Refused refusal) status messages.old messages.new → Answers (Maps Opens starts flag before) (still requests) (still output) messages status
unopened_maps Opens starts flag before refusal opened exited = unopened_answers Opens (λ asked stack. MapsOver (starts stack) stack flag before asked) refusal opened exited

-- earlier requests that were read over a loaded stack were read in their turn
pub earlier_read : {X : Type 0} → (past : X → InputPast) (Opens : Opening → Type 0) (starts : Description → Start) (stack : Description) (old new : Option X) → Opens (Loaded (SoundAs stack))
    → (new ≡ old) ⊎ ArePlayedOver past (starts stack) stack old new → EarlierRead past Opens starts old new
earlier_read past Opens starts stack old new gives (inl same) = inl same
earlier_read past Opens starts stack old new gives (inr played) = inr (stack, gives, played)

-- ---- a run that doesn't begin

-- earlier requests that are refused settle the answer
refused_is : (fault : EarlierFault) (outcome : Outcome) → answer_after (Some (refused_ending fault)) outcome ≡ Some (Tells (end_of (Refused (refusals.Earlier fault))))
refused_is (earlier.BadRequest number word) outcome = refl
refused_is earlier.Read outcome = refl

unbegun_tells : (start : Start) (stack : Description) (flag : Bool) (before : Option Delivery) (requests : Delivery) (refusal : Refusal) → IsBegunAt stack before start (Err refusal) → refusal_status refusal ≢ STATUS_MEMORY → MapsOver start stack flag before requests (Tells (end_of (Refused refusal)))
unbegun_tells start stack flag before requests (refusals.Earlier fault) begun other =
    let outcome = outcome_from begun.0 stack flag before requests in
    ap (λ (s : Start). answer_over s stack flag before requests) begun.1 ∙ ap (λ (e : Option Ending). answer_after e outcome) begun.2 ∙ refused_is fault outcome
unbegun_tells start stack flag before requests refusal begun other = ap (λ (s : Start). answer_over s stack flag before requests) (begun other) ∙ ap (λ (end : End). Some (Tells end)) (sym (end_refused refusal other))

pub unbegun_maps : (start : Start) (stack : Description) (flag : Bool) (before : Option Delivery) (refusal : Refusal) {requests : InputPast} {output : OutputPast} {messages : Moved OutputPast} {status : ℕ} → IsBegunAt stack before start (Err refusal)
    → Exits (Refused refusal) status messages.old messages.new → Answers (MapsOver start stack flag before) (still requests) (still output) messages status
unbegun_maps start stack flag before refusal begun exited = refused_answers (MapsOver start stack flag before) refusal (unbegun_tells start stack flag before _ refusal begun) exited

-- ---- a run that has begun

-- only a write fault ends a run with STATUS_WRITE_FAULT
five_is : (ending : Ending) → ending_status ending ≡ STATUS_WRITE_FAULT → ending ≡ WriteFault
five_is ending five = let same = write_fault_is (Ended ending) five in cc

fault_or : (ending : Ending) → (ending ≡ WriteFault) ⊎ (ending ≢ WriteFault)
fault_or WriteFault = inl refl
fault_or ending = inr (λ is. absurd cc)

-- what the outcome says was to be written when the output failed
failed_after : (outcome : Outcome) (output : Moved OutputPast) → (output.old.flushes < output.new.flushes → (last : Ending) × (outcome.ending ≡ Some last)) → FailedOutput outcome.output output.old output.new
    → FailedAfter outcome.output (option_map (λ ending. end_of (Ended ending)) outcome.ending) output
failed_after outcome output settled (inl cut) = inl cut
failed_after outcome output settled (inr whole) =
    let last = settled (omega (arith, whole.0)) in
    inr (whole.0, (whole.1, end_of (Ended last.0), ap (option_map (λ ending. end_of (Ended ending))) last.1))

-- a run of the requests, after all earlier ones, gives the answer of `map`
pub ran_maps : (start : Start) (begun : State) (stack : Description) (flag : Bool) (before : Option Delivery) (reached left : State) (ending : Ending) {requests : Moved InputPast} {output messages : Moved OutputPast} {status : ℕ} → start ≡ Begins begun
    → (earlier_from begun stack before).ending ≡ Some Done → reached ≡ (earlier_from begun stack before).state → HasRun output.old output.new (run_outcome stack flag reached (delivery requests.old requests.new)) left ending → status ≡ ending_status ending
    → HasTold (ending_message ending) messages.old messages.new → Answers (MapsOver start stack flag before) requests output messages status
ran_maps start begun stack flag before reached left ending {requests} {output} {messages} {status} begins played reaches ran is told = by_ending (fault_or ending)
  where
    asked : Delivery
    asked = delivery requests.old requests.new

    outcome : Outcome
    outcome = outcome_from begun stack flag before asked

    end : Option Ending → Option End
    end = option_map (λ e. end_of (Ended e))

    gives : MapsOver start stack flag before asked (Writes outcome.output (end outcome.ending))
    gives = ap (λ (s : Start). answer_over s stack flag before asked) begins ∙ ap (λ (e : Option Ending). answer_after e outcome) played

    by_ending : (ending ≡ WriteFault) ⊎ (ending ≢ WriteFault) → Answers (MapsOver start stack flag before) requests output messages status
    by_ending (inl failed) =
        Failed outcome.output (end outcome.ending) gives (is ∙ ap ending_status failed) (failed_after outcome output (rw reaches at ran.settled) (rw reaches at (ran.output.failed failed)))
    by_ending (inr no_fault) =
        let same : outcome.ending ≡ Some ending = rw reaches at (ran.ends no_fault).0 in
        let whole : outcome.output ≡ written_since output.old output.new = rw reaches at (ran.output.whole no_fault).0 in
        let closed = rw reaches at (ran.output.whole no_fault) in
        Wrote outcome.output (end_of (Ended ending)) (gives ∙ ap (λ (e : Option Ending). Some (Writes outcome.output (end e))) same) (is, told.told) (λ five. no_fault (five_is ending (sym is ∙ five))) whole closed.1

-- what the exit status implies about what a run wrote and flushed
ran_output : (ending : Ending) (status : ℕ) (outcome : Outcome) (left : State) (old new : OutputPast) → status ≡ ending_status ending → HasRun old new outcome left ending
    → OutputWritten status old new
ran_output ending status outcome left old new is ran = record {
  finished = finished_as (ending ≡ WriteFault) (status ≡ STATUS_WRITE_FAULT) (λ failed. is ∙ ap ending_status failed) (λ five. five_is ending (sym is ∙ five)) ran.output.finished;
  flushed = λ one five six. (ran.output.whole (λ failed. five (is ∙ ap ending_status failed))).1;
  refused = λ one. absurd (never_one ending (sym is ∙ one));
}

-- ---- the streams of a run

pub ran_left : (ending : Ending) (outcome : Outcome) (left : State) {requests : Moved InputPast} {output messages : Moved OutputPast} {status : ℕ} → status ≡ ending_status ending
    → IsReadOn requests.old requests.new → HasMet ending requests.old requests.new → HasRun output.old output.new outcome left ending → HasTold (ending_message ending) messages.old messages.new
    → StreamsLeft status requests output messages
ran_left ending outcome left is reads met ran told = record {
  read = ran_requests ending _ _ _ is reads met;
  written = ran_output ending _ outcome left _ _ is ran;
  told = exits_told {exit = Ended ending} (record { is = is; told = told });
}
