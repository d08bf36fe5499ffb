-- What the requests that a player was handed imply for a replay.
use Rattle.dmremap.proofs.Prelude.{ℕ, List, [], None, Some, Result, Err, IfErr, refl, sym, ap, subst, append_assoc, append-nil, IfErr-at_err, Delivery, InputPast, since, IsReadOn, MetNothing, IsCutShort, since-same, IsTidy, IsTop, Description, State, Ending, device_of, IsAmong, NumberedRequest, Requests, requests_of, Asked, asked_answers, world_after, HasTop, AreMaximal, flat, runs_text, named_id, named_top, top_named, Exit, Refusal, Tells, end_of, Does, refusal_status, ReplaysOver, ReplaysStack, AreAnswered, HasPlayed, HasStopped, IsAnswer, IsCutReplay, IsPlayed, StopsAt, asked_of, IsBegunAt, AskedBy, HasMetBy, Begins, Start, STATUS_MEMORY, WriteFault}
use Rattle.dm_replay.specs.declared.replay_fault.ReplayFault.{ReplayFault}
use Rattle.dm_replay.specs.declared.value_run.ValueRun.{ValueRun}
use Rattle.dmremap.specs.declared.exit.Exit.TheVariants as exits
use Rattle.dmremap.specs.declared.exit.Refusal.TheVariants as refusals
use Rattle.dmremap.proofs.AnswerLemmas.{does_more, end_refused}
use Rattle.dmremap.proofs.BegunLemmas.{never_done}
use Rattle.std.specs.Prelude.{◌≡◌, ◌≢◌, ◌∷◌, ◌++◌}

-- ---- one request

-- the text for a single request is the answer to it
alone : (stack : Description) (start : State) (old : List Asked) (request : NumberedRequest) (text : List ℕ) → IsAnswer stack start old request text → AreAnswered stack start old (request ∷ []) text
alone stack start old request text answer = (text, [], answer, refl, append-nil text)

one_played : (stack : Description) (start : State) (old new : List Asked) (request : NumberedRequest) (runs : List ValueRun) (w0 w1 : List ℕ) → HasTop stack request.values.device → AreMaximal runs
    → flat runs ≡ asked_answers stack (world_after stack start old) (asked_of stack request) → new ≡ old ++ asked_of stack request ∷ [] → since w0 w1 ≡ runs_text stack request.number runs → HasPlayed stack start old new (request ∷ []) w0 w1
one_played stack start old new request runs w0 w1 named longest are more wrote = record {
  asked = more;
  told = alone stack start old request (since w0 w1) (record { top = named; runs = runs; maximal = longest; answers = are; is = sym wrote });
}

-- if writing the answer to a single request fails, the replay is cut short
one_cut : (stack : Description) (start : State) (old : List Asked) (request : NumberedRequest) (runs : List ValueRun) (text : List ℕ) → HasTop stack request.values.device → AreMaximal runs
    → flat runs ≡ asked_answers stack (world_after stack start old) (asked_of stack request) → IsCutShort (runs_text stack request.number runs) text → IsCutReplay stack start old (request ∷ []) text
one_cut stack start old request runs text named longest are short = record {
  first = request ∷ [];
  later = [];
  split = refl;
  whole = runs_text stack request.number runs;
  told = alone stack start old request (runs_text stack request.number runs) (record { top = named; runs = runs; maximal = longest; answers = are; is = refl });
  cut = short;
}

-- a single request to a replay of this stack, with the device's id

abbrev pub asked_by : NumberedRequest → (device : ℕ) → Asked
asked_by request device = record { number = request.number; op = request.values.op; device = device; start = request.values.start; len = request.values.len; halted_after = None }

by_name : (stack : Description) (request : NumberedRequest) (device : ℕ) → device_of stack request.values.device ≡ Some device → asked_by request device ≡ asked_of stack request
by_name stack request device named = ap (asked_by request) (named_id stack request.values.device device named)

answers_by_name : (stack of : Description) (start : State) (old : List Asked) (request : NumberedRequest) (device : ℕ) (runs : List ValueRun) → of ≡ stack → device_of stack request.values.device ≡ Some device
    → flat runs ≡ asked_answers of (world_after of start old) (asked_by request device) → flat runs ≡ asked_answers stack (world_after stack start old) (asked_of stack request)
answers_by_name stack of start old request device runs same named are =
    cc (by_name stack request device named)

pub top_by_name : (stack of : Description) (request : NumberedRequest) (device : ℕ) → of ≡ stack → device_of stack request.values.device ≡ Some device → IsTop of device → HasTop stack request.values.device
top_by_name stack of request device same named top = named_top stack request.values.device device named (rw same at top)

pub not_top_by_name : (stack of : Description) (request : NumberedRequest) (device : ℕ) → of ≡ stack → device_of stack request.values.device ≡ Some device → (IsTop of device → ⊥) → HasTop stack request.values.device → ⊥
not_top_by_name stack of request device same named none has = none (rw same (top_named stack request.values.device device named has))

pub played_by_name : (stack of : Description) (start : State) (old new : List Asked) (request : NumberedRequest) (device : ℕ) (runs : List ValueRun) (w0 w1 : List ℕ) → of ≡ stack → device_of stack request.values.device ≡ Some device → IsTop of device → AreMaximal runs
    → flat runs ≡ asked_answers of (world_after of start old) (asked_by request device) → new ≡ old ++ asked_by request device ∷ [] → since w0 w1 ≡ runs_text stack request.number runs → HasPlayed stack start old new (request ∷ []) w0 w1
played_by_name stack of start old new request device runs w0 w1 same named top longest are more wrote =
    one_played stack start old new request runs w0 w1 (top_by_name stack of request device same named top) longest (answers_by_name stack of start old request device runs same named are)
    (cc (by_name stack request device named)) wrote

pub cut_by_name : (stack of : Description) (start : State) (old : List Asked) (request : NumberedRequest) (device : ℕ) (runs : List ValueRun) (text : List ℕ) → of ≡ stack → device_of stack request.values.device ≡ Some device → IsTop of device → AreMaximal runs
    → flat runs ≡ asked_answers of (world_after of start old) (asked_by request device) → IsCutShort (runs_text stack request.number runs) text → IsCutReplay stack start old (request ∷ []) text
cut_by_name stack of start old request device runs text same named top longest are short =
    one_cut stack start old request runs text (top_by_name stack of request device same named top) longest (answers_by_name stack of start old request device runs same named are) short

-- a single request that is not answered stops the replay
pub one_stopped : (IsCause : NumberedRequest → Type 0) (stack : Description) (start : State) (old : List Asked) (request : NumberedRequest) (w : List ℕ) → IsCause request → StopsAt IsCause stack start old (request ∷ []) (since w w)
one_stopped IsCause stack start old request w why = record { first = []; last = request; later = []; split = refl; told = sym (since-same w); cause = why }

-- a single request that is not answered because of a replay fault stops the replay
pub stopped_by : {T : Type 0} (Says : ReplayFault → Type 0) (IsCause : NumberedRequest → Type 0) (stack : Description) (start : State) (old : List Asked) (request : NumberedRequest) (w : List ℕ) (r : Result T ReplayFault) (fault : ReplayFault)
    → r ≡ Err fault → IfErr r Says → (Says fault → IsCause request) → StopsAt IsCause stack start old (request ∷ []) (since w w)
stopped_by Says IsCause stack start old request w r fault is h why = one_stopped IsCause stack start old request w (why (IfErr-at_err Says is h))

-- ---- all requests

-- all requests were answered, and they ended by themselves
pub all_played : (stack : Description) (start : State) (requests : Requests) (text : List ℕ) (e : Ending) → AreAnswered stack start [] requests.all text → requests.ending ≡ Some e → e ≢ WriteFault → IsPlayed stack start requests text (exits.Ended e)
all_played stack start requests text WriteFault told ends other = absurd (other refl)
all_played stack start requests text e told ends other = record { ends_so = ends; told = told }

-- a replay that stopped at one of the first requests stopped at one of all requests
stops_among : (IsCause : NumberedRequest → Type 0) (stack : Description) (start : State) (all first later : List NumberedRequest) (text : List ℕ) → all ≡ first ++ later → StopsAt IsCause stack start [] first text → StopsAt IsCause stack start [] all text
stops_among IsCause stack start all first later text is stops = record {
  first = stops.first;
  last = stops.last;
  later = stops.later ++ later;
  split = cc (append_assoc stops.first (stops.last ∷ stops.later) later);
  told = stops.told;
  cause = stops.cause;
}

stopped_among : (stack : Description) (start : State) (exit : Exit) (requests : Requests) (first later : List NumberedRequest) (text : List ℕ) → requests.all ≡ first ++ later → HasStopped stack start exit [] first text
    → IsPlayed stack start requests text exit
stopped_among stack start (exits.NotTop number) requests first later text is stopped = stops_among _ stack start requests.all first later text is stopped
stopped_among stack start exits.Memory requests first later text is stopped = stops_among _ stack start requests.all first later text is stopped
stopped_among stack start (exits.Ended WriteFault) requests first later text is stopped = record {
  first = stopped.first;
  later = stopped.later ++ later;
  split = cc (append_assoc stopped.first stopped.later later);
  whole = stopped.whole;
  told = stopped.told;
  cut = stopped.cut;
}
stopped_among stack start exit requests first later text is stopped = absurd stopped

pub part_played : (stack : Description) (start : State) (exit : Exit) (requests : Requests) (text : List ℕ) (Stopped : List NumberedRequest → Type 0)
    → ((first : List NumberedRequest) → Stopped first → HasStopped stack start exit [] first text) → IsAmong Stopped requests.all → IsPlayed stack start requests text exit
part_played stack start exit requests text Stopped stopped among = stopped_among stack start exit requests among.first among.later text among.is (stopped among.first among.holds)

-- nothing is read after the request at which a replay stopped
pub stopped_met : (old new : InputPast) (stack : Description) (start : State) (exit : Exit) (asked : List Asked) (requests : List NumberedRequest) (text : List ℕ) → HasStopped stack start exit asked requests text → MetNothing old new → HasMetBy exit old new
stopped_met old new stack start (exits.NotTop number) asked requests text stopped met = met
stopped_met old new stack start exits.Memory asked requests text stopped met = tt
stopped_met old new stack start (exits.Ended WriteFault) asked requests text stopped met = tt
stopped_met old new stack start exit asked requests text stopped met = absurd stopped

-- ---- the stack of a replay

-- a replay that has begun does what an unrefused replay does
pub played_does : (stack : Description) (start : State) (requests : Delivery) (text : List ℕ) (exit : Exit) → IsTidy stack → IsPlayed stack start (requests_of requests) text exit → Does (ReplaysStack stack start requests) text exit
played_does stack start requests text (exits.Refused refusal) tidy played = absurd played
played_does stack start requests text (exits.Ended WriteFault) tidy played =
    (played.whole, None, (tidy, record { first = played.first; later = played.later; split = played.split; told = played.told }), played.cut)
played_does stack start requests text exit tidy played = (tidy, exit, played, refl, refl)

-- a replay begins in the state that the stack starts in
pub begun_replays : (start : Start) (stack : Description) (state reached : State) (requests : Delivery) (text : List ℕ) (exit : Exit) → start ≡ Begins state → reached ≡ state → Does (ReplaysStack stack reached requests) text exit → Does (ReplaysOver start stack requests) text exit
begun_replays start stack state reached requests text exit begins same =
    does_more (λ answer makes. subst (λ (s : Start). ReplaysOver s stack requests answer) (sym begins) (subst (λ (at : State). ReplaysStack stack at requests answer) same makes)) text exit

-- a replay that doesn't begin answers with its refusal
pub unbegun_replays : (start : Start) (stack : Description) (requests : Delivery) (refusal : Refusal) → IsBegunAt stack None start (Err refusal) → refusal_status refusal ≢ STATUS_MEMORY → ReplaysOver start stack requests (Tells (end_of (exits.Refused refusal)))
unbegun_replays start stack requests (refusals.Earlier fault) begun other = absurd (never_done fault begun.2)
unbegun_replays start stack requests refusal begun other = subst (λ (s : Start). ReplaysOver s stack requests (Tells (end_of (exits.Refused refusal)))) (sym (begun other)) (ap Tells (end_refused refusal other))

pub played_asked : (old new : InputPast) (stack : Description) (start : State) (requests : Requests) (text : List ℕ) (exit : Exit) → IsPlayed stack start requests text exit → IsReadOn old new → HasMetBy exit old new
    → AskedBy old new exit
played_asked old new stack start requests text (exits.Refused refusal) played read_on met = absurd played
played_asked old new stack start requests text exit played read_on met = record { read_on = read_on; met = met; unasked = λ refused. absurd cc }
