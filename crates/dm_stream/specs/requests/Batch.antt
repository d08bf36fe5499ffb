-- Requests at the front of the held bytes that are answered together, as a batch.
use Rattle.dm_stream.specs.Base.{ℕ, List, Result, Ok, Err, drop, length, map, Stand}
use Rattle.dm_stream.specs.requests.Lines.{line_parts}
use Rattle.dm_stream.specs.requests.Requests.{IsAmong, NumberedRequest, after_requests, numbered, requests_from}
use Rattle.dm_stream.specs.declared.requests.batch.Answered.{Answered}
use Rattle.dm_stream.specs.declared.requests.front.Front.{Front}
use Rattle.dm_stream.specs.declared.requests.handling.TheConstants.{MOST_REQUESTS}
use Rattle.std.specs.Prelude.{◌≡◌, ◌+◌, ◌≤◌, ◌++◌}

-- whatever bytes follow, the requests in `bytes` from line `n` on are `requests`, followed by those in `rest` from line `k` on
abbrev pub AreFirst : (n : ℕ) (bytes : List ℕ) → List NumberedRequest → (k : ℕ) (rest : List ℕ) → Type 0
AreFirst n bytes requests k rest =
    (stand : Stand) (more : List ℕ) → requests_from stand n (line_parts (bytes ++ more)) ≡ after_requests requests (requests_from stand k (line_parts (rest ++ more)))

-- the requests in a list of fronts, with their line numbers
abbrev pub front_requests : List Front → List NumberedRequest
front_requests fronts = map (λ front. numbered front.request) fronts

-- some requests at the front of `bytes`, from line `n` on, were answered; the following ones are in `rest`, from line `k` on
abbrev pub AreFirstAnswered : {H S : Type 0} → (AreAnswered : H → S → List NumberedRequest → H → S → Type 0) → (n : ℕ) (bytes : List ℕ) (k : ℕ) (rest : List ℕ) → H → S → H → S → Type 0
AreFirstAnswered AreAnswered n bytes k rest h0 s0 h1 s1 = (requests : List NumberedRequest) × AreFirst n bytes requests k rest × AreAnswered h0 s0 requests h1 s1

-- `IsThis` holds of the first requests in `bytes`, from line `n` on, up to some request
abbrev pub IsAmongFirst : (IsThis : List NumberedRequest → Type 0) → (n : ℕ) (bytes : List ℕ) → Type 0
IsAmongFirst IsThis n bytes =
    (requests : List NumberedRequest) × (k : ℕ) × (rest : List ℕ) × AreFirst n bytes requests k rest × IsAmong IsThis requests

-- after `others` requests, as many requests as `fronts` counts were answered from the front of `bytes`, and the handler is ready for more
pub record HasAnsweredFronts {H S : Type 0} (IsReady : H → S → Type 0) (AreAnswered : H → S → List NumberedRequest → H → S → Type 0) (others : ℕ) (bytes : List ℕ) (fronts : Answered) (h0 : H) (s0 : S) (h1 : H) (s1 : S) : Type 0 where
  pub answered : AreFirstAnswered AreAnswered (others + 1) bytes (others + fronts.count + 1) (drop fronts.len bytes) h0 s0 h1 s1
  pub within : fronts.len ≤ length bytes
  pub few : others + fronts.count ≤ MOST_REQUESTS
  pub ready : IsReady h1 s1

-- requests at the front of `bytes` were answered, or the handler stopped at one of them
abbrev pub AnswersFronts : {H S F : Type 0} → (IsReady : H → S → Type 0) → (AreAnswered : H → S → List NumberedRequest → H → S → Type 0) → (AreStopped : H → S → List NumberedRequest → F → H → S → Type 0) → (others : ℕ) (bytes : List ℕ) → H → S → H → S → Result Answered F → Type 0
AnswersFronts IsReady AreAnswered AreStopped others bytes h0 s0 h1 s1 (Ok fronts) = HasAnsweredFronts IsReady AreAnswered others bytes fronts h0 s0 h1 s1
AnswersFronts IsReady AreAnswered AreStopped others bytes h0 s0 h1 s1 (Err fault) = IsAmongFirst (λ first. AreStopped h0 s0 first fault h1 s1) (others + 1) bytes
