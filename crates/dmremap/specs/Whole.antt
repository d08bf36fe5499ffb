-- What `map` answers for its inputs. It may first play earlier requests, without answering them, and may start in the state that exception stores hold.
use Rattle.dmremap.specs.Base.{ℕ, Bool, List, [], Option, None, Some, option_map, Delivery, InputPast, delivery, Ending, State, start_state, Description, Outcome, requests_outcome, run_outcome, HasMet, Ended, Refused, BadRequest, Done, ReadFault, WriteFault}
use Rattle.dm_stream.specs.declared.runs.earlier.EarlierFault.TheVariants as earlier
use Rattle.dmremap.specs.declared.exit.Refusal.TheVariants as refusals
use Rattle.dmremap.specs.Answers.{Answer, Tells, Writes, end_of, refused_by}
use Rattle.dmremap.specs.Load.{SoundAs}
use Rattle.dmremap.specs.Opening.{Loaded, Opened, Opening}
use Rattle.std.specs.Prelude.{◌≡◌, ◌⊎◌}

-- the outcome of playing earlier requests over a stack in this state; if there are none, the state stays as it is
abbrev pub earlier_from : State → Description → (before : Option Delivery) → Outcome
earlier_from start description None = record { output = []; state = start; ending = Some Done }
earlier_from start description (Some before) = requests_outcome description start before

-- the outcome of the delivered requests, from the state that earlier requests left; `flag` asks for status lines
abbrev pub outcome_from : State → Description → (flag : Bool) → (before : Option Delivery) → Delivery → Outcome
outcome_from start description flag before requests = run_outcome description flag (earlier_from start description before).state requests

-- how a run over a stack starts: in a state, or refused with a message; Unsettled if the delivered bytes don't determine the start
pub data Start : Type 0 where
  Begins : State → Start
  Refuses : (message : List ℕ) → Start
  Unsettled : Start

-- the start of a stack whose exception stores are not read
abbrev pub fresh_start : Description → Start
fresh_start description = Begins (start_state description)

-- what a run with this outcome answers; if earlier requests ended with a fault, the run is refused
abbrev pub answer_after : Option Ending → Outcome → Option Answer
answer_after (Some Done) outcome = Some (Writes outcome.output (option_map (λ ending. end_of (Ended ending)) outcome.ending))
answer_after (Some (BadRequest number word)) outcome = Some (Tells (end_of (Refused (refusals.Earlier (earlier.BadRequest number word)))))
answer_after (Some ReadFault) outcome = Some (Tells (end_of (Refused (refusals.Earlier earlier.Read))))
answer_after (Some WriteFault) outcome = None
answer_after None outcome = None

-- what a run answers over a stack that has this start; None if the delivered bytes don't determine the answer
abbrev pub answer_over : Start → Description → (flag : Bool) → (before : Option Delivery) → Delivery → Option Answer
answer_over (Begins state) description flag before requests =
    answer_after (earlier_from state description before).ending (outcome_from state description flag before requests)
answer_over (Refuses message) description flag before requests = Some (Tells (refused_by message))
answer_over Unsettled description flag before requests = None

-- `answer` is what `map` answers over a stack that has this start
abbrev pub MapsOver : Start → Description → (flag : Bool) → (before : Option Delivery) → (requests : Delivery) → Answer → Type 0
MapsOver start description flag before requests answer = answer_over start description flag before requests ≡ Some answer

-- `answer` is what `map` answers, given its opening, the earlier requests and the delivered requests; `flag` asks for status lines
abbrev pub Maps : (Opens : Opening → Type 0) → (starts : Description → Start) → (flag : Bool) → (before : Option Delivery) → (requests : Delivery) → Answer → Type 0
Maps Opens starts flag before requests = Opened Opens (λ stack. MapsOver (starts stack) stack flag before requests)

-- ---- earlier requests

-- earlier requests were played over a stack in this state up to their end, and nothing was read after that end
pub record ArePlayedFrom (start : State) (description : Description) (old new : InputPast) : Type 0 where
  pub end : Ending
  pub ends : (earlier_from start description (Some (delivery old new))).ending ≡ Some end
  pub met : HasMet end old new

-- earlier requests, if there are any, were played over a stack in this state
abbrev pub ArePlayedIf : {X : Type 0} → (past : X → InputPast) → State → Description → (old new : Option X) → Type 0
ArePlayedIf past start description (Some old) (Some new) = ArePlayedFrom start description (past old) (past new)
ArePlayedIf past start description (Some old) None = ⊥
ArePlayedIf past start description None (Some new) = ⊥
ArePlayedIf past start description None None = Unit {0}

-- earlier requests, if there are any, were played over a stack that has a state to start in
abbrev pub ArePlayedOver : {X : Type 0} → (past : X → InputPast) → Start → Description → (old new : Option X) → Type 0
ArePlayedOver past (Begins state) description old new = ArePlayedIf past state description old new
ArePlayedOver past (Refuses message) description old new = ⊥
ArePlayedOver past Unsettled description old new = ⊥

-- earlier requests are read only if a load gave a stack, and that stack has a state to start in
abbrev pub EarlierRead : {X : Type 0} → (past : X → InputPast) → (Opens : Opening → Type 0) → (starts : Description → Start) → (old new : Option X) → Type 0
EarlierRead past Opens starts old new =
    (new ≡ old) ⊎ ((description : Description) × Opens (Loaded (SoundAs description)) × ArePlayedOver past (starts description) description old new)
