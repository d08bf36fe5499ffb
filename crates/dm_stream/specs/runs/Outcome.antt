-- What a run writes for the delivered requests, the state that they leave, and how the run ends.
use Rattle.dm_stream.specs.Base.{ℕ, Bool, List, [], Option, None, Some, position, Delivery, Description, is_same, request_step, State, Step, Ending, BadRequest, Done, ReadFault, WriteFault, Unknown}
use Rattle.dm_stream.specs.pieces.PieceText.{pieces_text}
use Rattle.dm_stream.specs.pieces.Pieces.{fewest}
use Rattle.dm_stream.specs.requests.Requests.{NumberedRequest, requests_of}
use Rattle.dm_stream.specs.runs.StatusLines.{status_text}
use Rattle.std.specs.Prelude.{◌∷◌, ◌++◌, if◌then◌else◌}

-- what is written, the state that is left, and how the run ends; the ending is None while it isn't settled
pub record Outcome : Type 0 where
  pub output : List ℕ
  pub state : State
  pub ending : Option Ending

-- an outcome whose output begins with `text`, followed by the output of `rest`
abbrev pub after_text : List ℕ → Outcome → Outcome
after_text text rest = record { output = text ++ rest.output; state = rest.state; ending = rest.ending }

-- the id of the device with this name, if there is one
abbrev pub device_of : Description → List ℕ → Option ℕ
device_of stack name = position (λ device. is_same device.name name) stack.devices

-- what a request to a device does, in the state that earlier requests left
abbrev pub step_of : Description → (device : ℕ) → NumberedRequest → State → Step
step_of stack device request state =
    request_step stack request.values.op device request.values.start request.values.len state

-- the answer to a request to a device: the fewest pieces that cover its units, as lines
abbrev pub request_answer : Description → (device : ℕ) → NumberedRequest → State → List ℕ
request_answer stack device request state =
    pieces_text stack request.number (fewest (step_of stack device request state).units)

-- the outcome of a request and those after it, whose outcome is `later`; if the request's device is unknown, the outcome ends there
abbrev pub of_device : Description → Option ℕ → NumberedRequest → State → (State → Outcome) → Outcome
of_device stack (Some device) request state later =
    after_text (request_answer stack device request state) (later (step_of stack device request state).state)
of_device stack None request state later =
    record { output = []; state = state; ending = Some (BadRequest request.number Unknown) }

-- the outcome of requests, each answered in the state that the previous one left
abbrev pub outcome_from : Description → State → List NumberedRequest → Option Ending → Outcome
outcome_from stack state [] e = record { output = []; state = state; ending = e }
outcome_from stack state (request ∷ requests) e =
    of_device stack (device_of stack request.values.device) request state (λ after. outcome_from stack after requests e)

-- the outcome of all delivered requests, without status lines
abbrev pub requests_outcome : Description → State → Delivery → Outcome
requests_outcome stack state delivered =
    let requests = requests_of delivered in outcome_from stack state requests.all requests.ending

-- the text after the answers: `text` if it was asked for and the requests ended cleanly, or else nothing
abbrev pub if_done : (asked : Bool) → Option Ending → List ℕ → List ℕ
if_done asked (Some Done) text = if asked then text else []
if_done asked (Some (BadRequest number w)) text = []
if_done asked (Some ReadFault) text = []
if_done asked (Some WriteFault) text = []
if_done asked None text = []

-- the outcome with the status lines of its state after its output, if `status` is true and the requests ended cleanly
abbrev pub with_status : Description → (status : Bool) → Outcome → Outcome
with_status stack status outcome =
    record outcome { output = outcome.output ++ if_done status outcome.ending (status_text stack outcome.state) }

-- the outcome of all delivered requests, with status lines if `status` is true
abbrev pub run_outcome : Description → (status : Bool) → State → Delivery → Outcome
run_outcome stack status state delivered = with_status stack status (requests_outcome stack state delivered)
