-- The requests that an input delivered, and how these requests end.
use Rattle.dm_stream.specs.Base.{ℕ, List, [], Option, None, Some, Result, Ok, Err, nat_lt, Delivery, InputPast, Stand, MetNothing, RequestValues, values_of, request_reading, Ending, BadRequest, Done, ReadFault, WriteFault, RequestWord, Form, Length, Long, Many, Number, Unended}
use Rattle.dm_table.specs.declared.requests.request.Request.{Request}
use Rattle.dm_table.specs.declared.requests.request.RequestFault.{RequestFault}
use Rattle.dm_table.specs.declared.requests.request.RequestFault.TheVariants as faults
use Rattle.dm_stream.specs.requests.Lines.{Answer, ALine, AnEnd, AnUnended, ALong, AFault, Waits, line_parts, next_answer}
use Rattle.dm_stream.specs.declared.requests.handling.TheConstants.{MOST_REQUESTS}
use Rattle.std.specs.Prelude.{◌≡◌, ◌<◌, ◌≤◌, ◌+◌, ◌∷◌, ◌++◌, if◌then◌else◌}

-- a request with the number of its line
pub record NumberedRequest : Type 0 where
  pub number : ℕ
  pub values : RequestValues

-- a parsed request with the number of its line
abbrev pub numbered : Request → NumberedRequest
numbered request = record { number = request.number; values = values_of request }

-- the requests up to the first bad line, the end or a fault, and how they end; the ending is None while it isn't settled
pub record Requests : Type 0 where
  pub all : List NumberedRequest
  pub ending : Option Ending

-- these requests, followed by later ones with their ending
abbrev pub after_requests : List NumberedRequest → Requests → Requests
after_requests first rest = record { all = first ++ rest.all; ending = rest.ending }

-- no more requests, only this ending
abbrev pub ends : Ending → Requests
ends e = record { all = []; ending = Some e }

-- no more requests, because the line with this number is bad for this reason
abbrev pub is_bad : ℕ → RequestWord → Requests
is_bad number w = ends (BadRequest number w)

-- the word that reports a fault in a line
abbrev pub word_for : RequestFault → RequestWord
word_for faults.Form = Form
word_for faults.Number = Number
word_for faults.Length = Length

-- after a line was parsed: its request and then `rest`, or the ending for a bad line
abbrev pub by_reading : ℕ → Result RequestValues RequestFault → Requests → Requests
by_reading number (Ok values) rest = after_requests (record { number = number; values = values } ∷ []) rest
by_reading number (Err fault) rest = is_bad number (word_for fault)

-- the requests from this line on, where `rest` are the requests in the lines after it
abbrev pub line_requests : ℕ → List ℕ → Requests → Requests
line_requests number line rest =
    if nat_lt MOST_REQUESTS number then is_bad number Many
    else by_reading number (request_reading line) rest

-- the requests from line `number` on, given what comes next in the input and the requests after that
abbrev pub next_requests : ℕ → Answer → Requests → Requests
next_requests number (ALine line) rest = line_requests number line rest
next_requests number AnEnd rest = ends Done
next_requests number AnUnended rest = is_bad number Unended
next_requests number ALong rest = is_bad number Long
next_requests number AFault rest = ends ReadFault
next_requests number Waits rest = record { all = []; ending = None }

-- the requests in the parts of an input between newlines; the first part is the line with this number
abbrev pub requests_from : Stand → ℕ → List (List ℕ) → Requests
requests_from stand number [] = record { all = []; ending = None }
requests_from stand number (part ∷ parts) =
    next_requests number (next_answer stand (part ∷ parts)) (requests_from stand (number + 1) parts)

-- the requests of what an input delivered
abbrev pub requests_of : Delivery → Requests
requests_of delivered = requests_from delivered.stand 1 (line_parts delivered.bytes)

-- `IsFirst` holds of the requests from the first one up to some request
pub record IsAmong (IsFirst : List NumberedRequest → Type 0) (requests : List NumberedRequest) : Type 0 where
  pub first : List NumberedRequest
  pub later : List NumberedRequest
  pub is : requests ≡ first ++ later
  pub holds : IsFirst first

-- for a given ending, whether reading met the end or a fault: at a bad line neither, except that an unterminated line is followed by the end
abbrev pub HasMet : Ending → (old new : InputPast) → Type 0
HasMet Done old new = new.faults ≤ old.faults
HasMet (BadRequest number Unended) old new = new.faults ≤ old.faults
HasMet (BadRequest number w) old new = MetNothing old new
HasMet ReadFault old new = old.faults < new.faults
HasMet WriteFault old new = Unit {0}
