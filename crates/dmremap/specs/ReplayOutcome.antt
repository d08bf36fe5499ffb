-- What a replay writes for the delivered requests, and how it exits.
use Rattle.dmremap.specs.Base.{ℕ, List, [], None, Some, map, since, IsCutShort, Description, device_id, State, Ending, NumberedRequest, Requests, Asked, asked_answers, world_after, HasTop, AreMaximal, flat, runs_text, Exit, BadRequest, Done, ReadFault, WriteFault}
use Rattle.dm_replay.specs.declared.value_run.ValueRun.{ValueRun}
use Rattle.dmremap.specs.declared.exit.Exit.TheVariants as exits
use Rattle.std.specs.Prelude.{◌≡◌, ◌∷◌, ◌++◌}

-- the record of a request that was played to its end, and not halted
abbrev pub asked_of : Description → NumberedRequest → Asked
asked_of stack request = record {
  number = request.number;
  op = request.values.op;
  device = device_id stack request.values.device;
  start = request.values.start;
  len = request.values.len;
  halted_after = None;
}

-- the text for a request that is played after those in `asked`: a line for each maximal run of its sectors with the same answer
pub record IsAnswer (stack : Description) (start : State) (asked : List Asked) (request : NumberedRequest) (text : List ℕ) : Type 0 where
  pub top : HasTop stack request.values.device
  pub runs : List ValueRun
  pub maximal : AreMaximal runs
  pub answers : flat runs ≡ asked_answers stack (world_after stack start asked) (asked_of stack request)
  pub is : runs_text stack request.number runs ≡ text

-- the text for a list of requests, each played after those before it
abbrev pub AreAnswered : Description → (start : State) → List Asked → List NumberedRequest → List ℕ → Type 0
AreAnswered stack start asked [] text = [] ≡ text
AreAnswered stack start asked (request ∷ requests) text =
    (first : List ℕ) × (rest : List ℕ) × IsAnswer stack start asked request first
    × AreAnswered stack start (asked ++ asked_of stack request ∷ []) requests rest × (first ++ rest ≡ text)

-- `text` is the text for the requests before the first one that isn't answered, and `IsCause` holds for that one
pub record StopsAt (IsCause : NumberedRequest → Type 0) (stack : Description) (start : State) (asked : List Asked) (requests : List NumberedRequest) (text : List ℕ) : Type 0 where
  pub first : List NumberedRequest
  pub last : NumberedRequest
  pub later : List NumberedRequest
  pub split : requests ≡ first ++ last ∷ later
  pub told : AreAnswered stack start asked first text
  pub cause : IsCause last

-- the request has the number `number`, and its device is not a top device
pub record IsOfNone (stack : Description) (number : ℕ) (request : NumberedRequest) : Type 0 where
  pub of_number : request.number ≡ number
  pub none : HasTop stack request.values.device → ⊥

-- the request's device is a top device
abbrev pub IsOfTop : Description → NumberedRequest → Type 0
IsOfTop stack request = HasTop stack request.values.device

-- a write failed, and `text` is a proper prefix of the text for the first few requests
pub record IsCutReplay (stack : Description) (start : State) (asked : List Asked) (requests : List NumberedRequest) (text : List ℕ) : Type 0 where
  pub first : List NumberedRequest
  pub later : List NumberedRequest
  pub split : requests ≡ first ++ later
  pub whole : List ℕ
  pub told : AreAnswered stack start asked first whole
  pub cut : IsCutShort whole text

-- ---- a player of requests

-- the player accepted these requests, and their text was written
pub record HasPlayed (stack : Description) (start : State) (old new : List Asked) (requests : List NumberedRequest) (before after : List ℕ) : Type 0 where
  pub asked : new ≡ old ++ map (asked_of stack) requests
  pub told : AreAnswered stack start old requests (since before after)

-- the player stopped at one of these requests and wrote the text for the requests before that one, or a write failed
abbrev pub HasStopped : Description → (start : State) → Exit → List Asked → List NumberedRequest → List ℕ → Type 0
HasStopped stack start (exits.NotTop number) asked requests text = StopsAt (IsOfNone stack number) stack start asked requests text
HasStopped stack start exits.Memory asked requests text = StopsAt (IsOfTop stack) stack start asked requests text
HasStopped stack start (exits.Ended WriteFault) asked requests text = IsCutReplay stack start asked requests text
HasStopped stack start exit asked requests text = ⊥

-- ---- a whole replay

-- all requests were answered with this text, and the input of requests ended as `e`
pub record IsWhole (stack : Description) (start : State) (requests : Requests) (text : List ℕ) (e : Ending) : Type 0 where
  pub ends_so : requests.ending ≡ Some e
  pub told : AreAnswered stack start [] requests.all text

-- what a replay wrote before its output is closed, depending on its exit
abbrev pub IsPlayed : Description → (start : State) → Requests → List ℕ → Exit → Type 0
IsPlayed stack start requests text (exits.Ended Done) = IsWhole stack start requests text Done
IsPlayed stack start requests text (exits.Ended (BadRequest number word)) = IsWhole stack start requests text (BadRequest number word)
IsPlayed stack start requests text (exits.Ended ReadFault) = IsWhole stack start requests text ReadFault
IsPlayed stack start requests text exit = HasStopped stack start exit [] requests.all text
