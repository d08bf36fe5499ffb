-- What a replay answers, depending on how the stack starts and on the delivered requests.
use Rattle.dmremap.specs.Base.{ℕ, true, List, [], None, Some, Delivery, IsClash, IsTidy, claims, Description, State, NumberedRequest, requests_of, Exit, Refused}
use Rattle.dm_stack.specs.declared.claims.clash.Clash.{Clash}
use Rattle.dmremap.specs.declared.exit.Refusal.TheVariants as refusals
use Rattle.dmremap.specs.Answers.{Answer, Tells, Writes, end_of, refused_by}
use Rattle.dmremap.specs.Exit.{is_flushed}
use Rattle.dmremap.specs.ReplayOutcome.{AreAnswered, IsPlayed}
use Rattle.dmremap.specs.Whole.{Begins, Refuses, Start, Unsettled}
use Rattle.std.specs.Prelude.{◌≡◌, ◌++◌}

-- the text is the answers to the first few requests, played over a stack in this state
pub record BeginsReplay (stack : Description) (state : State) (requests : List NumberedRequest) (text : List ℕ) : Type 0 where
  pub first : List NumberedRequest
  pub later : List NumberedRequest
  pub split : requests ≡ first ++ later
  pub told : AreAnswered stack state [] first text

-- what a replay answers over a stack in this state: a refusal if two claims clash, or else the text for all requests and an end, or the text for the first few
-- requests if the delivered bytes don't determine the end
abbrev pub ReplaysStack : Description → State → (requests : Delivery) → Answer → Type 0
ReplaysStack stack state requests (Tells end) = (end ≡ end_of (Refused refusals.Untidy)) × (clash : Clash) × IsClash (claims stack) clash
ReplaysStack stack state requests (Writes text (Some end)) =
    IsTidy stack × (exit : Exit) × IsPlayed stack state (requests_of requests) text exit × (is_flushed exit ≡ true) × (end ≡ end_of exit)
ReplaysStack stack state requests (Writes text None) = IsTidy stack × BeginsReplay stack state (requests_of requests).all text

-- what a replay answers over a stack, depending on its start: a state, a message that refuses the run, or a start that the inputs don't determine
abbrev pub ReplaysOver : Start → Description → (requests : Delivery) → Answer → Type 0
ReplaysOver (Begins state) stack requests answer = ReplaysStack stack state requests answer
ReplaysOver (Refuses message) stack requests answer = answer ≡ Tells (refused_by message)
ReplaysOver Unsettled stack requests answer = ⊥
