-- A replay, and the meaning of its results.
use Rattle.dm_replay.specs.Base.{ℕ, Bool, true, false, List, [], None, Some, length, position, AllByRecursion, Request, AreTops, IsClash, IsTidy, IsTop, claims, Description, device_id, device_len, is_same, MapperView, IsAmple, IsIntact, IsFitting, State, start_state, KeptWrite, ValueRun}
use Rattle.dm_table.specs.declared.requests.request.Op.TheVariants.{Read}
use Rattle.dm_stack.specs.declared.claims.clash.Clash.{Clash}
use Rattle.dm_table.specs.declared.requests.request.TheConstants.{MOST_SECTORS}
use Rattle.dm_replay.specs.declared.range_values.RangeValues.{RangeValues}
use Rattle.dm_replay.specs.declared.replay_fault.ReplayFault.{ReplayFault}
use Rattle.dm_replay.specs.declared.replay_fault.ReplayFault.TheVariants as faults
use Rattle.dm_replay.specs.Histories.{Asked, asked_answers, world_after}
use Rattle.dm_replay.specs.OfDisks.{AreRunsOf, AreValuesOf}
use Rattle.dm_replay.specs.Reruns.{kept_request, rerun_from}
use Rattle.dm_replay.specs.Rows.{AreExactlyRow, AreOfRow, rows_after}
use Rattle.dm_replay.specs.Runs.{flat}
use Rattle.dm_replay.specs.Stored.{values_of}
use Rattle.std.specs.Prelude.{◌≡◌, ◌+◌, ◌<◌, ◌≤◌, ◌∷◌, ◌++◌}

-- the value of a replay: its stack, the state it started in, the requests it accepted, and whether it failed because memory ran out
pub record Replaying : Type 0 where
  pub stack : Description
  pub start : State
  pub asked : List Asked
  pub failed : Bool

-- a replay that starts in the state `start` and has accepted no requests yet
abbrev pub replay_from : Description → (start : State) → Replaying
replay_from of start = record { stack = of; start = start; asked = []; failed = false }

-- a replay that has accepted no requests yet, and starts with snapshots that have no exceptions
abbrev pub new_replay : Description → Replaying
new_replay of = replay_from of (start_state of)

-- a request to the device with this id, played to its end
abbrev pub whole_request : Request → (id : ℕ) → Asked
whole_request request id = kept_request request id None

-- a request to the device with the name in the request, played to its end
abbrev pub asked_request : Description → Request → Asked
asked_request stack request = whole_request request (device_id stack request.device.now)

-- a request to the device with the name in the request, halted after `units` units
abbrev pub halted_request : Description → Request → (units : ℕ) → Asked
halted_request stack request units = kept_request request (device_id stack request.device.now) (Some units)

-- some top device has this name
pub record HasTop (of : Description) (name : List ℕ) : Type 0 where
  pub id : ℕ
  pub named : position (λ device. is_same device.name name) of.devices ≡ Some id
  pub top : IsTop of id

-- why a replay can't start: two claims clash, or memory ran out
abbrev pub IsNotBegun : ReplayFault → Description → Type 0
IsNotBegun faults.Untidy of = (clash : Clash) × IsClash (claims of) clash
IsNotBegun faults.Memory of = Unit {0}
IsNotBegun faults.NotTop of = ⊥
IsNotBegun faults.Stopped of = ⊥

-- a request was answered with these runs, and added to the accepted ones. For a read, the answer of each sector is its value in the device's row, or an error. There is no error if the stack
-- can't lose anything, no snapshot was lost at the start, and the read ends within the device
pub record IsAnswered (old new : Replaying) (request : Asked) (runs : List ValueRun) : Type 0 where
  pub answers : AreRunsOf (length old.stack.disks) (asked_answers old.stack (world_after old.stack old.start old.asked) request) runs
  pub own : request.op ≡ Read → AreOfRow (rows_after old.stack old.start old.asked) request.device request.start (flat runs)
  pub exact : IsAmple old.stack → IsIntact old.stack old.start → request.op ≡ Read → request.start + request.len ≤ device_len old.stack request.device → AreExactlyRow (rows_after old.stack old.start old.asked) request.device request.start (flat runs)
  pub asked : new.asked ≡ old.asked ++ request ∷ []
  pub going : old.failed ≡ false
  pub goes_on : new.failed ≡ false

-- why a request was not answered, and the replay after that; `IsOfTop` holds if the request's device is a top device
abbrev pub IsUnanswered : ReplayFault → (IsOfTop : Type 0) → (old new : Replaying) → Type 0
IsUnanswered faults.Untidy IsOfTop old new = ⊥
IsUnanswered faults.Memory IsOfTop old new = (old.failed ≡ false) × IsOfTop × (new.failed ≡ true)
IsUnanswered faults.NotTop IsOfTop old new = (old.failed ≡ false) × (IsOfTop → ⊥) × (new ≡ old)
IsUnanswered faults.Stopped IsOfTop old new = (old.failed ≡ true) × (new ≡ old)

-- why a request to the device with this name was not answered, and the replay after that
abbrev pub IsNotAnswered : ReplayFault → List ℕ → (old new : Replaying) → Type 0
IsNotAnswered fault name old new = IsUnanswered fault (HasTop old.stack name) old new

-- why a request to the device with this name was not halted; the replay can't be used any more
abbrev pub IsNotHalted : ReplayFault → List ℕ → Replaying → Type 0
IsNotHalted faults.Untidy name old = ⊥
IsNotHalted faults.Memory name old = (old.failed ≡ false) × HasTop old.stack name
IsNotHalted faults.NotTop name old = (old.failed ≡ false) × (HasTop old.stack name → ⊥)
IsNotHalted faults.Stopped name old = old.failed ≡ true

-- a kept write: to a top device of the stack, with at most as many whole sectors as a request can have
pub record IsKept (of : Description) (kept : KeptWrite) : Type 0 where
  pub there : kept.device < length of.devices
  pub top : IsTop of kept.device
  pub few : kept.whole ≤ MOST_SECTORS

-- all these requests are to top devices of the stack
abbrev pub AreOfTops : Description → List Asked → Type 0
AreOfTops of all = AllByRecursion (λ asked. IsTop of asked.device) all

-- the mapper and the player agree with the world after the accepted requests, and mapping the kept writes again from the start leaves the same state
pub record IsGoing (of : Description) (start : State) (mapper : MapperView) (disks : Description) (ranges : List (List (ℕ × RangeValues))) (all : List Asked) (writes : List KeptWrite) : Type 0 where
  pub maps : mapper.failed ≡ false
  pub mapper_stack : mapper.stack ≡ of
  pub player_stack : disks ≡ of
  pub state_is : mapper.state ≡ (world_after of start all).state
  pub values_are : (disk sector : ℕ) → values_of ranges disk sector ≡ (world_after of start all).values disk sector
  pub disks_are : AreValuesOf (length of.disks) (values_of ranges)
  pub asked_are : AreOfTops of all
  pub kept_are : AllByRecursion (IsKept of) writes
  pub rerun_is : rerun_from of start writes ≡ (world_after of start all).state

-- a replay of a stack whose claims don't clash: it knows the top devices, the start state fits the stack and, unless the replay failed, its mapper and player are right
pub record IsReplay (of : Description) (start : State) (tops : List Bool) (mapper : MapperView) (disks : Description) (ranges : List (List (ℕ × RangeValues))) (all : List Asked) (writes : List KeptWrite) (ended : Bool) : Type 0 where
  pub tidy : IsTidy of
  pub tops_are : AreTops of tops
  pub fits : IsFitting of start
  pub going : ended ≡ false → IsGoing of start mapper disks ranges all writes
