-- The view of a mapper, and the promise of `Mapper::request` for each of its results.
use Rattle.dm_map.specs.Base.{ℕ, Bool, true, false, List, Result, Ok, Err, OnOk, Read, Request, stack_depth, Description}
use Rattle.dm_map.specs.pieces.Sink.{OfBeginning, SinkPast}
use Rattle.dm_map.specs.pieces.Units.{BlockUnit}
use Rattle.dm_map.specs.state.Counts.{Counts, grown_by, most_comparisons}
use Rattle.dm_map.specs.state.Fitting.{IsWithinPlaces}
use Rattle.dm_map.specs.state.State.{State}
use Rattle.dm_map.specs.walk.Mapping.{step_for}
use Rattle.dm_map.specs.walk.Path.{read_stretches}
use Rattle.dm_map.specs.declared.mapper.MapFault.{MapFault}
use Rattle.dm_map.specs.declared.mapper.MapFault.TheVariants as faults
use Rattle.std.specs.Prelude.{◌≡◌, ◌+◌, ◌*◌, ◌≤◌}

-- what contracts see of a mapper: its stack, the state of the snapshots, whether the sink failed, the counts of its looker, and the counts of the last request that was not refused as `Stopped`
pub record MapperView : Type 0 where
  pub stack : Description
  pub state : State
  pub failed : Bool
  pub looked : Counts
  pub last : Counts

-- the mapper with these counts for its looker, as after look-ups that belong to no request
abbrev pub with_looked : MapperView → Counts → MapperView
with_looked mapper counts = record { stack = mapper.stack; state = mapper.state; failed = mapper.failed; looked = counts; last = mapper.last }

-- if the sink failed during this request, P holds
abbrev pub OnSinkFault : {R F : Type 0} → Result R (MapFault F) → Type 0 → Type 0
OnSinkFault (Ok done) P = Unit {0}
OnSinkFault (Err (faults.Sink fault)) P = P
OnSinkFault (Err faults.Stopped) P = Unit {0}

-- if the request was refused because an earlier one had failed, P holds
abbrev pub OnStopped : {R F : Type 0} → Result R (MapFault F) → Type 0 → Type 0
OnStopped (Ok done) P = Unit {0}
OnStopped (Err (faults.Sink fault)) P = Unit {0}
OnStopped (Err faults.Stopped) P = P

-- P holds, unless the request was refused because an earlier one had failed
abbrev pub OnTried : {R F : Type 0} → Result R (MapFault F) → Type 0 → Type 0
OnTried (Ok done) P = P
OnTried (Err (faults.Sink fault)) P = P
OnTried (Err faults.Stopped) P = Unit {0}

-- the sink failed after a prefix of these units, and the mapper, which had not failed before, is now marked as failed
pub record HasFailed {S : Type 0} (past : SinkPast S) (old new : S) (before after : MapperView) (units : List BlockUnit) : Type 0 where
  pub left : OfBeginning past.left old units new
  pub faults : (past.view new).faults ≡ (past.view old).faults + 1
  pub going : before.failed ≡ false
  pub failed : after.failed ≡ true

-- the promise of a request to a device: the sink received all units of the request, and the mapper is in the state after the request; or the sink failed, and the mapper is marked as failed; or the mapper had failed earlier, and nothing changed. Unless the mapper had failed earlier, the searches are counted, and a read makes at most one search per level for each stretch of sectors with one path
pub record HasMapped {S R F : Type 0} (past : SinkPast S) (result : Result R (MapFault F)) (old new : S) (before after : MapperView) (request : Request) (device : ℕ) : Type 0 where
  pub took : OnOk result (past.took old (step_for before.stack request device before.state).units new)
  pub state : OnOk result (after.state ≡ (step_for before.stack request device before.state).state)
  pub kept : OnOk result (((past.view new).stack ≡ (past.view old).stack) × ((past.view new).faults ≡ (past.view old).faults))
  pub going : OnOk result ((before.failed ≡ false) × (after.failed ≡ false))
  pub failed : OnSinkFault result (HasFailed past old new before after (step_for before.stack request device before.state).units)
  pub stopped : OnStopped result ((before.failed ≡ true) × (after ≡ before) × (new ≡ old))
  pub counted : OnTried result (after.looked ≡ grown_by before.looked after.last)
  pub few : OnTried result (after.last.comparisons ≤ most_comparisons * after.last.searches)
  pub bounded : OnTried result (request.op ≡ Read → after.last.searches ≤ stack_depth before.stack * read_stretches before.stack before.state device request.start request.len)
  pub stack : after.stack ≡ before.stack
  pub within : IsWithinPlaces after.stack after.state
