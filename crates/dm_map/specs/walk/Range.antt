-- The steps of ranges and of lines, and what a walk down the stack requires and promises.
use Rattle.dm_map.specs.Base.{ℕ, Bool, false, [], Result, OnOk, OnErr, Op, Lower, ResolvedLine, ResolvedOrigin, ResolvedSnapshot, ResolvedTarget, fault_of, Description, is_ro_at, lower_len, Below, below_target, IsLine, IsLineOf, AreInside, IsBeneath, snapshots_over, MOST_LENGTH, Read, Write}
use Rattle.dm_stack.specs.declared.lines.leg.Leg.{Leg}
use Rattle.dm_map.specs.state.Counts.{AreAdded}
use Rattle.dm_map.specs.pieces.Sink.{OfBeginning, SinkPast}
use Rattle.dm_map.specs.walk.Chunk.{AreInChunk, AreInSnapshot}
use Rattle.dm_map.specs.walk.Reads.{by_below, read_unit}
use Rattle.dm_map.specs.walk.Serving.{served_step}
use Rattle.dm_map.specs.state.Snapshots.{read_over}
use Rattle.dm_map.specs.state.State.{State, taken_at}
use Rattle.dm_map.specs.walk.SnapshotWrites.{write_snapshot}
use Rattle.dm_map.specs.walk.Steps.{Step, keep, steps}
use Rattle.dm_map.specs.state.Walker.{WalkerView}
use Rattle.dm_map.specs.pieces.Units.{BlockUnit, Zeros, Drops, Fails}
use Rattle.dm_map.specs.walk.Mapping.{write_step, write_target, sector_step}
use Rattle.std.specs.Prelude.{◌≡◌, ◌+◌, ◌≤◌, ◌∷◌}

-- the unit of a read or a write of a sector of a zero target
abbrev pub zero_unit : Op → BlockUnit
zero_unit Read = Zeros
zero_unit Write = Drops

-- the step of len sectors of a device or a disk, from `sector` on, in rising order
abbrev pub range_step : Description → Op → ℕ → Lower → State → (sector len : ℕ) → Step
range_step stack op levels lower state sector len = steps (sector_step stack op levels lower) state sector len

-- the step of a sector at a distance into a line of a device with this target, through at most this many levels of devices below it
abbrev pub target_step : Description → Op → ℕ → (device : ℕ) → ResolvedTarget → State → (distance : ℕ) → Step
target_step stack Read levels device target state distance =
    keep (by_below (below_target (read_over (taken_at state device)) target distance) Zeros Fails (λ to sector. read_unit stack state levels to sector) ∷ []) state
target_step stack Write levels device target state distance = write_target stack state device target distance (λ to after sector. write_step stack levels to after sector)

-- the step of len sectors of a line with this target, from a distance into the line on
abbrev pub line_step : Description → Op → ℕ → (device : ℕ) → ResolvedTarget → State → (distance len : ℕ) → Step
line_step stack op levels device target state distance len = steps (target_step stack op levels device target) state distance len

-- the step of a sector, given what lies below the sector
abbrev pub below_step : Description → Op → ℕ → Below → State → Step
below_step stack op levels b state = by_below b (keep (zero_unit op ∷ []) state) (keep (Fails ∷ []) state) (λ to sector. sector_step stack op levels to state sector)

-- the step of a sector of an origin's device, through at most this many levels of devices below it
abbrev pub served_sector : Description → Op → ℕ → ResolvedOrigin → State → (sector : ℕ) → Step
served_sector stack Read levels origin state sector = sector_step stack Read levels origin.to state sector
served_sector stack Write levels origin state sector = served_step stack origin.over (sector_step stack Write levels origin.to) state sector

-- the step of len sectors of an origin's device, in rising order
abbrev pub origin_step : Description → Op → ℕ → ResolvedOrigin → State → (sector len : ℕ) → Step
origin_step stack op levels origin state sector len = steps (served_sector stack op levels origin) state sector len

-- the device fails all requests of this kind, because they are writes and the device is read-only
abbrev pub refuses : Description → Op → ℕ → Bool
refuses stack Read device = false
refuses stack Write device = is_ro_at stack device

-- the sink accepts pieces on this stack's disks, and has room for len sectors
pub record HasRoomFor {S : Type 0} (past : SinkPast S) (sink : S) (of : Description) (len : ℕ) : Type 0 where
  pub stack : (past.view sink).stack ≡ of
  pub room : len ≤ (past.view sink).room

-- len sectors of a device or a disk may be walked: len is at least 1, the device or disk has the sectors, and the sink has room for them
pub record AreAsked {S : Type 0} (past : SinkPast S) (taker : S) (stack : Description) (lower : Lower) (sector len : ℕ) : Type 0 where
  pub some : 1 ≤ len
  pub inside : sector + len ≤ lower_len stack lower
  pub sink : HasRoomFor past taker stack len

-- len sectors of an origin's device may be walked, and `origin.over` lists all snapshots of the device or disk that the origin names
pub record AreAskedOfOrigin {S : Type 0} (past : SinkPast S) (taker : S) (stack : Description) (origin : ResolvedOrigin) (sector len : ℕ) : Type 0 where
  pub over : origin.over ≡ snapshots_over stack origin.to
  pub asked : AreAsked past taker stack origin.to sector len

-- len sectors of a snapshot may be walked, and they end within the limit on lengths
pub record AreAskedOfSnapshot {S : Type 0} (past : SinkPast S) (taker : S) (stack : Description) (device : ℕ) (snapshot : ResolvedSnapshot) (sector len : ℕ) : Type 0 where
  pub some : 1 ≤ len
  pub inside : AreInSnapshot stack device snapshot sector len
  pub small : sector + len ≤ MOST_LENGTH
  pub sink : HasRoomFor past taker stack len

-- len sectors of one chunk of a snapshot may be walked
pub record AreAskedOfChunk {S : Type 0} (past : SinkPast S) (taker : S) (stack : Description) (device : ℕ) (snapshot : ResolvedSnapshot) (sector len : ℕ) : Type 0 where
  pub some : 1 ≤ len
  pub chunk : AreInChunk stack device snapshot sector len
  pub sink : HasRoomFor past taker stack len

-- a walk may reach a sector of this line, because at least one level is left and the device doesn't refuse the operation
pub record IsAtLine (stack : Description) (op : Op) (levels device : ℕ) (line : ResolvedLine) (sector : ℕ) : Type 0 where
  pub deep : 1 ≤ levels
  pub passes : refuses stack op device ≡ false
  pub of : IsLineOf stack device line sector

-- a leg that starts at a distance into a line: its sectors lie in the line, and the sectors below them are all in their device or disk
pub record IsLegOf (stack : Description) (device : ℕ) (line : ResolvedLine) (distance : ℕ) (leg : Leg) : Type 0 where
  pub of : IsLine stack device line
  pub some : 1 ≤ leg.len
  pub inside : distance + leg.len ≤ line.len
  pub is : IsBeneath line.target distance leg.len leg.below
  pub lies : AreInside stack leg.len leg.below

-- the promise of a walk of len sectors: the sink received the units of the step, and the state is the one after the step; or the sink failed after a prefix of the units
pub record IsWalked {S R F : Type 0} (past : SinkPast S) (result : Result R F) (old new : S) (before after : WalkerView) (step : Step) (len : ℕ) : Type 0 where
  pub took : OnOk result (past.took old step.units new)
  pub state : OnOk result (after.state ≡ step.state)
  pub kept : OnOk result ((past.view new).stack ≡ (past.view old).stack)
  pub room : OnOk result ((past.view old).room ≤ (past.view new).room + len)
  pub left : OnErr result (OfBeginning past.left old step.units new)
  pub faults : (past.view new).faults ≡ (past.view old).faults + fault_of result
  pub stack : after.stack ≡ before.stack
  pub looked : AreAdded before.looked after.looked

-- the promise of a write of len sectors of a snapshot: the sink received the units of the write, or failed after a prefix of them
abbrev pub IsSnapshotWritten : {S R F : Type 0} → SinkPast S → Result R F → (old new : S) → (before after : WalkerView) → ResolvedSnapshot → (device sector len : ℕ) → Type 0
IsSnapshotWritten past result old new before after snapshot device sector len =
    IsWalked past result old new before after (steps (write_snapshot before.stack snapshot device) before.state sector len) len
