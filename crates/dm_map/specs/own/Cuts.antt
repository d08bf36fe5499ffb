-- What a power cut may leave: sectors without data may hold anything, and a kernel may have copied and listed chunks before the write that needs them (dm-snap copies a chunk first, then lists the chunk, then writes).
use Rattle.dm_map.specs.Base.{ℕ, List, [], Some, length, AllByRecursion, ResolvedSnapshot, IsTidy, Description, lower_len, place}
use Rattle.dm_map.specs.own.Contents.{Values, played}
use Rattle.dm_map.specs.own.Lists.{IsListSector}
use Rattle.dm_map.specs.own.Losses.{Due}
use Rattle.dm_map.specs.own.Rows.{AreOwn, Rows}
use Rattle.dm_map.specs.state.State.{State, taken_at}
use Rattle.dm_map.specs.state.Tables.{snapshot_at}
use Rattle.dm_map.specs.walk.Homes.{home}
use Rattle.dm_map.specs.walk.SnapshotWrites.{take_chunk}
use Rattle.dm_map.specs.walk.Steps.{Step, keep, and_then}
use Rattle.std.specs.Prelude.{◌≡◌, ◌/◌, ◌<◌, ◌∷◌}

-- Sectors without data

-- a disk sector of a snapshot's store that holds no part of a taken chunk, so it is part of the store's list or is never read
pub record IsSpareSector (stack : Description) (state : State) (disk sector : ℕ) : Type 0 where
  pub device : ℕ
  pub snapshot : ResolvedSnapshot
  pub over : snapshot_at stack device ≡ Some snapshot
  pub at : ℕ
  pub inside : at < lower_len stack snapshot.store
  pub free : (number : ℕ) → number < length (taken_at state device).chunks → at / snapshot.chunk ≡ place snapshot.kind snapshot.chunk number → ⊥
  pub home : home stack snapshot.store at ≡ record { disk = disk; sector = sector }

-- two sets of disks hold equal values in all sectors except those without data
abbrev pub HaveSameData : {V : Type 0} → Description → State → (values others : Values V) → Type 0
HaveSameData stack state values others = (disk sector : ℕ) → (IsSpareSector stack state disk sector → ⊥) → others disk sector ≡ values disk sector

-- Chunks that are taken ahead of writes

-- the chunk belongs to a snapshot of the stack, though it may lie past the end of that snapshot's device
abbrev pub IsOfSnapshot : Description → Due → Type 0
IsOfSnapshot stack one = snapshot_at stack one.device ≡ Some one.snapshot

-- the step that takes these chunks one after the other: their copies and fills, and the state after them
unfoldable pub take_chunks : Description → List Due → State → Step
take_chunks stack [] state = keep [] state
take_chunks stack (one ∷ later) state = and_then (take_chunk stack one.snapshot one.device one.chunk state) (λ after. take_chunks stack later after)

-- if no claims clash, each sector of a top device still reads as last written through it, or as an error, after a power cut
pub record AreCutAlone (V : Type 0) (stack : Description) : Type 0 where
  -- the values of sectors without data may change in any way
  pub spare : (zeros : V) (state : State) (values others : Values V) (rows : Rows V) → IsTidy stack → AreOwn zeros stack state values rows → HaveSameData stack state values others → AreOwn zeros stack state others rows
  -- every sector of a store's list is a sector without data
  pub lists : (state : State) (disk sector : ℕ) → IsListSector stack disk sector → IsSpareSector stack state disk sector
  -- any chunks may be taken ahead of writes, in any order: each is copied and listed, or its snapshot becomes lost
  pub ahead : (zeros : V) (written : ℕ → V) (state : State) (sector : ℕ) (chunks : List Due) (values : Values V) (rows : Rows V) → IsTidy stack → AllByRecursion (IsOfSnapshot stack) chunks → AreOwn zeros stack state values rows
      → AreOwn zeros stack (take_chunks stack chunks state).state (played zeros written sector (take_chunks stack chunks state).units values) rows
