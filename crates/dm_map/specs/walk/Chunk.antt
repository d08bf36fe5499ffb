-- Sectors of one chunk of a snapshot: where they are read from, and where the store keeps them once the chunk is taken.
use Rattle.dm_map.specs.Base.{ℕ, true, Some, ResolvedSnapshot, Description, device_len, lower_len, Lies, IsSnapshotSound, HomeStretch}
use Rattle.dm_map.specs.declared.walk.chunk.ReadAt.{ReadAt}
use Rattle.dm_map.specs.state.Snapshots.{has_place, number_in, read_over, store_sector}
use Rattle.dm_map.specs.state.State.{State, taken_at}
use Rattle.dm_map.specs.state.Tables.{snapshot_at}
use Rattle.dm_map.specs.walk.Homes.{IsFirstHomes}
use Rattle.dm_map.specs.walk.SnapshotWrites.{count_of, first_of}
use Rattle.std.specs.Prelude.{◌≡◌, ◌+◌, ◌%◌, ◌<◌, ◌≤◌}

-- the device is this snapshot, which is sound, and has len sectors from `sector` on
pub record AreInSnapshot (stack : Description) (device : ℕ) (snapshot : ResolvedSnapshot) (sector len : ℕ) : Type 0 where
  pub is : snapshot_at stack device ≡ Some snapshot
  pub sound : IsSnapshotSound stack device 0 (device_len stack device) snapshot
  pub inside : sector + len ≤ device_len stack device

-- the device is this snapshot, and has len sectors from `sector` on, all in one chunk
pub record AreInChunk (stack : Description) (device : ℕ) (snapshot : ResolvedSnapshot) (sector len : ℕ) : Type 0 where
  pub whole : AreInSnapshot stack device snapshot sector len
  pub part : sector % snapshot.chunk + len ≤ snapshot.chunk

-- len sectors of a chunk are read from len consecutive sectors of a device or a disk, which has all of them
pub record AreReadAt (stack : Description) (state : State) (device : ℕ) (snapshot : ResolvedSnapshot) (sector len : ℕ) (source : ReadAt) : Type 0 where
  pub lies : (i : ℕ) → i < len → read_over (taken_at state device) snapshot (sector + i) ≡ Lies source.to (source.sector + i)
  pub inside : source.sector + len ≤ lower_len stack source.to

-- a valid snapshot holds this chunk under this number, and the store keeps the first sectors of the chunk at this place on a disk
pub record IsTakenAs (stack : Description) (state : State) (device : ℕ) (snapshot : ResolvedSnapshot) (chunk number : ℕ) (home : HomeStretch) : Type 0 where
  pub valid : (taken_at state device).valid ≡ true
  pub is : number_in chunk (taken_at state device).chunks ≡ Some number
  pub place : has_place stack snapshot number ≡ true
  pub homes : IsFirstHomes stack snapshot.store (store_sector snapshot number (first_of snapshot chunk)) (count_of stack snapshot device chunk) home
