-- Where exception stores keep their lists, and the law that requests to top devices neither read nor write these lists.
use Rattle.dm_map.specs.Base.{ℕ, true, Some, Op, Device, ResolvedSnapshot, IsTidy, IsTop, Description, lower_len, is_metadata}
use Rattle.dm_map.specs.own.Contents.{Values, played}
use Rattle.dm_map.specs.own.Halts.{halted_units}
use Rattle.dm_map.specs.pieces.Units.{ReadOf}
use Rattle.dm_map.specs.state.Fitting.{IsFitting}
use Rattle.dm_map.specs.state.State.{State}
use Rattle.dm_map.specs.state.Tables.{snapshot_at}
use Rattle.dm_map.specs.walk.Homes.{home}
use Rattle.dm_map.specs.walk.Mapping.{request_step}
use Rattle.dm_map.specs.walk.SnapshotWrites.{read}
use Rattle.std.specs.Prelude.{◌≡◌, ◌/◌, ◌<◌}

-- a disk sector in the header of a snapshot's store or in one of its metadata areas
pub record IsListSector (stack : Description) (disk sector : ℕ) : Type 0 where
  pub device : ℕ
  pub snapshot : ResolvedSnapshot
  pub over : snapshot_at stack device ≡ Some snapshot
  pub at : ℕ
  pub inside : at < lower_len stack snapshot.store
  pub list : is_metadata snapshot.kind snapshot.chunk (at / snapshot.chunk) ≡ true
  pub home : home stack snapshot.store at ≡ record { disk = disk; sector = sector }

-- two sets of disks hold equal values in all sectors of stores' lists
abbrev pub HaveSameLists : {V : Type 0} → Description → (values others : Values V) → Type 0
HaveSameLists stack values others = (disk sector : ℕ) → IsListSector stack disk sector → others disk sector ≡ values disk sector

-- if no claims clash, requests to top devices leave the lists of all stores alone
pub record LeaveLists (V : Type 0) (stack : Description) : Type 0 where
  -- the units of a request write to no list
  pub request : (zeros : V) (written : ℕ → V) (op : Op) (state : State) (top start len : ℕ) (values : Values V) → IsTidy stack → IsTop stack top → IsFitting stack state
      → HaveSameLists stack values (played zeros written start (request_step stack op top start len state).units values)
  -- the first units of a halted request write to no list
  pub halted : (zeros : V) (written : ℕ → V) (op : Op) (state : State) (top start len count : ℕ) (values : Values V) → IsTidy stack → IsTop stack top → IsFitting stack state
      → HaveSameLists stack values (played zeros written start (halted_units stack op top start len count state) values)
  -- no read of a top device reaches a sector of a list
  pub reads : (state : State) (top sector disk at : ℕ) → IsTidy stack → IsTop stack top → IsFitting stack state → read stack state (Device top) sector ≡ ReadOf disk at → IsListSector stack disk at → ⊥
