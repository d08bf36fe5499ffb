-- What a write to an origin does first: each snapshot of the origin takes the chunk of the sector (the kernel's admin guide, device-mapper/snapshot).
use Rattle.dm_map.specs.Base.{ℕ, true, List, [], Some, AllByRecursion, ResolvedOver, Description, device_len}
use Rattle.dm_map.specs.walk.SnapshotWrites.{is_settled, take_chunk}
use Rattle.dm_map.specs.state.State.{State, taken_at}
use Rattle.dm_map.specs.walk.Steps.{Step, keep, and_then}
use Rattle.dm_map.specs.state.Tables.{snapshot_at}
use Rattle.std.specs.Prelude.{◌≡◌, ◌/◌, ◌<◌, ◌≤◌, ◌∷◌}

-- each of these snapshots, in order, takes its chunk that contains this sector
unfoldable pub serve : Description → List ResolvedOver → (sector : ℕ) → State → Step
serve stack [] sector state = keep [] state
serve stack (one ∷ over) sector state =
    and_then (take_chunk stack one.snapshot one.device (sector / one.snapshot.chunk) state) (λ after. serve stack over sector after)

-- each of these snapshots has taken its chunk that contains this sector, or is lost
abbrev pub AreSettled : State → List ResolvedOver → (sector : ℕ) → Type 0
AreSettled state over sector = AllByRecursion (λ one. is_settled (taken_at state one.device) (sector / one.snapshot.chunk) ≡ true) over

-- the step of a sector of an origin's device: first its snapshots take their chunks, and then `plain` follows
abbrev pub served_step : Description → List ResolvedOver → (State → ℕ → Step) → State → (sector : ℕ) → Step
served_step stack over plain state sector = and_then (serve stack over sector state) (λ after. plain after sector)

-- an entry of an origin's list of snapshots: its device is the snapshot of the entry, and has at least len sectors
pub record IsOver (stack : Description) (len : ℕ) (one : ResolvedOver) : Type 0 where
  pub is : snapshot_at stack one.device ≡ Some one.snapshot
  pub long : len ≤ device_len stack one.device

-- part is the greatest number from 1 to limit for which P holds of all numbers below part
pub record IsLongest (P : ℕ → Type 0) (limit part : ℕ) : Type 0 where
  pub some : 1 ≤ part
  pub most : part ≤ limit
  pub holds : (i : ℕ) → i < part → P i
  pub whole : part < limit → P part → ⊥
