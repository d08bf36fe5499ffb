-- The state that a stack's stores hold, from which requests can go on.
use Rattle.dm_store.specs.Base.{ℕ, zero, suc, true, [], Option, Some, None, Result, Ok, Err, length, Transient, ResolvedSnapshot, Description, device_len, lower_len, place_count, State, Taken, lost, none_taken, snapshot_at, home, StoreFault, Store}
use Rattle.dm_table.specs.declared.tables.table.StoreKind.{StoreKind}
use Rattle.dm_store.specs.declared.fault.StoreRefusal.{StoreRefusal}
use Rattle.dm_store.specs.Images.{DiskContents}
use Rattle.dm_store.specs.Pairs.{Sectors}
use Rattle.dm_store.specs.Stored.{Stored, Fresh, Lost, Holds, Refused, stored}
use Rattle.std.specs.Prelude.{◌-◌, ◌/◌, ◌∷◌, ◌++◌}

-- the store of the snapshot `device`, with the store's length, its number of places, and the last chunk of the snapshot
abbrev pub snapshot_store : Description → (device : ℕ) → ResolvedSnapshot → Store
snapshot_store stack device snapshot = record {
  lower = snapshot.store;
  chunk = snapshot.chunk;
  len = lower_len stack snapshot.store;
  places = place_count snapshot.kind snapshot.chunk (lower_len stack snapshot.store);
  last = (device_len stack device - 1) / snapshot.chunk;
}

-- the store if its kind keeps a list; a transient store doesn't, so its snapshot starts fresh
abbrev pub if_listing : {X : Type 0} → StoreKind → X → Option X
if_listing Transient store = None
if_listing kind store = Some store

-- the store to read for a device; None if the device isn't a snapshot, or if its store keeps no list
abbrev pub store_if : Description → (device : ℕ) → Option ResolvedSnapshot → Option Store
store_if stack device (Some snapshot) = if_listing snapshot.kind (snapshot_store stack device snapshot)
store_if stack device None = None

abbrev pub store_at : Description → (device : ℕ) → Option Store
store_at stack device = store_if stack device (snapshot_at stack device)

-- the sectors of a store, taken from the disks on which the store is
abbrev pub store_sectors : Description → DiskContents → Store → Sectors
store_sectors stack disks store sector = disks (home stack store.lower sector).disk (home stack store.lower sector).sector

-- what a snapshot took, given what its store holds
abbrev pub taken_in : Stored → Result Taken StoreFault
taken_in Fresh = Ok none_taken
taken_in Lost = Ok (lost none_taken)
taken_in (Holds chunks) = Ok (record { chunks = chunks; valid = true })
taken_in (Refused fault) = Err fault

-- what a device took according to its store; nothing if there is no store to read
abbrev pub taken_if : Description → DiskContents → Option Store → Result Taken StoreFault
taken_if stack disks (Some store) = taken_in (stored (store_sectors stack disks store) store)
taken_if stack disks None = Ok none_taken

abbrev pub start_of : Description → DiskContents → (device : ℕ) → Result Taken StoreFault
start_of stack disks device = taken_if stack disks (store_at stack device)

-- the state with the entry of one more device, or the first refusal so far
abbrev pub with_next : Result State StoreRefusal → (device : ℕ) → Result Taken StoreFault → Result State StoreRefusal
with_next (Err refusal) device next = Err refusal
with_next (Ok state) device (Err fault) = Err (record { snapshot = device; fault = fault })
with_next (Ok state) device (Ok taken) = Ok (state ++ taken ∷ [])

-- the state of the first `count` devices, in the order of the tables, or the first refusal
unfoldable pub state_of_first : (ℕ → Result Taken StoreFault) → (count : ℕ) → Result State StoreRefusal
state_of_first starts zero = Ok []
state_of_first starts (suc device) = with_next (state_of_first starts device) device (starts device)

-- the state that the stores hold if the disks have these contents, or the first refusal
abbrev pub stored_state : Description → DiskContents → Result State StoreRefusal
stored_state stack disks = state_of_first (start_of stack disks) (length stack.devices)
