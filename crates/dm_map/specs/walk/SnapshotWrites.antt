-- What a write to a snapshot does (the kernel's admin guide, device-mapper/snapshot): take the sector's chunk, then write the sector.
use Rattle.dm_map.specs.Base.{ℕ, zero, suc, Bool, true, false, not, List, [], length, Option, Some, None, is_some, min, Lower, ResolvedSnapshot, Description, device_len, MOST_DEPTH}
use Rattle.dm_table.specs.declared.tables.table.StoreKind.{StoreKind}
use Rattle.dm_table.specs.declared.tables.table.StoreKind.TheVariants.{Keeping}
use Rattle.dm_map.specs.walk.Homes.{Home, home}
use Rattle.dm_map.specs.walk.Reads.{read_unit}
use Rattle.dm_map.specs.state.Snapshots.{has_place, number_in, store_sector}
use Rattle.dm_map.specs.state.State.{Taken, State, lost, put, taken_at, with_chunk}
use Rattle.dm_map.specs.walk.Steps.{Step, keep, and_then}
use Rattle.dm_map.specs.pieces.Units.{BlockUnit, ReadOf, WriteOf, Fails, CopyOf, FillOf}
use Rattle.std.specs.Prelude.{◌-◌, ◌*◌, ◌/◌, ◌&&◌, ◌||◌, ◌∷◌, if◌then◌else◌}

-- The sectors of a chunk, as far as the snapshot's device has them

-- the first sector of a chunk
abbrev pub first_of : ResolvedSnapshot → (chunk : ℕ) → ℕ
first_of snapshot chunk = chunk * snapshot.chunk

-- the number of sectors in a chunk, which is less than the chunk size if the device ends within the chunk
abbrev pub count_of : Description → ResolvedSnapshot → (device chunk : ℕ) → ℕ
count_of stack snapshot device chunk = min snapshot.chunk (device_len stack device - first_of snapshot chunk)

-- the list of what f returns for each of len consecutive sectors
abbrev pub row : {X : Type 0} → (ℕ → X) → (sector len : ℕ) → List X
row f sector zero = []
row f sector (suc len) = f sector ∷ row f (suc sector) len

-- the unit of a read of a sector, through at most `MOST_DEPTH` levels of devices, which are enough for any stack
abbrev pub read : Description → State → Lower → ℕ → BlockUnit
read stack state lower sector = read_unit stack state MOST_DEPTH lower sector

-- Whether a chunk can be taken

-- the unit is an error
abbrev pub is_error : BlockUnit → Bool
is_error Fails = true
is_error unit = false

-- at least one unit of the list is an error
abbrev pub any_error : List BlockUnit → Bool
any_error [] = false
any_error (unit ∷ units) = is_error unit || any_error units

-- all of len sectors can be read without an error
abbrev pub reads_all : Description → State → Lower → (sector len : ℕ) → Bool
reads_all stack state lower sector len = not (any_error (row (read stack state lower) sector len))

-- The copies of a chunk

-- the unit that copies one sector to its home in a store, given the unit that reads the sector: a disk's sector is copied; for any other unit, the home is filled with zeros
abbrev pub copy_to : BlockUnit → Home → BlockUnit
copy_to (ReadOf disk sector) to = CopyOf disk sector to.disk to.sector
copy_to unit to = FillOf to.disk to.sector

-- the disk sector in which a store keeps this sector of the taken chunk with this number
abbrev pub home_in_store : Description → ResolvedSnapshot → (number sector : ℕ) → Home
home_in_store stack snapshot number sector = home stack snapshot.store (store_sector snapshot number sector)

-- the copies of len sectors from the origin to the places where the store keeps them
abbrev pub copies : Description → State → ResolvedSnapshot → (number sector len : ℕ) → List BlockUnit
copies stack state snapshot number sector len = row (λ s. copy_to (read stack state snapshot.origin s) (home_in_store stack snapshot number s)) sector len

-- Taking a chunk

-- a write need not take the chunk, because the chunk is taken already or the snapshot is lost
abbrev pub is_settled : Taken → (chunk : ℕ) → Bool
is_settled taken chunk = not taken.valid || is_some (number_in chunk taken.chunks)

-- the chunk can be taken, because the store has room for one more and the origin reads without errors
abbrev pub can_take : Description → State → ResolvedSnapshot → (device sector len : ℕ) → Bool
can_take stack state snapshot device sector len = has_place stack snapshot (length (taken_at state device).chunks) && reads_all stack state snapshot.origin sector len

-- taking a chunk copies it to the store and lists it, or makes the snapshot lost if there is no room or a read of the origin fails; if the chunk is settled, nothing happens
abbrev pub take_chunk : Description → ResolvedSnapshot → (device chunk : ℕ) → State → Step
take_chunk stack snapshot device chunk state =
    let taken = taken_at state device in
    if is_settled taken chunk then keep [] state
    else (if can_take stack state snapshot device (first_of snapshot chunk) (count_of stack snapshot device chunk)
    then keep (copies stack state snapshot (length taken.chunks) (first_of snapshot chunk) (count_of stack snapshot device chunk)) (put state device (with_chunk taken chunk))
    else keep [] (put state device (lost taken)))

-- Whether a write is refused

-- the store is of the kind that, when full, fails the write and keeps its snapshot valid
abbrev pub is_keeping : StoreKind → Bool
is_keeping Keeping = true
is_keeping kind = false

-- a write to a snapshot is refused, because its store is full and of the keeping kind (which no kernel has) and the chunk is not settled
abbrev pub is_refused : Description → ResolvedSnapshot → Taken → (chunk : ℕ) → Bool
is_refused stack snapshot taken chunk = is_keeping snapshot.kind && (not (has_place stack snapshot (length taken.chunks)) && not (is_settled taken chunk))

-- Writing a sector of a snapshot

-- the write of a sector at its home on a disk
abbrev pub write_to : Home → BlockUnit
write_to to = WriteOf to.disk to.sector

-- the writes of len consecutive sectors of a store
abbrev pub store_writes : Description → Lower → (sector len : ℕ) → List BlockUnit
store_writes stack store sector len = row (λ s. write_to (home stack store s)) sector len

-- the write of a sector, given the number of its chunk; an error if the chunk isn't taken
abbrev pub write_numbered : Description → ResolvedSnapshot → Option ℕ → (sector : ℕ) → BlockUnit
write_numbered stack snapshot (Some number) sector = write_to (home_in_store stack snapshot number sector)
write_numbered stack snapshot None sector = Fails

-- the write of a sector in the snapshot's store; an error if the snapshot is invalid or the chunk isn't taken
abbrev pub unit_in_store : Description → ResolvedSnapshot → (device : ℕ) → State → (sector : ℕ) → BlockUnit
unit_in_store stack snapshot device state sector =
    let taken = taken_at state device in
    if taken.valid then write_numbered stack snapshot (number_in (sector / snapshot.chunk) taken.chunks) sector else Fails

-- the write of a sector of a snapshot: an error if the write is refused; else the chunk is taken, unless it is settled, and then the sector is written
abbrev pub write_snapshot : Description → ResolvedSnapshot → (device : ℕ) → State → (sector : ℕ) → Step
write_snapshot stack snapshot device state sector =
    if is_refused stack snapshot (taken_at state device) (sector / snapshot.chunk) then keep (Fails ∷ []) state
    else and_then (take_chunk stack snapshot device (sector / snapshot.chunk) state) (λ after. keep (unit_in_store stack snapshot device after sector ∷ []) after)
