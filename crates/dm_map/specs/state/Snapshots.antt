-- Where the sectors of a snapshot are read from (the kernel's admin guide, device-mapper/snapshot, and its exception store).
use Rattle.dm_map.specs.Base.{ℕ, suc, Bool, nat_le, List, [], Option, Some, None, option_map, ResolvedSnapshot, Description, lower_len, Below, Lies, IsError, place}
use Rattle.dm_map.specs.state.State.{Taken}
use Rattle.std.specs.Prelude.{◌+◌, ◌*◌, ◌/◌, ◌%◌, ◌==◌, ◌∷◌, if◌then◌else◌}

-- the index of a chunk in the list of taken chunks, which is in the order of taking; None if the chunk isn't taken
abbrev pub number_in : ℕ → List ℕ → Option ℕ
number_in chunk [] = None
number_in chunk (first ∷ rest) = if first == chunk then Some 0 else option_map suc (number_in chunk rest)

-- the sector of the exception store that holds a sector of the taken chunk with this number
abbrev pub store_sector : ResolvedSnapshot → (number sector : ℕ) → ℕ
store_sector snapshot number sector = place snapshot.kind snapshot.chunk number * snapshot.chunk + sector % snapshot.chunk

-- where a sector of a snapshot is read from: the store if its chunk is taken, and so has a number, else the origin
abbrev pub read_numbered : ResolvedSnapshot → Option ℕ → ℕ → Below
read_numbered snapshot (Some number) sector = Lies snapshot.store (store_sector snapshot number sector)
read_numbered snapshot None sector = Lies snapshot.origin sector

-- what lies below a sector of a snapshot that took these chunks, or an error if the snapshot is no longer valid
abbrev pub read_over : Taken → ResolvedSnapshot → ℕ → Below
read_over taken snapshot sector =
    if taken.valid then read_numbered snapshot (number_in (sector / snapshot.chunk) taken.chunks) sector else IsError

-- the exception store is long enough to hold the taken chunk with this number
abbrev pub has_place : Description → ResolvedSnapshot → (number : ℕ) → Bool
has_place stack snapshot number = nat_le ((place snapshot.kind snapshot.chunk number + 1) * snapshot.chunk) (lower_len stack snapshot.store)
