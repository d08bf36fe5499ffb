-- The layout of an exception store by its kind: which chunks hold taken chunks, how many there are, and how much is used (the exception stores of the kernel's admin guide, device-mapper/snapshot).
use Rattle.dm_stack.specs.Base.{ℕ, Bool, false, StoreKind}
use Rattle.dm_table.specs.declared.tables.table.StoreKind.TheVariants.{Transient}
use Rattle.std.specs.Prelude.{◌+◌, ◌-◌, ◌*◌, ◌/◌, ◌%◌, ◌==◌, ◌||◌}

-- the chunk of the store that holds the taken chunk with this number. A transient store contains nothing else; any other store begins with a header and a metadata area, and one more metadata area follows after every 32 * chunk data chunks
abbrev pub place : StoreKind → (chunk number : ℕ) → ℕ
place Transient chunk number = number
place kind chunk number = 2 + number + number / (32 * chunk)

-- this chunk of the store is the header or a metadata area, which comes right before the 32 * chunk data chunks that it lists
abbrev pub is_metadata : StoreKind → (chunk at : ℕ) → Bool
is_metadata Transient chunk at = false
is_metadata kind chunk at = at == 0 || (at - 1) % (32 * chunk + 1) == 0

-- how many of `rest` chunks hold data, if one metadata area follows after every `most` data chunks
abbrev pub places_in : (most rest : ℕ) → ℕ
places_in most rest = rest - rest / (most + 1)

-- how many taken chunks fit into a store of this length: as many as its chunks if it is transient, else fewer by the header and the metadata areas
abbrev pub place_count : StoreKind → (chunk store_len : ℕ) → ℕ
place_count Transient chunk store_len = store_len / chunk
place_count kind chunk store_len = places_in (32 * chunk) (store_len / chunk - 2)

-- the number of used sectors in a store with this many taken chunks: all sectors before the place of the next chunk
abbrev pub allocated : StoreKind → (chunk taken : ℕ) → ℕ
allocated kind chunk taken = place kind chunk taken * chunk

-- the number of used sectors that belong to the header and the metadata areas, in a store with this many taken chunks
abbrev pub metadata : StoreKind → (chunk taken : ℕ) → ℕ
metadata Transient chunk taken = 0
metadata kind chunk taken = (taken / (32 * chunk) + 2) * chunk
