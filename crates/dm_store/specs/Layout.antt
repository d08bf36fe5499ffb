-- The sectors in which a store keeps its list: metadata areas of one chunk each, with 32 pairs to a sector. The first area is the store's second chunk (the kernel's admin guide, device-mapper/snapshot, and its dm-snap-persistent). dm_stack's StoreLayout has the places of data chunks.
use Rattle.dm_store.specs.Base.{ℕ}
use Rattle.std.specs.Prelude.{◌+◌, ◌-◌, ◌*◌, ◌/◌, ◌%◌}

-- the store's sector with this row of the list, which has the 32 pairs from number 32 * row on. An area has `chunk` rows, and begins 32 * chunk + 1 chunks after the previous area
abbrev pub row_sector : (chunk row : ℕ) → ℕ
row_sector chunk row = (1 + (32 * chunk + 1) * (row / chunk)) * chunk + row % chunk

-- how many whole metadata areas a store of this length has
abbrev pub area_count : (chunk store_len : ℕ) → ℕ
area_count chunk store_len = (store_len / chunk + 32 * chunk - 1) / (32 * chunk + 1)

-- how many pairs fit into all metadata areas of a store of this length
abbrev pub pair_count : (chunk store_len : ℕ) → ℕ
pair_count chunk store_len = area_count chunk store_len * (32 * chunk)

-- the number of pairs from pair `number` on to the end of its metadata area
abbrev pub rest_count : (chunk number : ℕ) → ℕ
rest_count chunk number = 32 * chunk - number % (32 * chunk)
