-- The list of a store as a function from a number to a pair: a chunk of the origin and a chunk of the store.
use Rattle.dm_store.specs.Base.{ℕ, zero, suc, Bool, true, List, [], Result, Ok, Err, SectorFault, Pair, eight_at}
use Rattle.dm_store.specs.Layout.{row_sector}
use Rattle.std.specs.Prelude.{◌+◌, ◌*◌, ◌/◌, ◌%◌, ◌&&◌, ◌∷◌, ◌++◌, if◌then◌else◌}

-- the bytes of each sector of a store, or why the sector can't be read
abbrev pub Sectors : Type 0
Sectors = (sector : ℕ) → Result (List ℕ) SectorFault

-- the bytes of a sector; an empty list if the sector can't be read
abbrev pub bytes_or_none : Result (List ℕ) SectorFault → List ℕ
bytes_or_none (Ok bytes) = bytes
bytes_or_none (Err fault) = []

-- the pair at this index in a sector of the list; each pair has 16 bytes
abbrev pub pair_in : (bytes : List ℕ) → (index : ℕ) → Pair
pair_in bytes index = record { old = eight_at bytes (16 * index); new = eight_at bytes (16 * index + 8) }

-- the pair with this number in the list; a free pair if its sector can't be read
abbrev pub pair : Sectors → (chunk number : ℕ) → Pair
pair sectors chunk number = pair_in (bytes_or_none (sectors (row_sector chunk (number / 32)))) (number % 32)

-- all numbers below `count` pass the test
unfoldable pub each : (ℕ → Bool) → (count : ℕ) → Bool
each is_so zero = true
each is_so (suc number) = each is_so number && is_so number

-- how many consecutive numbers from 0 on pass the test, but at most `most`
unfoldable pub count_of : (ℕ → Bool) → (most : ℕ) → ℕ
count_of is_so zero = 0
count_of is_so (suc number) = if each is_so (suc number) then suc number else count_of is_so number

-- the origin's chunks in the first `count` pairs of the list
unfoldable pub old_chunks : (ℕ → Pair) → (count : ℕ) → List ℕ
old_chunks pairs zero = []
old_chunks pairs (suc number) = old_chunks pairs number ++ (pairs number).old ∷ []
