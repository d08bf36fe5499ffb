-- Little-endian numbers: the least significant byte comes first.
use Rattle.dm_table.specs.Base.{ℕ, List, drop}
use Rattle.byteorder.specs.Endian.{little_number}

-- the little-endian number in the 4 bytes from offset `at` on
unfoldable pub four_at : (bytes : List ℕ) → (at : ℕ) → ℕ
four_at bytes at = little_number 4 (drop at bytes)

-- the little-endian number in the 8 bytes from offset `at` on
unfoldable pub eight_at : (bytes : List ℕ) → (at : ℕ) → ℕ
eight_at bytes at = little_number 8 (drop at bytes)
