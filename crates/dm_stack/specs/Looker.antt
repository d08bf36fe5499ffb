-- The view of a looker, which finds lines and counts its searches.
use Rattle.dm_stack.specs.Base.{ℕ, suc, nat_lt}
use Rattle.dm_stack.specs.Description.{Description}
use Rattle.std.specs.Prelude.{◌^◌, if◌then◌else◌}

-- what contracts see of a looker: its stack, the number of its searches, and how often these compared a line's start with a sector
pub record Looking : Type 0 where
  pub stack : Description
  pub searches : ℕ
  pub comparisons : ℕ

-- a count plus one, or the count itself if it is 2^64 - 1 already
abbrev pub next_count : ℕ → ℕ
next_count count = if nat_lt (suc count) (2 ^ 64) then suc count else count
