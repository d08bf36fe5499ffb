-- Extents of files: consecutive sectors.
use Rattle.dm_table.specs.Base.{ℕ}

pub record Extent : Type 0 where
  pub start : ℕ
  pub len : ℕ

-- the extent of a whole file of any size, since a file ends before byte 2^63
abbrev pub whole_file : Extent
whole_file = record { start = 0; len = 0x40000000000000 }
