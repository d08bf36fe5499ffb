-- The content of a block of bytes after a text was copied into it.
use Rattle.dm_table.specs.Base.{ℕ, List, length, take}
use Rattle.std.specs.Prelude.{◌≡◌, ◌+◌, ◌++◌}

-- a text was copied into a block at offset `at`; `end` is the offset after the text, and the bytes before `at` are unchanged
pub record IsPut (text : List ℕ) (at : ℕ) (old new : List ℕ) (end : ℕ) : Type 0 where
  pub ends : end ≡ at + length text
  pub holds : take end new ≡ take at old ++ text
