-- Where the sectors of a striped line lie within its columns.
use Rattle.dm_stack.specs.Base.{ℕ, StripePosition}
use Rattle.dm_stack.specs.lines.Below.{column_of}
use Rattle.std.specs.Prelude.{◌≡◌, ◌*◌, ◌/◌, ◌%◌}

-- the position is that of the sector at this distance into the striped line: its column, where its chunk starts in the column, and how far into the chunk the sector is
pub record IsStripePosition (chunk_size count distance : ℕ) (position : StripePosition) : Type 0 where
  pub column : position.column ≡ column_of chunk_size count distance
  pub chunk_start : position.chunk_start ≡ distance / chunk_size / count * chunk_size
  pub past : position.past ≡ distance % chunk_size
