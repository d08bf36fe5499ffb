-- The value by which a proof describes a `Reserved`, a buffer that is allocated while loading.
use Rattle.dm_table.specs.Base.{ℕ, List}

-- the values in a buffer, in order, and the number of values that it has room for
pub record Reservation (T : Type 0) : Type 0 where
  pub items : List T
  pub room : ℕ
