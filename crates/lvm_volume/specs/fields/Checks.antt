-- The two checks of the fields of a metadata text.
use Rattle.lvm_volume.specs.Base.{ℕ}

-- one of the two checks of fields: for presence and content, or for limits
pub data Check : Type 0 where
  -- each required field is present, and its content is valid
  Fields : Check
  -- no integer exceeds 2^50, and no number of extents exceeds it when counted in sectors, that is, times the extent size
  Limits : (extent_size : ℕ) → Check
