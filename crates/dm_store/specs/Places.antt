-- The place of a disk in an image file.
use Rattle.dm_store.specs.Base.{ℕ, List, Extent}

-- an image, by its line in the list and its path, and the sectors of the image that belong to a disk
pub record Place : Type 0 where
  pub line : ℕ
  pub path : List ℕ
  pub extent : Extent
