-- A sink that keeps all pieces in a list.
use Rattle.dm_map.specs.Prelude.{ℕ, List, flat_map, Description, Piece, BlockUnit, units_of}
use Rattle.std.specs.Prelude.{◌≡◌, ◌++◌}

-- what contracts see of the list: the stack whose disks the pieces lie on, the pieces kept so far, and how many pieces could not be kept
pub record PieceListView : Type 0 where
  pub stack : Description
  pub pieces : List Piece
  pub faults : ℕ

-- the units of all pieces in a list, in order
abbrev pub units_of_all : List Piece → List BlockUnit
units_of_all pieces = flat_map units_of pieces

-- exactly these units were added at the end of the list
pub record Appends (old : PieceListView) (units : List BlockUnit) (new : PieceListView) : Type 0 where
  pub appended : units_of_all new.pieces ≡ units_of_all old.pieces ++ units
