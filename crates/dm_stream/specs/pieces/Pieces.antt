-- Pieces as runs of consecutive units, and the fewest pieces that cover given units.
use Rattle.dm_stream.specs.Base.{ℕ, suc, Bool, true, false, List, [], length, flat_map, AllByRecursion, BlockUnit, ReadOf, WriteOf, Zeros, Drops, Fails, CopyOf, FillOf, next_unit, units_in}
use Rattle.std.specs.Prelude.{◌≡◌, ◌+◌, ◌<◌, ◌≤◌, ◌&&◌, ◌==◌, ◌∷◌, if◌then◌else◌}

-- consecutive units as one piece: the first unit, and the number of units
pub record UnitRun : Type 0 where
  pub first : BlockUnit
  pub len : ℕ

-- the units that a piece covers
abbrev pub piece_units : UnitRun → List BlockUnit
piece_units piece = units_in piece.first piece.len

-- whether two units are equal: of the same kind, at the same sectors of the same disks
abbrev pub is_unit : BlockUnit → BlockUnit → Bool
is_unit (ReadOf disk sector) (ReadOf other_disk other_sector) = disk == other_disk && sector == other_sector
is_unit (WriteOf disk sector) (WriteOf other_disk other_sector) = disk == other_disk && sector == other_sector
is_unit Zeros Zeros = true
is_unit Drops Drops = true
is_unit Fails Fails = true
is_unit (CopyOf disk sector to to_sector) (CopyOf other_disk other_sector other_to other_to_sector) =
    (disk == other_disk && sector == other_sector) && (to == other_to && to_sector == other_to_sector)
is_unit (FillOf disk sector) (FillOf other_disk other_sector) = disk == other_disk && sector == other_sector
is_unit _ _ = false

-- whether the unit `next` continues `unit`: same kind, same disks, and the next sector on each disk
abbrev pub joins : BlockUnit → BlockUnit → Bool
joins unit next = is_unit (next_unit unit) next

-- the unit `len` sectors after this one, in a piece of consecutive units
abbrev pub further : BlockUnit → ℕ → BlockUnit
further (ReadOf disk sector) len = ReadOf disk (sector + len)
further (WriteOf disk sector) len = WriteOf disk (sector + len)
further Zeros len = Zeros
further Drops len = Drops
further Fails len = Fails
further (CopyOf disk sector to to_sector) len = CopyOf disk (sector + len) to (to_sector + len)
further (FillOf disk sector) len = FillOf disk (sector + len)

-- whether the unit continues a piece of `len` units that begins with `first`
abbrev pub is_after : BlockUnit → ℕ → BlockUnit → Bool
is_after first len unit = is_unit (further first len) unit

-- puts a unit before pieces: if the first piece continues the unit, it grows by the unit; otherwise the unit is a piece of its own
abbrev pub onto : BlockUnit → List UnitRun → List UnitRun
onto unit [] = record { first = unit; len = 1 } ∷ []
onto unit (piece ∷ pieces) =
    if joins unit piece.first then record { first = unit; len = suc piece.len } ∷ pieces else record { first = unit; len = 1 } ∷ piece ∷ pieces

-- the fewest pieces that cover these units
abbrev pub fewest : List BlockUnit → List UnitRun
fewest [] = []
fewest (unit ∷ units) = onto unit (fewest units)

-- the pieces cover exactly these units, in the same order, and no piece is empty
pub record ArePiecesOf (units : List BlockUnit) (pieces : List UnitRun) : Type 0 where
  pub flatten : flat_map piece_units pieces ≡ units
  pub each : AllByRecursion (λ piece. 0 < piece.len) pieces

-- no piece continues the one before it
abbrev pub NoneContinues : List UnitRun → Type 0
NoneContinues [] = Unit {0}
NoneContinues (piece ∷ []) = Unit {0}
NoneContinues (piece ∷ next ∷ pieces) = (is_after piece.first piece.len next.first ≡ false) × NoneContinues (next ∷ pieces)

-- no piece continues the one before it; the pieces are the only such ones that cover these units, and no others are fewer
pub record AreFewest (units : List BlockUnit) (pieces : List UnitRun) : Type 0 where
  pub are : ArePiecesOf units pieces
  pub apart : NoneContinues pieces
  pub only : (others : List UnitRun) → ArePiecesOf units others → NoneContinues others → others ≡ pieces
  pub least : (others : List UnitRun) → ArePiecesOf units others → length pieces ≤ length others
