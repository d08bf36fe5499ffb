-- Units, which are operations on single sectors; the units of a piece; and whether a piece lies within the disks of a stack.
use Rattle.dm_map.specs.Base.{ℕ, zero, suc, List, [], length, Op, Disk, ResolvedTarget, Description, disk_len, Below, Lies, below_plain, LegsView, Piece, Read, Write}
use Rattle.dm_map.specs.declared.pieces.piece.Piece.TheVariants as pieces
use Rattle.std.specs.Prelude.{◌+◌, ◌<◌, ◌≤◌, ◌∷◌}

-- an operation on one sector: a read or a write of a sector of a disk, a read of zeros, a discarded write, an error, a copy of a disk's sector to another disk's, or zeros written to a disk's sector
pub data BlockUnit : Type 0 where
  ReadOf : (disk sector : ℕ) → BlockUnit
  WriteOf : (disk sector : ℕ) → BlockUnit
  Zeros : BlockUnit
  Drops : BlockUnit
  Fails : BlockUnit
  CopyOf : (disk sector to to_sector : ℕ) → BlockUnit
  FillOf : (disk sector : ℕ) → BlockUnit

-- the unit that continues another one: of the same kind, on the same disks, one sector further
abbrev pub next_unit : BlockUnit → BlockUnit
next_unit (ReadOf disk sector) = ReadOf disk (suc sector)
next_unit (WriteOf disk sector) = WriteOf disk (suc sector)
next_unit Zeros = Zeros
next_unit Drops = Drops
next_unit Fails = Fails
next_unit (CopyOf disk sector to to_sector) = CopyOf disk (suc sector) to (suc to_sector)
next_unit (FillOf disk sector) = FillOf disk (suc sector)

-- len units from a first one on, each one sector further than the unit before
abbrev pub units_in : BlockUnit → ℕ → List BlockUnit
units_in unit zero = []
units_in unit (suc len) = unit ∷ units_in (next_unit unit) len

-- the read or the write of a sector of a disk
abbrev pub disk_unit : Op → (disk sector : ℕ) → BlockUnit
disk_unit Read disk sector = ReadOf disk sector
disk_unit Write disk sector = WriteOf disk sector

-- the read or the write of the sector below, or an error if that sector isn't on a disk
abbrev pub below_unit : Op → Below → BlockUnit
below_unit op (Lies (Disk disk) sector) = disk_unit op disk sector
below_unit op _ = Fails

-- the units of len sectors of a line, from a distance into the line on, if all sectors below them are on disks
abbrev pub line_units : Op → ResolvedTarget → (distance len : ℕ) → List BlockUnit
line_units op target distance zero = []
line_units op target distance (suc len) = below_unit op (below_plain target distance) ∷ line_units op target (suc distance) len

-- the units of the sectors that an iterator over the legs of a line on disks has not yet returned
abbrev pub legs_units : Op → LegsView → List BlockUnit
legs_units op legs = line_units op legs.target legs.distance legs.left

-- the unit of the first sector of a piece
abbrev pub first_unit : Piece → BlockUnit
first_unit (pieces.Read disk start len) = ReadOf disk start
first_unit (pieces.Write disk start len) = WriteOf disk start
first_unit (pieces.Zero len) = Zeros
first_unit (pieces.Drop len) = Drops
first_unit (pieces.Error len) = Fails
first_unit (pieces.Copy disk start len to to_start) = CopyOf disk start to to_start
first_unit (pieces.Fill len disk start) = FillOf disk start

-- the number of sectors in a piece
abbrev pub piece_len : Piece → ℕ
piece_len (pieces.Read disk start len) = len
piece_len (pieces.Write disk start len) = len
piece_len (pieces.Zero len) = len
piece_len (pieces.Drop len) = len
piece_len (pieces.Error len) = len
piece_len (pieces.Copy disk start len to to_start) = len
piece_len (pieces.Fill len disk start) = len

-- the units of all sectors of a piece, in rising order
abbrev pub units_of : Piece → List BlockUnit
units_of piece = units_in (first_unit piece) (piece_len piece)

-- the number of sectors of a piece that touches no disk, and 0 for a piece on a disk
abbrev pub diskless_len : Piece → ℕ
diskless_len (pieces.Read disk start len) = 0
diskless_len (pieces.Write disk start len) = 0
diskless_len (pieces.Zero len) = len
diskless_len (pieces.Drop len) = len
diskless_len (pieces.Error len) = len
diskless_len (pieces.Copy disk start len to to_start) = 0
diskless_len (pieces.Fill len disk start) = 0

-- the stack has this disk, and the disk has len sectors from start on
pub record IsOnDisk (stack : Description) (disk start len : ℕ) : Type 0 where
  pub there : disk < length stack.disks
  pub inside : start + len ≤ disk_len stack disk

-- every disk of a piece is in the stack, and has all sectors that the piece uses on that disk
abbrev pub IsOnDisks : Description → Piece → Type 0
IsOnDisks stack (pieces.Read disk start len) = IsOnDisk stack disk start len
IsOnDisks stack (pieces.Write disk start len) = IsOnDisk stack disk start len
IsOnDisks stack (pieces.Zero len) = Unit {0}
IsOnDisks stack (pieces.Drop len) = Unit {0}
IsOnDisks stack (pieces.Error len) = Unit {0}
IsOnDisks stack (pieces.Copy disk start len to to_start) = IsOnDisk stack disk start len × IsOnDisk stack to to_start len
IsOnDisks stack (pieces.Fill len disk start) = IsOnDisk stack disk start len
