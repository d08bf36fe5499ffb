-- The piece of a request that a join holds back, to be written later.
use Rattle.dm_stream.specs.Base.{ℕ, Bool, true, false, List, [], Option, Some, None, Description, BlockUnit, ReadOf, WriteOf, Zeros, Drops, Fails, CopyOf, FillOf, units_of, first_unit, piece_len, diskless_len, IsOnDisk, IsOnDisks}
use Rattle.dm_map.specs.declared.pieces.piece.Piece.{Piece}
use Rattle.dm_map.specs.declared.pieces.piece.Piece.TheVariants as coded
use Rattle.dm_stream.specs.pieces.Pieces as pieces
use Rattle.dm_stream.specs.declared.pieces.disk_range.DiskRange.{DiskRange}
use Rattle.std.specs.Prelude.{◌<◌, ◌≤◌, ◌^◌}

-- what a join knows between two pieces: the stack, the request's number, and the held piece if there is one
pub record Pending : Type 0 where
  pub stack : Description
  pub number : ℕ
  pub piece : Option Piece

-- a piece of the code as a run of units
abbrev pub piece_view : Piece → pieces.UnitRun
piece_view piece = record { first = first_unit piece; len = piece_len piece }

-- a range of a disk as a piece: a write if `is_write` is true, or else a read
abbrev pub range_piece : (is_write : Bool) (disk start len : ℕ) → Piece
range_piece true disk start len = coded.Write disk start len
range_piece false disk start len = coded.Read disk start len

-- a range of a disk as a piece
abbrev pub piece_of : DiskRange → Piece
piece_of range = range_piece range.letter range.disk range.start range.len

-- `pending` with this range of a disk as the held piece
abbrev pub holding : Pending → DiskRange → Pending
holding pending range = record pending { piece = Some (piece_of range) }

-- the piece is neither a read nor a write
abbrev pub IsNoRange : Piece → Type 0
IsNoRange (coded.Read disk start len) = ⊥
IsNoRange (coded.Write disk start len) = ⊥
IsNoRange _ = Unit {0}

-- the held piece: the range if there is one, or else the other piece if there is one
abbrev pub held_of : Option DiskRange → Option Piece → Option Piece
held_of (Some range) other = Some (piece_of range)
held_of None other = other

-- a range and another piece are never held at the same time, and the other piece isn't a read or a write
abbrev pub AreApart : Option DiskRange → Option Piece → Type 0
AreApart range None = Unit {0}
AreApart None (Some other) = IsNoRange other
AreApart (Some range) (Some other) = ⊥

-- no read or write is held
abbrev pub HoldsNoRange : Option Piece → Type 0
HoldsNoRange None = Unit {0}
HoldsNoRange (Some piece) = IsNoRange piece

-- whether this piece continues the held one; false if none is held
abbrev pub goes_on : Option Piece → Piece → Bool
goes_on None piece = false
goes_on (Some held) piece = pieces.is_after (first_unit held) (piece_len held) (first_unit piece)

-- the units of the held piece
abbrev pub held_units : Option Piece → List BlockUnit
held_units None = []
held_units (Some piece) = units_of piece

-- the length in sectors of a held piece that has no disk; 0 if the held piece has a disk or there is none
abbrev pub held_diskless : Option Piece → ℕ
held_diskless None = 0
held_diskless (Some piece) = diskless_len piece

-- the held piece, if there is one, is not empty and lies on the stack's disks; the length of a piece without a disk fits into 64 bits
abbrev pub IsHeld : Description → Option Piece → Type 0
IsHeld stack None = Unit {0}
IsHeld stack (Some piece) = (1 ≤ piece_len piece) × IsOnDisks stack piece × (diskless_len piece < 2 ^ 64)

-- the `len` units that begin with this one lie on the stack's disks; units without a disk can be counted in 64 bits
abbrev pub Fits : Description → BlockUnit → ℕ → Type 0
Fits stack (ReadOf disk sector) len = IsOnDisk stack disk sector len
Fits stack (WriteOf disk sector) len = IsOnDisk stack disk sector len
Fits stack Zeros len = len < 2 ^ 64
Fits stack Drops len = len < 2 ^ 64
Fits stack Fails len = len < 2 ^ 64
Fits stack (CopyOf disk sector to to_sector) len = IsOnDisk stack disk sector len × IsOnDisk stack to to_sector len
Fits stack (FillOf disk sector) len = IsOnDisk stack disk sector len
