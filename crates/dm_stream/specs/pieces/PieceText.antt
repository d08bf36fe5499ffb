-- How pieces are written: one line for each, with the request's number.
use Rattle.dm_stream.specs.Base.{ℕ, List, [], codes, decimal, flat_map, code, Description, disk_name_at, BlockUnit, ReadOf, WriteOf, Zeros, Drops, Fails, CopyOf, FillOf}
use Rattle.dm_map.specs.declared.pieces.piece.Piece as coded
use Rattle.dm_stream.specs.pieces.Pieces.{UnitRun}
use Rattle.std.specs.Prelude.{◌∷◌, ◌++◌}

-- how lines write a sector: the disk's name, a space and the sector's number
abbrev pub sector_text : Description → ℕ → ℕ → List ℕ
sector_text stack disk sector = disk_name_at stack disk ++ code " " ∷ decimal sector

-- the part of a piece's line after the request's number, without the newline
abbrev pub unit_text : Description → BlockUnit → ℕ → List ℕ
unit_text stack (ReadOf disk sector) len = codes "R " ++ sector_text stack disk sector ++ code " " ∷ decimal len
unit_text stack (WriteOf disk sector) len = codes "W " ++ sector_text stack disk sector ++ code " " ∷ decimal len
unit_text stack Zeros len = codes "zero " ++ decimal len
unit_text stack Drops len = codes "drop " ++ decimal len
unit_text stack Fails len = codes "error " ++ decimal len
unit_text stack (CopyOf disk sector to to_sector) len = codes "copy " ++ sector_text stack disk sector ++ code " " ∷ decimal len ++ code " " ∷ sector_text stack to to_sector
unit_text stack (FillOf disk sector) len = codes "fill " ++ decimal len ++ code " " ∷ sector_text stack disk sector

-- the piece lies on no disk
abbrev pub IsDiskless : coded.Piece → Type 0
IsDiskless (coded.TheVariants.Zero len) = Unit {0}
IsDiskless (coded.TheVariants.Drop len) = Unit {0}
IsDiskless (coded.TheVariants.Error len) = Unit {0}
IsDiskless _ = ⊥

-- the word for a unit without a disk, and a space; lines have them after the request's number
abbrev pub diskless_word : BlockUnit → List ℕ
diskless_word Zeros = codes "zero "
diskless_word Drops = codes "drop "
diskless_word unit = codes "error "

-- the piece is a copy or a fill
abbrev pub IsOther : coded.Piece → Type 0
IsOther (coded.TheVariants.Copy disk start len to to_start) = Unit {0}
IsOther (coded.TheVariants.Fill len disk start) = Unit {0}
IsOther _ = ⊥

-- the whole line of a piece, with the request's number and a newline
abbrev pub piece_text : Description → ℕ → UnitRun → List ℕ
piece_text stack number piece = decimal number ++ code " " ∷ unit_text stack piece.first piece.len ++ code "\n" ∷ []

-- the line of a read or a write, made of the request's number, the letter and the range of a disk
abbrev pub range_line : Description → (number letter disk start len : ℕ) → List ℕ
range_line stack number letter disk start len = decimal number ++ code " " ∷ (letter ∷ code " " ∷ sector_text stack disk start ++ code " " ∷ decimal len) ++ code "\n" ∷ []

-- the line of a piece without a disk, made of the request's number, the word and the length
abbrev pub plain_line : (number : ℕ) → (word : List ℕ) → (len : ℕ) → List ℕ
plain_line number word len = decimal number ++ code " " ∷ (word ++ decimal len) ++ code "\n" ∷ []

-- the lines of all pieces of a request
abbrev pub pieces_text : Description → ℕ → List UnitRun → List ℕ
pieces_text stack number pieces = flat_map (piece_text stack number) pieces
