-- Path lists: a line DISK PATH for each disk that has an image file.
use Rattle.dm_table.specs.Base.{ℕ, Bool, true, List, [], length, take, drop, get_or, nat_eq, nat_le, nat_lt, is_some, map, codes, Option, None, Some, Result, Err, option_map, is_ascii_digit, starts_with, list_all, is_utf8, digits_value, Paths, LoadFault, RowFault, Syntax}
use Rattle.dm_table.specs.declared.tables.disk_path.DiskPath.{DiskPath}
use Rattle.dm_table.specs.load.LoadFault.{first_fault, unless}
use Rattle.dm_table.specs.load.Reading.{LinesSay, line_checks, values_from}
use Rattle.dm_table.specs.tables.ConciseText.{lacks}
use Rattle.dm_table.specs.tables.Extent.{Extent, whole_file}
use Rattle.dm_table.specs.tables.DiskList.{has_name, is_pair, pair_in}
use Rattle.dm_table.specs.tables.LineReading.{reading_of}
use Rattle.dm_table.specs.words.Bytes.{code}
use Rattle.dm_table.specs.words.Fields.{last_or, lines_of, parts_at}
use Rattle.dm_table.specs.words.Name.{is_disk_name}
use Rattle.std.specs.Prelude.{◌≡◌, ◌+◌, ◌-◌, ◌/◌, ◌%◌, ◌<◌, ◌==◌, ◌&&◌, ◌||◌, ◌∷◌, ◌++◌, if◌then◌else◌}

-- ---- a text cut in two

-- the bytes before the first byte c of a text, and the bytes after that c; without a c, the whole text and no bytes
abbrev pub cut_at : (c : ℕ) → List ℕ → List (List ℕ)
cut_at c text = let front = get_or (parts_at c text) 0 [] in front ∷ drop (length front + 1) text ∷ []

-- ---- the file and the extent in a path

-- the number of bytes that 1 to 18 digits spell
abbrev pub bytes_in : List ℕ → Option ℕ
bytes_in digits =
    if nat_le 1 (length digits) && (nat_le (length digits) 18 && list_all is_ascii_digit digits) then Some (digits_value 10 digits) else None

-- a number of bytes in sectors of 512 bytes, or None if it isn't a multiple of 512
abbrev pub whole_sectors : Option ℕ → Option ℕ
whole_sectors (Some bytes) = if bytes % 512 == 0 then Some (bytes / 512) else None
whole_sectors None = None

-- the number of sectors in a text of the form KEY=BYTES; `key` includes the equals sign
abbrev pub sectors_in : (key text : List ℕ) → Option ℕ
sectors_in key text = if starts_with nat_eq text key then whole_sectors (bytes_in (drop (length key) text)) else None

-- the extent with this start and this length in sectors, or None if either is missing or the length is 0
abbrev pub extent_at : (start len : Option ℕ) → Option Extent
extent_at (Some start) (Some len) = if nat_lt 0 len then Some (record { start = start; len = len }) else None
extent_at start len = None

-- the extent that the two texts offset=BYTES and length=BYTES describe
abbrev pub extent_by : List (List ℕ) → Option Extent
extent_by (offset ∷ len ∷ []) = extent_at (sectors_in (codes "offset=") offset) (sectors_in (codes "length=") len)
extent_by texts = None

-- the bytes after the last ? of a text, or the whole text if there is no ?
abbrev pub after_mark : List ℕ → List ℕ
after_mark text = last_or [] (parts_at (code "?") text)

-- the bytes after a ? try to name a part of the file: they begin with offset= or length=, whether or not the rest is valid
abbrev pub is_of_part : List ℕ → Bool
is_of_part keys = starts_with nat_eq keys (codes "offset=") || starts_with nat_eq keys (codes "length=")

-- the file with this path and the extent of the file, or None if the path isn't UTF-8 or there is no extent
abbrev pub extent_of : (file : List ℕ) → Option Extent → Option (List ℕ × Extent)
extent_of file extent = if is_utf8 file then option_map (λ it. (file, it)) extent else None

-- the file and the extent that a path names: a part for FILE?offset=BYTES&length=BYTES, or the whole file if the path doesn't try to name a part
unfoldable pub place_in : List ℕ → Option (List ℕ × Extent)
place_in path =
    let keys = after_mark path in
    if nat_lt (length keys) (length path) && is_of_part keys then extent_of (take (length path - length keys - 1) path) (extent_by (cut_at (code "&") keys)) else extent_of path (Some whole_file)

-- ---- what the lines of a path list describe

-- a line in a path list may be any UTF-8 text without a NUL
abbrev pub is_path_text : List ℕ → Bool
is_path_text text = is_utf8 text && lacks 0 text

-- line number n of a path list describes where this disk's image is
pub record IsPathOf (n : ℕ) (line : List ℕ) (disk : DiskPath) : Type 0 where
  pub path : List ℕ
  pub said : line ≡ disk.disk ++ code " " ∷ path
  pub text : is_path_text line ≡ true
  pub name : is_disk_name disk.disk ≡ true
  pub some : 0 < length path
  pub place : place_in path ≡ Some (disk.file, disk.extent)
  pub at : disk.at ≡ record { part = Paths; number = n }

-- the text describes where the images of these disks are, one line per disk
abbrev pub DescribesPaths : List ℕ → List DiskPath → Type 0
DescribesPaths = LinesSay IsPathOf

-- ---- the checks of a path list

-- a line as two fields: the bytes before the line's first space, and the bytes after it
abbrev pub name_and_path : List ℕ → List (List ℕ)
name_and_path = cut_at (code " ")

-- the entry for the disk with this name whose image is in this file and extent, as line number n of the path list
abbrev pub path_at : ℕ → List ℕ → List ℕ × Extent → DiskPath
path_at n name place = record { disk = name; file = place.0; extent = place.1; at = record { part = Paths; number = n } }

-- the entry that a row describes as line number n of the path list, if the row's path is valid
abbrev pub path_in : ℕ → List (List ℕ) → Option DiskPath
path_in = pair_in place_in path_at

-- the row's path is valid, whatever the line's number: it names a file and an extent
abbrev pub has_place : List (List ℕ) → Bool
has_place row = is_some (path_in 0 row)

-- the checks of a path list, in the order in which they run
abbrev pub path_checks : List ℕ → List (List LoadFault)
path_checks text = line_checks is_path_text Paths name_and_path is_pair has_place has_name text

-- the result of reading a path list: its entries, or the first fault of the first check that finds any
unfoldable pub read_paths : List ℕ → Result (List DiskPath) LoadFault
read_paths text = unless (first_fault (path_checks text)) (values_from path_in 1 (map name_and_path (lines_of text)))

-- ---- how a row of a path list is read

-- the entry that a row describes as line number n of the path list, or the fault of the first test that the row fails
abbrev pub path_reading : ℕ → List (List ℕ) → Result DiskPath RowFault
path_reading n row = if is_pair row then reading_of (λ (disk : DiskPath). is_disk_name disk.disk) (path_in n row) else Err Syntax
