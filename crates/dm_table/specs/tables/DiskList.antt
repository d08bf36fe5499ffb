-- Disk lists: a line NAME SECTORS for each disk.
use Rattle.dm_table.specs.Base.{ℕ, Bool, true, false, List, [], length, nat_lt, decimal, is_some, Option, None, Result, Err, option_map, Disks, LoadFault, RowFault, Syntax}
use Rattle.dm_table.specs.declared.tables.disk.Disk.{Disk}
use Rattle.dm_table.specs.words.Name.{is_disk_name}
use Rattle.dm_table.specs.words.Number.{number_of}
use Rattle.dm_table.specs.words.Fields.{fields}
use Rattle.dm_table.specs.load.LoadFault.{is_printable}
use Rattle.dm_table.specs.load.Reading.{LinesSay, line_checks}
use Rattle.dm_table.specs.tables.LineReading.{reading_of}
use Rattle.dm_table.specs.words.Bytes.{code}
use Rattle.std.specs.Prelude.{◌≡◌, ◌^◌, ◌<◌, ◌&&◌, ◌∷◌, ◌++◌, if◌then◌else◌}

-- ---- what the lines of a disk list describe

-- the line for a disk, without its newline
abbrev pub disk_line : Disk → List ℕ
disk_line disk = disk.name ++ code " " ∷ decimal disk.len

-- line number n of a disk list describes this disk
pub record IsDiskOf (n : ℕ) (line : List ℕ) (disk : Disk) : Type 0 where
  pub spelled : line ≡ disk_line disk
  pub name : is_disk_name disk.name ≡ true
  pub len : disk.len < 10 ^ 19
  pub at : disk.at ≡ record { part = Disks; number = n }

-- the text describes these disks, one per line
abbrev pub DescribesDisks : List ℕ → List Disk → Type 0
DescribesDisks = LinesSay IsDiskOf

-- ---- the checks of a disk list

-- the row consists of two nonempty fields
abbrev pub is_pair : List (List ℕ) → Bool
is_pair (name ∷ sectors ∷ []) = nat_lt 0 (length name) && nat_lt 0 (length sectors)
is_pair _ = false

-- what a row of two fields describes as row n: `made` combines the name in the first field with the value in the second
abbrev pub pair_in : {V X : Type 0} → (value_of : List ℕ → Option V) → (made : ℕ → (name : List ℕ) → V → X) → ℕ → List (List ℕ) → Option X
pair_in value_of made n (name ∷ second ∷ []) = option_map (made n name) (value_of second)
pair_in value_of made n _ = None

-- the disk with this name and length in sectors, described on line number n of the disk list
abbrev pub disk_at : ℕ → List ℕ → ℕ → Disk
disk_at n name len = record { name = name; len = len; at = record { part = Disks; number = n } }

-- the disk that a row describes as line number n, if the second field is a number
abbrev pub disk_in : ℕ → List (List ℕ) → Option Disk
disk_in = pair_in number_of disk_at

-- the row describes a disk, whatever the line's number: the second of its two fields is a number of sectors
abbrev pub has_sectors : List (List ℕ) → Bool
has_sectors row = is_some (disk_in 0 row)

-- the row's first field is a valid disk name
abbrev pub has_name : List (List ℕ) → Bool
has_name (name ∷ more) = is_disk_name name
has_name [] = false

-- the checks of a disk list, in the order in which they run
abbrev pub disk_checks : List ℕ → List (List LoadFault)
disk_checks text = line_checks is_printable Disks fields is_pair has_sectors has_name text

-- ---- how a row of a disk list is read

-- the disk that a row describes as line number n, or the fault of the first test that the row fails
abbrev pub disk_reading : ℕ → List (List ℕ) → Result Disk RowFault
disk_reading n row = if is_pair row then reading_of (λ disk. is_disk_name disk.name) (disk_in n row) else Err Syntax
