-- The body of a line of a table: a start, a length, and a target with its arguments (dmsetup(8)). What comes before the body is up to the form.
use Rattle.dm_table.specs.Base.{ℕ, Bool, true, List, [], length, nat_le, nat_lt, nat_eq, codes, decimal, drop, Option, Some, None, is_some, unwrap_or, map, option_map, flat_map, list_all, join_with_byte, AllByRecursion, pointwise}
use Rattle.dm_table.specs.declared.tables.table.DevRef.{DevRef}
use Rattle.dm_table.specs.declared.tables.table.DevRef.TheVariants.{Device, Disk}
use Rattle.dm_table.specs.declared.tables.table.Column.{Column}
use Rattle.dm_table.specs.declared.tables.table.Target.{Target}
use Rattle.dm_table.specs.declared.tables.table.StoreKind.{StoreKind}
use Rattle.dm_table.specs.declared.tables.table.StoreKind.TheVariants.{Persistent, Transient, Keeping}
use Rattle.dm_table.specs.declared.tables.table.Target.TheVariants.{Linear, Striped, Zero, Error, Snapshot, Origin}
use Rattle.dm_table.specs.declared.tables.table.Line.{Line}
use Rattle.dm_table.specs.words.Name.{is_device_name, is_disk_name, names_device, mapper}
use Rattle.dm_table.specs.words.Number.{number_of, number_in}
use Rattle.dm_table.specs.words.Bytes.{code}
use Rattle.std.specs.Prelude.{◌≡◌, ◌+◌, ◌*◌, ◌^◌, ◌<◌, ◌==◌, ◌&&◌, ◌∷◌, ◌++◌, if◌then◌else◌}

-- ---- which lines a body can describe, and how they are written

-- the text for the device or disk that a target names
abbrev pub dev_text : DevRef → List ℕ
dev_text (Device name) = mapper ++ name
dev_text (Disk name) = name

-- the text for a column of a striped target, with a space before each of its two arguments
abbrev pub column_text : Column → List ℕ
column_text column = code " " ∷ dev_text column.to ++ code " " ∷ decimal column.offset

-- the letter for a kind of exception store: P persistent, N transient, K persistent and kept valid when full
abbrev pub kind_text : StoreKind → List ℕ
kind_text Persistent = codes "P"
kind_text Transient = codes "N"
kind_text Keeping = codes "K"

-- an argument of a target: a lower device or disk, a number, or a kind of exception store
pub data Argument : Type 0 where
  Lower : DevRef → Argument
  Amount : ℕ → Argument
  Flag : StoreKind → Argument

-- the text for an argument of a target
abbrev pub argument_text : Argument → List ℕ
argument_text (Lower to) = dev_text to
argument_text (Amount n) = decimal n
argument_text (Flag kind) = kind_text kind

-- a target as a table's text lists it: its type, and then its arguments
pub record Row : Type 0 where
  pub type : List ℕ
  pub arguments : List Argument

abbrev pub row : List ℕ → List Argument → Row
row type arguments = record { type = type; arguments = arguments }

-- a column of a striped target as two arguments: a device or disk, and an offset
abbrev pub column_arguments : Column → List Argument
column_arguments column = Lower column.to ∷ Amount column.offset ∷ []

-- a target as its type and its arguments
abbrev pub target_row : Target → Row
target_row (Linear to offset) = row (codes "linear") (Lower to ∷ Amount offset ∷ [])
target_row (Striped chunk columns) = row (codes "striped") (Amount (length columns) ∷ Amount chunk ∷ flat_map column_arguments columns)
target_row Zero = row (codes "zero") []
target_row Error = row (codes "error") []
target_row (Snapshot origin store kind chunk) = row (codes "snapshot") (Lower origin ∷ Lower store ∷ Flag kind ∷ Amount chunk ∷ [])
target_row (Origin origin) = row (codes "snapshot-origin") (Lower origin ∷ [])

-- the fields for a target, its type first
abbrev pub target_fields : Target → List (List ℕ)
target_fields target = (target_row target).type ∷ map argument_text (target_row target).arguments

-- the text for a target: its fields with single spaces between them
abbrev pub target_text : Target → List ℕ
target_text target = join_with_byte (code " ") (target_fields target)

-- the text for the body of a line: start, length and target, with single spaces between the fields
abbrev pub body_text : Line → List ℕ
body_text line = join_with_byte (code " ") (decimal line.start ∷ decimal line.len ∷ target_fields line.target)

-- the name of the device or disk is valid
abbrev pub is_dev_ref : DevRef → Bool
is_dev_ref (Device name) = is_device_name name
is_dev_ref (Disk name) = is_disk_name name

-- a table can name this device or disk, because its name is valid
abbrev pub IsDevRef : DevRef → Type 0
IsDevRef dev = is_dev_ref dev ≡ true

-- a table can contain this argument: a valid name, or a number below 10^19, or any kind of exception store
abbrev pub IsArgument : Argument → Type 0
IsArgument (Lower to) = IsDevRef to
IsArgument (Amount n) = n < 10 ^ 19
IsArgument (Flag kind) = Unit {0}

-- a table can contain this target, because it can contain each argument
abbrev pub IsTarget : Target → Type 0
IsTarget target = AllByRecursion IsArgument (target_row target).arguments

-- a table can contain the body of this line
pub record IsBody (line : Line) : Type 0 where
  pub start : line.start < 10 ^ 19
  pub len : line.len < 10 ^ 19
  pub target : IsTarget line.target

-- ---- how fields are read as a body, whose names are checked only afterwards

-- the device or disk that a field names: a device if the field begins with /dev/mapper/, else a disk
abbrev pub dev_in : List ℕ → DevRef
dev_in text = if names_device text then Device (drop (length mapper) text) else Disk text

-- the result of `make` for two values, or None if either is missing
abbrev pub if_both : {X Y Z : Type 0} → (X → Y → Z) → Option X → Option Y → Option Z
if_both make None y = None
if_both make (Some x) y = option_map (make x) y

-- the pair of what `first` reads from the first field and what `others` reads from the other fields, or None if either fails
abbrev pub then_in : {X Y : Type 0} → (List ℕ → Option X) → (List (List ℕ) → Option Y) → List (List ℕ) → Option (X × Y)
then_in first others [] = None
then_in first others (field ∷ fields) = if_both (λ x y. (x, y)) (first field) (others fields)

-- the unit value if no field is left, else None
abbrev pub nothing_in : List (List ℕ) → Option (Unit {0})
nothing_in [] = Some tt
nothing_in (field ∷ fields) = None

-- the device or disk that a field names, never None, because every field names one
abbrev pub lower_in : List ℕ → Option DevRef
lower_in text = Some (dev_in text)

-- the columns that fields describe, if the fields are pairs of a device or disk and a number
abbrev pub columns_in : List (List ℕ) → Option (List Column)
columns_in [] = Some []
columns_in (to ∷ []) = None
columns_in (to ∷ offset ∷ more) = if_both (λ n columns. record { to = dev_in to; offset = n } ∷ columns) (number_of offset) (columns_in more)

-- `count` is the number of columns that n more fields describe: one for the chunk size and two for each column
abbrev pub is_count : List ℕ → ℕ → Bool
is_count count n = is_some (number_of count) && 2 * number_in count + 1 == n

-- the striped target that fields describe: the number of columns, the number of sectors per chunk, and the columns
abbrev pub striped_in : List (List ℕ) → Option Target
striped_in [] = None
striped_in (count ∷ others) = if is_count count (length others) then option_map (λ said. Striped said.0 said.1) (then_in number_of columns_in others) else None

-- the kind of exception store that a field names: P, N or K; else None
abbrev pub kind_in : List ℕ → Option StoreKind
kind_in flag =
    if pointwise nat_eq flag (codes "P") then Some Persistent
    else (if pointwise nat_eq flag (codes "N") then Some Transient
    else (if pointwise nat_eq flag (codes "K") then Some Keeping else None))

-- the linear target that two fields describe: a device or disk, and an offset
abbrev pub linear_in : List (List ℕ) → Option Target
linear_in fields = option_map (λ said. Linear said.0 said.1.0) (then_in lower_in (then_in number_of nothing_in) fields)

-- the striped, snapshot or snapshot-origin target that arguments describe
abbrev pub other_in : (type : List ℕ) → List (List ℕ) → Option Target
other_in type fields =
    if pointwise nat_eq type (codes "striped") then striped_in fields
    else (if pointwise nat_eq type (codes "snapshot")
    then option_map (λ said. Snapshot said.0 said.1.0 said.1.1.0 said.1.1.1.0) (then_in lower_in (then_in lower_in (then_in kind_in (then_in number_of nothing_in))) fields)
    else (if pointwise nat_eq type (codes "snapshot-origin") then option_map (λ said. Origin said.0) (then_in lower_in nothing_in fields)
    else None))

-- the target of this type that arguments describe
abbrev pub arguments_in : (type : List ℕ) → List (List ℕ) → Option Target
arguments_in type fields =
    if pointwise nat_eq type (codes "linear") then linear_in fields
    else (if pointwise nat_eq type (codes "zero") then option_map (λ said. Zero) (nothing_in fields)
    else (if pointwise nat_eq type (codes "error") then option_map (λ said. Error) (nothing_in fields)
    else other_in type fields))

-- the target that fields describe: first the type, then the arguments
abbrev pub target_in : List (List ℕ) → Option Target
target_in [] = None
target_in (type ∷ arguments) = arguments_in type arguments

-- a line of a table, without its place
pub record Body : Type 0 where
  pub start : ℕ
  pub len : ℕ
  pub target : Target

-- the body that fields describe: a start, a length and a target
abbrev pub body_in : List (List ℕ) → Option Body
body_in fields = option_map (λ said. record { start = said.0; len = said.1.0; target = said.1.1 }) (then_in number_of (then_in number_of target_in) fields)

-- ---- the checks of a body

-- there are enough fields for a body: at least three, none of them empty
abbrev pub is_body_row : List (List ℕ) → Bool
is_body_row fields = nat_le 3 (length fields) && list_all (λ field. nat_lt 0 (length field)) fields

-- the fields describe a body
abbrev pub is_body : List (List ℕ) → Bool
is_body fields = is_some (body_in fields)

-- the argument is a valid name, or no name at all
abbrev pub has_name : Argument → Bool
has_name (Lower to) = is_dev_ref to
has_name (Amount n) = true
has_name (Flag kind) = true

-- all names in a target are valid
abbrev pub has_target_names : Target → Bool
has_target_names target = list_all has_name (target_row target).arguments

-- all names in the body that the fields describe are valid; true if they describe no body
abbrev pub has_body_names : List (List ℕ) → Bool
has_body_names fields = unwrap_or (option_map (λ body. has_target_names body.target) (body_in fields)) true
