-- Table text (dmsetup(8)): a text line NAME: START LEN TYPE ARGS for each line of a table. The name and its colon are the label of the line.
use Rattle.dm_table.specs.Base.{ℕ, Bool, true, false, List, [], length, map, nat_lt, flat_map, AllByRecursion, Place, Source, LoadFault}
use Rattle.dm_table.specs.declared.tables.table.Line.{Line}
use Rattle.dm_table.specs.declared.tables.table.DeviceSpec.{DeviceSpec}
use Rattle.dm_table.specs.words.Name.{is_device_name}
use Rattle.dm_table.specs.words.Fields.{row_fields, all_but_last, last_or}
use Rattle.dm_table.specs.load.LoadFault.{is_printable}
use Rattle.dm_table.specs.load.Reading.{LinesSay, line_checks}
use Rattle.dm_table.specs.tables.LineBody.{body_text, IsBody, is_body_row, is_body, has_body_names}
use Rattle.dm_table.specs.words.Bytes.{code}
use Rattle.std.specs.Prelude.{◌≡◌, ◌≢◌, ◌⊎◌, ◌==◌, ◌&&◌, ◌∷◌, ◌++◌}

-- ---- which devices table text describes

-- a line of a table, and the name of the device that it belongs to
pub record NamedLine : Type 0 where
  pub name : List ℕ
  pub line : Line

-- the text line for a named line, without a newline
abbrev pub line_text : NamedLine → List ℕ
line_text named = named.name ++ code ":" ∷ code " " ∷ body_text named.line

-- the text line describes this named line; the text line may end with one extra space
abbrev pub Writes : List ℕ → NamedLine → Type 0
Writes text named = (text ≡ line_text named) ⊎ (text ≡ line_text named ++ code " " ∷ [])

-- text line number n can describe this named line: its name and its body are valid, and its place is n
pub record IsSaid (n : ℕ) (named : NamedLine) : Type 0 where
  pub name : is_device_name named.name ≡ true
  pub body : IsBody named.line
  pub at : named.line.at ≡ record { part = Source; number = n }

-- text line number n describes this named line
abbrev pub SaysLine : ℕ → List ℕ → NamedLine → Type 0
SaysLine n text named = Writes text named × IsSaid n named

-- the lines of all devices in order, each with the name of its device
abbrev pub named_lines : List DeviceSpec → List NamedLine
named_lines = flat_map (λ device. map (λ line. record { name = device.name; line = line }) device.lines)

-- the list has a first line, and `at` is that line's place, which in table text is the place of the device
abbrev pub HasPlaceOf : List Line → Place → Type 0
HasPlaceOf [] at = ⊥
HasPlaceOf (line ∷ lines) at = at ≡ line.at

-- table text can describe this device: it is writable, because table text has no flag for read-only, and its place is that of its first line
pub record IsDescribed (device : DeviceSpec) : Type 0 where
  pub writable : device.ro ≡ false
  pub at : HasPlaceOf device.lines device.at

-- neighbouring devices have different names, because neighbouring text lines with the same name form one device
abbrev pub DifferInName : List DeviceSpec → Type 0
DifferInName [] = Unit {0}
DifferInName (device ∷ []) = Unit {0}
DifferInName (device ∷ next ∷ devices) = (device.name ≢ next.name) × DifferInName (next ∷ devices)

-- the table text describes these devices
pub record DescribesTable (text : List ℕ) (devices : List DeviceSpec) : Type 0 where
  pub said : LinesSay SaysLine text (named_lines devices)
  pub each : AllByRecursion IsDescribed devices
  pub apart : DifferInName devices

-- ---- the checks of table text

-- the field is a label: at least one byte, and then a colon at the end
abbrev pub is_label : List ℕ → Bool
is_label field = nat_lt 1 (length field) && last_or 0 field == code ":"

-- the name in a label: all of its bytes except the colon at the end
abbrev pub name_in : List ℕ → List ℕ
name_in label = all_but_last label

-- the row consists of a label and enough nonempty fields for a body
abbrev pub is_row : List (List ℕ) → Bool
is_row (label ∷ body) = is_label label && is_body_row body
is_row [] = false

-- the values in the body of a row are valid
abbrev pub has_values : List (List ℕ) → Bool
has_values (label ∷ body) = is_body body
has_values [] = false

-- the name in the label of a row and all names in the row's body are valid
abbrev pub has_names : List (List ℕ) → Bool
has_names (label ∷ body) = is_device_name (name_in label) && has_body_names body
has_names [] = false

-- the checks of table text, in the order in which they run
abbrev pub table_checks : List ℕ → List (List LoadFault)
table_checks text = line_checks is_printable Source row_fields is_row has_values has_names text
