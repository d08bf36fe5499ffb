-- How a row of table text is read, in the terms that the contracts of the parser's functions use.
use Rattle.dm_table.specs.Base.{ℕ, Bool, false, List, [], map, nat_eq, Option, Some, None, Result, Err, option_map, pointwise, Place, Source, RowFault, Syntax}
use Rattle.dm_table.specs.declared.tables.table.DeviceSpec.{DeviceSpec}
use Rattle.dm_table.specs.words.Fields.{row_fields}
use Rattle.dm_table.specs.load.Reading.{values_from}
use Rattle.dm_table.specs.words.Name.{is_device_name}
use Rattle.dm_table.specs.load.RowFaults.{row_fault}
use Rattle.dm_table.specs.tables.LineBody.{has_target_names}
use Rattle.dm_table.specs.tables.LineReading.{line_in, reading_of}
use Rattle.dm_table.specs.tables.TableText.{NamedLine, name_in, is_row, has_values, has_names}
use Rattle.std.specs.Prelude.{◌&&◌, ◌∷◌, ◌++◌, if◌then◌else◌}

-- the rows of text lines: each text line, cut into its fields
abbrev pub rows_of : List (List ℕ) → List (List (List ℕ))
rows_of = map row_fields

-- the line that a row describes as line number n of the text, with the name of the line's device
abbrev pub named_in : ℕ → List (List ℕ) → Option NamedLine
named_in n (label ∷ body) = option_map (λ line. record { name = name_in label; line = line }) (line_in (record { part = Source; number = n }) body)
named_in n [] = None

-- a device with this one line, and with the line's name and place
abbrev pub alone : NamedLine → DeviceSpec
alone named = record { name = named.name; ro = false; lines = named.line ∷ []; at = named.line.at }

-- a device with one more line in front; the place of the new line becomes the place of the device
abbrev pub with_line : NamedLine → DeviceSpec → DeviceSpec
with_line named device = record { name = device.name; ro = device.ro; lines = named.line ∷ device.lines; at = named.line.at }

-- the devices with one more line in front: the line joins the first device if the names are equal, else it becomes a device of its own
abbrev pub join_line : NamedLine → List DeviceSpec → List DeviceSpec
join_line named [] = alone named ∷ []
join_line named (device ∷ devices) =
    if pointwise nat_eq named.name device.name then with_line named device ∷ devices else alone named ∷ device ∷ devices

-- the devices that named lines describe: neighbouring lines with the same name form one device
abbrev pub joined : List NamedLine → List DeviceSpec
joined [] = []
joined (named ∷ more) = join_line named (joined more)

-- the devices with one more line at the end: the line joins the last device if the names are equal, else it becomes a device of its own
abbrev pub add_line : List DeviceSpec → NamedLine → List DeviceSpec
add_line [] named = alone named ∷ []
add_line (device ∷ []) named =
    if pointwise nat_eq named.name device.name then record device { lines = device.lines ++ named.line ∷ [] } ∷ [] else device ∷ alone named ∷ []
add_line (device ∷ next ∷ devices) named = device ∷ add_line (next ∷ devices) named

-- the devices with the line that a row describes added at the end, or unchanged if the row describes none
abbrev pub add_said : List DeviceSpec → Option NamedLine → List DeviceSpec
add_said devices None = devices
add_said devices (Some named) = add_line devices named

-- the fault of a row of table text, if there is a fault
abbrev pub table_row_fault : List (List ℕ) → Option RowFault
table_row_fault row = row_fault is_row has_values has_names row

-- the name of the line's device and all names in the line's target are valid
abbrev pub has_line_names : NamedLine → Bool
has_line_names named = is_device_name named.name && has_target_names named.line.target

-- the line that a body describes for the device `name`, or the fault of the line's values or names
abbrev pub named_reading : List ℕ → Place → List (List ℕ) → Result NamedLine RowFault
named_reading name at body = reading_of has_line_names (option_map (λ line. record { name = name; line = line }) (line_in at body))

-- the line that a row describes as line number n of the text, or the fault of the first test that the row fails
abbrev pub row_reading : ℕ → List (List ℕ) → Result NamedLine RowFault
row_reading n row = if is_row row then reading_of has_line_names (named_in n row) else Err Syntax

-- the devices that rows of table text describe; the rows are numbered from n on
abbrev pub devices_from : ℕ → List (List (List ℕ)) → List DeviceSpec
devices_from n rows = joined (values_from named_in n rows)
