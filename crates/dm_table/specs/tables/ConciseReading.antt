-- How a device in the concise form is read, in the terms that the contracts of the parser's functions use.
use Rattle.dm_table.specs.Base.{ℕ, Bool, List, [], drop, Option, Some, None, Result, filter_map, Place, Source, LoadFault, RowFault, Syntax, Field, Name}
use Rattle.dm_table.specs.declared.tables.table.Line.{Line}
use Rattle.dm_table.specs.declared.tables.table.DeviceSpec.{DeviceSpec}
use Rattle.dm_table.specs.load.LoadFault.{first_fault, row_checks, unless}
use Rattle.dm_table.specs.load.Reading.{values_from}
use Rattle.dm_table.specs.load.RowFaults.{row_fault, said_unless}
use Rattle.dm_table.specs.tables.LineBody.{is_body_row, is_body, has_body_names}
use Rattle.dm_table.specs.tables.LineReading.{line_in}
use Rattle.dm_table.specs.tables.ConciseText.{place_of, is_ro, entries, body_fields, is_label, has_label_values, has_label_names, is_device, has_values, has_names, devices_of, concise_checks}
use Rattle.std.specs.Prelude.{◌&&◌, ◌∷◌}

-- of two faults, the one whose check runs first; the order of checks is Syntax, Field, Name
abbrev pub earlier_of : Option RowFault → Option RowFault → Option RowFault
earlier_of None other = other
earlier_of (Some Field) (Some Syntax) = Some Syntax
earlier_of (Some Name) (Some other) = Some other
earlier_of (Some fault) other = Some fault

-- the fault of the text of one line's body, if there is a fault
abbrev pub fault_of_body : List ℕ → Option RowFault
fault_of_body text = row_fault is_body_row is_body has_body_names (body_fields text)

-- of the faults of a device's bodies, the one whose check runs first
abbrev pub fault_of_bodies : List (List ℕ) → Option RowFault
fault_of_bodies [] = None
fault_of_bodies (text ∷ texts) = earlier_of (fault_of_body text) (fault_of_bodies texts)

-- the lines that the bodies describe, each with the place `at`
abbrev pub lines_in : Place → List (List ℕ) → List Line
lines_in at texts = filter_map (λ text. line_in at (body_fields text)) texts

-- the fault of a device's label, which is its first four entries; Syntax too if the device's text contains a newline
abbrev pub fault_of_label : Bool → List (List ℕ) → Option RowFault
fault_of_label on_a_line entries = row_fault (λ es. on_a_line && is_label es) has_label_values has_label_names entries

-- of the faults of a device's label and of its bodies, the one whose check runs first
abbrev pub fault_of_entries : Bool → List (List ℕ) → Option RowFault
fault_of_entries on_a_line entries =
    earlier_of (fault_of_label on_a_line entries) (fault_of_bodies (drop 4 entries))

-- the fault of a device's text, if there is a fault
abbrev pub fault_of_device : List ℕ → Option RowFault
fault_of_device text = row_fault is_device has_values has_names text

-- the device that the entries describe, as device number n of the text
abbrev pub device_in : ℕ → List (List ℕ) → Option DeviceSpec
device_in n (name ∷ uuid ∷ minor ∷ flags ∷ bodies) = Some (record { name = name; ro = is_ro flags; lines = lines_in (place_of n) bodies; at = place_of n })
device_in n _ = None

-- ---- what the parser's functions return

-- the lines of one device, or, of the fault `before` and the faults of the bodies, the one whose check runs first
abbrev pub bodies_reading : Place → Option RowFault → List (List ℕ) → Result (List Line) RowFault
bodies_reading at before texts = unless (earlier_of before (fault_of_bodies texts)) (lines_in at texts)

-- device number n, or the fault of the device's entries; `on_a_line` is true if the entries contain no newline
abbrev pub entries_reading : ℕ → Bool → List (List ℕ) → Result DeviceSpec RowFault
entries_reading n on_a_line entries = said_unless (fault_of_entries on_a_line entries) (device_in n entries)

-- device number n, or the fault of the device's text
abbrev pub device_reading : ℕ → List ℕ → Result DeviceSpec RowFault
device_reading n text = said_unless (fault_of_device text) (device_in n (entries text))

-- the devices that the texts describe, numbered from n
abbrev pub devices_from : ℕ → List (List ℕ) → List DeviceSpec
devices_from = values_from (λ n text. device_in n (entries text))

-- the devices in the parts of a text, or the first fault of the first row check that finds any; the bytes have been checked before
abbrev pub parts_reading : List (List ℕ) → Result (List DeviceSpec) LoadFault
parts_reading parts = unless (first_fault (row_checks Source is_device has_values has_names parts [])) (devices_from 1 parts)

-- the devices in a text of the concise form, or the first fault of the first check that finds any
unfoldable pub read_concise : List ℕ → Result (List DeviceSpec) LoadFault
read_concise text = unless (first_fault (concise_checks text)) (devices_from 1 (devices_of text))
