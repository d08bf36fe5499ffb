-- The texts that are written for devices: table text, and the concise form of dmsetup(8).
use Rattle.dm_table.specs.Base.{ℕ, suc, Bool, false, length, List, [], map, codes, flat_map, join_with_byte, Place, Source}
use Rattle.dm_table.specs.declared.tables.table.Line.{Line}
use Rattle.dm_table.specs.declared.tables.table.DeviceSpec.{DeviceSpec}
use Rattle.dm_table.specs.tables.LineBody.{body_text}
use Rattle.dm_table.specs.tables.TableText.{line_text}
use Rattle.dm_table.specs.tables.ConciseText.{place_of}
use Rattle.dm_table.specs.words.Bytes.{code}
use Rattle.std.specs.Prelude.{◌≡◌, ◌∷◌, ◌++◌, if◌then◌else◌, ◌+◌}

-- table text for the lines of one device: each line has the device's name in front and a newline at the end
abbrev pub lines_text : List ℕ → List Line → List ℕ
lines_text name lines = flat_map (λ line. line_text (record { name = name; line = line }) ++ code "\n" ∷ []) lines

-- table text for devices: a text line for each line of each device, in order
abbrev pub table_text : List DeviceSpec → List ℕ
table_text devices = flat_map (λ device. lines_text device.name device.lines) devices

-- the text between a device's name and its lines in the concise form: an empty uuid, an empty minor number, and ro or rw
abbrev pub flag_text : Bool → List ℕ
flag_text ro = if ro then codes ",,,ro," else codes ",,,rw,"

-- a device in the concise form, without the semicolon that separates devices
abbrev pub concise_device : DeviceSpec → List ℕ
concise_device device = device.name ++ flag_text device.ro ++ join_with_byte (code ",") (map body_text device.lines)

-- devices in the concise form, with semicolons between them and a newline at the end
abbrev pub concise_text : List DeviceSpec → List ℕ
concise_text devices = join_with_byte (code ";") (map concise_device devices) ++ code "\n" ∷ []

-- ---- which devices table text can describe

-- the lines, with consecutive numbers from n on as their places in the source
abbrev pub placed_lines : ℕ → List Line → List Line
placed_lines n [] = []
placed_lines n (line ∷ lines) = record line { at = record { part = Source; number = n } } ∷ placed_lines (suc n) lines

-- the devices as table text can describe them: all are writable, the places of the lines are numbered from n, and a device has the place of its first line
abbrev pub as_table : ℕ → List DeviceSpec → List DeviceSpec
as_table n [] = []
as_table n (device ∷ devices) =
    record { name = device.name; ro = false; lines = placed_lines n device.lines; at = record { part = Source; number = n } }
    ∷ as_table (n + length device.lines) devices

-- ---- which devices the concise form can describe

-- the lines, with `at` as the place of each
abbrev pub lines_at : Place → List Line → List Line
lines_at at [] = []
lines_at at (line ∷ lines) = record line { at = at } ∷ lines_at at lines

-- the devices as the concise form can describe them: the place of a device, and of all its lines, is the device's number, counted from n
abbrev pub as_concise : ℕ → List DeviceSpec → List DeviceSpec
as_concise n [] = []
as_concise n (device ∷ devices) =
    record { name = device.name; ro = device.ro; lines = lines_at (place_of n) device.lines; at = place_of n } ∷ as_concise (suc n) devices

-- if any text describes the devices, apart from what the form can't express, then the text that is written for them describes them too
abbrev pub ReadsBack : (describes : List ℕ → List DeviceSpec → Type 0) (sayable : List DeviceSpec → List DeviceSpec) (text_of : List DeviceSpec → List ℕ) (devices : List DeviceSpec) → Type 0
ReadsBack describes sayable text_of devices = (text : List ℕ) (said : List DeviceSpec) → describes text said → sayable said ≡ sayable devices → describes (text_of devices) (sayable devices)
