-- The concise form (dmsetup(8)): devices separated by semicolons, each NAME,UUID,MINOR,FLAGS and its lines, separated by commas. The first four entries are the device's label.
use Rattle.dm_table.specs.Base.{ℕ, Bool, true, false, not, List, [], length, drop, nat_le, nat_eq, codes, is_some, list_all, join_with_byte, pointwise, Place, Source, LoadFault}
use Rattle.dm_table.specs.declared.tables.table.Line.{Line}
use Rattle.dm_table.specs.declared.tables.table.DeviceSpec.{DeviceSpec}
use Rattle.dm_table.specs.words.Name.{is_device_byte, is_device_name}
use Rattle.dm_table.specs.words.Number.{number_of}
use Rattle.dm_table.specs.words.Fields.{parts_at, all_but_last, last_or, row_fields}
use Rattle.dm_table.specs.load.LoadFault.{not_text, row_checks}
use Rattle.dm_table.specs.load.Reading.{SayEach}
use Rattle.dm_table.specs.tables.LineBody.{body_text, IsBody, is_body_row, is_body, has_body_names}
use Rattle.dm_table.specs.words.Bytes.{code}
use Rattle.std.specs.Prelude.{◌≡◌, ◌⊎◌, ◌≤◌, ◌==◌, ◌&&◌, ◌||◌, ◌∷◌, ◌++◌, if◌then◌else◌}

-- ---- the label of a device: its first four entries

-- the entry is a valid uuid: at most 128 bytes, possibly none, that a device's name may contain
abbrev pub is_uuid : List ℕ → Bool
is_uuid text = nat_le (length text) 128 && list_all is_device_byte text

-- the entry is a valid minor number: empty, or a number
abbrev pub is_minor : List ℕ → Bool
is_minor text = length text == 0 || is_some (number_of text)

-- the entry is the flag ro, which makes the device read-only
abbrev pub is_ro : List ℕ → Bool
is_ro text = pointwise nat_eq text (codes "ro")

-- the entry is a valid flag: ro, rw, or empty, which means rw
abbrev pub is_flags : List ℕ → Bool
is_flags text = length text == 0 || (is_ro text || pointwise nat_eq text (codes "rw"))

-- ---- which devices a text in the concise form describes

-- the place of device number n of a text, and of each of the device's lines
abbrev pub place_of : ℕ → Place
place_of n = record { part = Source; number = n }

-- the text is the body of this line, with at most one space before the body and at most one after it
abbrev pub WritesBody : List ℕ → Line → Type 0
WritesBody text line =
    ((text ≡ body_text line) ⊎ (text ≡ body_text line ++ code " " ∷ []))
    ⊎ ((text ≡ code " " ∷ body_text line) ⊎ (text ≡ code " " ∷ body_text line ++ code " " ∷ []))

-- each text is the valid body of the line at the same position, and all lines have the place of device number n
abbrev pub SaysLines : ℕ → List (List ℕ) → List Line → Type 0
SaysLines n [] [] = Unit {0}
SaysLines n [] (line ∷ lines) = ⊥
SaysLines n (text ∷ texts) [] = ⊥
SaysLines n (text ∷ texts) (line ∷ lines) = WritesBody text line × IsBody line × (line.at ≡ place_of n) × SaysLines n texts lines

-- the text describes this device, as device number n
pub record SaysDevice (n : ℕ) (text : List ℕ) (device : DeviceSpec) : Type 0 where
  pub uuid : List ℕ
  pub minor : List ℕ
  pub flags : List ℕ
  pub bodies : List (List ℕ)
  pub spelled : text ≡ join_with_byte (code ",") (device.name ∷ uuid ∷ minor ∷ flags ∷ bodies)
  pub named : is_device_name device.name ≡ true
  pub with_uuid : is_uuid uuid ≡ true
  pub with_minor : is_minor minor ≡ true
  pub with_flags : is_flags flags ≡ true
  pub ro : device.ro ≡ is_ro flags
  pub some : 1 ≤ length bodies
  pub said : SaysLines n bodies device.lines
  pub at : device.at ≡ place_of n

-- the text describes these devices in the concise form; the text may end with a newline
pub record DescribesConcise (text : List ℕ) (devices : List DeviceSpec) : Type 0 where
  pub parts : List (List ℕ)
  pub spelled : (text ≡ join_with_byte (code ";") parts) ⊎ (text ≡ join_with_byte (code ";") parts ++ code "\n" ∷ [])
  pub said : SayEach SaysDevice 1 parts devices

-- ---- the checks of a text in the concise form

-- no byte of the text is c
abbrev pub lacks : ℕ → List ℕ → Bool
lacks c text = list_all (λ b. not (b == c)) text

-- the text without the newline at its end, or the text itself if it doesn't end with a newline
abbrev pub without_newline : List ℕ → List ℕ
without_newline text = if last_or 0 text == code "\n" then all_but_last text else text

-- the parts of a text between semicolons; an empty text has no parts
abbrev pub parts_of : List ℕ → List (List ℕ)
parts_of [] = []
parts_of (byte ∷ bytes) = parts_at (code ";") (byte ∷ bytes)

-- the texts of the devices in a text of the concise form
abbrev pub devices_of : List ℕ → List (List ℕ)
devices_of text = parts_of (without_newline text)

-- the entries in a device's text, which commas separate
abbrev pub entries : List ℕ → List (List ℕ)
entries = parts_at (code ",")

-- the fields without the empty first field that comes from a space at the front of a text
abbrev pub without_first_space : List (List ℕ) → List (List ℕ)
without_first_space ([] ∷ fields) = fields
without_first_space fields = fields

-- the fields of a body, without the empty fields that come from a space before or after the body
abbrev pub body_fields : List ℕ → List (List ℕ)
body_fields text = without_first_space (row_fields text)

-- the entries begin with a label: the first four contain no space, and at least one more entry follows
abbrev pub is_label : List (List ℕ) → Bool
is_label (name ∷ uuid ∷ minor ∷ flags ∷ body ∷ bodies) = lacks (code " ") name && (lacks (code " ") uuid && (lacks (code " ") minor && lacks (code " ") flags))
is_label _ = false

-- the minor number and the flags among a device's entries are valid
abbrev pub has_label_values : List (List ℕ) → Bool
has_label_values (name ∷ uuid ∷ minor ∷ flags ∷ bodies) = is_minor minor && is_flags flags
has_label_values _ = false

-- the name and the uuid among a device's entries are valid
abbrev pub has_label_names : List (List ℕ) → Bool
has_label_names (name ∷ uuid ∷ bodies) = is_device_name name && is_uuid uuid
has_label_names _ = false

-- the bodies of the lines in a device's text, which are the entries after the first four
abbrev pub bodies_of : List ℕ → List (List ℕ)
bodies_of text = drop 4 (entries text)

-- the text of a device has the right form: it contains no newline, begins with a label, and each body has at least three nonempty fields
abbrev pub is_device : List ℕ → Bool
is_device text = (lacks (code "\n") text && is_label (entries text)) && list_all (λ body. is_body_row (body_fields body)) (bodies_of text)

-- all values in a device's text are valid
abbrev pub has_values : List ℕ → Bool
has_values text = has_label_values (entries text) && list_all (λ body. is_body (body_fields body)) (bodies_of text)

-- all names in a device's text are valid
abbrev pub has_names : List ℕ → Bool
has_names text = has_label_names (entries text) && list_all (λ body. has_body_names (body_fields body)) (bodies_of text)

-- the checks of a text in the concise form, in the order in which they run
abbrev pub concise_checks : List ℕ → List (List LoadFault)
concise_checks text =
    let devices = devices_of text in
    not_text Source devices ∷ row_checks Source is_device has_values has_names devices []
