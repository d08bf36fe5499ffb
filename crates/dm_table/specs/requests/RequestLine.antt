-- Request lines: R DEV START LEN for a read and W DEV START LEN for a write, without the newline.
use Rattle.dm_table.specs.Base.{ℕ, Bool, true, false, List, [], length, take, drop, decimal, Option, Some, None, Result, Ok, Err, nat_le, nat_eq, codes, pointwise}
use Rattle.dm_table.specs.declared.requests.request.TheConstants.{MOST_SECTORS}
use Rattle.dm_table.specs.declared.requests.request.Op.{Op}
use Rattle.dm_table.specs.declared.requests.request.Op.TheVariants.{Read, Write}
use Rattle.dm_table.specs.declared.requests.request.Request.{Request}
use Rattle.dm_table.specs.declared.requests.request.RequestFault.{RequestFault}
use Rattle.dm_table.specs.declared.requests.request.RequestFault.TheVariants.{Form, Number, Length}
use Rattle.dm_table.specs.words.Name.{is_device_name}
use Rattle.dm_table.specs.words.Number.{number_of}
use Rattle.dm_table.specs.words.Fields.{fields, parts_at}
use Rattle.dm_table.specs.tables.LineBody.{if_both}
use Rattle.dm_table.specs.words.Bytes.{code}
use Rattle.std.specs.Prelude.{◌≡◌, ◌+◌, ◌^◌, ◌<◌, ◌≤◌, ◌==◌, ◌&&◌, ◌||◌, ◌∷◌, ◌++◌, if◌then◌else◌}

-- the four values in a request line
pub record RequestValues : Type 0 where
  pub op : Op
  pub device : List ℕ
  pub start : ℕ
  pub len : ℕ

-- the values of a `Request`, without the number of its line
abbrev pub values_of : Request → RequestValues
values_of request = record { op = request.op; device = request.device.now; start = request.start; len = request.len }

-- the letter for an operation in a request line: R or W
abbrev pub op_text : Op → ℕ
op_text Read = code "R"
op_text Write = code "W"

-- the line for a request, without its newline
abbrev pub request_text : RequestValues → List ℕ
request_text values = op_text values.op ∷ code " " ∷ values.device ++ code " " ∷ decimal values.start ++ code " " ∷ decimal values.len

-- the four fields of the request line for an operation, a device name, a start and a length
abbrev pub row_of : Op → List ℕ → List ℕ → List ℕ → List (List ℕ)
row_of op device start len = (op_text op ∷ []) ∷ device ∷ start ∷ len ∷ []

-- the line describes a request with these values: a valid device name, a start below 10^19, and a length of 1 to MOST_SECTORS sectors
pub record DescribesRequest (line : List ℕ) (values : RequestValues) : Type 0 where
  pub written : line ≡ request_text values
  pub device : is_device_name values.device ≡ true
  pub start : values.start < 10 ^ 19
  pub least : 1 ≤ values.len
  pub most : values.len ≤ MOST_SECTORS

-- the first line of a text ends at offset `end`, has at most 200 bytes, and describes a request with these values
pub record IsFront (text : List ℕ) (values : RequestValues) (end : ℕ) : Type 0 where
  pub described : DescribesRequest (take end text) values
  pub line : parts_at (code "\n") text ≡ take end text ∷ parts_at (code "\n") (drop (end + 1) text)
  pub within : end < length text
  pub short : end ≤ 200

-- ---- the checks of a request line

-- the field is R or W
abbrev pub is_op : List ℕ → Bool
is_op (letter ∷ []) = letter == code "R" || letter == code "W"
is_op _ = false

-- the length is one that a request may have: 1 to MOST_SECTORS sectors
abbrev pub is_length : ℕ → Bool
is_length len = nat_le 1 len && nat_le len MOST_SECTORS

-- the fields are an operation, a valid device name and two more nonempty fields
abbrev pub has_form : List (List ℕ) → Bool
has_form (op ∷ device ∷ start ∷ len ∷ []) = is_op op && (is_device_name device && (nat_le 1 (length start) && nat_le 1 (length len)))
has_form _ = false

-- there are exactly two fields, and both are nonempty
abbrev pub are_two : List (List ℕ) → Bool
are_two (start ∷ len ∷ []) = nat_le 1 (length start) && nat_le 1 (length len)
are_two _ = false

-- the texts are two fields that spell the numbers m and n
pub record AreNumbers (texts : List (List ℕ)) (m n : ℕ) : Type 0 where
  pub start : List ℕ
  pub len : List ℕ
  pub two : texts ≡ start ∷ len ∷ []
  pub first : number_of start ≡ Some m
  pub last : number_of len ≡ Some n

-- ---- how a request line is read: its values, or the fault of the first test that it fails

-- the values that four fields describe, or None if the start or the length isn't a number
abbrev pub values_in : List (List ℕ) → Option RequestValues
values_in (op ∷ device ∷ start ∷ len ∷ []) = if_both (λ start len. record { op = if pointwise nat_eq op (codes "R") then Read else Write; device = device; start = start; len = len }) (number_of start) (number_of len)
values_in _ = None

-- the values of a request, or the request's fault: Number if there are no values, or Length if the length is out of range
abbrev pub values_reading : Option RequestValues → Result RequestValues RequestFault
values_reading None = Err Number
values_reading (Some values) = if is_length values.len then Ok values else Err Length

-- the values of a request line, or the first of the faults Form, Number and Length that applies
abbrev pub request_reading : List ℕ → Result RequestValues RequestFault
request_reading line = if has_form (fields line) then values_reading (values_in (fields line)) else Err Form
