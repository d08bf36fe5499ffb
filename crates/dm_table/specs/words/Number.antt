-- Numbers in texts: 0, or a digit 1 to 9 followed by at most 18 digits.
use Rattle.dm_table.specs.Base.{ℕ, Bool, true, not, List, length, take, Option, Some, None, nat_le, slice_index, decimal, unwrap_or, list_all, is_ascii_digit, digits_value}
use Rattle.dm_table.specs.words.Bytes.{code}
use Rattle.std.specs.Prelude.{◌≡◌, ◌^◌, ◌<◌, ◌≤◌, ◌==◌, ◌&&◌, ◌||◌, if◌then◌else◌}

-- the text is the number in decimal, without leading zeros and with at most 19 digits
pub record Spells (text : List ℕ) (number : ℕ) : Type 0 where
  pub digits : text ≡ decimal number
  pub short : number < 10 ^ 19

-- the text is a number: 1 to 19 digits, without a leading zero unless 0 is the only digit
abbrev pub is_number : List ℕ → Bool
is_number text = nat_le 1 (length text) && (nat_le (length text) 19 && ((not (slice_index text 0 == code "0") || length text == 1) && list_all is_ascii_digit text))

-- the number that a text spells, or None if it spells none
unfoldable pub number_of : List ℕ → Option ℕ
number_of text = if is_number text then Some (digits_value 10 text) else None

-- the number that a field spells, or 0 if the field spells none
abbrev pub number_in : List ℕ → ℕ
number_in field = unwrap_or (number_of field) 0

-- the first `len` bytes of a text are at most 19 digits, and `number` is their value
pub record IsReadTo (text : List ℕ) (len number : ℕ) : Type 0 where
  pub short : len ≤ 19
  pub within : len ≤ length text
  pub digits : list_all is_ascii_digit (take len text) ≡ true
  pub value : number ≡ digits_value 10 (take len text)
