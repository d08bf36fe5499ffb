-- A line that is a request, and its fields: each determines the other, so a line is at most one request.
use Rattle.dm_table.proofs.Prelude.{ℕ, inl, inr, Bool, true, false, cond, eqb, nat_le, List, [], length, get_or, take, Option, Some, None, refl, sym, ap, ◌∙◌, append_assoc, arith, decimal, nat_eq, Result, Ok, Err, pointwise, join_with_byte, list_all, is_ascii_digit, and_parts, and_from, le-leb, or_cases, and_right, eqb-true, leb-true, false_from_ne_true, nat_tests, length-slice_split, Op, Read, Write, RequestFault, Form, Number, Length, is_device_name, is_device_byte, number_of, fields, RequestValues, AreNumbers, are_two, is_length, DescribesRequest, request_text, row_of, op_text, is_op, has_form, values_in, values_reading, request_reading, if_both, All-list_all, MOST_SECTORS}
use Rattle.dm_table.proofs.words.ByteLemmas.{StandsFirst, stands_first, device_name_parts, digits-clear, plain-device_name}
use Rattle.dm_table.proofs.words.FieldLemmas.{IsClearOf, parts_at-first, parts_at-clear, join-parts_at}
use Rattle.dm_table.proofs.words.NumberLemmas.{Spells-number_of, number_of-decimal, decimal_digits, decimal_some}
use Rattle.std.specs.Prelude.{◌≡◌, ◌≢◌, ◌^◌, ◌<◌, ◌≤◌, ◌⊎◌, ◌||◌, ◌∷◌, ◌++◌, ◌==◌}

-- ---- from the fields of a line to the line

-- the fields of a request, joined by spaces, are its text
row_text : (op : Op) (device start len : List ℕ) (s l : ℕ) → start ≡ decimal s → len ≡ decimal l
    → join_with_byte 32 (row_of op device start len) ≡ request_text (record { op = op; device = device; start = s; len = l })
row_text op device start len s l is_start is_len = rw (is_start, is_len) (simp append_assoc)

-- a line with these fields, and with numbers in their ranges, is the request
pub described : (line : List ℕ) (op : Op) (device : List ℕ) (more : List (List ℕ)) (s l : ℕ) → fields line ≡ (op_text op ∷ []) ∷ device ∷ more → is_device_name device ≡ true
    → AreNumbers more s l → 1 ≤ l → l ≤ MOST_SECTORS
    → DescribesRequest line (record { op = op; device = device; start = s; len = l })
described line op device more s l cut named read least most =
    let first = Spells-number_of read.start s read.first in
    let last = Spells-number_of read.len l read.last in
    let row : fields line ≡ row_of op device read.start read.len = rw (← read.two) cut in
    record {
      written = sym (join-parts_at 32 line) ∙ ap (join_with_byte 32) row ∙ row_text op device read.start read.len s l first.digits last.digits;
      device = named;
      start = first.short;
      least = least;
      most = most;
    }

-- ---- from a line that is a request to its fields

letter_space : (b : ℕ) → nat_le 65 b ≡ true → eqb b 32 ≡ false
letter_space b h = grind (arith, nat_tests)

-- the letter of an operation isn't a space
op_clear : (op : Op) → IsClearOf 32 (op_text op ∷ [])
op_clear Read = All-list_all (λ b. nat_le 65 b) (λ b. eqb b 32 ≡ false) letter_space (82 ∷ []) refl
op_clear Write = All-list_all (λ b. nat_le 65 b) (λ b. eqb b 32 ≡ false) letter_space (87 ∷ []) refl

-- the fields of a line that is a request
fields_are : (line : List ℕ) (values : RequestValues) → DescribesRequest line values
    → fields line ≡ row_of values.op values.device (decimal values.start) (decimal values.len)
fields_are line values said =
    let op = op_text values.op ∷ [] in
    let start = decimal values.start in
    let len = decimal values.len in
    let text : line ≡ op ++ 32 ∷ (values.device ++ 32 ∷ (start ++ 32 ∷ len)) = said.written ∙ simp append_assoc in
    let first : fields (op ++ 32 ∷ (values.device ++ 32 ∷ (start ++ 32 ∷ len))) ≡ op ∷ fields (values.device ++ 32 ∷ (start ++ 32 ∷ len)) =
    parts_at-first 32 op (values.device ++ 32 ∷ (start ++ 32 ∷ len)) (op_clear values.op) in
    let second : fields (values.device ++ 32 ∷ (start ++ 32 ∷ len)) ≡ values.device ∷ fields (start ++ 32 ∷ len) =
    parts_at-first 32 values.device (start ++ 32 ∷ len) (plain-device_name values.device said.device).clear in
    let third : fields (start ++ 32 ∷ len) ≡ start ∷ fields len = parts_at-first 32 start len (digits-clear start (decimal_digits values.start said.start)) in
    let fourth : fields len ≡ len ∷ [] = parts_at-clear 32 len (digits-clear len (decimal_digits values.len (omega (arith, said.most)))) in
    ap fields text ∙ rw (first, second, third, fourth)

-- ---- a line is at most one request

same_op : (a b : Op) → op_text a ≡ op_text b → a ≡ b
same_op Read Read e = refl
same_op Read Write e = absurd (omega arith)
same_op Write Read e = absurd (omega arith)
same_op Write Write e = refl

same_number : (m n : ℕ) → m < 10 ^ 19 → n < 10 ^ 19 → decimal m ≡ decimal n → m ≡ n
same_number m n below below' e =
    let read : number_of (decimal m) ≡ Some m = number_of-decimal m below in
    let read' : number_of (decimal n) ≡ Some n = number_of-decimal n below' in
    let same : number_of (decimal m) ≡ number_of (decimal n) = ap number_of e in
    cc

values_with : Op → List ℕ → ℕ → ℕ → RequestValues
values_with op device start len = record { op = op; device = device; start = start; len = len }

same_values : (a b : RequestValues) → a.op ≡ b.op → a.device ≡ b.device → a.start ≡ b.start → a.len ≡ b.len → a ≡ b
unfolding values_with
same_values a b op device start len =
    let whole : values_with a.op a.device a.start a.len ≡ values_with b.op b.device b.start b.len = cc in
    whole

-- a line is at most one request
pub unique : (line : List ℕ) (a b : RequestValues) → DescribesRequest line a → DescribesRequest line b → a ≡ b
unique line a b said said' =
    let e : row_of a.op a.device (decimal a.start) (decimal a.len) ≡ row_of b.op b.device (decimal b.start) (decimal b.len) = sym (fields_are line a said) ∙ fields_are line b said' in
    let op : op_text a.op ≡ op_text b.op = cc in
    let device : a.device ≡ b.device = cc in
    let start : decimal a.start ≡ decimal b.start = cc in
    let len : decimal a.len ≡ decimal b.len = cc in
    same_values a b (same_op a.op b.op op) device (same_number a.start b.start said.start said'.start start)
    (same_number a.len b.len (omega (arith, said.most)) (omega (arith, said'.most)) len)

-- ---- how a line that is a request is read

op_passes : (op : Op) → is_op (op_text op ∷ []) ≡ true
op_passes Read = refl
op_passes Write = refl

op_is : (op : Op) → cond (pointwise nat_eq (op_text op ∷ []) (82 ∷ [])) Read Write ≡ op
op_is Read = refl
op_is Write = refl

-- a line that is a request is read as that request
pub read-said : (line : List ℕ) (values : RequestValues) → DescribesRequest line values → request_reading line ≡ Ok values
read-said line values said =
    let small : values.len < 10 ^ 19 = omega (arith, said.most) in
    let row = fields_are line values said in
    let form : has_form (fields line) ≡ true = rw row (and_from _ _ (op_passes values.op) (and_from _ _ said.device (and_from _ _ (le-leb _ _ (decimal_some values.start said.start)) (le-leb _ _ (decimal_some values.len small))))) in
    let found : values_in (fields line) ≡ Some values = rw (row, number_of-decimal values.start said.start, number_of-decimal values.len small, op_is values.op) in
    let length : is_length values.len ≡ true = and_from _ _ (le-leb _ _ said.least) (le-leb _ _ said.most) in
    rw (form, found, length)

-- a line that is read with a fault is no request
pub refused : (line : List ℕ) (values : RequestValues) (fault : RequestFault) → request_reading line ≡ Err fault → DescribesRequest line values → ⊥
refused line values fault found said = let read = read-said line values said in cc

-- ---- the fault of a line, from its fields

abbrev row_reading : List (List ℕ) → Result RequestValues RequestFault
row_reading row = cond (has_form row) (values_reading (values_in row)) (Err Form)

both : (make : ℕ → ℕ → RequestValues) (a b : Option ℕ) → ((m n : ℕ) → a ≡ Some m → b ≡ Some n → ⊥) → if_both make a b ≡ None
both make None b none = refl
both make (Some m) None none = refl
both make (Some m) (Some n) none = absurd (none m n refl refl)

unread : (op device start len : List ℕ) → ((m n : ℕ) → AreNumbers (start ∷ len ∷ []) m n → ⊥) → values_in (op ∷ device ∷ start ∷ len ∷ []) ≡ None
unread op device start len none = both _ (number_of start) (number_of len) (λ m n first last. none m n (record { start = start; len = len; two = refl; first = first; last = last }))

form_is : (op : Op) (device : List ℕ) (start len : List ℕ) → is_device_name device ≡ true → has_form (row_of op device start len) ≡ are_two (start ∷ len ∷ [])
form_is op device start len named = rw (op_passes op, named)

fault_of_two : (a : Bool) (values : Option RequestValues) → values ≡ None → cond a (values_reading values) (Err Form) ≡ Err (cond a Number Form)
fault_of_two true values none = rw none
fault_of_two false values none = refl

row_reading-numbers : (op : Op) (device : List ℕ) (more : List (List ℕ)) → is_device_name device ≡ true → ((m n : ℕ) → AreNumbers more m n → ⊥)
    → row_reading ((op_text op ∷ []) ∷ device ∷ more) ≡ Err (cond (are_two more) Number Form)
row_reading-numbers op device (start ∷ len ∷ []) named none =
    rw (form_is op device start len named) (fault_of_two (are_two (start ∷ len ∷ [])) _ (unread (op_text op ∷ []) device start len none))
row_reading-numbers op device more named none = refl

-- the fault of a line with an operation and a device, but without two numbers after them
pub fault-numbers : (line : List ℕ) (op : Op) (device : List ℕ) (more : List (List ℕ)) → fields line ≡ (op_text op ∷ []) ∷ device ∷ more → is_device_name device ≡ true
    → ((m n : ℕ) → AreNumbers more m n → ⊥) → request_reading line ≡ Err (cond (are_two more) Number Form)
fault-numbers line op device more cut named none = ap row_reading cut ∙ row_reading-numbers op device more named none

some_field : (text : List ℕ) (n : ℕ) → number_of text ≡ Some n → nat_le 1 (length text) ≡ true
some_field text n read =
    let spells = Spells-number_of text n read in
    rw spells.digits (le-leb _ _ (decimal_some n spells.short))

pub no_length : (len : ℕ) → (len ≡ 0) ⊎ (MOST_SECTORS < len) → is_length len ≡ false
no_length len out = false_from_ne_true _ (λ within.
    let a = and_parts (nat_le 1 len) (nat_le len MOST_SECTORS) within in
    absurd (omega (arith, leb-true 1 len a.0, leb-true len MOST_SECTORS a.1, out)))

-- the fault of a line with two numbers, the second of which is no valid length
pub fault-length : (line : List ℕ) (op : Op) (device : List ℕ) (more : List (List ℕ)) (s l : ℕ) → fields line ≡ (op_text op ∷ []) ∷ device ∷ more → is_device_name device ≡ true
    → AreNumbers more s l → is_length l ≡ false → request_reading line ≡ Err Length
fault-length line op device more s l cut named read out =
    let row : fields line ≡ row_of op device read.start read.len = rw (← read.two) cut in
    let form : has_form (fields line) ≡ true = rw row (and_from _ _ (op_passes op) (and_from _ _ named (and_from _ _ (some_field read.start s read.first) (some_field read.len l read.last)))) in
    let found : values_in (fields line) ≡ Some (record { op = op; device = device; start = s; len = l }) = rw (row, read.first, read.last, op_is op) in
    rw (form, found, out)

-- ---- a line with the form of a request begins with an operation and a space

letter_of : (b : ℕ) → (eqb b 82 || eqb b 87) ≡ true → (op : Op) × (b ≡ op_text op)
letter_of b h = elim (or_cases _ _ h) [
  | inl read ↦ (Read, eqb-true _ _ read)
  | inr write ↦ (Write, eqb-true _ _ write)
]

row_op : (row : List (List ℕ)) → has_form row ≡ true → (op : Op) × ((rest : List ℕ) × (join_with_byte 32 row ≡ op_text op ∷ 32 ∷ rest))
row_op ((b ∷ []) ∷ device ∷ start ∷ len ∷ []) form =
    let letter = letter_of b (and_parts (is_op (b ∷ [])) _ form).0 in
    let rest = join_with_byte 32 (device ∷ start ∷ len ∷ []) in
    (letter.0, (rest, cc))
row_op (op ∷ device ∷ start ∷ len ∷ next ∷ more) form = absurd cc
row_op row form = absurd cc

-- a line that doesn't begin with an operation and a space doesn't have the form of a request
pub no_op : (line : List ℕ) → ((op : Op) (rest : List ℕ) → line ≢ op_text op ∷ 32 ∷ rest) → has_form (fields line) ≡ false
no_op line none = false_from_ne_true _ (λ form.
    let found = row_op (fields line) form in
    none found.0 found.1.0 (sym (join-parts_at 32 line) ∙ found.1.1))

op_fields : (op : Op) (rest : List ℕ) → fields (op_text op ∷ 32 ∷ rest) ≡ (op_text op ∷ []) ∷ fields rest
op_fields Read rest = refl
op_fields Write rest = refl

-- if a line begins with an operation and a space, the operation is its first field
pub op_first : (line rest : List ℕ) (op : Op) → 1 ≤ length line → get_or line 0 0 ≡ op_text op → line ≡ take 1 line ++ 32 ∷ rest
    → fields line ≡ (op_text op ∷ []) ∷ fields rest
op_first [] rest op some letter cut = absurd (omega arith)
op_first (b ∷ line) rest op some letter cut = cc (op_fields _ _)

-- ---- a number, or a name, with a space after it

number_digits : (text : List ℕ) (n : ℕ) → number_of text ≡ Some n → list_all is_ascii_digit text ≡ true
number_digits text n read =
    let spells = Spells-number_of text n read in
    rw spells.digits (decimal_digits n spells.short)

pub number_first : (text field rest : List ℕ) (n : ℕ) → text ≡ field ++ 32 ∷ rest → number_of field ≡ Some n → fields text ≡ field ∷ fields rest
number_first text field rest n cut read = ap fields cut ∙ parts_at-first 32 field rest (digits-clear field (number_digits field n read))

pub number_whole : (text : List ℕ) (n : ℕ) → number_of text ≡ Some n → fields text ≡ text ∷ []
number_whole text n read = parts_at-clear 32 text (digits-clear text (number_digits text n read))

pub number_stands : (text field next : List ℕ) (more : List (List ℕ)) (n : ℕ) → fields text ≡ field ∷ next ∷ more → number_of field ≡ Some n
    → StandsFirst is_ascii_digit text field
number_stands text field next more n cut read = stands_first is_ascii_digit text field next more cut (number_digits field n read) refl

pub name_stands : (text field next : List ℕ) (more : List (List ℕ)) → fields text ≡ field ∷ next ∷ more → is_device_name field ≡ true → StandsFirst is_device_byte text field
name_stands text field next more cut named = stands_first is_device_byte text field next more cut (device_name_parts field named).bytes refl

-- ---- texts of two nonempty fields

no_first : (start : List ℕ) (more : List (List ℕ)) → length start ≡ 0 → are_two (start ∷ more) ≡ false
no_first start [] none = refl
no_first start (len ∷ []) none = rw none
no_first start (len ∷ next ∷ more) none = refl

no_last : (start rest : List ℕ) → length rest ≡ 0 → are_two (start ∷ fields rest) ≡ false
no_last start [] none = and_right _ _ refl
no_last start (b ∷ rest) none = absurd (omega arith)

three : (start len : List ℕ) (more : List (List ℕ)) → 1 ≤ length more → are_two (start ∷ len ∷ more) ≡ false
three start len [] some = absurd (omega arith)
three start len (next ∷ more) some = refl

pub two_first : (text start rest : List ℕ) → fields text ≡ start ∷ fields rest → length start ≡ 0 → are_two (fields text) ≡ false
two_first text start rest cut none = ap are_two cut ∙ no_first start (fields rest) none

pub two_last : (text start rest : List ℕ) → fields text ≡ start ∷ fields rest → length rest ≡ 0 → are_two (fields text) ≡ false
two_last text start rest cut none = ap are_two cut ∙ no_last start rest none

pub two_more : (text start len rest after : List ℕ) → fields text ≡ start ∷ fields rest → fields rest ≡ len ∷ fields after → are_two (fields text) ≡ false
two_more text start len rest after cut again =
    rw (cut, again) (three start len (fields after) (omega (arith, length-slice_split (λ b. b == 32) after)))

pub two : (text start rest : List ℕ) → fields text ≡ start ∷ fields rest → fields rest ≡ rest ∷ [] → 1 ≤ length start → 1 ≤ length rest → are_two (fields text) ≡ true
two text start rest cut last some some' = rw (cut, last) (and_from _ _ (le-leb _ _ some) (le-leb _ _ some'))
