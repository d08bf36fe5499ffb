-- The body of a line and its fields: fields that pass the tests are those of a body, and the fields of a body pass the tests.
use Rattle.dm_table.proofs.Prelude.{inl, inr, ℕ, Bool, true, false, eqb, nat_le, nat_lt, nat_eq, List, [], length, drop, Option, Some, None, refl, sym, ap, ◌∙◌, append_assoc, arith, decimal, codes, is_some, pointwise, is_ascii_digit, option_map, flat_map, list_all, join_with_byte, AllByRecursion, and_parts, and_from, lt-ltb, eqb-true, eq-eqb, not-true, cases_Bool, nat_tests, Decides-eqb, length-append, append-nil, starts_is, map, DevRef, Column, Target, StoreKind, Persistent, Transient, Keeping, Linear, Striped, Zero, Error, Origin, Line, Place, is_device_byte, is_device_name, is_disk_byte, names_device, mapper, Spells, number_of, number_in, dev_text, column_text, kind_text, Argument, Lower, Amount, Flag, argument_text, row, column_arguments, target_row, target_fields, is_dev_ref, IsDevRef, IsArgument, IsTarget, IsBody, dev_in, if_both, then_in, nothing_in, lower_in, columns_in, is_count, striped_in, kind_in, arguments_in, target_in, Body, body_in, is_body_row, is_body, has_target_names, has_body_names, line_at, line_in, has_column_names, All-list_all}
use Rattle.dm_table.specs.declared.tables.table.DevRef.TheVariants.{Device, Disk}
use Rattle.dm_table.specs.declared.tables.table.Target.TheVariants.{Snapshot}
use Rattle.dm_table.specs.tables.LineBody.{has_name}
use Rattle.dm_table.proofs.words.NumberLemmas.{Spells-number_of, number_of-decimal, decimal_digits, decimal_some, Some-is_some}
use Rattle.dm_table.proofs.words.ByteLemmas.{list_all-weaker, device_name_parts, disk_name_parts}
use Rattle.dm_table.proofs.words.FieldLemmas.{IsClearOf}
use Rattle.dm_table.proofs.tables.TableGroups.{same_name}
use Rattle.dm_table.proofs.Lists.{mapped}
use Rattle.std.specs.Prelude.{◌≡◌, ◌+◌, ◌*◌, ◌^◌, ◌<◌, ◌≤◌, ◌&&◌, ◌∷◌, ◌++◌, if◌then◌else◌}

-- ---- the fields that a body is written with

abbrev pub body_fields : Line → List (List ℕ)
body_fields line = decimal line.start ∷ decimal line.len ∷ target_fields line.target

pub columns_text : (before : List ℕ) (columns : List Column) → join_with_byte 32 (before ∷ map argument_text (flat_map column_arguments columns)) ≡ before ++ flat_map column_text columns
columns_text before [] = sym (append-nil before)
columns_text before (column ∷ columns) = rw (columns_text (decimal column.offset) columns) (simp append_assoc)

-- ---- from fields that pass the tests to the body

pub number_spelled : (field : List ℕ) → is_some (number_of field) ≡ true → Spells field (number_in field)
number_spelled field e = Spells-number_of field (number_in field) (Some-is_some (number_of field) e)

starts_with_mapper : (text : List ℕ) → names_device text ≡ true → text ≡ mapper ++ drop (length mapper) text
starts_with_mapper text e = (starts_is Decides-eqb text mapper (names_device text) refl).0 e

dev_spelled : (text : List ℕ) → dev_text (dev_in text) ≡ text
dev_spelled text = elim (cases_Bool (names_device text)) [
  | inl e ↦ rw e (sym (starts_with_mapper text e))
  | inr e ↦ rw e
]

-- ---- options that are Some after a map were Some before

-- if both options together give a value, both are Some
both_there : {X Y Z : Type 0} (make : X → Y → Z) (o : Option X) (p : Option Y) (z : Z) → if_both make o p ≡ Some z → (x : X) × (y : Y) × (o ≡ Some x) × (p ≡ Some y) × (make x y ≡ z)
both_there make None p z h = absurd cc
both_there make (Some x) p z h = let m = mapped (make x) p z h in (x, m.0, refl, m.1, m.2)

-- if a choice between o and None gives a value, the condition is true and o is that value
chosen : {X : Type 0} (b : Bool) (o : Option X) (x : X) → (if b then o else None) ≡ Some x → (b ≡ true) × (o ≡ Some x)
chosen true o x h = (refl, h)
chosen false o x h = absurd cc

-- ---- the line that fields describe

-- the fields are the texts of these arguments, and if the names among the arguments are valid, a table can contain the arguments
abbrev IsSaid : List (List ℕ) → List Argument → Type 0
IsSaid fs arguments = (map argument_text arguments ≡ fs) × (list_all has_name arguments ≡ true → AllByRecursion IsArgument arguments)

-- a field that describes a value is the text of this argument, and if the name in it is valid, a table can contain it
record SaysOne {X : Type 0} (said : List ℕ → Option X) (argument : X → Argument) : Type 0 where
  read : (text : List ℕ) (x : X) → said text ≡ Some x → (argument_text (argument x) ≡ text) × (has_name (argument x) ≡ true → IsArgument (argument x))

-- fields that describe a value are the texts of these arguments, in the sense of IsSaid
record SaysAll {X : Type 0} (said : List (List ℕ) → Option X) (arguments : X → List Argument) : Type 0 where
  read : (fs : List (List ℕ)) (x : X) → said fs ≡ Some x → IsSaid fs (arguments x)

lower_says : SaysOne lower_in Lower
lower_says = record { read = λ text to h. let is : dev_in text ≡ to = cc in (rw (← is) (dev_spelled text), λ valid. valid) }

number_says : SaysOne number_of Amount
number_says = record { read = λ text n h. let spelled = Spells-number_of text n h in (sym spelled.digits, λ valid. spelled.short) }

-- if a flag is found among the first letter and those after it, it is the letter of the kind that was found
by_flag : (flag : List ℕ) (first kind : StoreKind) (later : Option StoreKind) → (later ≡ Some kind → kind_text kind ≡ flag) → (if pointwise nat_eq flag (kind_text first) then Some first else later) ≡ Some kind → kind_text kind ≡ flag
by_flag flag first kind later others h = elim (cases_Bool (pointwise nat_eq flag (kind_text first))) [
  | inl e ↦ (let same : first ≡ kind = cc in rw same at (sym (same_name flag (kind_text first) e)))
  | inr e ↦ others (rw e at h)
]

no_flag : (flag : List ℕ) (kind : StoreKind) → None ≡ Some kind → kind_text kind ≡ flag
no_flag flag kind h = absurd cc

kind_spelled : (flag : List ℕ) (kind : StoreKind) → kind_in flag ≡ Some kind → kind_text kind ≡ flag
kind_spelled flag kind h = by_flag flag Persistent kind _ (by_flag flag Transient kind _ (by_flag flag Keeping kind _ (no_flag flag kind))) h

kind_says : SaysOne kind_in Flag
kind_says = record { read = λ flag kind h. (kind_spelled flag kind h, λ valid. tt) }

nothing_read : (fs : List (List ℕ)) (x : Unit {0}) → nothing_in fs ≡ Some x → IsSaid fs []
nothing_read [] x h = (refl, λ valid. tt)
nothing_read (f ∷ fs) x h = absurd cc

nothing_says : SaysAll nothing_in (λ nothing. [])
nothing_says = record { read = nothing_read }

-- if then_in gives a value, the first field describes one and the others describe one
then_there : {X Y : Type 0} (first : List ℕ → Option X) (others : List (List ℕ) → Option Y) (fs : List (List ℕ)) (both : X × Y) → then_in first others fs ≡ Some both
    → (f : List ℕ) × (more : List (List ℕ)) × (fs ≡ f ∷ more) × (first f ≡ Some both.0) × (others more ≡ Some both.1)
then_there first others [] both h = absurd cc
then_there first others (f ∷ fs) both h = let m = both_there (λ x y. (x, y)) (first f) (others fs) both h in (f, fs, refl, m.2 ∙ ap (λ both. Some both.0) m.4, m.3 ∙ ap (λ both. Some both.1) m.4)

then_read : {X Y : Type 0} (first : List ℕ → Option X) (others : List (List ℕ) → Option Y) (argument : X → Argument) (arguments : Y → List Argument) → SaysOne first argument → SaysAll others arguments
    → (fs : List (List ℕ)) (both : X × Y) → then_in first others fs ≡ Some both → IsSaid fs (argument both.0 ∷ arguments both.1)
then_read first others argument arguments one all fs both h =
    let m = then_there first others fs both h in
    let a = one.read m.0 both.0 m.3 in
    let b = all.read m.1 both.1 m.4 in
    (rw (m.2, a.0, b.0), λ valid. let c = and_parts (has_name (argument both.0)) (list_all has_name (arguments both.1)) valid in (a.1 c.0, b.1 c.1))

then_says : {X Y : Type 0} {first : List ℕ → Option X} {others : List (List ℕ) → Option Y} {argument : X → Argument} {arguments : Y → List Argument} → SaysOne first argument → SaysAll others arguments
    → SaysAll (then_in first others) (λ both. argument both.0 ∷ arguments both.1)
then_says one all = record { read = then_read _ _ _ _ one all }

columns_read : (fs : List (List ℕ)) (columns : List Column) → columns_in fs ≡ Some columns → IsSaid fs (flat_map column_arguments columns)
columns_read [] columns h =
    let none : [] ≡ columns = cc in
    rw (← none) (refl, λ valid. tt)
columns_read (to ∷ []) columns h = absurd cc
columns_read (to ∷ offset ∷ more) columns h =
    let m = both_there (λ n columns. record { to = dev_in to; offset = n } ∷ columns) (number_of offset) (columns_in more) columns h in
    let spelled = Spells-number_of offset m.0 m.2 in
    let says = columns_read more m.1 m.3 in
    rw (← m.4) (rw (dev_spelled to, ← spelled.digits, says.0), λ valid. let a = and_parts (is_dev_ref (dev_in to)) (has_column_names m.1) valid in (a.0, (spelled.short, says.1 a.1)))

columns_say : SaysAll columns_in (flat_map column_arguments)
columns_say = record { read = columns_read }

columns_long : (columns : List Column) → 2 * length columns ≡ length (map argument_text (flat_map column_arguments columns))
columns_long [] = refl
columns_long (column ∷ columns) = let half : 2 * length columns ≡ length (map argument_text (flat_map column_arguments columns)) = columns_long columns in omega arith

count_row : (count : List ℕ) (n m : ℕ) → is_count count n ≡ true → 2 * m + 1 ≡ n → (decimal m ≡ count) × (m < 10 ^ 19)
count_row count n m c half =
    let a = and_parts (is_some (number_of count)) (eqb (2 * number_in count + 1) n) c in
    let spelled = number_spelled count a.0 in
    let twice : 2 * number_in count + 1 ≡ n = eqb-true (2 * number_in count + 1) n a.1 in
    let same : m ≡ number_in count = omega arith in
    (ap decimal same ∙ sym spelled.digits, rw same spelled.short)

-- the fields describe a target of this type, in the sense of IsSaid
abbrev SaysTarget : List ℕ → List (List ℕ) → Target → Type 0
SaysTarget type fs target = ((target_row target).type ≡ type) × IsSaid fs (target_row target).arguments

row_says : {X : Type 0} {type : List ℕ} {said : List (List ℕ) → Option X} {arguments : X → List Argument} (make : X → Target) → SaysAll said arguments → ((x : X) → target_row (make x) ≡ row type (arguments x))
    → (fs : List (List ℕ)) (target : Target) → option_map make (said fs) ≡ Some target → SaysTarget type fs target
row_says {said = said} make says is fs target h =
    let m = mapped make (said fs) target h in
    rw (← m.2, is m.0) (refl, says.read fs m.0 m.1)

striped_says : (fs : List (List ℕ)) (target : Target) → striped_in fs ≡ Some target → SaysTarget (codes "striped") fs target
striped_says [] target h = absurd cc
striped_says (count ∷ others) target h =
    let c = chosen (is_count count (length others)) (option_map (λ said. Striped said.0 said.1) (then_in number_of columns_in others)) target h in
    let m = mapped (λ said. Striped said.0 said.1) (then_in number_of columns_in others) target c.1 in
    let a = (then_says number_says columns_say).read others m.0 m.1 in
    let half : 2 * length m.0.1 ≡ length (map argument_text (flat_map column_arguments m.0.1)) = columns_long m.0.1 in
    let long : length (map argument_text (flat_map column_arguments m.0.1)) + 1 ≡ length others = omega (arith, ap length a.0) in
    let counted = count_row count (length others) (length m.0.1) c.0 (omega (arith, half, long)) in
    rw (← m.2) (refl, (rw (counted.0, a.0), λ valid. (counted.1, a.1 valid)))

-- if a type is found among the first word and those after it, the fields describe a target of that type
by_word : (type word : List ℕ) (fs : List (List ℕ)) (target : Target) (o p : Option Target) → (o ≡ Some target → SaysTarget word fs target) → (p ≡ Some target → SaysTarget type fs target)
    → (if pointwise nat_eq type word then o else p) ≡ Some target → SaysTarget type fs target
by_word type word fs target o p says others h = elim (cases_Bool (pointwise nat_eq type word)) [
  | inl e ↦ rw (same_name type word e) (says (rw e at h))
  | inr e ↦ others (rw e at h)
]

no_word : (type : List ℕ) (fs : List (List ℕ)) (target : Target) → None ≡ Some target → SaysTarget type fs target
no_word type fs target h = absurd cc

target_says : (type : List ℕ) (fs : List (List ℕ)) (target : Target) → arguments_in type fs ≡ Some target → SaysTarget type fs target
target_says type fs target h =
    by_word type (codes "linear") fs target _ _ (row_says (λ said. Linear said.0 said.1.0) (then_says lower_says (then_says number_says nothing_says)) (λ said. refl) fs target)
    (by_word type (codes "zero") fs target _ _ (row_says (λ said. Zero) nothing_says (λ said. refl) fs target)
    (by_word type (codes "error") fs target _ _ (row_says (λ said. Error) nothing_says (λ said. refl) fs target)
    (by_word type (codes "striped") fs target _ _ (striped_says fs target)
    (by_word type (codes "snapshot") fs target _ _ (row_says (λ said. Snapshot said.0 said.1.0 said.1.1.0 said.1.1.1.0) (then_says lower_says (then_says lower_says (then_says kind_says (then_says number_says nothing_says)))) (λ said. refl) fs target)
    (by_word type (codes "snapshot-origin") fs target _ _ (row_says (λ said. Origin said.0) (then_says lower_says nothing_says) (λ said. refl) fs target)
    (no_word type fs target)))))) h

-- fields that pass the test of a body describe a line
pub body_there : (at : Place) (fs : List (List ℕ)) → is_body fs ≡ true → (line : Line) × (line_in at fs ≡ Some line)
body_there at fs h = there (body_in fs) (line_at at) h where
  there : (o : Option Body) (f : Body → Line) → is_some o ≡ true → (line : Line) × (option_map f o ≡ Some line)
  there None f h = absurd cc
  there (Some body) f h = (f body, refl)

target_there : (fs : List (List ℕ)) (target : Target) → target_in fs ≡ Some target → (target_fields target ≡ fs) × (has_target_names target ≡ true → IsTarget target)
target_there [] target h = absurd cc
target_there (type ∷ arguments) target h = let says = target_says type arguments target h in (rw (says.0, says.1.0), says.1.1)

-- the fields are those of this body, and if its names are valid, a table can contain the body
record SaysBody (at : Place) (fields : List (List ℕ)) (body : Body) : Type 0 where
  again : body_fields (line_at at body) ≡ fields
  said : has_target_names body.target ≡ true → IsBody (line_at at body)

parts_say : (at : Place) (fs : List (List ℕ)) (said : ℕ × (ℕ × Target)) → then_in number_of (then_in number_of target_in) fs ≡ Some said → SaysBody at fs (record { start = said.0; len = said.1.0; target = said.1.1 })
parts_say at fs said h =
    let a = then_there number_of (then_in number_of target_in) fs said h in
    let b = then_there number_of target_in a.1 said.1 a.4 in
    let first = Spells-number_of a.0 said.0 a.3 in
    let second = Spells-number_of b.0 said.1.0 b.3 in
    let says = target_there b.1 said.1.1 b.4 in
    record {
      again = cc (a.2, b.2, first.digits, second.digits, says.0);
      said = λ named. record { start = first.short; len = second.short; target = says.1 named };
    }

body_says : (at : Place) (fs : List (List ℕ)) (body : Body) → body_in fs ≡ Some body → SaysBody at fs body
body_says at fs body h =
    let m = mapped (λ said. let body : Body = record { start = said.0; len = said.1.0; target = said.1.1 } in body) (then_in number_of (then_in number_of target_in) fs) body h in
    rw (← m.2) (parts_say at fs m.0 m.1)

-- if a line is read from some fields, the fields that it is written with are the same
pub body_again : (at : Place) (fs : List (List ℕ)) (line : Line) → line_in at fs ≡ Some line → body_fields line ≡ fs
body_again at fs line h = let m = mapped (line_at at) (body_in fs) line h in rw (← m.2) (body_says at fs m.0 m.1).again

pub body_said : (at : Place) (fs : List (List ℕ)) (line : Line) → line_in at fs ≡ Some line → has_body_names fs ≡ true → IsBody line
body_said at fs line h names =
    let m = mapped (line_at at) (body_in fs) line h in
    rw (← m.2) ((body_says at fs m.0 m.1).said (rw m.1 at names))

pub body_placed : (at : Place) (fs : List (List ℕ)) (line : Line) → line_in at fs ≡ Some line → line.at ≡ at
body_placed at fs line h = let m = mapped (line_at at) (body_in fs) line h in rw (← m.2)

-- ---- from the body of a line to its fields

-- the byte may occur in a field: printable, and no space, comma, semicolon or backslash
abbrev pub is_ink : ℕ → Bool
is_ink b = is_disk_byte b

-- the field isn't empty, and all of its bytes may occur in a field
abbrev pub IsInked : List ℕ → Type 0
IsInked field = (nat_lt 0 (length field) ≡ true) × (list_all is_ink field ≡ true)

ink_space : (b : ℕ) → is_ink b ≡ true → eqb b 32 ≡ false
ink_space b h = grind (arith, nat_tests)

pub ink_clear : (field : List ℕ) → list_all is_ink field ≡ true → IsClearOf 32 field
ink_clear field h = All-list_all is_ink (λ b. eqb b 32 ≡ false) ink_space field h

pub ink_text : (b : ℕ) → is_ink b ≡ true → (nat_le 32 b && nat_le b 126) ≡ true
ink_text b h = grind (arith, nat_tests)

pub device_ink : (b : ℕ) → is_device_byte b ≡ true → is_ink b ≡ true
device_ink b h = grind (arith, nat_tests)

digit_ink : (b : ℕ) → is_ascii_digit b ≡ true → is_ink b ≡ true
digit_ink b h = grind (arith, nat_tests)

pub name_inked : (name : List ℕ) → is_device_name name ≡ true → IsInked name
name_inked name h = let a = device_name_parts name h in (a.some, list_all-weaker is_device_byte is_ink device_ink name a.bytes)

pub number_inked : (n : ℕ) → n < 10 ^ 19 → IsInked (decimal n)
number_inked n h = (lt-ltb _ _ (decimal_some n h), list_all-weaker is_ascii_digit is_ink digit_ink (decimal n) (decimal_digits n h))

dev_inked : (to : DevRef) → IsDevRef to → IsInked (dev_text to)
dev_inked (Device name) h = (lt-ltb 0 (length (mapper ++ name)) (omega (arith, length-append mapper name)), (name_inked name h).1)
dev_inked (Disk name) h = let a = disk_name_parts name h in (a.some, a.bytes)

kind_inked : (kind : StoreKind) → IsInked (kind_text kind)
kind_inked Persistent = (refl, refl)
kind_inked kind = (refl, refl)

arguments_inked : (arguments : List Argument) → AllByRecursion IsArgument arguments → AllByRecursion IsInked (map argument_text arguments)
arguments_inked [] h = tt
arguments_inked (Lower to ∷ arguments) h = (dev_inked to h.0, arguments_inked arguments h.1)
arguments_inked (Amount n ∷ arguments) h = (number_inked n h.0, arguments_inked arguments h.1)
arguments_inked (Flag kind ∷ arguments) h = (kind_inked kind, arguments_inked arguments h.1)

type_inked : (target : Target) → IsInked (target_row target).type
type_inked Zero = (refl, refl)
type_inked _ = (refl, refl)

pub body_inked : (line : Line) → IsBody line → AllByRecursion IsInked (body_fields line)
body_inked line h = (number_inked line.start h.start, (number_inked line.len h.len, (type_inked line.target, arguments_inked (target_row line.target).arguments h.target)))

-- ---- the fields of a body pass the tests

filled : (fs : List (List ℕ)) → AllByRecursion IsInked fs → list_all (λ field. nat_lt 0 (length field)) fs ≡ true
filled [] h = refl
filled (f ∷ fs) h = and_from _ _ h.0.0 (filled fs h.1)

-- three or more is at least three, as the test says it
le_three : (n : ℕ) → 3 ≤ n → nat_le 3 n ≡ true
le_three n h = grind (arith, nat_tests)

number_is : (n : ℕ) → n < 10 ^ 19 → number_in (decimal n) ≡ n
number_is n h = rw (number_of-decimal n h)

number_passes : (n : ℕ) → n < 10 ^ 19 → is_some (number_of (decimal n)) ≡ true
number_passes n h = ap is_some (number_of-decimal n h)

dev_again : (to : DevRef) → IsDevRef to → dev_in (dev_text to) ≡ to
dev_again (Device name) h = refl
dev_again (Disk name) h = rw (not-true _ (disk_name_parts name h).own)

count_passes : (chunk : List ℕ) (columns : List Column) → length columns < 10 ^ 19 → is_count (decimal (length columns)) (length (chunk ∷ map argument_text (flat_map column_arguments columns))) ≡ true
count_passes chunk columns h =
    let half : 2 * length columns ≡ length (map argument_text (flat_map column_arguments columns)) = columns_long columns in
    and_from _ _ (number_passes (length columns) h) (eq-eqb _ _ (rw (number_is (length columns) h) (omega arith)))

columns_again : (columns : List Column) → AllByRecursion IsArgument (flat_map column_arguments columns) → columns_in (map argument_text (flat_map column_arguments columns)) ≡ Some columns
columns_again [] h = refl
columns_again (column ∷ columns) h = rw (number_of-decimal column.offset h.1.0, columns_again columns h.1.1, dev_again column.to h.0)

kind_again : (kind : StoreKind) → kind_in (kind_text kind) ≡ Some kind
kind_again Persistent = refl
kind_again kind = refl

target_again : (target : Target) → IsTarget target → target_in (target_fields target) ≡ Some target
target_again (Striped chunk columns) h = rw (count_passes (decimal chunk) columns h.0, number_of-decimal chunk h.1.0, columns_again columns h.1.1)
target_again _ h = search (kind_again, number_of-decimal, dev_again)

-- a start, a length and the fields of a target are at least three fields
three_fields : (start len : List ℕ) (fs : List (List ℕ)) (target : Target) → target_in fs ≡ Some target → nat_le 3 (length (start ∷ len ∷ fs)) ≡ true
three_fields start len [] target h = absurd cc
three_fields start len (f ∷ fs) target h = le_three (length (start ∷ len ∷ f ∷ fs)) (omega arith)

pub body_row_passes : (line : Line) → IsBody line → is_body_row (body_fields line) ≡ true
body_row_passes line h =
    and_from _ _ (three_fields (decimal line.start) (decimal line.len) (target_fields line.target) line.target (target_again line.target h.target)) (filled (body_fields line) (body_inked line h))

arguments_named : (arguments : List Argument) → AllByRecursion IsArgument arguments → list_all has_name arguments ≡ true
arguments_named [] h = refl
arguments_named (Lower to ∷ arguments) h = and_from _ _ h.0 (arguments_named arguments h.1)
arguments_named (argument ∷ arguments) h = arguments_named arguments h.1

-- the body of a line, which is the line without its place
abbrev body_of : Line → Body
body_of line = record { start = line.start; len = line.len; target = line.target }

fields_say : (line : Line) → IsBody line → body_in (body_fields line) ≡ Some (body_of line)
fields_say line h = rw (number_of-decimal line.start h.start, number_of-decimal line.len h.len, target_again line.target h.target)

pub body_passes : (line : Line) → IsBody line → is_body (body_fields line) ≡ true
body_passes line h = ap is_some (fields_say line h)

pub body_names_pass : (line : Line) → IsBody line → has_body_names (body_fields line) ≡ true
body_names_pass line h =
    rw (fields_say line h) (arguments_named (target_row line.target).arguments h.target)

-- the fields of a line are read as that line
pub line_again : (at : Place) (line : Line) → IsBody line → line.at ≡ at → line_in at (body_fields line) ≡ Some line
line_again at line h is = ap (option_map (line_at at)) (fields_say line h) ∙ rw (← is)
