-- Lemmas about reading a target from the code's slices, field by field.
use Rattle.dm_table.proofs.Prelude.{inl, inr, ℕ, Bool, true, false, eqb, List, [], length, take, drop, slice_index_or, Option, Some, None, Result, Ok, Err, refl, sym, ap, ◌∙◌, append_assoc, arith, is_some, option_map, cases_Bool, take_rest, length-map, append-nil, Column, DevRef, Target, Linear, Striped, Line, Place, RowFault, number_of, texts, is_dev_ref, dev_in, if_both, then_in, columns_in, is_count, linear_in, striped_in, arguments_in, Body, has_target_names, line_at, has_column_names, dev_reading, reading_of, columns_reading, fault_before, target_reading, body_reading, made_of, line_of, with_line, with_target}
use Rattle.std.specs.Prelude.{◌≡◌, ◌≢◌, ◌-◌, ◌<◌, ◌≤◌, ◌∷◌, ◌++◌, if◌then◌else◌}
use denote.Ref.{Bor}
use Rattle.dm_table.specs.declared.tables.line_body.BodyHead.{BodyHead}
use Rattle.dm_table.specs.declared.load.row_faults.RowFault.TheVariants.{Field, Name, Memory}

-- ---- the value that was read

pub read_ok : {X : Type 0} (x y : X) → ◌≡◌ {A = Result X RowFault} (Ok x) (Ok y) → x ≡ y
read_ok x y h = cc

-- a field that was read as a device or disk has a valid name in it
dev_parts : (text : List ℕ) (to : DevRef) → dev_reading text ≡ Ok to → (is_dev_ref to ≡ true) × (dev_in text ≡ to)
dev_parts text to h = elim (cases_Bool (is_dev_ref (dev_in text))) [
  | inl e ↦
      let is : dev_in text ≡ to = read_ok (dev_in text) to (rw e at h) in
      (rw (← is) e, is)
  | inr e ↦ absurd (let no : ◌≡◌ {A = Result DevRef RowFault} (Err Name) (Ok to) = rw e at h in cc)
]

dev_unnamed : (text : List ℕ) (fault : RowFault) → dev_reading text ≡ Err fault → (is_dev_ref (dev_in text) ≡ false) × (fault ≡ Name)
dev_unnamed text fault h = elim (cases_Bool (is_dev_ref (dev_in text))) [
  | inl e ↦ absurd (let no : Ok (dev_in text) ≡ Err fault = rw e at h in cc)
  | inr e ↦ (e, let same : ◌≡◌ {A = Result DevRef RowFault} (Err Name) (Err fault) = rw e at h in cc)
]

-- ---- reading columns, two fields at a time

-- the result for all columns, from those read before and the result for the others
abbrev pub after_columns : List Column → Result (List Column) RowFault → Result (List Column) RowFault
after_columns columns (Ok more) = Ok (columns ++ more)
after_columns columns (Err fault) = Err fault

pub columns_end : (fs : List (Bor (List ℕ))) → length fs < 2 → eqb (length fs) 0 ≡ is_some (columns_in (texts fs))
columns_end (f ∷ g ∷ fs) h = absurd (omega arith)
columns_end fs h = refl

both_known : {X Y Z : Type 0} (make : X → Y → Z) (o : Option X) (p : Option Y) → is_some o ≡ true → is_some (if_both make o p) ≡ is_some p
both_known make None p h = absurd cc
both_known make (Some x) None h = refl
both_known make (Some x) (Some y) h = refl

-- if a column's offset is a number, all columns can be read exactly if the others can
pub columns_known : (fs : List (Bor (List ℕ))) (e : Bor (List ℕ)) → 2 ≤ length fs → is_some (number_of (slice_index_or fs 1 e).now) ≡ true
    → is_some (columns_in (texts (take (length fs - 2) (drop 2 fs)))) ≡ is_some (columns_in (texts fs))
columns_known (f ∷ g ∷ fs) e h n = rw (take_rest (f ∷ g ∷ fs) 2) (sym (both_known _ (number_of g.now) (columns_in (texts fs)) n))
columns_known fs e h n = absurd (omega arith)

-- with no columns read before, the result is that of the others
pub columns_first : (reading : Result (List Column) RowFault) → after_columns [] reading ≡ reading
columns_first (Ok columns) = refl
columns_first (Err fault) = refl

-- with no fields left, the result is the columns read before
pub columns_last : (columns : List Column) (fs : List (Bor (List ℕ))) → length fs < 2 → eqb (length fs) 0 ≡ true → after_columns columns (columns_reading (texts fs)) ≡ Ok columns
columns_last columns [] h none = ap Ok (append-nil columns)
columns_last columns (f ∷ []) h none = absurd cc
columns_last columns (f ∷ g ∷ fs) h none = absurd (omega arith)

-- a single field left is a Field fault
pub columns_odd : (fs : List (Bor (List ℕ))) → length fs < 2 → eqb (length fs) 0 ≡ false → columns_reading (texts fs) ≡ Err Field
columns_odd [] h some = absurd cc
columns_odd (f ∷ []) h some = refl
columns_odd (f ∷ g ∷ fs) h some = absurd (omega arith)

-- a fault among the fields left is the fault of all columns
pub columns_fault : (columns : List Column) (reading all : Result (List Column) RowFault) (fault : RowFault) → after_columns columns reading ≡ all → reading ≡ Err fault → all ≡ Err fault
columns_fault columns reading all fault whole h = sym whole ∙ rw h

-- the result with one more column in front, whose name is valid
one_before : (column : Column) (more : Option (List Column)) → is_dev_ref column.to ≡ true
    → reading_of has_column_names (option_map (λ columns. column ∷ columns) more) ≡ after_columns (column ∷ []) (reading_of has_column_names more)
one_before column None h = refl
one_before column (Some columns) h = rw h (elim (cases_Bool (has_column_names columns)) [
  | inl e ↦ rw e
  | inr e ↦ rw e
])

after_one : (columns : List Column) (column : Column) (reading : Result (List Column) RowFault) → after_columns (columns ++ column ∷ []) reading ≡ after_columns columns (after_columns (column ∷ []) reading)
after_one columns column (Ok more) = ap Ok (append_assoc columns (column ∷ []) more)
after_one columns column (Err fault) = refl

-- the result doesn't change when one column moves from the fields left to the columns read
pub column_further : (columns : List Column) (fs : List (Bor (List ℕ))) (d e : Bor (List ℕ)) (to : DevRef) (offset : ℕ) → 2 ≤ length fs → number_of (slice_index_or fs 1 e).now ≡ Some offset
    → dev_reading (slice_index_or fs 0 d).now ≡ Ok to
    → after_columns (columns ++ record { to = to; offset = offset } ∷ []) (columns_reading (texts (take (length fs - 2) (drop 2 fs)))) ≡ after_columns columns (columns_reading (texts fs))
column_further columns (f ∷ g ∷ fs) d e to offset h n r =
    let a = dev_parts f.now to r in
    let column : Column = record { to = to; offset = offset } in
    rw (take_rest (f ∷ g ∷ fs) 2, n, a.1) (after_one columns column (columns_reading (texts fs)) ∙ ap (after_columns columns) (sym (one_before column (columns_in (texts fs)) a.0)))
column_further columns fs d e to offset h n r = absurd (omega arith)

-- the result with one more column in front, whose name isn't valid
one_unnamed : (column : Column) (more : Option (List Column)) → is_dev_ref column.to ≡ false
    → reading_of has_column_names (option_map (λ columns. column ∷ columns) more) ≡ Err (if is_some more then Name else Field)
one_unnamed column None h = refl
one_unnamed column (Some columns) h = rw h

pub column_unnamed : (fs : List (Bor (List ℕ))) (d e : Bor (List ℕ)) (offset : ℕ) (fault : RowFault) → 2 ≤ length fs → number_of (slice_index_or fs 1 e).now ≡ Some offset → dev_reading (slice_index_or fs 0 d).now ≡ Err fault
    → columns_reading (texts fs) ≡ Err (fault_before fault (texts (take (length fs - 2) (drop 2 fs))))
column_unnamed (f ∷ g ∷ fs) d e offset fault h n r =
    let a = dev_unnamed f.now fault r in
    rw (take_rest (f ∷ g ∷ fs) 2, a.1, n) (one_unnamed (record { to = dev_in f.now; offset = offset }) (columns_in (texts fs)) a.0)
column_unnamed fs d e offset fault h n r = absurd (omega arith)

-- a Memory fault stays a Memory fault, whatever fields come after it
pub memory_before : (fault : RowFault) (fields : List (List ℕ)) → fault ≡ Memory → fault_before fault fields ≡ Memory
memory_before fault fields e = rw e

-- a column whose offset isn't a number is a Field fault
pub column_unknown : (fs : List (Bor (List ℕ))) (e : Bor (List ℕ)) → 2 ≤ length fs → number_of (slice_index_or fs 1 e).now ≡ None → columns_reading (texts fs) ≡ Err Field
column_unknown (f ∷ g ∷ fs) e h n = rw n
column_unknown fs e h n = absurd (omega arith)

-- the result for something made of a value is made of the value's result, if valid names stay valid and invalid ones invalid
pub made_reading : {X Y : Type 0} (has_x : X → Bool) (has_y : Y → Bool) (make : X → Y) → ((x : X) → has_y (make x) ≡ has_x x) → (o : Option X) → reading_of has_y (option_map make o) ≡ made_of make (reading_of has_x o)
made_reading has_x has_y make same None = refl
made_reading has_x has_y make same (Some x) = rw (same x) (elim (cases_Bool (has_x x)) [
  | inl e ↦ rw e
  | inr e ↦ rw e
])

-- a linear target with other than two arguments is a Field fault
pub linear_none : (fs : List (Bor (List ℕ))) → length fs ≢ 2 → reading_of has_target_names (linear_in (texts fs)) ≡ Err Field
linear_none (f ∷ g ∷ []) h = absurd (h refl)
linear_none (f ∷ g ∷ k ∷ fs) h = long (number_of g.now) where
  long : (o : Option ℕ) → reading_of has_target_names (option_map (λ (said : DevRef × (ℕ × Unit {0})). Linear said.0 said.1.0) (if_both (λ x y. (x, y)) (Some (dev_in f.now)) (if_both (λ x y. (x, y)) o None))) ≡ Err Field
  long None = refl
  long (Some n) = refl
linear_none fs h = refl

pub linear_made : (fs : List (Bor (List ℕ))) (d : Bor (List ℕ)) (offset : ℕ) → length fs ≡ 2 → number_of (slice_index_or fs 1 d).now ≡ Some offset
    → reading_of has_target_names (linear_in (texts fs)) ≡ made_of (λ to. Linear to offset) (dev_reading (slice_index_or fs 0 d).now)
linear_made (f ∷ g ∷ []) d offset h n = rw n (elim (cases_Bool (is_dev_ref (dev_in f.now))) [
  | inl k ↦ rw k
  | inr k ↦ rw k
])
linear_made fs d offset h n = absurd (omega arith)

-- a striped target after its number of columns: the chunk and the columns
pub striped_said : (fs : List (Bor (List ℕ))) (d : Bor (List ℕ)) → 1 ≤ length fs → is_count (slice_index_or fs 0 d).now (length (take (length fs - 1) (drop 1 fs))) ≡ true
    → striped_in (texts fs) ≡ option_map (λ said. Striped said.0 said.1) (then_in number_of columns_in (texts (take (length fs - 1) (drop 1 fs))))
striped_said [] d h c = absurd (omega arith)
striped_said (f ∷ fs) d h c =
    let counted : is_count f.now (length (texts fs)) ≡ true = rw length-map (rw (take_rest (f ∷ fs) 1) at c) in
    rw (counted, take_rest (f ∷ fs) 1)

-- ---- reading the fields of a body

-- a fault of a value is a fault of what is made of it, if invalid names stay invalid
pub made_fault : {X Y : Type 0} (of_x : X → Bool) (of_y : Y → Bool) (make : X → Y) → ((x : X) → of_x x ≡ false → of_y (make x) ≡ false) → (o : Option X) (fault : RowFault)
    → reading_of of_x o ≡ Err fault → reading_of of_y (option_map make o) ≡ Err fault
made_fault of_x of_y make same None fault h = let is : Field ≡ fault = cc in ap Err is
made_fault {X} of_x of_y make same (Some x) fault h = elim (cases_Bool (of_x x)) [
  | inl e ↦ absurd (let no : Ok x ≡ Err fault = rw e at h in cc)
  | inr e ↦ rw (same x e) (let both : ◌≡◌ {A = Result X RowFault} (Err Name) (Err fault) = rw e at h in let is : Name ≡ fault = cc in ap Err is)
]

-- a value that was read is the one that the fields describe, and its names are valid
pub read_parts : {X : Type 0} (has_names : X → Bool) (o : Option X) (x : X) → reading_of has_names o ≡ Ok x → (o ≡ Some x) × (has_names x ≡ true)
read_parts has_names None x h = absurd cc
read_parts {X} has_names (Some other) x h = elim (cases_Bool (has_names other)) [
  | inl e ↦ let is : other ≡ x = read_ok other x (rw e at h) in (ap Some is, rw (← is) e)
  | inr e ↦ absurd (let no : ◌≡◌ {A = Result X RowFault} (Err Name) (Ok x) = rw e at h in cc)
]

-- adding the line made of a target's reading is the same as adding the reading of the line
line_made : (lines : List Line) (head : BodyHead) (o : Option Target)
    → with_line lines (reading_of (λ (line : Line). has_target_names line.target) (option_map (line_of head) o)) ≡ with_target lines head (reading_of has_target_names o)
line_made lines head None = refl
line_made lines head (Some target) = elim (cases_Bool (has_target_names target)) [
  | inl e ↦ rw e
  | inr e ↦ rw e
]

headed : (at : Place) (start len : ℕ) (o : Option Target) → option_map (line_at at) (option_map (λ (said : ℕ × (ℕ × Target)). let body : Body = record { start = said.0; len = said.1.0; target = said.1.1 } in body) (option_map (λ said. (start, said)) (option_map (λ target. (len, target)) o)))
    ≡ option_map (λ target. record { start = start; len = len; target = target; at = at }) o
headed at start len None = refl
headed at start len (Some target) = refl

pub body_made : (lines : List Line) (at : Place) (fs : List (Bor (List ℕ))) (d : Bor (List ℕ)) (start len : ℕ) → 3 ≤ length fs → number_of (slice_index_or fs 0 d).now ≡ Some start → number_of (slice_index_or fs 1 d).now ≡ Some len
    → with_line lines (body_reading at (texts fs)) ≡ with_target lines (record { start = start; len = len; at = at }) (target_reading (slice_index_or fs 2 d).now (texts (take (length fs - 3) (drop 3 fs))))
body_made lines at (f ∷ g ∷ i ∷ fs) d start len h n m =
    rw (n, m, take_rest) (ap (λ said. with_line lines (reading_of (λ (line : Line). has_target_names line.target) said)) (headed at start len (arguments_in i.now (texts fs))) ∙ line_made lines (record { start = start; len = len; at = at }) (arguments_in i.now (texts fs)))
body_made lines at fs d start len h n m = absurd (omega arith)

no_line : (at : Place) (o p : Option ℕ) → reading_of (λ (line : Line). has_target_names line.target) (option_map (line_at at) (option_map (λ (said : ℕ × (ℕ × Target)). let body : Body = record { start = said.0; len = said.1.0; target = said.1.1 } in body) (if_both (λ x y. (x, y)) o (if_both (λ x y. (x, y)) p None)))) ≡ Err Field
no_line at (Some start) None = refl
no_line at o p = refl

pub body_none : (at : Place) (fs : List (Bor (List ℕ))) → length fs < 3 → body_reading at (texts fs) ≡ Err Field
body_none at [] h = refl
body_none at (f ∷ []) h = no_line at (number_of f.now) None
body_none at (f ∷ g ∷ []) h = no_line at (number_of f.now) (number_of g.now)
body_none at (f ∷ g ∷ i ∷ fs) h = absurd (omega arith)
