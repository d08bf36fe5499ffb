-- How the fields of a body are read as a value or a fault, in the terms of functions that read each field once.
use Rattle.dm_table.specs.Base.{ℕ, Bool, List, [], Option, Some, None, is_some, Result, Ok, Err, option_map, flat_map, list_all, Place, RowFault, Syntax, Field, Name}
use Rattle.dm_table.specs.declared.tables.table.DevRef.{DevRef}
use Rattle.dm_table.specs.declared.tables.table.Column.{Column}
use Rattle.dm_table.specs.declared.tables.table.Target.{Target}
use Rattle.dm_table.specs.declared.tables.table.Line.{Line}
use Rattle.dm_table.specs.declared.tables.line_body.BodyHead.{BodyHead}
use Rattle.dm_table.specs.declared.load.row_faults.RowFault.TheVariants.{Memory}
use Rattle.dm_table.specs.tables.LineBody.{column_arguments, is_dev_ref, dev_in, columns_in, arguments_in, Body, body_in, has_name, has_target_names}
use Rattle.std.specs.Prelude.{◌∷◌, ◌++◌, if◌then◌else◌}

-- the line of a table with this place and this body
abbrev pub line_at : Place → Body → Line
line_at at body = record { start = body.start; len = body.len; target = body.target; at = at }

-- the line at this place that the fields describe, or None if the fields don't describe a body
abbrev pub line_in : Place → List (List ℕ) → Option Line
line_in at fields = option_map (line_at at) (body_in fields)

-- ---- the value that is read, or the fault of the first test that fails

-- the device or disk that a field names, or Name if its name isn't valid
abbrev pub dev_reading : List ℕ → Result DevRef RowFault
dev_reading text = if is_dev_ref (dev_in text) then Ok (dev_in text) else Err Name

-- the value that fields describe, or Field if they describe none, or Name if a name in the value isn't valid
abbrev pub reading_of : {X : Type 0} → (has_names : X → Bool) → Option X → Result X RowFault
reading_of has_names None = Err Field
reading_of has_names (Some x) = if has_names x then Ok x else Err Name

-- all names in the columns are valid
abbrev pub has_column_names : List Column → Bool
has_column_names columns = list_all has_name (flat_map column_arguments columns)

-- two results as a pair, or a fault of either; if both fail, the fault is the first one unless that is Name, and else the second
abbrev pub both_read : {X Y : Type 0} → Result X RowFault → Result Y RowFault → Result (X × Y) RowFault
both_read (Ok x) (Ok y) = Ok (x, y)
both_read (Ok x) (Err fault) = Err fault
both_read (Err Name) (Ok y) = Err Name
both_read (Err Name) (Err fault) = Err fault
both_read (Err Syntax) others = Err Syntax
both_read (Err Field) others = Err Field
both_read (Err Memory) others = Err Memory

-- the columns that fields describe, or a fault: Field before Name
abbrev pub columns_reading : List (List ℕ) → Result (List Column) RowFault
columns_reading fields = reading_of has_column_names (columns_in fields)

-- the fault of columns, from the fault of the first column and the fields of the others: a Field fault of these takes precedence over Name
abbrev pub fault_before : RowFault → List (List ℕ) → RowFault
fault_before Name fields = if is_some (columns_in fields) then Name else Field
fault_before Syntax fields = Syntax
fault_before Field fields = Field
fault_before Memory fields = Memory

-- the target of this type that arguments describe, or a fault: Field before Name
abbrev pub target_reading : (type : List ℕ) → List (List ℕ) → Result Target RowFault
target_reading type arguments = reading_of has_target_names (arguments_in type arguments)

-- the line at this place that fields describe, or a fault: Field before Name
abbrev pub body_reading : Place → List (List ℕ) → Result Line RowFault
body_reading at fields = reading_of (λ line. has_target_names line.target) (line_in at fields)

-- the result of `make` for the value that was read, or the fault if the read failed
abbrev pub made_of : {X Y : Type 0} → (X → Y) → Result X RowFault → Result Y RowFault
made_of make (Ok x) = Ok (make x)
made_of make (Err fault) = Err fault

-- the lines so far and then the line that was read, or the fault if the read failed
abbrev pub with_line : List Line → Result Line RowFault → Result (List Line) RowFault
with_line lines = made_of (λ line. lines ++ line ∷ [])

-- the line of a table with this target; `head` has its start, its length and its place
abbrev pub line_of : BodyHead → Target → Line
line_of head target = record { start = head.start; len = head.len; target = target; at = head.at }

-- the lines so far and then a line with the target that was read, or the fault if the read failed
abbrev pub with_target : List Line → BodyHead → Result Target RowFault → Result (List Line) RowFault
with_target lines head = made_of (λ target. lines ++ line_of head target ∷ [])
