-- The fault of one row, and the first fault of each kind over many rows, so that a parser needs to read each row only once.
use Rattle.dm_table.specs.Base.{ℕ, suc, Bool, List, [], Option, Some, None, Result, Ok, Err, ok_or, Part, LoadFault, RowFault, Syntax, Field, Name}
use Rattle.dm_table.specs.declared.load.load_fault.LoadKind.TheVariants as kinds
use Rattle.dm_table.specs.declared.load.row_faults.RowFault.TheVariants.{Memory}
use Rattle.dm_table.specs.declared.load.row_faults.FirstFaults.{FirstFaults}
use Rattle.dm_table.specs.load.LoadFault.{fault_at}
use Rattle.std.specs.Prelude.{◌≡◌, ◌≢◌, ◌∷◌, if◌then◌else◌}

-- the kind of fault for the first of three tests that fails, or None if all three pass
abbrev pub first_failed : (is_row has_values has_names : Bool) → Option RowFault
first_failed is_row has_values has_names = if is_row then (if has_values then (if has_names then None else Some Name) else Some Field) else Some Syntax

-- the kind of fault of a row, by the tests for the row's form, its values and its names; None if all pass
abbrev pub row_fault : {X : Type 0} → (is_row has_values has_names : X → Bool) → X → Option RowFault
row_fault is_row has_values has_names row = first_failed (is_row row) (has_values row) (has_names row)

-- a call returned the expected result `reading`, compared through `view`, or Memory because memory ran out
abbrev pub Reads : {X Y : Type 0} → (X → Y) → Result X RowFault → Result Y RowFault → Type 0
Reads view (Ok x) reading = reading ≡ Ok (view x)
Reads view (Err fault) reading = fault ≢ Memory → reading ≡ Err fault

-- the fault if there is one, else the value that a row describes, or Syntax if the row describes none
abbrev pub said_unless : {X : Type 0} → (fault : Option RowFault) → (said : Option X) → Result X RowFault
said_unless None said = ok_or said Syntax
said_unless (Some fault) said = Err fault

-- the fault in a result, if the result is an error
abbrev pub fault_in : {X : Type 0} → Result X RowFault → Option RowFault
fault_in (Ok x) = None
fault_in (Err fault) = Some fault

-- ---- the first fault of each kind

-- the state in which no row has had a fault
abbrev pub no_faults : FirstFaults
no_faults = record { syntax = None; field = None; name = None }

-- the first of two optional faults, or the second if the first is None
abbrev pub either : Option LoadFault → Option LoadFault → Option LoadFault
either None later = later
either (Some fault) later = Some fault

-- the first faults of each kind after row n with this fault: an earlier fault of the same kind is kept, and Memory changes nothing
abbrev pub noted : Part → FirstFaults → ℕ → RowFault → FirstFaults
noted part seen n Syntax = record seen { syntax = either seen.syntax (Some (fault_at part kinds.Syntax n)) }
noted part seen n Field = record seen { field = either seen.field (Some (fault_at part kinds.Field n)) }
noted part seen n Name = record seen { name = either seen.name (Some (fault_at part kinds.Name n)) }
noted part seen n Memory = seen

-- the first faults of each kind after row n, which has this fault or, for None, no fault
abbrev pub noted_at : Part → FirstFaults → ℕ → Option RowFault → FirstFaults
noted_at part seen n None = seen
noted_at part seen n (Some fault) = noted part seen n fault

-- the first faults of each kind after all rows; the rows are numbered from n on
abbrev pub noted_rows : {X : Type 0} → Part → (X → Option RowFault) → FirstFaults → ℕ → List X → FirstFaults
noted_rows part fault_of seen n [] = seen
noted_rows part fault_of seen n (row ∷ rows) = noted_rows part fault_of (noted_at part seen n (fault_of row)) (suc n) rows

-- the first faults of each kind after the end of a text: Syntax at line n if bytes follow the text's last newline
abbrev pub noted_rest : Part → FirstFaults → ℕ → List ℕ → FirstFaults
noted_rest part seen n [] = seen
noted_rest part seen n (byte ∷ bytes) = noted part seen n Syntax

-- the fault that a load reports: the first Syntax fault, else the first Field fault, else the first Name fault
abbrev pub first_noted : FirstFaults → Option LoadFault
first_noted seen = either seen.syntax (either seen.field seen.name)
