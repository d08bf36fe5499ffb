-- The extents of lower devices and disks that a line of a table names.
use Rattle.dm_table.specs.Base.{ℕ, List, [], Option, Some, None, length, map}
use Rattle.dm_table.specs.declared.tables.table.DevRef.{DevRef}
use Rattle.dm_table.specs.declared.tables.table.Column.{Column}
use Rattle.dm_table.specs.declared.tables.table.Target.{Target}
use Rattle.dm_table.specs.declared.tables.table.Target.TheVariants as targets
use Rattle.dm_table.specs.declared.tables.table.Line.{Line}
use Rattle.dm_table.specs.declared.tables.table.Use.{Use}
use Rattle.dm_table.specs.declared.tables.table.Use.TheVariants.{Own, Reading, Serving}
use Rattle.std.specs.Prelude.{◌/◌, ◌∷◌}

-- an extent of a device or disk, from sector `offset` on, and how a line uses it; without a length, it is all of the device or disk
pub record Span : Type 0 where
  pub to : DevRef
  pub offset : ℕ
  pub len : Option ℕ
  pub kind : Use

-- the extent of one column of a striped line; `len` is the column's share of the line's length
abbrev pub column_span : ℕ → Column → Span
column_span len column = record { to = column.to; offset = column.offset; len = Some len; kind = Own }

-- the extent that is all of a device or disk, used in this way
abbrev pub whole_span : DevRef → Use → Span
whole_span to kind = record { to = to; offset = 0; len = None; kind = kind }

-- the extents that a line of this length and target names: one for linear, one per column for striped, and for the snapshot targets all of each device or disk
abbrev pub target_spans : ℕ → Target → List Span
target_spans len (targets.Linear to offset) = record { to = to; offset = offset; len = Some len; kind = Own } ∷ []
target_spans len (targets.Striped chunk columns) = map (column_span (len / length columns)) columns
target_spans len targets.Zero = []
target_spans len targets.Error = []
target_spans len (targets.Snapshot origin store kind chunk) = whole_span store Own ∷ whole_span origin Reading ∷ []
target_spans len (targets.Origin origin) = whole_span origin Serving ∷ []

-- the extents that a line names; for a snapshot, first that of its store and then that of its origin
abbrev pub spans : Line → List Span
spans line = target_spans line.len line.target
