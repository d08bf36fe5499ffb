-- The line that holds a sector, and what lies below the sector (the kernel's admin guide, device-mapper/linear and striped).
use Rattle.dm_stack.specs.Base.{ℕ, Bool, true, false, List, Option, Some, None, find, length, map, nat_le, nat_lt, option_map, slice_get, AllByRecursion, Target, Line}
use Rattle.dm_table.specs.declared.tables.table.Column.{Column}
use Rattle.dm_table.specs.declared.tables.table.Target.TheVariants as targets
use Rattle.dm_stack.specs.declared.id.Lower.{Lower}
use Rattle.dm_stack.specs.declared.lines.resolved_columns.ResolvedColumn.{ResolvedColumn}
use Rattle.dm_stack.specs.declared.lines.resolved_line.ResolvedOrigin.{ResolvedOrigin}
use Rattle.dm_stack.specs.declared.lines.resolved_line.ResolvedSnapshot.{ResolvedSnapshot}
use Rattle.dm_stack.specs.declared.lines.resolved_line.ResolvedTarget.{ResolvedTarget}
use Rattle.dm_stack.specs.declared.lines.resolved_line.ResolvedTarget.TheVariants as found
use Rattle.dm_stack.specs.declared.lines.resolved_line.ResolvedLine.{ResolvedLine}
use Rattle.dm_stack.specs.declared.checks.limits.TheConstants.{MOST_CHUNK, MOST_LENGTH, MOST_SNAPSHOT_CHUNK, MOST_STRIPES}
use Rattle.dm_stack.specs.Description.{Description, device_len, lower_of, lower_len, lines_at}
use Rattle.dm_stack.specs.lines.Over.{origin_over, resolved_snapshot, snapshots_over}
use Rattle.dm_stack.specs.checks.Store.{IsStore}
use Rattle.std.specs.Prelude.{◌+◌, ◌-◌, ◌*◌, ◌/◌, ◌%◌, ◌&&◌, ◌==◌, ◌≡◌, ◌≤◌, ◌<◌}

-- the sector is in the line: not before the line's start, and before its end
abbrev pub holds : ℕ → Line → Bool
holds sector line = nat_le line.start sector && nat_lt sector (line.start + line.len)

-- the first line of the list that holds the sector
abbrev pub line_of : List Line → ℕ → Option Line
line_of lines sector = find (holds sector) lines

-- the columns of a striped line, with ids in place of names
abbrev pub resolved_columns : Description → List Column → List ResolvedColumn
resolved_columns stack columns = map (λ column. record { to = lower_of stack column.to; offset = column.offset }) columns

-- the target of a line, with ids in place of names
abbrev pub resolved_target : Description → Target → ResolvedTarget
resolved_target stack (targets.Linear to offset) = found.Linear (lower_of stack to) offset
resolved_target stack (targets.Striped chunk columns) = found.Striped chunk (resolved_columns stack columns)
resolved_target stack targets.Zero = found.Zero
resolved_target stack targets.Error = found.Error
resolved_target stack (targets.Snapshot origin store kind chunk) = found.Snapshot (resolved_snapshot stack origin store kind chunk)
resolved_target stack (targets.Origin origin) = found.Origin (record { to = lower_of stack origin; over = origin_over stack (lower_of stack origin) })

-- a line of a table, with ids in place of names
abbrev pub resolved_line : Description → Line → ResolvedLine
resolved_line stack line = record { start = line.start; len = line.len; target = resolved_target stack line.target }

-- what lies below a sector: a sector of a device or a disk, zeros, or an error
pub data Below : Type 0 where
  Lies : Lower → ℕ → Below
  IsZero : Below
  IsError : Below

-- the index of the column that holds the sector at a distance into a striped line
abbrev pub column_of : (chunk count distance : ℕ) → ℕ
column_of chunk count distance = (distance / chunk) % count

-- the sector's distance into its column, counted from the start of the line's share of the column
abbrev pub in_column : (chunk count distance : ℕ) → ℕ
in_column chunk count distance = (distance / chunk / count) * chunk + distance % chunk

-- what lies below a sector of a column, or an error if the column doesn't exist
abbrev pub below_column : Option ResolvedColumn → ℕ → Below
below_column (Some column) sector = Lies column.to (column.offset + sector)
below_column None sector = IsError

-- what lies below the sector at a distance into a striped line
abbrev pub below_stripes : (chunk : ℕ) → List ResolvedColumn → ℕ → Below
below_stripes chunk columns distance =
    below_column (slice_get columns (column_of chunk (length columns) distance)) (in_column chunk (length columns) distance)

-- the target has state, so what lies below its sectors depends on earlier writes; a target not listed here has no state
abbrev pub has_state : ResolvedTarget → Bool
has_state (found.Snapshot snapshot) = true
has_state (found.Origin origin) = true
has_state _ = false

-- the target is striped; a target not listed here isn't
abbrev pub is_striped : ResolvedTarget → Bool
is_striped (found.Striped chunk columns) = true
is_striped _ = false

-- what lies below the sector at a distance into a line without state, or an error for a target not listed here
abbrev pub below_plain : ResolvedTarget → ℕ → Below
below_plain (found.Linear to offset) distance = Lies to (offset + distance)
below_plain (found.Striped chunk columns) distance = below_stripes chunk columns distance
below_plain found.Zero distance = IsZero
below_plain _ distance = IsError

-- what lies below the sector at a distance into a line. For a snapshot, whose sectors move when written, `over` decides; a snapshot's line starts at sector 0
abbrev pub below_target : (over : ResolvedSnapshot → ℕ → Below) → ResolvedTarget → ℕ → Below
below_target over (found.Snapshot snapshot) distance = over snapshot distance
below_target over (found.Origin origin) distance = Lies origin.to distance
below_target over target distance = below_plain target distance

-- the number of the chunk that contains the sector at a distance into the line; None for a target not listed here, which has no chunks
abbrev pub chunk_at : ResolvedTarget → (distance : ℕ) → Option ℕ
chunk_at (found.Striped chunk columns) distance = Some (distance / chunk)
chunk_at (found.Snapshot snapshot) distance = Some (distance / snapshot.chunk)
chunk_at _ distance = None

-- both are the same chunk, or both are None
abbrev pub is_same_chunk : Option ℕ → Option ℕ → Bool
is_same_chunk None None = true
is_same_chunk None (Some other) = false
is_same_chunk (Some chunk) None = false
is_same_chunk (Some chunk) (Some other) = chunk == other

-- what lies below a sector of a device, given the line that holds the sector; an error if no line does
abbrev pub below_line : (over : ResolvedSnapshot → ℕ → Below) → Option ResolvedLine → ℕ → Below
below_line over (Some line) sector = below_target over line.target (sector - line.start)
below_line over None sector = IsError

-- the lines of a device, with ids in place of names
abbrev pub resolved_lines : Description → ℕ → List ResolvedLine
resolved_lines stack device = map (resolved_line stack) (lines_at stack device)

-- the line of a device that holds the sector, with ids in place of names
abbrev pub found_at : Description → ℕ → ℕ → Option ResolvedLine
found_at stack device sector = option_map (resolved_line stack) (line_of (lines_at stack device) sector)

-- what lies below a sector of a device; `over` returns what lies below a sector of a snapshot
abbrev pub below : (over : ResolvedSnapshot → ℕ → Below) → Description → ℕ → ℕ → Below
below over stack device sector = below_line over (found_at stack device sector) sector

-- Lines in the devices of a sound stack

-- the device or disk has len sectors from the offset on
abbrev pub LiesIn : Description → Lower → ℕ → ℕ → Type 0
LiesIn stack to offset len = offset + len ≤ lower_len stack to

-- the stripes of a line are within the limits, and each column has its share of the line's length
pub record AreStripes (stack : Description) (len chunk : ℕ) (columns : List ResolvedColumn) : Type 0 where
  pub some : 0 < length columns
  pub few : length columns ≤ MOST_STRIPES
  pub chunk_some : 0 < chunk
  pub chunk_small : chunk ≤ MOST_CHUNK
  pub column_len : ℕ
  pub chunks : ℕ
  pub shares : len ≡ length columns * column_len
  pub whole : column_len ≡ chunks * chunk
  pub inside : AllByRecursion (λ column. LiesIn stack column.to column.offset column_len) columns

-- a snapshot covers a whole device as long as its origin, its chunk size is within the limit, and its store is of a permitted form
pub record IsSnapshotSound (stack : Description) (device start len : ℕ) (snapshot : ResolvedSnapshot) : Type 0 where
  pub chunk_some : 0 < snapshot.chunk
  pub chunk_small : snapshot.chunk ≤ MOST_SNAPSHOT_CHUNK
  pub from : start ≡ 0
  pub whole : len ≡ device_len stack device
  pub origin : lower_len stack snapshot.origin ≡ len
  pub store : IsStore stack snapshot.store

-- an origin's line covers a whole device as long as the device or disk that it names, and lists all snapshots of the latter
pub record IsOriginSound (stack : Description) (device start len : ℕ) (origin : ResolvedOrigin) : Type 0 where
  pub from : start ≡ 0
  pub whole : len ≡ device_len stack device
  pub same : lower_len stack origin.to ≡ len
  pub over : origin.over ≡ snapshots_over stack origin.to

-- what code relies on about the target of a line with this start and length in a device
abbrev pub IsTargetSound : Description → (device start len : ℕ) → ResolvedTarget → Type 0
IsTargetSound stack device start len (found.Linear to offset) = LiesIn stack to offset len
IsTargetSound stack device start len (found.Striped chunk columns) = AreStripes stack len chunk columns
IsTargetSound stack device start len found.Zero = Unit {0}
IsTargetSound stack device start len found.Error = Unit {0}
IsTargetSound stack device start len (found.Snapshot snapshot) = IsSnapshotSound stack device start len snapshot
IsTargetSound stack device start len (found.Origin origin) = IsOriginSound stack device start len origin

-- a line in a device of a sound stack: within the limit on lengths, with a sound target, and found for each of its sectors
pub record IsLine (stack : Description) (device : ℕ) (line : ResolvedLine) : Type 0 where
  pub small : line.start + line.len ≤ MOST_LENGTH
  pub target : IsTargetSound stack device line.start line.len line.target
  pub all : (other : ℕ) → line.start ≤ other → other < line.start + line.len → found_at stack device other ≡ Some line

-- the line is the one that holds this sector of a device, in a sound stack
pub record IsLineOf (stack : Description) (device : ℕ) (line : ResolvedLine) (sector : ℕ) : Type 0 where
  pub from : line.start ≤ sector
  pub before : sector < line.start + line.len
  pub is : IsLine stack device line
