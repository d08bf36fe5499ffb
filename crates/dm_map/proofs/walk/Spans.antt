-- Below a sector of a line without state lies a sector of one of the line's spans. Stripes have a span for each column; any other such target has one or none.
use Rattle.dm_map.proofs.Prelude.{ℕ, false, List, Option, Some, None, length, refl, sym, ap, ◌∙◌, arith, map, option_map, slice_get, length-map, slice_get-map, mul-div_cancel_left, Target, Own, ResolvedColumn, ResolvedSnapshot, ResolvedTarget, Lower, Span, column_span, target_spans, Below, Lies, AreStripes, IsTargetSound, below_column, below_plain, below_target, column_of, resolved_columns, resolved_target, has_state, in_column, span_end, Description, lower_len, lower_of, in_column_room, Origin, Snapshot, Striped}
use Rattle.dm_table.specs.declared.tables.table.Column.{Column}
use Rattle.dm_table.specs.declared.tables.table.Target.TheVariants as targets
use Rattle.dm_map.proofs.state.Numbers.{stripe_back}
use Rattle.std.specs.Prelude.{◌≡◌, ◌+◌, ◌/◌, ◌%◌, ◌<◌}

-- Targets without state

pub lower_is : (a b : Lower) (s t : ℕ) → Lies a s ≡ Lies b t → a ≡ b
lower_is a b s t e = cc

pub sector_is : (a b : Lower) (s t : ℕ) → Lies a s ≡ Lies b t → s ≡ t
sector_is a b s t e = cc

-- what lies below a sector of a line without state doesn't depend on snapshots
pub below_is : (over : ResolvedSnapshot → ℕ → Below) (target : ResolvedTarget) (distance : ℕ) → has_state target ≡ false → below_target over target distance ≡ below_plain target distance
below_is over (Snapshot snapshot) distance plain = absurd cc
below_is over (Origin origin) distance plain = absurd cc
below_is over target distance plain = refl

-- below the sector at this distance into a line without state lies this lower sector
pub record IsPlainStep (target : ResolvedTarget) (distance : ℕ) (lower : Lower) (at : ℕ) : Type 0 where
  pub plain : has_state target ≡ false
  pub lies : below_plain target distance ≡ Lies lower at

-- The span below a sector

-- the index of the span that a sector at this distance into the line lies in
abbrev pub span_index : ResolvedTarget → (distance : ℕ) → ℕ
span_index (Striped chunk_size columns) distance = column_of chunk_size (length columns) distance
span_index _ distance = 0

-- the sector's distance into its span
abbrev pub span_distance : ResolvedTarget → (distance : ℕ) → ℕ
span_distance (Striped chunk_size columns) distance = in_column chunk_size (length columns) distance
span_distance _ distance = distance

-- two sectors of a line in the same span at the same distance are equal
pub distance_one : (stack : Description) (device start len : ℕ) (target : ResolvedTarget) (d e : ℕ) → IsTargetSound stack device start len target → span_index target d ≡ span_index target e → span_distance target d ≡ span_distance target e → d ≡ e
distance_one stack device start len (Striped chunk_size columns) d e sound same within =
    let stripes : AreStripes stack len chunk_size columns = sound in
    let n = length columns in
    cc (stripe_back chunk_size n d stripes.chunk_some, stripe_back chunk_size n e stripes.chunk_some)
distance_one stack device start len target d e sound same within = within

-- the span exists, and the lower sector is at this distance into it
abbrev pub IsIn : Description → Option Span → (distance : ℕ) → Lower → (at : ℕ) → Type 0
IsIn stack (Some span) distance lower at = (lower_of stack span.to ≡ lower) × (at ≡ span.offset + distance) × (span.kind ≡ Own)
IsIn stack None distance lower at = ⊥

-- the lower sector is before the end of the span
abbrev pub IsBefore : Description → Option Span → (at : ℕ) → Type 0
IsBefore stack (Some span) at = at < span_end (lower_len stack (lower_of stack span.to)) span.offset span.len
IsBefore stack None at = ⊥

-- Striped lines

record IsColumn (stack : Description) (columns : List Column) (i distance : ℕ) (lower : Lower) (at : ℕ) : Type 0 where
  column : Column
  is : slice_get columns i ≡ Some column
  to : lower_of stack column.to ≡ lower
  sector : at ≡ column.offset + distance

raw_column : (stack : Description) (columns : List Column) (i distance : ℕ) (lower : Lower) (at : ℕ) (raw : Option Column) → slice_get columns i ≡ raw → below_column (option_map (λ c. record { to = lower_of stack c.to; offset = c.offset }) raw) distance ≡ Lies lower at
    → IsColumn stack columns i distance lower at
raw_column stack columns i distance lower at None is e = absurd cc
raw_column stack columns i distance lower at (Some column) is e = record { column = column; is = is; to = cc; sector = sym (cc) }

striped_column : (stack : Description) (columns : List Column) (i distance : ℕ) (lower : Lower) (at : ℕ) → below_column (slice_get (resolved_columns stack columns) i) distance ≡ Lies lower at → IsColumn stack columns i distance lower at
striped_column stack columns i distance lower at e =
    raw_column stack columns i distance lower at (slice_get columns i) refl
    (ap (λ (o : Option ResolvedColumn). below_column o distance) (sym (slice_get-map (λ c. record { to = lower_of stack c.to; offset = c.offset }) columns i)) ∙ e)

column_span_at : (stack : Description) (columns : List Column) (share i distance : ℕ) (lower : Lower) (at : ℕ) (column : IsColumn stack columns i distance lower at) → slice_get (map (column_span share) columns) i ≡ Some (column_span share column.column)
column_span_at stack columns share i distance lower at column = slice_get-map (column_span share) columns i ∙ ap (option_map (column_span share)) column.is

striped_in : (stack : Description) (columns : List Column) (share i distance : ℕ) (lower : Lower) (at : ℕ) → below_column (slice_get (resolved_columns stack columns) i) distance ≡ Lies lower at → IsIn stack (slice_get (map (column_span share) columns) i) distance lower at
striped_in stack columns share i distance lower at e =
    let column = striped_column stack columns i distance lower at e in
    rw (column_span_at stack columns share i distance lower at column) (column.to, column.sector, refl)

striped_before : (stack : Description) (len chunk_size distance : ℕ) (columns : List Column) (lower : Lower) (at : ℕ) → AreStripes stack len chunk_size (resolved_columns stack columns) → distance < len
    → below_column (slice_get (resolved_columns stack columns) (column_of chunk_size (length (resolved_columns stack columns)) distance)) (in_column chunk_size (length (resolved_columns stack columns)) distance) ≡ Lies lower at
    → IsBefore stack (slice_get (map (column_span (len / length columns)) columns) (column_of chunk_size (length (resolved_columns stack columns)) distance)) at
striped_before stack len chunk_size distance columns lower at stripes inside e =
    let count = length (resolved_columns stack columns) in
    let column = striped_column stack columns (column_of chunk_size count distance) (in_column chunk_size count distance) lower at e in
    let some = stripes.chunk_some in
    let room = in_column_room chunk_size count stripes.column_len stripes.chunks len distance stripes.chunk_some stripes.some stripes.shares stripes.whole inside in
    let same : count ≡ length columns = length-map columns _ in
    let share : len / length columns ≡ stripes.column_len = cc (mul-div_cancel_left stripes.column_len stripes.some) in
    let rest : distance % chunk_size < chunk_size = omega (arith, some) in
    rw (column_span_at stack columns (len / length columns) (column_of chunk_size count distance) (in_column chunk_size count distance) lower at column) (omega (arith, room, share, rest, column.sector))

-- Any target without state

plain_in : (stack : Description) (len : ℕ) (target : Target) (distance : ℕ) (lower : Lower) (at : ℕ) → below_plain (resolved_target stack target) distance ≡ Lies lower at
    → IsIn stack (slice_get (target_spans len target) (span_index (resolved_target stack target) distance)) (span_distance (resolved_target stack target) distance) lower at
plain_in stack len (targets.Striped chunk_size columns) distance lower at e =
    let count = length (resolved_columns stack columns) in
    striped_in stack columns (len / length columns) (column_of chunk_size count distance) (in_column chunk_size count distance) lower at e
plain_in stack len target distance lower at e = first_of (search (lower_is, sector_is), cc)

pub plain_before : (stack : Description) (device start len : ℕ) (target : Target) (distance : ℕ) (lower : Lower) (at : ℕ) → IsTargetSound stack device start len (resolved_target stack target) → distance < len → below_plain (resolved_target stack target) distance ≡ Lies lower at
    → IsBefore stack (slice_get (target_spans len target) (span_index (resolved_target stack target) distance)) at
plain_before stack device start len (targets.Striped chunk_size columns) distance lower at sound inside e = striped_before stack len chunk_size distance columns lower at sound inside e
plain_before stack device start len target distance lower at sound inside e = first_of (cc, grind arith)

-- the lower sector is at this distance into the span with this index
pub record IsInSpan (stack : Description) (spans : List Span) (index distance : ℕ) (lower : Lower) (at : ℕ) : Type 0 where
  pub span : Span
  pub is : slice_get spans index ≡ Some span
  pub on : lower_of stack span.to ≡ lower
  pub sector : at ≡ span.offset + distance
  pub used : span.kind ≡ Own

there : (stack : Description) (spans : List Span) (index distance : ℕ) (lower : Lower) (at : ℕ) (span : Option Span) → slice_get spans index ≡ span → IsIn stack span distance lower at → IsInSpan stack spans index distance lower at
there stack spans index distance lower at None is in_span = absurd in_span
there stack spans index distance lower at (Some span) is in_span = record { span = span; is = is; on = in_span.0; sector = in_span.1; used = in_span.2 }

pub plain_span : (stack : Description) (len : ℕ) (target : Target) (distance : ℕ) (lower : Lower) (at : ℕ) → below_plain (resolved_target stack target) distance ≡ Lies lower at
    → IsInSpan stack (target_spans len target) (span_index (resolved_target stack target) distance) (span_distance (resolved_target stack target) distance) lower at
plain_span stack len target distance lower at e =
    there stack (target_spans len target) (span_index (resolved_target stack target) distance) (span_distance (resolved_target stack target) distance) lower at _ refl (plain_in stack len target distance lower at e)
