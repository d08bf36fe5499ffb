-- Spans: the devices and disks that a line with ids refers to, and which of their sectors it uses.
use Rattle.dm_stack.specs.Base.{ℕ, Bool, List, [], Option, Some, None, length, map, nat_le, flat_map, list_any, Use, Own, Reading, Serving, Span as NamedSpan}
use Rattle.dm_stack.specs.declared.claims.claim.Claim.{Claim}
use Rattle.dm_stack.specs.declared.id.Lower.{Lower}
use Rattle.dm_stack.specs.declared.id.Lower.TheVariants.{Device, Disk}
use Rattle.dm_stack.specs.declared.lines.resolved_columns.ResolvedColumn.{ResolvedColumn}
use Rattle.dm_stack.specs.declared.lines.resolved_line.ResolvedLine.{ResolvedLine}
use Rattle.dm_stack.specs.declared.lines.resolved_line.ResolvedTarget.{ResolvedTarget}
use Rattle.dm_stack.specs.declared.lines.resolved_line.ResolvedTarget.TheVariants as found
use Rattle.dm_stack.specs.declared.lines.span.Span.{Span}
use Rattle.dm_stack.specs.Description.{Description, lower_len, lower_link, lower_of}
use Rattle.dm_stack.specs.checks.Soundness.{passes}
use Rattle.std.specs.Prelude.{◌+◌, ◌/◌, ◌∷◌}

-- the span of a column, whose length is the column's share of the line's length
abbrev pub column_span : ℕ → ResolvedColumn → Span
column_span len column = record { to = column.to; offset = column.offset; len = Some len; kind = Own }

-- the span of a whole device or disk
abbrev pub whole_span : Lower → Use → Span
whole_span to kind = record { to = to; offset = 0; len = None; kind = kind }

-- the spans of a line with this length and target, in order
abbrev pub target_spans : ℕ → ResolvedTarget → List Span
target_spans len (found.Linear to offset) = record { to = to; offset = offset; len = Some len; kind = Own } ∷ []
target_spans len (found.Striped chunk columns) = map (column_span (len / length columns)) columns
target_spans len found.Zero = []
target_spans len found.Error = []
target_spans len (found.Snapshot snapshot) = whole_span snapshot.store Own ∷ whole_span snapshot.origin Reading ∷ []
target_spans len (found.Origin origin) = whole_span origin.to Serving ∷ []

-- the spans of a line, in order; for a snapshot, first the store, then the origin
abbrev pub spans : ResolvedLine → List Span
spans line = target_spans line.len line.target

-- a span with the id of the device or disk in place of the name
abbrev pub by_id : Description → NamedSpan → Span
by_id stack span = record { to = lower_of stack span.to; offset = span.offset; len = span.len; kind = span.kind }

-- the stack has no device or disk with this id
abbrev pub is_missing : Description → Lower → Bool
is_missing stack (Device id) = nat_le (length stack.devices) id
is_missing stack (Disk id) = nat_le (length stack.disks) id

-- the line refers to a device or disk that the stack doesn't have
abbrev pub names_missing : Description → ResolvedLine → Bool
names_missing stack line = list_any (λ span. is_missing stack span.to) (spans line)

-- the ids of the devices that a line names, in order
abbrev pub line_links : ResolvedLine → List ℕ
line_links line = flat_map (λ span. lower_link span.to) (spans line)

-- the span passes the end of the device or disk that it refers to
abbrev pub is_past : Description → Span → Bool
is_past stack span = passes (lower_len stack span.to) span.offset span.len

abbrev pub passes_end : Description → ResolvedLine → Bool
passes_end stack line = list_any (is_past stack) (spans line)

-- the end of a span; a span without a length ends where the device or disk does
abbrev pub span_end : (whole offset : ℕ) → Option ℕ → ℕ
span_end whole offset (Some len) = offset + len
span_end whole offset None = whole

-- the claim that a device makes with one span of a line
abbrev pub span_claim : Description → (device : ℕ) → Span → Claim
span_claim stack device span = record { device = device; to = span.to; start = span.offset; end = span_end (lower_len stack span.to) span.offset span.len; kind = span.kind }

abbrev pub line_claims : Description → (device : ℕ) → ResolvedLine → List Claim
line_claims stack device line = map (span_claim stack device) (spans line)
