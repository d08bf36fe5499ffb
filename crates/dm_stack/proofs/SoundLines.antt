-- What a sound stack says about its devices, its disks, and the line that holds a sector.
use Rattle.dm_stack.proofs.Prelude.{ℕ, zero, suc, Bool, true, false, nat_lt, nat_le, List, [], length, map, Some, refl, sym, ap, subst, ◌∙◌, arith, not, find, position, slice_get, AllByRecursion, flat_map, list_any, position_or_len, and_parts, or_parts, leb-true, le-leb, ltb-true, ltb-false, lt-ltb, eqb-true, not-false, length-map, find_at, passes_at_first, get_or_from_slice_get, slice_get_within, div-add-mod, mul_comm, DevRef, StoreKind, Target, Line, Own, DeviceSpec, Limit, Empty, Stripe, Range, Snapshot, Store, column_span, Lower, ResolvedLine, Description, lines_at, lines_or_none, end_of, device_len, lower_len, lower_of, holds, line_of, resolved_line, resolved_columns, resolved_target, found_at, LiesIn, AreStripes, IsOriginSound, IsSnapshotSound, IsTargetSound, copied, has_crowd, is_whole, origin_over, resolved_snapshot, snapshots_over, all_lines, is_large, without_lines, empty_in, misplaced_in, is_bad_chunk, is_bad_snapshot, is_bad_stripe, has_bad_store, has_bad_stripes, bad_snapshots_in, IsSound, passes_end, all_parts, append-nil_both, at_index}
use Rattle.dm_table.specs.declared.tables.table.Column.{Column}
use Rattle.dm_table.specs.declared.tables.disk.Disk.{Disk}
use Rattle.dm_table.specs.Prelude.{target_spans}
use Rattle.dm_table.specs.declared.tables.table.Target.TheVariants as targets
use Rattle.dm_stack.specs.declared.checks.limits.TheConstants.{MOST_LENGTH}
use Rattle.dm_stack.specs.checks.Soundness.{is_past}
use Rattle.dm_stack.proofs.checks.HandedOn.{line_within}
use Rattle.dm_stack.proofs.checks.LayoutLemmas.{AreInRow, in_row}
use Rattle.dm_stack.proofs.checks.ChunkLemmas.{chunk_within}
use Rattle.dm_stack.proofs.lines.Members.{found_there, only}
use Rattle.dm_stack.proofs.checks.Passes.{faults_by_none, passes_all}
use Rattle.std.specs.Prelude.{◌≡◌, ◌+◌, ◌*◌, ◌^◌, ◌<◌, ◌≤◌, ◌∷◌, ◌/◌, ◌%◌, ◌==◌, ◌&&◌, ◌||◌}

-- Searching a list, and searching the list of its images

pub position_or_len-map : {X Y : Type 0} (f : X → Y) (test : Y → Bool) (xs : List X) → position_or_len test (map f xs) ≡ position_or_len (λ x. test (f x)) xs
position_or_len-map f test [] = refl
position_or_len-map f test (x ∷ xs) = rw (position_or_len-map f test xs)

pub position-map : {X Y : Type 0} (f : X → Y) (test : Y → Bool) (xs : List X) → position test (map f xs) ≡ position (λ x. test (f x)) xs
position-map f test xs = rw (position_or_len-map f test xs, length-map xs f)

-- an element that a search finds passes the test, and has the property that all elements have
pub found : {X : Type 0} (P : X → Type 0) (test : X → Bool) (xs : List X) (x : X) → AllByRecursion P xs → find test xs ≡ Some x → (test x ≡ true) × P x
found P test xs x h e =
    let at = sym (find_at test xs) ∙ e in
    let here = get_or_from_slice_get xs (position_or_len test xs) x x at in
    (ap test (sym here) ∙ passes_at_first test xs x (slice_get_within xs (position_or_len test xs) x at), at_index P xs (position_or_len test xs) x h at)

-- Lines that start where the one before ends

-- one of these lines holds the sector
pub record IsHeld (lines : List Line) (sector : ℕ) : Type 0 where
  pub line : Line
  pub is : line_of lines sector ≡ Some line

held_here : (line : Line) (lines : List Line) (sector : ℕ) (b : Bool) → holds sector line ≡ b → (b ≡ false → IsHeld lines sector) → IsHeld (line ∷ lines) sector
held_here line lines sector true is later = record { line = line; is = rw is refl }
held_here line lines sector false is later = let rest = later refl in record { line = rest.line; is = rw is rest.is }

pub holds_from : (line : Line) (sector : ℕ) → line.start ≤ sector → sector < line.start + line.len → holds sector line ≡ true
holds_from line sector from before = rw (le-leb line.start sector from, lt-ltb sector (line.start + line.len) before)

passed : (line : Line) (sector : ℕ) → line.start ≤ sector → holds sector line ≡ false → line.start + line.len ≤ sector
passed line sector from none = grind (arith, from, none)

pub held : (end : ℕ) (lines : List Line) (sector : ℕ) → AreInRow end lines → end ≤ sector → sector < end_of lines → IsHeld lines sector
held end [] sector row from before = absurd (omega (arith, before))
held end (line ∷ []) sector row from before =
    held_here line [] sector (holds sector line) refl (λ none. absurd (let yes : holds sector line ≡ true = holds_from line sector (omega (arith, row.0, from)) before in cc))
held end (line ∷ next ∷ lines) sector row from before =
    held_here line (next ∷ lines) sector (holds sector line) refl (λ none. held (line.start + line.len) (next ∷ lines) sector row.1 (passed line sector (omega (arith, row.0, from)) none) before)

-- The lines of one device

pub of_device : (P : Line → Type 0) (devices : List DeviceSpec) (id : ℕ) (device : DeviceSpec) → AllByRecursion P (all_lines devices) → slice_get devices id ≡ Some device → AllByRecursion P device.lines
of_device P [] id device h e = absurd cc
of_device P (first ∷ devices) zero device h e =
    let same : first ≡ device = cc in
    rw (← same) (all_parts P first.lines (all_lines devices) h).0
of_device P (first ∷ devices) (suc id) device h e = of_device P devices id device (all_parts P first.lines (all_lines devices) h).1 e

-- Targets that don't pass the end of what they name

pub positive : (n : ℕ) → (n == 0) ≡ false → 0 < n
positive n e = grind (arith, e)

share : (n m : ℕ) → (n % m == 0) ≡ true → n ≡ m * (n / m)
share n m e = let none : n % m ≡ 0 = eqb-true _ _ e in let sum : m * (n / m) + n % m ≡ n = div-add-mod n m in omega (arith, none, sum)

columns_inside : (stack : Description) (len : ℕ) (columns : List Column) → list_any (is_past stack) (map (column_span len) columns) ≡ false → AllByRecursion (λ column. LiesIn stack column.to column.offset len) (resolved_columns stack columns)
columns_inside stack len [] e = tt
columns_inside stack len (column ∷ columns) e =
    let parts = or_parts (is_past stack (column_span len column)) _ e in
    (ltb-false _ _ parts.0, columns_inside stack len columns parts.1)

stripes_sound : (stack : Description) (len chunk : ℕ) (columns : List Column) → is_bad_stripe len chunk (length columns) ≡ false → list_any (is_past stack) (map (column_span (len / length columns)) columns) ≡ false → AreStripes stack len chunk (resolved_columns stack columns)
stripes_sound stack len chunk columns good inside =
    let a = or_parts (length columns == 0) _ good in
    let b = or_parts (nat_lt 128 (length columns)) _ a.1 in
    let c = or_parts (chunk == 0) _ b.1 in
    let d = or_parts (nat_lt 4294967295 chunk) _ c.1 in
    let f = or_parts (not (len % length columns == 0)) (not ((len / length columns) % chunk == 0)) d.1 in
    let some : 0 < length columns = positive (length columns) a.0 in
    let few : length columns ≤ 128 = ltb-false _ _ b.0 in
    let same : length (resolved_columns stack columns) ≡ length columns = length-map columns _ in
    record {
      some = rw same some;
      few = rw same few;
      chunk_some = positive chunk c.0;
      chunk_small = ltb-false _ _ d.0;
      column_len = len / length columns;
      chunks = len / length columns / chunk;
      shares = rw same (share len (length columns) (not-false _ f.0));
      whole = share (len / length columns) chunk (not-false _ f.1) ∙ mul_comm chunk (len / length columns / chunk);
      inside = columns_inside stack (len / length columns) columns inside;
    }

-- the line is the whole of its device
pub record IsWhole (stack : Description) (id : ℕ) (line : Line) : Type 0 where
  pub from : line.start ≡ 0
  pub len : line.len ≡ device_len stack id

snapshot_sound : (stack : Description) (id lines : ℕ) (line : Line) (origin store : DevRef) (kind : StoreKind) (chunk : ℕ) → (lines ≡ 1 → IsWhole stack id line) → is_bad_snapshot stack lines line.len (targets.Snapshot origin store kind chunk) ≡ false → has_bad_store stack (targets.Snapshot origin store kind chunk) ≡ false
    → IsSnapshotSound stack id line.start line.len (resolved_snapshot stack origin store kind chunk)
snapshot_sound stack id lines line origin store kind chunk whole good stored =
    let a = or_parts (not (lines == 1)) (is_bad_chunk chunk || not (line.len == lower_len stack (lower_of stack origin))) good in
    let b = or_parts (is_bad_chunk chunk) (not (line.len == lower_len stack (lower_of stack origin))) a.1 in
    let limits = chunk_within chunk b.0 in
    let alone = whole (eqb-true _ _ (not-false _ a.0)) in
    record {
      chunk_some = rw b.0 limits.0;
      chunk_small = rw b.0 limits.1;
      from = alone.from;
      whole = alone.len;
      origin = sym (eqb-true _ _ (not-false _ b.1));
      store = not-false _ stored;
    }

-- in a table of several lines, no line is a snapshot or an origin
one_alone : (stack : Description) (count len : ℕ) (target : Target) → (count == 1) ≡ false → is_bad_snapshot stack count len target ≡ false → is_whole target ≡ false
one_alone stack count len (targets.Snapshot origin store kind chunk) many good = absurd cc
one_alone stack count len (targets.Origin origin) many good = absurd cc
one_alone stack count len _ many good = refl

all_alone : (stack : Description) (count : ℕ) (lines : List Line) → (count == 1) ≡ false → AllByRecursion (λ line. is_bad_snapshot stack count line.len line.target ≡ false) lines → list_any (λ line. is_whole line.target) lines ≡ false
all_alone stack count [] many good = refl
all_alone stack count (line ∷ lines) many good = rw (one_alone stack count line.len line.target many good.0, all_alone stack count lines many good.1)

crowd_by : (stack : Description) (lines : List Line) (b : Bool) → (length lines == 1) ≡ b → AllByRecursion (λ line. is_bad_snapshot stack (length lines) line.len line.target ≡ false) lines → (not b && list_any (λ line. is_whole line.target) lines) ≡ false
crowd_by stack lines true is good = refl
crowd_by stack lines false is good = all_alone stack (length lines) lines is good

no_crowd : (stack : Description) (devices : List DeviceSpec) → flat_map (λ d. bad_snapshots_in stack d.lines) devices ≡ [] → list_any has_crowd devices ≡ false
no_crowd stack [] e = refl
no_crowd stack (device ∷ devices) e =
    let parts = append-nil_both (bad_snapshots_in stack device.lines) _ e in
    let good = faults_by_none Snapshot (λ line. line.at) (λ line. is_bad_snapshot stack (length device.lines) line.len line.target) device.lines parts.0 in
    rw (crowd_by stack device.lines (length device.lines == 1) refl good, no_crowd stack devices parts.1)

over_is : (stack : Description) (to : Lower) → IsSound stack → origin_over stack to ≡ snapshots_over stack to
unfolding origin_over copied snapshots_over
over_is stack to sound = rw (no_crowd stack stack.devices (passes_all stack sound).fitting) refl

origin_sound : (stack : Description) (id lines : ℕ) (line : Line) (origin : DevRef) → IsSound stack → (lines ≡ 1 → IsWhole stack id line) → is_bad_snapshot stack lines line.len (targets.Origin origin) ≡ false
    → IsOriginSound stack id line.start line.len (record { to = lower_of stack origin; over = origin_over stack (lower_of stack origin) })
origin_sound stack id lines line origin sound whole good =
    let a = or_parts (not (lines == 1)) (not (line.len == lower_len stack (lower_of stack origin))) good in
    let alone = whole (eqb-true _ _ (not-false _ a.0)) in
    record { from = alone.from; whole = alone.len; same = sym (eqb-true _ _ (not-false _ a.1)); over = over_is stack (lower_of stack origin) sound }

-- for a linear line or a column, the device or disk below has all the sectors
row_sound : (stack : Description) (to : DevRef) (offset len : ℕ) → list_any (is_past stack) (record { to = to; offset = offset; len = Some len; kind = Own } ∷ []) ≡ false → offset + len ≤ lower_len stack (lower_of stack to)
row_sound stack to offset len inside = ltb-false _ _ (or_parts (is_past stack (record { to = to; offset = offset; len = Some len; kind = Own })) false inside).0

target_sound : (stack : Description) (id lines : ℕ) (line : Line) (target : Target) → IsSound stack → (lines ≡ 1 → IsWhole stack id line) → has_bad_stripes line target ≡ false → list_any (is_past stack) (target_spans line.len target) ≡ false → is_bad_snapshot stack lines line.len target ≡ false → has_bad_store stack target ≡ false
    → IsTargetSound stack id line.start line.len (resolved_target stack target)
target_sound stack id lines line (targets.Striped chunk columns) sound whole good inside fitting stored = stripes_sound stack line.len chunk columns good inside
target_sound stack id lines line (targets.Snapshot origin store kind chunk) sound whole good inside fitting stored = snapshot_sound stack id lines line origin store kind chunk whole fitting stored
target_sound stack id lines line (targets.Origin origin) sound whole good inside fitting stored = origin_sound stack id lines line origin sound whole fitting
target_sound stack id lines line _ sound whole good inside fitting stored = search row_sound

-- The line of a sector in a sound stack

-- what the checks of a load say about one device and its lines
pub record IsDeviceSound (stack : Description) (device : DeviceSpec) : Type 0 where
  pub small : AllByRecursion (λ line. is_large line ≡ false) device.lines
  pub striped : AllByRecursion (λ line. has_bad_stripes line line.target ≡ false) device.lines
  pub inside : AllByRecursion (λ line. passes_end stack line ≡ false) device.lines
  pub fitting : AllByRecursion (λ line. is_bad_snapshot stack (length device.lines) line.len line.target ≡ false) device.lines
  pub stored : AllByRecursion (λ line. has_bad_store stack line.target ≡ false) device.lines
  pub filled : empty_in device ≡ []
  pub placed : AreInRow 0 device.lines

part_of : {X : Type 0} (check : DeviceSpec → List X) (devices : List DeviceSpec) (id : ℕ) (device : DeviceSpec) → flat_map check devices ≡ [] → slice_get devices id ≡ Some device → check device ≡ []
part_of check [] id device e at = absurd cc
part_of {X} check (first ∷ devices) zero device e at =
    let same : first ≡ device = cc in rw (← same) (append-nil_both (check first) _ e).0
part_of check (first ∷ devices) (suc id) device e at = part_of check devices id device (append-nil_both (check first) _ e).1 at

pub device_sound : (stack : Description) (id : ℕ) (device : DeviceSpec) → IsSound stack → slice_get stack.devices id ≡ Some device → IsDeviceSound stack device
device_sound stack id device sound at =
    let p = passes_all stack sound in
    record {
      small = of_device (λ line. is_large line ≡ false) stack.devices id device (faults_by_none Limit (λ line. line.at) is_large (all_lines stack.devices) (append-nil_both _ _ p.small).0) at;
      striped = of_device (λ line. has_bad_stripes line line.target ≡ false) stack.devices id device (faults_by_none Stripe (λ line. line.at) (λ line. has_bad_stripes line line.target) (all_lines stack.devices) p.divided) at;
      inside = of_device (λ line. passes_end stack line ≡ false) stack.devices id device (faults_by_none Range (λ line. line.at) (passes_end stack) (all_lines stack.devices) p.inside) at;
      fitting = faults_by_none Snapshot (λ line. line.at) (λ line. is_bad_snapshot stack (length device.lines) line.len line.target) device.lines (part_of (λ d. bad_snapshots_in stack d.lines) stack.devices id device p.fitting at);
      stored = of_device (λ line. has_bad_store stack line.target ≡ false) stack.devices id device (faults_by_none Store (λ line. line.at) (λ line. has_bad_store stack line.target) (all_lines stack.devices) p.stored) at;
      filled = part_of empty_in stack.devices id device (append-nil_both _ _ p.filled).0 at;
      placed = in_row device.lines (part_of (λ d. misplaced_in d.lines) stack.devices id device p.placed at);
    }

-- the list has an element with this id
pub record IsThere {X : Type 0} (xs : List X) (id : ℕ) : Type 0 where
  pub it : X
  pub at : slice_get xs id ≡ Some it

pub there : {X : Type 0} (xs : List X) (id : ℕ) → id < length xs → IsThere xs id
there [] id within = absurd (omega (arith, within))
there (x ∷ xs) zero within = record { it = x; at = refl }
there (x ∷ xs) (suc id) within = let rest = there xs id (omega (arith, within)) in record { it = rest.it; at = rest.at }

pub lines_there : (stack : Description) (id : ℕ) (device : DeviceSpec) → slice_get stack.devices id ≡ Some device → lines_at stack id ≡ device.lines
lines_there stack id device at = ap lines_or_none at

-- a device's only line is the one that a search finds
alone : (test : Line → Bool) (lines : List Line) (line : Line) → find test lines ≡ Some line → length lines ≡ 1 → lines ≡ line ∷ []
alone test (first ∷ []) line e one = ap (λ (l : Line). l ∷ []) (only line first (found_there test (first ∷ []) line e).0)
alone test lines line e one = absurd (omega (arith, one))

pub whole_line : (stack : Description) (id : ℕ) (lines : List Line) (line : Line) → lines_at stack id ≡ lines → AreInRow 0 lines → lines ≡ line ∷ [] → IsWhole stack id line
whole_line stack id lines line are row only =
    let start = (subst (AreInRow 0) only row).0 in
    let end : device_len stack id ≡ line.start + line.len = ap end_of (are ∙ only) in
    record { from = start; len = omega (arith, start, end) }

-- the line holds the sector, and its target is sound
pub record HoldsSoundly (stack : Description) (device : ℕ) (line : ResolvedLine) (sector : ℕ) : Type 0 where
  pub from : line.start ≤ sector
  pub before : sector < line.start + line.len
  pub small : line.start + line.len ≤ MOST_LENGTH
  pub target : IsTargetSound stack device line.start line.len line.target

-- a search finds a sound line that holds the sector
pub record IsFound (stack : Description) (id sector : ℕ) : Type 0 where
  pub line : ResolvedLine
  pub is : found_at stack id sector ≡ Some line
  pub soundly : HoldsSoundly stack id line sector

pub sector_found : (stack : Description) (id sector : ℕ) → IsSound stack → id < length stack.devices → sector < device_len stack id → IsFound stack id sector
sector_found stack id sector sound within inside =
    let d = there stack.devices id within in
    let lines = lines_there stack id d.it d.at in
    let s = device_sound stack id d.it sound d.at in
    let h = held 0 d.it.lines sector s.placed (omega arith) (rw lines at inside) in
    let a = found (λ line. is_large line ≡ false) (holds sector) d.it.lines h.line s.small h.is in
    let b = found (λ line. has_bad_stripes line line.target ≡ false) (holds sector) d.it.lines h.line s.striped h.is in
    let c = found (λ line. passes_end stack line ≡ false) (holds sector) d.it.lines h.line s.inside h.is in
    let f = found (λ line. is_bad_snapshot stack (length d.it.lines) line.len line.target ≡ false) (holds sector) d.it.lines h.line s.fitting h.is in
    let g = found (λ line. has_bad_store stack line.target ≡ false) (holds sector) d.it.lines h.line s.stored h.is in
    let parts = and_parts (nat_le h.line.start sector) (nat_lt sector (h.line.start + h.line.len)) a.0 in
    record {
      line = resolved_line stack h.line;
      is = cc;
      soundly = record {
        from = leb-true _ _ parts.0;
        before = ltb-true _ _ parts.1;
        small = line_within h.line a.1;
        target = target_sound stack id (length d.it.lines) h.line h.line.target sound (λ one. whole_line stack id d.it.lines h.line lines s.placed (alone (holds sector) d.it.lines h.line h.is one)) b.1 c.1 f.1 g.1;
      };
    }

-- The length of a device

end_some : (line : Line) (lines : List Line) → AllByRecursion (λ other. (other.len == 0) ≡ false) (line ∷ lines) → 0 < end_of (line ∷ lines)
end_some line [] filled = let some = positive line.len filled.0 in omega (arith, some)
end_some line (next ∷ lines) filled = end_some next lines filled.1

end_small : (lines : List Line) → AllByRecursion (λ line. is_large line ≡ false) lines → end_of lines ≤ 2 ^ 50
end_small [] small = omega arith
end_small (line ∷ []) small = line_within line small.0
end_small (line ∷ next ∷ lines) small = end_small (next ∷ lines) small.1

filled_lines : (device : DeviceSpec) (lines : List Line) → without_lines device lines ≡ [] → AllByRecursion (λ line. (line.len == 0) ≡ false) lines → 0 < end_of lines
filled_lines device [] e filled = absurd cc
filled_lines device (line ∷ lines) e filled = end_some line lines filled

pub lines_filled : (stack : Description) (id : ℕ) → IsSound stack → id < length stack.devices → AllByRecursion (λ line. (line.len == 0) ≡ false) (lines_at stack id)
lines_filled stack id sound within =
    let d = there stack.devices id within in
    let s = device_sound stack id d.it sound d.at in
    let parts = append-nil_both (without_lines d.it d.it.lines) _ s.filled in
    rw (lines_there stack id d.it d.at) (faults_by_none Empty (λ line. line.at) (λ line. line.len == 0) d.it.lines parts.1)

pub device_some : (stack : Description) (id : ℕ) → IsSound stack → id < length stack.devices → 0 < device_len stack id
device_some stack id sound within =
    let d = there stack.devices id within in
    let lines = lines_there stack id d.it d.at in
    rw lines (filled_lines d.it d.it.lines (append-nil_both (without_lines d.it d.it.lines) _ (device_sound stack id d.it sound d.at).filled).0 (rw lines at (lines_filled stack id sound within)))

pub device_small : (stack : Description) (id : ℕ) → IsSound stack → id < length stack.devices → device_len stack id ≤ 2 ^ 50
device_small stack id sound within =
    let d = there stack.devices id within in
    rw (lines_there stack id d.it d.at) (end_small d.it.lines (device_sound stack id d.it sound d.at).small)

-- The length of a disk

pub disk_some : (stack : Description) (id : ℕ) (disk : Disk) → IsSound stack → slice_get stack.disks id ≡ Some disk → 0 < disk.len
disk_some stack id disk sound at =
    let p = passes_all stack sound in
    positive disk.len (at_index (λ d. (d.len == 0) ≡ false) stack.disks id disk (faults_by_none Empty (λ d. d.at) (λ d. d.len == 0) stack.disks (append-nil_both _ _ p.filled).1) at)

pub disk_small : (stack : Description) (id : ℕ) (disk : Disk) → IsSound stack → slice_get stack.disks id ≡ Some disk → disk.len ≤ 2 ^ 50
disk_small stack id disk sound at =
    let p = passes_all stack sound in
    ltb-false _ _ (at_index (λ d. nat_lt (2 ^ 50) d.len ≡ false) stack.disks id disk (faults_by_none Limit (λ d. d.at) (λ d. nat_lt (2 ^ 50) d.len) stack.disks (append-nil_both _ _ p.small).1) at)
