-- The snapshots of an origin: each one listed covers its device and has that origin, and every such snapshot is listed.
use Rattle.dm_stack.proofs.Prelude.{ℕ, Bool, true, false, cond, List, [], Some, refl, sym, ◌∙◌, length, ap, filter, find, option_map, Contains, flat_map, list_any, range_with_len, append-nil, DevRef, Line, Target, ResolvedLine, ResolvedOver, ResolvedSnapshot, Lower, found_at, resolved_line, resolved_target, holds, Description, device_len, is_same_lower, lines_at, lower_of, has_snapshot, is_snapshot, all_over, copied, device_over, has_crowd, origin_over, over_of, resolved_snapshot, snapshots_over, IsSound, mapped}
use Rattle.dm_table.specs.declared.tables.table.Target.TheVariants as targets
use Rattle.dm_stack.specs.declared.lines.resolved_line.ResolvedTarget.TheVariants as found
use Rattle.dm_stack.proofs.claims.MeetLemmas.{same_is, self_same}
use Rattle.dm_stack.proofs.lines.Members.{any_there, flat_part, flat_there, found_there, in_range, kept, kept_parts, none_there, only, only_there, range_within}
use Rattle.dm_stack.proofs.SnapshotRule.{any_found, lines_within, snapshot_line}
use Rattle.std.specs.Prelude.{◌≡◌, ◌<◌}

-- The lists of snapshots, as the code builds them

pub over_is : (stack : Description) (to : Lower) → filter (λ one. is_same_lower one.snapshot.origin to) (all_over stack) ≡ snapshots_over stack to
unfolding snapshots_over
over_is stack to = refl

pub all_is : (stack : Description) → flat_map (device_over stack) (range_with_len 0 (length stack.devices)) ≡ all_over stack
unfolding all_over
all_is stack = refl

origin_by : (stack : Description) (to : Lower) → filter (λ one. is_same_lower one.snapshot.origin to) (copied stack) ≡ origin_over stack to
unfolding origin_over
origin_by stack to = refl

pub copied_is : (stack : Description) (some : Bool) → some ≡ list_any has_crowd stack.devices → cond some [] (all_over stack) ≡ copied stack
unfolding copied
copied_is stack some is = rw is refl

pub none_copied : (stack : Description) (some : Bool) → all_over stack ≡ [] → some ≡ list_any has_crowd stack.devices → [] ≡ copied stack
none_copied stack true none is = copied_is stack true is
none_copied stack false none is = sym none ∙ copied_is stack false is

-- an origin's line with ids, with its list of snapshots
pub origin_is : (stack : Description) (origin : DevRef) (to : Lower) (all over : List ResolvedOver) → to ≡ lower_of stack origin → all ≡ copied stack → over ≡ filter (λ one. is_same_lower one.snapshot.origin to) all
    → found.Origin (record { to = to; over = over }) ≡ resolved_target stack (targets.Origin origin)
origin_is stack origin to all over at are is =
    let over_is : over ≡ origin_over stack to = cc (is, are, origin_by stack to) in
    rw (over_is, at)

-- From the list to the devices

-- the target of a line of this device is this snapshot
pub record IsTargetOf (stack : Description) (device : ℕ) (target : Target) (one : ResolvedOver) : Type 0 where
  pub here : one.device ≡ device
  pub over : is_snapshot target ≡ true
  pub is : resolved_target stack target ≡ found.Snapshot one.snapshot

pub target_one : (stack : Description) (device : ℕ) (target : Target) (one : ResolvedOver) → Contains (over_of stack device target) one → IsTargetOf stack device target one
target_one stack device (targets.Snapshot origin store kind chunk) one named =
    let same = only one (record { device = device; snapshot = resolved_snapshot stack origin store kind chunk }) named in
    record { here = cc; over = refl; is = cc (same) }
target_one stack device _ one named = absurd (none_there one named)

has_one : (stack : Description) (device : ℕ) (lines : List Line) (one : ResolvedOver) → Contains (flat_map (λ line. over_of stack device line.target) lines) one → has_snapshot lines ≡ true
has_one stack device lines one named =
    let by = flat_part (λ (line : Line). over_of stack device line.target) lines one named in
    any_there (λ (line : Line). is_snapshot line.target) lines by.by by.there (target_one stack device by.by.target one by.given).over

-- the device is this snapshot, which covers all of it
pub record IsSnapshotDevice (stack : Description) (one : ResolvedOver) : Type 0 where
  pub there : one.device < length stack.devices
  pub line : found_at stack one.device 0 ≡ Some (record { start = 0; len = device_len stack one.device; target = found.Snapshot one.snapshot })

over_device : (stack : Description) (device : ℕ) (one : ResolvedOver) → IsSound stack → device < length stack.devices → Contains (device_over stack device) one → IsSnapshotDevice stack one
over_device stack device one sound within named =
    let line = snapshot_line stack sound device within (has_one stack device (lines_at stack device) one named) in
    let alone : device_over stack device ≡ over_of stack device line.line.target =
    cc (append-nil (over_of stack device line.line.target)) in
    let of = target_one stack device line.line.target one (rw alone at named) in
    record {
      there = rw of.here within;
      line =
          rw of.here (cc);
    }

-- each snapshot listed for an origin covers its device and has that origin
pub over_sound : (stack : Description) (to : Lower) (one : ResolvedOver) → IsSound stack → Contains (snapshots_over stack to) one → IsSnapshotDevice stack one × (one.snapshot.origin ≡ to)
over_sound stack to one sound named =
    let passes = kept_parts (λ (o : ResolvedOver). is_same_lower o.snapshot.origin to) (all_over stack) one (rw (← over_is) at named) in
    let by = flat_part (device_over stack) (range_with_len 0 (length stack.devices)) one (rw all_is passes.0) in
    (over_device stack by.by one sound (range_within (length stack.devices) by.by by.there) by.given, same_is one.snapshot.origin to passes.1)

-- From the devices to the list

target_all : (stack : Description) (device : ℕ) (target : Target) (snapshot : ResolvedSnapshot) → resolved_target stack target ≡ found.Snapshot snapshot → Contains (over_of stack device target) (record { device = device; snapshot = snapshot })
target_all stack device (targets.Snapshot origin store kind chunk) snapshot is =
    let same : resolved_snapshot stack origin store kind chunk ≡ snapshot = cc in
    only_there (record { device = device; snapshot = snapshot }) _ (cc)
target_all stack device _ snapshot is = absurd cc

resolved_over : (stack : Description) (device : ℕ) (test : Line → Bool) (lines : List Line) (line : ResolvedLine) (snapshot : ResolvedSnapshot) → option_map (resolved_line stack) (find test lines) ≡ Some line → line.target ≡ found.Snapshot snapshot
    → Contains (flat_map (λ l. over_of stack device l.target) lines) (record { device = device; snapshot = snapshot })
resolved_over stack device test lines line snapshot at is =
    let first = mapped (resolved_line stack) (find test lines) line at in
    let same : resolved_target stack first.0.target ≡ line.target = ap (λ (l : ResolvedLine). l.target) first.2 in
    flat_there (λ (l : Line). over_of stack device l.target) lines first.0 _ (found_there test lines first.0 first.1).0 (target_all stack device first.0.target snapshot (same ∙ is))

-- every snapshot is in the list of its origin
pub over_all : (stack : Description) (device : ℕ) (line : ResolvedLine) (snapshot : ResolvedSnapshot) → found_at stack device 0 ≡ Some line → line.target ≡ found.Snapshot snapshot → Contains (snapshots_over stack snapshot.origin) (record { device = device; snapshot = snapshot })
over_all stack device line snapshot at is =
    let one : ResolvedOver = record { device = device; snapshot = snapshot } in
    let lines = lines_at stack device in
    let within = lines_within stack device (any_found stack (holds 0) lines line snapshot at is) in
    let all : Contains (all_over stack) one =
    rw all_is at (flat_there (device_over stack) (range_with_len 0 (length stack.devices)) device one (in_range (length stack.devices) device within) (resolved_over stack device (holds 0) lines line snapshot at is)) in
    rw (← over_is stack snapshot.origin) (kept (λ (o : ResolvedOver). is_same_lower o.snapshot.origin snapshot.origin) (all_over stack) one (self_same snapshot.origin) all)
