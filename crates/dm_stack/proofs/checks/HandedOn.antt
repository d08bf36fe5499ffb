-- What later checks rely on: ends of lines within the limit, and faults other than out of memory.
use Rattle.dm_stack.proofs.Prelude.{ℕ, suc, Bool, true, false, cond, List, [], Option, Some, None, ◌∙◌, ap, drop, length, map, filter, nat_lt, All, AllByRecursion, flat_map, list_any, or_parts, ltb-false, All-from_recursion, Place, Line, DeviceSpec, LoadKind, Limit, Twice, Empty, Gap, Overlap, Unknown, Deep, Stripe, Range, Snapshot, Store, Memory, LoadFault, fault, faults_by, first_or, first_fault, spans, Description, end_of, Early, HaveSmallEnds, IsRefusedBy, Late, OnCycle, WithBefore, all_lines, checks_after, checks_before, crowded, deep, depth_of, empty, empty_in, faults_by_id, has_bad_store, has_bad_stripes, is_far, is_large, is_misplaced, is_unknown, misplaced, misplaced_in, misplaced_kind, range, snapshot, bad_snapshots_in, is_bad_snapshot, store, stripe, too_large, too_many, twice, unknown, with_before, without_lines, passes_end, all_append, all_changed, all_parts, append-nil_both}
use Rattle.dm_stack.proofs.checks.Passes.{faults_by_none}
use Rattle.std.specs.Prelude.{◌≡◌, ◌≢◌, ◌+◌, ◌^◌, ◌≤◌, ◌∷◌, ◌||◌}

-- Ends of lines within the limit

pub line_within : (line : Line) → is_large line ≡ false → line.start + line.len ≤ 2 ^ 50
line_within line large =
    let a = or_parts (nat_lt (2 ^ 50) line.start) (nat_lt (2 ^ 50) line.len || (nat_lt (2 ^ 50) (line.start + line.len) || list_any is_far (spans line))) large in
    let b = or_parts (nat_lt (2 ^ 50) line.len) (nat_lt (2 ^ 50) (line.start + line.len) || list_any is_far (spans line)) a.1 in
    let c = or_parts (nat_lt (2 ^ 50) (line.start + line.len)) (list_any is_far (spans line)) b.1 in
    ltb-false _ _ c.0

devices_within : (devices : List DeviceSpec) → AllByRecursion (λ line. is_large line ≡ false) (all_lines devices) → AllByRecursion (λ device. HaveSmallEnds device.lines) devices
devices_within [] small = tt
devices_within (device ∷ devices) small =
    let parts = all_parts (λ line. is_large line ≡ false) device.lines (all_lines devices) small in
    (All-from_recursion (λ line. line.start + line.len ≤ 2 ^ 50) device.lines (all_changed _ (λ line. line.start + line.len ≤ 2 ^ 50) device.lines line_within parts.0), devices_within devices parts.1)

pub ends_within : (stack : Description) → too_large stack ≡ [] → All (λ device. HaveSmallEnds device.lines) stack.devices
ends_within stack e =
    let none = append-nil_both _ _ e in
    All-from_recursion (λ device. HaveSmallEnds device.lines) stack.devices (devices_within stack.devices (faults_by_none Limit (λ line. line.at) is_large (all_lines stack.devices) none.0))

-- Faults other than out of memory

abbrev pub IsNotMemory : LoadFault → Type 0
IsNotMemory fault = fault.kind ≢ Memory

pub first_not_memory : (check : List LoadFault) (later : Option LoadFault) (at : LoadFault) → AllByRecursion IsNotMemory check → (later ≡ Some at → IsNotMemory at) → first_or check later ≡ Some at → IsNotMemory at
first_not_memory [] later at found more e = more e
first_not_memory (fault ∷ faults) later at found more e = let same : fault.kind ≡ at.kind = cc in λ memory. found.0 (same ∙ memory)

pub all_each : {X Y : Type 0} (P : Y → Type 0) (f : X → List Y) (xs : List X) → ((x : X) → AllByRecursion P (f x)) → AllByRecursion P (flat_map f xs)
all_each P f [] each = tt
all_each P f (x ∷ xs) each = all_append P (f x) (flat_map f xs) (each x) (all_each P f xs each)

pub each_in : {X Y : Type 0} (Q : X → Type 0) (P : Y → Type 0) (f : X → List Y) (xs : List X) → AllByRecursion Q xs → ((x : X) → Q x → AllByRecursion P (f x)) → AllByRecursion P (flat_map f xs)
each_in Q P f [] all each = tt
each_in Q P f (x ∷ xs) all each = all_append P (f x) (flat_map f xs) (each x all.0) (each_in Q P f xs all.1 each)

cond_not_memory : (at : LoadFault) (later : List LoadFault) (b : Bool) → IsNotMemory at → AllByRecursion IsNotMemory later → AllByRecursion IsNotMemory (cond b (at ∷ later) later)
cond_not_memory at later true here more = (here, more)
cond_not_memory at later false here more = more

pub by_not_memory : {X : Type 0} (kind : LoadKind) (place : X → Place) (bad : X → Bool) (xs : List X) → kind ≢ Memory → AllByRecursion IsNotMemory (faults_by kind place bad xs)
by_not_memory kind place bad [] other = tt
by_not_memory kind place bad (x ∷ xs) other = cond_not_memory (fault kind (place x)) (faults_by kind place bad xs) (bad x) other (by_not_memory kind place bad xs other)

without_not_memory : (device : DeviceSpec) (lines : List Line) → AllByRecursion IsNotMemory (without_lines device lines)
without_not_memory device [] = (λ e. cc, tt)
without_not_memory device (line ∷ lines) = tt

kind_not_memory : (at : Place) (b : Bool) → IsNotMemory (fault (cond b Gap Overlap) at)
kind_not_memory at true = λ e. cc
kind_not_memory at false = λ e. cc

each_not_memory : (lines : List (WithBefore Line)) → AllByRecursion IsNotMemory (map (λ line. fault (misplaced_kind line) line.it.at) lines)
each_not_memory [] = tt
each_not_memory (line ∷ lines) = (kind_not_memory line.it.at (nat_lt (end_of line.before) line.it.start), each_not_memory lines)

at_not_memory : (kind : LoadKind) (bad : ℕ → Bool) (id : ℕ) (devices : List DeviceSpec) → kind ≢ Memory → AllByRecursion IsNotMemory (faults_by_id kind bad id devices)
at_not_memory kind bad id [] other = tt
at_not_memory kind bad id (device ∷ devices) other = cond_not_memory (fault kind device.at) (faults_by_id kind bad (suc id) devices) (bad id) other (at_not_memory kind bad (suc id) devices other)

-- no fault of the checks before or after the one for cycles is out of memory
before_not_memory : (stack : Description) (at : LoadFault) → first_fault (checks_before stack) ≡ Some at → IsNotMemory at
before_not_memory stack at e =
    first_not_memory (too_many stack) _ at
    (all_append IsNotMemory _ _ (all_append IsNotMemory _ _ (by_not_memory Limit (λ device. device.at) (λ device. true) (drop 1024 stack.devices) (λ e. cc)) (by_not_memory Limit (λ disk. disk.at) (λ disk. true) (drop 1024 stack.disks) (λ e. cc)))
    (by_not_memory Limit (λ line. line.at) (λ line. true) (drop 65536 (all_lines stack.devices)) (λ e. cc)))
    (first_not_memory (too_large stack) _ at (all_append IsNotMemory _ _ (by_not_memory Limit _ _ (all_lines stack.devices) (λ e. cc)) (by_not_memory Limit _ _ stack.disks (λ e. cc)))
    (first_not_memory (twice stack) _ at (all_append IsNotMemory _ _ (by_not_memory Twice _ _ (with_before stack.devices) (λ e. cc)) (by_not_memory Twice _ _ (with_before stack.disks) (λ e. cc)))
    (first_not_memory (empty stack) _ at
    (all_append IsNotMemory _ _ (all_each IsNotMemory empty_in stack.devices (λ device. all_append IsNotMemory _ _ (without_not_memory device device.lines) (by_not_memory Empty _ _ device.lines (λ e. cc))))
    (by_not_memory Empty _ _ stack.disks (λ e. cc)))
    (first_not_memory (misplaced stack) _ at (all_each IsNotMemory (λ device. misplaced_in device.lines) stack.devices (λ device. each_not_memory (filter is_misplaced (with_before device.lines))))
    (first_not_memory (unknown stack) None at (by_not_memory Unknown (λ line. line.at) (is_unknown stack) (all_lines stack.devices) (λ e. cc)) (λ none. absurd cc)))))) e

after_not_memory : (stack : Description) (at : LoadFault) → first_fault (checks_after stack) ≡ Some at → IsNotMemory at
after_not_memory stack at e =
    first_not_memory (deep stack) _ at (at_not_memory Deep (λ id. nat_lt 32 (depth_of stack id)) 0 stack.devices (λ e. cc))
    (first_not_memory (stripe stack) _ at (by_not_memory Stripe (λ line. line.at) (λ line. has_bad_stripes line line.target) (all_lines stack.devices) (λ e. cc))
    (first_not_memory (range stack) _ at (by_not_memory Range (λ line. line.at) (passes_end stack) (all_lines stack.devices) (λ e. cc))
    (first_not_memory (snapshot stack) _ at
    (all_each IsNotMemory (λ device. bad_snapshots_in stack device.lines) stack.devices (λ device. by_not_memory Snapshot (λ line. line.at) (λ line. is_bad_snapshot stack (length device.lines) line.len line.target) device.lines (λ e. cc)))
    (first_not_memory (store stack) _ at (by_not_memory Store (λ line. line.at) (λ line. has_bad_store stack line.target) (all_lines stack.devices) (λ e. cc))
    (first_not_memory (crowded stack) None at (by_not_memory Limit (λ line. line.it.at) _ (with_before (all_lines stack.devices)) (λ e. cc)) (λ none. absurd cc)))))) e

pub refused_not_memory : (stack : Description) (at : LoadFault) → IsRefusedBy stack at → IsNotMemory at
refused_not_memory stack at (Early before) = before_not_memory stack at before
refused_not_memory stack at (OnCycle before ring) = λ memory. let kind = ap (λ (f : LoadFault). f.kind) ring.is in absurd cc
refused_not_memory stack at (Late before acyclic after) = after_not_memory stack at after
