-- What the check of snapshots says about their chunk sizes.
use Rattle.dm_stack.proofs.Prelude.{ℕ, false, not, nat_lt, List, [], arith, length, count_ones, is_power_of_two, All, AllByRecursion, flat_map, eqb-true, ltb-false, not-false, or_parts, All-from_recursion, ones_le_self, Snapshot, DeviceSpec, Line, Target, Description, lower_len, lower_of, HasGoodChunk, HaveGoodChunks, is_bad_chunk, is_bad_snapshot, snapshot, bad_snapshots_in, all_changed, append-nil_both}
use Rattle.dm_table.specs.declared.tables.table.Target.TheVariants as targets
use Rattle.dm_stack.proofs.checks.Passes.{faults_by_none}
use Rattle.std.specs.Prelude.{◌≡◌, ◌<◌, ◌≤◌, ◌∷◌, ◌==◌, ◌||◌}

pub chunk_within : (chunk : ℕ) → is_bad_chunk chunk ≡ false → (0 < chunk) × (chunk ≤ 1024)
chunk_within chunk good =
    let parts = or_parts (nat_lt 1024 chunk) (not (is_power_of_two chunk)) good in
    let one : count_ones chunk ≡ 1 = eqb-true _ _ (not-false _ parts.1) in
    (omega (arith, one, ones_le_self chunk), ltb-false _ _ parts.0)

good_chunk : (stack : Description) (lines len : ℕ) (target : Target) → is_bad_snapshot stack lines len target ≡ false → HasGoodChunk target
good_chunk stack lines len (targets.Snapshot origin store kind chunk) good =
    let a = or_parts (not (lines == 1)) (is_bad_chunk chunk || not (len == lower_len stack (lower_of stack origin))) good in
    (or_parts (is_bad_chunk chunk) (not (len == lower_len stack (lower_of stack origin))) a.1).0
good_chunk stack lines len _ good = tt

pub good_lines : (stack : Description) (count : ℕ) (lines : List Line) → AllByRecursion (λ line. is_bad_snapshot stack count line.len line.target ≡ false) lines → AllByRecursion (λ line. HasGoodChunk line.target) lines
good_lines stack count lines good = all_changed (λ line. is_bad_snapshot stack count line.len line.target ≡ false) (λ line. HasGoodChunk line.target) lines (λ line. good_chunk stack count line.len line.target) good

good_devices : (stack : Description) (devices : List DeviceSpec) → flat_map (λ device. bad_snapshots_in stack device.lines) devices ≡ [] → AllByRecursion (λ device. HaveGoodChunks device.lines) devices
good_devices stack [] none = tt
good_devices stack (device ∷ devices) none =
    let parts = append-nil_both (bad_snapshots_in stack device.lines) _ none in
    let good = faults_by_none Snapshot (λ line. line.at) (λ line. is_bad_snapshot stack (length device.lines) line.len line.target) device.lines parts.0 in
    (All-from_recursion (λ line. HasGoodChunk line.target) device.lines (good_lines stack (length device.lines) device.lines good), good_devices stack devices parts.1)

pub good_chunks : (stack : Description) → snapshot stack ≡ [] → All (λ device. HaveGoodChunks device.lines) stack.devices
good_chunks stack none = All-from_recursion (λ device. HaveGoodChunks device.lines) stack.devices (good_devices stack stack.devices none)
