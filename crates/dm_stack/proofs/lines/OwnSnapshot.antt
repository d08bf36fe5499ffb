-- The snapshot collected for a device is the one that the device's only line describes.
use Rattle.dm_stack.proofs.Prelude.{ℕ, Bool, true, false, cond, List, [], Some, ap, arith, refl, sym, ◌∙◌, length, slice_get, All, Contains, flat_map, list_any, range_with_len, and_from, eqb-true, not_from_false, true_from_ne_false, All-cons, All-nil, get_or_from_slice_get, slice_get_within, DeviceSpec, Line, Target, ResolvedOver, ResolvedSnapshot, Description, lines_at, is_snapshot, resolved_target, IsSnapshotOf, all_over, copied, device_over, has_crowd, is_whole, over_of}
use Rattle.dm_table.specs.declared.tables.table.Target.TheVariants as targets
use Rattle.dm_stack.specs.declared.lines.resolved_line.ResolvedTarget.TheVariants as found
use Rattle.dm_stack.proofs.SoundLines.{lines_there, there}
use Rattle.dm_stack.proofs.lines.Members.{any_there, flat_part, none_there, only, range_within}
use Rattle.dm_stack.proofs.lines.OverLemmas.{all_is, copied_is, target_one}
use Rattle.std.specs.Prelude.{◌≡◌, ◌∷◌, ◌==◌}

whole : (target : Target) → is_snapshot target ≡ true → is_whole target ≡ true
whole (targets.Snapshot origin store kind chunk) is = refl
whole _ is = absurd cc

said : (stack : Description) (target : Target) (snapshot : ResolvedSnapshot) → resolved_target stack target ≡ found.Snapshot snapshot → IsSnapshotOf stack snapshot target
said stack (targets.Snapshot origin store kind chunk) snapshot is = cc
said stack _ snapshot is = absurd cc

-- if no table is crowded, a line that must be the only one of its device is
alone : (devices : List DeviceSpec) (device : DeviceSpec) (line : Line) → list_any has_crowd devices ≡ false → Contains devices device → Contains device.lines line → is_whole line.target ≡ true → length device.lines ≡ 1
alone devices device line none there held is =
    let some = any_there (λ (l : Line). is_whole l.target) device.lines line held is in
    eqb-true _ _ (true_from_ne_false (length device.lines == 1) (λ many. absurd (cc (none, any_there has_crowd devices device there (and_from _ _ (not_from_false _ many) some)))))

only_line : (stack : Description) (snapshot : ResolvedSnapshot) (lines : List Line) (line : Line) → length lines ≡ 1 → Contains lines line → IsSnapshotOf stack snapshot line.target → All (λ l. IsSnapshotOf stack snapshot l.target) lines
only_line stack snapshot [] line one held is = absurd cc
only_line stack snapshot (first ∷ []) line one held is = rw (only line first held) (All-cons (λ (l : Line). IsSnapshotOf stack snapshot l.target) line [] is (All-nil _))
only_line stack snapshot (first ∷ next ∷ lines) line one held is = absurd (omega (arith, one))

by_line : (stack : Description) (d id : ℕ) (snapshot : ResolvedSnapshot) (lines : List Line) (device : DeviceSpec) → list_any has_crowd stack.devices ≡ false → Contains stack.devices device → device.lines ≡ lines → Contains (flat_map (λ line. over_of stack d line.target) lines) (record { device = id; snapshot = snapshot })
    → (id ≡ d) × All (λ line. IsSnapshotOf stack snapshot line.target) lines
by_line stack d id snapshot lines device none held are named =
    let one : ResolvedOver = record { device = id; snapshot = snapshot } in
    let by = flat_part (λ (line : Line). over_of stack d line.target) lines one named in
    let of = target_one stack d by.by.target one by.given in
    let single : length lines ≡ 1 = sym (ap length are) ∙ alone stack.devices device by.by none held (rw are by.there) (whole by.by.target of.over) in
    (of.here, only_line stack snapshot lines by.by single by.there (said stack by.by.target snapshot of.is))

own_by : (stack : Description) (id : ℕ) (snapshot : ResolvedSnapshot) (some : Bool) → some ≡ list_any has_crowd stack.devices → Contains (cond some [] (all_over stack)) (record { device = id; snapshot = snapshot }) → All (λ line. IsSnapshotOf stack snapshot line.target) (lines_at stack id)
own_by stack id snapshot true is named = absurd (none_there _ named)
own_by stack id snapshot false is named =
    let one : ResolvedOver = record { device = id; snapshot = snapshot } in
    let by = flat_part (device_over stack) (range_with_len 0 (length stack.devices)) one (rw (← all_is) at named) in
    let device = there stack.devices by.by (range_within (length stack.devices) by.by by.there) in
    let held : Contains stack.devices device.it = (by.by, slice_get_within stack.devices by.by device.it device.at, get_or_from_slice_get stack.devices by.by device.it device.it device.at) in
    let of = by_line stack by.by id snapshot (lines_at stack by.by) device.it (sym is) held (sym (lines_there stack by.by device.it device.at)) by.given in
    rw of.0 of.1

pub own_is : (stack : Description) (over : List ResolvedOver) (id : ℕ) (device : DeviceSpec) (lines : List Line) (snapshot : ResolvedSnapshot) → over ≡ copied stack → slice_get stack.devices id ≡ Some device → lines ≡ device.lines → Contains over (record { device = id; snapshot = snapshot }) → All (λ line. IsSnapshotOf stack snapshot line.target) lines
own_is stack over id device lines snapshot are at of named =
    let by = own_by stack id snapshot (list_any has_crowd stack.devices) refl (rw (copied_is stack (list_any has_crowd stack.devices) refl, ← are) named) in
    rw (lines_there stack id device at ∙ sym of) at by
