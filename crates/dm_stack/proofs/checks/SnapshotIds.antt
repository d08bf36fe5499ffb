-- The ids of the devices that are snapshots, device by device.
use Rattle.dm_stack.proofs.Prelude.{ℕ, Bool, cond, List, [], Some, arith, refl, sym, ap, ◌∙◌, get_or, length, filter, slice_get, range_with_len, filter-append, map-range_with_len_more, slice_get_read, map-id, DeviceSpec, lines_at, lines_or_none, has_snapshot}
use Rattle.std.specs.Prelude.{◌≡◌, ◌+◌, ◌<◌, ◌∷◌, ◌++◌}

pub range_more : (n : ℕ) → range_with_len 0 (n + 1) ≡ range_with_len 0 n ++ n ∷ []
range_more n =
    rw (← map-id (range_with_len 0 n)) (sym (map-id (range_with_len 0 (n + 1))) ∙ map-range_with_len_more (λ (x : ℕ). x) 0 n n (omega arith))

-- the device with this id has a snapshot line
abbrev pub is_over : List DeviceSpec → ℕ → Bool
is_over devices id = has_snapshot (lines_at (record { devices = devices; disks = [] }) id)

pub ids_next : (devices : List DeviceSpec) (id : ℕ) (device : DeviceSpec) → id < length devices → device ≡ get_or devices id device
    → filter (is_over devices) (range_with_len 0 (id + 1)) ≡ filter (is_over devices) (range_with_len 0 id) ++ cond (has_snapshot device.lines) (id ∷ []) []
ids_next devices id device within is =
    let at : slice_get devices id ≡ Some device = slice_get_read devices (length devices) id device refl within is in
    rw (range_more id, ← ap lines_or_none at) (filter-append (is_over devices) (range_with_len 0 id) (id ∷ []))
