-- In a sound stack a device is one deeper than the deepest device or disk that it names.
use Rattle.dm_stack.proofs.Prelude.{ℕ, zero, suc, Bool, false, List, [], Some, arith, refl, ap, ◌∙◌, length, map, max, nat_lt, slice_get, option_map, flat_map, ltb-false, flat_map-append, get_or_from_slice_get, slice_get-map, LoadKind, Deep, DevRef, DeviceSpec, Line, Span, spans, Description, device_links, links, lower_of, ref_link, greatest, links_of, IsDeeperByOne, lower_depth, IsSound, depth_of, faults_by_id, line_links, cond_none}
use Rattle.dm_table.specs.declared.tables.table.DevRef.TheVariants as refs
use Rattle.dm_stack.proofs.checks.DepthLemmas.{depth_to-deeper}
use Rattle.dm_stack.proofs.checks.Passes.{passes_all}
use Rattle.dm_stack.proofs.SoundLines.{lines_there, there}
use Rattle.std.specs.Prelude.{◌≡◌, ◌+◌, ◌<◌, ◌≤◌, ◌∷◌, ◌++◌}

-- Depths within the limit

pub none_at : (kind : LoadKind) (bad : ℕ → Bool) (id i : ℕ) (devices : List DeviceSpec) → faults_by_id kind bad id devices ≡ [] → i < length devices → bad (id + i) ≡ false
none_at kind bad id i [] e within = absurd (omega arith)
none_at kind bad id zero (device ∷ devices) e within =
    let parts = cond_none _ (faults_by_id kind bad (suc id) devices) (bad id) e in
    let here : id + zero ≡ id = omega arith in rw here parts.0
none_at kind bad id (suc i) (device ∷ devices) e within =
    let parts = cond_none _ (faults_by_id kind bad (suc id) devices) (bad id) e in
    let next : id + suc i ≡ suc id + i = omega arith in rw next (none_at kind bad (suc id) i devices parts.1 (omega arith))

pub shallow_device : (stack : Description) (device : ℕ) → IsSound stack → device < length stack.devices → depth_of stack device ≤ 32
shallow_device stack device sound within =
    let here : 0 + device ≡ device = omega arith in
    ltb-false 32 (depth_of stack device) (rw here at (none_at Deep (λ id. nat_lt 32 (depth_of stack id)) 0 device stack.devices (passes_all stack sound).shallow within))

-- What a device names: as ids of devices, and as devices and disks

span_depth : (stack : Description) (to : DevRef) (ids : List ℕ) → greatest (map (depth_of stack) (ref_link stack to ++ ids)) ≡ max (lower_depth stack (lower_of stack to)) (greatest (map (depth_of stack) ids))
span_depth stack (refs.Device name) ids = refl
span_depth stack (refs.Disk name) ids = omega arith

spans_depth : (stack : Description) (named : List Span) → greatest (map (depth_of stack) (flat_map (λ span. ref_link stack span.to) named)) ≡ greatest (map (lower_depth stack) (map (λ span. lower_of stack span.to) named))
spans_depth stack [] = refl
spans_depth stack (span ∷ named) =
    span_depth stack span.to (flat_map (λ s. ref_link stack s.to) named) ∙ ap (max (lower_depth stack (lower_of stack span.to))) (spans_depth stack named)

lines_links : (stack : Description) (lines : List Line) → flat_map (λ span. ref_link stack span.to) (flat_map spans lines) ≡ flat_map (line_links stack) lines
lines_links stack [] = refl
lines_links stack (line ∷ lines) =
    rw (← lines_links stack lines) (flat_map-append (λ span. ref_link stack span.to) (spans line) (flat_map spans lines))

device_named : (stack : Description) (id : ℕ) (device : DeviceSpec) → slice_get stack.devices id ≡ Some device → links_of (links stack) id ≡ flat_map (line_links stack) device.lines
device_named stack id device at =
    get_or_from_slice_get (links stack) id (device_links stack device) [] (slice_get-map (device_links stack) stack.devices id ∙ ap (option_map (device_links stack)) at)

pub deeper_by_one : (stack : Description) → IsSound stack → IsDeeperByOne stack
deeper_by_one stack sound device within =
    let d = there stack.devices device within in
    let named : links_of (links stack) device ≡ flat_map (line_links stack) d.it.lines = device_named stack device d.it d.at in
    rw (lines_there stack device d.it d.at) (cc (depth_to-deeper (links stack) 32 device (shallow_device stack device sound within), lines_links stack d.it.lines, spans_depth stack (flat_map spans d.it.lines)))
